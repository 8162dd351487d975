-- The spelling of a cell's tree is there, and each of its links is spelled.
use Rattle.std.specs.List.{AllByRecursion}
use Rattle.std.specs.Prelude.{Contains, Some, slice_get, ◌⊎◌}
use Rattle.std.proofs.Common.{List, [], add-zero, ap, arith, inl, inr, length, map, refl, subst, suc, sym, ℕ, ◌++◌, ◌+◌, ◌<◌, ◌∙◌, ◌∷◌, ◌≡◌}
use Rattle.std.proofs.lemmas.List.Elements.{Contains-append_left, Contains-append_right}
use Rattle.dom_base.proofs.Lists.{AllByRecursion-append, Contains-first, Contains-slice_get, slice_get-behind, slice_get-left}
use Rattle.dom_base.specs.declared.kind.Kind.TheVariants.{N as nch}
use Rattle.deck.specs.NamedDevices.{NamedDevice, device_of}
use Rattle.deck.specs.Paths.{Ends}
use Rattle.deck.specs.declared.device.Device.{Device}
use Rattle.sp_network.specs.Tree.{Leaf, Parallel, Series, Tree, inner_count}
use Rattle.domino_cell.specs.Spelling.{spell}
use Rattle.circuit_law.specs.Exchanged.{exchange}
use Rattle.sp_reduction.specs.Networks.{Between, Has, Joins, Link, mids}
use Rattle.deck_audit.specs.Numbered.{Spells}
use Rattle.deck_audit.specs.Reading.{IsOneOf}
use Rattle.deck_audit.specs.Words.{StandsAt, link_at}
use Rattle.std.proofs.lemmas.List.{length-append, map-append}
use Rattle.std.proofs.lemmas.Option.{same_Some}

-- a device with this kind, gate and ends is the card, or the card exchanged
pub card_of : (d : Device) (e : Device) → d.kind ≡ e.kind → d.gate ≡ e.gate → Ends d e.drain e.source → (d ≡ e) ⊎ (d ≡ exchange e)
card_of d e k g (inl z) = inl (λ i. record { kind = k i; drain = z.0 i; gate = g i; source = z.1 i })
card_of d e k g (inr z) = inr (λ i. record { kind = k i; drain = z.1 i; gate = g i; source = z.0 i })

pub one_device : (ds : List Device) (p : ℕ) (d e : Device) → StandsAt ds p d → StandsAt ds p e → d ≡ e
one_device ds p d e a b = same_Some _ _ (sym a ∙ b)

-- what stands there as it is or exchanged is there
pub there_of : (ds : List Device) (p : ℕ) (d e : Device) → StandsAt ds p d → (d ≡ e) ⊎ (d ≡ exchange e) → IsOneOf ds e
there_of ds p d e a (inl z) = inl (rw (← z) (Contains-slice_get ds p d a))
there_of ds p d e a (inr z) = inr (rw (← z) (Contains-slice_get ds p d a))

pub among : (cards : List Device) (d e : Device) → Contains cards e → (d ≡ e) ⊎ (d ≡ exchange e) → IsOneOf cards d
among cards d e m (inl z) = inl (rw z m)
among cards d e m (inr z) = inr (rw z m)

pub inner_same : (ds : List Device) (t : Tree Link) (g : Tree ℕ) (a b : ℕ) (h : Between t a b) → Spells ds t g → length (mids t a b h) ≡ inner_count g
inner_same ds (Leaf e) (Leaf n) a b h s = refl
inner_same ds (Series l r) (Series m n) a b (x, p, q, u, k) s =
    omega (arith, length-append (mids l a x p) (mids r x b q), inner_same ds l m a x p s.0, inner_same ds r n x b q s.1)
inner_same ds (Parallel l r) (Parallel m n) a b (p, q, u, k) s =
    omega (arith, length-append (mids l a b p) (mids r a b q), inner_same ds l m a b p s.0, inner_same ds r n a b q s.1)
inner_same ds (Leaf e) (Series m n) a b h s = absurd s
inner_same ds (Leaf e) (Parallel m n) a b h s = absurd s
inner_same ds (Series l r) (Leaf n) a b h s = absurd s
inner_same ds (Series l r) (Parallel m n) a b h s = absurd s
inner_same ds (Parallel l r) (Leaf n) a b h s = absurd s
inner_same ds (Parallel l r) (Series m n) a b h s = absurd s

-- each link of the tree is an `nch` at its place
abbrev pub FromDevices : List Device → Tree Link → Type 0
FromDevices ds t = (e : Link) → Has t e → (d : Device) × StandsAt ds e.number d × (d.kind ≡ nch) × (e ≡ link_at e.number d)

abbrev cards_of : (ℕ → ℕ) → Tree ℕ → ℕ → ℕ → ℕ → List Device
cards_of inner g a b k = map device_of (spell nch inner g a b k)

-- the inner nets are the tree's mids
abbrev pub Inners : List ℕ → (ℕ → ℕ) → ℕ → ℕ → Type 0
Inners ms inner k n = (j : ℕ) → j < n → slice_get ms j ≡ Some (inner (k + j))

leaf_is : (ds : List Device) (e : Link) (n a b : ℕ) → Joins e a b → (d : Device) → StandsAt ds e.number d → d.gate ≡ n
    → (d' : Device) → StandsAt ds e.number d' → d'.kind ≡ nch → e ≡ link_at e.number d' → (d ≡ record { kind = nch; drain = a; gate = n; source = b }) ⊎ (d ≡ exchange (record { kind = nch; drain = a; gate = n; source = b }))
leaf_is ds e n a b j d at g d' at' k z =
    let same : d ≡ d' = one_device ds e.number d d' at at' in
    card_of d (record { kind = nch; drain = a; gate = n; source = b }) (rw same k) g
    (elim j [
      | inl y ↦ inl (ap (λ (x : Device). x.drain) same ∙ sym (ap (λ (x : Link). x.from) z) ∙ y.0, ap (λ (x : Device). x.source) same ∙ sym (ap (λ (x : Link). x.to) z) ∙ y.1)
      | inr y ↦ inr (ap (λ (x : Device). x.source) same ∙ sym (ap (λ (x : Link). x.to) z) ∙ y.0, ap (λ (x : Device). x.drain) same ∙ sym (ap (λ (x : Link). x.from) z) ∙ y.1)
    ])

first_inner : (x : ℕ) (ms : List ℕ) (inner : ℕ → ℕ) (k n : ℕ) → Inners (x ∷ ms) inner k (1 + n) → x ≡ inner k
first_inner x ms inner k n h = rw add-zero at (same_Some _ _ (h 0 (omega arith)))

left_inners : (x : ℕ) (ls rs : List ℕ) (inner : ℕ → ℕ) (k m n : ℕ) → length ls ≡ m → Inners (x ∷ (ls ++ rs)) inner k (1 + (m + n)) → Inners ls inner (k + 1) m
left_inners x ls rs inner k m n c h j lt =
    sym (slice_get-left ls rs j (omega (arith, c, lt))) ∙ h (suc j) (omega (arith, lt)) ∙ ap (λ i. Some (inner i)) (shift k j)
  where
    shift : (k j : ℕ) → k + suc j ≡ k + 1 + j
    shift k j = omega arith

right_inners : (x : ℕ) (ls rs : List ℕ) (inner : ℕ → ℕ) (k m n : ℕ) → length ls ≡ m → Inners (x ∷ (ls ++ rs)) inner k (1 + (m + n)) → Inners rs inner (k + 1 + m) n
right_inners x ls rs inner k m n c h j lt =
    sym (slice_get-behind ls rs j) ∙ h (suc (length ls + j)) (omega (arith, c, lt)) ∙ ap (λ i. Some (inner i)) (shift k (length ls) m j c)
  where
    shift : (k l m j : ℕ) → l ≡ m → k + suc (l + j) ≡ k + 1 + m + j
    shift k l m j c = omega arith

-- the inner nets of the left part of two, and of the right one
pub inners_front : (ls rs : List ℕ) (inner : ℕ → ℕ) (k m n : ℕ) → length ls ≡ m → Inners (ls ++ rs) inner k (m + n) → Inners ls inner k m
inners_front ls rs inner k m n c h j lt = sym (slice_get-left ls rs j (omega (arith, c, lt))) ∙ h j (omega (arith, lt))

pub inners_back : (ls rs : List ℕ) (inner : ℕ → ℕ) (k m n : ℕ) → length ls ≡ m → Inners (ls ++ rs) inner k (m + n) → Inners rs inner (k + m) n
inners_back ls rs inner k m n c h j lt =
    sym (slice_get-behind ls rs j) ∙ h (length ls + j) (omega (arith, c, lt)) ∙ ap (λ i. Some (inner i)) (shift k (length ls) m j c)
  where
    shift : (k l m j : ℕ) → l ≡ m → k + (l + j) ≡ k + m + j
    shift k l m j c = omega arith

module _ (ds : List Device) (inner : ℕ → ℕ) where
  -- the cards of the spelling are there
  pub spelling_there : (t : Tree Link) (g : Tree ℕ) (a b k : ℕ) (h : Between t a b) → Spells ds t g → FromDevices ds t → Inners (mids t a b h) inner k (inner_count g)
      → AllByRecursion (IsOneOf ds) (cards_of inner g a b k)
  spelling_there (Leaf e) (Leaf n) a b k h s from i =
      let f = from e refl in
      (there_of ds e.number s.0 _ s.1 (leaf_is ds e n a b h.0 s.0 s.1 s.2 f.0 f.1 f.2 f.3), tt)
  spelling_there (Series l r) (Series m n) a b k (x, p, q, u, o) s from i =
      let c = inner_same ds l m a x p s.0 in
      let first = spelling_there l m a x (k + 1) p s.0 (λ e z. from e (inl z)) (left_inners x (mids l a x p) (mids r x b q) inner k (inner_count m) (inner_count n) c i) in
      let second = spelling_there r n x b (k + 1 + inner_count m) q s.1 (λ e z. from e (inr z)) (right_inners x (mids l a x p) (mids r x b q) inner k (inner_count m) (inner_count n) c i) in
      subst (λ y. AllByRecursion (IsOneOf ds) (map device_of (spell nch inner m a y (k + 1) ++ spell nch inner n y b (k + 1 + inner_count m))))
      (first_inner x (mids l a x p ++ mids r x b q) inner k (inner_count m + inner_count n) i)
      (rw (map-append device_of (spell nch inner m a x (k + 1)) (spell nch inner n x b (k + 1 + inner_count m)))
      (AllByRecursion-append (IsOneOf ds) (cards_of inner m a x (k + 1)) (cards_of inner n x b (k + 1 + inner_count m)) first second))
  spelling_there (Parallel l r) (Parallel m n) a b k (p, q, u, o) s from i =
      let c = inner_same ds l m a b p s.0 in
      let first = spelling_there l m a b k p s.0 (λ e z. from e (inl z)) (inners_front (mids l a b p) (mids r a b q) inner k (inner_count m) (inner_count n) c i) in
      let second = spelling_there r n a b (k + inner_count m) q s.1 (λ e z. from e (inr z)) (inners_back (mids l a b p) (mids r a b q) inner k (inner_count m) (inner_count n) c i) in
      rw (map-append device_of (spell nch inner m a b k) (spell nch inner n a b (k + inner_count m)))
      (AllByRecursion-append (IsOneOf ds) (cards_of inner m a b k) (cards_of inner n a b (k + inner_count m)) first second)
  spelling_there (Leaf e) (Series m n) a b k h s from i = absurd s
  spelling_there (Leaf e) (Parallel m n) a b k h s from i = absurd s
  spelling_there (Series l r) (Leaf n) a b k h s from i = absurd s
  spelling_there (Series l r) (Parallel m n) a b k h s from i = absurd s
  spelling_there (Parallel l r) (Leaf n) a b k h s from i = absurd s
  spelling_there (Parallel l r) (Series m n) a b k h s from i = absurd s

  one_of_left : (xs ys : List (NamedDevice ℕ)) (d : Device) → IsOneOf (map device_of xs) d → IsOneOf (map device_of (xs ++ ys)) d
  one_of_left xs ys d z = rw (map-append device_of xs ys) (elim z [ inl y ↦ inl (Contains-append_left (map device_of xs) (map device_of ys) d y) | inr y ↦ inr (Contains-append_left (map device_of xs) (map device_of ys) (exchange d) y) ])

  one_of_right : (xs ys : List (NamedDevice ℕ)) (d : Device) → IsOneOf (map device_of ys) d → IsOneOf (map device_of (xs ++ ys)) d
  one_of_right xs ys d z = rw (map-append device_of xs ys) (elim z [ inl y ↦ inl (Contains-append_right (map device_of xs) (map device_of ys) d y) | inr y ↦ inr (Contains-append_right (map device_of xs) (map device_of ys) (exchange d) y) ])

  -- the device of each link is among them
  pub link_spelled : (t : Tree Link) (g : Tree ℕ) (a b k : ℕ) (h : Between t a b) → Spells ds t g → FromDevices ds t → Inners (mids t a b h) inner k (inner_count g)
      → (e : Link) → Has t e → (d : Device) → StandsAt ds e.number d → IsOneOf (cards_of inner g a b k) d
  link_spelled (Leaf e) (Leaf n) a b k h s from i f c d at =
      let z = from e refl in
      let same : d ≡ s.0 = one_device ds e.number d s.0 (rw c at at) s.1 in
      rw same (among (cards_of inner (Leaf n) a b k) s.0 _ (Contains-first _ []) (leaf_is ds e n a b h.0 s.0 s.1 s.2 z.0 z.1 z.2 z.3))
  link_spelled (Series l r) (Series m n) a b k (x, p, q, u, o) s from i f c d at =
      let w = inner_same ds l m a x p s.0 in
      subst (λ y. IsOneOf (map device_of (spell nch inner m a y (k + 1) ++ spell nch inner n y b (k + 1 + inner_count m))) d)
      (first_inner x (mids l a x p ++ mids r x b q) inner k (inner_count m + inner_count n) i)
      (elim c [
        | inl z ↦ one_of_left (spell nch inner m a x (k + 1)) (spell nch inner n x b (k + 1 + inner_count m)) d
            (link_spelled l m a x (k + 1) p s.0 (λ e z. from e (inl z)) (left_inners x (mids l a x p) (mids r x b q) inner k (inner_count m) (inner_count n) w i) f z d at)
        | inr z ↦ one_of_right (spell nch inner m a x (k + 1)) (spell nch inner n x b (k + 1 + inner_count m)) d
            (link_spelled r n x b (k + 1 + inner_count m) q s.1 (λ e z. from e (inr z)) (right_inners x (mids l a x p) (mids r x b q) inner k (inner_count m) (inner_count n) w i) f z d at)
      ])
  link_spelled (Parallel l r) (Parallel m n) a b k (p, q, u, o) s from i f c d at =
      let w = inner_same ds l m a b p s.0 in
      elim c [
        | inl z ↦ one_of_left (spell nch inner m a b k) (spell nch inner n a b (k + inner_count m)) d
            (link_spelled l m a b k p s.0 (λ e z. from e (inl z)) (inners_front (mids l a b p) (mids r a b q) inner k (inner_count m) (inner_count n) w i) f z d at)
        | inr z ↦ one_of_right (spell nch inner m a b k) (spell nch inner n a b (k + inner_count m)) d
            (link_spelled r n a b (k + inner_count m) q s.1 (λ e z. from e (inr z)) (inners_back (mids l a b p) (mids r a b q) inner k (inner_count m) (inner_count n) w i) f z d at)
      ]
  link_spelled (Leaf e) (Series m n) a b k h s from i f c d at = absurd s
  link_spelled (Leaf e) (Parallel m n) a b k h s from i f c d at = absurd s
  link_spelled (Series l r) (Leaf n) a b k h s from i f c d at = absurd s
  link_spelled (Series l r) (Parallel m n) a b k h s from i f c d at = absurd s
  link_spelled (Parallel l r) (Leaf n) a b k h s from i f c d at = absurd s
  link_spelled (Parallel l r) (Series m n) a b k h s from i f c d at = absurd s
