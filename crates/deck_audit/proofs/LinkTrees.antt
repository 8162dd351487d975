-- The devices of a spelled tree, in order, as links: a tree of them between its ends.
use Rattle.std.specs.Prelude.{Some, slice_get, ◌≢◌, ◌⊎◌}
use Rattle.std.proofs.Common.{List, [], ap, arith, inl, inr, length, refl, subst, suc, sym, zero, ℕ, ◌++◌, ◌+◌, ◌-◌, ◌<◌, ◌∙◌, ◌∷◌, ◌≡◌, ◌≤◌}
use Rattle.dom_base.proofs.Decided.{lt_or_ge}
use Rattle.dom_base.proofs.Lists.{slice_get-append, slice_get-behind}
use Rattle.dom_base.specs.declared.kind.Kind.TheVariants.{N as nch}
use Rattle.deck.specs.NamedDevices.{NamedDevice, device_of, map_device}
use Rattle.deck.specs.Paths.{Ends}
use Rattle.deck.specs.declared.device.Device.{Device}
use Rattle.deck.specs.declared.role.Roles.{Roles}
use Rattle.sp_network.specs.Tree.{Leaf, Parallel, Series, Tree, inner_count, leaves, map_tree}
use Rattle.domino_cell.specs.Spelling.{spell}
use Rattle.circuit_law.specs.Exchanged.{exchange}
use Rattle.sp_reduction.specs.Networks.{Between, EndsAt, Has, Link, Touches, mids}
use Rattle.deck_audit.specs.Words.{IsFree, Reached, StandsAt, link_at, step}
use Rattle.deck_audit.specs.Numbered.{Spells}
use Rattle.deck_audit.proofs.RuleFacts.{twin_ends, twin_gate}
use Rattle.std.proofs.lemmas.List.{length-append}

pub spell_length : {Net : Type 0} (inner : ℕ → Net) (t : Tree Net) (top bottom : Net) (k : ℕ) → length (spell nch inner t top bottom k) ≡ leaves t
spell_length inner (Leaf g) top bottom k = refl
spell_length inner (Series l r) top bottom k =
    longer (spell nch inner l top (inner k) (k + 1)) (spell nch inner r (inner k) bottom (k + 1 + inner_count l)) (spell_length inner l top (inner k) (k + 1)) (spell_length inner r (inner k) bottom (k + 1 + inner_count l))
  where
    longer : {X : Type 0} (xs ys : List X) {a b : ℕ} → length xs ≡ a → length ys ≡ b → length (xs ++ ys) ≡ a + b
    longer [] ys e f = omega (arith, e, f)
    longer (x ∷ xs) ys e f = omega (arith, longer xs ys refl f, e)
spell_length inner (Parallel l r) top bottom k =
    longer (spell nch inner l top bottom k) (spell nch inner r top bottom (k + inner_count l)) (spell_length inner l top bottom k) (spell_length inner r top bottom (k + inner_count l))
  where
    longer : {X : Type 0} (xs ys : List X) {a b : ℕ} → length xs ≡ a → length ys ≡ b → length (xs ++ ys) ≡ a + b
    longer [] ys e f = omega (arith, e, f)
    longer (x ∷ xs) ys e f = omega (arith, longer xs ys refl f, e)

-- the links of the leaves in order, from leaf b on, where `pl` gives the place of a leaf's device and `dv` the device
unfoldable pub link_tree : {Net : Type 0} → (ℕ → ℕ) → (ℕ → Device) → Tree Net → ℕ → Tree Link
link_tree pl dv (Leaf g) b = Leaf (link_at (pl b) (dv b))
link_tree pl dv (Series l r) b = Series (link_tree pl dv l b) (link_tree pl dv r (b + leaves l))
link_tree pl dv (Parallel l r) b = Parallel (link_tree pl dv l b) (link_tree pl dv r (b + leaves l))

pub links_of_tree : {Net : Type 0} (pl : ℕ → ℕ) (dv : ℕ → Device) (t : Tree Net) (b : ℕ) (e : Link) → Has (link_tree pl dv t b) e → (j : ℕ) × (b ≤ j) × (j < b + leaves t) × (e ≡ link_at (pl j) (dv j))
unfolding link_tree
links_of_tree pl dv (Leaf g) b e c = (b, omega arith, omega arith, c)
links_of_tree pl dv (Series l r) b e (inl c) = let x = links_of_tree pl dv l b e c in (x.0, x.1, omega (arith, x.2), x.3)
links_of_tree pl dv (Series l r) b e (inr c) = let x = links_of_tree pl dv r (b + leaves l) e c in (x.0, omega (arith, x.1), omega (arith, x.2), x.3)
links_of_tree pl dv (Parallel l r) b e (inl c) = let x = links_of_tree pl dv l b e c in (x.0, x.1, omega (arith, x.2), x.3)
links_of_tree pl dv (Parallel l r) b e (inr c) = let x = links_of_tree pl dv r (b + leaves l) e c in (x.0, omega (arith, x.1), omega (arith, x.2), x.3)

pub link_is_there : {Net : Type 0} (pl : ℕ → ℕ) (dv : ℕ → Device) (t : Tree Net) (b j : ℕ) → b ≤ j → j < b + leaves t → Has (link_tree pl dv t b) (link_at (pl j) (dv j))
unfolding link_tree
link_is_there pl dv (Leaf g) b j lo hi = let e : b ≡ j = omega (arith, lo, hi) in subst (λ j. link_at (pl j) (dv j) ≡ link_at (pl b) (dv b)) e refl
link_is_there pl dv (Series l r) b j lo hi = elim (lt_or_ge j (b + leaves l)) [
  | inl x ↦ inl (link_is_there pl dv l b j lo x)
  | inr x ↦ inr (link_is_there pl dv r (b + leaves l) j x (omega (arith, hi)))
]
link_is_there pl dv (Parallel l r) b j lo hi = elim (lt_or_ge j (b + leaves l)) [
  | inl x ↦ inl (link_is_there pl dv l b j lo x)
  | inr x ↦ inr (link_is_there pl dv r (b + leaves l) j x (omega (arith, hi)))
]

module _ {Net : Type 0} (net : Net → ℕ) (inner : ℕ → Net) (pl : ℕ → ℕ) (dv : ℕ → Device) (most size : ℕ)
    (pl_apart : (i j : ℕ) → i < size → j < size → pl i ≡ pl j → i ≡ j) (inner_apart : (i j : ℕ) → i < most → j < most → net (inner i) ≡ net (inner j) → i ≡ j) where
  -- the devices are those of the cards of a tree
  abbrev pub AreCards : Tree Net → Net → Net → ℕ → ℕ → Type 0
  AreCards t top bottom k b = (j : ℕ) (x : NamedDevice Net) → slice_get (spell nch inner t top bottom k) j ≡ Some x → (dv (b + j) ≡ device_of (map_device net x)) ⊎ (dv (b + j) ≡ exchange (device_of (map_device net x)))

  left_cards : (xs ys : List (NamedDevice Net)) (b : ℕ) → ((j : ℕ) (x : NamedDevice Net) → slice_get (xs ++ ys) j ≡ Some x → (dv (b + j) ≡ device_of (map_device net x)) ⊎ (dv (b + j) ≡ exchange (device_of (map_device net x))))
      → (j : ℕ) (x : NamedDevice Net) → slice_get xs j ≡ Some x → (dv (b + j) ≡ device_of (map_device net x)) ⊎ (dv (b + j) ≡ exchange (device_of (map_device net x)))
  left_cards xs ys b h j x e = h j x (slice_get-append xs ys j x e)

  right_cards : (xs ys : List (NamedDevice Net)) (b n : ℕ) → length xs ≡ n → ((j : ℕ) (x : NamedDevice Net) → slice_get (xs ++ ys) j ≡ Some x → (dv (b + j) ≡ device_of (map_device net x)) ⊎ (dv (b + j) ≡ exchange (device_of (map_device net x))))
      → (j : ℕ) (x : NamedDevice Net) → slice_get ys j ≡ Some x → (dv (b + n + j) ≡ device_of (map_device net x)) ⊎ (dv (b + n + j) ≡ exchange (device_of (map_device net x)))
  right_cards xs ys b n c h j x e =
      subst (λ m. (dv m ≡ device_of (map_device net x)) ⊎ (dv m ≡ exchange (device_of (map_device net x)))) (shift b n j (length xs) c) (h (length xs + j) x (slice_get-behind xs ys j ∙ e))
    where
      shift : (b n j l : ℕ) → l ≡ n → b + (l + j) ≡ b + n + j
      shift b n j l c = omega arith

  -- the nets that a tree touches
  abbrev pub Reach : Tree Net → Net → Net → ℕ → ℕ → Type 0
  Reach t top bottom k x = (x ≡ net top) ⊎ ((x ≡ net bottom) ⊎ ((j : ℕ) × (k ≤ j) × (j < k + inner_count t) × (x ≡ net (inner j))))

  ends_in : (d : Device) (x : NamedDevice Net) → (d ≡ device_of (map_device net x)) ⊎ (d ≡ exchange (device_of (map_device net x))) → (n : ℕ) → (d.drain ≡ n) ⊎ (d.source ≡ n) → (n ≡ net x.drain) ⊎ (n ≡ net x.source)
  ends_in d x t n z = by (twin_ends d (device_of (map_device net x)) t) z
    where
      by : Ends d (net x.drain) (net x.source) → (d.drain ≡ n) ⊎ (d.source ≡ n) → (n ≡ net x.drain) ⊎ (n ≡ net x.source)
      by (inl a) (inl b) = inl (sym b ∙ a.0)
      by (inl a) (inr b) = inr (sym b ∙ a.1)
      by (inr a) (inl b) = inr (sym b ∙ a.1)
      by (inr a) (inr b) = inl (sym b ∙ a.0)

  touched : (t : Tree Net) (top bottom : Net) (k b : ℕ) → AreCards t top bottom k b → (x : ℕ) → Touches (link_tree pl dv t b) x → Reach t top bottom k x
  unfolding link_tree
  touched (Leaf g) top bottom k b h x (e, c, z) = by (h 0 (record { kind = nch; drain = top; gate = g; source = bottom }) refl) (rw c at z)
    where
      none : (b : ℕ) → b + 0 ≡ b
      none b = omega arith

      by : (dv (b + 0) ≡ record { kind = nch; drain = net top; gate = net g; source = net bottom }) ⊎ (dv (b + 0) ≡ exchange (record { kind = nch; drain = net top; gate = net g; source = net bottom }))
          → EndsAt (link_at (pl b) (dv b)) x → Reach (Leaf g) top bottom k x
      by t w = elim (ends_in (dv b) (record { kind = nch; drain = top; gate = g; source = bottom }) (subst (λ m. (dv m ≡ record { kind = nch; drain = net top; gate = net g; source = net bottom }) ⊎ (dv m ≡ exchange (record { kind = nch; drain = net top; gate = net g; source = net bottom }))) (none b) t) x w) [ inl y ↦ inl y | inr y ↦ inr (inl y) ]
  touched (Series l r) top bottom k b h x (e, inl c, z) =
      elim (touched l top (inner k) (k + 1) b (left_cards (spell nch inner l top (inner k) (k + 1)) (spell nch inner r (inner k) bottom (k + 1 + inner_count l)) b h) x (e, c, z)) [
        | inl y ↦ inl y
        | inr y ↦ elim y [ inl w ↦ inr (inr (k, omega arith, omega arith, w)) | inr w ↦ inr (inr (w.0, omega (arith, w.1), omega (arith, w.2), w.3)) ]
      ]
  touched (Series l r) top bottom k b h x (e, inr c, z) =
      elim (touched r (inner k) bottom (k + 1 + inner_count l) (b + leaves l) (right_cards (spell nch inner l top (inner k) (k + 1)) (spell nch inner r (inner k) bottom (k + 1 + inner_count l)) b (leaves l) (spell_length inner l top (inner k) (k + 1)) h) x (e, c, z)) [
        | inl y ↦ inr (inr (k, omega arith, omega arith, y))
        | inr y ↦ elim y [ inl w ↦ inr (inl w) | inr w ↦ inr (inr (w.0, omega (arith, w.1), omega (arith, w.2), w.3)) ]
      ]
  touched (Parallel l r) top bottom k b h x (e, inl c, z) =
      elim (touched l top bottom k b (left_cards (spell nch inner l top bottom k) (spell nch inner r top bottom (k + inner_count l)) b h) x (e, c, z)) [
        | inl y ↦ inl y
        | inr y ↦ elim y [ inl w ↦ inr (inl w) | inr w ↦ inr (inr (w.0, omega (arith, w.1), omega (arith, w.2), w.3)) ]
      ]
  touched (Parallel l r) top bottom k b h x (e, inr c, z) =
      elim (touched r top bottom (k + inner_count l) (b + leaves l) (right_cards (spell nch inner l top bottom k) (spell nch inner r top bottom (k + inner_count l)) b (leaves l) (spell_length inner l top bottom k) h) x (e, c, z)) [
        | inl y ↦ inl y
        | inr y ↦ elim y [ inl w ↦ inr (inl w) | inr w ↦ inr (inr (w.0, omega (arith, w.1), omega (arith, w.2), w.3)) ]
      ]

  -- no inner net of the tree is this one
  abbrev pub Away : ℕ → ℕ → ℕ → Type 0
  Away k n x = (j : ℕ) → k ≤ j → j < k + n → net (inner j) ≢ x

  apart_links : (l r : Tree Net) (b : ℕ) → b + (leaves l + leaves r) ≤ size → (e f : Link) → Has (link_tree pl dv l b) e → Has (link_tree pl dv r (b + leaves l)) f → e.number ≢ f.number
  apart_links l r b lt e f c d z =
      let x = links_of_tree pl dv l b e c in
      let y = links_of_tree pl dv r (b + leaves l) f d in
      let same : x.0 ≡ y.0 = pl_apart x.0 y.0 (omega (arith, x.2, lt)) (omega (arith, y.2, lt)) (sym (ap (λ (v : Link). v.number) x.3) ∙ z ∙ ap (λ (v : Link). v.number) y.3) in
      omega (arith, same, x.2, y.1)

  pub between_links : (t : Tree Net) (top bottom : Net) (k b : ℕ) → k + inner_count t ≤ most → b + leaves t ≤ size → net top ≢ net bottom → Away k (inner_count t) (net top) → Away k (inner_count t) (net bottom)
      → AreCards t top bottom k b → Between (link_tree pl dv t b) (net top) (net bottom)
  unfolding link_tree
  between_links (Leaf g) top bottom k b lt le n at ab h = (by (h 0 (record { kind = nch; drain = top; gate = g; source = bottom }) refl), n)
    where
      none : (b : ℕ) → b + 0 ≡ b
      none b = omega arith

      by : (dv (b + 0) ≡ record { kind = nch; drain = net top; gate = net g; source = net bottom }) ⊎ (dv (b + 0) ≡ exchange (record { kind = nch; drain = net top; gate = net g; source = net bottom })) → Ends (dv b) (net top) (net bottom)
      by t = subst (λ m. Ends (dv m) (net top) (net bottom)) (none b) (twin_ends (dv (b + 0)) (record { kind = nch; drain = net top; gate = net g; source = net bottom }) t)
  between_links (Series l r) top bottom k b lt le n at ab h =
      let hl = left_cards (spell nch inner l top (inner k) (k + 1)) (spell nch inner r (inner k) bottom (k + 1 + inner_count l)) b h in
      let hr = right_cards (spell nch inner l top (inner k) (k + 1)) (spell nch inner r (inner k) bottom (k + 1 + inner_count l)) b (leaves l) (spell_length inner l top (inner k) (k + 1)) h in (
        net (inner k),
        between_links l top (inner k) (k + 1) b (omega (arith, lt)) (omega (arith, le)) (λ e. at k (omega arith) (omega arith) (sym e)) (λ j lo hi. at j (omega (arith, lo)) (omega (arith, hi)))
            (λ j lo hi e. different j k (omega (arith, lo)) (inner_apart j k (omega (arith, hi, lt)) (omega (arith, lt)) e)) hl,
        between_links r (inner k) bottom (k + 1 + inner_count l) (b + leaves l) (omega (arith, lt)) (omega (arith, le)) (ab k (omega arith) (omega arith))
            (λ j lo hi e. different j k (omega (arith, lo)) (inner_apart j k (omega (arith, hi, lt)) (omega (arith, lt)) e)) (λ j lo hi. ab j (omega (arith, lo)) (omega (arith, hi))) hr,
        (λ x t u. shared x (touched l top (inner k) (k + 1) b hl x t) (touched r (inner k) bottom (k + 1 + inner_count l) (b + leaves l) hr x u)),
        (λ e f. apart_links l r b (omega (arith, le)) e f),
      )
    where
      different : (j k : ℕ) → k + 1 ≤ j → j ≡ k → ⊥
      different j k lo e = omega (arith, lo, e)

      shared : (x : ℕ) → Reach l top (inner k) (k + 1) x → Reach r (inner k) bottom (k + 1 + inner_count l) x → x ≡ net (inner k)
      shared x t (inl u) = u
      shared x (inr (inl t)) u = t
      shared x (inl t) (inr (inl u)) = absurd (n (sym t ∙ u))
      shared x (inl t) (inr (inr u)) = absurd (at u.0 (omega (arith, u.1)) (omega (arith, u.2)) (sym u.3 ∙ t))
      shared x (inr (inr t)) (inr (inl u)) = absurd (ab t.0 (omega (arith, t.1)) (omega (arith, t.2)) (sym t.3 ∙ u))
      shared x (inr (inr t)) (inr (inr u)) =
          let same : t.0 ≡ u.0 = inner_apart t.0 u.0 (omega (arith, t.2, lt)) (omega (arith, u.2, lt)) (sym t.3 ∙ u.3) in
          absurd (omega (arith, same, t.2, u.1))
  between_links (Parallel l r) top bottom k b lt le n at ab h =
      let hl = left_cards (spell nch inner l top bottom k) (spell nch inner r top bottom (k + inner_count l)) b h in
      let hr = right_cards (spell nch inner l top bottom k) (spell nch inner r top bottom (k + inner_count l)) b (leaves l) (spell_length inner l top bottom k) h in (
        between_links l top bottom k b (omega (arith, lt)) (omega (arith, le)) n (λ j lo hi. at j lo (omega (arith, hi))) (λ j lo hi. ab j lo (omega (arith, hi))) hl,
        between_links r top bottom (k + inner_count l) (b + leaves l) (omega (arith, lt)) (omega (arith, le)) n (λ j lo hi. at j (omega (arith, lo)) (omega (arith, hi))) (λ j lo hi. ab j (omega (arith, lo)) (omega (arith, hi))) hr,
        (λ x t u. shared x (touched l top bottom k b hl x t) (touched r top bottom (k + inner_count l) (b + leaves l) hr x u)),
        (λ e f. apart_links l r b (omega (arith, le)) e f),
      )
    where
      shared : (x : ℕ) → Reach l top bottom k x → Reach r top bottom (k + inner_count l) x → (x ≡ net top) ⊎ (x ≡ net bottom)
      shared x (inl t) u = inl t
      shared x (inr (inl t)) u = inr t
      shared x (inr (inr t)) (inl u) = inl u
      shared x (inr (inr t)) (inr (inl u)) = inr u
      shared x (inr (inr t)) (inr (inr u)) =
          let same : t.0 ≡ u.0 = inner_apart t.0 u.0 (omega (arith, t.2, lt)) (omega (arith, u.2, lt)) (sym t.3 ∙ u.3) in
          absurd (omega (arith, same, t.2, u.1))

  mids_length : (t : Tree Net) (b x y : ℕ) (h : Between (link_tree pl dv t b) x y) → length (mids (link_tree pl dv t b) x y h) ≡ inner_count t
  unfolding link_tree
  mids_length (Leaf g) b x y h = refl
  mids_length (Series l r) b x y (m, p, q, u, k) = omega (arith, length-append (mids (link_tree pl dv l b) x m p) (mids (link_tree pl dv r (b + leaves l)) m y q), mids_length l b x m p, mids_length r (b + leaves l) m y q)
  mids_length (Parallel l r) b x y (p, q, u, k) = omega (arith, length-append (mids (link_tree pl dv l b) x y p) (mids (link_tree pl dv r (b + leaves l)) x y q), mids_length l b x y p, mids_length r (b + leaves l) x y q)

  -- the mids are the inner nets, in order
  abbrev pub MidsAre : List ℕ → ℕ → ℕ → Type 0
  MidsAre ms k n = (j : ℕ) → j < n → slice_get ms j ≡ Some (net (inner (k + j)))

  join_mids : (xs ys : List ℕ) (k m n : ℕ) → length xs ≡ m → MidsAre xs k m → MidsAre ys (k + m) n → MidsAre (xs ++ ys) k (m + n)
  join_mids xs ys k m n c f g j lt = elim (lt_or_ge j m) [
    | inl lo ↦ slice_get-append xs ys j (net (inner (k + j))) (f j lo)
    | inr hi ↦ by (j - m) (omega (arith, hi)) (omega (arith, hi, lt))
  ]
    where
      by : (i : ℕ) → j ≡ m + i → i < n → slice_get (xs ++ ys) j ≡ Some (net (inner (k + j)))
      by i e l =
          ap (λ z. slice_get (xs ++ ys) z) (e ∙ ap (λ z. z + i) (sym c)) ∙ slice_get-behind xs ys i ∙ g i l ∙ ap (λ z. Some (net (inner z))) (shift i e)
        where
          shift : (i : ℕ) → j ≡ m + i → k + m + i ≡ k + j
          shift i e = omega (arith, e)

  pub mids_are : (t : Tree Net) (top bottom : Net) (k b : ℕ) (lt : k + inner_count t ≤ most) (le : b + leaves t ≤ size) (n : net top ≢ net bottom) (at : Away k (inner_count t) (net top)) (ab : Away k (inner_count t) (net bottom))
      (h : AreCards t top bottom k b) → MidsAre (mids (link_tree pl dv t b) (net top) (net bottom) (between_links t top bottom k b lt le n at ab h)) k (inner_count t)
  unfolding link_tree between_links
  mids_are (Leaf g) top bottom k b lt le n at ab h j l = absurd (omega (arith, l))
  mids_are (Series x y) top bottom k b lt le n at ab h zero l = ap (λ z. Some (net (inner z))) (plus k)
    where
      plus : (k : ℕ) → k ≡ k + 0
      plus k = omega arith
  mids_are (Series x y) top bottom k b lt le n at ab h (suc j) l =
      join_mids _ _ (k + 1) (inner_count x) (inner_count y) (mids_length x b _ _ _) (mids_are x top (inner k) (k + 1) b _ _ _ _ _ _) (mids_are y (inner k) bottom (k + 1 + inner_count x) (b + leaves x) _ _ _ _ _ _) j (omega (arith, l))
      ∙ ap (λ z. Some (net (inner z))) (shift k j)
    where
      shift : (k j : ℕ) → k + 1 + j ≡ k + suc j
      shift k j = omega arith
  mids_are (Parallel x y) top bottom k b lt le n at ab h j l =
      join_mids _ _ k (inner_count x) (inner_count y) (mids_length x b _ _ _) (mids_are x top bottom k b _ _ _ _ _ _) (mids_are y top bottom (k + inner_count x) (b + leaves x) _ _ _ _ _ _) j l

  -- its nets are reached from its top
  pub reached_tree : (ds : List Device) (roles : Roles) (x : ℕ) → ((j : ℕ) → j < size → StandsAt ds (pl j) (dv j)) → ((j : ℕ) → j < size → (dv j).kind ≡ nch) → ((j : ℕ) → j < most → IsFree roles (net (inner j)))
      → (t : Tree Net) (top bottom : Net) (k b : ℕ) → k + inner_count t ≤ most → b + leaves t ≤ size → IsFree roles (net bottom) → AreCards t top bottom k b → Reached ds roles x (net top)
      → Reached ds roles x (net bottom) × ((j : ℕ) → k ≤ j → j < k + inner_count t → Reached ds roles x (net (inner j)))
  reached_tree ds roles x st kd fr (Leaf g) top bottom k b lt le f h r = (
    step (pl b) (dv b) r (st b (omega (arith, le))) (kd b (omega (arith, le))) (subst (λ m. Ends (dv m) (net top) (net bottom)) (none b) (twin_ends (dv (b + 0)) (record { kind = nch; drain = net top; gate = net g; source = net bottom }) (h 0 (record { kind = nch; drain = top; gate = g; source = bottom }) refl))) f,
    (λ j lo hi. absurd (omega (arith, lo, hi))),
  )
    where
      none : (b : ℕ) → b + 0 ≡ b
      none b = omega arith
  reached_tree ds roles x st kd fr (Series l r) top bottom k b lt le f h rt =
      let hl = left_cards (spell nch inner l top (inner k) (k + 1)) (spell nch inner r (inner k) bottom (k + 1 + inner_count l)) b h in
      let hr = right_cards (spell nch inner l top (inner k) (k + 1)) (spell nch inner r (inner k) bottom (k + 1 + inner_count l)) b (leaves l) (spell_length inner l top (inner k) (k + 1)) h in
      let a = reached_tree ds roles x st kd fr l top (inner k) (k + 1) b (omega (arith, lt)) (omega (arith, le)) (fr k (omega (arith, lt))) hl rt in
      let c = reached_tree ds roles x st kd fr r (inner k) bottom (k + 1 + inner_count l) (b + leaves l) (omega (arith, lt)) (omega (arith, le)) f hr a.0 in (
        c.0,
        (λ j lo hi. elim (lt_or_ge j (k + 1)) [
          | inl y ↦ let e : k ≡ j = omega (arith, lo, y) in subst (λ j. Reached ds roles x (net (inner j))) e a.0
          | inr y ↦ elim (lt_or_ge j (k + 1 + inner_count l)) [ inl z ↦ a.1 j y (omega (arith, z)) | inr z ↦ c.1 j z (omega (arith, hi)) ]
        ]),
      )
  reached_tree ds roles x st kd fr (Parallel l r) top bottom k b lt le f h rt =
      let hl = left_cards (spell nch inner l top bottom k) (spell nch inner r top bottom (k + inner_count l)) b h in
      let hr = right_cards (spell nch inner l top bottom k) (spell nch inner r top bottom (k + inner_count l)) b (leaves l) (spell_length inner l top bottom k) h in
      let a = reached_tree ds roles x st kd fr l top bottom k b (omega (arith, lt)) (omega (arith, le)) f hl rt in
      let c = reached_tree ds roles x st kd fr r top bottom (k + inner_count l) (b + leaves l) (omega (arith, lt)) (omega (arith, le)) f hr rt in
      (a.0, (λ j lo hi. elim (lt_or_ge j (k + inner_count l)) [ inl z ↦ a.1 j lo z | inr z ↦ c.1 j z (omega (arith, hi)) ]))

  -- the gates of the devices are those of the leaves
  pub spells_links : (ds : List Device) → ((j : ℕ) → j < size → StandsAt ds (pl j) (dv j)) → (t : Tree Net) (top bottom : Net) (k b : ℕ) → b + leaves t ≤ size → AreCards t top bottom k b → Spells ds (link_tree pl dv t b) (map_tree net t)
  unfolding link_tree
  spells_links ds st (Leaf g) top bottom k b le h =
      (dv b, st b (omega (arith, le)), subst (λ m. (dv m).gate ≡ net g) (none b) (twin_gate (dv (b + 0)) (record { kind = nch; drain = net top; gate = net g; source = net bottom }) (h 0 (record { kind = nch; drain = top; gate = g; source = bottom }) refl)))
    where
      none : (b : ℕ) → b + 0 ≡ b
      none b = omega arith
  spells_links ds st (Series l r) top bottom k b le h = (
    spells_links ds st l top (inner k) (k + 1) b (omega (arith, le)) (left_cards (spell nch inner l top (inner k) (k + 1)) (spell nch inner r (inner k) bottom (k + 1 + inner_count l)) b h),
    spells_links ds st r (inner k) bottom (k + 1 + inner_count l) (b + leaves l) (omega (arith, le))
        (right_cards (spell nch inner l top (inner k) (k + 1)) (spell nch inner r (inner k) bottom (k + 1 + inner_count l)) b (leaves l) (spell_length inner l top (inner k) (k + 1)) h),
  )
  spells_links ds st (Parallel l r) top bottom k b le h = (
    spells_links ds st l top bottom k b (omega (arith, le)) (left_cards (spell nch inner l top bottom k) (spell nch inner r top bottom (k + inner_count l)) b h),
    spells_links ds st r top bottom (k + inner_count l) (b + leaves l) (omega (arith, le)) (right_cards (spell nch inner l top bottom k) (spell nch inner r top bottom (k + inner_count l)) b (leaves l) (spell_length inner l top bottom k) h),
  )
