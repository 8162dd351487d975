-- The devices of a tree join its top to its bottom exactly where the tree joins them.
use Rattle.std.proofs.Common.{◌≡◌, ℕ, ◌+◌, ◌<◌, ◌≤◌, Bool, true, false, cond, List, [], ◌∷◌, refl, sym, ◌∙◌, inl, inr, arith}
use Rattle.std.specs.Prelude.{◌⊎◌, ◌≢◌}
use Rattle.std.specs.List.{AllByRecursion}
use Rattle.std.proofs.lemmas.Bool.Decides.{eqb_tells}
use Rattle.dom_base.specs.declared.kind.Kind.{Kind}
use Rattle.deck.specs.declared.device.Device.{Device}
use Rattle.deck.specs.NamedDevices.{NamedDevice, device_of}
use Rattle.sp_network.specs.Tree.{Tree, Leaf, Series, Parallel, joins, inner_count}
use Rattle.domino_cell.specs.Spelling.{spell}
use Rattle.domino_cell.specs.TreeColours.{IsApart, IsIn, IsOutside, IsPainted, Paints, painting, with_colour}
use Rattle.dom_base.proofs.Lists.{AllByRecursion-append, AllByRecursion-left, AllByRecursion-right, AllByRecursion-weaker}
use Rattle.deck.specs.Reach.{Reach, last}
use Rattle.deck.proofs.Reach.{Reach-trans}

-- all devices of a tree have its kind
pub spell-kind : {Net : Type 0} (kind : Kind) (inner : ℕ → Net) (t : Tree Net) (top bottom : Net) (k : ℕ)
    → AllByRecursion (λ c. c.kind ≡ kind) (spell kind inner t top bottom k)
spell-kind kind inner (Leaf gate) top bottom k = (refl, tt)
spell-kind kind inner (Series l r) top bottom k =
    AllByRecursion-append _ _ _ (spell-kind kind inner l top (inner k) (k + 1)) (spell-kind kind inner r (inner k) bottom (k + 1 + inner_count l))
spell-kind kind inner (Parallel l r) top bottom k =
    AllByRecursion-append _ _ _ (spell-kind kind inner l top bottom k) (spell-kind kind inner r top bottom (k + inner_count l))

pub and_true : (a b : Bool) → cond a b false ≡ true → (a ≡ true) × (b ≡ true)
and_true true b h = (refl, h)
and_true false b h = absurd (cc)

or_true : (a b : Bool) → cond a true b ≡ true → (a ≡ true) ⊎ (b ≡ true)
or_true true b h = inl refl
or_true false b h = inr h

or_false : (a b : Bool) → cond a true b ≡ false → (a ≡ false) × (b ≡ false)
or_false true b h = absurd (cc)
or_false false b h = (refl, h)

-- where each leaf that passes the test has Q, and the tree joins them, there is a path
pub Reach-spell : (Q : Device → Type 0) (is_source : ℕ → Bool) (g : ℕ → Bool) (kind : Kind) (inner : ℕ → ℕ)
    (t : Tree ℕ) (top bottom k : ℕ)
    → ((j : ℕ) → k ≤ j → j < k + inner_count t → is_source (inner j) ≡ false)
    → AllByRecursion (λ c. g c.gate ≡ true → Q (device_of c)) (spell kind inner t top bottom k)
    → joins g t ≡ true → Reach Q is_source top bottom
Reach-spell Q is_source g kind inner (Leaf gate) top bottom k free h e =
    last {d = record { kind = kind; drain = top; gate = gate; source = bottom }} (h.0 e) (inl (refl, refl))
Reach-spell Q is_source g kind inner (Series l r) top bottom k free h e =
    let a = spell kind inner l top (inner k) (k + 1) in
    let b = spell kind inner r (inner k) bottom (k + 1 + inner_count l) in
    let t = and_true (joins g l) (joins g r) e in
    Reach-trans
    (Reach-spell Q is_source g kind inner l top (inner k) (k + 1) (λ j le lt. free j (omega arith) (omega arith)) (AllByRecursion-left _ a b h) t.0)
    (free k (omega arith) (omega arith))
    (Reach-spell Q is_source g kind inner r (inner k) bottom (k + 1 + inner_count l) (λ j le lt. free j (omega arith) (omega arith)) (AllByRecursion-right _ a b h) t.1)
Reach-spell Q is_source g kind inner (Parallel l r) top bottom k free h e =
    let a = spell kind inner l top bottom k in
    let b = spell kind inner r top bottom (k + inner_count l) in
    elim (or_true (joins g l) (joins g r) e) [
      | inl x ↦ Reach-spell Q is_source g kind inner l top bottom k (λ j le lt. free j (omega arith) (omega arith)) (AllByRecursion-left _ a b h) x
      | inr x ↦ Reach-spell Q is_source g kind inner r top bottom (k + inner_count l) (λ j le lt. free j (omega arith) (omega arith)) (AllByRecursion-right _ a b h) x
    ]

-- the devices of a tree end at its nets
pub spell-ends : (kind : Kind) (inner : ℕ → ℕ) (t : Tree ℕ) (top bottom k : ℕ)
    → AllByRecursion (λ c. IsIn inner top bottom k (inner_count t) c.drain × IsIn inner top bottom k (inner_count t) c.source) (spell kind inner t top bottom k)
spell-ends kind inner (Leaf gate) top bottom k = ((inl refl, inr (inl refl)), tt)
spell-ends kind inner (Series l r) top bottom k =
    let In = IsIn inner top bottom k (inner_count (Series l r)) in
    AllByRecursion-append _ _ _
    (AllByRecursion-weaker _ (λ c. In c.drain × In c.source) (λ c h. (left c.drain h.0, left c.source h.1)) _ (spell-ends kind inner l top (inner k) (k + 1)))
    (AllByRecursion-weaker _ (λ c. In c.drain × In c.source) (λ c h. (right c.drain h.0, right c.source h.1)) _ (spell-ends kind inner r (inner k) bottom (k + 1 + inner_count l)))
  where
    left : (x : ℕ) → IsIn inner top (inner k) (k + 1) (inner_count l) x → IsIn inner top bottom k (inner_count (Series l r)) x
    left x (inl e) = inl e
    left x (inr (inl e)) = inr (inr (k, omega arith, omega arith, e))
    left x (inr (inr (j, a, b, e))) = inr (inr (j, omega arith, omega arith, e))

    right : (x : ℕ) → IsIn inner (inner k) bottom (k + 1 + inner_count l) (inner_count r) x → IsIn inner top bottom k (inner_count (Series l r)) x
    right x (inl e) = inr (inr (k, omega arith, omega arith, e))
    right x (inr (inl e)) = inr (inl e)
    right x (inr (inr (j, a, b, e))) = inr (inr (j, omega arith, omega arith, e))
spell-ends kind inner (Parallel l r) top bottom k =
    let In = IsIn inner top bottom k (inner_count (Parallel l r)) in
    AllByRecursion-append _ _ _
    (AllByRecursion-weaker _ (λ c. In c.drain × In c.source) (λ c h. (left c.drain h.0, left c.source h.1)) _ (spell-ends kind inner l top bottom k))
    (AllByRecursion-weaker _ (λ c. In c.drain × In c.source) (λ c h. (right c.drain h.0, right c.source h.1)) _ (spell-ends kind inner r top bottom (k + inner_count l)))
  where
    left : (x : ℕ) → IsIn inner top bottom k (inner_count l) x → IsIn inner top bottom k (inner_count (Parallel l r)) x
    left x (inl e) = inl e
    left x (inr (inl e)) = inr (inl e)
    left x (inr (inr (j, a, b, e))) = inr (inr (j, omega arith, omega arith, e))

    right : (x : ℕ) → IsIn inner top bottom (k + inner_count l) (inner_count r) x → IsIn inner top bottom k (inner_count (Parallel l r)) x
    right x (inl e) = inl e
    right x (inr (inl e)) = inr (inl e)
    right x (inr (inr (j, a, b, e))) = inr (inr (j, omega arith, omega arith, e))

with_colour-same : (c : ℕ → Bool) (n : ℕ) (v : Bool) → with_colour c n v n ≡ v
with_colour-same c n v = elim (eqb_tells n n) [ inl h ↦ rw h.0 refl | inr h ↦ absurd (h.1 refl) ]

with_colour-other : (c : ℕ → Bool) (n : ℕ) (v : Bool) (x : ℕ) → x ≢ n → with_colour c n v x ≡ c x
with_colour-other c n v x ne = elim (eqb_tells x n) [ inl h ↦ absurd (ne h.1) | inr h ↦ rw h.0 refl ]

-- devices whose ends keep their colours stay painted
repaint : (c c' : ℕ → Bool) (g : ℕ → Bool) (P : ℕ → Type 0) → ((x : ℕ) → P x → c' x ≡ c x)
    → (ds : List (NamedDevice ℕ)) → AllByRecursion (λ d. P d.drain × P d.source) ds → IsPainted c g ds → IsPainted c' g ds
repaint c c' g P same [] h p = tt
repaint c c' g P same (d ∷ ds) h p =
    ((λ on. same d.drain h.0.0 ∙ p.0 on ∙ sym (same d.source h.0.1)), repaint c c' g P same ds h.1 p.1)

-- so it is where the ends of the tree have one colour, or the tree does not join them
pub Paints-painting : (g : ℕ → Bool) (kind : Kind) (inner : ℕ → ℕ) (t : Tree ℕ) (top bottom k : ℕ) (c : ℕ → Bool)
    → IsApart inner k (inner_count t) → IsOutside inner k (inner_count t) top → IsOutside inner k (inner_count t) bottom
    → (c top ≡ c bottom) ⊎ (joins g t ≡ false) → Paints g kind inner t top bottom k c (painting g inner t top bottom k c)
unfolding painting
Paints-painting g kind inner (Leaf gate) top bottom k c apart ft fb h =
    record { kept = λ x o. refl; painted = ((λ on. elim h [ inl e ↦ e | inr e ↦ absurd (clash on e) ]), tt) }
  where
    clash : g gate ≡ true → g gate ≡ false → ⊥
    clash a b = cc
Paints-painting g kind inner (Series l r) top bottom k c apart ft fb h =
    let one : Paints g kind inner l top (inner k) (k + 1) c0 c1 =
    Paints-painting g kind inner l top (inner k) (k + 1) c0
    (λ i j a b d e. apart i j (omega arith) (omega arith) (omega arith) (omega arith))
    (λ j le lt. ft j (omega arith) (omega arith))
    (λ j le lt. fm j (omega arith) (omega arith))
    (hand (joins g l) (c top) (c bottom) (c0 top) (c0 (inner k)) (with_colour-other c (inner k) v top (ft k (omega arith) (omega arith))) (with_colour-same c (inner k) v)) in
    let two : Paints g kind inner r (inner k) bottom (k + 1 + inner_count l) c1 c2 =
    Paints-painting g kind inner r (inner k) bottom (k + 1 + inner_count l) c1
    (λ i j a b d e. apart i j (omega arith) (omega arith) (omega arith) (omega arith))
    (λ j le lt. fm j (omega arith) (omega arith))
    (λ j le lt. fb j (omega arith) (omega arith))
    (hand_on (joins g l) (joins g r) (c top) (c bottom) (c1 (inner k)) (c1 bottom)
    (one.kept (inner k) (λ j le lt. fm j (omega arith) (omega arith)) ∙ with_colour-same c (inner k) v)
    (one.kept bottom (λ j le lt. fb j (omega arith) (omega arith)) ∙ with_colour-other c (inner k) v bottom (fb k (omega arith) (omega arith))) h) in
    record {
      kept = λ x o. two.kept x (λ j le lt. o j (omega arith) (omega arith)) ∙ (one.kept x (λ j le lt. o j (omega arith) (omega arith)) ∙ with_colour-other c (inner k) v x (o k (omega arith) (omega arith)));
      painted =
          AllByRecursion-append (λ d. g d.gate ≡ true → c2 d.drain ≡ c2 d.source) (spell kind inner l top (inner k) (k + 1)) (spell kind inner r (inner k) bottom (k + 1 + inner_count l))
          (repaint c1 c2 g (IsIn inner top (inner k) (k + 1) (inner_count l)) (λ x i. two.kept x (off x i)) (spell kind inner l top (inner k) (k + 1)) (spell-ends kind inner l top (inner k) (k + 1)) one.painted)
          two.painted;
    }
  where
    v : Bool
    v = cond (joins g l) (c top) (c bottom)

    c0 : ℕ → Bool
    c0 = with_colour c (inner k) v

    c1 : ℕ → Bool
    c1 = painting g inner l top (inner k) (k + 1) c0

    c2 : ℕ → Bool
    c2 = painting g inner r (inner k) bottom (k + 1 + inner_count l) c1

    ne : (k j : ℕ) → k + 1 ≤ j → k ≡ j → ⊥
    ne k j a b = omega arith

    -- the middle net is none of the later ones
    fm : (j : ℕ) → k + 1 ≤ j → j < k + 1 + (inner_count l + inner_count r) → inner k ≢ inner j
    fm j le lt e = ne k j le (apart k j (omega arith) (omega arith) (omega arith) (omega arith) e)

    hand : (jl : Bool) (ct cb c0t c0m : Bool) → c0t ≡ ct → c0m ≡ cond jl ct cb → (c0t ≡ c0m) ⊎ (jl ≡ false)
    hand true ct cb c0t c0m a b = inl (a ∙ sym b)
    hand false ct cb c0t c0m a b = inr refl

    hand_on : (jl jr : Bool) (ct cb c1m c1b : Bool) → c1m ≡ cond jl ct cb → c1b ≡ cb → (ct ≡ cb) ⊎ (cond jl jr false ≡ false) → (c1m ≡ c1b) ⊎ (jr ≡ false)
    hand_on true jr ct cb c1m c1b a b (inl e) = inl (a ∙ e ∙ sym b)
    hand_on true jr ct cb c1m c1b a b (inr e) = inr e
    hand_on false jr ct cb c1m c1b a b h = inl (a ∙ sym b)

    -- no net of the left part is an inner net of the right part
    off : (x : ℕ) → IsIn inner top (inner k) (k + 1) (inner_count l) x → IsOutside inner (k + 1 + inner_count l) (inner_count r) x
    off x (inl e) j le lt y = ft j (omega arith) (omega arith) (sym e ∙ y)
    off x (inr (inl e)) j le lt y = fm j (omega arith) (omega arith) (sym e ∙ y)
    off x (inr (inr (i, a, b, e))) j le lt y =
        let z : i ≡ j = apart i j (omega arith) (omega arith) (omega arith) (omega arith) (sym e ∙ y) in absurd (omega arith)
Paints-painting g kind inner (Parallel l r) top bottom k c apart ft fb h =
    let one : Paints g kind inner l top bottom k c c1 =
    Paints-painting g kind inner l top bottom k c
    (λ i j a b d e. apart i j (omega arith) (omega arith) (omega arith) (omega arith))
    (λ j le lt. ft j (omega arith) (omega arith))
    (λ j le lt. fb j (omega arith) (omega arith))
    (elim h [ inl e ↦ inl e | inr e ↦ inr (or_false (joins g l) (joins g r) e).0 ]) in
    let two : Paints g kind inner r top bottom (k + inner_count l) c1 c2 =
    Paints-painting g kind inner r top bottom (k + inner_count l) c1
    (λ i j a b d e. apart i j (omega arith) (omega arith) (omega arith) (omega arith))
    (λ j le lt. ft j (omega arith) (omega arith))
    (λ j le lt. fb j (omega arith) (omega arith))
    (elim h [
      | inl e ↦ inl (one.kept top (λ j le lt. ft j (omega arith) (omega arith)) ∙ e ∙ sym (one.kept bottom (λ j le lt. fb j (omega arith) (omega arith))))
      | inr e ↦ inr (or_false (joins g l) (joins g r) e).1
    ]) in
    record {
      kept = λ x o. two.kept x (λ j le lt. o j (omega arith) (omega arith)) ∙ one.kept x (λ j le lt. o j (omega arith) (omega arith));
      painted =
          AllByRecursion-append (λ d. g d.gate ≡ true → c2 d.drain ≡ c2 d.source) (spell kind inner l top bottom k) (spell kind inner r top bottom (k + inner_count l))
          (repaint c1 c2 g (IsIn inner top bottom k (inner_count l)) (λ x i. two.kept x (off x i)) (spell kind inner l top bottom k) (spell-ends kind inner l top bottom k) one.painted)
          two.painted;
    }
  where
    c1 : ℕ → Bool
    c1 = painting g inner l top bottom k c

    c2 : ℕ → Bool
    c2 = painting g inner r top bottom (k + inner_count l) c1

    off : (x : ℕ) → IsIn inner top bottom k (inner_count l) x → IsOutside inner (k + inner_count l) (inner_count r) x
    off x (inl e) j le lt y = ft j (omega arith) (omega arith) (sym e ∙ y)
    off x (inr (inl e)) j le lt y = fb j (omega arith) (omega arith) (sym e ∙ y)
    off x (inr (inr (i, a, b, e))) j le lt y =
        let z : i ≡ j = apart i j (omega arith) (omega arith) (omega arith) (omega arith) (sym e ∙ y) in absurd (omega arith)
