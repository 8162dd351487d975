-- The part below a pair has each pair of its forest at most once, so that its sums are few.
use Rattle.std.proofs.Common.{inl, inr, ◌≡◌, refl, ap, ap₂, ◌∙◌, ℕ, zero, suc, ◌+◌, ◌*◌, ◌≤◌, ◌<◌, Bool, true, false, cond, ◌&&◌, length, Some, slice_get, arith, nat_lt}
use Rattle.std.proofs.lemmas.Bool.{cases_lt, le-leb, lt-leb}
use Rattle.std.proofs.lemmas.Option.{slice_get_within}
use Rattle.dom_base.proofs.Bools.{and_both}
use Rattle.dual_rail.specs.declared.forest.Arm.{Arm}
use Rattle.dual_rail.specs.declared.forest.Pair.{Pair}
use Rattle.dual_rail.specs.ForestData.{ForestData}
use Rattle.dual_rail.proofs.ForestOrders.{reads_later}
use Rattle.dual_rail.specs.ForestOrder.{AreInOrder, ReadsBefore}
use Rattle.dual_rail.specs.Forests.{left_arm, right_arm}
use Rattle.cover_plan.specs.Covers.{Costs, Cover, Cut, IsCover, Kept, Single, Split, sum_of}
use Rattle.cover_plan.specs.Parts.{CoverPart, End, Join}
use Rattle.cover_plan.proofs.Sums.{joined-is}
use Rattle.tree_map.specs.CoverRows.{AreFewCosts}
use Rattle.tree_map.specs.LeastPlans.{IsPartOf, literal, shared, free, operator_of}
use Rattle.tree_map.specs.Plans.{IsFree, is_free}
use Rattle.compound_plan.proofs.FreePairs.{is_free-not, is_free-of, is_free-true}
use Rattle.tree_map.proofs.PlanCovers.{cover_most, pairs_in}
use Rattle.compound_plan.proofs.Tallies.{arm_value, arms_value, tally, tally-is, tally_total}
use Rattle.compound_plan.proofs.Totals.{total, total_constant}

total_at : (f : ℕ → ℕ) (r a n : ℕ) → a ≤ r → r < a + n → f r ≤ total f a n
total_at f r a zero low high = absurd (omega arith)
total_at f r a (suc n) low high = elim (cases_lt a r) [
  | inl lt ↦ (let more = total_at f r (a + 1) n (omega arith) (omega arith) in omega arith)
  | inr le ↦ (let same : r ≡ a = omega arith in rw same (omega arith))
]

and_no : (a b : Bool) → b ≡ false → a && b ≡ false
and_no true b e = e
and_no false b e = refl

no_pairs : pairs_in End ≡ 0
unfolding pairs_in
no_pairs = refl

module _ (forest : ForestData) (order : AreInOrder forest.pairs) (p : ℕ) where
  -- a free edge to a pair before this one
  hands_on : ℕ → Bool
  hands_on q = is_free forest q && nat_lt q p

  hands_on-of : (q : ℕ) → IsFree forest q → q < p → hands_on q ≡ true
  unfolding hands_on
  hands_on-of q is lt = rw (is_free-of forest q is) (le-leb (suc q) p lt)

  hands_on-not : (q : ℕ) → (IsFree forest q → ⊥) → hands_on q ≡ false
  unfolding hands_on
  hands_on-not q never = rw (is_free-not forest q never) refl

  hands_on-free : (q : ℕ) → hands_on q ≡ true → is_free forest q ≡ true
  unfolding hands_on
  hands_on-free q e = (and_both (is_free forest q) (nat_lt q p) e).0

  hands_on-self : hands_on p ≡ false
  unfolding hands_on
  hands_on-self = and_no (is_free forest p) (nat_lt p p) (lt-leb (suc p) p (omega arith))

  below : ℕ → ℕ
  below = tally forest.pairs hands_on (λ q. 1)

  below-is : (q : ℕ) (pair : Pair) → slice_get forest.pairs q ≡ Some pair → below q ≡ 1 + arms_value (λ r. cond (hands_on r) (below r) 0) (Some pair)
  unfolding below
  below-is q pair e = tally-is forest.pairs order hands_on (λ r. 1) q ∙ ap (λ o. 1 + arms_value (λ r. cond (hands_on r) (below r) 0) o) e

  arm_pairs : {arm : Arm} {part : CoverPart} → IsPartOf forest arm part → ReadsBefore p arm → pairs_in part ≡ arm_value (λ r. cond (hands_on r) (below r) 0) arm
  unfolding pairs_in
  arm_pairs literal before = refl
  arm_pairs (shared {place = q} never) before = rw (hands_on-not q never) refl
  arm_pairs (free {place = q} {pair = pair} is e dl dr) before =
      let reads = order q pair e in
      rw (hands_on-of q is before, below-is q pair e)
      (ap₂ (λ m n. 1 + (m + n)) (arm_pairs dl (reads_later q p (left_arm pair) reads.0 (omega (arith, before)))) (arm_pairs dr (reads_later q p (right_arm pair) reads.1 (omega (arith, before)))))

  pub few_pairs : (pair : Pair) {l r : CoverPart} → slice_get forest.pairs p ≡ Some pair → IsPartOf forest (left_arm pair) l → IsPartOf forest (right_arm pair) r
      → pairs_in (Join (operator_of pair) l r) ≤ length forest.pairs
  unfolding pairs_in below
  few_pairs pair {l} {r} e dl dr =
      let n = length forest.pairs in
      let reads = order p pair e in
      let own = below-is p pair e in
      let left = arm_pairs dl reads.0 in
      let right = arm_pairs dr reads.1 in
      let all = tally_total forest.pairs order hands_on (λ q. 1) (λ q lt is. (is_free-true forest q (hands_on-free q is)).0) in
      let one = total_at (λ q. cond (hands_on q) 0 (below q)) p 0 n (omega arith) (let lt = slice_get_within forest.pairs p pair e in omega arith) in
      let here : cond (hands_on p) 0 (below p) ≡ below p = rw hands_on-self refl in
      let ones = total_constant 1 0 n in
      omega (arith, own, left, right, all, one, here, ones)

-- so the sums of an arm are few
pub few_in_arm : (c : Costs) → AreFewCosts c → (forest : ForestData) → AreInOrder forest.pairs → (w h : ℕ) {arm : Arm} {part : CoverPart} → IsPartOf forest arm part → (a : Cover)
    → IsCover c w h part a → sum_of c part a ≤ 12 * length forest.pairs + 1
few_in_arm c few forest order w h literal a is = let most = cover_most c few w h End a is in let none : pairs_in End ≡ 0 = no_pairs in omega (arith, most, none)
few_in_arm c few forest order w h (shared never) a is = let most = cover_most c few w h End a is in let none : pairs_in End ≡ 0 = no_pairs in omega (arith, most, none)
few_in_arm c few forest order w h (free {place = q} {pair = pair} {l = l} {r = r} fr e dl dr) a is =
    let most = cover_most c few w h (Join (operator_of pair) l r) a is in
    let pairs = few_pairs forest order q pair e dl dr in
    omega (arith, most, pairs)

-- and not 0
pub some_sum : (c : Costs) (part : CoverPart) (a : Cover) → 1 ≤ sum_of c part a
some_sum c End a = omega arith
some_sum c (Join op l r) Single = omega arith
some_sum c (Join op l r) (Kept a b) = let one = some_sum c l a in omega (arith, one, joined-is c op (sum_of c l a) (sum_of c r b))
some_sum c (Join op l r) (Cut a b) = omega arith
some_sum c (Join op l r) (Split a b) = omega arith
