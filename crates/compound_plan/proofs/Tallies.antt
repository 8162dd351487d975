-- Tallies over a forest: a number for each pair, which its arms hand on.
use Rattle.std.proofs.Common.{◌≡◌, refl, sym, ap, ap₂, ◌∙◌, ℕ, zero, suc, ◌+◌, ◌*◌, ◌<◌, Bool, true, false, cond, List, [], ◌∷◌, length, Option, Some, None, slice_get, sum_by, count_by, arith}
use Rattle.std.proofs.lemmas.List.Sums.{sum_by-cons}
use Rattle.std.proofs.lemmas.Option.{slice_get_within}
use Rattle.dual_rail.specs.declared.forest.Arm.{Arm}
use Rattle.dual_rail.specs.declared.forest.Arm.TheVariants.{Literal, Pair as pair_arm}
use Rattle.dual_rail.specs.declared.forest.Pair.{Pair}
use Rattle.dual_rail.specs.declared.forest.Pair.TheVariants.{And, Or}
use Rattle.dual_rail.specs.Forests.{is_pair_arm, arms_of, left_arm, right_arm}
use Rattle.dual_rail.proofs.ForestOrders.{reads_later}
use Rattle.dual_rail.specs.ForestOrder.{AreInOrder, ReadsBefore}
use Rattle.compound_plan.proofs.Totals.{total, total_same, total_add, total_one, total_parts, total_shift, total_zero}

-- what an arm hands on
abbrev pub arm_value : (ℕ → ℕ) → Arm → ℕ
arm_value f (Literal rail) = 0
arm_value f (pair_arm place) = f place

abbrev pub arms_value : (ℕ → ℕ) → Option Pair → ℕ
arms_value f None = 0
arms_value f (Some pair) = arm_value f (left_arm pair) + arm_value f (right_arm pair)

-- how often the arms of some pairs name a place
abbrev pub uses : List Pair → ℕ → ℕ
uses pairs place = sum_by (λ pair. count_by (is_pair_arm place) (arms_of pair)) pairs

abbrev pub ReadsBelow : ℕ → List Pair → Type 0
ReadsBelow m pairs = (place : ℕ) (pair : Pair) → slice_get pairs place ≡ Some pair → ReadsBefore m (left_arm pair) × ReadsBefore m (right_arm pair)

-- the arms of one pair, counted by the places that they name
arm_total : (f : ℕ → ℕ) (m : ℕ) (arm : Arm) → ReadsBefore m arm → total (λ q. cond (is_pair_arm q arm) (f q) 0) 0 m ≡ arm_value f arm
arm_total f m (Literal rail) h = total_zero (λ q. 0) 0 m (λ q low high. refl)
arm_total f m (pair_arm place) h = total_one f place 0 m (omega arith) (omega arith)

one_each : (x y : Bool) (m : ℕ) → (0 + cond x 1 0 + cond y 1 0) * m ≡ cond x m 0 + cond y m 0
one_each true true m = omega arith
one_each true false m = omega arith
one_each false true m = omega arith
one_each false false m = omega arith

counted : (f : ℕ → ℕ) (pair : Pair) (q : ℕ)
    → count_by (is_pair_arm q) (arms_of pair) * f q ≡ cond (is_pair_arm q (left_arm pair)) (f q) 0 + cond (is_pair_arm q (right_arm pair)) (f q) 0
counted f (And a b) q = one_each (is_pair_arm q a) (is_pair_arm q b) (f q)
counted f (Or a b) q = one_each (is_pair_arm q a) (is_pair_arm q b) (f q)

pair_total : (f : ℕ → ℕ) (m : ℕ) (pair : Pair) → ReadsBefore m (left_arm pair) → ReadsBefore m (right_arm pair)
    → total (λ q. count_by (is_pair_arm q) (arms_of pair) * f q) 0 m ≡ arms_value f (Some pair)
pair_total f m pair left right =
    total_same (λ q. count_by (is_pair_arm q) (arms_of pair) * f q) (λ q. cond (is_pair_arm q (left_arm pair)) (f q) 0 + cond (is_pair_arm q (right_arm pair)) (f q) 0) 0 m (λ q low high. counted f pair q)
    ∙ total_add (λ q. cond (is_pair_arm q (left_arm pair)) (f q) 0) (λ q. cond (is_pair_arm q (right_arm pair)) (f q) 0) 0 m
    ∙ ap₂ (λ x y. x + y) (arm_total f m (left_arm pair) left) (arm_total f m (right_arm pair) right)

-- what all arms hand on is what each place has, as often as it is named
pub arms_total : (f : ℕ → ℕ) (m : ℕ) (pairs : List Pair) → ReadsBelow m pairs
    → total (λ p. arms_value f (slice_get pairs p)) 0 (length pairs) ≡ total (λ q. uses pairs q * f q) 0 m
arms_total f m [] h = sym (total_zero (λ q. uses [] q * f q) 0 m (λ q low high. omega arith))
arms_total f m (pair ∷ pairs) h =
    ap (λ n. arms_value f (Some pair) + n) (total_shift (λ p. arms_value f (slice_get (pair ∷ pairs) p)) 0 (length pairs))
    ∙ ap₂ (λ x y. x + y) (sym (pair_total f m pair (h 0 pair refl).0 (h 0 pair refl).1)) (arms_total f m pairs (λ p x e. h (suc p) x e))
    ∙ sym (total_add (λ q. count_by (is_pair_arm q) (arms_of pair) * f q) (λ q. uses pairs q * f q) 0 m)
    ∙ total_same (λ q. count_by (is_pair_arm q) (arms_of pair) * f q + uses pairs q * f q) (λ q. uses (pair ∷ pairs) q * f q) 0 m (λ q low high. both q)
  where
    both : (q : ℕ) → count_by (is_pair_arm q) (arms_of pair) * f q + uses pairs q * f q ≡ uses (pair ∷ pairs) q * f q
    both q = rw (sum_by-cons (λ x. count_by (is_pair_arm q) (arms_of x)) pair pairs) (omega arith)

-- The tally of a pair: its own number, and what its arms hand on of the tallies of the pairs that they name; a test says
-- which pairs hand on.
tally_within : List Pair → (ℕ → Bool) → (ℕ → ℕ) → ℕ → ℕ → ℕ
tally_within pairs c own zero p = 0
tally_within pairs c own (suc n) p = own p + arms_value (λ q. cond (c q) (tally_within pairs c own n q) 0) (slice_get pairs p)

pub tally : List Pair → (ℕ → Bool) → (ℕ → ℕ) → ℕ → ℕ
tally pairs c own p = tally_within pairs c own (suc p) p

arm_same : (f g : ℕ → ℕ) (p : ℕ) (arm : Arm) → ReadsBefore p arm → ((q : ℕ) → q < p → f q ≡ g q) → arm_value f arm ≡ arm_value g arm
arm_same f g p (Literal rail) h same = refl
arm_same f g p (pair_arm place) h same = same place h

arms_same : (f g : ℕ → ℕ) (pairs : List Pair) (p : ℕ) → AreInOrder pairs → ((q : ℕ) → q < p → f q ≡ g q)
    → arms_value f (slice_get pairs p) ≡ arms_value g (slice_get pairs p)
arms_same f g pairs p order same = by (slice_get pairs p) refl
  where
    by : (o : Option Pair) → slice_get pairs p ≡ o → arms_value f o ≡ arms_value g o
    by None e = refl
    by (Some pair) e =
        let h = order p pair e in
        ap₂ (λ x y. x + y) (arm_same f g p (left_arm pair) h.0 same) (arm_same f g p (right_arm pair) h.1 same)

module _ (pairs : List Pair) (order : AreInOrder pairs) (c : ℕ → Bool) (own : ℕ → ℕ) where
  enough : (n m p : ℕ) → p < n → p < m → tally_within pairs c own n p ≡ tally_within pairs c own m p
  unfolding tally_within
  enough zero m p a b = absurd (omega arith)
  enough (suc n) zero p a b = absurd (omega arith)
  enough (suc n) (suc m) p a b =
      ap (λ x. own p + x) (arms_same (λ q. cond (c q) (tally_within pairs c own n q) 0) (λ q. cond (c q) (tally_within pairs c own m q) 0) pairs p order
      (λ q lt. ap (λ x. cond (c q) x 0) (enough n m q (omega arith) (omega arith))))

  pub tally-is : (p : ℕ) → tally pairs c own p ≡ own p + arms_value (λ q. cond (c q) (tally pairs c own q) 0) (slice_get pairs p)
  unfolding tally tally_within
  tally-is p =
      ap (λ x. own p + x) (arms_same (λ q. cond (c q) (tally_within pairs c own p q) 0) (λ q. cond (c q) (tally_within pairs c own (suc q) q) 0) pairs p order
      (λ q lt. ap (λ x. cond (c q) x 0) (enough p (suc q) q lt (omega arith))))

  reads_below : ReadsBelow (length pairs) pairs
  reads_below p pair e =
      let within = slice_get_within pairs p pair e in
      let h = order p pair e in
      (reads_later p (length pairs) (left_arm pair) h.0 (omega (arith, within)), reads_later p (length pairs) (right_arm pair) h.1 (omega (arith, within)))

  -- where each pair that hands on is named by one arm, the arms hand on what these pairs have
  pub arms_once : ((q : ℕ) → q < length pairs → c q ≡ true → uses pairs q ≡ 1) → (f : ℕ → ℕ)
      → total (λ p. arms_value (λ q. cond (c q) (f q) 0) (slice_get pairs p)) 0 (length pairs) ≡ total (λ q. cond (c q) (f q) 0) 0 (length pairs)
  arms_once once f =
      let g : ℕ → ℕ = λ q. cond (c q) (f q) 0 in
      arms_total g (length pairs) pairs reads_below ∙ total_same (λ q. uses pairs q * g q) g 0 (length pairs) (λ q low high. single q (omega arith) (c q) refl)
    where
      single : (q : ℕ) → q < length pairs → (b : Bool) → c q ≡ b → uses pairs q * cond b (f q) 0 ≡ cond b (f q) 0
      single q lt true e = rw (once q lt e) (omega arith)
      single q lt false e = omega arith

  -- and the tallies of the others add up to all own numbers
  pub tally_total : ((q : ℕ) → q < length pairs → c q ≡ true → uses pairs q ≡ 1)
      → total (λ p. cond (c p) 0 (tally pairs c own p)) 0 (length pairs) ≡ total own 0 (length pairs)
  tally_total once =
      let n = length pairs in
      let f = tally pairs c own in
      let g : ℕ → ℕ = λ q. cond (c q) (f q) 0 in
      let all : total f 0 n ≡ total own 0 n + total (λ p. arms_value g (slice_get pairs p)) 0 n =
      total_same f (λ p. own p + arms_value g (slice_get pairs p)) 0 n (λ p low high. tally-is p) ∙ total_add own (λ p. arms_value g (slice_get pairs p)) 0 n in
      let handed : total (λ p. arms_value g (slice_get pairs p)) 0 n ≡ total g 0 n = arms_once once f in
      let parts = total_parts c f 0 n in
      omega (arith, all, handed, parts)
