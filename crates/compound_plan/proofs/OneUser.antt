-- A pair that is used has a user, and a pair that is used once has one, by one arm.
use Rattle.std.proofs.lemmas.Option.{same_Some}
use Rattle.std.proofs.Common.{◌≡◌, ◌⊎◌, inl, inr, refl, sym, ap, subst, ℕ, zero, suc, ◌+◌, ◌≤◌, ◌<◌, Bool, true, false, cond, List, [], ◌∷◌, Some, slice_get, sum_by, count_by, eq-eqb, eqb-true, arith}
use Rattle.std.proofs.lemmas.Bool.{cases_lt}
use Rattle.std.proofs.lemmas.List.Sums.{sum_by-cons}
use Rattle.dual_rail.specs.declared.forest.Arm.{Arm}
use Rattle.dual_rail.specs.declared.forest.Arm.TheVariants.{Literal, Pair as pair_arm}
use Rattle.dual_rail.specs.declared.forest.Pair.{Pair}
use Rattle.dual_rail.specs.declared.forest.Pair.TheVariants.{And, Or}
use Rattle.dual_rail.specs.Forests.{arms_of, is_pair_arm, left_arm, right_arm}
use Rattle.compound_plan.proofs.Tallies.{uses}

-- the arms of a pair name a place
abbrev pub Names : ℕ → Pair → Type 0
Names q x = (left_arm x ≡ pair_arm q) ⊎ (right_arm x ≡ pair_arm q)

arm_counts : (q : ℕ) (a : Arm) → a ≡ pair_arm q → is_pair_arm q a ≡ true
arm_counts q a e = subst (λ b. is_pair_arm q b ≡ true) (sym e) (eq-eqb q q refl)

named_counts : (q : ℕ) (x : Pair) → Names q x → 1 ≤ count_by (is_pair_arm q) (arms_of x)
named_counts q (And a b) n = by (is_pair_arm q a) (is_pair_arm q b) (elim n [ inl e ↦ inl (arm_counts q a e) | inr e ↦ inr (arm_counts q b e) ])
  where
    by : (c d : Bool) → (c ≡ true) ⊎ (d ≡ true) → 1 ≤ 0 + cond c 1 0 + cond d 1 0
    by true true e = omega arith
    by true false e = omega arith
    by false true e = omega arith
    by false false (inl e) = absurd (cc)
    by false false (inr e) = absurd (cc)
named_counts q (Or a b) n = by (is_pair_arm q a) (is_pair_arm q b) (elim n [ inl e ↦ inl (arm_counts q a e) | inr e ↦ inr (arm_counts q b e) ])
  where
    by : (c d : Bool) → (c ≡ true) ⊎ (d ≡ true) → 1 ≤ 0 + cond c 1 0 + cond d 1 0
    by true true e = omega arith
    by true false e = omega arith
    by false true e = omega arith
    by false false (inl e) = absurd (cc)
    by false false (inr e) = absurd (cc)

twice_counts : (q : ℕ) (x : Pair) → left_arm x ≡ pair_arm q → right_arm x ≡ pair_arm q → 2 ≤ count_by (is_pair_arm q) (arms_of x)
twice_counts q (And a b) e f = rw (arm_counts q a e, arm_counts q b f) (omega arith)
twice_counts q (Or a b) e f = rw (arm_counts q a e, arm_counts q b f) (omega arith)

one_counts : {X : Type 0} (f : X → ℕ) (xs : List X) (u : ℕ) (x : X) → slice_get xs u ≡ Some x → f x ≤ sum_by f xs
one_counts f [] u x e = absurd (cc)
one_counts f (y ∷ xs) zero x e = let sum = sum_by-cons f y xs in let same = ap f (same_Some y x e) in omega arith
one_counts f (y ∷ xs) (suc u) x e = let sum = sum_by-cons f y xs in let more = one_counts f xs u x e in omega arith

two_count : {X : Type 0} (f : X → ℕ) (xs : List X) (u p : ℕ) (x y : X) → u < p → slice_get xs u ≡ Some x → slice_get xs p ≡ Some y → f x + f y ≤ sum_by f xs
two_count f [] u p x y lt e g = absurd (cc)
two_count f (z ∷ xs) u zero x y lt e g = absurd (omega arith)
two_count f (z ∷ xs) zero (suc p) x y lt e g = let sum = sum_by-cons f z xs in let same = ap f (same_Some z x e) in let more = one_counts f xs p y g in omega arith
two_count f (z ∷ xs) (suc u) (suc p) x y lt e g = let sum = sum_by-cons f z xs in let more = two_count f xs u p x y (omega arith) e g in omega arith

-- a place that is used once has one user, by one arm
pub one_user : (pairs : List Pair) (q u p : ℕ) (x y : Pair) → uses pairs q ≡ 1 → slice_get pairs u ≡ Some x → Names q x → slice_get pairs p ≡ Some y → Names q y → u ≡ p
one_user pairs q u p x y once e n f m = by (cases_lt u p) (cases_lt p u)
  where
    many : (i j : ℕ) (a b : Pair) → i < j → slice_get pairs i ≡ Some a → Names q a → slice_get pairs j ≡ Some b → Names q b → ⊥
    many i j a b lt g k g' k' =
        let sum = two_count (λ z. count_by (is_pair_arm q) (arms_of z)) pairs i j a b lt g g' in
        let one = named_counts q a k in
        let two = named_counts q b k' in
        omega arith

    by : (u < p) ⊎ (p ≤ u) → (p < u) ⊎ (u ≤ p) → u ≡ p
    by (inl lt) c = absurd (many u p x y lt e n f m)
    by (inr le) (inl lt) = absurd (many p u y x lt f m e n)
    by (inr le) (inr ge) = omega arith

pub one_arm : (pairs : List Pair) (q u : ℕ) (x : Pair) → uses pairs q ≡ 1 → slice_get pairs u ≡ Some x → left_arm x ≡ pair_arm q → right_arm x ≡ pair_arm q → ⊥
one_arm pairs q u x once e f g =
    let two = twice_counts q x f g in
    let sum = one_counts (λ z. count_by (is_pair_arm q) (arms_of z)) pairs u x e in
    omega arith

arm-is : (p : ℕ) (arm : Arm) → is_pair_arm p arm ≡ true → arm ≡ pair_arm p
arm-is p (Literal rail) e = absurd (cc)
arm-is p (pair_arm q) e = ap pair_arm (eqb-true q p e)

named_by : (p : ℕ) (pair : Pair) → 1 ≤ count_by (is_pair_arm p) (arms_of pair) → Names p pair
named_by p (And a b) h = by (is_pair_arm p a) (is_pair_arm p b) refl refl h
  where
    by : (x y : Bool) → is_pair_arm p a ≡ x → is_pair_arm p b ≡ y → 1 ≤ 0 + cond x 1 0 + cond y 1 0 → (a ≡ pair_arm p) ⊎ (b ≡ pair_arm p)
    by true y e f le = inl (arm-is p a e)
    by false true e f le = inr (arm-is p b f)
    by false false e f le = absurd (omega arith)
named_by p (Or a b) h = by (is_pair_arm p a) (is_pair_arm p b) refl refl h
  where
    by : (x y : Bool) → is_pair_arm p a ≡ x → is_pair_arm p b ≡ y → 1 ≤ 0 + cond x 1 0 + cond y 1 0 → (a ≡ pair_arm p) ⊎ (b ≡ pair_arm p)
    by true y e f le = inl (arm-is p a e)
    by false true e f le = inr (arm-is p b f)
    by false false e f le = absurd (omega arith)

-- a pair that is used is named by an arm
pub user : (pairs : List Pair) (p : ℕ) → 1 ≤ uses pairs p → (u : ℕ) × (pair : Pair) × (slice_get pairs u ≡ Some pair) × Names p pair
user [] p h = absurd (omega arith)
user (pair ∷ pairs) p h = by (cases_lt 0 (count_by (is_pair_arm p) (arms_of pair))) (λ g. user pairs p g)
  where
    sum : uses (pair ∷ pairs) p ≡ count_by (is_pair_arm p) (arms_of pair) + uses pairs p
    sum = sum_by-cons (λ x. count_by (is_pair_arm p) (arms_of x)) pair pairs

    by : (0 < count_by (is_pair_arm p) (arms_of pair)) ⊎ (count_by (is_pair_arm p) (arms_of pair) ≤ 0)
        → (1 ≤ uses pairs p → (u : ℕ) × (x : Pair) × (slice_get pairs u ≡ Some x) × Names p x)
        → (u : ℕ) × (x : Pair) × (slice_get (pair ∷ pairs) u ≡ Some x) × Names p x
    by (inl lt) more = (0, pair, refl, named_by p pair (omega arith))
    by (inr le) more = let r = more (omega (arith, sum)) in (suc r.0, r.1, r.2, r.3)
