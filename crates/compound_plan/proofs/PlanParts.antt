-- The part below each arm, and the shape that a choice gives it.
use Rattle.std.proofs.Common.{◌≡◌, inl, inr, refl, sym, ap, subst, ◌∙◌, ℕ, zero, suc, ◌≤◌, Bool, true, false, cond, List, length, Some, slice_get, get_or, arith}
use Rattle.std.proofs.lemmas.Option.{get_or_from_slice_get, same_Some, slice_get_cases}
use Rattle.dual_rail.specs.declared.forest.Arm.{Arm}
use Rattle.dual_rail.specs.declared.forest.Arm.TheVariants.{Literal, Pair as pair_arm}
use Rattle.dual_rail.specs.declared.forest.Pair.{Pair}
use Rattle.dual_rail.specs.ForestData.{ForestData}
use Rattle.dual_rail.specs.ForestOrder.{AreInOrder, ReadsBefore}
use Rattle.dual_rail.specs.Forests.{left_arm, right_arm}
use Rattle.cover_plan.specs.Parts.{Choice, CoverPart, CutOff, End, Join, Keep, Nothing, TreeShape, leaf_shape}
use Rattle.cover_plan.specs.Covers.{Costs, IsChoice}
use Rattle.compound_plan.specs.PlanParts.{IsPartOf, literal as end_literal, shared, free, IsTaken, arm_shape, operator_of}
use Rattle.compound_plan.specs.PlanTrees.{IsFree, is_free, is_kept}
use Rattle.compound_plan.proofs.FreePairs.{is_free-of, is_free-true}

-- an arm has one part below it
pub part_one : (forest : ForestData) {arm other : Arm} {s t : CoverPart} → IsPartOf forest arm s → IsPartOf forest other t → arm ≡ other → s ≡ t
part_one forest end_literal end_literal same = refl
part_one forest end_literal (shared never) same = refl
part_one forest end_literal (free is e l r) same = absurd (cc)
part_one forest (shared never) end_literal same = refl
part_one forest (shared x) (shared y) same = refl
part_one forest (shared {place = p} never) (free {place = q} is e l r) same = let here : p ≡ q = cc in absurd (never (subst (IsFree forest) (sym here) is))
part_one forest (free is e l r) end_literal same = absurd (cc)
part_one forest (free {place = p} is e l r) (shared {place = q} never) same = let here : p ≡ q = cc in absurd (never (subst (IsFree forest) here is))
part_one forest (free {place = p} {pair = x} is e l r) (free {place = q} {pair = y} is' e' l' r') same =
    let here : p ≡ q = cc in
    let pair : x ≡ y = same_Some x y (sym e ∙ ap (slice_get forest.pairs) here ∙ e') in
    let left = part_one forest l l' (ap left_arm pair) in
    let right = part_one forest r r' (ap right_arm pair) in
    λ i. Join (operator_of (pair i)) (left i) (right i)

-- the part below each arm
pub arm_part : (forest : ForestData) → AreInOrder forest.pairs → (room : ℕ) (arm : Arm) → ReadsBefore room arm → room ≤ length forest.pairs → (t : CoverPart) × IsPartOf forest arm t
arm_part forest order room (Literal rail) low le = (End, end_literal)
arm_part forest order zero (pair_arm q) low le = absurd (omega arith)
arm_part forest order (suc room) (pair_arm q) low le = by (is_free forest q) refl (λ arm before. arm_part forest order room arm before (omega arith))
  where
    by : (b : Bool) → is_free forest q ≡ b → ((arm : Arm) → ReadsBefore room arm → (t : CoverPart) × IsPartOf forest arm t) → (t : CoverPart) × IsPartOf forest (pair_arm q) t
    by false e more = (End, shared (λ f. let yes_free = is_free-of forest q f in cc))
    by true e more =
        elim (slice_get_cases forest.pairs q).1 [
          | inl found ↦ at_pair found.0 found.2
          | inr past ↦ absurd (omega (arith, past.0))
        ]
      where
        weaker : (arm : Arm) → ReadsBefore q arm → ReadsBefore room arm
        weaker (Literal rail) g = tt
        weaker (pair_arm n) g = omega arith

        at_pair : (x : Pair) → slice_get forest.pairs q ≡ Some x → (t : CoverPart) × IsPartOf forest (pair_arm q) t
        at_pair x f =
            let o = order q x f in
            let l = more (left_arm x) (weaker (left_arm x) o.0) in
            let r = more (right_arm x) (weaker (right_arm x) o.1) in
            (Join (operator_of x) l.0 r.0, free (is_free-true forest q e) f l.1 r.1)

-- a choice that is taken gives its arm the shape that it says
pub taken_shape : (c : Costs) (forest : ForestData) (w h : ℕ) (kept : List Bool) (shapes : List TreeShape) (only_free : (place : ℕ) → is_kept kept place ≡ true → IsFree forest place)
    (arm : Arm) (part : CoverPart) (x : Choice) (s : TreeShape) (m : ℕ) → IsTaken forest kept shapes arm x → IsChoice c w h part x s m → s ≡ arm_shape kept (λ p. get_or shapes p leaf_shape) arm
taken_shape c forest w h kept shapes only_free (Literal rail) End Nothing s m t i = i.0
taken_shape c forest w h kept shapes only_free (Literal rail) End (Keep k) s m t i = absurd i
taken_shape c forest w h kept shapes only_free (Literal rail) End CutOff s m t i = absurd i
taken_shape c forest w h kept shapes only_free (Literal rail) (Join op l r) Nothing s m t i = absurd i
taken_shape c forest w h kept shapes only_free (Literal rail) (Join op l r) (Keep k) s m t i = absurd (cc)
taken_shape c forest w h kept shapes only_free (Literal rail) (Join op l r) CutOff s m t i = absurd (cc)
taken_shape c forest w h kept shapes only_free (pair_arm p) End (Keep k) s m t i = absurd i
taken_shape c forest w h kept shapes only_free (pair_arm p) End CutOff s m t i = absurd i
taken_shape c forest w h kept shapes only_free (pair_arm p) End Nothing s m never i = by (is_kept kept p) refl
  where
    by : (b : Bool) → is_kept kept p ≡ b → s ≡ cond b (get_or shapes p leaf_shape) leaf_shape
    by true e = absurd (never (only_free p e))
    by false e = i.0
taken_shape c forest w h kept shapes only_free (pair_arm p) (Join op l r) Nothing s m t i = absurd i
taken_shape c forest w h kept shapes only_free (pair_arm p) (Join op l r) (Keep k) s m t i = rw t.0 (i.0 ∙ sym (get_or_from_slice_get shapes p k leaf_shape t.1))
taken_shape c forest w h kept shapes only_free (pair_arm p) (Join op l r) CutOff s m t i = rw t.0 i.0
