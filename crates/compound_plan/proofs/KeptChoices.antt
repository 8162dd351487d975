-- What a choice to keep a pair says of it.
use Rattle.std.proofs.Common.{ap, subst, sym, Some, slice_get, ℕ, ◌∙◌, ◌≡◌}
use Rattle.std.proofs.lemmas.Option.{same_Some}
use Rattle.dual_rail.specs.declared.forest.Arm.{Arm}
use Rattle.dual_rail.specs.declared.forest.Arm.TheVariants.{Pair as pair_arm}
use Rattle.dual_rail.specs.declared.forest.Pair.{Pair}
use Rattle.dual_rail.specs.ForestData.{ForestData}
use Rattle.dual_rail.specs.Forests.{left_arm, right_arm}
use Rattle.cover_plan.specs.Covers.{Costs, IsChoice, IsLeast}
use Rattle.cover_plan.specs.Parts.{CoverPart, Join, Keep, TreeShape}
use Rattle.compound_plan.specs.PlanParts.{IsPartOf, free, literal, operator_of, shared}
use Rattle.compound_plan.specs.PlanTrees.{IsFree}
use Rattle.compound_plan.proofs.PlanParts.{part_one}

-- a choice to keep is there for a free edge alone
pub keep_free : (c : Costs) (forest : ForestData) (w h : ℕ) (arm : Arm) (t : CoverPart) (a : ℕ) (s s' : TreeShape) (m : ℕ) → IsPartOf forest arm t → arm ≡ pair_arm a → IsChoice c w h t (Keep s) s' m → IsFree forest a
keep_free c forest w h _ _ a s s' m literal e i = absurd i
keep_free c forest w h _ _ a s s' m (shared never) e i = absurd i
keep_free c forest w h _ _ a s s' m (free {place = q} is f l r) e i = let here : q ≡ a = cc in subst (IsFree forest) here is

-- what a choice says of the pair that is kept
pub keep_least : (c : Costs) (forest : ForestData) (w h : ℕ) (arm : Arm) (t : CoverPart) (a : ℕ) (s s' : TreeShape) (m : ℕ) → IsPartOf forest arm t → arm ≡ pair_arm a → IsChoice c w h t (Keep s) s' m
    → (x : Pair) (l r : CoverPart) → slice_get forest.pairs a ≡ Some x → IsPartOf forest (left_arm x) l → IsPartOf forest (right_arm x) r → (n : ℕ) × IsLeast c w h (Join (operator_of x) l r) s n
keep_least c forest w h _ _ a s s' m literal e i x l r at dl dr = absurd i
keep_least c forest w h _ _ a s s' m (shared never) e i x l r at dl dr = absurd i
keep_least c forest w h _ _ a s s' m (free {place = q} {pair = y} {l = l'} {r = r'} is f d d') e k x l r at dl dr =
    let here : q ≡ a = cc in
    let same : y ≡ x = same_Some y x (sym f ∙ ap (slice_get forest.pairs) here ∙ at) in
    let left = part_one forest d dl (ap left_arm same) in
    let right = part_one forest d' dr (ap right_arm same) in
    (m, subst (λ t. IsLeast c w h t s m) (λ i. Join (operator_of (same i)) (left i) (right i)) k.1)
