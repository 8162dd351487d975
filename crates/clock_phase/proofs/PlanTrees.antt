-- Trees and clocks of plans, plan by plan.
use Rattle.std.proofs.Common.{◌≡◌, refl, ap, ◌∙◌, ℕ, zero, suc, ◌+◌, ◌<◌, List, [], ◌∷◌, ◌++◌, length, map, take, set, get_or, Some, slice_get, option_map, take-suc, take-suc-set, add-one, arith}
use Rattle.std.proofs.lemmas.Option.{slice_get-get_or, slice_get-map}
use Rattle.std.proofs.lemmas.List.{length-map, map-append, map-set}
use Rattle.sp_network.specs.TypedTree.{tree_of}
use Rattle.sp_network.specs.declared.plan.GatePlan.{GatePlan}
use Rattle.clock_phase.specs.Plans.{clocks_of, trees_of}

pub tree_at : (plans : List GatePlan) (k : ℕ) (d : GatePlan) → k < length plans → slice_get (trees_of plans) k ≡ Some (tree_of (get_or plans k d).tree)
tree_at plans k d lt = slice_get-map (λ (p : GatePlan). tree_of p.tree) plans k ∙ ap (option_map (λ (p : GatePlan). tree_of p.tree)) (slice_get-get_or plans k d lt)

-- a plan with its own tree and another clock
pub trees_stay : (plans : List GatePlan) (k : ℕ) (d : GatePlan) (clock : ℕ)
    → trees_of (set plans k (record { tree = (get_or plans k d).tree; clock = clock })) ≡ trees_of plans
trees_stay [] k d clock = refl
trees_stay (p ∷ plans) zero d clock = refl
trees_stay (p ∷ plans) (suc k) d clock = ap (λ more. tree_of p.tree ∷ more) (trees_stay plans k d clock)

pub one_clock_more : (plans : List GatePlan) (k : ℕ) (plan : GatePlan) → k < length plans
    → take (k + 1) (clocks_of (set plans k plan)) ≡ take k (clocks_of plans) ++ plan.clock ∷ []
one_clock_more plans k plan lt =
    rw (map-set (λ (p : GatePlan). p.clock) plans k plan, add-one, take-suc-set (clocks_of plans) k plan.clock (omega (arith, length-map plans (λ (p : GatePlan). p.clock)))) refl

pub map_one_more : (f : ℕ → ℕ) (levels : List ℕ) (k : ℕ) → k < length levels
    → map f (take (k + 1) levels) ≡ map f (take k levels) ++ f (get_or levels k 0) ∷ []
map_one_more f levels k lt = rw (add-one, take-suc levels k 0 lt) (map-append f (take k levels) (get_or levels k 0 ∷ []))
