-- What the loops over signs, plans and clocks keep.
use Rattle.std.proofs.Common.{◌≡◌, ℕ, zero, suc, ◌+◌, ◌≤◌, ◌<◌, Bool, true, false, cond, List, [], ◌∷◌, ◌++◌, length, take, filter, get_or, ap, subst, ◌∙◌, arith, slice_get, Some, option_map, append-nil, length-append}
use Rattle.std.specs.List.{enumerate_from, flat_map, range_with_len}
use Rattle.std.proofs.lemmas.Grind.{flat_map-append}
use Rattle.std.proofs.lemmas.List.{take_more, length-take, take-map}
use Rattle.std.proofs.lemmas.List.Sums.{sum_by-cons}
use Rattle.std.proofs.lemmas.Option.{slice_get-map}
use Rattle.dom_base.proofs.Lists.{enumerate_from-push}
use Rattle.domino_cell.specs.declared.style.Style.{Style}
use Rattle.sp_network.specs.Tree.{Tree}
use Rattle.sp_network.specs.TypedTree.{tree_of}
use Rattle.sp_network.specs.declared.plan.GatePlan.{GatePlan}
use Rattle.tree_map.specs.MappedCover.{plan_trees}
use Rattle.tree_map.specs.Plans.{tree_cost_by}
use Rattle.style_costs.specs.Styles.{cost_in, costs_of}
use Rattle.synth_flow.specs.SummaryLines.{clock_line}

-- what the first trees cost and one more is within the cost of all
cost_within : (style : Style) (trees : List (Tree ℕ)) (i : ℕ) (tree : Tree ℕ) → slice_get trees i ≡ Some tree
    → cost_in style (take i trees) + tree_cost_by (costs_of style) tree ≤ cost_in style trees
cost_within style [] i tree e = absurd cc
cost_within style (x ∷ trees) zero tree e =
    let same : x ≡ tree = cc in
    omega (arith, sum_by-cons (tree_cost_by (costs_of style)) x trees, ap (tree_cost_by (costs_of style)) same)
cost_within style (x ∷ trees) (suc i) tree e =
    let f = tree_cost_by (costs_of style) in
    omega (arith, sum_by-cons f x (take i trees), sum_by-cons f x trees, cost_within style trees i tree e)

-- so for plans
pub cost_room : (style : Style) (plans : List GatePlan) (i : ℕ) (p : GatePlan) → slice_get plans i ≡ Some p
    → cost_in style (plan_trees (take i plans)) + tree_cost_by (costs_of style) (tree_of p.tree) ≤ cost_in style (plan_trees plans)
cost_room style plans i p e =
    subst (λ (l : List (Tree ℕ)). cost_in style l + tree_cost_by (costs_of style) (tree_of p.tree) ≤ cost_in style (plan_trees plans))
    (take-map (λ (q : GatePlan). tree_of q.tree) i plans)
    (cost_within style (plan_trees plans) i (tree_of p.tree) (slice_get-map (λ (q : GatePlan). tree_of q.tree) plans i ∙ ap (option_map (λ (q : GatePlan). tree_of q.tree)) e))

-- the lines of the clocks and one more
pub clock_lines_next : (cells : List ℕ) (k : ℕ) → k < length cells
    → flat_map clock_line (enumerate_from 1 (take (k + 1) cells)) ≡ flat_map clock_line (enumerate_from 1 (take k cells)) ++ clock_line (k + 1, get_or cells k 0)
clock_lines_next cells k lt =
    let at : 1 + length (take k cells) ≡ k + 1 = omega (arith, length-take k cells, lt) in
    ap (λ l. flat_map clock_line (enumerate_from 1 l)) (take_more cells k 0 lt)
    ∙ ap (flat_map clock_line) (enumerate_from-push 1 (take k cells) (get_or cells k 0) ∙ ap (λ n. enumerate_from 1 (take k cells) ++ (n, get_or cells k 0) ∷ []) at)
    ∙ flat_map-append clock_line (enumerate_from 1 (take k cells)) ((k + 1, get_or cells k 0) ∷ [])
    ∙ ap (λ l. flat_map clock_line (enumerate_from 1 (take k cells)) ++ l) (append-nil (clock_line (k + 1, get_or cells k 0)))

-- one more node, by two marks
pub count_next : (test : ℕ → Bool) (n : ℕ) (more : filter test (range_with_len 0 (n + 1)) ≡ filter test (range_with_len 0 n) ++ cond (test n) (n ∷ []) [])
    → length (filter test (range_with_len 0 (n + 1))) ≡ length (filter test (range_with_len 0 n)) + cond (test n) 1 0
count_next test n more = ap length more ∙ by (test n)
  where
    before : List ℕ
    before = filter test (range_with_len 0 n)

    by : (b : Bool) → length (before ++ cond b (n ∷ []) []) ≡ length before + cond b 1 0
    by true = omega (arith, length-append before (n ∷ []))
    by false = omega (arith, ap length (append-nil before))
