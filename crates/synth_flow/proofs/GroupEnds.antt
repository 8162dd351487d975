-- The sizes of the groups of a deck's cards, and where they end.
use Rattle.std.proofs.Common.{◌≡◌, ℕ, ◌+◌, ◌-◌, ◌<◌, ◌≤◌, Bool, List, [], ◌∷◌, ◌++◌, map, length, take, drop, get_or, zip}
use Rattle.std.proofs.Common.{refl, ap, ap₂, sym, ◌∙◌, subst, arith, replicate, append_assoc}
use Rattle.std.specs.List.{AllByRecursion, enumerate_from}
use Rattle.std.proofs.lemmas.List.{map-append, drop_more, take_all}
use Rattle.std.proofs.lemmas.List.FromFn.{length-enumerate_from}
use Rattle.deck.specs.NamedDevices.{NamedDevice}
use Rattle.domino_cell.specs.declared.style.Style.{Style}
use Rattle.latch_bind.specs.Latches.{named_latch}
use Rattle.sp_network.specs.Tree.{Tree, leaves}
use Rattle.sp_network.specs.TypedTree.{tree_of}
use Rattle.sp_network.specs.declared.plan.GatePlan.{GatePlan}
use Rattle.style_costs.specs.Styles.{costs_of}
use Rattle.tree_map.specs.MappedCover.{plan_trees}
use Rattle.tree_map.specs.Plans.{tree_cost_by}
use Rattle.deck_form.specs.DeckGroups.{card_groups, ends_from}
use Rattle.deck_form.specs.DeckNets.{CellPlan, SinkEnd, named_cell, named_complement, named_sink, sink_nets}
use Rattle.deck_form.proofs.CellDevices.{cell_count}
use Rattle.synth_flow.specs.GroupEnds.{ends_of, group_sizes}
use Rattle.synth_flow.proofs.DeckFigures.{latch_count}

-- the places by sizes are those of groups
pub ends_by_size : {X : Type 0} (start : ℕ) (groups : List (List X)) → ends_from start groups
    ≡ ends_of start (map (λ (g : List X). length g) groups)
ends_by_size start [] = refl
ends_by_size start (group ∷ groups) = ap (λ l. (start + length group) ∷ l) (ends_by_size (start + length group) groups)

-- parts of one size
alike : {X Y : Type 0} (part : X → List Y) (n : ℕ) → ((x : X) → length (part x) ≡ n) → (xs : List X)
    → map (λ (g : List Y). length g) (map part xs) ≡ replicate (length xs) n
alike part n each [] = refl
alike part n each (x ∷ xs) = ap₂ (λ a l. a ∷ l) (each x) (alike part n each xs)

cell_sizes : (style : Style) (pins : List (List ℕ)) (lc k : ℕ) (cells : List CellPlan)
    → map (λ (g : List (NamedDevice (List ℕ))). length g) (map (named_cell style pins lc) (enumerate_from k cells))
    ≡ map (tree_cost_by (costs_of style)) (map (λ (c : CellPlan). c.tree) cells)
cell_sizes style pins lc k [] = refl
cell_sizes style pins lc k (c ∷ cells) = ap₂ (λ a l. a ∷ l) (cell_count style pins lc k c) (cell_sizes style pins lc (k + 1) cells)

-- the sizes of a deck's groups
pub sizes_are : (style : Style) (pins outs : List (List ℕ)) (starts : List Bool) (cells : List CellPlan) (complements : List ℕ) (ends : List SinkEnd)
    → map (λ (g : List (NamedDevice (List ℕ))). length g) (card_groups style pins outs starts cells complements ends)
    ≡ group_sizes style (map (λ (c : CellPlan). c.tree) cells) (length complements) (length starts) (length (zip (sink_nets outs starts) ends))
sizes_are style pins outs starts cells complements ends =
    let size : List (NamedDevice (List ℕ)) → ℕ = λ (g : List (NamedDevice (List ℕ))). length g in
    let lc : ℕ = length pins + length starts in
    let a = map (named_cell style pins lc) (enumerate_from 0 cells) in
    let b = map (named_complement pins) complements in
    let c = map named_latch (enumerate_from 0 starts) in
    let d = map (named_sink pins) (zip (sink_nets outs starts) ends) in
    map-append size (a ++ b ++ c) d
    ∙ ap₂ (λ x y. x ++ y)
    (map-append size (a ++ b) c
    ∙ ap₂ (λ x y. x ++ y)
    (map-append size a b ∙ ap₂ (λ x y. x ++ y) (cell_sizes style pins lc 0 cells) (alike (named_complement pins) 2 (λ leaf. refl) complements))
    (alike named_latch 9 latch_count (enumerate_from 0 starts) ∙ ap (λ n. replicate n 9) (length-enumerate_from 0 starts)))
    (alike (named_sink pins) 2 (λ p. refl) (zip (sink_nets outs starts) ends))

-- one more size
pub next_place : (end end' k d : ℕ) (sizes places places' all : List ℕ) → k < length sizes
    → places ++ ends_of end (drop k sizes) ≡ all → end' ≡ end + get_or sizes k d → places' ≡ places ++ end' ∷ []
    → places' ++ ends_of end' (drop (k + 1) sizes) ≡ all
next_place end end' k d sizes places places' all lt are added pushed =
    let rest : List ℕ = ends_of end' (drop (k + 1) sizes) in
    let step : ends_of end (drop k sizes) ≡ end' ∷ rest =
    ap (ends_of end) (drop_more sizes k d lt) ∙ ap (λ n. n ∷ ends_of n (drop (k + 1) sizes)) (sym added) in
    ap (λ l. l ++ rest) pushed ∙ append_assoc places (end' ∷ []) rest ∙ ap (λ l. places ++ l) (sym step) ∙ are

-- and its place is as low as all
pub next_low : (bound end k d : ℕ) (sizes : List ℕ) → k < length sizes
    → AllByRecursion (λ place. place < bound) (ends_of end (drop k sizes))
    → (end + get_or sizes k d < bound)
    × AllByRecursion (λ place. place < bound) (ends_of (end + get_or sizes k d) (drop (k + 1) sizes))
next_low bound end k d sizes lt low =
    subst (λ l. AllByRecursion (λ place. place < bound) (ends_of end l)) (drop_more sizes k d lt) low

-- items that are filled up to a length
pub filled : (xs ys : List ℕ) (n m v : ℕ) → n ≡ length xs + m → ys ≡ take n xs ++ replicate (n - length xs) v → ys ≡ xs ++ replicate m v
filled xs ys n m v long are =
    let left : n - length xs ≡ m = omega (arith, long) in
    are ∙ ap₂ (λ a b. a ++ replicate b v) (take_all n xs (omega (arith, long))) left

-- plans of small trees
pub small_plans : (plans : List GatePlan) → AllByRecursion (λ (tree : Tree ℕ). leaves tree ≤ 48) (plan_trees plans)
    → AllByRecursion (λ (p : GatePlan). leaves (tree_of p.tree) ≤ 48) plans
small_plans [] small = tt
small_plans (p ∷ plans) small = (small.0, small_plans plans small.1)
