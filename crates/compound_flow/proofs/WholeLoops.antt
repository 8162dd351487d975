-- Cells and their whole trees, one by one.
use Rattle.std.specs.Prelude.{Bool, List}
use Rattle.std.proofs.Common.{◌≡◌, ℕ, ◌<◌, [], ◌∷◌, ◌++◌, ◌∙◌, Some, ap, ap₂, append-nil, append_assoc, arith, length, length-append, map, refl, slice_get, sym}
use Rattle.std.proofs.lemmas.List.{length-map}
use Rattle.std.specs.Vec.Iter.{into_iter_items, into_iter_len, into_iter_steps}
use Rattle.std.specs.declared.vec.IntoIter.{IntoIter}
use Rattle.dom_base.proofs.Lists.{length-none, map-push}
use Rattle.sp_network.specs.Tree.{Tree}
use Rattle.sp_network.specs.TypedTree.{tree_of}
use Rattle.sp_network.specs.declared.plan.GatePlan.{GatePlan}
use Rattle.clock_phase.specs.Plans.{clocks_of}
use Rattle.compound_plan.specs.CellPlans.{clock_of, trees_of}
use Rattle.compound_plan.specs.Plans.{CellTrees, Compound, Simple}
use Rattle.compound_plan.specs.declared.cell_plan.CellPlan.{CellPlan}
use Rattle.compound_cell.specs.CompoundCells.{whole_tree}
use Rattle.tree_map.specs.CompoundCover.{cell_trees}
use Rattle.tree_map.specs.MappedCover.{plan_trees}
use Rattle.compound_flow.specs.WholePlans.{is_compound, parted, parted_trees, plan_clocks}

-- the cell of its whole tree
part_whole : (c : CellTrees) → parted (is_compound c) (whole_tree c) ≡ c
part_whole (Simple tree) = refl
part_whole (Compound l r) = refl

pub parts_are : (cells : List CellTrees) → parted_trees (map is_compound cells) (map whole_tree cells) ≡ cells
parts_are [] = refl
parts_are (c ∷ cells) = ap₂ (λ x xs. x ∷ xs) (part_whole c) (parts_are cells)

-- some items are taken from a list, and the rest is still to come
pub record IsInTurn {X A : Type 0} (start now : IntoIter X A) (yielded : List X) : Type 0 where
  pub items : yielded ++ into_iter_items now ≡ into_iter_items start
  pub count : into_iter_len now ≡ length (into_iter_items now)

pub next_turn : {X A : Type 0} (start now next : IntoIter X A) (yielded : List X) (x : X) → IsInTurn start now yielded → into_iter_steps now (Some x) next
    → IsInTurn start next (yielded ++ x ∷ [])
next_turn start now next yielded x turn step = record {
  items = append_assoc yielded (x ∷ []) (into_iter_items next) ∙ ap (λ l. yielded ++ l) (sym step.0) ∙ turn.items;
  count = let short = ap length step.0 in omega (arith, turn.count, step.1, short);
}

pub all_taken : {X A : Type 0} (start now : IntoIter X A) (yielded : List X) → IsInTurn start now yielded → into_iter_len now ≡ 0 → yielded ≡ into_iter_items start
all_taken start now yielded turn none =
    sym (append-nil yielded) ∙ ap (λ l. yielded ++ l) (sym (length-none (into_iter_items now) (sym turn.count ∙ none))) ∙ turn.items

-- the whole trees of the cells so far, and which of these are compound
pub record AreWholesSoFar {A : Type 0} (start now : IntoIter CellPlan A) (yielded : List CellPlan) (wholes : List GatePlan) (compound : List Bool) : Type 0 where
  pub turn : IsInTurn start now yielded
  pub trees : plan_trees wholes ≡ map whole_tree (cell_trees yielded)
  pub kinds : compound ≡ map is_compound (cell_trees yielded)

-- one more whole tree
pub next_whole : (old new : List GatePlan) (yielded : List CellPlan) (plan : CellPlan) (whole : GatePlan) → plan_trees old ≡ map whole_tree (cell_trees yielded)
    → new ≡ old ++ whole ∷ [] → tree_of whole.tree ≡ whole_tree (trees_of plan) → plan_trees new ≡ map whole_tree (cell_trees (yielded ++ plan ∷ []))
next_whole old new yielded plan whole before is tree =
    ap plan_trees is ∙ map-push (λ (p : GatePlan). tree_of p.tree) old whole ∙ (λ i. before i ++ tree i ∷ [])
    ∙ sym (ap (map whole_tree) (map-push trees_of yielded plan) ∙ map-push whole_tree (cell_trees yielded) (trees_of plan))

pub next_kind : (old new : List Bool) (yielded : List CellPlan) (plan : CellPlan) (kind : Bool) → old ≡ map is_compound (cell_trees yielded)
    → new ≡ old ++ kind ∷ [] → kind ≡ is_compound (trees_of plan) → new ≡ map is_compound (cell_trees (yielded ++ plan ∷ []))
next_kind old new yielded plan kind before is same =
    is ∙ (λ i. before i ++ same i ∷ []) ∙ sym (ap (map is_compound) (map-push trees_of yielded plan) ∙ map-push is_compound (cell_trees yielded) (trees_of plan))

-- the cells of the whole trees so far
pub record ArePartedSoFar {A : Type 0} (compound : List Bool) (start now : IntoIter GatePlan A) (yielded : List GatePlan) (plans : List CellPlan) : Type 0 where
  pub turn : IsInTurn start now yielded
  pub count : length plans ≡ length yielded
  pub trees : cell_trees plans ≡ parted_trees compound (plan_trees yielded)
  pub clocks : plan_clocks plans ≡ clocks_of yielded

-- one more
parted_more : (compound : List Bool) (trees : List (Tree ℕ)) (t : Tree ℕ) (kind : Bool) → slice_get compound (length trees) ≡ Some kind
    → parted_trees compound (trees ++ t ∷ []) ≡ parted_trees compound trees ++ parted kind t ∷ []
parted_more [] trees t kind e = absurd (cc)
parted_more (k ∷ compound) [] t kind e = let same : k ≡ kind = cc in ap (λ b. parted b t ∷ []) same
parted_more (k ∷ compound) (u ∷ trees) t kind e = ap (λ l. parted k u ∷ l) (parted_more compound trees t kind e)

-- the place of the next is among them
pub next_place : {X A : Type 0} (start now next : IntoIter X A) (yielded : List X) (x : X) → IsInTurn start now yielded → into_iter_steps now (Some x) next
    → length yielded < length (into_iter_items start)
next_place start now next yielded x turn step =
    let all = ap length turn.items in
    let rest = ap length step.0 in
    omega (arith, all, rest, length-append yielded (into_iter_items now))

pub next_part : {A : Type 0} (compound : List Bool) (start now next : IntoIter GatePlan A) (yielded : List GatePlan) (whole : GatePlan) (old new : List CellPlan) (plan : CellPlan) (kind : Bool)
    → ArePartedSoFar compound start now yielded old → into_iter_steps now (Some whole) next → new ≡ old ++ plan ∷ [] → trees_of plan ≡ parted kind (tree_of whole.tree)
    → clock_of plan ≡ whole.clock → slice_get compound (length old) ≡ Some kind → ArePartedSoFar compound start next (yielded ++ whole ∷ []) new
next_part compound start now next yielded whole old new plan kind before step is tree clock at =
    let long : length (plan_trees yielded) ≡ length old = length-map yielded (λ (p : GatePlan). tree_of p.tree) ∙ sym before.count in
    record {
      turn = next_turn start now next yielded whole before.turn step;
      count = omega (arith, ap length is, length-append old (plan ∷ []), length-append yielded (whole ∷ []), before.count);
      trees = ap cell_trees is ∙ map-push trees_of old plan ∙ (λ i. before.trees i ++ tree i ∷ [])
          ∙ sym (ap (parted_trees compound) (map-push (λ (p : GatePlan). tree_of p.tree) yielded whole)
          ∙ parted_more compound (plan_trees yielded) (tree_of whole.tree) kind (ap (slice_get compound) long ∙ at));
      clocks = ap plan_clocks is ∙ map-push clock_of old plan ∙ (λ i. before.clocks i ++ clock i ∷ []) ∙ sym (map-push (λ (p : GatePlan). p.clock) yielded whole);
    }
