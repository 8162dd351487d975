-- Cells that are appended one by one: their cards, and how many there are.
use Rattle.std.proofs.Common.{◌≡◌, ℕ, zero, suc, ◌+◌, ◌≤◌, List, [], ◌∷◌, ◌++◌, ◌∙◌, Some, add-one, ap, append-nil, append_assoc, arith, length, length-append, map, option_map, refl, slice_get, sym, take, zero-add}
use Rattle.std.proofs.lemmas.List.{length-map}
use Rattle.std.proofs.lemmas.List.Sums.{sum_by-cons}
use Rattle.std.proofs.lemmas.Option.{slice_get-map}
use Rattle.dom_base.specs.declared.kind.Kind.TheVariants.{N as nch, P as pch}
use Rattle.deck.specs.CircuitData.{CircuitData}
use Rattle.deck.specs.NamedDevices.{NamedDevice, with_devices}
use Rattle.sp_network.specs.Tree.{Tree, inner_count, leaves, map_tree}
use Rattle.sp_network.proofs.TreeImages.{inner_count-map_tree, leaves-map_tree}
use Rattle.domino_cell.specs.Cell.{CellNets}
use Rattle.domino_cell.specs.PushedNames.{numbered_cell}
use Rattle.domino_cell.specs.Spelling.{spell}
use Rattle.domino_cell.specs.StyledCells.{behind_precharge, pull_down_cards, styled_stage}
use Rattle.domino_cell.specs.declared.style.Style.TheVariants.{Precharge as WithPrecharge}
use Rattle.domino_cell.proofs.CellCircuits.{count_with}
use Rattle.domino_cell.proofs.Spellings.{length-spell}
use Rattle.domino_cell.proofs.StyledCells.{length-behind}
use Rattle.latch_bind.proofs.LatchParts.{two_parts}
use Rattle.compound_plan.specs.Plans.{CellTrees, Compound, Simple, cell_cost, compound_costs, cost}
use Rattle.compound_plan.proofs.CompoundCosts.{compound_costs_are}
use Rattle.compound_cell.specs.CompoundCells.{named_cell, output_gate, right_cell}
use Rattle.compound_plan.specs.CellPlans.{clock_of, trees_of}
use Rattle.compound_plan.specs.declared.cell_plan.CellPlan.{CellPlan}
use Rattle.compound_flow.specs.MadeCells.{named_cells, plain_cells}
use Rattle.tree_map.specs.CompoundCover.{cell_trees}

-- a plan as plain data
pub plain_at : (plans : List CellPlan) (k : ℕ) (p : CellPlan) → slice_get plans k ≡ Some p → slice_get (plain_cells plans) k ≡ Some (trees_of p, clock_of p)
plain_at plans k p at = slice_get-map (λ q. (trees_of q, clock_of q)) plans k ∙ ap (option_map (λ q. (trees_of q, clock_of q))) at

pub plain_count : (plans : List CellPlan) → length (plain_cells plans) ≡ length plans
plain_count plans = length-map plans (λ p. (trees_of p, clock_of p))

abbrev pub all_trees : List (CellTrees × ℕ) → List CellTrees
all_trees cells = map (λ (p : CellTrees × ℕ). p.0) cells

pub plain_trees : (plans : List CellPlan) → all_trees (plain_cells plans) ≡ cell_trees plans
plain_trees [] = refl
plain_trees (p ∷ plans) = ap (λ l. trees_of p ∷ l) (plain_trees plans)

-- one more cell
cells_more : (name : ℕ → List ℕ) (k : ℕ) (cells : List (CellTrees × ℕ)) (i : ℕ) (p : CellTrees × ℕ) → slice_get cells i ≡ Some p
    → named_cells name k (take (suc i) cells) ≡ named_cells name k (take i cells) ++ named_cell name p.1 (k + i) p.0
cells_more name k [] i p e = absurd (cc)
cells_more name k (x ∷ cells) zero p e =
    let same : x ≡ p = cc in
    let number : k ≡ k + 0 = omega arith in
    append-nil (named_cell name x.1 k x.0) ∙ (λ j. named_cell name (same j).1 (number j) (same j).0)
cells_more name k (x ∷ cells) (suc i) p e =
    let number : k + 1 + i ≡ k + suc i = omega arith in
    let first = named_cell name x.1 k x.0 in
    ap (λ l. first ++ l) (cells_more name (k + 1) cells i p e)
    ∙ sym (append_assoc first (named_cells name (k + 1) (take i cells)) (named_cell name p.1 (k + 1 + i) p.0))
    ∙ ap (λ n. first ++ named_cells name (k + 1) (take i cells) ++ named_cell name p.1 n p.0) number

-- the cells so far and one more
pub next_cell : (old between new : CircuitData) (name : ℕ → List ℕ) (cells : List (CellTrees × ℕ)) (k : ℕ) (p : CellTrees × ℕ) → slice_get cells k ≡ Some p
    → between ≡ with_devices old (named_cells name 0 (take k cells)) → new ≡ with_devices between (named_cell name p.1 k p.0)
    → new ≡ with_devices old (named_cells name 0 (take (k + 1) cells))
next_cell old between new name cells k p at one two =
    two_parts old between new (named_cells name 0 (take k cells)) (named_cell name p.1 k p.0) one two
    ∙ ap (λ n. with_devices old (named_cells name 0 (take k cells) ++ named_cell name p.1 n p.0)) (sym (zero-add k))
    ∙ ap (with_devices old) (sym (cells_more name 0 cells k p at))
    ∙ ap (λ n. with_devices old (named_cells name 0 (take n cells))) (sym (add-one k))

-- how many devices a stage has, a cell and cells
stage_length : (nets : CellNets (List ℕ)) (t : Tree (List ℕ)) → length (styled_stage WithPrecharge nets t) ≡ leaves t + inner_count t + 2
stage_length nets t =
    let first : NamedDevice (List ℕ) = record { kind = pch; drain = nets.dynamic; gate = nets.clock; source = nets.vdd } in
    let foot : NamedDevice (List ℕ) = record { kind = nch; drain = nets.foot; gate = nets.clock; source = nets.vss } in
    let spelled = spell nch nets.inner t nets.dynamic nets.foot 0 in
    omega (
      arith,
      length-append (first ∷ behind_precharge WithPrecharge nets (inner_count t)) (pull_down_cards nets t),
      length-append spelled (foot ∷ []),
      length-spell nch nets.inner t nets.dynamic nets.foot 0,
      length-behind WithPrecharge nets (inner_count t),
    )

cell_count : (name : ℕ → List ℕ) (clock k : ℕ) (c : CellTrees) → length (named_cell name clock k c) ≡ cell_cost compound_costs c
cell_count name clock k (Simple t) =
    omega (
      arith,
      length-append (styled_stage WithPrecharge (numbered_cell clock k) (map_tree name t)) (output_gate k (Simple t)),
      stage_length (numbered_cell clock k) (map_tree name t),
      leaves-map_tree name t,
      inner_count-map_tree name t,
      compound_costs_are.0 t,
    )
cell_count name clock k (Compound l r) =
    let left = styled_stage WithPrecharge (numbered_cell clock k) (map_tree name l) in
    let right = styled_stage WithPrecharge (right_cell clock k) (map_tree name r) in
    omega (
      arith,
      length-append left (right ++ output_gate k (Compound l r)),
      length-append right (output_gate k (Compound l r)),
      stage_length (numbered_cell clock k) (map_tree name l),
      stage_length (right_cell clock k) (map_tree name r),
      leaves-map_tree name l,
      inner_count-map_tree name l,
      leaves-map_tree name r,
      inner_count-map_tree name r,
      compound_costs_are.1 l r,
    )

pub cells_count : (name : ℕ → List ℕ) (k : ℕ) (cells : List (CellTrees × ℕ)) → length (named_cells name k cells) ≡ cost compound_costs (all_trees cells)
cells_count name k [] = refl
cells_count name k (p ∷ cells) =
    omega (
      arith,
      length-append (named_cell name p.1 k p.0) (named_cells name (k + 1) cells),
      cell_count name p.1 k p.0,
      cells_count name (k + 1) cells,
      sum_by-cons (cell_cost compound_costs) p.0 (all_trees cells),
    )

-- the first cells and one more cost no more than all
cost_room : (cells : List (CellTrees × ℕ)) (i : ℕ) (p : CellTrees × ℕ) → slice_get cells i ≡ Some p
    → cost compound_costs (all_trees (take i cells)) + cell_cost compound_costs p.0 ≤ cost compound_costs (all_trees cells)
cost_room [] i p e = absurd (cc)
cost_room (x ∷ cells) zero p e =
    let same : x ≡ p = cc in
    omega (arith, sum_by-cons (cell_cost compound_costs) x.0 (all_trees cells), ap (λ (q : CellTrees × ℕ). cell_cost compound_costs q.0) same)
cost_room (x ∷ cells) (suc i) p e =
    omega (
      arith,
      sum_by-cons (cell_cost compound_costs) x.0 (all_trees (take i cells)),
      sum_by-cons (cell_cost compound_costs) x.0 (all_trees cells),
      cost_room cells i p e,
    )

-- the next cell has room
pub room_in_circuit : (old between : CircuitData) (name : ℕ → List ℕ) (cells : List (CellTrees × ℕ)) (k : ℕ) (p : CellTrees × ℕ) → slice_get cells k ≡ Some p
    → between ≡ with_devices old (named_cells name 0 (take k cells))
    → length between.devices + cell_cost compound_costs p.0 ≤ length old.devices + cost compound_costs (all_trees cells)
room_in_circuit old between name cells k p at one =
    let first = named_cells name 0 (take k cells) in
    omega (arith, ap (λ (c : CircuitData). length c.devices) one, count_with old first, cells_count name 0 (take k cells), cost_room cells k p at)
