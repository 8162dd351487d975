use Rattle.std.proofs.Common.{subst, sym, ap, ◌∙◌, Bool, List}
use Rattle.std.specs.List.{AllZip}
use Rattle.compound_plan.specs.Plans.{IsCellOf, compound_costs}
use Rattle.tree_map.specs.CompoundCover.{AreOrs, cell_trees}
use Rattle.tree_map.specs.MappedCover.{root_cell_numbers}
use Rattle.tree_map.specs.Plans.{roots}
use Rattle.tree_map.proofs.CompoundCells.{chosen_cells, or_roots}
use Rattle.tree_map.proofs.mapped.compound_cover.Goals as goal

pub compound_cells_of-requires-clause-ors : goal.compound_cells_of-requires-clause-ors
compound_cells_of-requires-clause-ors c =
    let d = c.in_ok-decided.decided in
    subst (AreOrs c.args.forest.now) (sym c.deref-2.ensures.value)
    (or_roots compound_costs c.args.forest.now c.args.bounds.w c.args.bounds.h d.kept.items d.split.items c.in_ok-decided.ensures.0 c.in_ok-decided.ensures.1)

pub returns-clause-chosen : goal.returns-clause-chosen
returns-clause-chosen c =
    let forest = c.args.forest.now in
    let d = c.in_ok-decided.decided in
    let cells = cell_trees c.in_ok-cells.plans.items in
    let are = subst (λ (ks : List Bool). AllZip (IsCellOf forest ks d.split.items) (roots ks) cells) c.deref.ensures.value
    (subst (λ (ds : List Bool). AllZip (IsCellOf forest c.deref.result.now ds) (roots c.deref.result.now) cells) c.deref-2.ensures.value c.in_ok-cells.ensures.trees) in
    (d.split.items, chosen_cells compound_costs forest c.args.bounds.w c.args.bounds.h d.kept.items d.split.items c.in_ok-decided.ensures.0 c.in_ok-decided.ensures.1 cells are)

pub returns-clause-cells : goal.returns-clause-cells
returns-clause-cells c = c.in_ok-cells.ensures.cells ∙ ap (λ (ks : List Bool). root_cell_numbers ks) c.deref.ensures.value
