use Rattle.std.proofs.Common.{subst, ap, ◌∙◌, Bool, List}
use Rattle.std.specs.List.{AllZip}
use Rattle.tree_map.specs.MappedCover.{plan_trees, root_cell_numbers}
use Rattle.tree_map.specs.Plans.{IsTreeOf, roots}
use Rattle.tree_map.proofs.DecidedCover.{decided_cover}
use Rattle.tree_map.proofs.mapped.cover.Goals as goal

pub returns-clause-chosen : goal.returns-clause-chosen
returns-clause-chosen c =
    let forest = c.args.forest.now in
    let trees = plan_trees c.in_ok-cells.plans.items in
    let are = subst (λ (ks : List Bool). AllZip (IsTreeOf forest ks) (roots ks) trees) c.deref.ensures.value c.in_ok-cells.ensures.trees in
    let chosen = c.in_ok-kept.ensures.chosen in
    decided_cover forest c.args.bounds.w c.args.bounds.h c.in_ok-kept.kept.items chosen.0 trees chosen.1 are

pub returns-clause-cells : goal.returns-clause-cells
returns-clause-cells c = c.in_ok-cells.ensures.cells ∙ ap (λ (ks : List Bool). root_cell_numbers ks) c.deref.ensures.value
