use Rattle.std.proofs.Common.{ap, map, sym, arith}
use Rattle.cover_plan.specs.Covers.{Costs}
use Rattle.tree_map.specs.CoverRows.{entry_of}
use Rattle.tree_map.proofs.OwnSums.{lowest_few}
use Rattle.tree_map.proofs.tables.split_sum.Goals as goal

pub overflow_add-result : goal.overflow_add-result
overflow_add-result c =
    let left = lowest_few (map entry_of c.args.lefts.now) c.requires.lefts c.in_ok-cheapest.field-0 (sym c.in_ok-cheapest.ensures) in
    let right = lowest_few (map entry_of c.args.rights.now) c.requires.rights c.in_ok-cheapest-2.field-0 (sym c.in_ok-cheapest-2.ensures) in
    omega (arith, left, right)

pub overflow_add-result-2 : goal.overflow_add-result-2
overflow_add-result-2 c =
    let left = lowest_few (map entry_of c.args.lefts.now) c.requires.lefts c.in_ok-cheapest.field-0 (sym c.in_ok-cheapest.ensures) in
    let right = lowest_few (map entry_of c.args.rights.now) c.requires.rights c.in_ok-cheapest-2.field-0 (sym c.in_ok-cheapest-2.ensures) in
    let costs = ap (λ (x : Costs). x.compound) c.costs.view_is in
    omega (arith, left, right, costs, c.requires.costs.few_compound)

pub returns-clause-few : goal.returns-clause-few
returns-clause-few c =
    let left = lowest_few (map entry_of c.args.lefts.now) c.requires.lefts c.in_ok-cheapest.field-0 (sym c.in_ok-cheapest.ensures) in
    let right = lowest_few (map entry_of c.args.rights.now) c.requires.rights c.in_ok-cheapest-2.field-0 (sym c.in_ok-cheapest-2.ensures) in
    let costs = ap (λ (x : Costs). x.compound) c.costs.view_is in
    omega (arith, left, right, costs, c.requires.costs.few_compound)
