use Rattle.std.proofs.Common.{ap, ◌∙◌, map}
use Rattle.std.proofs.lemmas.Result.{on_ok_weaker}
use Rattle.tree_map.specs.CoverRows.{entry_of}
use Rattle.tree_map.specs.CoverSums.{with_cut}
use Rattle.tree_map.specs.LeastPlans.{operator_of}
use Rattle.tree_map.proofs.OwnSums.{cut_is, few_at}
use Rattle.tree_map.proofs.tables.push_pair.Goals as goal

pub cut_of-cut-requires-clause-own : goal.cut_of-cut-requires-clause-own
cut_of-cut-requires-clause-own c =
    few_at c.args.table.now c.args.row.now (operator_of c.args.pair) (map entry_of c.args.lefts.now) (map entry_of c.args.rights.now) c.requires.count c.requires.row
    c.push_row.new.self c.count-place.result c.in_ok-push_row.ensures c.count-place.ensures c.least_sum-own.result c.least_sum-own.ensures
    c.requires.costs c.requires.lefts c.requires.rights

pub returns : goal.returns
returns c =
    let cut =
    cut_is c.args.table.now c.args.row.now (operator_of c.args.pair) (map entry_of c.args.lefts.now) (map entry_of c.args.rights.now) c.requires.count c.requires.row
    c.push_row.new.self c.count-place.result c.in_ok-push_row.ensures c.count-place.ensures c.least_sum-own.result c.least_sum-own.ensures
    c.costs.result c.costs.ensures c.cut_of-cut.result c.cut_of-cut.ensures in
    on_ok_weaker c.push_cut.result (λ e. e ∙ ap (λ t. with_cut t c.cut_of-cut.result) c.in_ok-push_row.ensures ∙ ap (with_cut _) cut) c.push_cut.ensures
