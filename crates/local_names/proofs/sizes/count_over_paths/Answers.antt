use Rattle.std.proofs.Common.{◌≡◌, ◌<◌, refl, ap, sym, ◌∙◌, subst, rules, arith, length}
use Rattle.std.specs.Vec.{vec_len}
use Rattle.graph_order.specs.Orders.{IsGraph}
use Rattle.part_numbers.proofs.PathSums.{graph, path_weights_are, some_node, sums_are}
use Rattle.model_calls.proofs.FirstFaults.{item_at}
use Rattle.model_calls.specs.ModelCallsData.{ModelCallsData}
use Rattle.local_names.proofs.sizes.count_over_paths.Goals as goal

pub walk_sums-requires-clause-graph : goal.walk_sums-requires-clause-graph
walk_sums-requires-clause-graph c =
    subst IsGraph (sym (c.deref.ensures.value ∙ ap (λ (p : ModelCallsData). p.nodes) c.calls.view_is)) (graph c.requires.good c.requires.planned)

pub index-requires : goal.index-requires
index-requires c =
    let sums = sums_are c.requires.good c.requires.planned c.args.limit refl
    (c.deref.ensures.value ∙ ap (λ (p : ModelCallsData). p.nodes) c.calls.view_is)
    (c.deref-2.ensures.value ∙ ap (λ (p : ModelCallsData). p.order) c.calls.view_is)
    (c.deref-3.ensures.value ∙ c.in_ok-weights.ensures) c.in_ok-sums.ensures in
    let count : vec_len c.in_ok-sums.sums ≡ length c.in_ok-sums.sums.items = search rules in
    omega (arith, count, sums.count, some_node c.requires.good c.requires.planned)

pub returns : goal.returns
returns c =
    let sums = sums_are c.requires.good c.requires.planned c.args.limit refl
    (c.deref.ensures.value ∙ ap (λ (p : ModelCallsData). p.nodes) c.calls.view_is)
    (c.deref-2.ensures.value ∙ ap (λ (p : ModelCallsData). p.order) c.calls.view_is)
    (c.deref-3.ensures.value ∙ c.in_ok-weights.ensures) c.in_ok-sums.ensures in
    let some : 0 < length c.in_ok-sums.sums.items = omega (arith, sums.count, some_node c.requires.good c.requires.planned) in
    path_weights_are c.requires.good c.requires.planned c.args.limit c.index.result.now sums
    (item_at c.in_ok-sums.sums.items (length c.in_ok-sums.sums.items) 0 c.index.result.now refl some c.index.ensures)
