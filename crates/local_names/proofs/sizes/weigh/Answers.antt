use Rattle.std.proofs.Common.{◌≤◌, rules}
use Rattle.graph_order.specs.WalkSums.{largest_u64}
use Rattle.local_names.proofs.Weights.{weighed-by_latches, weighed-by_letters, weighed-by_names}
use Rattle.local_names.proofs.sizes.weigh.Goals as goal

pub returns-in-Signals : goal.returns-in-Signals
returns-in-Signals c = λ m there.
    let few : c.count.result ≤ largest_u64 = search rules in
    weighed-by_names c.args.file.now c.args.model c.count.result c.args.limit m there c.args.names.now c.requires.named c.in-Signals.is c.count.ensures few

pub returns-in-Letters : goal.returns-in-Letters
returns-in-Letters c = λ m there.
    weighed-by_letters c.args.file.now c.args.model c.weigh_parts.result c.args.limit m there c.requires.within c.in-Letters.is c.weigh_parts.ensures

pub returns-in-Sinks : goal.returns-in-Sinks
returns-in-Sinks c = λ m there.
    weighed-by_latches c.args.file.now c.args.model c.weigh_parts-in-Sinks.result c.args.limit m there c.requires.within c.in-Sinks.is c.weigh_parts-in-Sinks.ensures
