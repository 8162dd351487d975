use Rattle.model_calls.specs.Refusal.{At}
use Rattle.compare_designs.proofs.networks.cases.compare_accepted.Goals as goal

pub same_sizes-requires-clause-accepted : goal.same_sizes-requires-clause-accepted
same_sizes-requires-clause-accepted c kind line name few has = c.requires.network.accepted (At kind line name) has
