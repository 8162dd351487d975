use Rattle.gate_decompose.proofs.GateValues.{sinks_have_values}
use Rattle.gate_decompose.proofs.NetworkOrder.{networks_are_ordered}
use Rattle.gate_decompose.proofs.TermValues.{terms_have_values}
use Rattle.gate_decompose.proofs.laws.gates_keep_values.Goals as goal

pub returns-clause-terms : goal.returns-clause-terms
returns-clause-terms c = terms_have_values

pub returns-clause-sinks : goal.returns-clause-sinks
returns-clause-sinks c = sinks_have_values

pub returns-clause-networks : goal.returns-clause-networks
returns-clause-networks c = networks_are_ordered
