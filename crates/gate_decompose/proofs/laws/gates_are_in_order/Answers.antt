use Rattle.gate_decompose.proofs.GatesOrder.{gates_are_ordered, network_gates_are_in_place}
use Rattle.gate_decompose.proofs.laws.gates_are_in_order.Goals as goal

pub returns-clause-networks : goal.returns-clause-networks
returns-clause-networks c = network_gates_are_in_place

pub returns-clause-ordered : goal.returns-clause-ordered
returns-clause-ordered c = gates_are_ordered
