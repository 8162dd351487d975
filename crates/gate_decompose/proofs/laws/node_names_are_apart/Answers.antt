use Rattle.gate_decompose.proofs.NodeNames.{names_are_apart}
use Rattle.gate_decompose.proofs.laws.node_names_are_apart.Goals as goal

pub returns : goal.returns
returns c = names_are_apart
