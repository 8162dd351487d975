use Rattle.gate_decompose.proofs.NeededSets.{pass_is_needed}
use Rattle.gate_decompose.proofs.laws.pass_is_needed.Goals as goal

pub returns : goal.returns
returns c = λ gates signs order n s a b is. pass_is_needed gates signs order n s a b is
