use Rattle.trace_tool.proofs.ToldEdges.{edges_are_told}
use Rattle.trace_tool.proofs.laws.edges_are_told.Goals as goal

pub returns : goal.returns
returns c = edges_are_told
