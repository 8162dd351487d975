use Rattle.std.proofs.Common.{◌≡◌, take}
use Rattle.trace_tool.proofs.port_names.first_difference.Given as goal

abbrev pub invariant-loop-index : goal.invariant-loop-index
invariant-loop-index l = take l.index l.wanted ≡ take l.index l.found
