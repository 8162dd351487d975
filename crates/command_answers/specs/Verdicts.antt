-- What a verdict says of a deck.
use Rattle.std.specs.Prelude.{Bool, true, false}
use Rattle.trace_tool.specs.declared.verdict.Verdict.{Verdict}
use Rattle.trace_tool.specs.declared.verdict.Verdict.TheVariants.{Same, Differ, PortsDiffer, Unsettled}

-- the verdict is that all is the same
abbrev pub is_same_verdict : Verdict → Bool
is_same_verdict (Same cycles events) = true
is_same_verdict (Differ cycle pin wanted found) = false
is_same_verdict (PortsDiffer place) = false
is_same_verdict (Unsettled cycle events) = false
