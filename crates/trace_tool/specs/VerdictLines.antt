-- The line of a verdict.
use Rattle.std.specs.Prelude.{Bool, ℕ, List, [], ◌∷◌, ◌++◌, codes}
use Rattle.std.specs.Fmt.{decimal}
use Rattle.dom_base.specs.declared.tri.Tri.{Tri}
use Rattle.dom_base.specs.Tri.{letter_of}
use Rattle.stim_text.specs.CycleLines.{bit_letter}
use Rattle.trace_tool.specs.TraceLines.{unsettled_line}
use Rattle.trace_tool.specs.declared.verdict.Verdict.{Verdict}
use Rattle.trace_tool.specs.declared.verdict.Verdict.TheVariants.{Same, Differ, PortsDiffer, Unsettled}

-- the line of so many cycles whose outputs are all the network's
abbrev pub same_line : ℕ → List ℕ
same_line cycles = codes "same " ++ decimal cycles ++ codes " cycles\n"

-- the line of an output that differs in a cycle: the bit wanted and the value found
abbrev pub difference_line : ℕ → List ℕ → Bool → Tri → List ℕ
difference_line cycle pin wanted found =
    codes "differ cycle " ++ decimal cycle ++ codes " pin " ++ pin ++ codes " wanted " ++ bit_letter wanted ∷ []
    ++ codes " found " ++ letter_of found ∷ codes "\n"

-- the line of the place at which the ports differ
abbrev pub place_line : ℕ → List ℕ
place_line place = codes "ports differ at place " ++ decimal place ++ codes "\n"

abbrev pub verdict_line : Verdict → List ℕ
verdict_line (Same cycles events) = same_line cycles
verdict_line (Differ cycle pin wanted found) = difference_line cycle pin wanted found
verdict_line (PortsDiffer place) = place_line place
verdict_line (Unsettled cycle events) = unsettled_line cycle events
