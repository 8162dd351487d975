use Rattle.std.proofs.Common.{◌≡◌, ◌++◌, take}
use Rattle.std.specs.List.{flat_map}
use Rattle.spice_text.specs.Text.{phase_line}
use Rattle.spice_text.proofs.cards.put_phases.Given as goal

abbrev pub invariant-loop-phase : goal.invariant-loop-phase
invariant-loop-phase l = l.text.items ≡ l.fn.text.items ++ flat_map phase_line (take l.phase-index l.phases)
