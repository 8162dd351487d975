use Rattle.std.proofs.Common.{◌≡◌, ◌+◌, ◌++◌, Bool, List, length, take}
use Rattle.std.specs.List.{flat_map}
use Rattle.spice_text.specs.Text.{phase_line}
use Rattle.plan_text.specs.PutGroups.{signed_phases}
use Rattle.plan_text.proofs.head.put_phases.Given as goal

abbrev pub invariant-sinks : goal.invariant-sinks
invariant-sinks l =
    (starts : List Bool) → length l.signs ≡ length l.outs + length starts
    → l.text ≡ l.fn.text ++ flat_map phase_line (take l.k (signed_phases l.outs starts l.signs))
