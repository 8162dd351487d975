use Rattle.std.proofs.Common.{◌≡◌, take}
use Rattle.synth_flow.proofs.names.copied_names.Given as goal

abbrev pub invariant-names : goal.invariant-names
invariant-names l = l.copies.items ≡ take l.name-index l.names
