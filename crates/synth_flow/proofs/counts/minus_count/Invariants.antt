use Rattle.std.proofs.Common.{◌≡◌, ◌≤◌, not, take}
use Rattle.std.specs.List.{count_by}
use Rattle.synth_flow.proofs.counts.minus_count.Given as goal

abbrev pub invariant-signs : goal.invariant-signs
invariant-signs l = (l.minus ≡ count_by not (take l.sign-index l.signs)) × (l.minus ≤ l.sign-index)
