use Rattle.std.proofs.Common.{◌≡◌, length}
use Rattle.command_words.specs.ProbeWords.{are_probe_words}
use Rattle.command_words.proofs.probes.are_probe_words.Given as goal

abbrev pub invariant-pieces : goal.invariant-pieces
invariant-pieces l = are_probe_words l.fn.value ≡ are_probe_words l.left

abbrev pub decreases-pieces : goal.decreases-pieces
decreases-pieces l = length l.left
