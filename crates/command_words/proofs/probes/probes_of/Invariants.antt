use Rattle.std.proofs.Common.{◌≡◌, ◌++◌, length}
use Rattle.std.specs.List.{filter_map, slice_split}
use Rattle.command_words.specs.ProbeWords.{is_comma, probe_word}
use Rattle.command_words.proofs.probes.probes_of.Given as goal

abbrev pub invariant-pieces : goal.invariant-pieces
invariant-pieces l =
    filter_map probe_word (slice_split is_comma l.fn.value) ≡ l.probes.items ++ filter_map probe_word (slice_split is_comma l.left)

abbrev pub decreases-pieces : goal.decreases-pieces
decreases-pieces l = length l.left
