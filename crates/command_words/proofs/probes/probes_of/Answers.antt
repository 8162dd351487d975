use Rattle.std.specs.List.{slice_split}
use Rattle.command_words.specs.ProbeWords.{is_comma}
use Rattle.command_words.proofs.ProbeWords.{first_probe}
use Rattle.command_words.proofs.probes.probes_of.Goals as goal

pub pieces-preserved : goal.pieces-preserved
pieces-preserved c =
    first_probe (slice_split is_comma c.pieces.left.now) c.in-Some.word.now _ c.pieces.probes.items _ (slice_split is_comma c.in-Some.rest.now)
    c.in-Some.ensures.cut c.pieces.invariant c.in_ok-push_probe.ensures
