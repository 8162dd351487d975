use Rattle.std.proofs.Common.{[]}
use Rattle.std.specs.Str.{str_to_ascii_lowercase}
use Rattle.spice_read.proofs.Ports.{with_all-step}
use Rattle.spice_read.proofs.subckts.nets_of.Goals as goal

pub loop-word-preserved : goal.loop-word-preserved
loop-word-preserved c =
    with_all-step (λ w. str_to_ascii_lowercase w.now) [] c.args.words.now c.loop-word.word-index _ c.loop-word.nets.keys _ _ c.in_ok-insert.ensures.keys (c.in_ok-net_name.ensures) c.loop-word.invariant c.loop-word-test.true
