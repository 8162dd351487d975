-- A sink more.
use Rattle.std.proofs.Common.{refl}
use Rattle.dual_rail.proofs.Marks.{sink_marked}
use Rattle.dual_rail.proofs.wanted.mark_sinks.Goals as goal

pub loop-place-preserved : goal.loop-place-preserved
loop-place-preserved c = λ n s.
    sink_marked c.args.wanted.now c.loop-place.wanted c.mark.new.wanted _ c.args.sinks.now c.args.signs.now c.loop-place.place n s c.loop-place-test.true c.requires.count refl
    (c.loop-place.invariant n s) (c.mark.ensures n s)
