-- A use more.
use Rattle.std.proofs.Common.{false}
use Rattle.phase_assign.specs.Uses.{used}
use Rattle.phase_assign.proofs.Totals.{item_added, room_left}
use Rattle.phase_assign.proofs.needed.add_uses.Goals as goal

pub add_use-requires-clause-room : goal.add_use-requires-clause-room
add_use-requires-clause-room c =
    room_left c.args.pairs.now c.loop-pair.pair-index (record { node = 0; plus = false }) c.loop-pair-test.true (used c.loop-pair.uses) (used c.args.uses.now)
    (λ n s. c.loop-pair.invariant n s) (λ n s. c.requires.room n s)

pub loop-pair-preserved : goal.loop-pair-preserved
loop-pair-preserved c = λ n s.
    item_added c.args.pairs.now c.loop-pair.pair-index (record { node = 0; plus = false }) c.loop-pair-test.true n s (used c.loop-pair.uses n s) (used c.args.uses.now n s) (used c.add_use.new.uses n s)
    (c.loop-pair.invariant n s) (c.add_use.ensures.uses n s)
