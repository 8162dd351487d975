use Rattle.std.proofs.Common.{false}
use Rattle.deck_form.specs.DeckNets.{named_latch}
use Rattle.plan_text.proofs.Loops.{next_numbered}
use Rattle.plan_text.proofs.groups.put_latches.Goals as goal

pub latches-preserved : goal.latches-preserved
latches-preserved c =
    next_numbered named_latch c.args.starts.now c.latches.j false c.latches-test.true c.args.cards.now c.latches.cards c.put_latch.new.cards
    c.end_group.new.self c.latches.invariant c.in_ok-put_latch.ensures c.in_ok-end_group.ensures
