use Rattle.audit_deck.proofs.Picks.{none_picked}
use Rattle.audit_deck.proofs.index.Index.pick.Goals as goal

pub returns-clause-none : goal.returns-clause-none
returns-clause-none c =
    none_picked c.args.self.now.devices c.args.roles c.args.net c.args.kind c.args.wanted c.ending-place-items.result.now c.ending-place-items.ensures.are
    c.loop-place.place-index c.loop-place-test.false c.loop-place.invariant
