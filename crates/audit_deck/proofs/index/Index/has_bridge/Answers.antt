use Rattle.audit_deck.proofs.NetUses.{no_bridge}
use Rattle.audit_deck.proofs.index.Index.has_bridge.Goals as goal

pub returns-clause-no : goal.returns-clause-no
returns-clause-no c = λ e bridge.
    no_bridge c.args.self.now.devices c.args.roles c.args.net c.ending-place-items.result.now c.ending-place-items.ensures.are c.loop-place.place-index
    c.loop-place-test.false c.loop-place.invariant bridge
