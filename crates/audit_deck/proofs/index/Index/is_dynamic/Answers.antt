use Rattle.audit_deck.proofs.Found.{not_dynamic}
use Rattle.audit_deck.proofs.index.Index.is_dynamic.Goals as goal

pub returns-clause-no : goal.returns-clause-no
returns-clause-no c = λ e dynamic.
    not_dynamic c.args.self.now.devices c.args.net c.ending-place-items.result.now c.ending-place-items.ensures.are c.args.roles c.loop-place.place-index
    c.loop-place-test.false c.loop-place.invariant dynamic
