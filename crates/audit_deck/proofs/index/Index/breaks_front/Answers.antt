use Rattle.std.proofs.Common.{refl}
use Rattle.deck_audit.specs.Audits.{front}
use Rattle.audit_deck.proofs.Breaks.{front_break}
use Rattle.audit_deck.proofs.index.Index.breaks_front.Goals as goal

pub returns-in_default-clause-yes : goal.returns-in_default-clause-yes
returns-in_default-clause-yes c = λ e. front (c.is_dynamic.ensures.yes c.if-not-is_dynamic.false) c.in_default.ensures.none

pub returns-clause-no : goal.returns-clause-no
returns-clause-no c = λ e b.
    let f = c.in-Some._front in
    (front_break c.args.self.now.devices c.args.roles c.args.self.now.nets 1 c.args.net b refl).1 f.clock f.output c.in-Some.ensures.some.front
