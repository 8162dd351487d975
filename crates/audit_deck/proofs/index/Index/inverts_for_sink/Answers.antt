use Rattle.std.proofs.Common.{subst, sym}
use Rattle.deck_audit.specs.Rules.{IsSinkInput}
use Rattle.audit_deck.proofs.FirstComplements.{input_low, same_input}
use Rattle.audit_deck.proofs.index.Index.inverts_for_sink.Goals as goal

pub returns-in_default-clause-no : goal.returns-in_default-clause-no
returns-in_default-clause-no c = λ e h. c.in_default.ensures.none h.0 h.1

pub is_sink_input-requires-clause-within : goal.is_sink_input-requires-clause-within
is_sink_input-requires-clause-within c =
    input_low c.args.self.now.devices c.args.roles c.args.self.now.nets c.requires.in_range c.args.net c.in-Some.inverter.input c.in-Some.ensures.some.inverts

pub returns-clause-yes : goal.returns-clause-yes
returns-clause-yes c = λ e. (c.in-Some.inverter.input, c.in-Some.ensures.some.inverts, c.is_sink_input.ensures.yes e)

pub returns-clause-no : goal.returns-clause-no
returns-clause-no c = λ e h.
    let ds = c.args.self.now.devices in
    let same = same_input ds c.args.net h.0 c.in-Some.inverter.input h.1 c.in-Some.ensures.some.inverts in
    c.is_sink_input.ensures.no e (subst (IsSinkInput ds c.args.roles) same h.2)
