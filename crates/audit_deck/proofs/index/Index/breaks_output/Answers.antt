use Rattle.std.proofs.Common.{refl, subst}
use Rattle.deck_audit.specs.Audits.{output}
use Rattle.deck_audit.specs.Rules.{HasOutput}
use Rattle.deck_audit.specs.Words.{IsInverterOutput}
use Rattle.audit_deck.proofs.Breaks.{one_front, output_break, output_low}
use Rattle.audit_deck.proofs.index.Index.breaks_output.Goals as goal

pub output-requires-clause-within : goal.output-requires-clause-within
output-requires-clause-within c =
    output_low c.args.self.now.devices c.args.roles c.args.self.now.nets c.requires.in_range c.args.net c.in-Some.front.clock c.in-Some.front.output c.in-Some.ensures.some.front

pub returns-in_default-clause-no : goal.returns-in_default-clause-no
returns-in_default-clause-no c = λ e b.
    let y = output_break c.args.self.now.devices c.args.roles c.args.self.now.nets 2 c.args.net b refl in
    c.in_default.ensures.none y.0 y.1 y.3

pub returns-in_default-output-clause-yes : goal.returns-in_default-output-clause-yes
returns-in_default-output-clause-yes c = λ e.
    output c.in-Some.front.clock c.in-Some.front.output (c.is_dynamic.ensures.yes c.if-not-is_dynamic.false) c.in-Some.ensures.some.front
    c.in_default-output.ensures.none

pub returns-clause-no : goal.returns-clause-no
returns-clause-no c = λ e b.
    let ds = c.args.self.now.devices in
    let y = output_break ds c.args.roles c.args.self.now.nets 2 c.args.net b refl in
    let f = c.in-Some.front in
    let s = c.in-Some-output.ensures.some in
    let same = one_front ds c.args.roles c.args.self.now.nets c.args.net f.clock f.output y.0 y.1 c.in-Some.ensures.some.front y.3 in
    y.4 (subst (HasOutput ds c.args.roles c.args.net) same.1 (s.inner, subst (IsInverterOutput ds f.output) s.input_is s.inverter.inverts))
