use Rattle.std.specs.Prelude.{None, Some}
use Rattle.std.proofs.Common.{ap, arith, subst, sym, ◌∙◌}
use Rattle.std.proofs.lemmas.Bool.{eqb-false, eqb-true}
use Rattle.deck_audit.specs.Words.{IsComplement}
use Rattle.audit_deck.proofs.FirstComplements.{input_low, one_complement, same_input}
use Rattle.audit_deck.proofs.index.Index.is_complement.Goals as goal

pub returns-then-is_out_port-clause-no : goal.returns-then-is_out_port-clause-no
returns-then-is_out_port-clause-no c = λ e h. h.1.0.no_out (c.is_out_port.ensures.yes c.if-is_out_port.true)

pub returns-in_default-clause-no : goal.returns-in_default-clause-no
returns-in_default-clause-no c = λ e h. c.in_default.ensures.none h.0 h.1.0.inverts

pub of-requires : goal.of-requires
of-requires c =
    let i = c.in-Some.inverter.input in
    let low = input_low c.args.self.now.devices c.args.roles c.args.self.now.nets c.requires.in_range c.args.net i c.in-Some.ensures.some.inverts in
    let count = c.requires.are.count in
    omega (arith, low, count)

pub returns-in_default-of-clause-no : goal.returns-in_default-of-clause-no
returns-in_default-of-clause-no c = λ e (i, complement).
    let ds = c.args.self.now.devices in
    let input = c.in-Some.inverter.input in
    let same = same_input ds c.args.net i input complement.0.inverts c.in-Some.ensures.some.inverts in
    c.requires.are.each input None (c.of.ensures ∙ ap Some c.in_default-of.is) c.args.net
    (subst (IsComplement ds c.args.roles c.args.net) same complement)

pub returns-clause-yes : goal.returns-clause-yes
returns-clause-yes c = λ e.
    let input = c.in-Some.inverter.input in
    let first = c.requires.are.each input (Some c.in-Some-of.first) (c.of.ensures ∙ ap Some c.in-Some-of.is) in
    (input, subst (λ n. IsComplement c.args.self.now.devices c.args.roles n input) (eqb-true c.in-Some-of.first c.args.net e) first)

pub returns-clause-no : goal.returns-clause-no
returns-clause-no c = λ e (i, complement).
    let ds = c.args.self.now.devices in
    let roles = c.args.roles in
    let input = c.in-Some.inverter.input in
    let first = c.requires.are.each input (Some c.in-Some-of.first) (c.of.ensures ∙ ap Some c.in-Some-of.is) in
    let same = same_input ds c.args.net i input complement.0.inverts c.in-Some.ensures.some.inverts in
    eqb-false c.in-Some-of.first c.args.net e
    (one_complement ds roles c.in-Some-of.first c.args.net input first (subst (IsComplement ds roles c.args.net) same complement))
