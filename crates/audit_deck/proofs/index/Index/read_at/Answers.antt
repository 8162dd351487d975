use Rattle.std.proofs.Common.{subst}
use Rattle.deck.specs.declared.device.Device.{Device}
use Rattle.deck_audit.specs.Words.{IsCellOutput, IsDynamic, IsOutputOf}
use Rattle.audit_deck.proofs.Found.{one_device}
use Rattle.audit_deck.proofs.MarkedNets.{mark_yes}
use Rattle.audit_deck.proofs.ReadNets.{input_is, inverts_not_not}
use Rattle.audit_deck.proofs.index.Index.read_at.Goals as goal

pub returns-in_default-clause-none : goal.returns-in_default-clause-none
returns-in_default-clause-none c = λ y (d, inner, dynamic, gates).
    let ds = c.args.self.now.devices in
    let same = one_device ds c.args.place d c.device-device.result inner.0 c.device-device.ensures.there in
    inverts_not_not ds c.args.roles c.args.self.now.nets c.requires.fronts c.requires.outputs y c.device-device.result.gate dynamic
    (subst (λ (v : Device). IsOutputOf ds y v.gate) same gates) (λ v. c.in_default.ensures.none y v)

pub returns-clause-some : goal.returns-clause-some
returns-clause-some c =
    let ds = c.args.self.now.devices in
    let roles = c.args.roles in
    let nets = c.args.self.now.nets in
    let gate = c.device-device.result.gate in
    let (x, dynamic, gates) =
    mark_yes (IsCellOutput ds roles) nets c.args.marks.now.outputs c.requires.marked.outputs gate c.has.result c.has.ensures c.if-not-has.false in
    let same = input_is ds roles nets c.requires.fronts c.requires.outputs x gate c.in-Some.inverter.input dynamic gates c.in-Some.ensures.some.inverts in (
      c.device-device.result,
      (c.device-device.ensures.there, c.is_free.ensures.yes c.if-not-is_free.false, c.is_free-2.ensures.yes c.if-not-is_free-2.false),
      subst (IsDynamic ds roles) same dynamic,
      subst (λ y. IsOutputOf ds y gate) same gates,
    )
