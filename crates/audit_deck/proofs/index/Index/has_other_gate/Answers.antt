use Rattle.std.proofs.Common.{subst}
use Rattle.deck.specs.declared.device.Device.{Device}
use Rattle.deck_audit.specs.Rules.{IsLeafNet}
use Rattle.audit_deck.proofs.Found.{one_device}
use Rattle.audit_deck.proofs.index.Index.has_other_gate.Goals as goal

pub returns-then-is_leaf_net-clause-no : goal.returns-then-is_leaf_net-clause-no
returns-then-is_leaf_net-clause-no c = λ e (d, inner, away).
    let ds = c.args.self.now.devices in
    let same = one_device ds c.args.place c.device-device.result d c.device-device.ensures.there inner.0 in
    away (subst (λ (v : Device). IsLeafNet ds c.args.roles v.gate) same (c.is_leaf_net.ensures.yes c.if-is_leaf_net.true))

pub returns-clause-yes : goal.returns-clause-yes
returns-clause-yes c = λ e. (
  c.device-device.result,
  (c.device-device.ensures.there, c.is_free.ensures.yes c.if-not-is_free.false, c.is_free-2.ensures.yes c.if-not-is_free-2.false),
  c.is_leaf_net.ensures.no c.if-is_leaf_net.false,
)
