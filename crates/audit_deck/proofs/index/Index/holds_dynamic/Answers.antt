use Rattle.std.proofs.Common.{ap, inl, inr, refl, subst, sym, ◌∙◌, ◌≡◌}
use Rattle.deck.specs.declared.device.Device.{Device}
use Rattle.audit_deck.specs.Indexes.{HasEnd}
use Rattle.deck_audit.specs.Words.{IsFree}
use Rattle.audit_deck.proofs.Found.{one_device}
use Rattle.audit_deck.proofs.index.Index.holds_dynamic.Goals as goal

pub returns-then-is_free-clause-yes : goal.returns-then-is_free-clause-yes
returns-then-is_free-clause-yes c = λ e.
    let d : Device = c.device-device.result in
    let (k, there, kind) = c.has_kind.ensures.yes c.if-not-has_kind.false in
    let same = one_device c.args.self.now.devices c.args.place d k c.device-device.ensures.there there in
    (d, c.device-device.ensures.there, ap (λ (v : Device). v.kind) same ∙ kind, d.drain, inl refl, c.is_free.ensures.yes c.if-is_free.true)

pub returns-clause-yes : goal.returns-clause-yes
returns-clause-yes c = λ e.
    let d : Device = c.device-device.result in
    let (k, there, kind) = c.has_kind.ensures.yes c.if-not-has_kind.false in
    let same = one_device c.args.self.now.devices c.args.place d k c.device-device.ensures.there there in
    (d, c.device-device.ensures.there, ap (λ (v : Device). v.kind) same ∙ kind, d.source, inr refl, c.is_free-2.ensures.yes e)

pub returns-clause-no : goal.returns-clause-no
returns-clause-no c = λ e (k, there, kind, n, ends, free).
    let d : Device = c.device-device.result in
    let same = one_device c.args.self.now.devices c.args.place k d there c.device-device.ensures.there in
    elim (subst (λ v. HasEnd v n) same ends) [
      | inl y ↦ c.is_free.ensures.no c.if-is_free.false (subst (IsFree c.args.roles) (sym y) free)
      | inr y ↦ c.is_free-2.ensures.no e (subst (IsFree c.args.roles) (sym y) free)
    ]
