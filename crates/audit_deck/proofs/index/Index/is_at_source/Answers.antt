use Rattle.std.proofs.Common.{inl, inr, refl}
use Rattle.audit_deck.proofs.index.Index.is_at_source.Goals as goal

pub returns-then-not-is_free-clause-yes : goal.returns-then-not-is_free-clause-yes
returns-then-not-is_free-clause-yes c = λ e.
    (c.device-device.result, c.device-device.ensures.there, c.device-device.result.drain, inl refl, c.is_free.ensures.no c.if-not-is_free.true)

pub returns-then-not-is_free-2-clause-yes : goal.returns-then-not-is_free-2-clause-yes
returns-then-not-is_free-2-clause-yes c = λ e.
    (c.device-device.result, c.device-device.ensures.there, c.device-device.result.source, inr refl, c.is_free-2.ensures.no c.if-not-is_free-2.true)
