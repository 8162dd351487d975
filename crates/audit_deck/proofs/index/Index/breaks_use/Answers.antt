use Rattle.std.proofs.Common.{inl, inr, refl, subst}
use Rattle.deck_audit.specs.Audits.{Breaks, bridge, use_of}
use Rattle.audit_deck.proofs.LaterBreaks.{use_break}
use Rattle.audit_deck.proofs.index.Index.breaks_use.Goals as goal

pub returns-then-has_bridge-clause-yes : goal.returns-then-has_bridge-clause-yes
returns-then-has_bridge-clause-yes c = λ e.
    let (p, (d, at, two, same)) = c.has_bridge.ensures.yes c.if-has_bridge.true in
    subst (Breaks c.args.self.now.devices c.args.roles c.args.self.now.nets 5) same (bridge p d at two)

pub returns-then-keeps_use-clause-no : goal.returns-then-keeps_use-clause-no
returns-then-keeps_use-clause-no c = λ e b.
    elim (use_break c.args.self.now.devices c.args.roles c.args.self.now.nets 5 c.args.net b refl) [
      | inl h ↦ c.has_bridge.ensures.no c.if-has_bridge.false h
      | inr h ↦ h.1 (c.keeps_use.ensures.yes c.if-keeps_use.true)
    ]

pub returns-then-is_loose-clause-yes : goal.returns-then-is_loose-clause-yes
returns-then-is_loose-clause-yes c = λ e.
    use_of (inl (c.is_loose.ensures.yes c.if-is_loose.true)) (c.keeps_use.ensures.no c.if-keeps_use.false)

pub returns-clause-yes : goal.returns-clause-yes
returns-clause-yes c = λ e. use_of (inr (c.is_sink.ensures.yes e)) (c.keeps_use.ensures.no c.if-keeps_use.false)

pub returns-clause-no : goal.returns-clause-no
returns-clause-no c = λ e b.
    elim (use_break c.args.self.now.devices c.args.roles c.args.self.now.nets 5 c.args.net b refl) [
      | inl h ↦ c.has_bridge.ensures.no c.if-has_bridge.false h
      | inr h ↦ elim h.0 [ inl y ↦ c.is_loose.ensures.no c.if-is_loose.false y | inr y ↦ c.is_sink.ensures.no e y ]
    ]

pub returns-then-keeps_use-clause-keeps : goal.returns-then-keeps_use-clause-keeps
returns-then-keeps_use-clause-keeps c = λ e h. c.keeps_use.ensures.yes c.if-keeps_use.true

pub returns-clause-keeps : goal.returns-clause-keeps
returns-clause-keeps c = λ e h. elim h [
  | inl y ↦ absurd (c.is_loose.ensures.no c.if-is_loose.false y)
  | inr y ↦ absurd (c.is_sink.ensures.no e y)
]
