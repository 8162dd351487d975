use Rattle.std.proofs.Common.{inl, inr}
use Rattle.audit_deck.proofs.index.Index.is_used.Goals as goal

pub returns-then-is_complement-clause-yes : goal.returns-then-is_complement-clause-yes
returns-then-is_complement-clause-yes c = λ e. inr (inr (c.is_complement.ensures.yes c.if-is_complement.true))

pub returns-clause-yes : goal.returns-clause-yes
returns-clause-yes c = λ e.
    inl ((λ p d at. (c.ends_none.ensures.yes c.if-not-ends_none.false p d at, c.gates_none.ensures.yes e p d at)), c.is_sink.ensures.no c.if-is_sink.false)

pub returns-clause-no : goal.returns-clause-no
returns-clause-no c = λ e used.
    elim used [
      | inl h ↦ c.gates_none.ensures.no e (λ p d at. (h.0 p d at).1)
      | inr h ↦ elim h [ inl y ↦ c.is_sink.ensures.no c.if-is_sink.false y.0 | inr y ↦ c.is_complement.ensures.no c.if-is_complement.false y ]
    ]
