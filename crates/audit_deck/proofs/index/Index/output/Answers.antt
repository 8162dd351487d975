use Rattle.audit_deck.proofs.index.Index.output.Goals as goal

pub returns-in_default-clause-none : goal.returns-in_default-clause-none
returns-in_default-clause-none c = λ h. c.in_default.ensures.none c.args.net h.1
