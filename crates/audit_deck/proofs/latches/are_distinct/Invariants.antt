use Rattle.audit_deck.proofs.Checks.{NoTwins}
use Rattle.audit_deck.proofs.latches.are_distinct.Given as goal

abbrev pub invariant-loop-place : goal.invariant-loop-place
invariant-loop-place l = NoTwins l.numbers l.place
