use Rattle.std.specs.Prelude.{Contains}
use Rattle.audit_deck.specs.Scans.{AllBefore}
use Rattle.audit_deck.proofs.latches.are_among.Given as goal

abbrev pub invariant-loop-number : goal.invariant-loop-number
invariant-loop-number l = AllBefore (λ n. Contains l.others n) l.numbers l.number-index
