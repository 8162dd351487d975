use Rattle.std.specs.Prelude.{[]}
use Rattle.audit_deck.specs.Loops.{IsReadAt}
use Rattle.audit_deck.specs.Walks.{MeetsThose}
use Rattle.audit_deck.proofs.Meets.{Upto}
use Rattle.audit_deck.proofs.index.Index.reads_among.Given as goal

abbrev pub invariant-loop-place : goal.invariant-loop-place
invariant-loop-place l = MeetsThose (Upto (IsReadAt l.self.devices l.roles) l.places l.place-index) [] l.reads.items
