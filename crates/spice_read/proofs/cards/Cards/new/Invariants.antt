use Rattle.std.proofs.Common.{length}
use Rattle.spice_read.proofs.CardsRead.{HasNoCardYet}
use Rattle.spice_read.proofs.cards.Cards.new.Given as goal

abbrev pub invariant-lines : goal.invariant-lines
invariant-lines l = HasNoCardYet l.fn.text l.lines l.phases.items

abbrev pub decreases-lines : goal.decreases-lines
decreases-lines l = length l.lines.rest
