use Rattle.std.proofs.Common.{length}
use Rattle.spice_read.proofs.CardsRead.{IsInCard}
use Rattle.spice_read.proofs.cards.Cards.next.Given as goal

abbrev pub invariant-lines : goal.invariant-lines
invariant-lines l = IsInCard l.fn.self l.card.number l.card.words l.self

abbrev pub decreases-lines : goal.decreases-lines
decreases-lines l = length l.self.left.rest
