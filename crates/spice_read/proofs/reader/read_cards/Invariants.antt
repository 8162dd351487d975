use Rattle.spice_read.specs.Readers.{size_left}
use Rattle.spice_read.proofs.DeckSoFar.{HasRead}
use Rattle.spice_read.proofs.reader.read_cards.Given as goal

abbrev pub invariant-cards : goal.invariant-cards
invariant-cards l = HasRead l.fn.text l.subckts l.cards

abbrev pub decreases-cards : goal.decreases-cards
decreases-cards l = size_left l.cards
