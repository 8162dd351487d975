use Rattle.plain_synthesis.proofs.cards.Cards.+spell.Given as goal

abbrev pub decreases-spell : goal.decreases-spell
decreases-spell l = l.fuel
