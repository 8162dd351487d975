use Rattle.compare_decks.proofs.audits.order.+spells.Given as goal

abbrev pub decreases-spells : goal.decreases-spells
decreases-spells l = l.fuel
