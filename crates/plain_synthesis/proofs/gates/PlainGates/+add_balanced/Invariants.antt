use Rattle.plain_synthesis.proofs.gates.PlainGates.+add_balanced.Given as goal

abbrev pub decreases-add_balanced : goal.decreases-add_balanced
decreases-add_balanced l = l.fuel
