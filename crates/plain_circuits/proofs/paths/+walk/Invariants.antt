use Rattle.plain_circuits.proofs.paths.+walk.Given as goal

abbrev pub decreases-walk : goal.decreases-walk
decreases-walk l = l.most
