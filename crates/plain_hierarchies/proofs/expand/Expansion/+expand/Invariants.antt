use Rattle.plain_hierarchies.proofs.expand.Expansion.+expand.Given as goal

abbrev pub decreases-expand : goal.decreases-expand
decreases-expand l = l.fuel
