use Rattle.std.proofs.Common.{drop, map}
use Rattle.numbered_file.specs.declared.parts.PartAt.{PartAt}
use Rattle.card_places.specs.PartCards.{RisesFrom}
use Rattle.card_places.proofs.model_plans.do_lines_rise.Given as goal

abbrev pub invariant-loop-index : goal.invariant-loop-index
invariant-loop-index l = RisesFrom l.low (map (λ (p : PartAt). p.line) (drop l.index l.parts))
    → RisesFrom 0 (map (λ (p : PartAt). p.line) l.parts)
