use Rattle.std.proofs.Common.{◌≡◌, map, take}
use Rattle.model_calls.specs.declared.lined.LinedCard.{LinedCard}
use Rattle.model_calls.proofs.lined.without_lines.Given as goal

abbrev pub invariant-loop-p : goal.invariant-loop-p
invariant-loop-p l = l.cards.items ≡ map (λ (p : LinedCard). p.card) (take l.p-index l.lined)
