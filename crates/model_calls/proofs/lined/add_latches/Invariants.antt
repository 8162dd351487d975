use Rattle.std.proofs.Common.{◌≡◌, ◌++◌, ℕ, List, map, take}
use Rattle.blif_ast.specs.BlifModelData.{BlifModelData}
use Rattle.model_calls.specs.Expanded.{BodyCard, LatchCard}
use Rattle.model_calls.specs.LinedCards.{AreLinedCards}
use Rattle.model_calls.proofs.lined.add_latches.Given as goal

abbrev pub invariant-loop-index : goal.invariant-loop-index
invariant-loop-index l = (m : BlifModelData) (callees : List ℕ) (cards : List BodyCard) → m.latches ≡ l.latches
    → AreLinedCards m callees l.fn.lined.items cards → AreLinedCards m callees l.lined.items (cards ++ map LatchCard (take l.index l.latches))
