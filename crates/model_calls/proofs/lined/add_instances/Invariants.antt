use Rattle.std.proofs.Common.{◌≡◌, ◌++◌, List, map, take}
use Rattle.blif_ast.specs.BlifModelData.{BlifModelData}
use Rattle.model_calls.specs.Expanded.{BodyCard, InstanceCard}
use Rattle.model_calls.specs.LinedCards.{AreLinedCards}
use Rattle.model_calls.proofs.lined.add_instances.Given as goal

abbrev pub invariant-loop-index : goal.invariant-loop-index
invariant-loop-index l = (m : BlifModelData) (cards : List BodyCard) → m.instances ≡ l.instances
    → AreLinedCards m l.node l.fn.lined.items cards → AreLinedCards m l.node l.lined.items (cards ++ map InstanceCard (take l.index l.instances))
