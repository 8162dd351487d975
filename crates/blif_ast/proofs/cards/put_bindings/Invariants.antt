use Rattle.std.proofs.Common.{◌≡◌, ◌++◌, ◌∷◌, take}
use Rattle.std.specs.List.{flat_map}
use Rattle.blif_ast.specs.Printed.{binding_word}
use Rattle.blif_ast.proofs.cards.put_bindings.Given as goal

abbrev pub invariant-loop-binding : goal.invariant-loop-binding
invariant-loop-binding l = l.text.items ≡ l.fn.text.items ++ flat_map (λ binding. 32 ∷ binding_word binding) (take l.binding-index l.bindings)
