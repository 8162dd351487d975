-- An instance of a model of BLIF, the Berkeley Logic Interchange Format, as plain data over lists.
use Rattle.std.specs.Prelude.{ℕ, List}
use Rattle.blif_ast.specs.declared.instance.Binding.{Binding}

-- an instance as plain data over lists: the name of its model, its bindings, and the line of its card
pub record InstanceData : Type 0 where
  pub unit : List ℕ
  pub bindings : List Binding
  pub line : ℕ
