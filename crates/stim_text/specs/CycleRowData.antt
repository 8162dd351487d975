-- A cycle as plain data.
use Rattle.std.specs.Prelude.{ℕ, Bool, List, Option}
use Rattle.dom_base.specs.declared.tri.Tri.{Tri}

-- a cycle as plain data: its number, its pins and outputs, and its events where they are printed
pub record CycleRowData : Type 0 where
  pub cycle : ℕ
  pub pins : List Bool
  pub outs : List Tri
  pub events : Option ℕ
