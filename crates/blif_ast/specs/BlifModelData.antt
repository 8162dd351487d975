-- A model of BLIF, the Berkeley Logic Interchange Format, as plain data over lists.
use Rattle.std.specs.Prelude.{ℕ, List}
use Rattle.blif_ast.specs.declared.latch.Latch.{Latch}
use Rattle.blif_ast.specs.InstanceData.{InstanceData}
use Rattle.blif_ast.specs.TableData.{TableData}

-- a model as plain data over lists: its name, its ports, its tables, latches and instances, each kind in the
-- order of its cards, and the line of its card
pub record BlifModelData : Type 0 where
  pub name : List ℕ
  pub inputs : List (List ℕ)
  pub outputs : List (List ℕ)
  pub tables : List TableData
  pub latches : List Latch
  pub instances : List InstanceData
  pub line : ℕ
