-- Networks of tables and latches as plain data over lists.
use Rattle.std.specs.Prelude.{ℕ, Bool, List}
use Rattle.blif_ast.specs.declared.letter.Letter.{Letter}
use Rattle.network.specs.declared.network.NetLatch.{NetLatch}

-- a table of a network as plain data over lists: the numbers of its input signals, whether its rows end in 1, and the rows
pub record NetTableData : Type 0 where
  pub inputs : List ℕ
  pub on : Bool
  pub rows : List (List Letter)

-- a network as plain data over lists: the name of its model, one name for each signal, how many signals are inputs, the
-- signals that are outputs, the latches and the tables
pub record NetworkData : Type 0 where
  pub name : List ℕ
  pub names : List (List ℕ)
  pub inputs : ℕ
  pub outputs : List ℕ
  pub latches : List NetLatch
  pub tables : List NetTableData
