-- A domino cell whose nets are given by name.
use Rattle.std.specs.Prelude.{ℕ, ◌<◌, List}
use Rattle.deck.specs.NumberedDevices.{HasNumber}
use Rattle.sp_network.specs.Tree.{Tree, inner_count}
use Rattle.domino_cell.specs.Cell.{CellNets}

-- the names of a cell, and of one more inverter that drives `out`, have numbers
pub record IsNumberedCell (all : List (List ℕ)) (nets : CellNets (List ℕ)) (tree : Tree (List ℕ)) (out : List ℕ) : Type 0 where
  pub vdd : HasNumber all nets.vdd
  pub vss : HasNumber all nets.vss
  pub clock : HasNumber all nets.clock
  pub dynamic : HasNumber all nets.dynamic
  pub output : HasNumber all nets.output
  pub foot : HasNumber all nets.foot
  pub inner : (j : ℕ) → j < inner_count tree → HasNumber all (nets.inner j)
  pub out_is : HasNumber all out
