-- The names of the nets of a cell or a static gate as the code holds them.
use Rattle.std.specs.Prelude.{◌≡◌, ℕ, List, ◌++◌, codes}
use Rattle.std.specs.Fmt.{decimal}
use Rattle.deck.specs.NetsAt.{StandsAt}
use Rattle.domino_cell.specs.Cell.{CellNets}
use Rattle.domino_cell.specs.NamedTrees.{inner_net}
use Rattle.domino_cell.specs.PushedNames.{inner_front, lower_front, upper_front}
use Rattle.domino_cell.specs.declared.names.CellNames.{CellNames}
use Rattle.domino_cell.specs.declared.names.CellNetsAt.{CellNetsAt}
use Rattle.domino_cell.specs.declared.names.GateNames.{GateNames}

-- the nets of a cell by the names that are held
abbrev pub held_nets : CellNames → CellNets (List ℕ)
held_nets names = record {
  vdd = names.vdd;
  vss = names.vss;
  clock = names.clock;
  dynamic = names.dynamic;
  output = names.output;
  foot = names.foot;
  inner = inner_net names.front;
}

-- the nets have these names
pub record AreNetsOfCell (names : CellNames) (at : CellNetsAt) : Type 0 where
  pub vdd : at.vdd.name.now ≡ names.vdd
  pub vss : at.vss.name.now ≡ names.vss
  pub clock : at.clock.name.now ≡ names.clock
  pub dynamic : at.dynamic.name.now ≡ names.dynamic
  pub output : at.output.name.now ≡ names.output
  pub foot : at.foot.name.now ≡ names.foot

-- each net of a cell stands at the number that is held for it
pub record StandInCircuit (nets : List (List ℕ)) (at : CellNetsAt) : Type 0 where
  pub vdd : StandsAt nets at.vdd.number at.vdd.name.now
  pub vss : StandsAt nets at.vss.number at.vss.name.now
  pub clock : StandsAt nets at.clock.number at.clock.name.now
  pub dynamic : StandsAt nets at.dynamic.number at.dynamic.name.now
  pub output : StandsAt nets at.output.number at.output.name.now
  pub foot : StandsAt nets at.foot.number at.foot.name.now

-- the names are those of cell k on a clock
pub record AreNamesOfCell (clock k : ℕ) (names : CellNames) : Type 0 where
  pub vdd : names.vdd ≡ codes "vdd"
  pub vss : names.vss ≡ codes "vss"
  pub clock_is : names.clock ≡ codes "ck" ++ decimal clock
  pub dynamic : names.dynamic ≡ codes "d" ++ decimal k
  pub output : names.output ≡ codes "z" ++ decimal k
  pub foot : names.foot ≡ codes "f" ++ decimal k
  pub front : names.front ≡ inner_front k

-- the names are those of the static gate that drives this net
pub record AreNamesOfGate (out : List ℕ) (names : GateNames) : Type 0 where
  pub vdd : names.vdd ≡ codes "vdd"
  pub vss : names.vss ≡ codes "vss"
  pub upper : names.upper ≡ upper_front out
  pub lower : names.lower ≡ lower_front out
