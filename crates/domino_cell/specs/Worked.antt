-- Worked examples: the cell of an And of two inputs, and three leaves in series.
use Rattle.std.specs.Prelude.{◌≡◌, ℕ, [], ◌∷◌, ◌++◌, map, nat_lt}
use Rattle.dom_base.specs.declared.kind.Kind.TheVariants.{N as nch}
use Rattle.deck.specs.Worked.{and_devices}
use Rattle.deck.specs.NamedDevices.{device_of}
use Rattle.domino_cell.specs.Cell.{CellNets, cell, inverter}
use Rattle.domino_cell.specs.HeldCells.{IsCell}
use Rattle.domino_cell.specs.declared.style.Style.TheVariants.{Keeper as WithKeeper}
use Rattle.sp_network.specs.Tree.{Tree, Leaf, Series}
use Rattle.domino_cell.specs.Spelling.{spell}

-- the nets of the cell of an And of two inputs
abbrev pub and_nets : CellNets ℕ
and_nets = record { vdd = 0; vss = 1; clock = 2; dynamic = 12; output = 13; foot = 15; inner = λ j. 14 }

-- and the tree: both inputs in series
abbrev pub and_tree : Tree ℕ
and_tree = Series (Leaf 9) (Leaf 10)

-- the circuit is the cell and the inverter of the output port
abbrev pub AndIsSpelled : Type 0
AndIsSpelled = map device_of (cell and_nets and_tree ++ inverter 0 1 12 11) ≡ and_devices

-- and it holds the cell as the laws of paths in a cell want it; the ports but o_f are the sources
abbrev pub AndHoldsCell : Type 0
AndHoldsCell = IsCell WithKeeper and_devices (λ n. nat_lt n 11) and_nets and_tree

-- three leaves in series from d to f by the inner nets t 0 and t 1: the outer series takes t 0
abbrev pub ThreeInSeries : Type 0
ThreeInSeries =
    (t : ℕ → ℕ) (d f a b c : ℕ)
    → spell nch t (Series (Series (Leaf a) (Leaf b)) (Leaf c)) d f 0
    ≡ record { kind = nch; drain = d; gate = a; source = t 1 }
    ∷ record { kind = nch; drain = t 1; gate = b; source = t 0 }
    ∷ record { kind = nch; drain = t 0; gate = c; source = f }
    ∷ []
