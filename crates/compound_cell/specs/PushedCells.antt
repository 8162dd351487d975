-- What appending a simple or a compound cell needs of a circuit, and what stands in it then (Rabaey, Digital Integrated Circuits:
-- compound domino).
use Rattle.std.specs.Prelude.{List, codes, ℕ, ◌++◌}
use Rattle.std.specs.Fmt.{decimal}
use Rattle.deck.specs.CircuitData.{CircuitData}
use Rattle.sp_network.specs.Tree.{Tree, map_tree}
use Rattle.domino_cell.specs.Cell.{CellNets}
use Rattle.domino_cell.specs.PushedNames.{HasRoomForCell, HasRoomForGate, numbered_cell}
use Rattle.domino_cell.specs.PushedPaths.{HoldsCell, IsDrivenByTree}
use Rattle.domino_cell.specs.declared.style.Style.TheVariants.{Precharge as WithPrecharge}
use Rattle.compound_plan.specs.Plans.{CellTrees, Compound, Simple}
use Rattle.compound_cell.specs.CompoundCells.{dynamic_names, right_cell}

-- the output of cell k
abbrev pub output_name : ℕ → List ℕ
output_name k = codes "z" ++ decimal k

-- the supplies and the clock are ports, the nets of each stage are new, and nothing drives the output or an inner net of its static gate
abbrev pub HasRoomForTrees : CircuitData → ℕ → ℕ → CellTrees → Type 0
HasRoomForTrees c clock k (Simple tree) = HasRoomForCell c (numbered_cell clock k)
HasRoomForTrees c clock k (Compound l r) =
    HasRoomForCell c (numbered_cell clock k) × HasRoomForCell c (right_cell clock k) × HasRoomForGate c (output_name k)

-- it holds of each stage of cell k: of its nets, and of its tree by the names of its gates
abbrev pub EachStage : (CellNets (List ℕ) → Tree (List ℕ) → Type 0) → (ℕ → List ℕ) → ℕ → ℕ → CellTrees → Type 0
EachStage Holds name clock k (Simple tree) = Holds (numbered_cell clock k) (map_tree name tree)
EachStage Holds name clock k (Compound l r) = Holds (numbered_cell clock k) (map_tree name l) × Holds (right_cell clock k) (map_tree name r)

-- the output: a simple cell has its inverter, and one supply alone drives that of a compound one where its dynamic nets are known
abbrev pub IsDrivenCell : CircuitData → (ℕ → List ℕ) → ℕ → ℕ → CellTrees → Type 0
IsDrivenCell c name clock k (Simple tree) = HoldsCell WithPrecharge c (numbered_cell clock k) (map_tree name tree)
IsDrivenCell c name clock k (Compound l r) = IsDrivenByTree c (output_name k) (dynamic_names k (Compound l r))
