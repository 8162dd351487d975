-- The cards of simple and compound cells by the names of their nets, with precharged inner nets (Rabaey, Digital Integrated Circuits:
-- compound domino).
use Rattle.std.specs.Prelude.{List, codes, ℕ, ◌++◌, ◌≡◌}
use Rattle.std.specs.Fmt.{decimal}
use Rattle.deck.specs.NamedDevices.{NamedDevice}
use Rattle.sp_network.specs.Tree.{Leaf, Parallel, Series, Tree, map_tree}
use Rattle.domino_cell.specs.Cell.{CellNets}
use Rattle.domino_cell.specs.NamedTrees.{inner_net}
use Rattle.domino_cell.specs.PushedNames.{numbered_cell, static_gate}
use Rattle.domino_cell.specs.StyledCells.{styled_cell, styled_stage}
use Rattle.domino_cell.specs.declared.style.Style.TheVariants.{Precharge as WithPrecharge}
use Rattle.compound_plan.specs.Plans.{CellTrees, Compound, Simple}

-- the whole tree of a cell: of a compound one its two trees side by side
abbrev pub whole_tree : CellTrees → Tree ℕ
whole_tree (Simple tree) = tree
whole_tree (Compound l r) = Parallel l r

-- how the inner nets of the right side of cell k begin
abbrev pub right_front : ℕ → List ℕ
right_front k = codes "u" ++ decimal k ++ codes "_"

-- the nets of the right side of cell k, with its clock and its output: `e` and `g` with its number, and the inner nets `u`
abbrev pub right_cell : ℕ → ℕ → CellNets (List ℕ)
right_cell clock k = record {
  vdd = codes "vdd";
  vss = codes "vss";
  clock = codes "ck" ++ decimal clock;
  dynamic = codes "e" ++ decimal k;
  output = codes "z" ++ decimal k;
  foot = codes "g" ++ decimal k;
  inner = inner_net (right_front k);
}

-- the dynamic nets of cell k in series
abbrev pub dynamic_names : ℕ → CellTrees → Tree (List ℕ)
dynamic_names k (Simple tree) = Leaf (codes "d" ++ decimal k)
dynamic_names k (Compound l r) = Series (Leaf (codes "d" ++ decimal k)) (Leaf (codes "e" ++ decimal k))

-- the static gate of cell k: its output is 0 only where all its dynamic nets are 1
abbrev pub output_gate : ℕ → CellTrees → List (NamedDevice (List ℕ))
output_gate k trees = static_gate (codes "z" ++ decimal k) (dynamic_names k trees)

-- cell k on this clock, where each gate has a name: the dynamic stage of each of its trees, and the static gate of its dynamic nets
abbrev pub named_cell : (ℕ → List ℕ) → ℕ → ℕ → CellTrees → List (NamedDevice (List ℕ))
named_cell name clock k (Simple tree) =
    styled_stage WithPrecharge (numbered_cell clock k) (map_tree name tree) ++ output_gate k (Simple tree)
named_cell name clock k (Compound l r) =
    styled_stage WithPrecharge (numbered_cell clock k) (map_tree name l)
    ++ (styled_stage WithPrecharge (right_cell clock k) (map_tree name r) ++ output_gate k (Compound l r))

-- a simple cell is the cell with precharged inner nets
abbrev pub SimpleCellsAreStyled : Type 0
SimpleCellsAreStyled =
    (name : ℕ → List ℕ) (clock k : ℕ) (tree : Tree ℕ)
    → named_cell name clock k (Simple tree) ≡ styled_cell WithPrecharge (numbered_cell clock k) (map_tree name tree)
