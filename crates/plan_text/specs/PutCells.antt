-- The tree of a cell over the nets that gate it, and trees that are small.
use Rattle.std.specs.Prelude.{ℕ, ◌+◌, ◌≤◌, ◌∷◌, ◌++◌, All, Bool, List, codes}
use Rattle.std.specs.Fmt.{decimal}
use Rattle.std.specs.List.{AllZip}
use Rattle.dual_rail.specs.ForestData.{ForestData}
use Rattle.dual_rail.specs.declared.forest.Arm.{Arm}
use Rattle.deck.specs.NamedDevices.{NamedDevice}
use Rattle.deck_form.specs.DeckNets.{named_gate}
use Rattle.dom_base.specs.declared.kind.Kind.TheVariants.{P as pch}
use Rattle.domino_cell.specs.Cell.{CellNets}
use Rattle.domino_cell.specs.NamedTrees.{inner_net}
use Rattle.domino_cell.specs.StyledCells.{behind_precharge}
use Rattle.domino_cell.specs.declared.style.Style.{Style}
use Rattle.sp_network.specs.Tree.{Tree, leaves, map_tree}
use Rattle.tree_map.specs.Plans.{IsArmTree, IsTreeOf, roots}
use Rattle.plan_text.specs.Nets.{tree_front}

-- a tree over the nets of its gates, of so many leaves of a forest
abbrev pub netted : List (List ℕ) → ℕ → Tree ℕ → Tree (List ℕ)
netted pins leaf_count tree = map_tree (named_gate pins leaf_count) tree

-- A tree whose root is this pair, with so few leaves that its inner nets have numbers below 48 from this one on; and one
-- below an arm.
abbrev pub HasRoomForTree : ForestData → List Bool → ℕ → ℕ → Type 0
HasRoomForTree forest kept place inner = (tree : Tree ℕ) × IsTreeOf forest kept place tree × (inner + leaves tree ≤ 48)

abbrev pub HasRoomForArm : ForestData → List Bool → Arm → ℕ → Type 0
HasRoomForArm forest kept arm inner = (tree : Tree ℕ) × IsArmTree forest kept arm tree × (inner + leaves tree ≤ 48)

-- the trees of the roots, in order
abbrev pub AreRootTrees : ForestData → List Bool → List (Tree ℕ) → Type 0
AreRootTrees forest kept trees = AllZip (IsTreeOf forest kept) (roots kept) trees

-- small ones
abbrev pub HasSmallTrees : ForestData → List Bool → Type 0
HasSmallTrees forest kept = (trees : List (Tree ℕ)) × AreRootTrees forest kept trees × All (λ tree. leaves tree ≤ 48) trees

-- the cards of a cell before its tree, which has so many inner nets: the precharge and what follows it
abbrev pub precharge_cards : Style → CellNets (List ℕ) → ℕ → List (NamedDevice (List ℕ))
precharge_cards style nets inner =
    record { kind = pch; drain = nets.dynamic; gate = nets.clock; source = nets.vdd } ∷ behind_precharge style nets inner

-- the nets of the cell whose number has these digits, on the clock of this number
abbrev pub digits_cell : ℕ → List ℕ → CellNets (List ℕ)
digits_cell clock digits = record {
  vdd = codes "vdd";
  vss = codes "vss";
  clock = codes "ck" ++ decimal clock;
  dynamic = codes "d" ++ digits;
  output = codes "z" ++ digits;
  foot = codes "f" ++ digits;
  inner = inner_net (tree_front digits);
}
