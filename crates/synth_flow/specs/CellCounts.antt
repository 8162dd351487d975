-- What is counted of the cells of a cover, tree by tree.
use Rattle.std.specs.Prelude.{ℕ, ◌+◌, ◌*◌, Bool, List, map, slice_index_or}
use Rattle.std.specs.List.{AllZip, list_any}
use Rattle.clock_phase.specs.Levels.{cells_read, greatest}
use Rattle.clock_phase.specs.Plans.{ReadEarlierCells}
use Rattle.dual_rail.specs.ForestData.{ForestData}
use Rattle.sp_network.specs.Tree.{Tree}
use Rattle.tree_map.specs.Plans.{IsTreeOf, roots}
use Rattle.deck_form.specs.NamedDecks.{reads}

-- the greatest level of the cells that a tree reads, or 0
abbrev pub greatest_read : ℕ → List ℕ → Tree ℕ → ℕ
greatest_read leaf_count levels tree = greatest (map (λ cell. slice_index_or levels cell 0) (cells_read leaf_count tree))

-- the opposite of a leaf gates one of the trees
abbrev pub is_read_in : List (Tree ℕ) → ℕ → Bool
is_read_in trees leaf = list_any (reads (2 * leaf + 1)) trees

-- the trees of a cover: each is the one of its root, and reads only cells before it
pub record AreTreesOf (forest : ForestData) (kept : List Bool) (trees : List (Tree ℕ)) : Type 0 where
  pub trees_are : AllZip (IsTreeOf forest kept) (roots kept) trees
  pub earlier : ReadEarlierCells forest.leaves trees
