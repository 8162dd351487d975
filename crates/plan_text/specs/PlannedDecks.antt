-- The devices of a deck by what its text is made of.
use Rattle.std.specs.Prelude.{ℕ, List, map}
use Rattle.deck.specs.NamedDevices.{NamedDevice}
use Rattle.deck_form.specs.ChosenDecks.{end_at_cell}
use Rattle.deck_form.specs.DeckGroups.{card_groups}
use Rattle.deck_form.specs.DeckNets.{CellPlan, named_cell, named_devices}
use Rattle.deck_form.specs.DominoDecks.{cells_of}
use Rattle.sp_network.specs.Tree.{Tree}
use Rattle.plan_text.specs.declared.planned.CutForest.{CutForest}
use Rattle.plan_text.specs.declared.planned.PlannedDeck.{PlannedDeck}
use Rattle.plan_text.specs.PutCells.{AreRootTrees, netted}

-- the trees of the cells, in order
abbrev pub AreCellTrees : CutForest → List (Tree ℕ) → Type 0
AreCellTrees cover trees = AreRootTrees cover.forest.now cover.kept.now trees

-- a tree over the nets of its gates
abbrev pub netted_in : CutForest → Tree ℕ → Tree (List ℕ)
netted_in cover tree = netted cover.pins.now cover.forest.now.leaves tree

-- the cells with these trees
abbrev pub planned_cells : PlannedDeck → List (Tree ℕ) → List CellPlan
planned_cells deck trees = cells_of deck.phases deck.levels.now trees

-- the devices of a deck whose cells have these trees
abbrev pub planned_devices : PlannedDeck → List (Tree ℕ) → List (NamedDevice (List ℕ))
planned_devices deck trees =
    named_devices deck.style deck.cover.pins.now deck.outs.now deck.starts.now (planned_cells deck trees) deck.complements.now
    (map (end_at_cell deck.cover.kept.now) deck.cover.forest.now.ends)

-- these devices in groups: one for each cell, complement, latch and sink
abbrev pub planned_groups : PlannedDeck → List (Tree ℕ) → List (List (NamedDevice (List ℕ)))
planned_groups deck trees =
    card_groups deck.style deck.cover.pins.now deck.outs.now deck.starts.now (planned_cells deck trees) deck.complements.now
    (map (end_at_cell deck.cover.kept.now) deck.cover.forest.now.ends)
