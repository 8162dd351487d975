use Rattle.std.proofs.Common.{ℕ, ◌≡◌, List, map, take}
use Rattle.std.specs.List.{enumerate_from}
use Rattle.deck_form.specs.DeckNets.{named_cell}
use Rattle.sp_network.specs.Tree.{Tree}
use Rattle.plan_text.specs.DeviceTexts.{with_groups}
use Rattle.plan_text.specs.PlannedDecks.{AreCellTrees, planned_cells}
use Rattle.plan_text.proofs.cells.put_cells.Given as goal

-- the first cells are written
abbrev pub invariant-cells : goal.invariant-cells
invariant-cells l =
    (trees : List (Tree ℕ)) → AreCellTrees l.deck.cover trees
    → l.cards ≡ with_groups l.fn.cards (map (named_cell l.deck.style l.deck.cover.pins.now l.deck.cover.forest.now.leaves)
    (enumerate_from 0 (take l.k (planned_cells l.deck trees))))
