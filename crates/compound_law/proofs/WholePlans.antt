-- The whole trees of a plan's cells are an ordinary plan, within bounds that are wide and high enough, so the deck of whole trees is an
-- ordinary planned deck.
use Rattle.std.specs.List.{AllZip}
use Rattle.std.proofs.Common.{ℕ, All, Bool, List, [], ◌∷◌, arith, map, max, refl}
use Rattle.std.proofs.lemmas.List.Elements.{All-cons, All-nil, All-weaker}
use Rattle.deck.specs.CircuitData.{CircuitData}
use Rattle.sp_network.specs.Tree.{Tree, height, width}
use Rattle.network.specs.NetworkData.{NetworkData}
use Rattle.dual_rail.specs.ForestData.{ForestData}
use Rattle.cover_plan.specs.Covers.{Costs}
use Rattle.compound_plan.specs.Bounds.{IsWithin}
use Rattle.compound_plan.specs.OrdinaryPlans as ordinary
use Rattle.compound_plan.specs.PlanTrees.{IsTreeOf, roots}
use Rattle.compound_plan.specs.Plans.{CellTrees, Compound, IsCellOf, IsPlan, Simple}
use Rattle.deck_form.specs.ChosenDecks as whole
use Rattle.deck_form.specs.ChosenDecks.{end_at_cell}
use Rattle.deck_form.specs.DeckOptions.{DeckOptions}
use Rattle.deck_form.specs.DominoDecks.{deck_circuit}
use Rattle.domino_cell.specs.declared.style.Style.TheVariants.{Precharge as WithPrecharge}
use Rattle.compound_cell.specs.CompoundCells.{whole_tree}
use Rattle.compound_law.specs.CompoundDecks.{IsPlannedDeck, whole_cells}

-- bounds that all of some trees are within
pub record AreBounds (trees : List (Tree ℕ)) : Type 0 where
  pub w : ℕ
  pub h : ℕ
  pub within : All (IsWithin w h) trees

pub bounds : (trees : List (Tree ℕ)) → AreBounds trees
bounds [] = record { w = 0; h = 0; within = All-nil (IsWithin 0 0) }
bounds (t ∷ trees) =
    let more = bounds trees in
    let w = max (width t) more.w in
    let h = max (height t) more.h in
    record {
      w = w;
      h = h;
      within = All-cons (IsWithin w h) t trees (omega arith, omega arith) (All-weaker (IsWithin more.w more.h) (IsWithin w h) (λ u is. (omega (arith, is.0), omega (arith, is.1))) trees more.within);
    }

whole_of : (forest : ForestData) (kept split : List Bool) (place : ℕ) (c : CellTrees) → IsCellOf forest kept split place c → IsTreeOf forest kept place (whole_tree c)
whole_of forest kept split place (Simple t) is = is.1
whole_of forest kept split place (Compound l r) is = is.1

wholes_of : (forest : ForestData) (kept split : List Bool) (places : List ℕ) (cells : List CellTrees) → AllZip (IsCellOf forest kept split) places cells
    → AllZip (IsTreeOf forest kept) places (map whole_tree cells)
wholes_of forest kept split [] [] h = tt
wholes_of forest kept split [] (c ∷ cells) h = absurd h
wholes_of forest kept split (p ∷ places) [] h = absurd h
wholes_of forest kept split (p ∷ places) (c ∷ cells) h = (whole_of forest kept split p c h.0, wholes_of forest kept split places cells h.1)

pub whole_plan : (c : Costs) (forest : ForestData) (w h : ℕ) (kept split : List Bool) (cells : List CellTrees) → IsPlan c forest w h kept split cells
    → ordinary.IsPlan forest (bounds (map whole_tree cells)).w (bounds (map whole_tree cells)).h kept (map whole_tree cells)
whole_plan c forest w h kept split cells is = record {
  one_each = is.one_each;
  free = is.free;
  trees_are = wholes_of forest kept split (roots kept) cells is.cells_are;
  within = (bounds (map whole_tree cells)).within;
}

module _ (network : NetworkData) (w h phases : ℕ) (circuit : CircuitData) (is : IsPlannedDeck network w h phases circuit) where
  -- the deck of the whole trees
  abbrev pub whole_circuit : CircuitData
  whole_circuit = deck_circuit WithPrecharge network phases (whole_cells phases is.levels is.cells) is.signs (map (end_at_cell is.kept) is.forest.ends)

  abbrev pub whole_options : DeckOptions
  whole_options = record {
    width = (bounds (map whole_tree is.cells)).w;
    height = (bounds (map whole_tree is.cells)).h;
    phases = phases;
    style = WithPrecharge;
  }

  abbrev pub whole_planned : whole.IsPlannedDeck network whole_options whole_circuit
  whole_planned = record {
    gates = is.gates;
    signs = is.signs;
    forest = is.forest;
    kept = is.kept;
    trees = map whole_tree is.cells;
    levels = is.levels;
    are_gates = is.are_gates;
    is_forest = is.is_forest;
    is_plan = whole_plan _ is.forest w h is.kept is.split is.cells is.is_plan;
    levels_are = is.levels_are;
    circuit_is = refl;
  }
