-- The cells from which the sinks of a deck take, and the ends of the sinks by their places among these.
use Rattle.std.specs.Prelude.{All, List, [], length, map, ℕ, ◌++◌, ◌∷◌, ◌≡◌}
use Rattle.dual_rail.specs.declared.forest.End.{End}
use Rattle.dual_rail.specs.Uses.{IsEndThere}
use Rattle.synth_flow.specs.BufferedDecks.{cells_taken, renumbered}
use Rattle.synth_flow.specs.SinkParts.{end_in}

-- an end that names its cell by its place in a list: whatever numbers the cells of the list have, it is taken from the cell with its number
abbrev pub NamesPlace : List ℕ → List ℕ → End → End → Type 0
NamesPlace cells taken end numbered = (number : ℕ → ℕ) → end_in (map number taken) numbered ≡ renumbered number (end_in cells end)

-- the cell of one more end, where there is one, stands behind those that were taken
pub record IsTaken (cells : List ℕ) (end : End) (old new : List ℕ) (numbered : End) : Type 0 where
  pub taken_is : new ≡ old ++ cells_taken (end_in cells end ∷ [])
  pub there : IsEndThere (length new) numbered
  pub names : NamesPlace cells new end numbered

-- the cells of the ends in order, and the ends by their places among them
pub record AreTaken (cells : List ℕ) (ends : List End) (taken : List ℕ) (numbered : List End) : Type 0 where
  pub taken_are : taken ≡ cells_taken (map (end_in cells) ends)
  pub there : All (IsEndThere (length taken)) numbered
  pub names : (number : ℕ → ℕ) → map (end_in (map number taken)) numbered ≡ map (renumbered number) (map (end_in cells) ends)
