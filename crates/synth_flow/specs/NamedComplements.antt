-- Marks of leaves whose complements are named.
use Rattle.std.specs.Prelude.{ℕ, ◌+◌, ◌*◌, ◌<◌, ◌≡◌, ◌==◌, Bool, false, ◌||◌, ◌&&◌, List, length, slice_index_or}
use Rattle.std.specs.List.{list_any}
use Rattle.sp_network.specs.TypedTree.{tree_of}
use Rattle.sp_network.specs.declared.plan.GatePlan.{GatePlan}
use Rattle.dual_rail.specs.declared.forest.End.{End}
use Rattle.dual_rail.specs.declared.forest.End.TheVariants.{Const, Literal, FromDynamic, FromOutput}
use Rattle.deck_form.specs.NamedDecks.{reads}

-- the leaves that were marked are still, and those that pass the test are marked too
abbrev pub MarksAlso : List Bool → List Bool → (ℕ → Bool) → Type 0
MarksAlso old new test = (leaf : ℕ) → leaf < length old → slice_index_or new leaf false ≡ (slice_index_or old leaf false || test leaf)

-- the opposite of a leaf gates the tree of one of the plans
abbrev pub are_read : List GatePlan → ℕ → Bool
are_read plans leaf = list_any (λ (p : GatePlan). reads (2 * leaf + 1) (tree_of p.tree)) plans

-- an end is the plus literal of a leaf
abbrev pub is_plus_end : ℕ → End → Bool
is_plus_end leaf (Const b) = false
is_plus_end leaf (Literal rail) = rail.plus && (rail.leaf == leaf)
is_plus_end leaf (FromDynamic place) = false
is_plus_end leaf (FromOutput place) = false
