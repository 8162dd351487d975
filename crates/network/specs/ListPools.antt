-- Lists that stand in one list of all their items.
use Rattle.std.specs.Prelude.{ℕ, ◌≤◌, ◌+◌, List, All, map, take, drop}
use Rattle.network.specs.declared.list_pool.ListAt.{ListAt}

-- the list at a place
abbrev pub list_in : {X : Type 0} → List X → ListAt → List X
list_in items at = take at.count (drop at.start items)

-- the lists at these places
abbrev pub lists_in : {X : Type 0} → List X → List ListAt → List (List X)
lists_in items places = map (list_in items) places

-- a place that ends within so many items
abbrev pub IsPlaceWithin : ℕ → ListAt → Type 0
IsPlaceWithin count at = at.start + at.count ≤ count

abbrev pub ArePlacesWithin : ℕ → List ListAt → Type 0
ArePlacesWithin count places = All (IsPlaceWithin count) places
