-- The index of the first element of a list of which something holds.
use Rattle.std.specs.Prelude.{ℕ, ◌≡◌, ◌<◌, List, take, Option, Some, None, slice_get}
use Rattle.model_calls.specs.FirstFaults.{NoneHolds}

-- the element at an index is the first of which this holds
pub record IsFirstAt {Element : Type 0} (Holds : List Element → Element → Type 0) (all : List Element) (index : ℕ) : Type 0 where
  pub element : Element
  pub there : slice_get all index ≡ Some element
  pub holds : Holds (take index all) element
  pub none_before : (k : ℕ) (other : Element) → k < index → slice_get all k ≡ Some other → Holds (take k all) other → ⊥

-- the index of the first element of which this holds, or none where it holds of none
abbrev pub IsFoundFirst : {Element : Type 0} → (List Element → Element → Type 0) → List Element → Option ℕ → Type 0
IsFoundFirst Holds all None = NoneHolds Holds all
IsFoundFirst Holds all (Some index) = IsFirstAt Holds all index
