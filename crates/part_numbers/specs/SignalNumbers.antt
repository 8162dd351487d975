-- The numbers of the signals of a file of BLIF, the Berkeley Logic Interchange Format, over the scopes of a walk: each pair of
-- a scope and a name of its model has a number, and for each number the number of the signal that the pair is is kept.
use Rattle.std.specs.Prelude.{ℕ, ◌≡◌, ◌≢◌, ◌≤◌, ◌<◌, ◌+◌, List, [], ◌∷◌, ◌++◌, length, map, take, position, Option, Some, slice_get, slice_index_or, slice_set, unwrap_or}
use Rattle.std.specs.List.{AllByRecursion, enumerate_from, find, flat_map}
use Rattle.std.specs.Option.{option_map, option_map_or}
use Rattle.std.specs.Set.{unique_keys}
use Rattle.blif_ast.specs.BlifFileData.{BlifFileData}
use Rattle.blif_ast.specs.BlifModelData.{BlifModelData}
use Rattle.blif_ast.specs.Cards.{same}
use Rattle.blif_ast.specs.InstanceData.{InstanceData}
use Rattle.blif_ast.specs.declared.instance.Binding.{Binding}
use Rattle.part_numbers.specs.Expansions.{ArePaths, path_at, scope_occurrences}
use Rattle.network.specs.Limits.{most_signals}
use Rattle.part_numbers.specs.NumberedFiles.{model_at}
use Rattle.model_calls.specs.Occurrences.{names_of}
use Rattle.model_calls.specs.Pairs.{pairs_of}
use Rattle.model_calls.specs.Signals.{Signal, signal_of}
use Rattle.part_numbers.specs.declared.walk.Scope.{Scope}

-- the names of each model of the file, each once; the number of each scope's first name; and for each number the number of
-- the signal that its name is, which is its own or, for a formal that is bound, that of the actual
pub record SignalNumbersData : Type 0 where
  pub names : List (List (List ℕ))
  pub starts : List ℕ
  pub roots : List ℕ

-- the names of a model, each once
abbrev pub model_names : BlifModelData → List (List ℕ)
model_names m = unique_keys same (names_of m)

abbrev pub names_at : SignalNumbersData → ℕ → List (List ℕ)
names_at n model = slice_index_or n.names model []

-- the number of a name in a scope of a model, and that of the signal that it is
abbrev pub pair_number : SignalNumbersData → ℕ → ℕ → List ℕ → ℕ
pair_number n scope model name = slice_index_or n.starts scope 0 + unwrap_or (position (same name) (names_at n model)) 0

abbrev pub signal_number : SignalNumbersData → ℕ → ℕ → List ℕ → ℕ
signal_number n scope model name = slice_index_or n.roots (pair_number n scope model name) 0

pub record HasSignalNumber (n : SignalNumbersData) (scope model : ℕ) (name : List ℕ) : Type 0 where
  pub model_in : model < length n.names
  pub scope_in : scope < length n.starts
  pub index : ℕ
  pub index_is : position (same name) (names_at n model) ≡ Some index
  pub pair_in : pair_number n scope model name < length n.roots

-- the actual that some bindings bind to a formal, if they bind it
abbrev pub actual_in : List Binding → List ℕ → Option (List ℕ)
actual_in bindings formal = option_map (λ (b : Binding). b.actual) (find (λ (b : Binding). same b.formal formal) bindings)

-- the signals of the names of a scope whose numbers begin with one: of a formal that is bound the signal of its actual, and of
-- any other name its own number
abbrev pub scope_roots : (List ℕ → ℕ) → List Binding → ℕ → List (List ℕ) → List ℕ
scope_roots number_of_actual bindings start names =
    map (λ (p : ℕ × List ℕ). option_map_or number_of_actual (actual_in bindings p.1) p.0) (enumerate_from start names)

-- the roots after one binding more, in front of others
abbrev pub with_binding : (List ℕ → ℕ) → List (List ℕ) → Binding → List ℕ → List ℕ
with_binding number_of_actual names b roots =
    option_map_or (λ k. slice_set roots k (number_of_actual b.actual)) (position (same b.formal) names) roots

-- an instance in a scope above has the bindings of a scope below
pub record IsInstanceAt (f : BlifFileData) (scopes : List Scope) (s above : Scope) (i : InstanceData) : Type 0 where
  pub above_is : slice_get scopes s.above ≡ Some above
  pub instance_is : slice_get (model_at f above.model).instances s.instance ≡ Some i

-- the numbers of one scope more
pub record AddsScope (f : BlifFileData) (scopes : List Scope) (s : Scope) (old new : SignalNumbersData) : Type 0 where
  pub names : new.names ≡ old.names
  pub starts : new.starts ≡ old.starts ++ length old.roots ∷ []
  pub block : List ℕ
  pub roots : new.roots ≡ old.roots ++ block
  pub main : length old.starts ≡ 0 → block ≡ scope_roots (λ actual. 0) [] (length old.roots) (names_at old s.model)
  pub below : (above : Scope) (i : InstanceData) → length old.starts ≢ 0 → IsInstanceAt f scopes s above i
      → block ≡ scope_roots (signal_number old s.above above.model) i.bindings (length old.roots) (names_at old s.model)

-- the pairs of a scope and a name of its model, in order of their numbers
abbrev pub scope_pairs : BlifFileData → List (List InstanceData) → List Scope → List Signal
scope_pairs f paths scopes = flat_map pairs_of (scope_occurrences f paths scopes)

-- how many pairs the scopes before one have: the number of its first
abbrev pub first_pair : BlifFileData → List (List InstanceData) → List Scope → ℕ → ℕ
first_pair f paths scopes scope = length (flat_map pairs_of (take scope (scope_occurrences f paths scopes)))

-- a number's root is the number of this signal
abbrev pub IsRootOf : List ℕ → ℕ → List Signal → Signal → Type 0
IsRootOf roots number signals signal = (root : ℕ) × (slice_get roots number ≡ Some root) × (slice_get signals root ≡ Some signal)

-- the first scopes have their numbers
pub record AreNumbers (f : BlifFileData) (scopes : List Scope) (paths : List (List InstanceData)) (done : ℕ)
    (n : SignalNumbersData) : Type 0 where
  pub names : n.names ≡ map model_names f.models
  pub count : length n.starts ≡ done
  pub all : length n.roots ≡ first_pair f paths scopes done
  pub starts : (scope : ℕ) → scope < done → slice_get n.starts scope ≡ Some (first_pair f paths scopes scope)
  pub roots : (scope k : ℕ) (s : Scope) (name : List ℕ) → scope < done → slice_get scopes scope ≡ Some s
      → slice_get (model_names (model_at f s.model)) k ≡ Some name
      → IsRootOf n.roots (first_pair f paths scopes scope + k) (scope_pairs f paths scopes) (signal_of (path_at paths scope) name)

-- the scopes are those of a file, and have few enough pairs
pub record HasFewPairs (f : BlifFileData) (scopes : List Scope) : Type 0 where
  pub paths : List (List InstanceData)
  pub are_paths : ArePaths f scopes paths
  pub few : length (scope_pairs f paths scopes) ≤ most_signals

-- each scope has its numbers
abbrev pub HasSignalNumbers : BlifFileData → List Scope → SignalNumbersData → Type 0
HasSignalNumbers f scopes n = (paths : List (List InstanceData)) → ArePaths f scopes paths → AreNumbers f scopes paths (length scopes) n

-- a scope is below one whose names have numbers, by an instance there
pub record IsBelowNumbered (f : BlifFileData) (scopes : List Scope) (s : Scope) (n : SignalNumbersData) : Type 0 where
  pub above : Scope
  pub instance : InstanceData
  pub is_at : IsInstanceAt f scopes s above instance
  pub above_in : above.model < length f.models
  pub actuals : AllByRecursion (λ (b : Binding). HasSignalNumber n s.above above.model b.actual) instance.bindings

-- no name stands at two indices
abbrev pub AreDistinctNames : List (List ℕ) → Type 0
AreDistinctNames names = (j k : ℕ) (name : List ℕ) → slice_get names j ≡ Some name → slice_get names k ≡ Some name → j ≡ k

-- one scope more can be given numbers
pub record IsNextScope (f : BlifFileData) (scopes : List Scope) (s : Scope) (n : SignalNumbersData) : Type 0 where
  pub model_in : s.model < length n.names
  pub once : AreDistinctNames (names_at n s.model)
  pub few : length n.roots + length (names_at n s.model) ≤ most_signals
  pub below : length n.starts ≢ 0 → IsBelowNumbered f scopes s n
