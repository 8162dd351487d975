-- The numbers of the names of one scope of a file of BLIF, the Berkeley Logic Interchange Format, which an instance binds by pairs of
-- a formal and an actual: each is a place among the names of its model.
use Rattle.std.specs.Prelude.{ℕ, ◌≡◌, ◌≢◌, ◌<◌, ◌+◌, ◌++◌, List, [], length, map, Some, slice_get, slice_index_or}
use Rattle.std.specs.List.{AllByRecursion}
use Rattle.blif_ast.specs.BlifFileData.{BlifFileData}
use Rattle.blif_ast.specs.InstanceData.{InstanceData}
use Rattle.blif_ast.specs.declared.instance.Binding.{Binding}
use Rattle.local_names.specs.LocalNames.{firsts, seconds}
use Rattle.numbered_signals.specs.ScopeRoots.{HasRoot, ScopeRootsData, local_root}
use Rattle.part_numbers.specs.NumberedFiles.{model_at}
use Rattle.part_numbers.specs.SignalNumbers.{AreDistinctNames, IsInstanceAt, IsNextScope, SignalNumbersData, names_at}
use Rattle.part_numbers.specs.SignalNumbers.{scope_roots, signal_number}
use Rattle.part_numbers.specs.declared.walk.Scope.{Scope}

-- the own numbers of so many names are appended
pub record AddsOwn (count : ℕ) (old new : ScopeRootsData) : Type 0 where
  pub starts : new.starts ≡ old.starts
  pub roots : (names : List (List ℕ)) → length names ≡ count
      → new.roots ≡ old.roots ++ scope_roots (λ actual. 0) [] (length old.roots) names

-- the formals are names whose numbers begin with one, the actuals names of a scope above
pub record CanBind (r : ScopeRootsData) (start above : ℕ) (pairs : List ℕ) : Type 0 where
  pub formals : AllByRecursion (λ formal. start + formal < length r.roots) (firsts pairs)
  pub actuals : AllByRecursion (HasRoot r above) (seconds pairs)

-- behind others the roots are the own numbers of some names, and the pairs are those of bindings of these names, whose actuals have
-- numbers before
pub record IsOpenBlock (r : ScopeRootsData) (start above : ℕ) (pairs : List ℕ) (before : List ℕ) (names : List (List ℕ))
    (bindings : List Binding) (number_of_actual : List ℕ → ℕ) : Type 0 where
  pub start_is : length before ≡ start
  pub roots_are : r.roots ≡ before ++ scope_roots number_of_actual [] start names
  pub once : AreDistinctNames names
  pub formals : map (slice_get names) (firsts pairs) ≡ map Some (map (λ (b : Binding). b.formal) bindings)
  pub actuals_in : AllByRecursion (λ actual. slice_index_or r.starts above 0 + actual < start) (seconds pairs)
  pub actuals : map (local_root r above) (seconds pairs) ≡ map number_of_actual (map (λ (b : Binding). b.actual) bindings)

-- in each such block the formals have the numbers of the signals of their actuals
pub record BindsAll (start above : ℕ) (pairs : List ℕ) (old new : ScopeRootsData) : Type 0 where
  pub starts : new.starts ≡ old.starts
  pub bound : (before : List ℕ) (names : List (List ℕ)) (bindings : List Binding) (number_of_actual : List ℕ → ℕ)
      → IsOpenBlock old start above pairs before names bindings number_of_actual
      → new.roots ≡ before ++ scope_roots number_of_actual bindings start names

-- the pairs of bindings, by the names of the instance's model and of the model that it stands in
pub record ArePairs (names above : List (List ℕ)) (bindings : List Binding) (pairs : List ℕ) : Type 0 where
  pub formals : map (slice_get names) (firsts pairs) ≡ map Some (map (λ (b : Binding). b.formal) bindings)
  pub actuals : map (slice_get above) (seconds pairs) ≡ map Some (map (λ (b : Binding). b.actual) bindings)

-- a scope is below one by an instance there, which names its model
pub record IsCalledAbove (f : BlifFileData) (scopes : List Scope) (s : Scope) : Type 0 where
  pub above : Scope
  pub instance : InstanceData
  pub is_at : IsInstanceAt f scopes s above instance
  pub above_in : above.model < length f.models
  pub model_in : s.model < length f.models
  pub named : (model_at f s.model).name ≡ instance.unit

-- one scope more can be given numbers, and if it isn't the first, an instance calls it
pub record IsNextCalled (f : BlifFileData) (scopes : List Scope) (s : Scope) (n : SignalNumbersData) : Type 0 where
  pub next : IsNextScope f scopes s n
  pub called : length n.starts ≢ 0 → IsCalledAbove f scopes s

-- the numbers of a scope that is below one before it are appended
pub record AddsBelow (f : BlifFileData) (scopes : List Scope) (s : Scope) (n : SignalNumbersData) (old new : ScopeRootsData) : Type 0 where
  pub starts : new.starts ≡ old.starts
  pub block : List ℕ
  pub roots : new.roots ≡ old.roots ++ block
  pub bound : (above : Scope) (i : InstanceData) → IsInstanceAt f scopes s above i
      → block ≡ scope_roots (signal_number n s.above above.model) i.bindings (length old.roots) (names_at n s.model)
