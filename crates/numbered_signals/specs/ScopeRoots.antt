-- The numbers of the signals of a file of BLIF (Berkeley Logic Interchange Format) by numbers, where each name is given by its place
-- among the names of its model.
use Rattle.std.specs.Prelude.{ℕ, ◌<◌, ◌+◌, ◌++◌, List, [], ◌∷◌, length, map, slice_index_or, slice_set}
use Rattle.numbered_file.specs.NumberedData.{NumberedData}
use Rattle.numbered_file.specs.Numbered.{models_in}
use Rattle.part_numbers.specs.SignalNumbers.{SignalNumbersData, model_names}

-- the number of each scope's first name; and for each number the number of the signal that its name is
pub record ScopeRootsData : Type 0 where
  pub starts : List ℕ
  pub roots : List ℕ

-- the number of the signal of the name at a place among those of a scope's model
abbrev pub local_root : ScopeRootsData → ℕ → ℕ → ℕ
local_root r scope local = slice_index_or r.roots (slice_index_or r.starts scope 0 + local) 0

-- there is one
pub record HasRoot (r : ScopeRootsData) (scope local : ℕ) : Type 0 where
  pub scope_in : scope < length r.starts
  pub root_in : slice_index_or r.starts scope 0 + local < length r.roots

-- one number more
abbrev pub with_next : ScopeRootsData → ℕ → ScopeRootsData
with_next r number = record { starts = r.starts; roots = r.roots ++ number ∷ [] }

-- another number in the place of one
abbrev pub with_root : ScopeRootsData → ℕ → ℕ → ScopeRootsData
with_root r number root = record { starts = r.starts; roots = slice_set r.roots number root }

-- the names of the model of a number
abbrev pub names_of_model : NumberedData → ℕ → List (List ℕ)
names_of_model d model = slice_index_or (map model_names (models_in d)) model []

-- the numbers with the names of all models
abbrev pub signals_with : NumberedData → ScopeRootsData → SignalNumbersData
signals_with d r = record { names = map model_names (models_in d); starts = r.starts; roots = r.roots }
