-- The numbers and names of the signals of a file of BLIF, the Berkeley Logic Interchange Format, in its network.
use Rattle.std.specs.Prelude.{ℕ, ◌≡◌, ◌≢◌, ◌≤◌, ◌+◌, max, Bool, true, false, ◌&&◌, not, if◌then◌else◌, List, [], ◌∷◌, ◌++◌, map, filter, replicate, All, Option, Some, None, slice_get}
use Rattle.std.specs.Fmt.{decimal}
use Rattle.std.specs.List.{enumerate_from, fold}
use Rattle.blif_ast.specs.Cards.{same}
use Rattle.blif_ast.specs.BlifFileData.{BlifFileData}
use Rattle.blif_ast.specs.BlifModelData.{BlifModelData}
use Rattle.blif_ast.specs.InstanceData.{InstanceData}
use Rattle.model_calls.specs.Ends.{End, controls, inputs_of, main_inputs, output_of, state_of}
use Rattle.model_calls.specs.Expanded.{PlacedTable, latches, tables}
use Rattle.model_calls.specs.Ordered.{in_order}
use Rattle.model_calls.specs.Occurrences.{main_model, names_of}
use Rattle.model_calls.specs.Signals.{Signal, signal_of}

-- each signal has a level: main inputs and latch outputs 0, and a table's output 1 and the greatest level of the table's
-- inputs, or 1 without inputs
pub record IsLevelling (f : BlifFileData) (level : Signal → ℕ) : Type 0 where
  pub inputs : All (λ (e : End). level e.signal ≡ 0) (main_inputs f)
  pub latches_are : All (λ l. level (state_of l) ≡ 0) (latches f)
  pub tables_are : All (λ t. level (output_of t) ≡ 1 + fold max 0 (map level (inputs_of t))) (tables f)

-- the tables in order of level, and within a level in expanded order
abbrev pub by_level : (Signal → ℕ) → BlifFileData → List PlacedTable
by_level level f = in_order (λ t. level (output_of t)) (tables f)

abbrev pub is_main : List InstanceData → Bool
is_main [] = true
is_main (i ∷ up) = false

-- the control is this name of the main model
abbrev pub is_control_name : Option End → List ℕ → Bool
is_control_name None name = false
is_control_name (Some control) name = is_main control.signal.path && same control.signal.name name

-- the main inputs without the signal that controls the latches
abbrev pub pins : BlifFileData → List (List ℕ)
pins f = filter (λ name. not (is_control_name (slice_get (controls f) 0) name)) (main_model f).inputs

-- the signals by their numbers: inputs first, then latch outputs, then table outputs
abbrev pub signals_by_number : BlifFileData → List PlacedTable → List Signal
signals_by_number f ordered = map (signal_of []) (pins f) ++ map state_of (latches f) ++ map output_of ordered

abbrev pub IsDecimalDigit : ℕ → Type 0
IsDecimalDigit b = (48 ≤ b) × (b ≤ 57)

-- so many letters `w`
abbrev pub letters_w : ℕ → List ℕ
letters_w width = replicate width 119

-- a name is a prefix followed by digits only
pub record IsPrefixedNumber (prefix name : List ℕ) : Type 0 where
  pub digits : List ℕ
  pub name_is : name ≡ prefix ++ digits
  pub some : digits ≢ []
  pub all : All IsDecimalDigit digits

-- so many letters `w`, at least one, are a prefix that none of these names is followed by digits only
pub record IsFreePrefix (names : List (List ℕ)) (width : ℕ) : Type 0 where
  pub some : 1 ≤ width
  pub free : All (λ name. IsPrefixedNumber (letters_w width) name → ⊥) names

pub record IsLeastPrefixAmong (names : List (List ℕ)) (width : ℕ) : Type 0 where
  pub is_free : IsFreePrefix names width
  pub least : (other : ℕ) → IsFreePrefix names other → width ≤ other

-- the same among all names of a model
abbrev pub IsLeastPrefix : BlifModelData → ℕ → Type 0
IsLeastPrefix m width = IsLeastPrefixAmong (names_of m) width

-- the name of a signal of this number: its own where it is one of the main model's, else the prefix and the number
abbrev pub name_by_number : List ℕ → ℕ → Signal → List ℕ
name_by_number prefix number s = if is_main s.path then s.name else prefix ++ decimal number

abbrev pub names_by_number : List ℕ → List Signal → List (List ℕ)
names_by_number prefix signals = map (λ (p : ℕ × Signal). name_by_number prefix p.0 p.1) (enumerate_from 0 signals)
