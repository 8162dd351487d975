-- The names of a network's signals, where the network stands for a file of BLIF, the Berkeley Logic Interchange Format: those
-- of the main model, and for the other signals a prefix and a number.
use Rattle.std.specs.Prelude.{ℕ, ◌≡◌, ◌≤◌, ◌++◌, Bool, true, List, length, map, Contains, Some, slice_get, ◌↔◌}
use Rattle.std.specs.Fmt.{decimal}
use Rattle.std.specs.List.{enumerate_from}
use Rattle.std.specs.Option.{unwrap_or}
use Rattle.model_calls.specs.Numbering.{IsLeastPrefixAmong, IsPrefixedNumber, letters_w}

-- one of these names is so many letters `w` followed by digits only
abbrev pub IsTakenWidth : List (List ℕ) → ℕ → Type 0
IsTakenWidth names width = (name : List ℕ) × Contains names name × IsPrefixedNumber (letters_w width) name

-- a name that takes a width isn't longer than this
abbrev pub IsNoLongerTaking : ℕ → List ℕ → Type 0
IsNoLongerTaking most name = (width : ℕ) → IsPrefixedNumber (letters_w width) name → length name ≤ most

-- the widths that are marked are those that these names take
abbrev pub MarksTaken : List (List ℕ) → List Bool → Type 0
MarksTaken names marks = (width : ℕ) → slice_get marks width ≡ Some true ↔ IsTakenWidth names width

-- the name at an index of a network of the signal that has this number in the file, where names of the main model come first
abbrev pub network_name : List (List ℕ) → List ℕ → ℕ → ℕ → List ℕ
network_name names prefix index number = unwrap_or (slice_get names number) (prefix ++ decimal index)

-- the names of the signals that have these numbers in the file
abbrev pub network_names : List (List ℕ) → List ℕ → List ℕ → List (List ℕ)
network_names names prefix numbers = map (λ (p : ℕ × ℕ). network_name names prefix p.0 p.1) (enumerate_from 0 numbers)

-- the names by the least prefix that none of the main model's names is followed by digits only
pub record AreNetworkNames (main_names : List (List ℕ)) (numbers : List ℕ) (names : List (List ℕ)) : Type 0 where
  pub width : ℕ
  pub prefix : IsLeastPrefixAmong main_names width
  pub names_are : names ≡ network_names main_names (letters_w width) numbers
