-- Looking for the first name of a list that stands there twice or is wrong otherwise: the names so far by numbers, in order of
-- first appearance, and the least number of a name that is wrong.
use Rattle.std.specs.Prelude.{ℕ, ◌≡◌, ◌<◌, ◌⊎◌, Bool, ◌&&◌, min, List, Option, Some, None, option_and_then, slice_get, if◌then◌else◌}
use Rattle.model_calls.specs.declared.first_fault.FirstFault.{FirstFault}
use Rattle.model_calls.specs.ModelFaults.{IsTwiceIn}
use Rattle.model_calls.specs.NameNumbers.{IsNameAdded}

pub record ScanData : Type 0 where
  pub names : List (List ℕ)
  pub least : Option ℕ

-- the least of a number and of those before, if there are any
abbrev pub least_with : Option ℕ → ℕ → ℕ
least_with None number = number
least_with (Some least) number = min least number

-- a name was looked at: it is wrong where it isn't new or isn't good
pub record IsLooked (before : ScanData) (name : List ℕ) (good : Bool) (after : ScanData) : Type 0 where
  pub number : ℕ
  pub new : Bool
  pub added : IsNameAdded before.names name after.names number new
  pub least : after.least ≡ (if new && good then before.least else Some (least_with before.least number))

-- the first name that is wrong
abbrev pub wrong_name : ScanData → Option (List ℕ)
wrong_name s = option_and_then (slice_get s.names) s.least

-- a report of the first name that is wrong
abbrev pub IsFirstWrongName : ScanData → ℕ → Option FirstFault → Type 0
IsFirstWrongName s line None = wrong_name s ≡ None
IsFirstWrongName s line (Some r) = (r.line ≡ line) × (wrong_name s ≡ Some r.name)

-- the names of a list, each once, in order of first appearance
pub record AreFirsts (all names : List (List ℕ)) : Type 0 where
  pub once : (j k : ℕ) (x : List ℕ) → slice_get names j ≡ Some x → slice_get names k ≡ Some x → j ≡ k
  pub each : (k : ℕ) (x : List ℕ) → slice_get all k ≡ Some x → (n : ℕ) × (slice_get names n ≡ Some x)
  pub first : (n : ℕ) (x : List ℕ) → slice_get names n ≡ Some x → (k : ℕ) × (slice_get all k ≡ Some x)
      × ((j : ℕ) (y : List ℕ) → j < k → slice_get all j ≡ Some y → (m : ℕ) × (m < n) × (slice_get names m ≡ Some y))

-- a name stands at most once in a list
abbrev pub IsOnceIn : List (List ℕ) → List ℕ → Type 0
IsOnceIn all x = (j k : ℕ) → slice_get all j ≡ Some x → slice_get all k ≡ Some x → j ≡ k

-- a name of a list is wrong: it stands there twice, or isn't good
abbrev pub IsWrong : (List ℕ → Type 0) → List (List ℕ) → List ℕ → Type 0
IsWrong Good all x = (Good x → ⊥) ⊎ IsTwiceIn all x

-- no name below a number was seen to be wrong
abbrev pub IsRightBelow : (List ℕ → Type 0) → List (List ℕ) → List (List ℕ) → ℕ → Type 0
IsRightBelow Good seen names n = (k : ℕ) (x : List ℕ) → k < n → slice_get names k ≡ Some x → Good x × IsOnceIn seen x

-- the least number of a name that is wrong, by those of a list that were looked at
abbrev pub IsLeastWrong : (List ℕ → Type 0) → List (List ℕ) → List (List ℕ) → List (List ℕ) → Option ℕ → Type 0
IsLeastWrong Good all seen names None = (k : ℕ) (x : List ℕ) → slice_get names k ≡ Some x → Good x × IsOnceIn seen x
IsLeastWrong Good all seen names (Some n) = (x : List ℕ) × (slice_get names n ≡ Some x) × IsWrong Good all x × IsRightBelow Good seen names n

-- what a scan keeps: so many names of a list were looked at
pub record IsScan (Good : List ℕ → Type 0) (all seen : List (List ℕ)) (s : ScanData) : Type 0 where
  pub firsts : AreFirsts seen s.names
  pub least : IsLeastWrong Good all seen s.names s.least
