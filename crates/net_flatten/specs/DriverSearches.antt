-- Searches for a signal with two drivers, and for a reader of a signal with none.
use Rattle.std.specs.Prelude.{ℕ, ◌≡◌, ◌<◌, Bool, false, List, Option, Some, None, slice_get}
use Rattle.net_flatten.specs.declared.driven.Drivers.{Drivers}
use Rattle.net_flatten.specs.declared.driven.Drivers.TheVariants.{Once, Twice}
use Rattle.net_flatten.specs.declared.driven.ReadAt.{ReadAt}
use Rattle.model_calls.specs.FirstFaults.{NoneHolds}
use Rattle.net_flatten.specs.FoundFirst.{IsFirstAt}
use Rattle.model_calls.specs.NumberSets.{IsSetOf}
use Rattle.part_numbers.specs.NumberedFaults.{IsDrivenAgain, driven_by}
use Rattle.part_numbers.specs.NumberedFiles.{NumberedPartData}

-- the set of all that is driven where nothing is driven twice
pub record IsSetOfDrivers (signals : ℕ) (inputs : List ℕ) (parts : List NumberedPartData) (set : List Bool) : Type 0 where
  pub none : NoneHolds (IsDrivenAgain inputs) parts
  pub all : IsSetOf signals (driven_by inputs parts) set

-- the first part that drives what has an earlier driver, or the set of all that is driven where there is none
abbrev pub AreDrivers : ℕ → List ℕ → List NumberedPartData → Drivers → Type 0
AreDrivers signals inputs parts (Once set) = IsSetOfDrivers signals inputs parts set
AreDrivers signals inputs parts (Twice index) = IsFirstAt (IsDrivenAgain inputs) parts index

-- a number isn't in a set
abbrev pub IsOutsideSet : List Bool → List ℕ → ℕ → Type 0
IsOutsideSet set before number = slice_get set number ≡ Some false

-- the first number that some parts read which isn't in a set
pub record IsFirstRead (set : List Bool) (parts : List NumberedPartData) (at : ReadAt) : Type 0 where
  pub part : NumberedPartData
  pub there : slice_get parts at.part ≡ Some part
  pub first : IsFirstAt (IsOutsideSet set) part.reads at.read
  pub none_before : (k : ℕ) (p : NumberedPartData) → k < at.part → slice_get parts k ≡ Some p → NoneHolds (IsOutsideSet set) p.reads

-- or none where all that they read is in the set
abbrev pub IsFirstOutside : List Bool → List NumberedPartData → Option ReadAt → Type 0
IsFirstOutside set parts None = (k : ℕ) (p : NumberedPartData) → slice_get parts k ≡ Some p → NoneHolds (IsOutsideSet set) p.reads
IsFirstOutside set parts (Some at) = IsFirstRead set parts at
