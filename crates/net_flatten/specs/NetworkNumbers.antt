-- The numbers of a file's signals in the order in which its network has them.
use Rattle.std.specs.Prelude.{ℕ, ◌≡◌, Bool, false, not, nat_eq, List, filter, length, Contains, Option, Some, None, slice_get, slice_index_or}
use Rattle.net_flatten.specs.Dependences.{is_table}
use Rattle.part_numbers.specs.NumberedFiles.{NumberedPartData}

-- the signal that controls latches, if there is one, has this number
abbrev pub is_number : Option ℕ → ℕ → Bool
is_number None number = false
is_number (Some known) number = nat_eq known number

-- the numbers of main inputs without that signal
abbrev pub pin_numbers : Option ℕ → List ℕ → List ℕ
pin_numbers control inputs = filter (λ number. not (is_number control number)) inputs

-- the latches among some parts
abbrev pub latches_among : List NumberedPartData → List NumberedPartData
latches_among parts = filter (λ (p : NumberedPartData). not (is_table p.card)) parts

-- each number that stands in a list has a place there
pub record IsRenumbering (signals : ℕ) (numbers places : List ℕ) : Type 0 where
  pub count : length places ≡ signals
  pub places_are : (number : ℕ) → Contains numbers number → slice_get numbers (slice_index_or places number 0) ≡ Some number
