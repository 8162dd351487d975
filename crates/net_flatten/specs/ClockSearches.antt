-- Searches for what clocks latches, over a file of BLIF, the Berkeley Logic Interchange Format, by numbers.
use Rattle.std.specs.Prelude.{ℕ, ◌≡◌, ◌<◌, ◌||◌, not, Bool, true, false, nat_eq, List, [], ◌∷◌, ◌++◌, take, Contains, Option, Some, None, IsSome, slice_get}
use Rattle.blif_ast.specs.BlifFileData.{BlifFileData}
use Rattle.blif_ast.specs.declared.latch.Edge2.{Edge2}
use Rattle.blif_ast.specs.declared.latch.Edge2.TheVariants.{Rising, Falling}
use Rattle.net_flatten.specs.declared.clocking.Clock.{Clock}
use Rattle.net_flatten.specs.declared.clocking.ControlAt.{ControlAt}
use Rattle.model_calls.specs.FirstFaults.{NoneHolds}
use Rattle.part_numbers.specs.NumberedFiles.{NumberedPartData}
use Rattle.part_numbers.specs.PartCards.{edge_of}

abbrev pub same_edge : Edge2 → Edge2 → Bool
same_edge Rising Rising = true
same_edge Falling Falling = true
same_edge _ _ = false

abbrev pub other_edge : Option Edge2 → Edge2 → Bool
other_edge None edge = false
other_edge (Some known) edge = not (same_edge known edge)

abbrev pub other_signal : Option ℕ → Option ℕ → Bool
other_signal (Some known) (Some number) = not (nat_eq known number)
other_signal _ _ = false

-- an edge, or a signal where there is one, is another than a clock's
abbrev pub differs_from_clock : Clock → Edge2 → Option ℕ → Bool
differs_from_clock clock edge signal = other_edge clock.edge edge || other_signal clock.signal signal

abbrev pub first_of : Option ℕ → Option ℕ → Option ℕ
first_of None signal = signal
first_of (Some known) signal = Some known

-- a clock with what one latch more says
abbrev pub joined_clock : Clock → Edge2 → Option ℕ → Clock
joined_clock clock edge signal = record { edge = Some edge; signal = first_of clock.signal signal }

-- a part is a latch that has a type, with this edge
pub record IsClockedAt (f : BlifFileData) (parts : List NumberedPartData) (p : NumberedPartData) (edge : Edge2) : Type 0 where
  pub there : Contains parts p
  pub edge_is : edge_of f p ≡ Some edge

-- the edge and the signal of a clock are those of all latches with a type, and each is that of some
pub record IsClockOf (f : BlifFileData) (parts : List NumberedPartData) (clock : Clock) : Type 0 where
  pub edges : (p : NumberedPartData) (edge : Edge2) → IsClockedAt f parts p edge → clock.edge ≡ Some edge
  pub signals : (p : NumberedPartData) (edge : Edge2) (s : ℕ) → IsClockedAt f parts p edge → p.control ≡ Some s → clock.signal ≡ Some s
  pub edge_from : (edge : Edge2) → clock.edge ≡ Some edge → (p : NumberedPartData) × IsClockedAt f parts p edge
  pub signal_from : (s : ℕ) → clock.signal ≡ Some s → (p : NumberedPartData) × (edge : Edge2) × IsClockedAt f parts p edge × (p.control ≡ Some s)

-- the first latch with a type that is clocked otherwise than one before it
pub record IsOtherClock (f : BlifFileData) (parts : List NumberedPartData) (index : ℕ) : Type 0 where
  pub clock : Clock
  pub before : IsClockOf f (take index parts) clock
  pub part : NumberedPartData
  pub there : slice_get parts index ≡ Some part
  pub edge : Edge2
  pub edge_is : edge_of f part ≡ Some edge
  pub other : differs_from_clock clock edge part.control ≡ true

-- or none, where one clock is that of all
abbrev pub IsOtherClockFound : BlifFileData → List NumberedPartData → Option ℕ → Type 0
IsOtherClockFound f parts None = (clock : Clock) × IsClockOf f parts clock
IsOtherClockFound f parts (Some index) = IsOtherClock f parts index

-- a part is a latch that a signal controls
abbrev pub HasControl : List NumberedPartData → NumberedPartData → Type 0
HasControl before p = IsSome p.control

-- the first latch that a signal controls, with the number of the signal
pub record IsFirstControl (parts : List NumberedPartData) (at : ControlAt) : Type 0 where
  pub part : NumberedPartData
  pub there : slice_get parts at.latch ≡ Some part
  pub control_is : part.control ≡ Some at.number
  pub none_before : (k : ℕ) (p : NumberedPartData) → k < at.latch → slice_get parts k ≡ Some p → IsSome p.control → ⊥

-- or none, where there is none
abbrev pub IsControlFound : List NumberedPartData → Option ControlAt → Type 0
IsControlFound parts None = NoneHolds HasControl parts
IsControlFound parts (Some at) = IsFirstControl parts at

-- a part reads or drives the signal of a number
abbrev pub IsAtNumber : ℕ → List NumberedPartData → NumberedPartData → Type 0
IsAtNumber number before p = Contains (p.reads ++ p.drives ∷ []) number
