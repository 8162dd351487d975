-- What the words ask for over files, and the lines that report it.
use Rattle.std.specs.Prelude.{ℕ, ◌≡◌, ◌⊎◌, ◌==◌, List, [], ◌++◌, Some, MatchOption, Option, codes, if◌then◌else◌, length}
use Rattle.std.specs.Io.KnownBytes.{Appends}
use Rattle.dom_io.specs.Faults.{Rose}
use Rattle.dom_io.specs.Pieces.{AppendsPrefix}
use Rattle.domsyn.specs.declared.refusal.Refusal.{Refusal}
use Rattle.command_words.specs.Commands.{Asks, Command}
use Rattle.domsyn.specs.Outcomes.{Files, IsOutcome, IsUnread, Outcome, Printed, Refused}
use Rattle.domsyn.specs.Refusals.{refusal_line}

abbrev pub usage_line : List ℕ
usage_line =
    codes "usage: domsyn synth FILE | flat FILE | run FILE STIM | sim DECK STIM | cosim FILE DECK STIM | report FILE | bench SEED SIZE"
    ++ codes " | audit DECK\n"

-- the line on `err` for a file that can't be read
abbrev pub unread_line : List ℕ → List ℕ
unread_line file = codes "domsyn: " ++ file ++ codes ": cannot read\n"

-- the line on `err` for a status at which no file is named
abbrev pub line_of : ℕ → List ℕ
line_of status =
    if status == 2 then usage_line
    else (if status == 4 then codes "domsyn: cannot write\n"
    else (if status == 5 then codes "domsyn: out of memory\n" else []))

-- what the words ask for has this outcome over these files
pub record HasOutcome (files : Files) (words : List (List ℕ)) (outcome : Outcome) : Type 0 where
  pub command : Command
  pub asks : Asks words command
  pub outcome_is : IsOutcome files command outcome

-- the words ask for the file, and those before it were read
pub record MeetsUnread (files : Files) (words : List (List ℕ)) (file : List ℕ) : Type 0 where
  pub command : Command
  pub asks : Asks words command
  pub unread : IsUnread files command file

-- room for what holds of the files that are known, and for every length where they are not known
abbrev pub HasRoomFor : Files → (Files → List ℕ → Type 0) → (ℕ → Type 0) → Type 0
HasRoomFor files Any room =
    MatchOption files ((n : ℕ) → room n) (λ known. (bytes : List ℕ) → Any (Some known) bytes → room (length bytes))

-- a text that the words ask for
abbrev pub IsText : List (List ℕ) → Files → List ℕ → Type 0
IsText words files text = (status : ℕ) × HasOutcome files words (Printed status text)

-- the line for a file that is refused where the words ask for it
abbrev pub IsRefusalLine : List (List ℕ) → Files → List ℕ → Type 0
IsRefusalLine words files line =
    (file : List ℕ) × ((why : Refusal) × HasOutcome files words (Refused file why) × (line ≡ refusal_line file why))

-- what a sink has taken and its count of faults, before and now: the whole line was taken, or a part of it and the count rose
abbrev pub Reports : Option (List ℕ) → Option (List ℕ) → ℕ → ℕ → List ℕ → Type 0
Reports old new before now line = Appends old new line ⊎ (AppendsPrefix old new line × Rose before now)
