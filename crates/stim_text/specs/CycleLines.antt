-- The line that is printed of a cycle.
use Rattle.std.specs.Prelude.{ℕ, Bool, true, false, List, [], ◌∷◌, ◌++◌, map, codes, Option, Some, None}
use Rattle.std.specs.Fmt.{decimal}
use Rattle.dom_base.specs.Tri.{letter_of}
use Rattle.dom_base.specs.declared.tri.Tri.{Tri}
use Rattle.stim_text.specs.CycleRowData.{CycleRowData}

-- the letter of a bit
abbrev pub bit_letter : Bool → ℕ
bit_letter true = 49
bit_letter false = 48

-- letters, with `-` in place of none
abbrev pub or_dash : List ℕ → List ℕ
or_dash [] = codes "-"
or_dash (b ∷ bs) = b ∷ bs

-- the letters of pins
abbrev pub pin_letters : List Bool → List ℕ
pin_letters pins = or_dash (map bit_letter pins)

-- the letters of outputs
abbrev pub out_letters : List Tri → List ℕ
out_letters outs = or_dash (map letter_of outs)

-- the events, where they are printed
abbrev pub events_part : Option ℕ → List ℕ
events_part None = []
events_part (Some events) = codes " events " ++ decimal events

-- the line of a cycle
abbrev pub cycle_line : CycleRowData → List ℕ
cycle_line row =
    codes "cycle " ++ decimal row.cycle
    ++ codes " in " ++ pin_letters row.pins
    ++ codes " out " ++ out_letters row.outs
    ++ events_part row.events ++ 10 ∷ []
