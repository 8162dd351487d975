-- What a text keeps while the line of a cycle is appended to it piece by piece, and the two pieces of that line.
use Rattle.std.specs.Prelude.{ℕ, ◌≡◌, List, [], ◌∷◌, ◌++◌, codes, length, take}
use Rattle.std.specs.Fmt.{decimal}
use Rattle.stim_text.specs.CycleLines.{events_part, out_letters, pin_letters}
use Rattle.stim_text.specs.CycleRowData.{CycleRowData}

-- a text still begins with what it was
abbrev pub KeepsFront : List ℕ → List ℕ → Type 0
KeepsFront before after = take (length before) after ≡ before

-- the line of a cycle up to its pins
abbrev pub cycle_front : CycleRowData → List ℕ
cycle_front row = codes "cycle " ++ decimal row.cycle ++ codes " in " ++ pin_letters row.pins

-- and what follows them
abbrev pub cycle_rest : CycleRowData → List ℕ
cycle_rest row = codes " out " ++ out_letters row.outs ++ events_part row.events ++ 10 ∷ []
