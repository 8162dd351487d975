-- How a command that gives a text ends.
use Rattle.std.specs.Prelude.{ℕ, Bool, true, false}
use Rattle.command_answers.specs.declared.answer.Ending.{Ending}
use Rattle.command_answers.specs.declared.answer.Ending.TheVariants.{Done, Differs}

-- the status of an ending
abbrev pub ending_number : Ending → ℕ
ending_number Done = 0
ending_number Differs = 6

-- the ending where all is well, or isn't
abbrev pub ending_of : Bool → Ending
ending_of true = Done
ending_of false = Differs
