-- Files that are known, and the outcomes of commands over them.
use Rattle.std.proofs.Common.{◌<◌, ◌≤◌, ◌⊎◌, ℕ, List, length, arith}
use Rattle.std.specs.Prelude.{Some}
use Rattle.command_words.specs.Commands.{Command}
use Rattle.domsyn.specs.Outcomes.{IsOutcome, Outcome}

-- names with their bytes
abbrev pub Pairs : Type 0
Pairs = List (List ℕ × List ℕ)

-- a command has an outcome over them
abbrev pub HasOne : Pairs → Command → Type 0
HasOne known command = (outcome : Outcome) × IsOutcome (Some known) command outcome

-- bytes are within a limit, or beyond it
pub fits_or_not : (bytes : List ℕ) (limit : ℕ) → (length bytes ≤ limit) ⊎ (limit < length bytes)
fits_or_not bytes limit = by (length bytes)
  where
    by : (n : ℕ) → (n ≤ limit) ⊎ (limit < n)
    by n = grind arith
