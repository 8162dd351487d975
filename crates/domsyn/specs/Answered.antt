-- What `top` answers where the files that the words ask for are known and nothing of the outside fails.
use Rattle.std.specs.Prelude.{ℕ, ◌≡◌, ◌⊎◌, All, IfSome, List, Some}
use Rattle.command_words.specs.Commands.{Asks, Command, files_of}
use Rattle.domsyn.specs.Laws.{HasAnswer, IsKnownFile}
use Rattle.domsyn.specs.Outcomes.{Files, Outcome, status_of}
use Rattle.domsyn.specs.Top.{HasOutcome}

-- over files that are known what the words ask for has this outcome and no other
pub record IsOneOutcome (known : List (List ℕ × List ℕ)) (words : List (List ℕ)) (outcome : Outcome) : Type 0 where
  pub has : HasOutcome (Some known) words outcome
  pub only : (other : Outcome) → HasOutcome (Some known) words other → other ≡ outcome

-- Where the words ask for a command each of whose files is known, for `audit` where its deck has an answer, it has one outcome. The status
-- is that of this outcome, or memory did not suffice, where nothing else failed.
abbrev pub AnswersOutcome : Files → List (List ℕ) → ℕ → Type 0 → Type 0
AnswersOutcome files words status Fails =
    IfSome files (λ known. (command : Command) → Asks words command → All (IsKnownFile known) (files_of command) → HasAnswer known command
    → (outcome : Outcome) × IsOneOutcome known words outcome × ((Fails → ⊥) → (status ≡ status_of outcome) ⊎ (status ≡ 5)))
