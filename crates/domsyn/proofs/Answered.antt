-- The clause of `top` on its one outcome: it follows from what each outcome says of the status.
use Rattle.std.proofs.Common.{◌≡◌, ◌⊎◌, ℕ, List, None, Some, inl, inr}
use Rattle.std.specs.Prelude.{IfSome}
use Rattle.command_words.specs.Commands.{Asks, Command}
use Rattle.command_words.proofs.AskedOnce.{asks_in_range}
use Rattle.domsyn.specs.Answered.{AnswersOutcome}
use Rattle.domsyn.specs.Outcomes.{Files, Outcome, status_of}
use Rattle.domsyn.specs.Top.{HasOutcome}
use Rattle.domsyn.proofs.OutcomeThere.{outcome_there}
use Rattle.domsyn.proofs.TopClauses.{outcome_once}

module _ (files : Files) (words : List (List ℕ)) (status : ℕ) (Rises Fails : Type 0) where
  pub answers_outcome : IfSome files (λ known. (outcome : Outcome) → HasOutcome (Some known) words outcome → (Rises → ⊥) → (Fails → ⊥) → (status ≡ status_of outcome) ⊎ (status ≡ 5))
      → AnswersOutcome files words status (Rises ⊎ Fails)
  answers_outcome says = by files says
    where
      by : (files : Files) → IfSome files (λ known. (outcome : Outcome) → HasOutcome (Some known) words outcome → (Rises → ⊥) → (Fails → ⊥) → (status ≡ status_of outcome) ⊎ (status ≡ 5))
          → AnswersOutcome files words status (Rises ⊎ Fails)
      by None says = tt
      by (Some known) says = λ command asks are answer.
          let made = outcome_there known command (asks_in_range words command asks) are answer in
          let has : HasOutcome (Some known) words made.0 = record { command = command; asks = asks; outcome_is = made.1 } in (
            made.0,
            record { has = has; only = λ other theirs. outcome_once known words other made.0 theirs has },
            λ well. says made.0 has (λ rises. well (inl rises)) (λ fails. well (inr fails)),
          )

  -- where memory did not suffice
  pub answers_memory : status ≡ 5 → AnswersOutcome files words status (Rises ⊎ Fails)
  answers_memory five = answers_outcome (by files)
    where
      by : (files : Files) → IfSome files (λ known. (outcome : Outcome) → HasOutcome (Some known) words outcome → (Rises → ⊥) → (Fails → ⊥) → (status ≡ status_of outcome) ⊎ (status ≡ 5))
      by None = tt
      by (Some known) = λ outcome has rises fails. inr five

  -- where the words ask for nothing
  pub answers_nothing : ((command : Command) → Asks words command → ⊥) → AnswersOutcome files words status (Rises ⊎ Fails)
  answers_nothing none = by files
    where
      by : (files : Files) → AnswersOutcome files words status (Rises ⊎ Fails)
      by None = tt
      by (Some known) = λ command asks are answer. absurd (none command asks)
