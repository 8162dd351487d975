-- The clauses of `top`: what the words ask for has one outcome, and what the status says of it.
use Rattle.std.proofs.Common.{◌≡◌, ◌⊎◌, ℕ, List, None, Some, inl, inr, refl, rules, subst}
use Rattle.std.specs.Prelude.{IfSome, IsSome, MatchOption, Option}
use Rattle.domsyn.specs.declared.refusal.Refusal.{Refusal}
use Rattle.command_words.specs.Asked.{asked_command}
use Rattle.command_words.specs.Commands.{Asks, Command, command_for}
use Rattle.command_words.specs.declared.command.Command.{Command as Read}
use Rattle.domsyn.specs.Outcomes.{Files, IsOutcome, Outcome, Refused, Printed, status_of}
use Rattle.domsyn.specs.Refusals.{refusal_line}
use Rattle.domsyn.specs.Top.{HasOutcome}
use Rattle.command_words.proofs.AskedOnce.{asks_one}
use Rattle.domsyn.proofs.OneOutcome.{one_outcome}

-- words ask for the command that was found
pub asks_found : (words : List (List ℕ)) (found : Option Read) (command : Read) → found ≡ Some command
    → MatchOption found ((command : Command) → Asks words command → ⊥) (λ command. Asks words (asked_command command)) → Asks words (asked_command command)
asks_found words found command is asks =
    subst (λ (found : Option Read). MatchOption found ((command : Command) → Asks words command → ⊥) (λ command. Asks words (asked_command command))) is asks

-- where none was found, they ask for nothing
pub asks_none : (words : List (List ℕ)) (found : Option Read) → found ≡ None
    → MatchOption found ((command : Command) → Asks words command → ⊥) (λ command. Asks words (asked_command command)) → (command : Command) → Asks words command → ⊥
asks_none words found is none =
    subst (λ (found : Option Read). MatchOption found ((command : Command) → Asks words command → ⊥) (λ command. Asks words (asked_command command))) is none

-- words that ask for something ask for a command
pub asks_some : (words : List (List ℕ)) → IsSome (command_for words) → ((command : Command) → Asks words command → ⊥) → ⊥
asks_some words some none = by (command_for words) refl some
  where
    by : (o : Option Command) → command_for words ≡ o → IsSome o → ⊥
    by None e is = search rules
    by (Some command) e is = none command e

-- over files that are known the words have one outcome
pub outcome_once : (known : List (List ℕ × List ℕ)) (words : List (List ℕ)) (a b : Outcome) → HasOutcome (Some known) words a → HasOutcome (Some known) words b → a ≡ b
outcome_once known words a b x y =
    let same = asks_one words x.command y.command x.asks y.asks in
    one_outcome known y.command a b (subst (λ command. IsOutcome (Some known) command a) same x.outcome_is) y.outcome_is

-- what holds of the outcome holds of each
pub each_outcome : (files : Files) (words : List (List ℕ)) (outcome : Outcome) (P : Outcome → Type 0) → HasOutcome files words outcome → P outcome
    → IfSome files (λ known. (other : Outcome) → HasOutcome (Some known) words other → P other)
each_outcome None words outcome P comes p = tt
each_outcome (Some known) words outcome P comes p = λ other is. subst P (outcome_once known words outcome other comes is) p

-- what holds of the line for the file that is refused holds of each
pub each_refusal : (files : Files) (words : List (List ℕ)) (file : List ℕ) (why : Refusal) (P : List ℕ → Type 0) → HasOutcome files words (Refused file why) → P (refusal_line file why)
    → IfSome files (λ known. (name : List ℕ) (cause : Refusal) → HasOutcome (Some known) words (Refused name cause) → P (refusal_line name cause))
each_refusal None words file why P comes p = tt
each_refusal (Some known) words file why P comes p = λ name cause is. subst Q (outcome_once known words (Refused file why) (Refused name cause) comes is) p
  where
    Q : Outcome → Type 0
    Q (Printed status text) = Unit {0}
    Q (Refused name cause) = P (refusal_line name cause)

-- the status of a text that was put out, where no count rose: that of each outcome
pub finished_complete : {files : Files} {words : List (List ℕ)} {status : ℕ} (text : List ℕ) {result : ℕ} (Rises : Type 0) {Fails : Type 0} → HasOutcome files words (Printed status text) → (result ≡ status) ⊎ (result ≡ 4)
    → (result ≡ 4 → Fails) → IfSome files (λ known. (outcome : Outcome) → HasOutcome (Some known) words outcome → (Rises → ⊥) → (Fails → ⊥) → (result ≡ status_of outcome) ⊎ (result ≡ 5))
finished_complete {files} {words} {status} text {result} Rises {Fails} comes known four =
    each_outcome files words (Printed status text) (λ outcome. (Rises → ⊥) → (Fails → ⊥) → (result ≡ status_of outcome) ⊎ (result ≡ 5)) comes
    (λ same_shelf same_out. elim known [ inl e ↦ inl e | inr e ↦ absurd (same_out (four e)) ])
