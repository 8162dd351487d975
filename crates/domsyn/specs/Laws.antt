-- What holds of each command and its outcomes.
use Rattle.std.specs.Prelude.{ℕ, ◌≡◌, ◌<◌, List, All, Some}
use Rattle.dom_io.specs.Held.{held}
use Rattle.command_words.specs.Commands.{Audit, Bench, Command, Cosim, Flat, HasGoodOptions, Report, Run, Sim, Synth, files_of}
use Rattle.deck.specs.CircuitData.{CircuitData}
use Rattle.deck.specs.DeckText.{IsDeckOf}
use Rattle.deck.specs.Roles.{AreRoles, ports_of}
use Rattle.deck.specs.declared.role.Roles.{Roles}
use Rattle.deck_audit.specs.Audits.{Answer, IsAudit}
use Rattle.domsyn.specs.Outcomes.{IsOutcome, Outcome}

-- over files that are known a command has at most one outcome
abbrev pub OutcomeIsOne : Type 0
OutcomeIsOne = (known : List (List ℕ × List ℕ)) (command : Command) (a b : Outcome)
    → IsOutcome (Some known) command a → IsOutcome (Some known) command b → a ≡ b

-- the file is one of those that are known, and each of its bytes is a byte
pub record IsKnownFile (known : List (List ℕ × List ℕ)) (name : List ℕ) : Type 0 where
  pub bytes : List ℕ
  pub holds : held known name ≡ Some bytes
  pub are_bytes : All (λ b. b < 256) bytes

-- for `audit`: the audit of the circuit of its deck has an answer, where its ports are in order
abbrev pub HasAnswer : List (List ℕ × List ℕ) → Command → Type 0
HasAnswer known (Synth file options method) = Unit {0}
HasAnswer known (Flat file) = Unit {0}
HasAnswer known (Run file stim) = Unit {0}
HasAnswer known (Sim deck stim options clocking) = Unit {0}
HasAnswer known (Cosim file deck stim order seed) = Unit {0}
HasAnswer known (Report file options) = Unit {0}
HasAnswer known (Bench seed size options) = Unit {0}
HasAnswer known (Audit deck) = (bytes : List ℕ) (circuit : CircuitData) (roles : Roles)
    → held known deck ≡ Some bytes → IsDeckOf bytes circuit → AreRoles (ports_of circuit) roles → (answer : Answer) × IsAudit circuit roles answer

-- Over files that are known a command has an outcome, where each of its files is one of them and its options are within the ranges of
-- their values, as those are that words ask for. That of `audit` hangs on the answer of the audit: the rules are given, and it isn't shown
-- here that one of them is broken or all hold.
abbrev pub OutcomeIsThere : Type 0
OutcomeIsThere = (known : List (List ℕ × List ℕ)) (command : Command) → HasGoodOptions command → All (IsKnownFile known) (files_of command)
    → HasAnswer known command → (outcome : Outcome) × IsOutcome (Some known) command outcome
