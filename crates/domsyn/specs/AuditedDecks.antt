-- What is proved where `audit` puts out a yes: the deck that was read is a deck of domino cells with keepers in another order, and it is
-- right in every run as it stands.
use Rattle.std.specs.Prelude.{ℕ, List}
use Rattle.command_answers.specs.AuditedDecks.{IsAuditedDeck}
use Rattle.command_words.specs.Commands.{Asks, Audit}
use Rattle.domsyn.specs.Outcomes.{Files, IsFile}

-- the file is a deck of which the line says yes, and it is such a deck
pub record IsAuditedFile (files : Files) (deck line : List ℕ) : Type 0 where
  pub bytes : List ℕ
  pub is_file : IsFile files deck bytes
  pub is_audited : IsAuditedDeck bytes line

-- where the words ask for the audit of a deck, such a line is put out
abbrev pub GivesAuditedDeck : Files → List (List ℕ) → (List ℕ → Type 0) → Type 0
GivesAuditedDeck files words Puts =
    (deck : List ℕ) → Asks words (Audit deck) → (line : List ℕ) × IsAuditedFile files deck line × Puts line
