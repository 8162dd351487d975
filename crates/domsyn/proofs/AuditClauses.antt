-- The clause of `top` on `audit`: where it says yes, the deck that was read is right.
use Rattle.std.proofs.Common.{◌≡◌, ◌≢◌, ◌⊎◌, ℕ, List, arith, inl, inr, subst}
use Rattle.command_words.specs.Commands.{Asks, Audit, Command}
use Rattle.command_words.proofs.AskedOnce.{asks_one}
use Rattle.domsyn.specs.AuditedDecks.{GivesAuditedDeck}
use Rattle.domsyn.specs.Headline.{IsRightFor}
use Rattle.domsyn.specs.Outcomes.{Files}

pub finished_audited : (files : Files) (words : List (List ℕ)) (command : Command) → Asks words command → (status : ℕ) (text : List ℕ) → IsRightFor files command status text
    → (result : ℕ) (Puts : List ℕ → Type 0) → result ≡ 0 → (result ≡ status) ⊎ (result ≡ 4) → (result ≢ 4 → Puts text) → GivesAuditedDeck files words Puts
finished_audited files words command asks status text right result Puts zero known puts = λ deck audits. (
  text,
  subst (λ (c : Command). IsRightFor files c status text) (asks_one words command (Audit deck) asks audits) right (well known),
  puts (λ four. omega (arith, zero, four)),
)
  where
    well : (result ≡ status) ⊎ (result ≡ 4) → status ≡ 0
    well (inl same) = omega (arith, zero, same)
    well (inr four) = absurd (omega (arith, zero, four))
