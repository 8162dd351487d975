-- The clause of `top` on `synth`: what is put out is a right deck, and the options suit the method.
use Rattle.std.proofs.Common.{◌≡◌, ◌≢◌, ℕ, List, arith, subst}
use Rattle.command_words.specs.Commands.{Asks, Command, Synth}
use Rattle.command_words.proofs.AskedMethods.{asks_suited}
use Rattle.command_words.proofs.AskedOnce.{asks_one}
use Rattle.domsyn.specs.Headline.{GivesRightDeck, IsRightFor}
use Rattle.domsyn.specs.Outcomes.{Files}

pub finished_right : (files : Files) (words : List (List ℕ)) (command : Command) → Asks words command → (status : ℕ) (text : List ℕ) → IsRightFor files command status text
    → (result : ℕ) (Puts : List ℕ → Type 0) → result ≡ 0 → (result ≢ 4 → Puts text) → GivesRightDeck files words Puts
finished_right files words command asks status text right result Puts zero puts = λ file options method deck. (
  asks_suited words file options method deck,
  text,
  subst (λ (c : Command). IsRightFor files c status text) (asks_one words command (Synth file options method) asks deck) right,
  puts (λ four. omega (arith, zero, four)),
)
