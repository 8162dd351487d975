-- Which files were asked for, by the status of a failure.
use Rattle.std.proofs.Common.{◌≡◌, ◌≢◌, ◌⊎◌, ℕ, List, [], inl, inr, ap, subst, arith}
use Rattle.domsyn.specs.declared.failure.Failure.{Failure}
use Rattle.domsyn.specs.declared.failure.Failure.TheVariants as failure
use Rattle.domsyn.specs.declared.refusal.Refusal.{Refusal}
use Rattle.dom_io.specs.Asked.{Asking}
use Rattle.command_words.specs.Commands.{Asks, Bench, Command, files_of}
use Rattle.command_words.proofs.AskedOnce.{asks_one}
use Rattle.deck_form.specs.declared.options.SynthOptions.{SynthOptions}
use Rattle.command_answers.specs.Endings.{ending_number}
use Rattle.command_answers.specs.declared.answer.Ending.{Ending}
use Rattle.command_answers.specs.declared.answer.Ending.TheVariants.{Done, Differs}
use Rattle.domsyn.specs.Failures.{IsFailureOf, IsReportedAt}
use Rattle.domsyn.specs.Fetches.{AsksAll, AsksAt, AsksAtRefusal, AsksEach, AsksFirst, AsksUpTo}
use Rattle.domsyn.specs.Outcomes.{Files, Refused}
use Rattle.domsyn.specs.Refusals.{refusal_line}
use Rattle.domsyn.specs.Top.{HasOutcome, MeetsUnread, unread_line}
use Rattle.domsyn.proofs.FetchedFiles.{in_order_at}

-- the files of a command that the words ask for are those of each
pub asks_all : (files : Files) (words : List (List ℕ)) (HasAsked : List Asking → Type 0) (command : Command) → Asks words command → AsksEach files (files_of command) HasAsked
    → AsksAll files words HasAsked
asks_all files words HasAsked command asks has other also = subst (λ (c : Command). AsksEach files (files_of c) HasAsked) (asks_one words command other asks also) has

-- a bench has none
pub bench_asks_none : (words : List (List ℕ)) (Untouched : Type 0) (command : Command) → Asks words command → (files_of command ≡ [] → Untouched)
    → (seed size : ℕ) (options : SynthOptions) → Asks words (Bench seed size options) → Untouched
bench_asks_none words Untouched command asks none seed size options bench = none (ap files_of (asks_one words command (Bench seed size options) asks bench))

module _ {files : Files} {words : List (List ℕ)} {status : ℕ} {HasAsked : List Asking → Type 0} where
  pub refused_asks : (Rises : Type 0) (Reports : List ℕ → Type 0) (command : Command) (why : Failure) → Asks words command → IsFailureOf files command Rises why → AsksAt files (files_of command) HasAsked why
      → IsReportedAt why status Reports → status ≡ 1
      → (file : List ℕ) × ((why : Refusal) × HasOutcome files words (Refused file why) × Reports (refusal_line file why) × AsksAtRefusal files words HasAsked file why)
  refused_asks Rises Reports command (failure.Refused file why) asks is there (inl known) one =
      (file.now, (why, record { command = command; asks = asks; outcome_is = is }, known.1, (there.0, there.1, record { command = command; asks = asks; holds = there.2 })))
  refused_asks Rises Reports command (failure.Refused file why) asks is there (inr known) one = absurd (omega (arith, one, known.0))
  refused_asks Rises Reports command (failure.Unread file) asks is there known one = absurd (omega (arith, one, known.0))
  refused_asks Rises Reports command failure.Memory asks is there known one = absurd (omega (arith, one, known.0))

  pub unread_asks : (Rises : Type 0) (Reports : List ℕ → Type 0) (command : Command) (why : Failure) → Asks words command → IsFailureOf files command Rises why → AsksAt files (files_of command) HasAsked why
      → IsReportedAt why status Reports → status ≡ 3
      → (file : List ℕ) × MeetsUnread files words file × Reports (unread_line file) × AsksUpTo files words HasAsked file
  unread_asks Rises Reports command (failure.Refused file why) asks is there (inl known) three = absurd (omega (arith, three, known.0))
  unread_asks Rises Reports command (failure.Refused file why) asks is there (inr known) three = absurd (omega (arith, three, known.0))
  unread_asks Rises Reports command (failure.Unread file) asks is there known three =
      (file.now, record { command = command; asks = asks; unread = is.0 }, known.1, (there.0, there.1, record { command = command; asks = asks; holds = there.2 }))
  unread_asks Rises Reports command failure.Memory asks is there known three = absurd (omega (arith, three, known.0))

-- some of the first, whatever failed
pub first_asks : {files : Files} {words : List (List ℕ)} {HasAsked : List Asking → Type 0} (command : Command) (why : Failure) → Asks words command
    → AsksAt files (files_of command) HasAsked why → AsksFirst files words HasAsked
first_asks {files = files} command why asks there = inr (there.0, there.1, record { command = command; asks = asks; holds = in_order_at files (files_of command) there.0 why there.2 })

-- a failure has one of three statuses
pub failed_as : {status : ℕ} (Reports : List ℕ → Type 0) (why : Failure) → IsReportedAt why status Reports → status ≢ 1 → status ≢ 3 → status ≢ 5 → ⊥
failed_as Reports (failure.Refused file why) (inl known) one three five = one known.0
failed_as Reports (failure.Refused file why) (inr known) one three five = five known.0
failed_as Reports (failure.Unread file) known one three five = three known.0
failed_as Reports failure.Memory known one three five = five known.0

-- the status of a text isn't that of want of memory
pub finished_known : (ending : Ending) (status : ℕ) → (status ≡ ending_number ending) ⊎ (status ≡ 4) → status ≡ 5 → ⊥
finished_known Done status (inl known) five = omega (arith, known, five)
finished_known Differs status (inl known) five = omega (arith, known, five)
finished_known ending status (inr four) five = omega (arith, four, five)
