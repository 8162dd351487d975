-- What the status of a failure says of the words that are asked.
use Rattle.std.proofs.Common.{◌≡◌, ◌⊎◌, ℕ, List, None, Some, inl, inr, arith}
use Rattle.std.specs.Prelude.{IfSome}
use Rattle.domsyn.specs.declared.failure.Failure.{Failure}
use Rattle.domsyn.specs.declared.failure.Failure.TheVariants as failure
use Rattle.domsyn.specs.declared.refusal.Refusal.{Refusal}
use Rattle.command_words.specs.Commands.{Asks, Command}
use Rattle.domsyn.specs.Outcomes.{Files, Outcome, Refused, status_of}
use Rattle.domsyn.specs.Refusals.{refusal_line}
use Rattle.domsyn.specs.Failures.{IsFailureOf, IsReportedAt}
use Rattle.domsyn.specs.Top.{HasOutcome, MeetsUnread, line_of, unread_line}
use Rattle.domsyn.proofs.TopClauses.{each_outcome, each_refusal}

-- a status with what is reported: the refusal that is the outcome, a file that can't be read, or out of memory
pub data FailureReported (files : Files) (words : List (List ℕ)) (Rises : Type 0) (status : ℕ) (Reports : List ℕ → Type 0) : Type 0 where
  refusal : (file : List ℕ) (why : Refusal) → HasOutcome files words (Refused file why) → status ≡ 1 → Reports (refusal_line file why) → FailureReported files words Rises status Reports
  unread : (file : List ℕ) → MeetsUnread files words file → Rises → status ≡ 3 → Reports (unread_line file) → FailureReported files words Rises status Reports
  memory : status ≡ 5 → Reports (line_of 5) → FailureReported files words Rises status Reports

pub failure_reported : {files : Files} {words : List (List ℕ)} {Rises : Type 0} {status : ℕ} {Reports : List ℕ → Type 0} (command : Command) (why : Failure) → Asks words command → IsFailureOf files command Rises why
    → IsReportedAt why status Reports → FailureReported files words Rises status Reports
failure_reported command (failure.Refused file why) asks is (inl known) = refusal file.now why (record { command = command; asks = asks; outcome_is = is }) known.0 known.1
failure_reported command (failure.Refused file why) asks is (inr known) = memory known.0 known.1
failure_reported command (failure.Unread file) asks is known = unread file.now (record { command = command; asks = asks; unread = is.0 }) is.1 known.0 known.1
failure_reported command failure.Memory asks is known = memory known.0 known.1

pub reported_unread : {files : Files} {words : List (List ℕ)} {Rises : Type 0} {status : ℕ} {Reports : List ℕ → Type 0} → FailureReported files words Rises status Reports → status ≡ 3
    → Rises × ((file : List ℕ) × MeetsUnread files words file × Reports (unread_line file))
reported_unread (refusal file why comes one tells) three = absurd (omega (arith, one, three))
reported_unread (unread file meets rises _ tells) three = (rises, (file, meets, tells))
reported_unread (memory five tells) three = absurd (omega (arith, five, three))

pub reported_refused : {files : Files} {words : List (List ℕ)} {Rises : Type 0} {status : ℕ} {Reports : List ℕ → Type 0} → FailureReported files words Rises status Reports → status ≡ 1
    → (file : List ℕ) × ((why : Refusal) × HasOutcome files words (Refused file why) × Reports (refusal_line file why))
reported_refused (refusal file why comes _ tells) one = (file, (why, comes, tells))
reported_refused (unread file meets rises three tells) one = absurd (omega (arith, three, one))
reported_refused (memory five tells) one = absurd (omega (arith, five, one))

-- the line of a refusal is that of each one
pub reported_cause : {files : Files} {words : List (List ℕ)} {Rises : Type 0} {status : ℕ} {Reports : List ℕ → Type 0} → FailureReported files words Rises status Reports → status ≡ 1
    → IfSome files (λ known. (file : List ℕ) (why : Refusal) → HasOutcome (Some known) words (Refused file why) → Reports (refusal_line file why))
reported_cause {files = files} {words = words} {Reports = Reports} stop one =
    let known = reported_refused stop one in
    each_refusal files words known.0 known.1.0 Reports known.1.1 known.1.2

-- the status where no count rose: that of each outcome, or 5
pub reported_complete : {files : Files} {words : List (List ℕ)} {Rises : Type 0} {status : ℕ} {Reports : List ℕ → Type 0} (Fails : Type 0) → FailureReported files words Rises status Reports
    → IfSome files (λ known. (outcome : Outcome) → HasOutcome (Some known) words outcome → (Rises → ⊥) → (Fails → ⊥) → (status ≡ status_of outcome) ⊎ (status ≡ 5))
reported_complete {files = None} Fails stop = tt
reported_complete {files = Some known} {words = words} {Rises = Rises} {status = status} Fails (refusal file why comes one tells) =
    each_outcome (Some known) words (Refused file why) (λ outcome. (Rises → ⊥) → (Fails → ⊥) → (status ≡ status_of outcome) ⊎ (status ≡ 5)) comes (λ same_shelf same_out. inl one)
reported_complete {files = Some known} Fails (unread file meets rises three tells) = λ outcome comes same_shelf same_out. absurd (same_shelf rises)
reported_complete {files = Some known} Fails (memory five tells) = λ outcome comes same_shelf same_out. inr five
