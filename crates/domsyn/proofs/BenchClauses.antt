-- The clauses of `top` on `bench`: it refuses nothing, reads nothing, and puts out that all is the same.
use Rattle.std.proofs.Common.{◌≡◌, ◌≢◌, ◌⊎◌, ℕ, List, inl, inr, subst, arith}
use Rattle.command_words.specs.Commands.{Asks, Bench, Command}
use Rattle.command_words.proofs.AskedOnce.{asks_one}
use Rattle.deck_form.specs.declared.options.SynthOptions.{SynthOptions}
use Rattle.domsyn.specs.Benches.{GivesSameBench}
use Rattle.command_answers.specs.Benches.{IsSameBench}
use Rattle.domsyn.specs.Headline.{IsRightFor}
use Rattle.domsyn.specs.Outcomes.{Files, IsOutcome, IsUnread, Refused}
use Rattle.domsyn.proofs.ReportedFailures.{FailureReported, refusal, unread, memory}

-- the status is none of these
abbrev pub IsWell : ℕ → Type 0
IsWell status = (status ≢ 1) × (status ≢ 3) × (status ≢ 6)

-- a status of nought, of a failed write, of want of memory is none of these
nought : (result status : ℕ) → result ≡ status → status ≡ 0 → IsWell result
nought result status same none = ((λ e. omega (arith, same, none, e)), (λ e. omega (arith, same, none, e)), λ e. omega (arith, same, none, e))

unwritten : (result : ℕ) → result ≡ 4 → IsWell result
unwritten result four = ((λ e. omega (arith, four, e)), (λ e. omega (arith, four, e)), λ e. omega (arith, four, e))

forgotten : (result : ℕ) → result ≡ 5 → IsWell result
forgotten result five = ((λ e. omega (arith, five, e)), (λ e. omega (arith, five, e)), λ e. omega (arith, five, e))

module _ (files : Files) (words : List (List ℕ)) (command : Command) (asks : Asks words command) (status : ℕ) (text : List ℕ) (right : IsRightFor files command status text) where
  -- what is put out where the words ask for a bench
  same_text : (seed size : ℕ) (options : SynthOptions) → Asks words (Bench seed size options) → IsSameBench seed size options status text
  same_text seed size options bench =
      subst (λ (c : Command). IsRightFor files c status text) (asks_one words command (Bench seed size options) asks bench) right

  pub finished_bench : (result : ℕ) → (result ≡ status) ⊎ (result ≡ 4) → (seed size : ℕ) (options : SynthOptions) → Asks words (Bench seed size options) → IsWell result
  finished_bench result (inl same) seed size options bench = nought result status same (same_text seed size options bench).done
  finished_bench result (inr four) seed size options bench = unwritten result four

  pub finished_same : (result : ℕ) (Puts : List ℕ → Type 0) → result ≡ 0 → (result ≢ 4 → Puts text) → GivesSameBench words Puts
  finished_same result Puts zero puts = λ seed size options bench.
      let same = same_text seed size options bench in
      (text, subst (λ (s : ℕ). IsSameBench seed size options s text) same.done same, puts (λ four. omega (arith, zero, four)))

-- a failure is want of memory where the words ask for a bench
pub reported_bench : {files : Files} {words : List (List ℕ)} {Rises : Type 0} {status : ℕ} {Reports : List ℕ → Type 0} → FailureReported files words Rises status Reports
    → (seed size : ℕ) (options : SynthOptions) → Asks words (Bench seed size options) → IsWell status
reported_bench {files = files} {words = words} (refusal file why comes one tells) seed size options bench =
    absurd (subst (λ (c : Command). IsOutcome files c (Refused file why)) (asks_one words comes.command (Bench seed size options) comes.asks bench) comes.outcome_is)
reported_bench {files = files} {words = words} (unread file meets rises three tells) seed size options bench =
    absurd (subst (λ (c : Command). IsUnread files c file) (asks_one words meets.command (Bench seed size options) meets.asks bench) meets.unread)
reported_bench {status = status} (memory five tells) seed size options bench = forgotten status five
