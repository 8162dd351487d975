-- What `top` answers to `cosim` of a right deck of a text.
use Rattle.std.specs.Prelude.{None, Some}
use Rattle.std.proofs.Common.{◌≡◌, ◌≢◌, ◌⊎◌, ℕ, Bool, List, length, inl, inr, refl, arith, subst}
use Rattle.deck_form.specs.declared.options.SynthOptions.{SynthOptions}
use Rattle.command_words.specs.declared.command.Method.{Method}
use Rattle.command_words.specs.Commands.{Asks, Command, Cosim}
use Rattle.command_words.proofs.AskedOnce.{asks_one}
use Rattle.domsyn.proofs.OneOutcome.{one_outcome}
use Rattle.domsyn.proofs.ReportedFailures.{FailureReported, refusal, unread, memory}
use Rattle.domsyn.specs.Outcomes.{Files, IsOutcome, Outcome, Printed, Refused, status_of}
use Rattle.domsyn.specs.Top.{HasOutcome}
use Rattle.domsyn.specs.declared.refusal.Refusal.{Refusal}
use Rattle.trace_tool.specs.VerdictLines.{same_line}
use Rattle.trace_tool.specs.declared.options.Order.{Order}
use Rattle.domsyn.proofs.OwnDecks.{own_deck_same}
use Rattle.domsyn.specs.OwnDecks.{AreOwnFiles, SaysSame}

-- the text of an outcome, and none where a file is refused
text_of : Outcome → List ℕ → Type 0
text_of (Printed status text) other = text ≡ other
text_of (Refused file why) other = ⊥

-- no file is refused
not_refused : Outcome → Type 0
not_refused (Printed status text) = Unit {0}
not_refused (Refused file why) = ⊥

module _ (known : List (List ℕ × List ℕ)) (words : List (List ℕ)) (file deck stim : List ℕ) (order : Order) (seed : ℕ)
    (options : SynthOptions) (method : Method) (stream : List (List Bool)) (asks : Asks words (Cosim file deck stim order seed)) (own : AreOwnFiles known file deck stim options method stream) where
  abbrev wanted : Outcome
  wanted = Printed 0 (same_line (length stream))

  one : (outcome : Outcome) → HasOutcome (Some known) words outcome → wanted ≡ outcome
  one outcome has =
      let same = asks_one words has.command (Cosim file deck stim order seed) has.asks asks in
      one_outcome known (Cosim file deck stim order seed) wanted outcome (own_deck_same known file deck stim order seed options method stream own)
      (subst (λ (c : Command). IsOutcome (Some known) c outcome) same has.outcome_is)

  never_refused : (name : List ℕ) (why : Refusal) → HasOutcome (Some known) words (Refused name why) → ⊥
  unfolding not_refused
  never_refused name why has = subst not_refused (one (Refused name why) has) tt

  status_is : (status : ℕ) (text : List ℕ) → HasOutcome (Some known) words (Printed status text) → 0 ≡ status
  status_is status text has = subst (λ (o : Outcome). 0 ≡ status_of o) (one (Printed status text) has) refl

  text_is : (status : ℕ) (text : List ℕ) → HasOutcome (Some known) words (Printed status text) → text ≡ same_line (length stream)
  unfolding text_of
  text_is status text has = subst (λ (o : Outcome). text_of o (same_line (length stream))) (one (Printed status text) has) refl

-- a status of no outcome says nothing
pub unsaid : (files : Files) (words : List (List ℕ)) (result : ℕ) (Puts : List ℕ → Type 0) → result ≢ 0 → result ≢ 1 → result ≢ 6
    → SaysSame files words result Puts
unsaid None words result Puts zero one six = tt
unsaid (Some known) words result Puts zero one six = λ file deck stim order seed options method stream asks own.
    (one, six, (λ none. absurd (zero none)))

-- a text was put out, or a part of it
pub finished_own : (files : Files) (words : List (List ℕ)) (status : ℕ) (text : List ℕ) → HasOutcome files words (Printed status text) → (result : ℕ) (Puts : List ℕ → Type 0)
    → (result ≡ status) ⊎ (result ≡ 4) → (result ≢ 4 → Puts text) → SaysSame files words result Puts
finished_own files words status text has result Puts (inr four) puts =
    unsaid files words result Puts (λ e. omega (arith, e, four)) (λ e. omega (arith, e, four)) (λ e. omega (arith, e, four))
finished_own None words status text has result Puts (inl same) puts = tt
finished_own (Some known) words status text has result Puts (inl same) puts = λ file deck stim order seed options method stream asks own.
    let zero = status_is known words file deck stim order seed options method stream asks own status text has in
    let told = text_is known words file deck stim order seed options method stream asks own status text has in (
      (λ e. omega (arith, same, zero, e)),
      (λ e. omega (arith, same, zero, e)),
      (λ none. subst Puts told (puts (λ e. omega (arith, none, e)))),
    )

-- a failure was reported
pub reported_own : {files : Files} {words : List (List ℕ)} {Rises : Type 0} {status : ℕ} {Reports : List ℕ → Type 0} (Puts : List ℕ → Type 0)
    → FailureReported files words Rises status Reports → SaysSame files words status Puts
reported_own {files = None} Puts (refusal name why comes one tells) = tt
reported_own {files = Some known} {words = words} Puts (refusal name why comes one tells) = λ file deck stim order seed options method stream asks own.
    absurd (never_refused known words file deck stim order seed options method stream asks own name why comes)
reported_own {files = files} {words = words} {status = status} Puts (unread name meets rises three tells) =
    unsaid files words status Puts (λ e. omega (arith, e, three)) (λ e. omega (arith, e, three)) (λ e. omega (arith, e, three))
reported_own {files = files} {words = words} {status = status} Puts (memory five tells) =
    unsaid files words status Puts (λ e. omega (arith, e, five)) (λ e. omega (arith, e, five)) (λ e. omega (arith, e, five))
