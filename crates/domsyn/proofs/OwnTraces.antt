-- What `sim` says of a right deck of a text, by any method, and what `top` answers to it.
use Rattle.std.specs.Prelude.{None, Some, if◌then◌else◌}
use Rattle.std.proofs.Common.{◌≡◌, ◌≢◌, ◌⊎◌, ◌∙◌, ℕ, Bool, List, [], ◌∷◌, inl, inr, sym, ap, arith, subst}
use Rattle.std.proofs.lemmas.Option.{same_Some}
use Rattle.command_words.specs.Commands.{Asks, Command, Sim}
use Rattle.command_words.proofs.AskedOnce.{asks_one}
use Rattle.network.specs.NetworkData.{NetworkData}
use Rattle.port_runs.specs.declared.clocking.Clocking.{Clocking}
use Rattle.trace_tool.specs.Refusals.{HasNoNet, IsRefused}
use Rattle.trace_tool.specs.TraceData.{TraceData, TraceOptionsData}
use Rattle.trace_tool.specs.Traces.{IsTraceBy}
use Rattle.trace_tool.specs.declared.fault.TraceFault.{TraceFault}
use Rattle.trace_tool.specs.declared.fault.TraceFault.TheVariants as trace_fault
use Rattle.verdict_law.specs.Laws.{IsRightWhere}
use Rattle.verdict_law.specs.NetworkTraces.{HasNetworkOutputs}
use Rattle.verdict_law.proofs.RightTraces.{right_deck_has_outputs, right_deck_is_refused_for_nets}
use Rattle.command_answers.proofs.RightTogether.{right_where}
use Rattle.domsyn.specs.Outcomes.{Files, IsNoTrace, IsOutcome, IsRefusalOf, IsTrace, Outcome, Printed, Refused}
use Rattle.domsyn.specs.OwnTraces.{AreOwnDeckAndStimulus, IsReadOrUnnamed, OwnDeckHasOutputs, SaysOutputs}
use Rattle.domsyn.specs.Refusals.{refusal_of}
use Rattle.domsyn.specs.Top.{HasOutcome}
use Rattle.domsyn.specs.declared.refusal.Refusal.{Refusal}
use Rattle.domsyn.specs.declared.refusal.Refusal.TheVariants.{NoNet}
use Rattle.domsyn.proofs.OneOutcome.{bytes_alike, no_long, reported_fault}
use Rattle.domsyn.proofs.ReportedFailures.{FailureReported, refusal, unread, memory}

module _ (known : List (List ℕ × List ℕ)) (deck stim bytes : List ℕ) (options : TraceOptionsData) (clocking : Clocking) (network : NetworkData)
    (stream : List (List Bool)) (own : AreOwnDeckAndStimulus known clocking deck stim bytes network stream) where
  right : IsRightWhere clocking own.blif own.options.phases bytes
  right = right_where clocking own.blif bytes own.options own.method own.suited own.right

  printed : (status : ℕ) (text : List ℕ) → IsTrace (Some known) deck stim options clocking status text
      → (status ≡ 0) × HasNetworkOutputs clocking bytes options network stream text
  printed status text t =
      let decks = bytes_alike known deck t.deck_bytes bytes t.is_deck.holds own.is_deck.holds in
      let stims = bytes_alike known stim t.stim_bytes own.stim_bytes t.is_stim.holds own.is_stim.holds in
      let trace : TraceData = record { text = text; settled = t.settled } in
      let moved : IsTraceBy clocking bytes own.stim_bytes options trace =
      subst (λ (b : List ℕ). IsTraceBy clocking b own.stim_bytes options trace) decks
      (subst (λ (b : List ℕ). IsTraceBy clocking t.deck_bytes b options trace) stims t.trace) in
      let told = right_deck_has_outputs clocking own.blif bytes own.stim_bytes own.options.phases network stream options trace right own.has
      own.is_stimulus moved in
      (t.status_is ∙ ap (λ (settled : Bool). if settled then 0 else 6) told.settled, told.outputs)

  unnamed : (name : List ℕ) (why : Refusal)
      → IsRefusalOf (Some known) (deck ∷ stim ∷ []) (IsNoTrace (Some known) deck stim options.probes name why) name why
      → (net : List ℕ) × HasNoNet bytes options.probes net × (why ≡ NoNet net)
  unnamed name why (inl (long, first)) = absurd (no_long known deck stim name bytes own.stim_bytes own.is_deck own.is_stim first)
  unnamed name why (inr none) =
      let fault = none.faulty.fault in
      let decks = bytes_alike known deck none.deck_bytes bytes none.is_deck.holds own.is_deck.holds in
      let stims = bytes_alike known stim none.stim_bytes own.stim_bytes none.is_stim.holds own.is_stim.holds in
      let refused : IsRefused bytes own.stim_bytes options.probes fault =
      subst (λ (b : List ℕ). IsRefused b own.stim_bytes options.probes fault) decks
      (subst (λ (b : List ℕ). IsRefused none.deck_bytes b options.probes fault) stims none.faulty.refuses) in
      by fault none.faulty.cause refused
      (right_deck_is_refused_for_nets clocking own.blif bytes own.stim_bytes own.options.phases network stream options fault right own.has
      own.is_stimulus refused)
    where
      by : (fault : TraceFault) → refusal_of fault ≡ Some why → IsRefused bytes own.stim_bytes options.probes fault
          → (fault ≡ trace_fault.Memory) ⊎ ((net : List ℕ) × (fault ≡ trace_fault.NoNet net))
          → (net : List ℕ) × HasNoNet bytes options.probes net × (why ≡ NoNet net)
      by fault cause refused (inl lack) = absurd (reported_fault fault why cause lack)
      by fault cause refused (inr (net, is)) = (
        net,
        subst (λ (f : TraceFault). IsRefused bytes own.stim_bytes options.probes f) is refused,
        same_Some why (NoNet net) (sym cause ∙ ap refusal_of is),
      )

  read_or_unnamed : (outcome : Outcome) → IsOutcome (Some known) (Sim deck stim options clocking) outcome
      → IsReadOrUnnamed clocking bytes options network stream outcome
  read_or_unnamed (Printed status text) is = printed status text is
  read_or_unnamed (Refused name why) is = unnamed name why is

  -- and that of words that ask for it
  pub has_outputs : (words : List (List ℕ)) → Asks words (Sim deck stim options clocking) → (outcome : Outcome)
      → HasOutcome (Some known) words outcome → IsReadOrUnnamed clocking bytes options network stream outcome
  has_outputs words asks outcome has =
      let same = asks_one words has.command (Sim deck stim options clocking) has.asks asks in
      read_or_unnamed outcome (subst (λ (c : Command). IsOutcome (Some known) c outcome) same has.outcome_is)

pub own_deck_has_outputs : OwnDeckHasOutputs
own_deck_has_outputs known deck stim bytes options clocking network stream outcome own is =
    read_or_unnamed known deck stim bytes options clocking network stream own outcome is

-- a status of no outcome says nothing
unsaid : (files : Files) (words : List (List ℕ)) (result : ℕ) (Puts : List ℕ → Type 0) → result ≢ 0 → result ≢ 1 → result ≢ 6
    → SaysOutputs files words result Puts
unsaid None words result Puts zero one six = tt
unsaid (Some known) words result Puts zero one six = λ deck stim bytes options clocking network stream asks own.
    ((λ e. absurd (one e)), six, (λ e. absurd (zero e)))

-- a text was put out, or a part of it
pub finished_sim : (files : Files) (words : List (List ℕ)) (status : ℕ) (text : List ℕ) → HasOutcome files words (Printed status text) → (result : ℕ) (Puts : List ℕ → Type 0)
    → (result ≡ status) ⊎ (result ≡ 4) → (result ≢ 4 → Puts text) → SaysOutputs files words result Puts
finished_sim files words status text has result Puts (inr four) puts =
    unsaid files words result Puts (λ e. omega (arith, e, four)) (λ e. omega (arith, e, four)) (λ e. omega (arith, e, four))
finished_sim None words status text has result Puts (inl same) puts = tt
finished_sim (Some known) words status text has result Puts (inl same) puts = λ deck stim bytes options clocking network stream asks own.
    let told = has_outputs known deck stim bytes options clocking network stream own words asks (Printed status text) has in
    let zero : status ≡ 0 = told.0 in (
      (λ e. absurd (omega (arith, same, zero, e))),
      (λ e. omega (arith, same, zero, e)),
      (λ none. (text, told.1, puts (λ e. omega (arith, none, e)))),
    )

-- a failure was reported
pub reported_sim : {files : Files} {words : List (List ℕ)} {Rises : Type 0} {status : ℕ} {Reports : List ℕ → Type 0} (Puts : List ℕ → Type 0)
    → FailureReported files words Rises status Reports → SaysOutputs files words status Puts
reported_sim {files = None} Puts (refusal name why comes one tells) = tt
reported_sim {files = Some known} {words = words} Puts (refusal name why comes one tells) = λ deck stim bytes options clocking network stream asks own.
    let told = has_outputs known deck stim bytes options clocking network stream own words asks (Refused name why) comes in (
      (λ e. (told.0, told.1)),
      (λ e. omega (arith, one, e)),
      (λ e. absurd (omega (arith, one, e))),
    )
reported_sim {files = files} {words = words} {status = status} Puts (unread name meets rises three tells) =
    unsaid files words status Puts (λ e. omega (arith, e, three)) (λ e. omega (arith, e, three)) (λ e. omega (arith, e, three))
reported_sim {files = files} {words = words} {status = status} Puts (memory five tells) =
    unsaid files words status Puts (λ e. omega (arith, e, five)) (λ e. omega (arith, e, five)) (λ e. omega (arith, e, five))
