-- The verdict of a circuit beside a network, by what was read, and that of texts of both.
use Rattle.std.proofs.Common.{◌≡◌, ℕ, inl, inr, Bool, List, Some, None, refl, sym, subst}
use Rattle.deck.specs.CircuitData.{CircuitData}
use Rattle.deck.specs.DeckText.{IsDeckOf}
use Rattle.deck.specs.Roles.{AreRoles, ports_of}
use Rattle.deck.specs.declared.role.Roles.{Roles}
use Rattle.network.specs.NetworkData.{NetworkData}
use Rattle.network.specs.Networks.{IsNetwork}
use Rattle.net_run.specs.Runs.{Cycle, IsNetworkRun}
use Rattle.net_run.proofs.OneRun.{one_run}
use Rattle.event_sim.specs.Orders.{By}
use Rattle.stim_text.specs.Stimuli.{IsStimFaultAt, IsStimulusOf}
use Rattle.stim_text.specs.declared.fault.StimFault.{StimFault}
use Rattle.stim_text.specs.declared.fault.StimFault.TheVariants as stim_faults
use Rattle.stim_text.specs.declared.fault.StimKind.{StimKind}
use Rattle.trace_tool.specs.CircuitVerdicts.{HasNoCircuitVerdict, IsCircuitVerdict}
use Rattle.trace_tool.specs.CosimRefusals.{HasNetworkOf, IsCosimRefused}
use Rattle.trace_tool.specs.PortDifferences.{ComparesPorts}
use Rattle.trace_tool.specs.Refusals.{of_stim}
use Rattle.trace_tool.specs.SetupData.{silent}
use Rattle.trace_tool.specs.Traces.{picked_place}
use Rattle.trace_tool.specs.Verdicts.{IsRunVerdict, IsVerdict, IsVerdictOf}
use Rattle.trace_tool.specs.declared.fault.TraceFault.{TraceFault}
use Rattle.trace_tool.specs.declared.fault.TraceFault.TheVariants.{Blif, Flat, Deck, Ports, NoNet, Stim, Memory}
use Rattle.trace_tool.specs.declared.options.Order.{Order}
use Rattle.trace_tool.specs.declared.verdict.Verdict.{Verdict}
use Rattle.trace_tool.specs.declared.verdict.Verdict.TheVariants as verdicts

module _ (n : NetworkData) (c : CircuitData) (stim : List ℕ) where
  module _ (order : Order) (seed : ℕ) (roles : Roles) (stream : List (List Bool)) (is : IsNetwork n) (are : AreRoles (ports_of c) roles) (is_stimulus : IsStimulusOf n.inputs stim stream) where
    verdict_of : (v : Verdict) → ((cycles : List Cycle) → IsNetworkRun n stream cycles → IsVerdict (By (picked_place order seed)) n c roles stream cycles v)
        → IsCircuitVerdict n c stim order seed v
    verdict_of v found =
        let run = one_run n stream is is_stimulus.widths_are in
        record {
          roles = roles;
          are_roles = are;
          stream = stream;
          is_stimulus = is_stimulus;
          cycles = run.0;
          is_run = run.1.is_run;
          is_verdict = found run.0 run.1.is_run;
        }

    -- a port differs
    pub verdict_of_ports : (place : ℕ) → ComparesPorts n c roles (Some place) → IsCircuitVerdict n c stim order seed (verdicts.PortsDiffer place)
    verdict_of_ports place (index, first, at) =
        verdict_of (verdicts.PortsDiffer place) (λ cycles run. inl (index, first, (λ i. verdicts.PortsDiffer (at i))))

    -- none differs, and then the run has a verdict
    pub verdict_of_run : (v : Verdict) → ComparesPorts n c roles None
        → ((cycles : List Cycle) → IsNetworkRun n stream cycles → IsRunVerdict (By (picked_place order seed)) (silent c roles) stream cycles v)
        → IsCircuitVerdict n c stim order seed v
    verdict_of_run v same found = verdict_of v (λ cycles run. inr (same, found cycles run))

  -- a stimulus with a fault
  pub stim_refused : (roles : Roles) (fault : StimFault) (why : TraceFault) → AreRoles (ports_of c) roles
      → ((line : ℕ) (kind : StimKind) → fault ≡ stim_faults.At line kind → IsStimFaultAt n.inputs stim line kind) → why ≡ of_stim fault → HasNoCircuitVerdict n c stim why
  stim_refused roles (stim_faults.At line kind) why are f is =
      subst (HasNoCircuitVerdict n c stim) (sym is) (record { roles = roles; are_roles = are; fault = f line kind refl })
  stim_refused roles stim_faults.Memory why are f is = subst (HasNoCircuitVerdict n c stim) (sym is) tt

  module _ (blif deck : List ℕ) (has : HasNetworkOf blif n) (is_deck : IsDeckOf deck c) where
    -- the verdict of a circuit beside a network is that of texts of both
    pub verdict_of_texts : (order : Order) (seed : ℕ) (v : Verdict) → IsCircuitVerdict n c stim order seed v → IsVerdictOf blif deck stim order seed v
    verdict_of_texts order seed v is = record {
      network = n;
      has = has;
      circuit = c;
      roles = is.roles;
      is_deck = is_deck;
      are_roles = is.are_roles;
      stream = is.stream;
      is_stimulus = is.is_stimulus;
      cycles = is.cycles;
      is_run = is.is_run;
      is_verdict = is.is_verdict;
    }

    -- and so is the cause for which there is none
    pub refused_of_texts : (why : TraceFault) → HasNoCircuitVerdict n c stim why → IsCosimRefused blif deck stim why
    refused_of_texts (Blif line kind) x = absurd x
    refused_of_texts (Flat fault) x = absurd x
    refused_of_texts (Deck line kind) x = absurd x
    refused_of_texts (Ports place) x = record { network = n; has = has; fault = record { circuit = c; is_deck = is_deck; leaves = x } }
    refused_of_texts (NoNet name) x = absurd x
    refused_of_texts (Stim line kind) x =
        record { network = n; has = has; circuit = c; roles = x.roles; is_deck = is_deck; are_roles = x.are_roles; fault = x.fault }
    refused_of_texts Memory x = tt
