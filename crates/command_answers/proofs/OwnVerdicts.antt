-- The deck of a network that is generated has one verdict beside it, which is that all is the same.
use Rattle.domino_cell.specs.declared.style.Style.{Style}
use Rattle.std.proofs.Common.{◌≡◌, ◌≤◌, ◌∙◌, ◌++◌, ℕ, List, Bool, length, take, refl, sym, ap₂, subst}
use Rattle.std.proofs.Math.Seq.{take-append_seam}
use Rattle.dom_base.proofs.Faults.{answer_same}
use Rattle.deck.specs.CircuitData.{CircuitData}
use Rattle.deck.specs.Ports.{HasRoles, leading_ports}
use Rattle.deck.specs.Roles.{AreRoles, ports_of}
use Rattle.deck.specs.declared.role.Roles.{Roles}
use Rattle.deck.proofs.PortLayout.{AreRoles-same}
use Rattle.deck_law.specs.Headline.{IsRightDeck}
use Rattle.deck_law.specs.Laws.{roles_of_deck}
use Rattle.deck_law.proofs.Numbers.{grew}
use Rattle.event_sim.specs.Orders.{By}
use Rattle.gate_decompose.proofs.NetworkOrder.{networks_are_ordered}
use Rattle.network.specs.NetworkData.{NetworkData}
use Rattle.network.specs.Networks.{IsNetwork}
use Rattle.net_gen.specs.Stimulus.{stimulus_cycles, stimulus_text}
use Rattle.net_gen.proofs.StimulusTexts.{stimulus_reads}
use Rattle.net_run.specs.Runs.{Cycle, IsNetworkRun}
use Rattle.net_run.proofs.OneRun.{one_run}
use Rattle.stim_text.specs.Stimuli.{IsStimFaultAt, IsStimulusOf}
use Rattle.stim_text.proofs.OneAnswer.{one_answer as stim_answer}
use Rattle.deck_form.specs.ChosenDecks.{IsChosenDeck, planned}
use Rattle.deck_form.specs.DeckOptions.{DeckOptions}
use Rattle.deck_form.specs.NamedDecks.{IsNamedDeck}
use Rattle.deck_form.proofs.DeckForms.{domino_decks_are_loose, planned_decks_are_domino}
use Rattle.trace_tool.specs.CosimRefusals.{HasNetworkOf}
use Rattle.trace_tool.specs.Traces.{picked_place}
use Rattle.trace_tool.specs.Verdicts.{IsVerdict, IsVerdictOf}
use Rattle.trace_tool.specs.declared.options.Order.TheVariants.{First}
use Rattle.trace_tool.specs.declared.verdict.Verdict.{Verdict}
use Rattle.trace_tool.specs.declared.verdict.Verdict.TheVariants.{Same}
use Rattle.trace_tool.proofs.NetworkTexts.{network_same}
use Rattle.trace_tool.proofs.OneVerdict.{verdict_same}
use Rattle.trace_tool.proofs.PortCounts.{counts_agree}
use Rattle.trace_tool.proofs.TraceThere.{order-below}
use Rattle.trace_tool.proofs.VerdictThere.{verdict_there}
use Rattle.verdict_law.specs.Laws.{IsSame, right_together}
use Rattle.verdict_law.proofs.RightVerdicts.{right_deck_is_same}
use Rattle.command_answers.specs.Benches.{IsOwnVerdict}

-- the text of the stimulus is that of its cycles and of no others
stimulus_same : (seed width : ℕ) (stream : List (List Bool)) → IsStimulusOf width (stimulus_text seed width) stream → stream ≡ stimulus_cycles seed width
stimulus_same seed width stream is =
    let text = stimulus_text seed width in
    answer_same (IsStimulusOf width text) (IsStimFaultAt width text) (IsStimFaultAt width text) (stim_answer width text) stream (stimulus_cycles seed width) is (stimulus_reads seed width)

-- the ports of a deck stand in the order of roles
pub roles_are : (style : Style) (circuit : CircuitData) (d : IsNamedDeck style circuit) → AreRoles (ports_of circuit) (roles_of_deck style circuit d)
roles_are style circuit d =
    let all = leading_ports d.clocks ++ d.pins ++ d.outs in
    let stand : ports_of circuit ≡ all = ap₂ (λ n l. take n l) (grew style circuit d).ports (grew style circuit d).nets ∙ take-append_seam all (grew style circuit d).more_nets in
    record { pins = d.pins; outs = d.outs; in_order = subst (λ l. HasRoles l d.clocks d.pins d.outs) (sym stand) d.roles; pin_count = refl; out_count = refl }

module _ (seed : ℕ) (network : NetworkData) (is : IsNetwork network) where
  abbrev cycles_of : List (List Bool)
  cycles_of = stimulus_cycles seed network.inputs

  -- the circuit that synthesis gives has a verdict
  pub own_verdict_there : (options : DeckOptions) (circuit : CircuitData) → IsChosenDeck network options circuit → 1 ≤ options.phases → options.phases ≤ 4
      → (verdict : Verdict) × IsOwnVerdict seed network circuit verdict
  own_verdict_there options circuit chosen some few =
      let domino = planned_decks_are_domino network options circuit (planned chosen) (networks_are_ordered network is) some few in
      let d = domino_decks_are_loose network options circuit domino in
      let are = roles_are options.style circuit d in
      let run = one_run network cycles_of is (stimulus_reads seed network.inputs).widths_are in
      let found = verdict_there (picked_place First 0) (order-below First 0) network circuit (roles_of_deck options.style circuit d) cycles_of run.0 are
      (λ same. (counts_agree circuit (roles_of_deck options.style circuit d) network are is same).1) run.1.is_run in
      (found.0, record { roles = roles_of_deck options.style circuit d; are_roles = are; cycles = run.0; is_run = run.1.is_run; is_verdict = found.1 })

  -- and a circuit has at most one
  pub own_verdict_one : (circuit : CircuitData) (a b : Verdict) → IsOwnVerdict seed network circuit a → IsOwnVerdict seed network circuit b → a ≡ b
  own_verdict_one circuit a b x y =
      let roles = AreRoles-same (ports_of circuit) y.roles x.roles y.are_roles x.are_roles in
      let run = one_run network cycles_of is (stimulus_reads seed network.inputs).widths_are in
      let cycles = run.1.only y.cycles y.is_run ∙ sym (run.1.only x.cycles x.is_run) in
      verdict_same (picked_place First 0) network circuit x.roles cycles_of x.cycles a b x.is_verdict
      (subst (λ (c : List Cycle). IsVerdict (By (picked_place First 0)) network circuit x.roles cycles_of c b) cycles
      (subst (λ (r : Roles). IsVerdict (By (picked_place First 0)) network circuit r cycles_of y.cycles b) roles y.is_verdict))

  -- the verdict of the deck's text beside the network's is the verdict of the circuit
  module _ (blif deck : List ℕ) (verdict : Verdict) (v : IsVerdictOf blif deck (stimulus_text seed network.inputs) First 0 verdict)
      (has : HasNetworkOf blif network) where
    networks : v.network ≡ network
    networks = network_same blif v.network network v.has has

    streams : v.stream ≡ cycles_of
    streams = stimulus_same seed network.inputs v.stream (subst (λ (n : NetworkData). IsStimulusOf n.inputs (stimulus_text seed network.inputs) v.stream) networks v.is_stimulus)

    pub own_verdict_of : (circuit : CircuitData) → v.circuit ≡ circuit → IsOwnVerdict seed network circuit verdict
    own_verdict_of circuit circuits = record {
      roles = v.roles;
      are_roles = subst (λ (c : CircuitData). AreRoles (ports_of c) v.roles) circuits v.are_roles;
      cycles = v.cycles;
      is_run = subst (λ (s : List (List Bool)). IsNetworkRun network s v.cycles) streams (subst (λ (n : NetworkData). IsNetworkRun n v.stream v.cycles) networks v.is_run);
      is_verdict =
          subst (λ (s : List (List Bool)). IsVerdict (By (picked_place First 0)) network circuit v.roles s v.cycles verdict) streams
          (subst (λ (c : CircuitData). IsVerdict (By (picked_place First 0)) network c v.roles v.stream v.cycles verdict) circuits
          (subst (λ (n : NetworkData). IsVerdict (By (picked_place First 0)) n v.circuit v.roles v.stream v.cycles verdict) networks v.is_verdict));
    }

    -- which is that all is the same in the four cycles, where the deck is right
    pub own_verdict_same : (options : DeckOptions) → IsRightDeck blif options deck → (events : ℕ) × (verdict ≡ Same 4 events)
    own_verdict_same options right =
        let over = right_deck_is_same blif deck (stimulus_text seed network.inputs) options.phases First 0 verdict (right_together right) v in
        let theirs = network_same blif over.network network over.has has in
        let stream = stimulus_same seed network.inputs over.stream
        (subst (λ (n : NetworkData). IsStimulusOf n.inputs (stimulus_text seed network.inputs) over.stream) theirs over.is_stimulus) in
        let same = subst (λ (s : List (List Bool)). IsSame verdict (length s)) stream over.is_same in
        (same.events, same.verdict_is)
