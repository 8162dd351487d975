-- The outcome of `bench`: it is there, it is one, and it says that all is the same.
use Rattle.std.proofs.Common.{◌≡◌, ◌∙◌, ◌++◌, ◌⊎◌, inl, inr, ℕ, List, ap, refl, sym, subst}
use Rattle.std.specs.Prelude.{if◌then◌else◌}
use Rattle.command_words.specs.Commands.{IsGoodSize}
use Rattle.command_words.specs.SynthOptionWords.{AreGoodOptions}
use Rattle.command_words.specs.declared.command.Method.TheVariants.{Plain}
use Rattle.deck.specs.CircuitData.{CircuitData}
use Rattle.deck.specs.DeckText.{IsDeckOf}
use Rattle.deck.specs.Whole.{IsWhole}
use Rattle.deck.proofs.DeckUnique.{IsDeckOf-unique}
use Rattle.deck_law.specs.Headline.{IsRightDeck}
use Rattle.deck_law.proofs.RightDecks.{planned_good}
use Rattle.network.specs.NetworkData.{NetworkData}
use Rattle.net_gen.specs.Stimulus.{stimulus_cycles, stimulus_text}
use Rattle.net_gen.proofs.AcceptedTexts.{generated_is_accepted}
use Rattle.net_gen.proofs.StimulusTexts.{stimulus_reads}
use Rattle.network_law.proofs.NetworkExists.{network_exists}
use Rattle.plan_law.proofs.DecksThere.{decks_there, written_there}
use Rattle.plan_law.proofs.OneDeck.{decks_one}
use Rattle.spice_text.specs.Text.{IsWritten}
use Rattle.spice_text.proofs.ReadBack.{read_back}
use Rattle.deck_form.specs.ChosenDecks.{IsChosenDeck, planned}
use Rattle.deck_form.specs.AskedOptions.{deck_options}
use Rattle.deck_form.specs.declared.version.DeckVersion.TheVariants.{One as VersionOne}
use Rattle.synth_flow.specs.Summaries.{IsSummaryOf, figures}
use Rattle.synth_flow.specs.SummaryData.{SummaryData}
use Rattle.synth_flow.specs.SummaryLines.{summary_lines}
use Rattle.deck_form.specs.declared.options.SynthOptions.{SynthOptions}
use Rattle.trace_tool.specs.CircuitVerdicts.{HasNoCircuitVerdict, IsCircuitVerdict}
use Rattle.trace_tool.specs.CosimRefusals.{HasNetworkOf, IsUnflattened}
use Rattle.trace_tool.specs.VerdictLines.{verdict_line}
use Rattle.trace_tool.specs.Verdicts.{IsVerdictOf}
use Rattle.trace_tool.specs.declared.fault.TraceFault.{TraceFault}
use Rattle.trace_tool.specs.declared.fault.TraceFault.TheVariants.{Blif, Flat, Deck, Ports, NoNet, Stim, Memory}
use Rattle.trace_tool.specs.declared.options.Order.TheVariants.{First}
use Rattle.trace_tool.specs.declared.verdict.Verdict.{Verdict}
use Rattle.trace_tool.specs.declared.verdict.Verdict.TheVariants.{Same}
use Rattle.trace_tool.proofs.CircuitVerdicts.{refused_of_texts, verdict_of_texts}
use Rattle.trace_tool.proofs.NetworkTexts.{network_same, no_network_apart, text_network_kept}
use Rattle.verdict_law.specs.Laws.{right_together}
use Rattle.verdict_law.proofs.RightVerdicts.{right_deck_is_accepted}
use Rattle.command_answers.specs.Benches.{IsBench, IsBenchOf, IsOwnVerdict, IsSameBench, bench_text, events_text, generated_text}
use Rattle.command_answers.specs.Decks.{IsWholeText}
use Rattle.command_answers.specs.Endings.{ending_number, ending_of}
use Rattle.command_answers.specs.declared.answer.Ending.{Ending}
use Rattle.command_answers.specs.Verdicts.{is_same_verdict}
use Rattle.command_answers.proofs.OneSummary.{summaries_one}
use Rattle.command_answers.proofs.RightTexts.{text_is_right}
use Rattle.command_answers.proofs.OwnVerdicts.{own_verdict_of, own_verdict_one, own_verdict_same, own_verdict_there}

-- a text that is generated has a network
generated_there : (seed size : ℕ) → IsGoodSize size → (n : NetworkData) × HasNetworkOf (generated_text seed size) n
generated_there seed size good =
    let read = generated_is_accepted seed size good.some good.few in
    let n = network_exists read.0 read.1.unrefused in
    (n.0, record { file = read.0; accepted = read.1.is_file; network_is = n.1 })

-- so there is no cause for which it has none, but want of memory
pub generated_unrefused : (seed size : ℕ) → IsGoodSize size → (why : TraceFault) → IsUnflattened (generated_text seed size) why → why ≡ Memory
generated_unrefused seed size good (Blif line kind) is = absurd ((generated_is_accepted seed size good.some good.few).1.is_file.no_fault line kind is.fault)
generated_unrefused seed size good (Flat fault) is =
    let n = generated_there seed size good in absurd (no_network_apart (generated_text seed size) n.0 fault n.1 is)
generated_unrefused seed size good (Deck line kind) is = absurd is
generated_unrefused seed size good (Ports place) is = absurd is
generated_unrefused seed size good (NoNet name) is = absurd is
generated_unrefused seed size good (Stim line kind) is = absurd is
generated_unrefused seed size good Memory is = refl

module _ (seed size : ℕ) (options : SynthOptions) where
  pub bench_there : IsGoodSize size → AreGoodOptions options → (status : ℕ) × (text : List ℕ) × IsBench seed size options status text
  bench_there good fits =
      let n = generated_there seed size good in
      let is = text_network_kept (generated_text seed size) n.0 n.1 in
      let deck = decks_there n.0 (deck_options options) is fits.some_width fits.some_height in
      let own = own_verdict_there seed n.0 is (deck_options options) deck.0 deck.1 fits.some_phase fits.few_phases in
      let summary = figures deck.1 in
      let status = if is_same_verdict own.0 then 0 else 6 in
      let text = bench_text n.0.name summary own.0 in (
        status,
        text,
        record {
          model = n.0.name;
          summary = summary;
          verdict = own.0;
          is =
              record { network = n.0; has = n.1; model_is = refl; is_summary = (deck.0, deck.1, refl); circuit = deck.0; is_chosen = deck.1; is_verdict = own.1 };
          text_is = refl;
          status_is = refl;
        },
      )

  -- what a bench tells is one
  bench_parts_one : (m m' : List ℕ) (s s' : SummaryData) (v v' : Verdict) → IsBenchOf seed size options m s v → IsBenchOf seed size options m' s' v' → (m ≡ m') × (s ≡ s') × (v ≡ v')
  bench_parts_one m m' s s' v v' x y =
      let networks = network_same (generated_text seed size) y.network x.network y.has x.has in
      let is = text_network_kept (generated_text seed size) x.network x.has in
      let summary = subst (λ (n : NetworkData). IsSummaryOf n options s') networks y.is_summary in
      let chosen = subst (λ (n : NetworkData). IsChosenDeck n (deck_options options) y.circuit) networks y.is_chosen in
      let circuits = decks_one x.network (deck_options options) y.circuit x.circuit is chosen x.is_chosen in
      let verdict = subst (λ c. IsOwnVerdict seed x.network c v') circuits (subst (λ (n : NetworkData). IsOwnVerdict seed n y.circuit v') networks y.is_verdict) in (
        x.model_is ∙ ap (λ (n : NetworkData). n.name) (sym networks) ∙ sym y.model_is,
        summaries_one x.network is options s s' x.is_summary summary,
        own_verdict_one seed x.network is x.circuit v v' x.is_verdict verdict,
      )

  pub bench_one : (s s' : ℕ) (t t' : List ℕ) → IsBench seed size options s t → IsBench seed size options s' t' → (s ≡ s') × (t ≡ t')
  bench_one s s' t t' x y =
      let same = bench_parts_one x.model y.model x.summary y.summary x.verdict y.verdict x.is y.is in (
        x.status_is ∙ ap (λ (v : Verdict). if is_same_verdict v then 0 else 6) same.2 ∙ sym y.status_is,
        x.text_is ∙ (λ i. bench_text (same.0 i) (same.1 i) (same.2 i)) ∙ sym y.text_is,
      )

  -- a text that says that all is the same is one of a bench
  pub same_bench : (status : ℕ) (text : List ℕ) → IsSameBench seed size options status text → IsBench seed size options status text
  same_bench status text is =
      record { model = is.model; summary = is.summary; verdict = Same 4 is.events; is = is.is; text_is = is.text_is; status_is = is.done }

  module _ (fits : AreGoodOptions options) (network : NetworkData) (has : HasNetworkOf (generated_text seed size) network) (circuit : CircuitData)
      (chosen : IsChosenDeck network (deck_options options) circuit) (whole : IsWhole circuit) where
    abbrev stim : List ℕ
    stim = stimulus_text seed network.inputs

    -- with the text of the circuit, which nobody writes
    module _ (deck : List ℕ) (written : IsWritten circuit deck) where
      right : IsRightDeck (generated_text seed size) (deck_options options) deck
      right =
          text_is_right (generated_text seed size) deck has.file network options has.accepted has.network_is fits (Plain VersionOne) tt
          (record { circuit = circuit; is_chosen = chosen; whole = whole; written = written })

      reads_back : IsDeckOf deck circuit
      reads_back =
          read_back circuit deck
          (record {
            is = whole.numbered;
            names = whole.names;
            good = planned_good network (deck_options options) circuit (planned chosen) fits.few_phases;
          }) written

      unrefused : (why : TraceFault) → HasNoCircuitVerdict network circuit stim why → why ≡ Memory
      unrefused why none =
          right_deck_is_accepted (generated_text seed size) deck stim options.phases network (stimulus_cycles seed network.inputs) why (right_together right) has
          (stimulus_reads seed network.inputs) (refused_of_texts network circuit stim (generated_text seed size) deck has reads_back why none)

      found : (verdict : Verdict) → IsCircuitVerdict network circuit stim First 0 verdict → (events : ℕ) × (verdict ≡ Same 4 events) × IsOwnVerdict seed network circuit verdict
      found verdict own =
          let v : IsVerdictOf (generated_text seed size) deck stim First 0 verdict =
          verdict_of_texts network circuit stim (generated_text seed size) deck has reads_back First 0 verdict own in
          let is = text_network_kept (generated_text seed size) network has in
          let same = own_verdict_same seed network is (generated_text seed size) deck verdict v has (deck_options options) right in
          (same.0, same.1, own_verdict_of seed network is (generated_text seed size) deck verdict v has circuit (IsDeckOf-unique deck v.circuit circuit v.is_deck reads_back))

    -- the circuit is refused for nothing beside the network
    pub bench_unrefused : (why : TraceFault) → HasNoCircuitVerdict network circuit stim why → why ≡ Memory
    bench_unrefused why none = let text = written_there circuit in unrefused text.0 text.1 why none

    -- the figures, the events and the verdict that all is the same
    pub bench_made : (verdict : Verdict) (summary : SummaryData) (front text : List ℕ) (ending : Ending) → IsCircuitVerdict network circuit stim First 0 verdict
        → IsSummaryOf network options summary → front ≡ summary_lines network.name summary → text ≡ front ++ events_text verdict ++ verdict_line verdict
        → ending ≡ ending_of (is_same_verdict verdict) → IsSameBench seed size options (ending_number ending) text
    bench_made verdict summary front text ending own is_summary front_is text_is ending_is =
        let written = written_there circuit in
        let same = found written.0 written.1 verdict own in
        record {
          model = network.name;
          summary = summary;
          events = same.0;
          is =
              record {
                network = network;
                has = has;
                model_is = refl;
                is_summary = is_summary;
                circuit = circuit;
                is_chosen = chosen;
                is_verdict = subst (IsOwnVerdict seed network circuit) same.1 same.2;
              };
          text_is =
              text_is
              ∙ ap (λ (l : List ℕ). l ++ events_text verdict ++ verdict_line verdict) front_is
              ∙ ap (λ (v : Verdict). summary_lines network.name summary ++ events_text v ++ verdict_line v) same.1;
          done = ap ending_number (ending_is ∙ ap (λ (v : Verdict). ending_of (is_same_verdict v)) same.1);
        }
