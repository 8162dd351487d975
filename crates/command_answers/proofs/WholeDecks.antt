-- The circuit that synthesis gives of the network of a text of bytes is whole, and its text reads back, in either version.
use Rattle.std.proofs.Common.{◌≡◌, ◌||◌, ℕ, List, filter, refl, subst, sym, ◌∙◌}
use Rattle.std.specs.List.{list_any, range_with_len}
use Rattle.command_words.specs.SynthOptionWords.{AreGoodOptions}
use Rattle.command_words.specs.declared.command.Method.TheVariants.{Plain}
use Rattle.clock_phase.specs.Levels.{AreLevels}
use Rattle.deck.specs.CircuitData.{CircuitData}
use Rattle.deck.specs.DeckText.{IsDeckOf}
use Rattle.deck.specs.Whole.{IsWhole}
use Rattle.deck.proofs.EscapedNames.{escape_is_net}
use Rattle.deck_form.specs.AskedOptions.{deck_options}
use Rattle.deck_form.specs.ChosenDecks.{IsChosenDeck, planned}
use Rattle.deck_form.specs.declared.options.SynthOptions.{SynthOptions}
use Rattle.deck_form.specs.declared.version.DeckVersion.{DeckVersion}
use Rattle.cell_decks.proofs.RightTexts.{version_reads_back}
use Rattle.network.specs.NetworkData.{NetworkData}
use Rattle.network.specs.Networks.{IsNetwork}
use Rattle.plan_law.proofs.OneDeck.{decks_one}
use Rattle.synth_flow.specs.CellCounts.{is_read_in}
use Rattle.synth_flow.specs.NamedComplements.{is_plus_end}
use Rattle.synth_flow.proofs.WholeTexts.{text_is_whole}
use Rattle.command_answers.specs.Decks.{IsTextBy}
use Rattle.command_answers.proofs.ByteNames.{HasByteNames}
use Rattle.command_answers.proofs.FewPairs.{is_forest}

module _ (network : NetworkData) (is : IsNetwork network) (bytes : HasByteNames network) (options : SynthOptions) (good : AreGoodOptions options) where
  circuits_one : (a b : CircuitData) → IsChosenDeck network (deck_options options) a → IsChosenDeck network (deck_options options) b → a ≡ b
  circuits_one a b x y = decks_one network (deck_options options) a b is x y

  chosen_is_whole : (circuit : CircuitData) → IsChosenDeck network (deck_options options) circuit → IsWhole circuit
  chosen_is_whole circuit deck =
      let leaves = deck.is_forest.leaves_are ∙ deck.are_gates.leaves_are in
      let text = text_is_whole network is bytes.names options deck.signs deck.forest
      (record { gates = deck.gates; are_gates = deck.are_gates; are_chosen = deck.are_chosen; is_forest = deck.is_forest })
      (is_forest network is deck.gates deck.are_gates deck.signs deck.forest deck.is_forest)
      good.few_wide good.few_high good.some_phase good.few_phases deck.kept deck.trees deck.levels
      (filter (λ leaf. is_read_in deck.trees leaf || list_any (is_plus_end leaf) deck.forest.ends) (range_with_len 0 deck.forest.leaves)) deck.is_chosen_plan
      (subst (λ n. AreLevels n deck.trees deck.levels) (sym leaves) deck.levels_are) refl
      (escape_is_net network.name (record { some = is.name.some; bytes = bytes.name })) in
      subst IsWhole (circuits_one text.circuit circuit text.is_chosen deck) text.whole

  chosen_text_reads : (version : DeckVersion) (text : List ℕ) (t : IsTextBy (Plain version) network options text) → IsDeckOf text t.circuit
  chosen_text_reads version text t =
      version_reads_back version text (deck_options options) network t.circuit good.few_wide good.few_high good.few_phases (planned t.is_chosen)
      (chosen_is_whole t.circuit t.is_chosen) t.written

  -- both texts read as one circuit, and a text as the one of which the figures are
  pub texts_read_alike : (one two : DeckVersion) (a b : List ℕ) (x : IsTextBy (Plain one) network options a) (y : IsTextBy (Plain two) network options b)
      → (circuit : CircuitData) × IsDeckOf a circuit × IsDeckOf b circuit
  texts_read_alike one two a b x y = (
    x.circuit,
    chosen_text_reads one a x,
    subst (IsDeckOf b) (circuits_one y.circuit x.circuit y.is_chosen x.is_chosen) (chosen_text_reads two b y),
  )

  pub text_reads_as : (version : DeckVersion) (text : List ℕ) → IsTextBy (Plain version) network options text
      → (circuit : CircuitData) → IsChosenDeck network (deck_options options) circuit → IsDeckOf text circuit
  text_reads_as version text t circuit deck =
      subst (IsDeckOf text) (circuits_one t.circuit circuit t.is_chosen deck) (chosen_text_reads version text t)
