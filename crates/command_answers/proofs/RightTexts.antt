-- The text of a method is a right deck.
use Rattle.std.proofs.Common.{Bool, ℕ, List, subst}
use Rattle.blif_ast.specs.BlifFileData.{BlifFileData}
use Rattle.blif_ast.specs.Reading.{IsFileOf}
use Rattle.blif_read.proofs.AcceptedIsGoodModels.{accepted_file}
use Rattle.net_flatten.specs.Flattening.{IsNetworkOf}
use Rattle.net_flatten.proofs.Kept.{network_kept}
use Rattle.network.specs.NetworkData.{NetworkData}
use Rattle.command_words.specs.SynthOptionWords.{AreGoodOptions}
use Rattle.command_words.specs.declared.command.Method.{Method}
use Rattle.command_words.specs.declared.command.Method.TheVariants.{Compound, Exact, Plain, Skew}
use Rattle.cell_decks.proofs.RightTexts.{versions_are_right}
use Rattle.compound_law.specs.CompoundDecks.{IsChosenDeck as IsChosenCompoundDeck, planned as compound_planned}
use Rattle.compound_law.specs.Laws.{AreByteNames, IsLeastDeck}
use Rattle.compound_law.specs.Laws as compound_law
use Rattle.compound_law.proofs.RightDecks.{chosen_texts_are_right, planned_good}
use Rattle.deck.specs.CircuitData.{CircuitData}
use Rattle.deck.specs.DeckText.{IsDeckOf}
use Rattle.deck.specs.Whole.{IsWhole}
use Rattle.deck_law.specs.Headline.{IsRightDeck}
use Rattle.deck_form.specs.AskedOptions.{deck_options}
use Rattle.deck_form.specs.ChosenDecks.{IsDeckOfSigns, planned}
use Rattle.deck_form.specs.DeckTexts.{IsWrittenAs}
use Rattle.deck_form.specs.declared.options.SynthOptions.{SynthOptions}
use Rattle.deck_form.specs.declared.version.DeckVersion.{DeckVersion}
use Rattle.deck_form.specs.declared.version.DeckVersion.TheVariants.{One as VersionOne}
use Rattle.gate_decompose.specs.GatesData.{GatesData}
use Rattle.skew_law.specs.BufferedDecks.{IsRightOverlappingDeck}
use Rattle.skew_law.proofs.BufferedDecks.{buffered_good, buffered_texts_are_right}
use Rattle.spice_text.proofs.ReadBack.{read_back}
use Rattle.synth_flow.specs.BufferedDecks.{IsBufferedDeck, buffered_planned, skew_options}
use Rattle.command_answers.specs.Decks.{IsWholeText}
use Rattle.trace_tool.specs.CosimRefusals.{HasNetworkOf}
use Rattle.trace_tool.proofs.NetworkTexts.{network_same}
use Rattle.command_answers.specs.RightDecks.{IsRightBy, IsRightCompoundDeck}
use Rattle.command_answers.specs.Methods.{HasNamesFor}

-- decks with buffers don't hang on the style of the options
with_keepers : (network : NetworkData) (options : SynthOptions) (circuit : CircuitData)
    → IsBufferedDeck network (skew_options options.bounds options.phases) circuit → IsBufferedDeck network options circuit
with_keepers network options circuit is = record { plain = is.plain; planned = is.planned; circuit_is = is.circuit_is }

module _ (bytes text : List ℕ) (file : BlifFileData) (network : NetworkData) (options : SynthOptions)
    (is_file : IsFileOf bytes file) (is_network : IsNetworkOf file network) (good : AreGoodOptions options) where
  version_is_right : {AreSigns : GatesData → List Bool → Type 0} (version : DeckVersion) (circuit : CircuitData)
      → (is : IsDeckOfSigns AreSigns network (deck_options options) circuit) → IsWhole circuit → IsWrittenAs version (planned is) text
      → IsRightDeck bytes (deck_options options) text
  version_is_right version circuit is whole written =
      versions_are_right version bytes text (deck_options options) file network circuit is_file is_network
      good.few_wide good.few_high good.some_phase good.few_phases (planned is) whole written

  overlapping_is_right : IsWholeText network options Skew text → IsRightOverlappingDeck bytes options text
  overlapping_is_right is =
      let deck = with_keepers network options is.circuit (buffered_planned is.is_chosen) in
      let names = buffered_good network options is.circuit good.few_phases deck in
      buffered_texts_are_right bytes text options file network is.circuit is_file is_network good.some_phase good.few_phases deck
      (read_back is.circuit text (record { is = is.whole.numbered; names = is.whole.names; good = names }) is.written)

  -- a chosen deck with compound cells of a network, which has the least cost
  abbrev IsLeast : NetworkData → CircuitData → Type 0
  IsLeast n circuit = (is : IsChosenCompoundDeck n options.bounds.w options.bounds.h options.phases circuit) × IsLeastDeck is

  -- a text that is right is so by the network and the circuit that it reads as
  least_of : (right : compound_law.IsRightDeck bytes options.bounds.w options.bounds.h options.phases text) (circuit : CircuitData) → IsDeckOf text circuit
      → IsLeast network circuit → IsRightCompoundDeck bytes options text
  least_of right circuit reads is =
      let mine : HasNetworkOf bytes network = record { file = file; accepted = is_file; network_is = is_network } in
      let its : HasNetworkOf bytes right.network = record { file = right.file; accepted = right.is_file; network_is = right.is_network } in
      let of_circuit : IsLeast network right.circuit = subst (IsLeast network) (right.no_other circuit reads) is in
      let moved : IsLeast right.network right.circuit =
      subst (λ n. IsLeast n right.circuit) (network_same bytes network right.network mine its) of_circuit in
      record { right = right; is_chosen = moved.0; least = moved.1 }

  compound_is_right : AreByteNames network.names → IsWholeText network options Compound text → IsRightCompoundDeck bytes options text
  compound_is_right names is =
      let w = options.bounds.w in
      let h = options.bounds.h in
      let phases = options.phases in
      let kept = network_kept file network (accepted_file bytes file is_file) is_network in
      let plain = planned_good network w h phases is.circuit (compound_planned is.is_chosen) kept good.few_phases in
      let reads = read_back is.circuit text (record { is = is.whole.numbered; names = is.whole.names; good = plain }) is.written in
      let both =
      chosen_texts_are_right bytes text w h phases file network is.circuit is_file is_network names good.some_phase good.few_phases is.is_chosen
      is.whole.numbered is.whole.names is.written in
      least_of both.0 is.circuit reads (is.is_chosen, both.1)

  pub text_is_right : (method : Method) → HasNamesFor method network → IsWholeText network options method text → IsRightBy method bytes options text
  text_is_right (Plain version) names is = version_is_right version is.circuit is.is_chosen is.whole is.written
  text_is_right Exact names is = version_is_right VersionOne is.circuit is.is_chosen is.whole is.written
  text_is_right Skew names is = overlapping_is_right is
  text_is_right Compound names is = compound_is_right names is
