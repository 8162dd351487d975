-- The text that synthesis gives of a network by a method is there, and is one.
use Rattle.std.proofs.Common.{◌≡◌, ◌∙◌, ◌≤◌, ℕ, List, map, refl, subst, sym}
use Rattle.command_words.specs.declared.command.Method.{Method}
use Rattle.command_words.specs.declared.command.Method.TheVariants.{Compound, Exact, Plain, Skew}
use Rattle.compound_law.proofs.OneDeck.{decks_one as compound_one, decks_there as compound_there}
use Rattle.deck.specs.CircuitData.{CircuitData}
use Rattle.network.specs.NetworkData.{NetworkData}
use Rattle.network.specs.Networks.{IsNetwork}
use Rattle.deck_form.specs.AskedOptions.{deck_options, keeper_options}
use Rattle.deck_form.specs.ChosenDecks.{end_at_cell}
use Rattle.deck_form.specs.declared.options.SynthOptions.{SynthOptions}
use Rattle.deck_form.specs.declared.version.DeckVersion.TheVariants.{One as VersionOne}
use Rattle.spice_text.specs.Text.{IsWritten}
use Rattle.plan_law.proofs.DecksThere.{decks_there, texts_of_signs_there, written_there}
use Rattle.plan_law.proofs.OneDeck.{chosen_one, parts_one, texts_of_signs_one, texts_one}
use Rattle.synth_flow.specs.BufferedDecks.{IsChosenBufferedDeck, buffered_circuit, plan_of, skew_options}
use Rattle.command_answers.specs.Decks.{IsTextBy}
use Rattle.command_answers.specs.Methods.{AreSignsOf}
use Rattle.command_answers.proofs.Methods.{method_one, method_there}

-- a network has one circuit with chains of buffers
buffered_one : (network : NetworkData) → IsNetwork network → (options : SynthOptions) (a b : CircuitData)
    → IsChosenBufferedDeck network options a → IsChosenBufferedDeck network options b → a ≡ b
buffered_one network is options a b x y =
    let same = parts_one network is (keeper_options options) (chosen_one network) x.plain y.plain x.of_signs y.of_signs in
    x.circuit_is
    ∙ (λ i. buffered_circuit network options.phases (same.0 i) (map (end_at_cell (same.3 i)) ((same.4 i).ends))
    (plan_of network options.phases (same.2 i) (same.1 i) (map (end_at_cell (same.3 i)) ((same.4 i).ends))))
    ∙ sym y.circuit_is

pub text_one : (method : Method) (network : NetworkData) → IsNetwork network → (options : SynthOptions) (a b : List ℕ)
    → IsTextBy method network options a → IsTextBy method network options b → a ≡ b
text_one (Plain version) network is options a b x y =
    texts_of_signs_one {AreSigns = AreSignsOf (Plain version)} network is (deck_options options) version (method_one (Plain version) network) a b
    (record { circuit = x.circuit; is_chosen = x.is_chosen; written = x.written }) (record { circuit = y.circuit; is_chosen = y.is_chosen; written = y.written })
text_one Exact network is options a b x y =
    texts_of_signs_one {AreSigns = AreSignsOf Exact} network is (deck_options options) VersionOne (method_one Exact network) a b
    (record { circuit = x.circuit; is_chosen = x.is_chosen; written = x.written }) (record { circuit = y.circuit; is_chosen = y.is_chosen; written = y.written })
text_one Skew network is options a b x y =
    let same = buffered_one network is (skew_options options.bounds options.phases) x.circuit y.circuit x.is_chosen y.is_chosen in
    texts_one y.circuit a b (subst (λ c. IsWritten c a) same x.written) y.written
text_one Compound network is options a b x y =
    let same = compound_one network options.bounds.w options.bounds.h options.phases x.circuit y.circuit is x.is_chosen y.is_chosen in
    texts_one y.circuit a b (subst (λ c. IsWritten c a) same x.written) y.written

module _ (network : NetworkData) (is : IsNetwork network) (options : SynthOptions) (wide : 2 ≤ options.bounds.w) (tall : 2 ≤ options.bounds.h) where
  overlapping_there : (text : List ℕ) × IsTextBy Skew network options text
  overlapping_there =
      let plain = decks_there network (keeper_options options) is wide tall in
      let deck = plain.1 in
      let ends = map (end_at_cell deck.kept) deck.forest.ends in
      let circuit = buffered_circuit network options.phases deck.signs ends (plan_of network options.phases deck.trees deck.levels ends) in
      let text = written_there circuit in
      (text.0, record { circuit = circuit; is_chosen = record { plain = plain.0; of_signs = deck; circuit_is = refl }; written = text.1 })

  with_compound_there : (text : List ℕ) × IsTextBy Compound network options text
  with_compound_there =
      let deck = compound_there network options.bounds.w options.bounds.h options.phases is wide tall in
      let text = written_there deck.0 in
      (text.0, record { circuit = deck.0; is_chosen = deck.1; written = text.1 })

  pub text_there : (method : Method) → (text : List ℕ) × IsTextBy method network options text
  text_there (Plain version) =
      let text = texts_of_signs_there {AreSigns = AreSignsOf (Plain version)} network (deck_options options) is wide tall version (method_there (Plain version) network is) in
      (text.0, record { circuit = text.1.circuit; is_chosen = text.1.is_chosen; written = text.1.written })
  text_there Exact =
      let text = texts_of_signs_there {AreSigns = AreSignsOf Exact} network (deck_options options) is wide tall VersionOne (method_there Exact network is) in
      (text.0, record { circuit = text.1.circuit; is_chosen = text.1.is_chosen; written = text.1.written })
  text_there Skew = overlapping_there
  text_there Compound = with_compound_there
