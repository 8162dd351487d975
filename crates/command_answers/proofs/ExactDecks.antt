-- The phases of a deck are the signs that it was made by.
use Rattle.std.proofs.Common.{◌≡◌, ◌∙◌, ◌++◌, ℕ, Bool, List, [], ◌∷◌, length, length-append, map, refl, sym, ap, subst, codes, arith}
use Rattle.std.specs.List.{enumerate_from, zip}
use Rattle.std.proofs.lemmas.List.{length-map}
use Rattle.std.proofs.lemmas.List.FromFn.{length-enumerate_from}
use Rattle.deck.specs.CircuitData.{CircuitData}
use Rattle.deck.specs.CircuitGrowth.{Grew}
use Rattle.deck.specs.Escapes.{escaped}
use Rattle.deck.specs.Pushes.{new_circuit}
use Rattle.deck.proofs.CircuitGrowth.{with_devices-grew}
use Rattle.command_words.specs.SynthOptionWords.{AreGoodOptions}
use Rattle.command_words.specs.declared.command.Method.{Method}
use Rattle.command_words.specs.declared.command.Method.TheVariants.{Compound, Exact, Plain, Skew}
use Rattle.network.specs.NetworkData.{NetworkData}
use Rattle.network.specs.declared.network.NetLatch.{NetLatch}
use Rattle.exact_phase.specs.ExactSigns.{IsExact}
use Rattle.spice_text.proofs.ReadBack.{read_back}
use Rattle.deck_law.proofs.RightDecks.{planned_good}
use Rattle.deck_form.specs.AskedOptions.{deck_options}
use Rattle.deck_form.specs.declared.options.SynthOptions.{SynthOptions}
use Rattle.deck_form.specs.ChosenDecks.{IsPlannedDeck, end_at_cell, planned}
use Rattle.deck_form.specs.DeckNets.{data_net, named_devices, sink_nets}
use Rattle.deck_form.specs.DeckOptions.{DeckOptions}
use Rattle.deck_form.specs.DominoDecks.{cells_of, complements_of, outs_of, phases_of_sinks, pins_of, signal_name, starts_of}
use Rattle.deck_form.proofs.DeckForms.{sinks_of_network}
use Rattle.command_answers.specs.Decks.{IsWholeText}
use Rattle.command_answers.specs.Methods.{HasSignsOf, signs_of_phases}
use Rattle.command_answers.specs.Networks.{HasNetwork}

-- the signs of nets and signs, one for each
zipped_signs : (nets : List (List ℕ)) (signs : List Bool) → length nets ≡ length signs → signs_of_phases (map (λ p. record { net = p.0; plus = p.1 }) (zip nets signs)) ≡ signs
zipped_signs [] [] e = refl
zipped_signs [] (s ∷ signs) e = absurd (omega (arith, e))
zipped_signs (n ∷ nets) [] e = absurd (omega (arith, e))
zipped_signs (n ∷ nets) (s ∷ signs) e = ap (λ l. s ∷ l) (zipped_signs nets signs (omega (arith, e)))

deck_signs : (network : NetworkData) (options : DeckOptions) (circuit : CircuitData) (is : IsPlannedDeck network options circuit) → signs_of_phases circuit.phases ≡ is.signs
deck_signs network options circuit is =
    let bare = new_circuit (escaped network.name) (phases_of_sinks network is.signs) options.phases (pins_of network) (outs_of network) in
    let ends = map (end_at_cell is.kept) is.forest.ends in
    let cells = cells_of options.phases is.levels is.trees in
    let cards = named_devices options.style (pins_of network) (outs_of network) (starts_of network) cells (complements_of network cells ends) ends in
    let grew : Grew bare circuit = subst (Grew bare) (sym is.circuit_is) (with_devices-grew bare cards) in
    let one : length (sink_nets (outs_of network) (starts_of network)) ≡ length is.signs = omega (
      arith,
      length-append (outs_of network) (map (λ (p : ℕ × Bool). data_net p.0) (enumerate_from 0 (starts_of network))),
      length-map network.outputs (λ signal. codes "o_" ++ escaped (signal_name network signal)),
      length-map (enumerate_from 0 (starts_of network)) (λ (p : ℕ × Bool). data_net p.0),
      length-enumerate_from 0 (starts_of network),
      length-map network.latches (λ (l : NetLatch). l.init),
      is.is_forest.signs_are,
      sinks_of_network network is.gates is.are_gates,
    ) in
    ap signs_of_phases grew.phases ∙ zipped_signs (sink_nets (outs_of network) (starts_of network)) is.signs one

-- a deck of a method's signs that is written has phases of them
pub has_signs : (method : Method) (bytes text : List ℕ) (network : NetworkData) (options : SynthOptions) → HasNetwork bytes network → AreGoodOptions options
    → IsWholeText network options method text → HasSignsOf method bytes text
has_signs (Plain version) bytes text network options has good is = tt
has_signs Exact bytes text network options has good is =
    let deck = is.is_chosen in
    let names = planned_good network (deck_options options) is.circuit (planned deck) good.few_phases in
    record {
      network = network;
      has = has;
      circuit = is.circuit;
      is_deck = read_back is.circuit text (record { is = is.whole.numbered; names = is.whole.names; good = names }) is.written;
      gates = deck.gates;
      are_gates = deck.are_gates;
      pairs = deck.are_chosen.0;
      are_exact = subst (λ signs. IsExact deck.gates signs deck.are_chosen.0) (sym (deck_signs network (deck_options options) is.circuit (planned deck))) deck.are_chosen.1;
    }
has_signs Skew bytes text network options has good is = tt
has_signs Compound bytes text network options has good is = tt
