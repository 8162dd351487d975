-- The deck of the bytes of a file, and its figures.
use Rattle.std.specs.Prelude.{ℕ, ◌≡◌, List}
use Rattle.compound_law.specs.CompoundDecks.{IsChosenDeck as IsChosenCompoundDeck}
use Rattle.deck.specs.CircuitData.{CircuitData}
use Rattle.deck.specs.Whole.{IsWhole}
use Rattle.network.specs.NetworkData.{NetworkData}
use Rattle.plan_law.specs.LeastDecks.{HasLeastCover, IsLeastDeck}
use Rattle.deck_form.specs.AskedOptions.{deck_options}
use Rattle.deck_form.specs.ChosenDecks.{IsDeckOfSigns, planned}
use Rattle.deck_form.specs.DeckTexts.{IsWrittenAs}
use Rattle.spice_text.specs.Text.{IsWritten}
use Rattle.synth_flow.specs.BufferedDecks.{IsChosenBufferedDeck, skew_options}
use Rattle.synth_flow.specs.Summaries.{IsSummaryOf}
use Rattle.synth_flow.specs.SummaryData.{SummaryData}
use Rattle.synth_flow.specs.SummaryLines.{summary_lines}
use Rattle.deck_form.specs.declared.options.SynthOptions.{SynthOptions}
use Rattle.command_words.specs.declared.command.Method.{Method}
use Rattle.command_words.specs.declared.command.Method.TheVariants.{Compound, Exact, Plain, Skew}
use Rattle.command_answers.specs.Methods.{AreSignsOf, IsSuited}
use Rattle.command_answers.specs.Networks.{HasNetwork}

-- the circuit that synthesis gives of a network by a method, with options: of the method's signs and the chosen plan, with chains of
-- buffers for clocks that overlap, and with compound cells of the chosen plan with compound roots
abbrev pub IsCircuitBy : Method → NetworkData → SynthOptions → CircuitData → Type 0
IsCircuitBy Skew network options circuit = IsChosenBufferedDeck network (skew_options options.bounds options.phases) circuit
IsCircuitBy Compound network options circuit = IsChosenCompoundDeck network options.bounds.w options.bounds.h options.phases circuit
IsCircuitBy method network options circuit = IsDeckOfSigns (AreSignsOf method) network (deck_options options) circuit

-- its text: in the version that the method has, and else in version 1
abbrev pub IsWrittenBy : (method : Method) (network : NetworkData) (options : SynthOptions) (circuit : CircuitData)
    → IsCircuitBy method network options circuit → List ℕ → Type 0
IsWrittenBy (Plain version) network options circuit is text = IsWrittenAs version (planned is) text
IsWrittenBy method network options circuit is text = IsWritten circuit text

-- the text that synthesis gives of a network by a method, with options
pub record IsTextBy (method : Method) (network : NetworkData) (options : SynthOptions) (text : List ℕ) : Type 0 where
  pub circuit : CircuitData
  pub is_chosen : IsCircuitBy method network options circuit
  pub written : IsWrittenBy method network options circuit is_chosen text

-- bytes with a network, which suits the method, and that text of it
pub record IsDeckFor (bytes : List ℕ) (options : SynthOptions) (method : Method) (text : List ℕ) : Type 0 where
  pub network : NetworkData
  pub has : HasNetwork bytes network
  pub suited : IsSuited method network
  pub is_text : IsTextBy method network options text

-- no cover of the forest within the width and the height costs less, in the style of the options, and the cells have as many devices; by
-- the chosen signs no change of one sign needs fewer pairs. Of a deck with compound cells `IsRightCompoundDeck` says it.
abbrev pub IsLeastBy : (method : Method) (network : NetworkData) (options : SynthOptions) (circuit : CircuitData)
    → IsCircuitBy method network options circuit → Type 0
IsLeastBy (Plain version) network options circuit is = IsLeastDeck options is
IsLeastBy Exact network options circuit is = HasLeastCover options is
IsLeastBy Skew network options circuit is = Unit {0}
IsLeastBy Compound network options circuit is = Unit {0}

-- the text of the bytes' network has such a circuit
pub record IsLeastDeckFor (bytes : List ℕ) (options : SynthOptions) (method : Method) (text : List ℕ) : Type 0 where
  pub network : NetworkData
  pub has : HasNetwork bytes network
  pub is_text : IsTextBy method network options text
  pub least : IsLeastBy method network options is_text.circuit is_text.is_chosen

-- such a text, of a circuit that is whole
pub record IsWholeText (network : NetworkData) (options : SynthOptions) (method : Method) (text : List ℕ) : Type 0 where
  pub circuit : CircuitData
  pub is_chosen : IsCircuitBy method network options circuit
  pub whole : IsWhole circuit
  pub written : IsWrittenBy method network options circuit is_chosen text

-- the text of the figures of the deck that synthesis gives of a network, with options
pub record AreFigureLines (network : NetworkData) (options : SynthOptions) (text : List ℕ) : Type 0 where
  pub summary : SummaryData
  pub is_summary : IsSummaryOf network options summary
  pub text_is : text ≡ summary_lines network.name summary

-- bytes with a network, and that text of it
pub record AreFiguresFor (bytes : List ℕ) (options : SynthOptions) (text : List ℕ) : Type 0 where
  pub network : NetworkData
  pub has : HasNetwork bytes network
  pub lines : AreFigureLines network options text
