-- What the text that `synth` writes of a file by the plain method reads as, over files that are known: in both versions the same circuit,
-- and the one whose figures `report` tells.
use Rattle.std.specs.Prelude.{ℕ, ◌≡◌, List, Some}
use Rattle.command_words.specs.Commands.{Report, Synth}
use Rattle.command_words.specs.SynthOptionWords.{AreGoodOptions}
use Rattle.command_words.specs.declared.command.Method.TheVariants.{Plain}
use Rattle.deck.specs.CircuitData.{CircuitData}
use Rattle.deck.specs.DeckText.{IsDeckOf}
use Rattle.deck_form.specs.AskedOptions.{deck_options}
use Rattle.deck_form.specs.ChosenDecks.{IsChosenDeck}
use Rattle.deck_form.specs.declared.options.SynthOptions.{SynthOptions}
use Rattle.deck_form.specs.declared.version.DeckVersion.{DeckVersion}
use Rattle.network.specs.NetworkData.{NetworkData}
use Rattle.synth_flow.specs.Summaries.{figures}
use Rattle.synth_flow.specs.SummaryLines.{summary_lines}
use Rattle.command_answers.specs.Networks.{HasNetwork}
use Rattle.domsyn.specs.Laws.{IsKnownFile}
use Rattle.domsyn.specs.Outcomes.{HasBytes, IsOutcome, Printed}

-- the texts that `synth` of a file writes with these options in two versions read as the same circuit: equal in its name, the signs of its
-- sinks, its ports, its nets and its devices
abbrev pub VersionsReadAlike : Type 0
VersionsReadAlike =
    (known : List (List ℕ × List ℕ)) (file : List ℕ) (options : SynthOptions) (version other : DeckVersion) (text again : List ℕ)
    → AreGoodOptions options → IsKnownFile known file
    → IsOutcome (Some known) (Synth file options (Plain version)) (Printed 0 text)
    → IsOutcome (Some known) (Synth file options (Plain other)) (Printed 0 again)
    → (circuit : CircuitData) × IsDeckOf text circuit × IsDeckOf again circuit

-- the lines are the figures of this circuit, which synthesis gives of the network of the file: its number of devices, and those of the parts
-- that it is made of
pub record AreFiguresOf (known : List (List ℕ × List ℕ)) (file : List ℕ) (options : SynthOptions) (circuit : CircuitData) (lines : List ℕ)
    : Type 0 where
  pub bytes : List ℕ
  pub holds : HasBytes (Some known) file bytes
  pub network : NetworkData
  pub has : HasNetwork bytes network
  pub is_chosen : IsChosenDeck network (deck_options options) circuit
  pub lines_are : lines ≡ summary_lines network.name (figures is_chosen)

-- the text that `synth` of a file writes with these options, in either version, reads as the circuit whose figures `report` of the file
-- tells with them
abbrev pub ReportTellsDeck : Type 0
ReportTellsDeck =
    (known : List (List ℕ × List ℕ)) (file : List ℕ) (options : SynthOptions) (version : DeckVersion) (text lines : List ℕ)
    → AreGoodOptions options → IsKnownFile known file
    → IsOutcome (Some known) (Synth file options (Plain version)) (Printed 0 text)
    → IsOutcome (Some known) (Report file options) (Printed 0 lines)
    → (circuit : CircuitData) × IsDeckOf text circuit × AreFiguresOf known file options circuit lines
