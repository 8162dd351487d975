-- What the texts that `synth` writes of a file by the plain method read as.
use Rattle.std.specs.Prelude.{Some}
use Rattle.std.proofs.Common.{◌≡◌, ◌<◌, ◌∙◌, ℕ, List, All, ap, subst}
use Rattle.command_words.specs.SynthOptionWords.{AreGoodOptions}
use Rattle.command_words.specs.declared.command.Method.TheVariants.{Plain}
use Rattle.deck.specs.CircuitData.{CircuitData}
use Rattle.deck.specs.DeckText.{IsDeckOf}
use Rattle.deck_form.specs.declared.options.SynthOptions.{SynthOptions}
use Rattle.deck_form.specs.declared.version.DeckVersion.{DeckVersion}
use Rattle.network.specs.NetworkData.{NetworkData}
use Rattle.synth_flow.specs.SummaryLines.{summary_lines}
use Rattle.command_answers.specs.Decks.{AreFigureLines, IsTextBy}
use Rattle.command_answers.specs.Networks.{HasNetwork}
use Rattle.command_answers.proofs.ByteNames.{network_bytes}
use Rattle.command_answers.proofs.OneNetwork.{network_kept, networks_alike}
use Rattle.command_answers.proofs.WholeDecks.{text_reads_as, texts_read_alike}
use Rattle.domsyn.specs.Laws.{IsKnownFile}
use Rattle.domsyn.specs.Outcomes.{IsDeck, IsFigureReport}
use Rattle.domsyn.specs.SynthTexts.{AreFiguresOf, ReportTellsDeck, VersionsReadAlike}
use Rattle.domsyn.proofs.KnownFiles.{Pairs}
use Rattle.domsyn.proofs.OneOutcome.{bytes_alike}

module _ (known : Pairs) (file : List ℕ) (options : SynthOptions) (version : DeckVersion) (text : List ℕ) (good : AreGoodOptions options)
    (is_known : IsKnownFile known file) (x : IsDeck (Some known) file options (Plain version) 0 text) where
  low : All (λ b. b < 256) x.bytes
  low = subst (All (λ b. b < 256)) (bytes_alike known file is_known.bytes x.bytes is_known.holds x.is_file.holds) is_known.are_bytes

  -- bytes of the file have this network
  same_network : (bytes : List ℕ) (network : NetworkData) → bytes ≡ x.bytes → HasNetwork bytes network → network ≡ x.deck.network
  same_network bytes network same has = networks_alike x.bytes network x.deck.network (subst (λ b. HasNetwork b network) same has) x.deck.has

  versions : (other : DeckVersion) (again : List ℕ) → IsDeck (Some known) file options (Plain other) 0 again
      → (circuit : CircuitData) × IsDeckOf text circuit × IsDeckOf again circuit
  versions other again y =
      let same = same_network y.bytes y.deck.network (bytes_alike known file y.bytes x.bytes y.is_file.holds x.is_file.holds) y.deck.has in
      texts_read_alike x.deck.network (network_kept x.bytes x.deck.network x.deck.has) (network_bytes x.bytes x.deck.network low x.deck.has) options good
      version other text again x.deck.is_text (subst (λ n. IsTextBy (Plain other) n options again) same y.deck.is_text)

  figures_told : (lines : List ℕ) → IsFigureReport (Some known) file options 0 lines
      → (circuit : CircuitData) × IsDeckOf text circuit × AreFiguresOf known file options circuit lines
  figures_told lines y =
      let same = same_network y.bytes y.figures.network (bytes_alike known file y.bytes x.bytes y.is_file.holds x.is_file.holds) y.figures.has in
      let f : AreFigureLines x.deck.network options lines = subst (λ n. AreFigureLines n options lines) same y.figures.lines in
      let s = f.is_summary in (
        s.0,
        text_reads_as x.deck.network (network_kept x.bytes x.deck.network x.deck.has) (network_bytes x.bytes x.deck.network low x.deck.has) options good
            version text x.deck.is_text s.0 s.1,
        record {
          bytes = x.bytes;
          holds = x.is_file.holds;
          network = x.deck.network;
          has = x.deck.has;
          is_chosen = s.1;
          lines_are = f.text_is ∙ ap (summary_lines x.deck.network.name) s.2;
        },
      )

pub versions_read_alike : VersionsReadAlike
versions_read_alike known file options version other text again good is_known x y = versions known file options version text good is_known x other again y

pub report_tells_deck : ReportTellsDeck
report_tells_deck known file options version text lines good is_known x y = figures_told known file options version text good is_known x lines y
