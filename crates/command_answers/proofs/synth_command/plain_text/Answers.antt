use Rattle.std.proofs.Common.{◌≡◌, ℕ, List, refl, subst}
use Rattle.command_words.specs.declared.command.Method.TheVariants.{Plain}
use Rattle.deck_form.specs.declared.options.SynthOptions.{SynthOptions}
use Rattle.deck_form.specs.declared.version.DeckVersion.{DeckVersion}
use Rattle.deck_form.specs.declared.version.DeckVersion.TheVariants.{One, Two}
use Rattle.network.specs.NetworkData.{NetworkData}
use Rattle.spice_text.specs.Cells.{IsWrittenByCells}
use Rattle.synth_flow.specs.WholeTexts.{IsChosenCellText, IsChosenText}
use Rattle.command_answers.specs.Decks.{IsWholeText}
use Rattle.command_answers.proofs.synth_command.plain_text.Goals as goal

whole_text : (network : NetworkData) (options : SynthOptions) (version : DeckVersion) (text : List ℕ)
    → (version ≡ One → IsChosenText network options text) → (version ≡ Two → IsChosenCellText network options text)
    → IsWholeText network options (Plain version) text
whole_text network options One text one two =
    let is = one refl in
    record { circuit = is.circuit; is_chosen = is.is_chosen; whole = is.whole; written = is.written }
whole_text network options Two text one two =
    let is = two refl in
    record {
      circuit = is.circuit;
      is_chosen = is.is_grouped.0;
      whole = is.whole;
      written = subst (λ (places : List ℕ). IsWrittenByCells is.circuit places text) is.is_grouped.1 is.written;
    }

pub returns : goal.returns
returns c =
    whole_text c.args.network c.args.options c.args.version c.in_ok-text.text.items c.in_ok-text.ensures.one c.in_ok-text.ensures.two
