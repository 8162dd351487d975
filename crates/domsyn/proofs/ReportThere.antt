-- `report` of a file that is known has an outcome.
use Rattle.std.proofs.Common.{◌<◌, ◌≤◌, ◌⊎◌, inl, inr, ℕ, List, length, refl}
use Rattle.dom_io.specs.Held.{file_limit}
use Rattle.command_words.specs.Commands.{Report}
use Rattle.command_words.specs.SynthOptionWords.{AreGoodOptions}
use Rattle.domsyn.specs.declared.refusal.Refusal.TheVariants.{TooLong}
use Rattle.domsyn.specs.Laws.{IsKnownFile}
use Rattle.deck_form.specs.declared.options.SynthOptions.{SynthOptions}
use Rattle.synth_flow.specs.Summaries.{figures}
use Rattle.synth_flow.specs.SummaryLines.{summary_lines}
use Rattle.plan_law.proofs.DecksThere.{decks_there}
use Rattle.deck_form.specs.AskedOptions.{deck_options}
use Rattle.command_answers.proofs.OneNetwork.{network_kept}
use Rattle.domsyn.specs.Outcomes.{Printed, Refused}
use Rattle.domsyn.proofs.KnownFiles.{Pairs, HasOne, fits_or_not}
use Rattle.domsyn.proofs.NetworksThere.{HasNetworkOrCause, network_there}

-- the figures of the deck of a file, or the cause for which it's refused
pub report_there : (known : Pairs) (file : List ℕ) (options : SynthOptions) → AreGoodOptions options → IsKnownFile known file → HasOne known (Report file options)
report_there known file options good is = by (fits_or_not is.bytes file_limit)
  where
    made : length is.bytes ≤ file_limit → HasNetworkOrCause is.bytes → HasOne known (Report file options)
    made fits (inl n) =
        let deck = decks_there n.0 (deck_options options) (network_kept is.bytes n.0 n.1) good.some_width good.some_height in
        let summary = figures deck.1 in (
          Printed 0 (summary_lines n.0.name summary),
          record {
            bytes = is.bytes;
            is_file = record { holds = is.holds; within = fits };
            figures = record { network = n.0; has = n.1; lines = record { summary = summary; is_summary = (deck.0, deck.1, refl); text_is = refl } };
            done = refl;
          },
        )
    made fits (inr r) = (Refused file r.0, record { bytes = is.bytes; holds = is.holds; refused = r.1; name_is = refl })

    by : (length is.bytes ≤ file_limit) ⊎ (file_limit < length is.bytes) → HasOne known (Report file options)
    by (inl fits) = made fits (network_there is.bytes fits)
    by (inr long) = (Refused file TooLong, record { bytes = is.bytes; holds = is.holds; refused = long; name_is = refl })
