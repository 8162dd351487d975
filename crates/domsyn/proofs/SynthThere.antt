-- `synth` of a file that is known has an outcome.
use Rattle.std.proofs.Common.{◌<◌, ◌≤◌, ◌⊎◌, inl, inr, ℕ, List, length, refl}
use Rattle.dom_io.specs.Held.{file_limit}
use Rattle.command_words.specs.Commands.{Synth}
use Rattle.command_words.specs.SynthOptionWords.{AreGoodOptions}
use Rattle.command_words.specs.declared.command.Method.{Method}
use Rattle.network.specs.NetworkData.{NetworkData}
use Rattle.domsyn.specs.declared.refusal.Refusal.{Refusal}
use Rattle.command_answers.specs.Methods.{IsSuited}
use Rattle.domsyn.specs.Refusals.{HasNoDeckFor}
use Rattle.domsyn.proofs.DeckCauses.{suited_or_not, without_network}
use Rattle.command_answers.proofs.OneNetwork.{network_kept}
use Rattle.command_answers.specs.Networks.{HasNetwork}
use Rattle.command_answers.proofs.MethodTexts.{text_there}
use Rattle.domsyn.specs.declared.refusal.Refusal.TheVariants.{TooLong}
use Rattle.domsyn.specs.Laws.{IsKnownFile}
use Rattle.deck_form.specs.declared.options.SynthOptions.{SynthOptions}
use Rattle.domsyn.specs.Outcomes.{Printed, Refused}
use Rattle.domsyn.proofs.KnownFiles.{Pairs, HasOne, fits_or_not}
use Rattle.domsyn.proofs.NetworksThere.{HasNetworkOrCause, network_there}

-- the deck of a file, or the cause for which it's refused
pub synth_there : (known : Pairs) (file : List ℕ) (options : SynthOptions) (method : Method) → AreGoodOptions options → IsKnownFile known file → HasOne known (Synth file options method)
synth_there known file options method good is = by (fits_or_not is.bytes file_limit)
  where
    decked : length is.bytes ≤ file_limit → (network : NetworkData) → HasNetwork is.bytes network → IsSuited method network ⊎ ((why : Refusal) × HasNoDeckFor method is.bytes why)
        → HasOne known (Synth file options method)
    decked fits network has (inl suited) =
        let kept = network_kept is.bytes network has in
        let text = text_there network kept options good.some_width good.some_height method in (
          Printed 0 text.0,
          record {
            bytes = is.bytes;
            is_file = record { holds = is.holds; within = fits };
            deck = record { network = network; has = has; suited = suited; is_text = text.1 };
            done = refl;
          },
        )
    decked fits network has (inr many) = (Refused file many.0, record { bytes = is.bytes; holds = is.holds; refused = many.1; name_is = refl })

    made : length is.bytes ≤ file_limit → HasNetworkOrCause is.bytes → HasOne known (Synth file options method)
    made fits (inl n) = decked fits n.0 n.1 (suited_or_not method is.bytes n.0 n.1)
    made fits (inr r) = (Refused file r.0, record { bytes = is.bytes; holds = is.holds; refused = without_network method is.bytes r.0 r.1; name_is = refl })

    by : (length is.bytes ≤ file_limit) ⊎ (file_limit < length is.bytes) → HasOne known (Synth file options method)
    by (inl fits) = made fits (network_there is.bytes fits)
    by (inr long) = (Refused file TooLong, record { bytes = is.bytes; holds = is.holds; refused = without_network method is.bytes TooLong long; name_is = refl })
