-- `flat` of a file that is known has an outcome.
use Rattle.std.proofs.Common.{◌<◌, ◌≤◌, ◌⊎◌, inl, inr, ℕ, List, length, refl}
use Rattle.dom_io.specs.Held.{file_limit}
use Rattle.command_words.specs.Commands.{Flat as flat}
use Rattle.blif_ast.specs.Printed.{printed}
use Rattle.net_flatten.specs.OneModel.{file_of}
use Rattle.domsyn.specs.declared.refusal.Refusal.TheVariants.{TooLong}
use Rattle.domsyn.specs.Laws.{IsKnownFile}
use Rattle.domsyn.specs.Outcomes.{Printed, Refused}
use Rattle.domsyn.proofs.KnownFiles.{Pairs, HasOne, fits_or_not}
use Rattle.domsyn.proofs.NetworksThere.{HasNetworkOrCause, network_there}

-- the network of a file, or the cause for which it's refused
pub flat_there : (known : Pairs) (file : List ℕ) → IsKnownFile known file → HasOne known (flat file)
flat_there known file is = by (fits_or_not is.bytes file_limit)
  where
    made : length is.bytes ≤ file_limit → HasNetworkOrCause is.bytes → HasOne known (flat file)
    made fits (inl n) =
        (Printed 0 (printed (file_of n.0)), record { bytes = is.bytes; is_file = record { holds = is.holds; within = fits }; network = n.0; has = n.1; text_is = refl; done = refl })
    made fits (inr r) = (Refused file r.0, record { bytes = is.bytes; holds = is.holds; refused = r.1; name_is = refl })

    by : (length is.bytes ≤ file_limit) ⊎ (file_limit < length is.bytes) → HasOne known (flat file)
    by (inl fits) = made fits (network_there is.bytes fits)
    by (inr long) = (Refused file TooLong, record { bytes = is.bytes; holds = is.holds; refused = long; name_is = refl })
