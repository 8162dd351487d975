-- The deck of a method has a cover of least cost.
use Rattle.std.proofs.Common.{ℕ, List, refl}
use Rattle.command_answers.specs.Decks.{IsLeastBy, IsLeastDeckFor, IsTextBy}
use Rattle.command_answers.specs.Networks.{HasNetwork}
use Rattle.command_answers.proofs.OneNetwork.{network_kept}
use Rattle.command_words.specs.declared.command.Method.{Method}
use Rattle.command_words.specs.declared.command.Method.TheVariants.{Compound, Exact, Plain, Skew}
use Rattle.deck_form.specs.ChosenDecks.{with_signs}
use Rattle.deck_form.specs.declared.options.SynthOptions.{SynthOptions}
use Rattle.network.specs.NetworkData.{NetworkData}
use Rattle.network.specs.Networks.{IsNetwork}
use Rattle.plan_law.proofs.LeastDecks.{chosen_decks_are_least, signed_decks_have_least_covers}

least_by : (method : Method) (network : NetworkData) (options : SynthOptions) (text : List ℕ) → IsNetwork network → (is : IsTextBy method network options text)
    → IsLeastBy method network options is.circuit is.is_chosen
least_by (Plain version) network options text kept is = chosen_decks_are_least network options is.circuit kept is.is_chosen
least_by Exact network options text kept is =
    let cover = signed_decks_have_least_covers network options (is.is_chosen).signs is.circuit kept (with_signs is.is_chosen refl) in
    record { least = cover.least; devices = cover.devices }
least_by Skew network options text kept is = tt
least_by Compound network options text kept is = tt

pub least_deck : (method : Method) (bytes : List ℕ) (network : NetworkData) (options : SynthOptions) (text : List ℕ) → HasNetwork bytes network
    → IsTextBy method network options text → IsLeastDeckFor bytes options method text
least_deck method bytes network options text has is =
    record { network = network; has = has; is_text = is; least = least_by method network options text (network_kept bytes network has) is }
