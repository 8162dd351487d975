-- Each good file is refused or has the text that synthesis gives of its network.
use Rattle.std.proofs.Common.{◌⊎◌, inl, inr, ◌≤◌}
use Rattle.blif_ast.specs.BlifFileData.{BlifFileData}
use Rattle.blif_ast.specs.Good.{IsGoodFile}
use Rattle.net_flatten.specs.Flattening.{IsNetworkOf}
use Rattle.network.specs.NetworkData.{NetworkData}
use Rattle.model_calls.specs.Refusal.{Refusal}
use Rattle.model_calls.specs.Refusals.{IsRefusal}
use Rattle.net_flatten.proofs.Kept.{network_kept}
use Rattle.network_law.specs.Laws.{HasAnswer}
use Rattle.network_law.proofs.Answered.{has_answer}
use Rattle.deck_form.specs.DeckOptions.{DeckOptions}
use Rattle.plan_law.specs.Laws.{FilesHaveTexts, HasSynthText}
use Rattle.plan_law.proofs.DecksThere.{texts_there}

pub files_answered : FilesHaveTexts
files_answered = λ f options good wide tall. by f options good wide tall (has_answer f)
  where
    text_of : (f : BlifFileData) (options : DeckOptions) → IsGoodFile f → 2 ≤ options.width → 2 ≤ options.height
        → (network : NetworkData) → IsNetworkOf f network → HasSynthText f options
    text_of f options good wide tall network is =
        let made = texts_there network options (network_kept f network good is) wide tall in
        record { network = network; is_network = is; text = made.0; is_text = made.1 }

    by : (f : BlifFileData) (options : DeckOptions) → IsGoodFile f → 2 ≤ options.width → 2 ≤ options.height → HasAnswer f
        → ((r : Refusal) × IsRefusal f r) ⊎ HasSynthText f options
    by f options good wide tall (inl refused) = inl refused
    by f options good wide tall (inr (network, is)) = inr (text_of f options good wide tall network is)
