use Rattle.std.proofs.Common.{◌++◌, ◌∷◌, [], ap, ◌∙◌}
use Rattle.std.specs.Prelude.{codes}
use Rattle.spice_text.specs.Text.{deck_line}
use Rattle.plan_text.specs.CardTexts.{named_cards}
use Rattle.plan_text.specs.PlannedDecks.{planned_devices}
use Rattle.plan_text.proofs.plan.card_text_of_plan.Goals as goal

pub returns : goal.returns
returns c = λ trees are.
    c.in_ok-bytes.ensures
    ∙ c.in_ok-end_deck.ensures
    ∙ ap (λ t. t ++ deck_line (codes ".ends") (c.args.deck.now.name.now ∷ []))
    (c.in_ok-text.ensures trees are
    ∙ ap (λ h. h ++ named_cards 0 (planned_devices c.args.deck.now trees)) (c.in_ok-head.ensures c.args.deck.now.starts.now c.requires.signs))
