use Rattle.plan_text.specs.CardTexts.{with_named_cards}
use Rattle.plan_text.specs.PlannedDecks.{planned_devices}
use Rattle.std.proofs.Common.{◌∙◌}
use Rattle.plan_text.proofs.PlannedTexts.{cards_text, planned_cards}
use Rattle.plan_text.proofs.plan.with_cards.Goals as goal

pub into_cards-cards-requires : goal.into_cards-cards-requires
into_cards-cards-requires c =
    let trees = c.requires.trees.0 in (
      with_named_cards (record { text = c.args.text; next = 0 }) (planned_devices c.args.deck.now trees),
      planned_cards c.args.deck.now trees c.args.text c.new.result c.put_devices.new.cards c.new.ensures (c.in_ok-put_devices.ensures trees c.requires.trees.1),
    )

pub returns : goal.returns
returns c = λ trees are.
    c.into_text.ensures
    ∙ cards_text c.args.deck.now trees c.args.text c.into_cards-cards.result c.put_devices.new.cards
    (planned_cards c.args.deck.now trees c.args.text c.new.result c.put_devices.new.cards c.new.ensures (c.in_ok-put_devices.ensures trees are)) c.into_cards-cards.ensures
