use Rattle.std.proofs.Common.{◌+◌, ◌∙◌, length}
use Rattle.plan_text.specs.CalledTexts.{bare_cell, calls_of_groups, shapes_of_groups}
use Rattle.plan_text.specs.PlannedDecks.{planned_groups}
use Rattle.plan_text.proofs.PlannedTexts.{calls_text, planned_calls}
use Rattle.plan_text.proofs.plan.calls_of_plan.Goals as goal

pub into_groups-groups-requires : goal.into_groups-groups-requires
into_groups-groups-requires c =
    let trees = c.requires.trees.0 in
    let all = planned_groups c.args.deck.now trees in (
      record { cell = bare_cell; shapes = shapes_of_groups all; calls = calls_of_groups all; count = 0 + length all },
      planned_calls c.args.deck.now trees c.in_ok-new.field-0 c.put_devices.new.cards c.in_ok-new.ensures (c.in_ok-put_devices.ensures trees c.requires.trees.1),
    )

pub returns-clause-shapes : goal.returns-clause-shapes
returns-clause-shapes c = λ trees are.
    c.into_calls.ensures.shapes
    ∙ (calls_text c.args.deck.now trees c.into_groups-groups.result c.put_devices.new.cards
    (planned_calls c.args.deck.now trees c.in_ok-new.field-0 c.put_devices.new.cards c.in_ok-new.ensures (c.in_ok-put_devices.ensures trees are)) c.into_groups-groups.ensures).0

pub returns-clause-calls : goal.returns-clause-calls
returns-clause-calls c = λ trees are.
    c.into_calls.ensures.calls
    ∙ (calls_text c.args.deck.now trees c.into_groups-groups.result c.put_devices.new.cards
    (planned_calls c.args.deck.now trees c.in_ok-new.field-0 c.put_devices.new.cards c.in_ok-new.ensures (c.in_ok-put_devices.ensures trees are)) c.into_groups-groups.ensures).1
