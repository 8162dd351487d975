use Rattle.deck_form.specs.DeckNets.{named_complement}
use Rattle.plan_text.proofs.Loops.{next_group}
use Rattle.plan_text.proofs.groups.put_complements.Goals as goal

pub leaves-preserved : goal.leaves-preserved
leaves-preserved c =
    next_group (named_complement c.args.pins.now) c.args.leaves.now c.leaves.leaf-index 0 c.leaves-test.true c.args.cards.now c.leaves.cards c.put_complement.new.cards
    c.end_group.new.self c.leaves.invariant c.in_ok-put_complement.ensures c.in_ok-end_group.ensures
