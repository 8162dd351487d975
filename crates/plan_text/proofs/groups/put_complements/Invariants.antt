use Rattle.std.proofs.Common.{◌≡◌, map, take}
use Rattle.deck_form.specs.DeckNets.{named_complement}
use Rattle.plan_text.specs.DeviceTexts.{with_groups}
use Rattle.plan_text.proofs.groups.put_complements.Given as goal

abbrev pub invariant-leaves : goal.invariant-leaves
invariant-leaves l = l.cards ≡ with_groups l.fn.cards (map (named_complement l.pins) (take l.leaf-index l.leaves))
