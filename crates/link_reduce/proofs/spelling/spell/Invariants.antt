use Rattle.std.proofs.Common.{length, ◌*◌, ◌+◌, ◌-◌}
use Rattle.link_reduce.proofs.Spellings.{IsSpellingAll}
use Rattle.link_reduce.proofs.spelling.spell.Given as goal

abbrev pub invariant-steps : goal.invariant-steps
invariant-steps l = IsSpellingAll l.parts l.fn.whole l.order.items l.steps.items

abbrev pub decreases-steps : goal.decreases-steps
decreases-steps l = 2 * l.count - (2 * length l.order.items + length l.steps.items)
