use Rattle.std.proofs.Common.{◌≡◌, map, take}
use Rattle.std.specs.List.{enumerate_from}
use Rattle.deck_form.specs.DeckNets.{named_latch}
use Rattle.plan_text.specs.DeviceTexts.{with_groups}
use Rattle.plan_text.proofs.groups.put_latches.Given as goal

abbrev pub invariant-latches : goal.invariant-latches
invariant-latches l = l.cards ≡ with_groups l.fn.cards (map named_latch (enumerate_from 0 (take l.j l.starts)))
