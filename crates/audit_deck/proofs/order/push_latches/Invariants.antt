use Rattle.std.proofs.Common.{take}
use Rattle.audit_deck.specs.DeckOrders.{AddsBlocks, AreLatchPlaces}
use Rattle.audit_deck.proofs.order.push_latches.Given as goal

abbrev pub invariant-loop-latch : goal.invariant-loop-latch
invariant-loop-latch l = AddsBlocks AreLatchPlaces (take l.latch-index l.latches) l.fn.places.items l.places.items
