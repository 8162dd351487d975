use Rattle.std.proofs.Common.{take}
use Rattle.audit_deck.specs.DeckOrders.{AddsBlocks, AreDataPlaces}
use Rattle.audit_deck.proofs.index.Index.push_data.Given as goal

abbrev pub invariant-loop-latch : goal.invariant-loop-latch
invariant-loop-latch l = AddsBlocks (AreDataPlaces l.self.devices) (take l.latch-index l.latches) l.fn.places.items l.places.items
