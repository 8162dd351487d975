use Rattle.std.proofs.Common.{take}
use Rattle.audit_deck.specs.DeckOrders.{AddsBlocks}
use Rattle.found_decks.specs.FoundDecks.{AreInverterPlaces}
use Rattle.audit_deck.proofs.index.Index.push_inverters.Given as goal

abbrev pub invariant-loop-net : goal.invariant-loop-net
invariant-loop-net l = AddsBlocks (AreInverterPlaces l.self.devices) (take l.net-index l.outputs) l.fn.places.items l.places.items
