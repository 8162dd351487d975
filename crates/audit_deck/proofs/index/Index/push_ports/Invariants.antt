use Rattle.deck.specs.PortLayout.{first_output}
use Rattle.audit_deck.specs.DeckOrders.{AddsBlocks}
use Rattle.found_decks.specs.FoundDecks.{AreInverterPlaces, numbers_from}
use Rattle.audit_deck.proofs.index.Index.push_ports.Given as goal

abbrev pub invariant-loop-port : goal.invariant-loop-port
invariant-loop-port l = AddsBlocks (AreInverterPlaces l.self.devices) (numbers_from (first_output l.fn.roles) l.port) l.fn.places.items l.places.items
