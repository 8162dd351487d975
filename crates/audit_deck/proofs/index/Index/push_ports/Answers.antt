use Rattle.deck.specs.PortLayout.{first_output}
use Rattle.audit_deck.proofs.DeckOrders.{port_added}
use Rattle.found_decks.specs.FoundDecks.{AreInverterPlaces}
use Rattle.audit_deck.proofs.index.Index.push_ports.Goals as goal

pub loop-port-preserved : goal.loop-port-preserved
loop-port-preserved c =
    port_added (AreInverterPlaces c.args.self.now.devices) (first_output c.args.roles) c.first_output-first.result c.loop-port.port c.args.places.now.items c.loop-port.places.items
    c.push_inverter.new.places.items c.first_output-first.ensures c.loop-port.invariant c.in_ok-push_inverter.ensures
