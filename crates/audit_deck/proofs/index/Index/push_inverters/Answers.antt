use Rattle.std.proofs.Common.{get_or, subst, sym, take}
use Rattle.std.proofs.lemmas.List.{take_more}
use Rattle.audit_deck.specs.DeckOrders.{AddsBlocks}
use Rattle.audit_deck.proofs.DeckOrders.{block_added}
use Rattle.found_decks.specs.FoundDecks.{AreInverterPlaces}
use Rattle.audit_deck.proofs.index.Index.push_inverters.Goals as goal

pub loop-net-preserved : goal.loop-net-preserved
loop-net-preserved c =
    let outputs = c.args.outputs.now in
    let i = c.loop-net.net-index in
    subst (λ ps. AddsBlocks (AreInverterPlaces c.args.self.now.devices) ps c.args.places.now.items c.push_inverter.new.places.items) (sym (take_more outputs i 0 c.loop-net-test.true))
    (block_added (AreInverterPlaces c.args.self.now.devices) (take i outputs) (get_or outputs i 0) c.args.places.now.items c.loop-net.places.items c.push_inverter.new.places.items
    c.loop-net.invariant c.in_ok-push_inverter.ensures)
