use Rattle.std.proofs.Common.{ap, get_or, inr, subst}
use Rattle.std.proofs.lemmas.Option.{slice_get-get_or}
use Rattle.audit_deck.specs.DeckOrders.{AddsBlocks, AddsCells, DeckOrderData}
use Rattle.audit_deck.proofs.JoinedParts.{data_sink, inverter_low, sink_inverts}
use Rattle.audit_deck.proofs.LaterBreaks.{sort_low}
use Rattle.found_decks.specs.FoundDecks.{AreInverterPlaces}
use Rattle.audit_deck.proofs.index.Index.deck_order.Goals as goal

pub push_cells-requires-clause-dynamic : goal.push_cells-requires-clause-dynamic
push_cells-requires-clause-dynamic c = λ k d lt.
    let tops = c.args.tops.now in
    c.requires.found.tops_sound k (get_or tops k d) (slice_get-get_or tops k d lt)

pub push_inverters-requires-clause-within : goal.push_inverters-requires-clause-within
push_inverters-requires-clause-within c = λ k d lt.
    let outs = c.args.complements.now in
    let z = c.requires.found.complements_sound k (get_or outs k d) (slice_get-get_or outs k d lt) in
    inverter_low c.args.self.now.devices c.args.roles c.args.self.now.nets c.requires.in_range (get_or outs k d) z.0 z.1.0.inverts

pub push_inverters-requires-clause-inverts : goal.push_inverters-requires-clause-inverts
push_inverters-requires-clause-inverts c = λ k d lt away.
    let outs = c.args.complements.now in
    let z = c.requires.found.complements_sound k (get_or outs k d) (slice_get-get_or outs k d lt) in
    away z.0 z.1.0.inverts

pub push_ports-requires-clause-inverts : goal.push_ports-requires-clause-inverts
push_ports-requires-clause-inverts c = λ n port away.
    let z = sink_inverts c.args.self.now.devices c.args.roles n (inr port) (c.requires.uses n (inr (inr port))) in
    away z.0 z.1

pub push_data-requires-clause-within : goal.push_data-requires-clause-within
push_data-requires-clause-within c = λ k d lt.
    let latches = c.args.latches.now in
    let ds = c.args.self.now.devices in
    let sink = data_sink ds c.args.roles latches c.requires.found.latches_sound k (get_or latches k d) (slice_get-get_or latches k d lt) in
    sort_low ds c.args.roles c.args.self.now.nets c.requires.in_range c.requires.ports ((get_or latches k d).group).data_net (inr sink)

pub push_data-requires-clause-inverts : goal.push_data-requires-clause-inverts
push_data-requires-clause-inverts c = λ k d lt away.
    let latches = c.args.latches.now in
    let ds = c.args.self.now.devices in
    let n = ((get_or latches k d).group).data_net in
    let sink = data_sink ds c.args.roles latches c.requires.found.latches_sound k (get_or latches k d) (slice_get-get_or latches k d lt) in
    let z = sink_inverts ds c.args.roles n sink (c.requires.uses n (inr sink)) in
    away z.0 z.1

pub returns : goal.returns
returns c =
    let ds = c.args.self.now.devices in
    let cells = c.push_cells.new.order in
    record {
      cells = cells;
      complements = c.push_inverters.new.places.items;
      latches = c.push_latches.new.places.items;
      outputs = c.push_ports.new.places.items;
      cells_are = subst (λ ps. AddsCells ds c.args.roles c.args.tops.now (record { places = ps; width = 0; height = 0 }) cells) c.new.ensures.items c.in_ok-push_cells.ensures;
      complements_are = subst (λ ps. AddsBlocks (AreInverterPlaces ds) c.args.complements.now ps c.push_inverters.new.places.items) (ap (λ (o : DeckOrderData). o.places) c.order.view_is)
          c.in_ok-push_inverters.ensures;
      latches_are = c.in_ok-push_latches.ensures;
      outputs_are = c.in_ok-push_ports.ensures;
      data_are = c.in_ok-push_data.ensures;
      width_is = ap (λ (o : DeckOrderData). o.width) c.order.view_is;
      height_is = ap (λ (o : DeckOrderData). o.height) c.order.view_is;
    }
