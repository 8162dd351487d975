use Rattle.std.specs.Prelude.{Some, slice_get}
use Rattle.std.proofs.Common.{ap, get_or, refl, subst, sym, take, ◌++◌, ◌∙◌, ◌≡◌}
use Rattle.std.proofs.lemmas.List.{take_more}
use Rattle.found_decks.specs.FoundDecks.{FoundLatch}
use Rattle.audit_deck.specs.DeckOrders.{AddsBlocks, AreLatchPlaces}
use Rattle.audit_deck.proofs.DeckOrders.{block_added}
use Rattle.audit_deck.proofs.order.push_latches.Goals as goal

pub loop-latch-preserved : goal.loop-latch-preserved
loop-latch-preserved c =
    let latches = c.args.latches.now in
    let i = c.loop-latch.latch-index in
    let l = c.latch-item.result in
    let before = c.loop-latch.places.items in
    let after = c.extend_from_slice.new.self.items in
    let own : c.as_slice.result.now ≡ l.places = c.as_slice.ensures.value ∙ ap (λ (g : FoundLatch). g.places) c.latch.view_is in
    subst (λ ls. AddsBlocks AreLatchPlaces ls c.args.places.now.items after) (sym (take_more latches i l c.loop-latch-test.true))
    (block_added AreLatchPlaces (take i latches) (get_or latches i l) c.args.places.now.items before after c.loop-latch.invariant
    (l.places, ap (λ (g : FoundLatch). g.places) c.latch-item.is, c.in_ok-extend_from_slice.ensures.items ∙ ap (λ ps. before ++ ps) own))
