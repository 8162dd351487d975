use Rattle.std.proofs.Common.{ap, get_or, subst, sym, take, ℕ, ◌<◌, ◌∙◌, ◌≡◌}
use Rattle.std.proofs.lemmas.List.{take_more}
use Rattle.deck_audit.specs.Words.{IsInverterOutput}
use Rattle.found_decks.specs.FoundDecks.{AreInverterPlaces, FoundLatch}
use Rattle.audit_deck.specs.DeckOrders.{AddsBlock, AddsBlocks, AreDataPlaces}
use Rattle.audit_deck.proofs.DeckOrders.{block_added}
use Rattle.audit_deck.proofs.index.Index.push_data.Goals as goal

pub push_inverter-requires : goal.push_inverter-requires
push_inverter-requires c =
    let l = c.latch-item.result in
    let i = c.loop-latch.latch-index in
    let same = sym (ap (λ (g : FoundLatch). (g.group).data_net) (c.latch.view_is ∙ c.latch-item.is)) in
    record {
      within = subst (λ n. n < c.args.self.now.nets) same (c.requires.within i l c.loop-latch-test.true);
      inverts = subst (λ n. ((input : ℕ) → IsInverterOutput c.args.self.now.devices n input → ⊥) → ⊥) same (c.requires.inverts i l c.loop-latch-test.true);
    }

pub loop-latch-preserved : goal.loop-latch-preserved
loop-latch-preserved c =
    let ds = c.args.self.now.devices in
    let latches = c.args.latches.now in
    let i = c.loop-latch.latch-index in
    let l = c.latch-item.result in
    let before = c.loop-latch.places.items in
    let after = c.push_inverter.new.places.items in
    let same = ap (λ (g : FoundLatch). (g.group).data_net) (c.latch.view_is ∙ c.latch-item.is) in
    subst (λ ls. AddsBlocks (AreDataPlaces ds) ls c.args.places.now.items after) (sym (take_more latches i l c.loop-latch-test.true))
    (block_added (AreDataPlaces ds) (take i latches) (get_or latches i l) c.args.places.now.items before after c.loop-latch.invariant
    (subst (λ n. AddsBlock (AreInverterPlaces ds n) before after) same c.in_ok-push_inverter.ensures))
