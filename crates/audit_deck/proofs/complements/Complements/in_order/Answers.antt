use Rattle.std.proofs.Common.{ap, arith, length, refl, subst, sym, ℕ, ◌+◌, ◌≡◌}
use Rattle.std.specs.Prelude.{Some, slice_get}
use Rattle.std.proofs.lemmas.Option.{slice_get_read}
use Rattle.found_decks.specs.FoundDecks.{FoundLatch}
use Rattle.audit_deck.specs.LeafOrders.{AreByPlace, IsOfLeaf}
use Rattle.audit_deck.proofs.LeafOrders.{latch_next}
use Rattle.audit_deck.proofs.complements.Complements.in_order.Goals as goal

pub loop-latch-preserved : goal.loop-latch-preserved
loop-latch-preserved c =
    let table = c.args.self.now in
    let latches = c.args.latches.now in
    let i = c.loop-latch.latch-index in
    let l = c.latch-item.result in
    let there : slice_get latches i ≡ Some l = slice_get_read latches (length latches) i l refl c.loop-latch-test.true c.latch-item.is in
    let same = ap (λ (g : FoundLatch). (g.group).output) c.latch.view_is in
    subst (AreByPlace (IsOfLeaf c.args.roles latches table) (c.args.roles.pins + (i + 1))) (sym c.in_ok-put_net.ensures)
    (latch_next c.args.roles latches table i l c.loop-latch.nets.items c.of.result there (subst (λ n. slice_get table n ≡ Some c.of.result) same c.of.ensures) c.loop-latch.invariant)

pub loop-latch-init : goal.loop-latch-init
loop-latch-init c =
    subst (λ n. AreByPlace (IsOfLeaf c.args.roles c.args.latches.now c.args.self.now) n c.in_ok-nets.nets.items) (add c.args.roles.pins)
    (c.in_ok-nets.ensures c.args.latches.now)
  where
    add : (n : ℕ) → n ≡ n + 0
    add n = omega arith

pub returns : goal.returns
returns c =
    let latches = c.args.latches.now in
    subst (λ n. AreByPlace (IsOfLeaf c.args.roles latches c.args.self.now) (c.args.roles.pins + n) c.loop-latch.nets.items)
    (omega (arith, c.loop-latch-test.false)) c.loop-latch.invariant
