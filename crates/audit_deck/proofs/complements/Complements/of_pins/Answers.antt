use Rattle.std.proofs.Common.{ap, arith, subst, sym, ◌+◌, ◌∙◌, ◌≡◌}
use Rattle.std.specs.Prelude.{Some, slice_get}
use Rattle.deck.specs.PortLayout.{first_pin}
use Rattle.audit_deck.specs.LeafOrders.{AreByPlace, IsOfLeaf}
use Rattle.audit_deck.proofs.LeafOrders.{none_placed, pin_next}
use Rattle.audit_deck.proofs.complements.Complements.of_pins.Goals as goal

pub loop-pin-init : goal.loop-pin-init
loop-pin-init c = λ latches.
    let P = IsOfLeaf c.args.roles latches c.args.self.now in
    subst (AreByPlace P 0) (sym c.new-pins.ensures.items) (none_placed P)

pub loop-pin-preserved : goal.loop-pin-preserved
loop-pin-preserved c = λ latches.
    let table = c.args.self.now in
    let p = c.loop-pin.pin in
    let at : slice_get table (first_pin c.args.roles + p) ≡ Some c.of.result =
    ap (λ n. slice_get table (n + p)) (sym c.first_pin-first.ensures) ∙ c.of.ensures in
    subst (AreByPlace (IsOfLeaf c.args.roles latches table) (p + 1)) (sym c.in_ok-put_net.ensures)
    (pin_next c.args.roles latches table p c.loop-pin.pins.items c.of.result c.loop-pin-test.true at (c.loop-pin.invariant latches))

pub returns : goal.returns
returns c = λ latches.
    subst (λ n. AreByPlace (IsOfLeaf c.args.roles latches c.args.self.now) n c.loop-pin.pins.items) (omega (arith, c.loop-pin-test.false)) (c.loop-pin.invariant latches)
