use Rattle.std.proofs.Common.{◌+◌}
use Rattle.audit_deck.specs.LeafOrders.{AreByPlace, IsOfLeaf}
use Rattle.audit_deck.proofs.complements.Complements.in_order.Given as goal

abbrev pub invariant-loop-latch : goal.invariant-loop-latch
invariant-loop-latch l = AreByPlace (IsOfLeaf l.fn.roles l.latches l.self) (l.fn.roles.pins + l.latch-index) l.nets.items
