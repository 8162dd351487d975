use Rattle.std.proofs.Common.{List}
use Rattle.found_decks.specs.FoundDecks.{FoundLatch}
use Rattle.audit_deck.specs.LeafOrders.{AreByPlace, IsOfLeaf}
use Rattle.audit_deck.proofs.complements.Complements.of_pins.Given as goal

abbrev pub invariant-loop-pin : goal.invariant-loop-pin
invariant-loop-pin l = (latches : List FoundLatch) → AreByPlace (IsOfLeaf l.fn.roles latches l.self) l.pin l.pins.items
