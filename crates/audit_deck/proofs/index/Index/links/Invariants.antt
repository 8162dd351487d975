use Rattle.std.proofs.Common.{take}
use Rattle.audit_deck.specs.CellTrees.{AreLocal}
use Rattle.audit_deck.proofs.index.Index.links.Given as goal

abbrev pub invariant-loop-place : goal.invariant-loop-place
invariant-loop-place l = AreLocal l.self.devices l.nets.nets (take l.place-index l.places) l.links.items
