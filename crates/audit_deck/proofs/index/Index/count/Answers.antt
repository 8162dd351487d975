use Rattle.std.proofs.Common.{subst}
use Rattle.audit_deck.specs.Indexes.{AreInRange, IndexData}
use Rattle.audit_deck.proofs.index.Index.count.Goals as goal

pub returns-clause-in_range : goal.returns-clause-in_range
returns-clause-in_range c = subst (λ (v : IndexData). AreInRange v.devices v.nets) c.self.view_is c.self.invariant.in_range
