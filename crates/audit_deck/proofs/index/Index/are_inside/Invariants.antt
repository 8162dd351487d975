use Rattle.std.specs.Prelude.{◌≢◌}
use Rattle.deck_audit.specs.Rules.{IsInside}
use Rattle.audit_deck.specs.Scans.{AllBefore}
use Rattle.audit_deck.proofs.index.Index.are_inside.Given as goal

abbrev pub invariant-loop-net : goal.invariant-loop-net
invariant-loop-net l = AllBefore (λ n. n ≢ l.top → IsInside l.self.devices l.roles n) l.nets l.net-index
