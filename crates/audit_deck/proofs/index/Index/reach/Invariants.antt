use Rattle.std.proofs.Common.{◌-◌, ◌≡◌}
use Rattle.audit_deck.proofs.Reaches.{IsWalking}
use Rattle.audit_deck.proofs.index.Index.reach.Given as goal

abbrev pub invariant-nets : goal.invariant-nets
invariant-nets l = record {
  room : l.met.room ≡ l.self.nets;
  walking : IsWalking l.self.devices l.roles l.start l.met.nets l.done;
}

abbrev pub decreases-nets : goal.decreases-nets
decreases-nets l = l.met.room - l.done
