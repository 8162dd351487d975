use Rattle.std.proofs.Common.{List, subst, sym, ℕ, ◌+◌, ◌∙◌}
use Rattle.audit_deck.specs.Loops.{AreReads, HasThose, IsReader}
use Rattle.audit_deck.proofs.ReadNets.{reads_more}
use Rattle.audit_deck.proofs.index.Index.reads.Goals as goal

pub loop-net-preserved : goal.loop-net-preserved
loop-net-preserved c =
    let ds = c.args.self.now.devices in
    let roles = c.args.roles in
    let k = c.loop-net.net in
    let next = subst (HasThose (IsReader ds roles k)) (sym c.in_ok-owning.ensures) c.in_ok-next.ensures.are in
    record {
      nets_room = c.in_ok-next.ensures.nets_room ∙ c.loop-net.invariant.nets_room;
      places_room = c.in_ok-next.ensures.places_room ∙ c.loop-net.invariant.places_room;
      nodes = subst (AreReads ds roles (k + 1)) (sym {A = List (List ℕ)} c.in_ok-push.ensures.items)
          (reads_more ds roles k c.loop-net.nodes.items c.in_ok-owning.field-0 c.loop-net.invariant.nodes next);
    }
