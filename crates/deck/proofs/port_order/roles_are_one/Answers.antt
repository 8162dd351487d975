use Rattle.deck.proofs.PortOrder.{LeavesRolesAt-same}
use Rattle.deck.proofs.PortLayout.{AreRoles-same}
use Rattle.deck.proofs.port_order.roles_are_one.Goals as goal

pub returns : goal.returns
returns c = record {
  roles = AreRoles-same;
  places = LeavesRolesAt-same;
  apart = λ ports a b h k. k.no_order a h;
}
