-- An order has each node.
use Rattle.std.proofs.Common.{ℕ, ◌≤◌, List, length}
use Rattle.std.specs.Cmp.{nat_eq_equiv}
use Rattle.std.proofs.lemmas.Map.Steps.{le-length_from_below}
use Rattle.std.proofs.lemmas.Map.Views.{list_any-from_Contains}
use Rattle.graph_order.specs.Orders.{IsOrder}

pub order_covers : (nodes : List (List ℕ)) (order : List ℕ) → IsOrder nodes order → length nodes ≤ length order
order_covers nodes order o = le-length_from_below order (length nodes) (λ node l. list_any-from_Contains nat_eq_equiv node order (o.all node l))
