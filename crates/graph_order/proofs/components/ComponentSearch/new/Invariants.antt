use Rattle.std.proofs.Common.{◌≡◌, replicate}
use Rattle.graph_order.specs.declared.components.Place.TheVariants.{New}
use Rattle.graph_order.proofs.components.ComponentSearch.new.Given as goal

abbrev pub invariant-loop : goal.invariant-loop
invariant-loop l = l.places.items ≡ replicate l.counter New
