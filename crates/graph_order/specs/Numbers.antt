-- The numbers of some nodes, wherever they stand.
use Rattle.std.specs.Prelude.{ℕ, List, []}
use Rattle.graph_order.specs.declared.order.Numbers.{Numbers}
use Rattle.graph_order.specs.declared.order.Numbers.TheVariants.{None, One, Own, Lent}

abbrev pub numbers_of : Numbers → List ℕ
numbers_of None = []
numbers_of (One number) = number
numbers_of (Own numbers) = numbers.value.items
numbers_of (Lent numbers) = numbers.now.items
