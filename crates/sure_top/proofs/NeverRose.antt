-- The count of what never fails.
use Rattle.std.proofs.Common.{arith}
use Rattle.dom_io.specs.Faults.{Rose}

-- a count that stands at 0 hasn't risen
pub never_rose : Rose 0 0 → ⊥
never_rose rose = omega (arith, rose)
