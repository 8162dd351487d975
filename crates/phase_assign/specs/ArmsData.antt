-- The pairs that the parts of a gate node ask for with the sign plus.
use Rattle.std.specs.Prelude.{ℕ, true, false, Option, Some, None}
use Rattle.dual_rail.specs.declared.signed.SignedNode.{SignedNode}
use Rattle.phase_assign.specs.declared.pairs.Asked.{Asked}
use Rattle.phase_assign.specs.declared.pairs.Asked.TheVariants.{Nothing, Plus, Minus}

pub record ArmsData : Type 0 where
  pub left : Option SignedNode
  pub right : Option SignedNode

-- the pair of a node that is asked for with a sign
abbrev pub pair_with : Asked → ℕ → Option SignedNode
pair_with Nothing n = None
pair_with Plus n = Some (record { node = n; plus = true })
pair_with Minus n = Some (record { node = n; plus = false })
