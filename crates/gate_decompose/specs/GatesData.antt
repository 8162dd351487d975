-- Gates of a network as plain data.
use Rattle.std.specs.Prelude.{ℕ, List}
use Rattle.gate_decompose.specs.declared.gates.Node.{Node}
use Rattle.gate_decompose.specs.declared.gates.Ref.{Ref}

-- gates as plain data over lists: nodes in order, and what each sink reads
pub record GatesData : Type 0 where
  pub leaves : ℕ
  pub nodes : List Node
  pub sinks : List Ref
