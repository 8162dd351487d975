-- Options and traces as plain data.
use Rattle.std.specs.Prelude.{ℕ, Bool, List}
use Rattle.trace_tool.specs.declared.options.Order.{Order}
use Rattle.trace_tool.specs.declared.options.ProbeWord.{ProbeWord}

-- options as plain data: the order of events and its seed, the nets whose changes are printed, and whether every event is
pub record TraceOptionsData : Type 0 where
  pub order : Order
  pub seed : ℕ
  pub probes : List ProbeWord
  pub events : Bool

-- a trace as plain data: its text, and whether each settling ended at rest
pub record TraceData : Type 0 where
  pub text : List ℕ
  pub settled : Bool
