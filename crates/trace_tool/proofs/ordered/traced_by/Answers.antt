use Rattle.std.proofs.Common.{rules}
use Rattle.trace_tool.specs.Traces.{picked_place}
use Rattle.dom_base.proofs.Options.{if_ok-weaker}
use Rattle.trace_tool.proofs.ordered.traced_by.Goals as goal

pub returns : goal.returns
returns c = if_ok-weaker c.traced.result (λ trace h. h (picked_place c.args.order c.args.seed) (λ step count answer fits some few is. search rules)) c.traced.ensures
