use Rattle.std.proofs.Common.{refl}
use Rattle.trace_tool.proofs.PortValues.{set-more}
use Rattle.trace_tool.proofs.ports.set_ports.Goals as goal

pub loop-number-preserved : goal.loop-number-preserved
loop-number-preserved g c =
    set-more c.args.sim.now c.loop-number.sim c.set_pin_counted.new.self c.args.port c.loop-number.number c.args.bits.now _ _ _
    c.loop-number-test.true refl c.value_of.ensures c.loop-number.invariant c.set_pin_counted.ensures.set
