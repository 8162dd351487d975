use Rattle.trace_tool.proofs.ComparedCycles.{stops}
use Rattle.trace_tool.proofs.run.Run.compare_cycle.Goals as goal

pub returns-in_ok-stopped-in-Err : goal.returns-in_ok-stopped-in-Err
returns-in_ok-stopped-in-Err g c = record {
  outputs = c.cycle-wanted.result.now;
  cycle = c.cycle-wanted.follows.holds-at-none;
  compared = stops (λ pick step count place. g.F.Fn.post pick (step, (count, tt)) place) c.args.self.now c.compare_reading.new.self c.args.number c.args.pins.now c.cycle-wanted.result.now
      c.in-Err.halt c.in_ok-stopped-in-Err.field-0 c.in-Err.ensures c.in_ok-stopped-in-Err.ensures;
}
