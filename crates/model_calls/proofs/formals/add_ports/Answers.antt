use Rattle.model_calls.proofs.FormalFaults.{have_ports_next}
use Rattle.model_calls.proofs.formals.add_ports.Goals as goal

pub returns : goal.returns
returns c = λ models there have. have_ports_next models c.args.number c.args.unit.now c.in_ok-ports.field-0 c.args.tables.now c.insert.new.self there c.in_ok-ports.ensures c.in_ok-insert.ensures.updates.0 have
