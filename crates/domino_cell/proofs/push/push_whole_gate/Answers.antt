use Rattle.std.proofs.Common.{ap, arith, ◌∙◌}
use Rattle.deck.specs.Cuts.{cut_to}
use Rattle.deck.proofs.Cuts.{cut_to-grew}
use Rattle.domino_cell.proofs.CellCircuits.{Grew-longer}
use Rattle.domino_cell.proofs.push.push_whole_gate.Goals as goal

pub cut-requires : goal.cut-requires
cut-requires c = omega (arith, c.device_count-before.ensures.count, Grew-longer c.push_gate.ensures.grew)

pub returns-in-Ok-clause-devices : goal.returns-in-Ok-clause-devices
returns-in-Ok-clause-devices c = c.in-Ok.ensures.devices

pub returns-in-Err-clause-refused : goal.returns-in-Err-clause-refused
returns-in-Err-clause-refused c =
    c.cut.ensures
    ∙ ap (cut_to c.push_gate.new.circuit) c.device_count-before.ensures.count
    ∙ cut_to-grew c.args.circuit.now c.push_gate.new.circuit c.push_gate.ensures.grew c.device_count-before.ensures.whole.all_used
