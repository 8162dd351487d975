use Rattle.std.proofs.Common.{◌∷◌, ◌++◌, [], ap, length, ◌∙◌, arith}
use Rattle.std.proofs.lemmas.List.FromFn.{length-map-range_with_len}
use Rattle.spice_text.specs.Cells.{cell_port}
use Rattle.spice_text.proofs.CellPorts.{ports_are, ports_more}
use Rattle.spice_text.proofs.cells.add_ports.Goals as goal

pub numbers-preserved : goal.numbers-preserved
numbers-preserved c =
    ports_more c.numbers.ports.items c.push.new.self.items c.numbers.number c.numbers.invariant
    (c.in_ok-push.ensures.items ∙ (λ i. c.numbers.ports.items ++ c.in_ok-port_name.ensures i ∷ []))

pub returns-clause-ports : goal.returns-clause-ports
returns-clause-ports c = ports_are c.numbers.ports.items c.numbers.number c.numbers.invariant

pub returns-clause-enough : goal.returns-clause-enough
returns-clause-enough c =
    omega (
      arith,
      ap length c.numbers.invariant,
      length-map-range_with_len cell_port 0 c.numbers.number,
      c.numbers-test.false,
      c.saturating_sub-others.ensures,
    )
