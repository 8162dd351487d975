use Rattle.std.proofs.Common.{rules, ◌≡◌, ◌++◌, length, ap, sym, ◌∙◌, arith}
use Rattle.deck.specs.Numbers.{with_all}
use Rattle.deck.specs.Ports.{leading_ports}
use Rattle.deck.proofs.PortLayout.{new_nets, ports_differ, length-ports}
use Rattle.deck.proofs.circuit.Circuit.new.Goals as goal

-- the nets are the ports
nets_are : (c : goal.After-len-ports) → c.add_all-2.new.nets.keys ≡ leading_ports c.args.clocks ++ c.args.pins.now ++ c.args.outs.now
nets_are c =
    new_nets c.add_all-2.new.nets.keys c.args.clocks c.args.pins.now c.args.outs.now c.requires.few_clocks c.requires.pins_begin c.requires.outs_begin c.requires.apart
    (c.in_ok-add_all-2.ensures ∙ ap (λ n. with_all n c.args.outs.now) (c.in_ok-add_all.ensures ∙ ap (λ n. with_all n c.args.pins.now) c.in_ok-nets.ensures))

counted : (c : goal.After-len-ports) → c.len-ports.result ≡ length (leading_ports c.args.clocks ++ c.args.pins.now ++ c.args.outs.now)
counted c = let same = nets_are c in let count : c.len-ports.result ≡ length c.add_all-2.new.nets.keys = search rules in rw same at count

pub overflow_cast-ports : goal.overflow_cast-ports
overflow_cast-ports c =
    let count = counted c in
    omega (arith, count, length-ports c.args.clocks c.args.pins.now c.args.outs.now c.requires.few_clocks)

pub invariant_of-result : goal.invariant_of-result
invariant_of-result c =
    let count = counted c in
    rw (nets_are c, c.new-devices.ensures.items) record {
      few_ports = omega (arith, count, length-ports c.args.clocks c.args.pins.now c.args.outs.now c.requires.few_clocks);
      few_devices = omega arith;
      distinct = ports_differ c.args.clocks c.args.pins.now c.args.outs.now c.requires.few_clocks c.requires.pins_begin c.requires.outs_begin c.requires.apart;
      in_order = tt;
      all_used = sym count;
    }

pub returns : goal.returns
returns c =
    let count = counted c in
    let same = nets_are c in
    λ i. record { name = c.args.name; phases = c.args.phases.items; ports = count i; nets = same i; devices = c.new-devices.ensures.items i }
