use Rattle.std.proofs.Common.{rules, []}
use Rattle.deck.specs.Ports.{leading_ports}
use Rattle.deck.proofs.NetNumbers.{with_all-more}
use Rattle.deck.proofs.ports.leading_nets.Goals as goal

pub loop-port-preserved : goal.loop-port-preserved
loop-port-preserved c =
    let more = with_all-more [] (leading_ports c.args.clocks) c.loop-port.port _ c.leading_port.ensures.name in
    search (rules, more)
