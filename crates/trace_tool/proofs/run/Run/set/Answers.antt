use Rattle.std.proofs.Common.{sym, ap, subst, arith}
use Rattle.deck.specs.PortLayout.{source_count}
use Rattle.event_sim.specs.SimData.{SimData}
use Rattle.event_sim.proofs.PowerState.{sources_within}
use Rattle.trace_tool.specs.Moves.{set_bits}
use Rattle.trace_tool.specs.RunData.{IsRunning, RunData}
use Rattle.trace_tool.proofs.SetupNets.{running-set}
use Rattle.trace_tool.proofs.run.Run.set.Goals as goal

pub set_ports-requires-clause-few : goal.set_ports-requires-clause-few
set_ports-requires-clause-few g c =
    omega (
      arith,
      c.requires.sources,
      ap (λ (r : RunData g.row.F.Denot). source_count r.setup.roles) c.self.view_is,
      c.self.invariant.whole,
      c.self.invariant.few,
      sources_within c.self.inside.setup.circuit c.self.inside.setup.roles c.self.invariant.are_roles,
    )

pub invariant_of-self : goal.invariant_of-self
invariant_of-self g c =
    subst (λ (x : SimData g.row.F.Denot). IsRunning c.self.inside.setup x) (sym c.set_ports.ensures.set)
    (running-set c.self.inside.setup c.self.inside.sim (set_bits c.args.port c.args.bits.now) c.self.invariant)
