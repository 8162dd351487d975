use Rattle.std.proofs.Common.{ap, ◌∙◌}
use Rattle.deck.specs.declared.role.Roles.{Roles}
use Rattle.deck.specs.Roles.{ports_of}
use Rattle.deck.proofs.PortLayout.{AreRoles-same}
use Rattle.event_sim.specs.SimData.{power_sim}
use Rattle.event_sim.proofs.sim.Sim.new.Goals as goal

pub returns-clause-each : goal.returns-clause-each
returns-clause-each g c = λ roles are.
    c.in_ok-sim.ensures.power
    ∙ ap (λ (r : Roles). power_sim c.args.chooser.pick c.args.circuit.now r)
    (AreRoles-same (ports_of c.args.circuit.now) c.in_ok-roles.roles roles c.in_ok-roles.ensures.roles are)
