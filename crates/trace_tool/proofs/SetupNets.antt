-- The simulation of a setup's circuit: its nets and its step.
use Rattle.std.proofs.Common.{◌≡◌, ℕ, ◌+◌, ◌<◌, ◌≤◌, ◌^◌, List, [], ◌∷◌, length, ◌∙◌, arith}
use Rattle.std.proofs.lemmas.List.{length-take}
use Rattle.std.proofs.lemmas.Nat.{mod_below}
use Rattle.deck.specs.CircuitData.{CircuitData}
use Rattle.deck.specs.Ports.{leading_ports}
use Rattle.deck.specs.Roles.{AreRoles, ports_of}
use Rattle.deck.specs.declared.role.Roles.{Roles}
use Rattle.deck.proofs.PortLayout.{joined, length-leading}
use Rattle.deck.specs.PortLayout.{source_count}
use Rattle.event_sim.specs.Chains.{next_step, step_after}
use Rattle.event_sim.specs.SimData.{SimData, ran}
use Rattle.event_sim.specs.declared.event.Event.{Event}
use Rattle.event_sim.proofs.EventChains.{length-values_after}
use Rattle.event_sim.proofs.PowerState.{joined_length}
use Rattle.port_runs.proofs.RunOrder.{length-set_all}
use Rattle.trace_tool.specs.RunData.{IsRunning, with_move}
use Rattle.port_runs.specs.Moves.{PortValue}
use Rattle.trace_tool.specs.SetupData.{SetupData}

outs_within : (l a b c n p d o : ℕ) → a + (b + c) ≡ l → a ≡ d + 8 → b ≡ p → c ≡ o → l ≤ n → d + 8 + p + o ≤ n
outs_within l a b c n p d o e f g h i = omega arith

-- the ports that are outputs are nets
pub outputs_within : (c : CircuitData) (roles : Roles) → AreRoles (ports_of c) roles → source_count roles + roles.outs ≤ length c.nets
outputs_within c roles are =
    outs_within (length (ports_of c)) (length (leading_ports roles.clocks)) (length are.pins) (length are.outs) (length c.nets) roles.pins roles.clocks roles.outs
    (joined_length (ports_of c) (leading_ports roles.clocks) are.pins are.outs (joined are.in_order))
    (length-leading roles.clocks are.in_order.few_clocks) are.pin_count are.out_count (omega (arith, length-take c.ports c.nets))

pub step_after-fits : (step : ℕ) (events : List Event) → step < 2 ^ 64 → step_after step events < 2 ^ 64
step_after-fits step [] fits = fits
step_after-fits step (e ∷ es) fits = step_after-fits (next_step step) es (mod_below (step + 1) (2 ^ 64) (omega arith))

module _ {F : Type 0} where
  -- events leave a simulation of the setup's circuit
  pub running-ran : (setup : SetupData) (s : SimData F) (events : List Event) → IsRunning setup s → IsRunning setup (ran s events)
  running-ran setup s events running = record {
    are_roles = running.are_roles;
    links_are = running.links_are;
    whole = length-values_after s.values events ∙ running.whole;
    few = omega (arith, length-values_after s.values events, running.few);
    fits = step_after-fits s.step events running.fits;
  }

  -- and so do moves
  pub running-set : (setup : SetupData) (s : SimData F) (move : List PortValue) → IsRunning setup s → IsRunning setup (with_move s move)
  running-set setup s move running = record {
    are_roles = running.are_roles;
    links_are = running.links_are;
    whole = length-set_all s.values move ∙ running.whole;
    few = omega (arith, length-set_all s.values move, running.few);
    fits = running.fits;
  }
