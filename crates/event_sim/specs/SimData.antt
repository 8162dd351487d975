-- Simulations as plain data.
use Rattle.std.specs.Prelude.{ℕ, List, slice_set}
use Rattle.dom_base.specs.declared.tri.Tri.{Tri}
use Rattle.deck.specs.CircuitData.{CircuitData}
use Rattle.deck.specs.declared.role.Roles.{Roles}
use Rattle.switch_model.specs.LinksData.{LinksData, links_of}
use Rattle.switch_model.specs.Power.{power_values}
use Rattle.event_sim.specs.declared.event.Event.{Event}
use Rattle.event_sim.specs.Chains.{step_after, values_after}

-- a simulation: who picks, the circuit, the value of each net, and the step, which counts events modulo 2^64
pub record SimData (F : Type 0) : Type 0 where
  pub pick : F
  pub links : LinksData
  pub values : List Tri
  pub step : ℕ

module _ {F : Type 0} where
  -- the power state of a circuit whose ports have these roles, before the first event
  abbrev pub power_sim : F → CircuitData → Roles → SimData F
  power_sim pick c roles = record { pick = pick; links = links_of c roles; values = power_values c roles; step = 0 }

  -- the simulation with another value at one net
  abbrev pub with_value : SimData F → ℕ → Tri → SimData F
  with_value s net v = record { pick = s.pick; links = s.links; values = slice_set s.values net v; step = s.step }

  -- the simulation after some events
  abbrev pub ran : SimData F → List Event → SimData F
  ran s events = record { pick = s.pick; links = s.links; values = values_after s.values events; step = step_after s.step events }
