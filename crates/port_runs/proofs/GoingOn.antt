-- Legal runs go on by each event of a pending net and by each move of the environment in its place, and evaluation periods last to
-- precharge.
use Rattle.std.proofs.Common.{List, [], append_assoc, refl, subst, sym, ◌++◌, ◌∷◌, ◌≡◌}
use Rattle.dom_base.proofs.Lists.{AllByRecursion-append}
use Rattle.deck.specs.CircuitData.{CircuitData}
use Rattle.deck.specs.declared.role.Roles.{Roles}
use Rattle.port_runs.specs.Environment.{Capture, Captured, Evaluation, Fall, Happens, IsNext, Launch, Launched, Moves, Open, Pins, Place, Precharge, Released, Reset, Rise, Step, Take, World}
use Rattle.port_runs.specs.declared.clocking.Clocking.{Clocking}
use Rattle.port_runs.specs.declared.clocking.Clocking.TheVariants.{Together}
use Rattle.port_runs.specs.Laws.{PeriodsLast, RunsGoOn, world_after}
use Rattle.port_runs.specs.Periods.{IsInPeriod}
use Rattle.port_runs.specs.PortRuns.{DoesBy, Rests, Runs, RunsBy, SetsPorts, clocked_ports, power_world}
use Rattle.port_runs.proofs.Steps.{leads_further}

module _ (clocking : Clocking) (c : CircuitData) (roles : Roles) (steps : List Step) (w : World) (r : RunsBy clocking c roles steps w) where
  further : (step : Step) (v : World) → DoesBy clocking c roles step w v → RunsBy clocking c roles (steps ++ step ∷ []) v
  further step v d = leads_further (clocked_ports clocking c roles) (SetsPorts roles) steps step (power_world c roles) w v r d

  -- a place is opened
  opened : (from place : Place) → w.place ≡ from → IsNext from place → Rests c roles w → (place ≡ Capture → w.risen ≡ roles.clocks)
      → RunsBy clocking c roles (steps ++ Moves (Open place) ∷ []) (world_after roles (Open place) w)
  opened from place at next rests risen =
      further (Moves (Open place)) (world_after roles (Open place) w)
      ((subst (λ p. IsNext p place) (sym at) next, rests, risen), (_, refl, refl))

pub runs_go_on : RunsGoOn
runs_go_on clocking c roles steps w r = record {
  event = λ n values e. further clocking c roles steps w r (Happens n) (record w { values = values }) (values, refl, e);
  released = λ at rests. opened clocking c roles steps w r Reset Released at tt rests (λ e. absurd (cc));
  pins = λ bits at rests count. further clocking c roles steps w r (Moves (Take bits)) (world_after roles (Take bits) w)
      ((at, rests, count), (_, refl, refl));
  evaluation = λ at rests. opened clocking c roles steps w r Pins Evaluation at tt rests (λ e. absurd (cc));
  later_clock = λ at more. further clocking c roles steps w r (Moves Rise) (world_after roles Rise w) ((at, more), (_, refl, refl));
  early = λ k o at rests next once last. further clocking c roles steps w r (Moves (Fall k)) (world_after roles (Fall k) w)
      ((at, rests, next, once, o, last), (_, refl, refl));
  capture = λ at risen rests. opened clocking c roles steps w r Evaluation Capture at tt rests (λ e. risen);
  captured = λ at rests. opened clocking c roles steps w r Capture Captured at tt rests (λ e. absurd (cc));
  precharge = λ at rests. opened clocking c roles steps w r Captured Precharge at tt rests (λ e. absurd (cc));
  launch = λ at rests. opened clocking c roles steps w r Precharge Launch at tt rests (λ e. absurd (cc));
  launched = λ at rests. opened clocking c roles steps w r Launch Launched at tt rests (λ e. absurd (cc));
}

pub periods_last : PeriodsLast
periods_last c roles w w' = record {
  begins = λ steps r d.
      record {
        earlier = steps;
        run = leads_further (clocked_ports Together c roles) (SetsPorts roles) steps (Moves (Open Evaluation))
            (power_world c roles) w w' r d;
        period = tt;
      };
  lasts = λ steps step is d other.
      record {
        earlier = is.earlier;
        run = subst (λ l. Runs c roles l w') (append_assoc is.earlier (Moves (Open Evaluation) ∷ steps) (step ∷ []))
            (leads_further (clocked_ports Together c roles) (SetsPorts roles) (is.earlier ++ Moves (Open Evaluation) ∷ steps) step
            (power_world c roles) w w' is.run d);
        period = AllByRecursion-append IsInPeriod steps (step ∷ []) is.period (other, tt);
      };
}
