-- Legal runs by ports have their moves in order, and a value for each net.
use Rattle.std.proofs.Common.{List, [], ap, length, refl, slice_set, subst, ℕ, ◌∙◌, ◌∷◌, ◌≡◌}
use Rattle.std.proofs.lemmas.List.{length-set}
use Rattle.dom_base.specs.declared.tri.Tri.{Tri}
use Rattle.deck.specs.CircuitData.{CircuitData}
use Rattle.deck.specs.declared.role.Roles.{Roles}
use Rattle.port_runs.specs.Environment.{Fall, Happens, Move, Moves, Open, Rise, Step, Take, World, after_move, settings_of}
use Rattle.port_runs.specs.declared.clocking.Clocking.{Clocking}
use Rattle.port_runs.specs.Laws.{RunsAreCutAnywhere, RunsStandInOrder}
use Rattle.port_runs.specs.LegalSteps.{ClockedLinks, LeadsIn, MayMoveIn, RestsIn}
use Rattle.port_runs.specs.Moves.{PortValue, set_all}
use Rattle.port_runs.specs.Order.{Allows, Proceeds}
use Rattle.port_runs.specs.PortRuns.{DoesBy, SetsPorts, clocked_ports, power_world}
use Rattle.port_runs.proofs.Order.{bits_taken, stands_after}
use Rattle.port_runs.proofs.Steps.{leads_cut, leads_keep}
use Rattle.event_sim.proofs.PowerState.{power-length}

allows : (k : ClockedLinks) (move : Move) (w : World) → MayMoveIn k move w → Allows k.clocking k.clocks k.pins move w
allows k (Open place) w m = (m.0, m.2)
allows k (Take bits) w m = (m.0, m.2)
allows k Rise w m = m
allows k (Fall i) w m = (m.0, m.2, m.3, m.4, m.5)

-- at rest it is also enough
pub may_move : (k : ClockedLinks) (move : Move) (w : World) → Allows k.clocking k.clocks k.pins move w → RestsIn k.links w
    → MayMoveIn k move w
may_move k (Open place) w a r = (a.0, r, a.1)
may_move k (Take bits) w a r = (a.0, r, a.1)
may_move k Rise w a r = a
may_move k (Fall i) w a r = (a.0, r, a.1, a.2, a.3, a.4)

-- whatever values moves give, their order is this
pub leads_follows : (k : ClockedLinks) (Gives : Move → World → List Tri → Type 0) (steps : List Step) (w w' : World)
    → LeadsIn k Gives steps w w'
    → Proceeds k.clocking k.clocks k.pins steps w w'
leads_follows k Gives [] w w' r = r
leads_follows k Gives (Happens n ∷ steps) w w' r =
    ((r.1).0, leads_follows k Gives steps (record w { values = (r.1).0 }) w' (subst (λ u. LeadsIn k Gives steps u w') (r.1).1 r.2))
leads_follows k Gives (Moves move ∷ steps) w w' r =
    let m = (r.1).1 in (
      m.0,
      allows k move w (r.1).0,
      leads_follows k Gives steps (record (after_move move w) { values = m.0 }) w'
          (subst (λ u. LeadsIn k Gives steps u w') m.1 r.2),
    )

pub length-set_all : (values : List Tri) (settings : List PortValue) → length (set_all values settings) ≡ length values
length-set_all values [] = refl
length-set_all values (s ∷ more) = length-set_all (slice_set values s.port s.value) more ∙ length-set values s.port s.value

-- a step keeps the number of values
step_whole : (clocking : Clocking) (c : CircuitData) (roles : Roles) (n : ℕ) (step : Step) (w w' : World)
    → DoesBy clocking c roles step w w'
    → length w.values ≡ n → length w'.values ≡ n
step_whole clocking c roles n (Happens net) w w' d e =
    ap (λ u. length u.values) d.1 ∙ (ap length (d.2).3 ∙ (length-set w.values net (d.2).0 ∙ e))
step_whole clocking c roles n (Moves move) w w' d e =
    let m = d.1 in ap (λ u. length u.values) m.1 ∙ (ap length m.2 ∙ (length-set_all w.values (settings_of roles move w.risen) ∙ e))

pub runs_stand_in_order : RunsStandInOrder
runs_stand_in_order clocking c roles steps w r =
    let f = leads_follows (clocked_ports clocking c roles) (SetsPorts roles) steps (power_world c roles) w r in
    record {
      stands = stands_after clocking roles.clocks roles.pins [] steps (power_world c roles) w f (refl, refl, refl, refl);
      bits = bits_taken clocking roles.clocks roles.pins steps (power_world c roles) w f;
      whole = λ within.
          leads_keep (clocked_ports clocking c roles) (SetsPorts roles) (λ u. length u.values ≡ length c.nets)
          (step_whole clocking c roles (length c.nets))
          steps (power_world c roles) w r (power-length roles (length c.nets) within);
    }

pub runs_are_cut_anywhere : RunsAreCutAnywhere
runs_are_cut_anywhere clocking c roles steps more w r =
    leads_cut (clocked_ports clocking c roles) (SetsPorts roles) steps more (power_world c roles) w r
