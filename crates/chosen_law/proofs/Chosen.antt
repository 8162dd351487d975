-- The chosen run of a trace is a legal run of a loose domino deck.
use Rattle.std.proofs.Common.{List, [], ap, arith, inl, inr, refl, subst, suc, sym, ℕ, ◌+◌, ◌-◌, ◌∙◌, ◌∷◌, ◌≡◌}
use Rattle.deck.specs.declared.role.Roles.{Roles}
use Rattle.switch_model.specs.LinksData.{LinksData, links_of}
use Rattle.switch_model.specs.Power.{power_values}
use Rattle.port_runs.specs.Environment.{Evaluation, Move, Open, Released, Step, Take, World, after_move, is_over, none_fallen}
use Rattle.port_runs.specs.LegalSteps.{LeadsIn, RestsIn}
use Rattle.port_runs.specs.Moves.{PortValue}
use Rattle.port_runs.specs.PortRuns.{SetsPorts, power_world}
use Rattle.domino_law.specs.Nets.{Net}
use Rattle.domino_law.specs.Runs.{Run, clocked_deck}
use Rattle.domino_law.specs.Settings.{HasPorts}
use Rattle.domino_law.specs.Shape.{Shape}
use Rattle.domino_law.proofs.PortRunLaws.{IsSet, power_set, set_run}
use Rattle.event_sim.specs.declared.event.Event.{Event}
use Rattle.event_sim.specs.Orders.{By}
use Rattle.trace_tool.specs.Courses.{LeadsTo, State}
use Rattle.trace_tool.specs.Moves.{latching_moves}
use Rattle.trace_tool.proofs.CycleMoves.{evaluation_allowed, evaluation_is, from_reading, latching_allowed, release_allowed, rises_end, to_reading}
use Rattle.trace_tool.proofs.PortWalks.{AreAllowed, after_moves, at_values, settings_from, settled_walk, walk}
use Rattle.chosen_law.specs.Chosen.{EvaluationIsLegal, IsSettled, LatchingIsLegal, PowerIsLegal, at_reading}

module _ (roles : Roles) (links : LinksData) (net : Net → ℕ) (s : Shape) (ports : HasPorts roles links net s) where
  pub set_of : (w : World) → IsSettled links net s w → IsSet roles links net s ports w
  set_of w f = record { whole = f.whole; sources = f.sources; first = f.early }

  -- a run whose moves set ports and that comes to rest is one of the deck to a settled world
  pub settles : (steps : List Step) (w u : World) → LeadsIn (clocked_deck links s) (SetsPorts roles) steps w u → RestsIn links u
      → IsSet roles links net s ports w
      → Run links net s steps w u × IsSettled links net s u
  settles steps w u r rest h =
      let q = set_run roles links net s ports steps w u r h in
      (q.0, record { rests = rest; whole = (q.1).whole; sources = (q.1).sources; early = (q.1).first })

  -- moves in turn, each with its settling
  pub walked : (order : ℕ → ℕ → ℕ → Type 0) (moves : List Move) (w : World) (step : ℕ) (settings : List (List PortValue))
      (events : List Event) (t : State)
      → AreAllowed (clocked_deck links s) moves w → settings_from roles moves w ≡ settings → IsSettled links net s w
      → LeadsTo order links (record { values = w.values; step = step }) settings events t
      → (steps : List Step) × Run links net s steps w (at_values (after_moves moves w) t.values) × IsSettled links net s
      (at_values (after_moves moves w) t.values)
  walked order moves w step settings events t allowed are f l =
      let r = walk order (clocked_deck links s) roles moves w w.values step events t allowed f.rests
      (subst (λ m. LeadsTo order links (record { values = w.values; step = step }) m events t) (sym are) l) in
      let q = settles r.0 w (at_values (after_moves moves w) t.values) r.1 r.2 (set_of w f) in
      (r.0, q.0, q.1)

pub evaluation_is_legal : EvaluationIsLegal
evaluation_is_legal place roles links net s pins events w step read ports ready long l =
    let more : ℕ = roles.clocks - 1 in
    let clocks : roles.clocks ≡ suc (roles.clocks - 1) = omega (arith, ports.some_clock) in
    let count : 1 + (roles.clocks - 1) ≡ s.clocks = omega (arith, ports.some_clock, ports.clocks_are) in
    let r = walked roles links net s ports (By place) (to_reading pins more) w step _ events read
    (evaluation_allowed (clocked_deck links s) pins more w (ports.clocks_are ∙ clocks) ready.place long)
    (evaluation_is roles pins more w clocks) ready.settled l in
    let end : at_values (after_moves (to_reading pins more) w) read.values
    ≡ at_reading s none_fallen (is_over w.place w.past w.pins) pins read =
    ap (λ u. at_values u read.values) (rises_end more (after_move (Open Evaluation) (after_move (Take pins) w)))
    ∙ ap (λ n. record { place = Evaluation; risen = n; fallen = none_fallen; past = is_over w.place w.past w.pins; pins = pins; values = read.values }) count in
    (r.0, subst (Run links net s r.0 w) end r.1, subst (IsSettled links net s) end r.2)

pub latching_is_legal : LatchingIsLegal
latching_is_legal place roles links net s events w step last ports at all settled l =
    let r = walked roles links net s ports (By place) from_reading w step (latching_moves roles) events last
    (latching_allowed (clocked_deck links s) w at all) refl settled l in
    (r.0, r.1, record { place = inr refl; settled = r.2 })

pub power_is_legal : PowerIsLegal
power_is_legal place c roles net s events start ports l =
    let w : World = power_world c roles in
    let r = settled_walk (By place) (clocked_deck (links_of c roles) s) roles (Open Released ∷ []) w (power_values c roles) 0 events start
    (release_allowed (clocked_deck (links_of c roles) s) w refl) l in
    let q = settles roles (links_of c roles) net s ports r.0 w _ r.1 r.2 (power_set c roles net s ports) in
    (r.0, q.0, record { place = inl refl; settled = q.1 })
