-- Moves in turn of which one ends unsettled, by recursion over the moves.
use Rattle.std.specs.Prelude.{◌⊎◌}
use Rattle.std.proofs.Common.{ℕ, List, [], ◌∷◌, ◌++◌, sym, subst, inl, inr}
use Rattle.switch_model.specs.LinksData.{LinksData}
use Rattle.port_runs.specs.Moves.{PortValue}
use Rattle.event_sim.specs.declared.event.Event.{Event}
use Rattle.event_sim.specs.Settling.{EndsAtRest, EndsUnsettled}
use Rattle.trace_tool.specs.Courses.{EndsWithin, LeadsTo, State, after, moved}

-- of the moves in turn, each with its settling, one ends unsettled
abbrev pub Fails : (ℕ → ℕ → ℕ → Type 0) → LinksData → State → List (List PortValue) → Type 0
Fails order links t [] = ⊥
Fails order links t (move ∷ moves) =
    ((last : List Event) × EndsUnsettled order links (moved t move).values t.step last)
    ⊎ ((first : List Event) × EndsAtRest order links (moved t move).values t.step first × Fails order links (after (moved t move) first) moves)

fails_from : (order : ℕ → ℕ → ℕ → Type 0) (links : LinksData) (before never : List (List PortValue)) (move : List PortValue) (t state : State) (earlier last : List Event)
    → LeadsTo order links t before earlier state → EndsUnsettled order links (moved state move).values state.step last → Fails order links t (before ++ move ∷ never)
fails_from order links [] never move t state earlier last l u = inl (last, subst (λ x. EndsUnsettled order links (moved x move).values x.step last) l.1 u)
fails_from order links (b ∷ bs) never move t state earlier last l u = inr (l.0, l.3, fails_from order links bs never move (after (moved t b) l.0) state l.1 last l.4 u)

pub fails : (order : ℕ → ℕ → ℕ → Type 0) (links : LinksData) (t : State) (moves : List (List PortValue)) (events last : List Event) (reached : State) → EndsWithin order links t moves events last reached → Fails order links t moves
fails order links t moves events last reached e = subst (Fails order links t) (sym e.moves_are) (fails_from order links e.before e.never e.move t e.state e.earlier last e.leads e.unsettled)
