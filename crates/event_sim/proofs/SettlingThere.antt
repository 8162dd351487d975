-- From each list of values a function that answers below the count has a settling.
use Rattle.std.proofs.Common.{◌≡◌, ℕ, zero, suc, ◌+◌, ◌<◌, ◌≤◌, ◌⊎◌, inl, inr, false, List, [], ◌∷◌, ◌++◌, length, get_or, refl, arith}
use Rattle.std.proofs.lemmas.Bool.{cases_lt}
use Rattle.std.specs.Prelude.{Some, slice_get}
use Rattle.std.proofs.lemmas.Option.{slice_get-get_or}
use Rattle.dom_base.specs.declared.tri.Tri.{Tri}
use Rattle.deck.specs.Switches.{value_of}
use Rattle.dom_base.specs.Decided.{Decided}
use Rattle.dom_base.proofs.Decided.{dec_bool, dec_tri}
use Rattle.switch_model.proofs.Targets.{target_exists}
use Rattle.switch_model.specs.LinksData.{LinksData, is_first}
use Rattle.event_sim.specs.declared.event.Event.{Event}
use Rattle.event_sim.specs.declared.event.Settled.{Settled}
use Rattle.event_sim.specs.declared.event.Settled.TheVariants.{Rest, Unsettled}
use Rattle.event_sim.specs.Chains.{IsChain, IsChosen, changed, next_step, values_after}
use Rattle.event_sim.specs.Laws.{IsBelow, SettlingIsThere}
use Rattle.event_sim.specs.Orders.{By}
use Rattle.switch_model.specs.Pending.{ArePending, IsPendingNet, Targets}
use Rattle.event_sim.specs.Pending.{IsResting}
use Rattle.event_sim.specs.Settling.{IsSettling, most_events}
use Rattle.event_sim.proofs.OneSettling.{none_at_rest}
use Rattle.event_sim.proofs.PendingLists.{IsListed, listed-none, listed-push, listed-skip, listed-all}
use Rattle.event_sim.proofs.StepFacts.{differs_where_pending, pending_at, rests_where_none}

-- whether a net with a value is pending can be decided
pending_is_decided : (links : LinksData) (values : List Tri) (net : ℕ) → net < length values → Decided (IsPendingNet links values net)
pending_is_decided links values net lt = by (dec_bool (is_first links.sources net) false)
  where
    by : Decided (is_first links.sources net ≡ false) → Decided (IsPendingNet links values net)
    by (inr source) = inr (λ at. source at.1.1.0)
    by (inl free) = told (target_exists links.devices (is_first links.sources) values net free)
      where
        told : (v : Tri) × Targets links values net v → Decided (IsPendingNet links values net)
        told t = elim (dec_tri (value_of values net) t.0) [
          | inl same ↦ inr (λ at. differs_where_pending links values net t.0 t.1 at same)
          | inr differs ↦ inl (lt, (t.0, (free, t.1, differs)))
        ]

-- the pending nets below a bound can be listed
listed_below_bound : (links : LinksData) (values : List Tri) (bound : ℕ) → bound ≤ length values
    → (nets : List ℕ) × IsListed (IsPendingNet links values) bound nets
listed_below_bound links values zero le = ([], listed-none (IsPendingNet links values) 0 (λ n lt at. omega (arith, lt)))
listed_below_bound links values (suc bound) le = more (listed_below_bound links values bound (omega (arith, le)))
  where
    one_more : (n : ℕ) → suc n ≡ n + 1
    one_more n = omega arith

    more : (nets : List ℕ) × IsListed (IsPendingNet links values) bound nets → (nets : List ℕ) × IsListed (IsPendingNet links values) (suc bound) nets
    more l = elim (pending_is_decided links values bound (omega (arith, le))) [
      | inl has ↦ (l.0 ++ bound ∷ [], rw (one_more bound) (listed-push (IsPendingNet links values) bound l.0 l.1 has))
      | inr hasnt ↦ (l.0, rw (one_more bound) (listed-skip (IsPendingNet links values) bound l.0 l.1 hasnt))
    ]

-- there is a list of the pending nets
pending_are_there : (links : LinksData) (values : List Tri) → (nets : List ℕ) × ArePending links values nets
pending_are_there links values = whole (listed_below_bound links values (length values) (omega arith))
  where
    whole : (nets : List ℕ) × IsListed (IsPendingNet links values) (length values) nets → (nets : List ℕ) × ArePending links values nets
    whole l =
        let all = listed-all (IsPendingNet links values) (length values) l.0 l.1 (λ n at. at.0) in
        (l.0, record { rising = all.rising; exact = all.exact })

-- the event that a function chooses at a step
abbrev ChosenAt : (ℕ → ℕ → ℕ) → LinksData → List Tri → ℕ → Type 0
ChosenAt place links values step = (event : Event) × (event.step ≡ step) × IsChosen (By place) links values event

chosen_among : (place : ℕ → ℕ → ℕ) (links : LinksData) (values : List Tri) (step : ℕ) (nets : List ℕ) → IsBelow place
    → ArePending links values nets → 1 ≤ length nets → ChosenAt place links values step
chosen_among place links values step nets below pending some =
    let k = place step (length nets) in
    let net = get_or nets k 0 in
    let lt : k < length nets = below step (length nets) some in
    let is : slice_get nets k ≡ Some net = slice_get-get_or nets k 0 lt in
    let at = pending_at links values nets k net pending is in (
      record { step = step; net = net; before = value_of values net; after = at.1.0 },
      refl,
      record {
        nets = nets;
        pending = pending;
        place = k;
        asked = refl;
        net_is = is;
        before_is = refl;
        after_is = at.1.1.1;
      },
    )

-- there is rest, or the function chooses an event
rest_or_event : (place : ℕ → ℕ → ℕ) (links : LinksData) (values : List Tri) (step : ℕ) → IsBelow place
    → IsResting links values ⊎ ChosenAt place links values step
rest_or_event place links values step below = by (pending_are_there links values)
  where
    by : (nets : List ℕ) × ArePending links values nets → IsResting links values ⊎ ChosenAt place links values step
    by p = elim (cases_lt 0 (length p.0)) [
      | inl some ↦ inr (chosen_among place links values step p.0 below p.1 (omega (arith, some)))
      | inr none ↦ inl (rests_where_none links values p.0 p.1 (omega (arith, none)))
    ]

-- chosen events, at most so many, lead to rest
record RestsWithin (place : ℕ → ℕ → ℕ) (links : LinksData) (values : List Tri) (step most : ℕ) : Type 0 where
  events : List Event
  chain : IsChain (By place) links values step events
  few : length events ≤ most
  rest : IsResting links (values_after values events)

-- so many chosen events do not lead to rest
record MovesAfter (place : ℕ → ℕ → ℕ) (links : LinksData) (values : List Tri) (step count : ℕ) : Type 0 where
  events : List Event
  chain : IsChain (By place) links values step events
  number : length events ≡ count
  unrest : IsResting links (values_after values events) → ⊥

-- the same with one chosen event before
after_event : (place : ℕ → ℕ → ℕ) (links : LinksData) (values : List Tri) (step left : ℕ) (chosen : ChosenAt place links values step)
    → RestsWithin place links (changed values chosen.0) (next_step step) left ⊎ MovesAfter place links (changed values chosen.0) (next_step step) left
    → RestsWithin place links values step (suc left) ⊎ MovesAfter place links values step (suc left)
after_event place links values step left chosen (inl r) = inl (
    record { events = chosen.0 ∷ r.events; chain = (chosen.1, chosen.2, r.chain); few = omega (arith, r.few); rest = r.rest }
    )
after_event place links values step left chosen (inr m) = inr (
    record { events = chosen.0 ∷ m.events; chain = (chosen.1, chosen.2, m.chain); number = omega (arith, m.number); unrest = m.unrest }
    )

-- at most so many events lead to rest, or so many do not
rest_or_moves : (place : ℕ → ℕ → ℕ) (links : LinksData) (values : List Tri) (step left : ℕ) → IsBelow place
    → RestsWithin place links values step left ⊎ MovesAfter place links values step left
rest_or_moves place links values step zero below =
    elim (rest_or_event place links values step below) [
      | inl rest ↦ inl (record { events = []; chain = tt; few = omega arith; rest = rest })
      | inr chosen ↦ inr (record { events = []; chain = tt; number = refl; unrest = λ rest. none_at_rest (By place) links values chosen.0 rest chosen.2 })
    ]
rest_or_moves place links values step (suc left) below =
    elim (rest_or_event place links values step below) [
      | inl rest ↦ inl (record { events = []; chain = tt; few = omega arith; rest = rest })
      | inr chosen ↦ after_event place links values step left chosen (rest_or_moves place links (changed values chosen.0) (next_step step) left below)
    ]

-- a settling
pub settling_there : SettlingIsThere
settling_there place links values step below = by (rest_or_moves place links values step (most_events links) below)
  where
    by : RestsWithin place links values step (most_events links) ⊎ MovesAfter place links values step (most_events links)
        → (events : List Event) × ((settled : Settled) × IsSettling (By place) links values step events settled)
    by (inl r) = (r.events, (Rest (length r.events), (record { chain = r.chain; few = r.few; rest = r.rest }, refl)))
    by (inr m) = (m.events, (Unsettled (length m.events), (record { chain = m.chain; count = m.number; unrest = m.unrest }, refl)))
