-- An order that is a function chooses one chain and has one settling.
use Rattle.std.proofs.Common.{◌≡◌, ℕ, suc, ◌≤◌, ◌⊎◌, inl, inr, List, [], ◌∷◌, length, get_or, refl, sym, ap, ◌∙◌, subst, arith}
use Rattle.std.specs.List.{slice_get}
use Rattle.std.proofs.lemmas.Option.{slice_get_within, get_or_from_slice_get}
use Rattle.dom_base.specs.declared.tri.Tri.{Tri}
use Rattle.dom_base.specs.declared.tri.Tri.TheVariants.{Unknown}
use Rattle.switch_model.specs.LinksData.{LinksData, is_first}
use Rattle.switch_model.specs.Targets.{EventAt, IsPending, IsTarget}
use Rattle.event_sim.specs.declared.event.Event.{Event}
use Rattle.event_sim.specs.declared.event.Settled.{Settled}
use Rattle.event_sim.specs.declared.event.Settled.TheVariants.{Rest, Unsettled}
use Rattle.event_sim.specs.Chains.{IsChain, IsChosen, changed, next_step, values_after}
use Rattle.event_sim.specs.Orders.{By}
use Rattle.switch_model.specs.Pending.{ArePending, IsPendingNet}
use Rattle.event_sim.specs.Pending.{IsResting}
use Rattle.event_sim.specs.Settling.{IsSettling, most_events}
use Rattle.switch_model.proofs.Targets.{target_unique}
use Rattle.switch_model.proofs.RisingLists.{rising_are_one}

-- there is one list of the pending nets by rising number
pub pending_are_one : (links : LinksData) (values : List Tri) (a b : List ℕ) → ArePending links values a → ArePending links values b → a ≡ b
pending_are_one links values a b pa pb =
    rising_are_one a b pa.rising pb.rising (λ n. (λ at. (pb.exact n).1 ((pa.exact n).0 at), λ at. (pa.exact n).1 ((pb.exact n).0 at)))

-- the net of a chosen event is pending
pub chosen_is_pending : (order : ℕ → ℕ → ℕ → Type 0) (links : LinksData) (values : List Tri) (event : Event)
    → IsChosen order links values event → IsPendingNet links values event.net
chosen_is_pending order links values event chosen =
    (chosen.pending.exact event.net).0
    (chosen.place, slice_get_within chosen.nets chosen.place event.net chosen.net_is, get_or_from_slice_get chosen.nets chosen.place event.net event.net chosen.net_is)

-- no event is chosen at rest
pub none_at_rest : (order : ℕ → ℕ → ℕ → Type 0) (links : LinksData) (values : List Tri) (event : Event)
    → IsResting links values → IsChosen order links values event → ⊥
none_at_rest order links values event rest chosen =
    let at = chosen_is_pending order links values event chosen in
    rest event.net at.1.0 at.0 at.1.1

-- a chosen event is an event
pub chosen_is_event : (order : ℕ → ℕ → ℕ → Type 0) (links : LinksData) (values : List Tri) (event : Event)
    → IsChosen order links values event → EventAt links.devices (is_first links.sources) event.net values (changed values event)
chosen_is_event order links values event chosen =
    let at = chosen_is_pending order links values event chosen in
    let same = target_unique links.devices (is_first links.sources) values event.net at.1.0 event.after at.1.1.1 chosen.after_is in
    (event.after, at.0, subst (λ (v : Tri). IsPending links.devices (is_first links.sources) values event.net v) same at.1.1, refl)

same_event : (a b : Event) → a.step ≡ b.step → a.net ≡ b.net → a.before ≡ b.before → a.after ≡ b.after → a ≡ b
same_event a b s n v w = λ i. record { step = s i; net = n i; before = v i; after = w i }

-- an order that is a function chooses one event
pub event_is_one : (place : ℕ → ℕ → ℕ) (links : LinksData) (values : List Tri) (step : ℕ) (a b : Event)
    → a.step ≡ step → b.step ≡ step → IsChosen (By place) links values a → IsChosen (By place) links values b → a ≡ b
event_is_one place links values step a b at_a at_b x y =
    let nets = pending_are_one links values x.nets y.nets x.pending y.pending in
    let steps : a.step ≡ b.step = at_a ∙ sym at_b in
    let places : x.place ≡ y.place = x.asked ∙ ap (λ (s : ℕ). place s (length x.nets)) steps ∙ ap (λ (l : List ℕ). place b.step (length l)) nets ∙ sym y.asked in
    let got : slice_get x.nets x.place ≡ slice_get y.nets y.place = ap (λ (l : List ℕ). slice_get l x.place) nets ∙ ap (λ (k : ℕ). slice_get y.nets k) places in
    let net : a.net ≡ b.net = let e = sym x.net_is ∙ got ∙ y.net_is in cc in
    let before : a.before ≡ b.before = x.before_is ∙ ap (λ (n : ℕ). get_or values n Unknown) net ∙ sym y.before_is in
    let after : a.after ≡ b.after = target_unique links.devices (is_first links.sources) values b.net a.after b.after
    (subst (λ (n : ℕ). IsTarget links.devices (is_first links.sources) values n a.after) net x.after_is) y.after_is in
    same_event a b steps net before after

-- it chooses one chain of each length
pub chain_is_one : (place : ℕ → ℕ → ℕ) (links : LinksData) (values : List Tri) (step : ℕ) (a b : List Event)
    → IsChain (By place) links values step a → IsChain (By place) links values step b → length a ≡ length b → a ≡ b
chain_is_one place links values step [] [] x y e = refl
chain_is_one place links values step [] (f ∷ b) x y e = absurd (omega (arith, e))
chain_is_one place links values step (d ∷ a) [] x y e = absurd (omega (arith, e))
chain_is_one place links values step (d ∷ a) (f ∷ b) x y e =
    let first = event_is_one place links values step d f x.0 y.0 x.1 y.1 in
    let rest = chain_is_one place links (changed values d) (next_step step) a b x.2
    (subst (λ (g : Event). IsChain (By place) links (changed values g) (next_step step) b) (sym first) y.2) (omega (arith, e)) in
    cc

-- each of two chains ends at rest or is at least as long as the other one
ended_is_one : (place : ℕ → ℕ → ℕ) (links : LinksData) (values : List Tri) (step : ℕ) (a b : List Event)
    → IsChain (By place) links values step a → IsChain (By place) links values step b
    → IsResting links (values_after values a) ⊎ (length b ≤ length a) → IsResting links (values_after values b) ⊎ (length a ≤ length b) → a ≡ b
ended_is_one place links values step [] [] x y p q = refl
ended_is_one place links values step [] (f ∷ b) x y (inl rest) q = absurd (none_at_rest (By place) links values f rest y.1)
ended_is_one place links values step [] (f ∷ b) x y (inr short) q = absurd (omega (arith, short))
ended_is_one place links values step (d ∷ a) [] x y p (inl rest) = absurd (none_at_rest (By place) links values d rest x.1)
ended_is_one place links values step (d ∷ a) [] x y p (inr short) = absurd (omega (arith, short))
ended_is_one place links values step (d ∷ a) (f ∷ b) x y p q =
    let first = event_is_one place links values step d f x.0 y.0 x.1 y.1 in
    let rest = ended_is_one place links (changed values d) (next_step step) a b x.2
    (subst (λ (g : Event). IsChain (By place) links (changed values g) (next_step step) b) (sym first) y.2)
    (shorter (length b) (length a) (IsResting links (values_after (changed values d) a)) p)
    (shorter (length a) (length b) (IsResting links (values_after (changed values d) b))
    (subst (λ (g : Event). IsResting links (values_after (changed values g) b) ⊎ (suc (length a) ≤ suc (length b))) (sym first) q)) in
    cc
  where
    shorter : (m n : ℕ) (P : Type 0) → P ⊎ (suc m ≤ suc n) → P ⊎ (m ≤ n)
    shorter m n P (inl p) = inl p
    shorter m n P (inr le) = inr (omega (arith, le))

-- what a settling has in common: a chain of at most so many events that ends at rest or has as many
record Ends (place : ℕ → ℕ → ℕ) (links : LinksData) (values : List Tri) (step : ℕ) (events : List Event) : Type 0 where
  chain : IsChain (By place) links values step events
  few : length events ≤ most_events links
  last : IsResting links (values_after values events) ⊎ (length events ≡ most_events links)

ends : (place : ℕ → ℕ → ℕ) (links : LinksData) (values : List Tri) (step : ℕ) (events : List Event) (r : Settled)
    → IsSettling (By place) links values step events r → Ends place links values step events
ends place links values step events (Rest k) h = record { chain = h.0.chain; few = h.0.few; last = inl h.0.rest }
ends place links values step events (Unsettled k) h = record { chain = h.0.chain; few = omega (arith, h.0.count); last = inr h.0.count }

-- its events are those of each other one
pub settling_has_one_chain : (place : ℕ → ℕ → ℕ) (links : LinksData) (values : List Tri) (step : ℕ) (a b : List Event) (r s : Settled)
    → IsSettling (By place) links values step a r → IsSettling (By place) links values step b s → a ≡ b
settling_has_one_chain place links values step a b r s x y =
    let p = ends place links values step a r x in
    let q = ends place links values step b s y in
    ended_is_one place links values step a b p.chain q.chain (last p.last q.few) (last q.last p.few)
  where
    last : {P : Type 0} {m n k : ℕ} → P ⊎ (m ≡ k) → n ≤ k → P ⊎ (n ≤ m)
    last (inl p) le = inl p
    last (inr e) le = inr (omega (arith, e, le))

-- its answer is that of each other one
same_answer : (place : ℕ → ℕ → ℕ) (links : LinksData) (values : List Tri) (step : ℕ) (events : List Event) (r s : Settled)
    → IsSettling (By place) links values step events r → IsSettling (By place) links values step events s → r ≡ s
same_answer place links values step events (Rest k) (Rest l) x y = ap Rest (x.1 ∙ sym y.1)
same_answer place links values step events (Rest k) (Unsettled l) x y = absurd (y.0.unrest x.0.rest)
same_answer place links values step events (Unsettled k) (Rest l) x y = absurd (x.0.unrest y.0.rest)
same_answer place links values step events (Unsettled k) (Unsettled l) x y = ap Unsettled (x.1 ∙ sym y.1)

pub settling_is_one : (place : ℕ → ℕ → ℕ) (links : LinksData) (values : List Tri) (step : ℕ) (a b : List Event) (r s : Settled)
    → IsSettling (By place) links values step a r → IsSettling (By place) links values step b s → (a ≡ b) × (r ≡ s)
settling_is_one place links values step a b r s x y =
    let e = settling_has_one_chain place links values step a b r s x y in
    (e, same_answer place links values step a r s x (subst (λ (l : List Event). IsSettling (By place) links values step l s) (sym e) y))
