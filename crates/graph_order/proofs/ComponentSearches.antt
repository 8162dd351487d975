-- What each step of a search for components keeps.
use Rattle.std.proofs.Common.{◌≡◌, ℕ, ◌<◌, ◌≤◌, ◌⊎◌, inl, inr, List, [], ◌∷◌, ◌++◌, length, Some, ap, sym, ◌∙◌, subst, arith}
use Rattle.std.specs.Prelude.{Contains, slice_get}
use Rattle.std.proofs.lemmas.List.{length-set}
use Rattle.std.proofs.lemmas.List.Elements.{Contains-append_left, Contains-append_right}
use Rattle.std.proofs.lemmas.Option.{slice_get_within}
use Rattle.dom_base.proofs.Lists.{Contains-first, Contains-slice_get, slice_get-append, slice_get-set_other, slice_get-push, slice_get-push_cases}
use Rattle.graph_order.proofs.Lists.{get_set}
use Rattle.graph_order.proofs.Placed.{contains_push, set_here}
use Rattle.graph_order.specs.declared.components.Place.{Place}
use Rattle.graph_order.specs.declared.components.Place.TheVariants.{New, OnPath, Within}
use Rattle.graph_order.specs.declared.components.Stop.{Stop}
use Rattle.graph_order.specs.ComponentSearches.{ComponentData, IsLookedAt, IsOrLeads, IsSoundPath, IsInComponentOrFrom, with_entered}
use Rattle.graph_order.specs.Orders.{LeadsOn, successors}

path_at : (p q : ℕ) → OnPath p ≡ OnPath q → p ≡ q
path_at p q e = cc

module _ (nodes : List (List ℕ)) where
  -- a node that wasn't met is put at the end of the path; all on the path lead to it, and what was looked at is as the stretches
  -- want it, or this node
  module _ (s : ComponentData) (sound : IsSoundPath nodes s) (stops : List Stop) (child : ℕ)
      (fresh : slice_get s.places child ≡ Some New) where
    abbrev entered : ComponentData
    entered = with_entered (record { places = s.places; path = s.path; starts = s.starts; stops = stops }) child

    abbrev new_stop : Stop
    new_stop = record { node = child; place = length s.path; next = 0 }

    apart : (x : ℕ) (q : Place) → slice_get s.places x ≡ Some q → (q ≡ New → ⊥) → x ≡ child → ⊥
    apart x q e other is = other (one_place (sym e ∙ ap (slice_get s.places) is ∙ fresh))
      where
        one_place : {a b : Place} → Some a ≡ Some b → a ≡ b
        one_place e = cc

    still : (x : ℕ) (q : Place) → slice_get s.places x ≡ Some q → (q ≡ New → ⊥) → slice_get entered.places x ≡ Some q
    still x q e other = slice_get-set_other s.places child x (OnPath (length s.path)) (apart x q e other) ∙ e

    was_within : (x : ℕ) (first : ℕ) → slice_get entered.places x ≡ Some (Within first) → slice_get s.places x ≡ Some (Within first)
    was_within x first e = elim (get_set s.places child x (OnPath (length s.path)) (Within first) e) [
      | inl h ↦ absurd (let z : OnPath (length s.path) ≡ Within first = h.1 in cc)
      | inr h ↦ h.1
    ]

    child_at : slice_get entered.places child ≡ Some (OnPath (length s.path))
    child_at = set_here s.places child (OnPath (length s.path)) (slice_get_within s.places child New fresh)

    on_path : (p x : ℕ) → slice_get entered.path p ≡ Some x → slice_get entered.places x ≡ Some (OnPath p)
    on_path p x e = elim (slice_get-push_cases s.path child p x e) [
      | inl h ↦ still x (OnPath p) (sound.on_path p x h) (λ z. absurd cc)
      | inr h ↦ subst (λ y. slice_get entered.places y ≡ Some (OnPath p)) h.1 (child_at ∙ ap (λ n. Some (OnPath n)) (sym h.0))
    ]

    at_place : (p x : ℕ) → slice_get entered.places x ≡ Some (OnPath p) → slice_get entered.path p ≡ Some x
    at_place p x e = elim (get_set s.places child x (OnPath (length s.path)) (OnPath p) e) [
      | inl h ↦ (
          let is : length s.path ≡ p = path_at (length s.path) p h.1 in
          subst (λ n. slice_get (s.path ++ child ∷ []) n ≡ Some x) is (slice_get-push s.path child ∙ ap Some (sym h.0))
          )
      | inr h ↦ slice_get-append s.path (child ∷ []) p x (sound.at_place p x h.1)
    ]

    module _ (reach : (q b : ℕ) → slice_get s.path q ≡ Some b → LeadsOn nodes b child)
        (started : (p : ℕ) → Contains s.starts p → (f : Stop) × Contains stops f × (f.place ≡ p))
        (stopped : (f : Stop) → Contains stops f → (slice_get s.path f.place ≡ Some f.node) × (f.next ≤ length (successors nodes f.node)))
        (deeper : (i j : ℕ) (f g : Stop) → i < j → slice_get stops i ≡ Some f → slice_get stops j ≡ Some g → f.place < g.place)
        (looked : (p start i a b : ℕ) → slice_get s.path p ≡ Some a → slice_get (successors nodes a) i ≡ Some b
        → IsLookedAt stops a i → Contains s.starts start → start ≤ p → IsInComponentOrFrom s.places start b ⊎ (b ≡ child)) where
      forward : (p q a b : ℕ) → p < q → slice_get entered.path p ≡ Some a → slice_get entered.path q ≡ Some b → LeadsOn nodes a b
      forward p q a b l e f = by (slice_get-push_cases s.path child p a e) (slice_get-push_cases s.path child q b f)
        where
          by : (slice_get s.path p ≡ Some a) ⊎ ((p ≡ length s.path) × (child ≡ a))
              → (slice_get s.path q ≡ Some b) ⊎ ((q ≡ length s.path) × (child ≡ b)) → LeadsOn nodes a b
          by (inl h) (inl k) = sound.forward p q a b l h k
          by (inl h) (inr k) = subst (LeadsOn nodes a) k.1 (reach p a h)
          by (inr h) (inl k) = absurd (omega (arith, l, h.0, slice_get_within s.path q b k))
          by (inr h) (inr k) = absurd (omega (arith, l, h.0, k.0))

      back : (q b : ℕ) → slice_get entered.path q ≡ Some b
          → (p : ℕ) × (a : ℕ) × Contains entered.starts p × (p ≤ q) × (slice_get entered.path p ≡ Some a) × IsOrLeads nodes b a
      back q b e = elim (slice_get-push_cases s.path child q b e) [
        | inl h ↦ (
            let k = sound.back q b h in
            let there = slice_get-append s.path (child ∷ []) k.0 k.1 k.4 in
            (k.0, k.1, Contains-append_left s.starts (length s.path ∷ []) k.0 k.2, k.3, there, k.5)
            )
        | inr h ↦ (
          length s.path,
          child,
          Contains-append_right s.starts (length s.path ∷ []) (length s.path) (Contains-first (length s.path) []),
          omega (arith, h.0),
          slice_get-push s.path child,
          inl (sym h.1),
        )
      ]

      start_below : (p : ℕ) → Contains s.starts p → p < length s.path
      start_below p c = let f = started p c in subst (λ n. n < length s.path) f.2
          (slice_get_within s.path f.0.place f.0.node (stopped f.0 f.1).0)

      rising : (i j p q : ℕ) → i < j → slice_get entered.starts i ≡ Some p → slice_get entered.starts j ≡ Some q → p < q
      rising i j p q l e f = by (slice_get-push_cases s.starts (length s.path) i p e) (slice_get-push_cases s.starts (length s.path) j q f)
        where
          by : (slice_get s.starts i ≡ Some p) ⊎ ((i ≡ length s.starts) × (length s.path ≡ p))
              → (slice_get s.starts j ≡ Some q) ⊎ ((j ≡ length s.starts) × (length s.path ≡ q)) → p < q
          by (inl h) (inl k) = sound.rising i j p q l h k
          by (inl h) (inr k) = omega (arith, start_below p (Contains-slice_get s.starts i p h), k.1)
          by (inr h) (inl k) = absurd (omega (arith, l, h.0, slice_get_within s.starts j q k))
          by (inr h) (inr k) = absurd (omega (arith, l, h.0, k.0))

      all_started : (p : ℕ) → Contains entered.starts p → (f : Stop) × Contains entered.stops f × (f.place ≡ p)
      all_started p c = elim (contains_push s.starts (length s.path) p c) [
        | inl h ↦ let f = started p h in (f.0, Contains-append_left stops (new_stop ∷ []) f.0 f.1, f.2)
        | inr is ↦ (new_stop, Contains-append_right stops (new_stop ∷ []) new_stop (Contains-first new_stop []), is)
      ]

      all_stopped : (f : Stop) → Contains entered.stops f
          → (slice_get entered.path f.place ≡ Some f.node) × (f.next ≤ length (successors nodes f.node))
      all_stopped f c = elim (contains_push stops new_stop f c) [
        | inl h ↦ let k = stopped f h in (slice_get-append s.path (child ∷ []) f.place f.node k.0, k.1)
        | inr is ↦ subst (λ (g : Stop). (slice_get entered.path g.place ≡ Some g.node) × (g.next ≤ length (successors nodes g.node))) is
            (slice_get-push s.path child, omega arith)
      ]

      all_deeper : (i j : ℕ) (f g : Stop) → i < j → slice_get entered.stops i ≡ Some f → slice_get entered.stops j ≡ Some g
          → f.place < g.place
      all_deeper i j f g l e k = by (slice_get-push_cases stops new_stop i f e) (slice_get-push_cases stops new_stop j g k)
        where
          by : (slice_get stops i ≡ Some f) ⊎ ((i ≡ length stops) × (new_stop ≡ f))
              → (slice_get stops j ≡ Some g) ⊎ ((j ≡ length stops) × (new_stop ≡ g)) → f.place < g.place
          by (inl h) (inl m) = deeper i j f g l h m
          by (inl h) (inr m) =
              let below = slice_get_within s.path f.place f.node (stopped f (Contains-slice_get stops i f h)).0 in
              subst (λ (x : Stop). f.place < x.place) m.1 below
          by (inr h) (inl m) = absurd (omega (arith, l, h.0, slice_get_within stops j g m))
          by (inr h) (inr m) = absurd (omega (arith, l, h.0, m.0))

      all_looked : (p start i a b : ℕ) → slice_get entered.path p ≡ Some a → slice_get (successors nodes a) i ≡ Some b
          → IsLookedAt entered.stops a i → Contains entered.starts start → start ≤ p → IsInComponentOrFrom entered.places start b
      all_looked p start i a b e n h c l = by (slice_get-push_cases s.path child p a e) (contains_push s.starts (length s.path) start c)
        where
          found : IsInComponentOrFrom s.places start b ⊎ (b ≡ child) → start ≤ length s.path → IsInComponentOrFrom entered.places start b
          found (inl (inl w)) below = inl (w.0, still b (Within w.0) w.1 (λ z. absurd cc))
          found (inl (inr w)) below = inr (w.0, w.1, still b (OnPath w.0) w.2 (λ z. absurd cc))
          found (inr is) below = inr
              (length s.path, below, subst (λ y. slice_get entered.places y ≡ Some (OnPath (length s.path))) (sym is) child_at)

          by : (slice_get s.path p ≡ Some a) ⊎ ((p ≡ length s.path) × (child ≡ a)) → Contains s.starts start ⊎ (length s.path ≡ start)
              → IsInComponentOrFrom entered.places start b
          by (inl k) (inl m) =
              found (looked p start i a b k n (λ f d same. h f (Contains-append_left stops (new_stop ∷ []) f d) same) m l)
              (omega (arith, start_below start m))
          by (inl k) (inr is) = absurd (omega (arith, l, is, slice_get_within s.path p a k))
          by (inr k) m = absurd
              (omega (arith, h new_stop (Contains-append_right stops (new_stop ∷ []) new_stop (Contains-first new_stop [])) k.1))

      pub entered_sound : IsSoundPath nodes entered
      entered_sound = record {
        count = length-set s.places child (OnPath (length s.path)) ∙ sound.count;
        on_path = on_path;
        at_place = at_place;
        forward = forward;
        back = back;
        started = all_started;
        rising = rising;
        stopped = all_stopped;
        deeper = all_deeper;
        looked = all_looked;
        closed = λ a b w n. (
            let k = sound.closed a b (w.0, was_within a w.0 w.1) n in
            (k.0, still b (Within k.0) k.1 (λ z. absurd cc))
            );
        whole = λ a first e. (
            let k = sound.whole a first (was_within a first e) in
            (k.0, λ b j. still b (Within first) (k.1 b j) (λ z. absurd cc))
            );
      }
