-- What a search for components keeps where the last stretch of the path becomes a component.
use Rattle.std.proofs.Common.{◌≡◌, ℕ, ◌<◌, ◌≤◌, ◌⊎◌, inl, inr, Option, List, [], ◌∷◌, ◌++◌, length, drop, Some, None, refl, ap, sym, ◌∙◌, subst, arith}
use Rattle.std.specs.Prelude.{Contains, slice_get}
use Rattle.std.proofs.lemmas.Bool.{cases_lt}
use Rattle.std.proofs.lemmas.List.Elements.{Contains-append_left, Contains-append_right}
use Rattle.std.proofs.lemmas.Option.{slice_get_within}
use Rattle.dom_base.proofs.Lists.{Contains-first, slice_get-append, slice_get-contained, slice_get-push}
use Rattle.graph_order.proofs.ComponentSteps.{all_looked, at_top, lower, reach_top}
use Rattle.graph_order.proofs.Joined.{joined_both, joined_forth, joined_back}
use Rattle.graph_order.proofs.Lists.{take_get}
use Rattle.graph_order.proofs.Placed.{all_within-here, all_within-length, all_within-other, behind, contains_push, from_behind, in_front, one_at}
use Rattle.graph_order.specs.declared.components.Place.{Place}
use Rattle.graph_order.specs.declared.components.Place.TheVariants.{New, OnPath, Within}
use Rattle.graph_order.specs.declared.components.Stop.{Stop}
use Rattle.graph_order.specs.Components.{IsJoined}
use Rattle.graph_order.specs.ComponentSearches.{ComponentData, IsLookedAt, IsOrLeads, IsSoundPath, IsInComponent, IsInComponentOrFrom, with_component, with_starts, with_stop}
use Rattle.graph_order.specs.Orders.{LeadsOn, more, step, successors}

one_place : {a b : ℕ} → Some (OnPath a) ≡ Some (OnPath b) → a ≡ b
one_place e = cc

one_name : {a b : ℕ} → Some (Within a) ≡ Some (Within b) → a ≡ b
one_name e = cc

path_or_within : {a b : ℕ} → Some (OnPath a) ≡ Some (Within b) → ⊥
path_or_within e = absurd cc

module _ (nodes : List (List ℕ)) (w : ComponentData) (f : Stop) (sound : IsSoundPath nodes (with_stop w f))
    (none : slice_get (successors nodes f.node) f.next ≡ None) (starts : List ℕ) (split : w.starts ≡ starts ++ f.place ∷ []) where
  abbrev after : ComponentData
  after = with_component (with_starts w starts) f.node f.place

  -- the nodes of the last stretch
  abbrev IsInStretch : ℕ → Type 0
  IsInStretch x = (p : ℕ) × (f.place ≤ p) × (slice_get w.path p ≡ Some x)

  now : (x : ℕ) → IsInStretch x → slice_get after.places x ≡ Some (Within f.node)
  now x (p, l, at) = all_within-here w.places (drop f.place w.path) f.node x (behind w.path f.place p x l at)
      (slice_get_within w.places x (OnPath p) (sound.on_path p x at))

  at_old : (x : ℕ) → IsInStretch x ⊎ (slice_get after.places x ≡ slice_get w.places x)
  at_old x = by (slice_get w.places x) refl
    where
      other : ((p : ℕ) → f.place ≤ p → slice_get w.path p ≡ Some x → ⊥) → slice_get after.places x ≡ slice_get w.places x
      other out = all_within-other w.places (drop f.place w.path) f.node x (λ c. let h = from_behind w.path f.place x c in out h.0 h.1 h.2)

      by : (o : Option Place) → slice_get w.places x ≡ o → IsInStretch x ⊎ (slice_get after.places x ≡ slice_get w.places x)
      by None e = inr (other (λ p l at. let z = sym (sound.on_path p x at) ∙ e in absurd cc))
      by (Some New) e = inr (other (λ p l at. let z = sym (sound.on_path p x at) ∙ e in absurd cc))
      by (Some (Within r)) e = inr (other (λ p l at. path_or_within (sym (sound.on_path p x at) ∙ e)))
      by (Some (OnPath q)) e = elim (cases_lt q f.place) [
        | inl less ↦ inr (other (λ p l at. omega (arith, less, l, one_place (sym (sound.on_path p x at) ∙ e))))
        | inr past ↦ inl (q, past, sound.at_place q x e)
      ]

  out : (x p : ℕ) → p < f.place → slice_get w.path p ≡ Some x → slice_get after.places x ≡ Some (OnPath p)
  out x p less at = elim (at_old x) [
    | inl g ↦ absurd (omega (arith, less, g.1, one_place (sym (sound.on_path p x at) ∙ sound.on_path g.0 x g.2)))
    | inr same ↦ same ∙ sound.on_path p x at
  ]

  on_path : (p x : ℕ) → slice_get after.path p ≡ Some x → slice_get after.places x ≡ Some (OnPath p)
  on_path p x e = let k = take_get w.path f.place p x e in out x p k.0 k.1

  at_place : (p x : ℕ) → slice_get after.places x ≡ Some (OnPath p) → slice_get after.path p ≡ Some x
  at_place p x e = elim (at_old x) [
    | inl g ↦ absurd (path_or_within (sym e ∙ now x g))
    | inr same ↦ (
        let at = sound.at_place p x (sym same ∙ e) in elim (cases_lt p f.place) [
          | inl less ↦ in_front w.path f.place p x less at
          | inr past ↦ absurd (path_or_within (sym e ∙ now x (p, past, at)))
        ]
        )
  ]

  start_there : Contains w.starts f.place
  start_there = subst (λ l. Contains l f.place) (sym split)
      (Contains-append_right starts (f.place ∷ []) f.place (Contains-first f.place []))

  among : (p : ℕ) → Contains starts p → Contains w.starts p
  among p c = subst (λ l. Contains l p) (sym split) (Contains-append_left starts (f.place ∷ []) p c)

  start_at : (i p : ℕ) → slice_get starts i ≡ Some p → slice_get w.starts i ≡ Some p
  start_at i p e = subst (λ l. slice_get l i ≡ Some p) (sym split) (slice_get-append starts (f.place ∷ []) i p e)

  start_before : (p : ℕ) → Contains starts p → p < f.place
  start_before p c =
      let i = slice_get-contained starts p c in
      sound.rising i.0 (length starts) p f.place (slice_get_within starts i.0 p i.1) (start_at i.0 p i.1)
      (subst (λ l. slice_get l (length starts) ≡ Some f.place) (sym split) (slice_get-push starts f.place))

  back : (q b : ℕ) → slice_get after.path q ≡ Some b
      → (p : ℕ) × (a : ℕ) × Contains starts p × (p ≤ q) × (slice_get after.path p ≡ Some a) × IsOrLeads nodes b a
  back q b e =
      let at = take_get w.path f.place q b e in
      let k = sound.back q b at.1 in elim (contains_push starts f.place k.0 (subst (λ l. Contains l k.0) split k.2)) [
        | inl c ↦ (k.0, k.1, c, k.3, in_front w.path f.place k.0 k.1 (omega (arith, k.3, at.0)) k.4, k.5)
        | inr is ↦ absurd (omega (arith, is, k.3, at.0))
      ]

  started : (p : ℕ) → Contains starts p → (g : Stop) × Contains w.stops g × (g.place ≡ p)
  started p c = let g = sound.started p (among p c) in elim (contains_push w.stops f g.0 g.1) [
    | inl h ↦ (g.0, h, g.2)
    | inr is ↦ absurd (omega (arith, start_before p c, ap (λ (x : Stop). x.place) is, g.2))
  ]

  stopped : (g : Stop) → Contains w.stops g → (slice_get after.path g.place ≡ Some g.node) × (g.next ≤ length (successors nodes g.node))
  stopped g c = let k = sound.stopped g (Contains-append_left w.stops (f ∷ []) g c) in
      (in_front w.path f.place g.place g.node (lower nodes w f sound g c) k.0, k.1)

  -- the node of a stop is that of its place
  stop_at : (g : Stop) (p x : ℕ) → Contains w.stops g → g.node ≡ x → slice_get w.path p ≡ Some x → g.place ≡ p
  stop_at g p x c e at =
      let k = sound.stopped g (Contains-append_left w.stops (f ∷ []) g c) in
      one_place (sym (sound.on_path g.place g.node k.0) ∙ ap (slice_get w.places) e ∙ sound.on_path p x at)

  within_now : (x : ℕ) → IsInComponent w.places x → IsInComponent after.places x
  within_now x (r, e) = elim (at_old x) [ inl g ↦ (f.node, now x g) | inr same ↦ (r, same ∙ e) ]

  within_still : (x r : ℕ) → slice_get w.places x ≡ Some (Within r) → slice_get after.places x ≡ Some (Within r)
  within_still x r e = elim (at_old x) [ inl g ↦ absurd (path_or_within (sym (sound.on_path g.0 x g.2) ∙ e)) | inr same ↦ same ∙ e ]

  looked : (p start i a b : ℕ) → slice_get after.path p ≡ Some a → slice_get (successors nodes a) i ≡ Some b
      → IsLookedAt w.stops a i → Contains starts start → start ≤ p → IsInComponentOrFrom after.places start b
  looked p start i a b e n h c l = by (sound.looked p start i a b at.1 n (all_looked nodes w f sound none a i b n h) (among start c) l)
    where
      at : (p < f.place) × (slice_get w.path p ≡ Some a)
      at = take_get w.path f.place p a e

      by : IsInComponentOrFrom w.places start b → IsInComponentOrFrom after.places start b
      by (inl k) = inl (within_now b k)
      by (inr (q, m, k)) = elim (cases_lt q f.place) [
        | inl less ↦ inr (q, m, out b q less (sound.at_place q b k))
        | inr past ↦ inl (f.node, now b (q, past, sound.at_place q b k))
      ]

  -- the stretch leads to components only
  stretch_closed : (a b : ℕ) → IsInStretch a → Contains (successors nodes a) b → IsInComponent after.places b
  stretch_closed a b (p, l, at) n = by
      (sound.looked p f.place i.0 a b at i.1 (all_looked nodes w f sound none a i.0 b i.1 nowhere) start_there l)
    where
      i : (k : ℕ) × (slice_get (successors nodes a) k ≡ Some b)
      i = slice_get-contained (successors nodes a) b n

      nowhere : IsLookedAt w.stops a i.0
      nowhere g c e = absurd (omega (arith, l, lower nodes w f sound g c, stop_at g p a c e at))

      by : IsInComponentOrFrom w.places f.place b → IsInComponent after.places b
      by (inl k) = within_now b k
      by (inr (q, m, k)) = (f.node, now b (q, m, sound.at_place q b k))

  closed : (a b : ℕ) → IsInComponent after.places a → Contains (successors nodes a) b → IsInComponent after.places b
  closed a b (r, e) n = elim (at_old a) [
    | inl g ↦ stretch_closed a b g n
    | inr same ↦ within_now b (sound.closed a b (r, sym same ∙ e) n)
  ]

  led_within : {a b : ℕ} → IsInComponent after.places a → LeadsOn nodes a b → IsInComponent after.places b
  led_within h (step {a} {b} n) = closed a b h n
  led_within h (more {a} {b} n rest) = led_within (closed a b h n) rest

  or_led_within : {a b : ℕ} → IsInComponent after.places a → IsOrLeads nodes a b → IsInComponent after.places b
  or_led_within h (inl is) = subst (IsInComponent after.places) is h
  or_led_within h (inr l) = led_within h l

  whole : (a first : ℕ) → slice_get after.places a ≡ Some (Within first)
      → IsJoined nodes a first × ((b : ℕ) → IsJoined nodes a b → slice_get after.places b ≡ Some (Within first))
  whole a first e = by (at_old a)
    where
      by : IsInStretch a ⊎ (slice_get after.places a ≡ slice_get w.places a)
          → IsJoined nodes a first × ((b : ℕ) → IsJoined nodes a b → slice_get after.places b ≡ Some (Within first))
      by (inr same) = let k = sound.whole a first (sym same ∙ e) in (k.0, λ b j. within_still b first (k.1 b j))
      by (inl (p, l, at)) = (subst (IsJoined nodes a) name (joined_both (reach_top nodes w f sound p a at) forth), all)
        where
          name : f.node ≡ first
          name = one_name (sym (now a (p, l, at)) ∙ e)

          forth : IsOrLeads nodes f.node a
          forth = elim (cases_lt f.place p) [
            | inl less ↦ inr (sound.forward f.place p f.node a less (at_top nodes w f sound) at)
            | inr past ↦ inl (one_at w.path f.place p f.node a (at_top nodes w f sound) at (omega (arith, l, past)))
          ]

          all : (b : ℕ) → IsJoined nodes a b → slice_get after.places b ≡ Some (Within first)
          all b j = elim (at_old b) [
            | inl g ↦ now b g ∙ ap (λ n. Some (Within n)) name
            | inr same ↦ (
                let r = or_led_within (f.node, now a (p, l, at)) (joined_forth j) in
                let k = sound.whole b r.0 (sym same ∙ r.1) in
                absurd (path_or_within (sym (sound.on_path p a at) ∙ k.1 a (joined_both (joined_back j) (joined_forth j))))
                )
          ]

  pub component_sound : IsSoundPath nodes after
  component_sound = record {
    count = all_within-length w.places (drop f.place w.path) f.node ∙ sound.count;
    on_path = on_path;
    at_place = at_place;
    forward = λ p q a b l e k. sound.forward p q a b l (take_get w.path f.place p a e).1 (take_get w.path f.place q b k).1;
    back = back;
    started = started;
    rising = λ i j p q l e k. sound.rising i j p q l (start_at i p e) (start_at j q k);
    stopped = stopped;
    deeper = λ i j g h l m n. sound.deeper i j g h l (slice_get-append w.stops (f ∷ []) i g m) (slice_get-append w.stops (f ∷ []) j h n);
    looked = looked;
    closed = closed;
    whole = whole;
  }
