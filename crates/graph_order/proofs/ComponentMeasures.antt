-- Each step of a search for components leaves fewer steps, and keeps what was met.
use Rattle.std.proofs.Common.{◌≡◌, ℕ, zero, suc, ◌<◌, ◌≤◌, ◌+◌, ◌-◌, inl, inr, List, [], ◌∷◌, ◌++◌, length, drop, set, Some, None, sym, subst, arith}
use Rattle.std.specs.Prelude.{slice_get}
use Rattle.std.proofs.lemmas.List.Elements.{Contains-append_right}
use Rattle.std.proofs.lemmas.Option.{slice_get_within}
use Rattle.dom_base.proofs.Lists.{Contains-first}
use Rattle.graph_order.proofs.ComponentClosings.{component_sound}
use Rattle.graph_order.proofs.ComponentSteps.{inner_sound, joined_sound, new_sound, within_sound}
use Rattle.graph_order.proofs.Lists.{get_set}
use Rattle.graph_order.specs.declared.components.Place.{Place}
use Rattle.graph_order.specs.declared.components.Place.TheVariants.{New, OnPath, Within}
use Rattle.graph_order.specs.declared.components.Stop.{Stop}
use Rattle.graph_order.specs.ComponentSearches.{ComponentData, HasGoneOn, IsJoinedFrom, IsSoundPath, all_within, looked_further, new_steps, stop_steps, with_component, with_entered, with_starts, with_stop}
use Rattle.graph_order.specs.Orders.{successors}

stop_steps-push : (nodes : List (List ℕ)) (fs : List Stop) (f : Stop)
    → stop_steps nodes (fs ++ f ∷ []) ≡ stop_steps nodes fs + (length (successors nodes f.node) + 1 - f.next)
stop_steps-push nodes [] f = omega arith
stop_steps-push nodes (g ∷ fs) f = omega (arith, stop_steps-push nodes fs f)

new_steps-within : (places : List Place) (all : List (List ℕ)) (k first : ℕ)
    → new_steps (set places k (Within first)) all ≤ new_steps places all
new_steps-within [] all k first = omega arith
new_steps-within (New ∷ places) [] zero first = omega arith
new_steps-within (OnPath p ∷ places) [] zero first = omega arith
new_steps-within (Within r ∷ places) [] zero first = omega arith
new_steps-within (New ∷ places) (n ∷ all) zero first = omega arith
new_steps-within (OnPath p ∷ places) (n ∷ all) zero first = omega arith
new_steps-within (Within r ∷ places) (n ∷ all) zero first = omega arith
new_steps-within (New ∷ places) [] (suc k) first = omega arith
new_steps-within (OnPath p ∷ places) [] (suc k) first = omega arith
new_steps-within (Within r ∷ places) [] (suc k) first = omega arith
new_steps-within (New ∷ places) (n ∷ all) (suc k) first = omega (arith, new_steps-within places all k first)
new_steps-within (OnPath p ∷ places) (n ∷ all) (suc k) first = new_steps-within places all k first
new_steps-within (Within r ∷ places) (n ∷ all) (suc k) first = new_steps-within places all k first

new_steps-all_within : (places : List Place) (all : List (List ℕ)) (group : List ℕ) (first : ℕ)
    → new_steps (all_within places group first) all ≤ new_steps places all
new_steps-all_within places all [] first = omega arith
new_steps-all_within places all (n ∷ group) first = omega
    (arith, new_steps-all_within (set places n (Within first)) all group first, new_steps-within places all n first)

new_steps-entered : (places : List Place) (all : List (List ℕ)) (k p : ℕ) → length places ≡ length all → slice_get places k ≡ Some New
    → new_steps (set places k (OnPath p)) all + (length (successors all k) + 2) ≡ new_steps places all
new_steps-entered [] all k p same e = absurd cc
new_steps-entered (m ∷ places) [] k p same e = absurd (omega (arith, same))
new_steps-entered (New ∷ places) (n ∷ all) zero p same e = omega arith
new_steps-entered (OnPath q ∷ places) (n ∷ all) zero p same e = absurd cc
new_steps-entered (Within r ∷ places) (n ∷ all) zero p same e = absurd cc
new_steps-entered (New ∷ places) (n ∷ all) (suc k) p same e = omega (arith, new_steps-entered places all k p (omega (arith, same)) e)
new_steps-entered (OnPath q ∷ places) (n ∷ all) (suc k) p same e = new_steps-entered places all k p (omega (arith, same)) e
new_steps-entered (Within r ∷ places) (n ∷ all) (suc k) p same e = new_steps-entered places all k p (omega (arith, same)) e

within_new : (places : List Place) (group : List ℕ) (first x : ℕ) → slice_get (all_within places group first) x ≡ Some New
    → slice_get places x ≡ Some New
within_new places [] first x e = e
within_new places (n ∷ group) first x e = elim
    (get_set places n x (Within first) New (within_new (set places n (Within first)) group first x e)) [
      | inl h ↦ absurd (let z : Within first ≡ New = h.1 in cc)
      | inr h ↦ h.1
    ]

pub entered_new : (places : List Place) (k p x : ℕ) → slice_get (set places k (OnPath p)) x ≡ Some New → slice_get places x ≡ Some New
entered_new places k p x e = elim (get_set places k x (OnPath p) New e) [
  | inl h ↦ absurd (let z : OnPath p ≡ New = h.1 in cc)
  | inr h ↦ h.1
]

module _ (nodes : List (List ℕ)) (w : ComponentData) (f : Stop) (sound : IsSoundPath nodes (with_stop w f)) where
  module _ (child : ℕ) (there : slice_get (successors nodes f.node) f.next ≡ Some child) where
    within : f.next < length (successors nodes f.node)
    within = slice_get_within (successors nodes f.node) f.next child there

    pub goes_on_within : (first : ℕ) → slice_get w.places child ≡ Some (Within first)
        → HasGoneOn nodes (with_stop w f) (with_stop w (looked_further f))
    goes_on_within first e = record {
      sound = within_sound nodes w f sound child there first e;
      met = λ x h. h;
      less = omega (arith, stop_steps-push nodes w.stops f, stop_steps-push nodes w.stops (looked_further f), within);
    }

    pub goes_on_joined : (place : ℕ) (after : ComponentData) → slice_get w.places child ≡ Some (OnPath place)
        → IsJoinedFrom place (with_stop w (looked_further f)) after → HasGoneOn nodes (with_stop w f) after
    goes_on_joined place after e join = subst (HasGoneOn nodes (with_stop w f)) (sym join.is) (record {
      sound = subst (IsSoundPath nodes) join.is (joined_sound nodes w f sound child there place after e join);
      met = λ x h. h;
      less = omega (arith, stop_steps-push nodes w.stops f, stop_steps-push nodes w.stops (looked_further f), within);
    })

    pub goes_on_new : slice_get w.places child ≡ Some New
        → HasGoneOn nodes (with_stop w f) (with_entered (with_stop w (looked_further f)) child)
    goes_on_new e = record {
      sound = new_sound nodes w f sound child there e;
      met = λ x h. entered_new w.places child (length w.path) x h;
      less = omega (
        arith,
        stop_steps-push nodes w.stops f,
        stop_steps-push nodes w.stops (looked_further f),
        stop_steps-push nodes (w.stops ++ looked_further f ∷ []) (record { node = child; place = length w.path; next = 0 }),
        new_steps-entered w.places nodes child (length w.path) sound.count e,
        within,
      );
    }

  module _ (none : slice_get (successors nodes f.node) f.next ≡ None) where
    all : f.next ≤ length (successors nodes f.node)
    all = (sound.stopped f (Contains-append_right w.stops (f ∷ []) f (Contains-first f []))).1

    pub goes_on_inner : (slice_get w.starts (length w.starts - 1) ≡ Some f.place → ⊥) → HasGoneOn nodes (with_stop w f) w
    goes_on_inner not = record {
      sound = inner_sound nodes w f sound none not;
      met = λ x h. h;
      less = omega (arith, stop_steps-push nodes w.stops f, all);
    }

    pub goes_on_component : (starts : List ℕ) → w.starts ≡ starts ++ f.place ∷ []
        → HasGoneOn nodes (with_stop w f) (with_component (with_starts w starts) f.node f.place)
    goes_on_component starts split = record {
      sound = component_sound nodes w f sound none starts split;
      met = λ x h. within_new w.places (drop f.place w.path) f.node x h;
      less = omega (arith, stop_steps-push nodes w.stops f, all, new_steps-all_within w.places nodes (drop f.place w.path) f.node);
    }
