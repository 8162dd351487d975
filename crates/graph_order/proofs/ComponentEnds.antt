-- A search for components over all nodes, from its beginning to its end.
use Rattle.std.proofs.Common.{◌≡◌, ℕ, zero, suc, ◌<◌, ◌+◌, inl, inr, List, [], ◌∷◌, ◌++◌, length, replicate, set, Some, refl, ap, sym, ◌∙◌, subst, arith}
use Rattle.std.specs.Prelude.{Contains, slice_get}
use Rattle.std.proofs.lemmas.Bool.{cases_eq}
use Rattle.std.proofs.lemmas.List.{length-append, length-replicate}
use Rattle.std.proofs.lemmas.Option.{slice_get_within}
use Rattle.dom_base.proofs.Lists.{slice_get-push_cases}
use Rattle.graph_order.proofs.ComponentSearches.{entered_sound}
use Rattle.graph_order.proofs.Joined.{joined_both, joined_back, joined_forth, joined_through}
use Rattle.graph_order.proofs.Lists.{get_set}
use Rattle.graph_order.specs.declared.components.Place.{Place}
use Rattle.graph_order.specs.declared.components.Place.TheVariants.{New, OnPath, Within}
use Rattle.graph_order.specs.Components.{AreComponents}
use Rattle.graph_order.specs.ComponentSearches.{AreMetBelow, ComponentData, HasGoneOn, HasMetBelow, IsSoundPath, nothing_met, with_entered}

-- the numbers of the first so many nodes: the names of their components
abbrev pub AreNames : List Place → ℕ → List ℕ → Type 0
AreNames places k numbers = (length numbers ≡ k) ×
    ((x first : ℕ) → slice_get numbers x ≡ Some first → slice_get places x ≡ Some (Within first))

pub no_names : (places : List Place) → AreNames places 0 []
no_names places = (refl, λ x first e. absurd cc)

pub next_name : (places : List Place) (k : ℕ) (numbers : List ℕ) (first : ℕ) → AreNames places k numbers
    → slice_get places k ≡ Some (Within first) → AreNames places (k + 1) (numbers ++ first ∷ [])
next_name places k numbers first (count, each) at = (omega (arith, length-append numbers (first ∷ []), count), next)
  where
    next : (x name : ℕ) → slice_get (numbers ++ first ∷ []) x ≡ Some name → slice_get places x ≡ Some (Within name)
    next x name e = elim (slice_get-push_cases numbers first x name e) [
      | inl h ↦ each x name h
      | inr h ↦ ap (slice_get places) (h.0 ∙ count) ∙ at ∙ ap (λ n. Some (Within n)) h.1
    ]

replicated : {X : Type 0} (n k : ℕ) (x y : X) → slice_get (replicate n x) k ≡ Some y → x ≡ y
replicated zero k x y e = let z : slice_get {X = _} [] k ≡ Some y = e in absurd cc
replicated (suc n) zero x y e = cc
replicated (suc n) (suc k) x y e = replicated n k x y e

module _ (nodes : List (List ℕ)) where
  no_path : (s : ComponentData) → IsSoundPath nodes s → s.stops ≡ [] → (q b : ℕ) → slice_get s.path q ≡ Some b → ⊥
  no_path s sound ended q b e =
      let k = sound.back q b e in
      let f = sound.started k.0 k.2 in
      let none : Contains [] f.0 = subst (λ l. Contains l f.0) ended f.1 in omega (arith, none.1)

  pub begins : HasMetBelow nodes 0 (nothing_met (length nodes))
  begins = record {
    below = record {
      sound = record {
        count = length-replicate (length nodes) New;
        on_path = λ p x e. absurd cc;
        at_place = λ p x e. absurd (let z : New ≡ OnPath p = replicated (length nodes) x New (OnPath p) e in cc);
        forward = λ p q a b l e k. absurd cc;
        back = λ q b e. absurd cc;
        started = λ p c. absurd (omega (arith, c.1));
        rising = λ i j p q l e k. absurd cc;
        stopped = λ f c. absurd (omega (arith, c.1));
        deeper = λ i j f g l e k. absurd cc;
        looked = λ p start i a b e n h c l. absurd cc;
        closed = λ a b w n. absurd (let z : New ≡ Within w.0 = replicated (length nodes) a New (Within w.0) w.1 in cc);
        whole = λ a first e. absurd (let z : New ≡ Within first = replicated (length nodes) a New (Within first) e in cc);
      };
      met = λ x l e. omega (arith, l);
    };
    ended = refl;
  }

  -- the search comes to a node that wasn't met
  pub begins_new : (n : ℕ) (s : ComponentData) → HasMetBelow nodes n s → slice_get s.places n ≡ Some New
      → AreMetBelow nodes (n + 1) (with_entered s n)
  begins_new n s h fresh = record {
    sound = entered_sound nodes s h.below.sound s.stops n fresh
        (λ q b e. absurd (no_path s h.below.sound h.ended q b e)) h.below.sound.started h.below.sound.stopped h.below.sound.deeper
        (λ p start i a b e k m c l. inl (h.below.sound.looked p start i a b e k m c l));
    met = met;
  }
    where
      met : (x : ℕ) → x < n + 1 → slice_get (set s.places n (OnPath (length s.path))) x ≡ Some New → ⊥
      met x l e = elim (get_set s.places n x (OnPath (length s.path)) New e) [
        | inl k ↦ let z : OnPath (length s.path) ≡ New = k.1 in absurd cc
        | inr k ↦ h.below.met x (omega (arith, l, k.0)) k.1
      ]

  -- it comes to one that was met
  pub begins_met : (n : ℕ) (s : ComponentData) (place : Place) → HasMetBelow nodes n s → slice_get s.places n ≡ Some place
      → (place ≡ New → ⊥) → AreMetBelow nodes (n + 1) s
  begins_met n s place h at other = record { sound = h.below.sound; met = met }
    where
      met : (x : ℕ) → x < n + 1 → slice_get s.places x ≡ Some New → ⊥
      met x l e = elim (cases_eq x n) [
        | inl is ↦ other (let z : Some place ≡ Some New = sym at ∙ ap (slice_get s.places) (sym is) ∙ e in cc)
        | inr apart ↦ h.below.met x (omega (arith, l, apart)) e
      ]

  pub met_goes_on : (n : ℕ) (before after : ComponentData) → AreMetBelow nodes n before → HasGoneOn nodes before after
      → AreMetBelow nodes n after
  met_goes_on n before after h go = record { sound = go.sound; met = λ x l e. h.met x l (go.met x e) }

  -- at the end all are within components
  module _ (s : ComponentData) (h : HasMetBelow nodes (length nodes) s) where
    no_new : (x : ℕ) → slice_get s.places x ≡ Some New → ⊥
    no_new x e = h.below.met x (omega (arith, slice_get_within s.places x New e, h.below.sound.count)) e

    none_on_path : (x p : ℕ) → slice_get s.places x ≡ Some (OnPath p) → ⊥
    none_on_path x p e = no_path s h.below.sound h.ended p x (h.below.sound.at_place p x e)

    pub none_other : (k : ℕ) (p : Place) → slice_get s.places k ≡ Some p → ((first : ℕ) → p ≡ Within first → ⊥) → ⊥
    none_other k New e not = no_new k e
    none_other k (OnPath q) e not = none_on_path k q e
    none_other k (Within first) e not = not first refl

    pub all_components : (numbers : List ℕ) → AreNames s.places (length s.places) numbers → AreComponents nodes numbers
    all_components numbers (count, each) = record {
      count = count ∙ h.below.sound.count;
      joined = λ a b x e k. (
          let m = (h.below.sound.whole b x (each b x k)).0 in
          joined_through (h.below.sound.whole a x (each a x e)).0 (joined_both (joined_back m) (joined_forth m))
          );
      same = λ a b x y e k j. (
          let z : Some (Within x) ≡ Some (Within y) = sym ((h.below.sound.whole a x (each a x e)).1 b j) ∙ each b y k in cc
          );
    }
