-- Where no model reaches itself, no path passes more models than there are.
use Rattle.std.proofs.Common.{◌≡◌, ℕ, zero, suc, ◌<◌, ◌≤◌, ◌+◌, ◌⊎◌, inl, inr, Bool, true, false, cond, List, [], ◌∷◌, map, length, Some, refl, ap, sym, ◌∙◌, subst, arith}
use Rattle.std.specs.Prelude.{◌≢◌, Contains}
use Rattle.std.specs.List.{AllByRecursion, find, flat_map}
use Rattle.std.specs.Option.{option_to_list}
use Rattle.std.specs.Cmp.Lexicographic.{same_text}
use Rattle.std.proofs.lemmas.List.{length-map}
use Rattle.std.proofs.lemmas.Option.{slice_get-get_or}
use Rattle.dom_base.proofs.Lists.{AllByRecursion-map, AllByRecursion-weaker, Contains-first, Contains-later}
use Rattle.blif_ast.specs.BlifFileData.{BlifFileData}
use Rattle.blif_ast.specs.BlifModelData.{BlifModelData}
use Rattle.blif_ast.specs.Cards.{same}
use Rattle.blif_ast.specs.InstanceData.{InstanceData}
use Rattle.model_calls.specs.declared.fault.FlatKind.TheVariants.{Recursion}
use Rattle.model_calls.specs.Expanded.{BodyCard, InstanceCard, LatchCard, PlacedPart, TableCard, ordered_cards, expanded, expanded_from, parts_of_card}
use Rattle.model_calls.specs.ModelFaults.{HasInstance, IsRecursion, Use, uses}
use Rattle.model_calls.specs.Occurrences.{first_model, main_model, models_called, occurrences_from, occurrences}
use Rattle.model_calls.specs.Refusal.{At}
use Rattle.model_calls.specs.Refusals.{HasRefusal}
use Rattle.model_calls.specs.Reaches.{Reaches, more, step}
use Rattle.model_calls.proofs.Apart.{Apart}
use Rattle.part_numbers.proofs.Depth.{flat_same}
use Rattle.model_calls.proofs.EachPart.{IsCardOf, each_itself, own_cards}
use Rattle.model_calls.proofs.Firsts.{none_holds}
use Rattle.model_calls.proofs.Fitting.{contains_cons, fits}
use Rattle.model_calls.proofs.MainNames.{contains_flat}
use Rattle.model_calls.proofs.Pairs.{contains_to}

-- the model of a name is one of the models, and has that name
pub called_is : (models : List BlifModelData) (name : List ℕ) (n : BlifModelData) → Contains (models_called models name) n → Contains models n × (n.name ≡ name)
called_is [] name n (k, l, e) = absurd (omega (arith, l))
called_is (m ∷ models) name n c = by (called_is models name n) (same m.name name) refl c
  where
    by : (Contains (models_called models name) n → Contains models n × (n.name ≡ name)) → (t : Bool) → same m.name name ≡ t
        → Contains (option_to_list (cond (same m.name name) (Some m) (find (λ (k : BlifModelData). same k.name name) models))) n → Contains (m ∷ models) n × (n.name ≡ name)
    by rest true e c =
        let d : Contains (m ∷ []) n = subst (λ t. Contains (option_to_list (cond t (Some m) (find (λ (k : BlifModelData). same k.name name) models))) n) e c in
        one d e
      where
        one : Contains (m ∷ []) n → same m.name name ≡ true → Contains (m ∷ models) n × (n.name ≡ name)
        one d e = elim (contains_cons m [] n d) [
          | inl is ↦ (subst (Contains (m ∷ models)) is (Contains-first m models), ap (λ (k : BlifModelData). k.name) (sym is) ∙ same_text m.name name (sym e))
          | inr none ↦ absurd (omega (arith, none.1))
        ]
    by rest false e c =
        let d = rest (subst (λ t. Contains (option_to_list (cond t (Some m) (find (λ (k : BlifModelData). same k.name name) models))) n) e c) in
        (Contains-later m models n d.0, d.1)

steps_then : {X : Type 0} {Step : X → X → Type 0} {a b : X} → Reaches Step a b → (c : X) → Step b c → Reaches Step a c
steps_then (step s) c t = more s (step t)
steps_then (more s rest) c t = more s (steps_then rest c t)

module _ (f : BlifFileData) (accepted : (line : ℕ) (name : List ℕ) → HasRefusal f (At Recursion line name) → ⊥) where
  no_recursion : (u : Use) → Contains (uses f) u → IsRecursion f [] u → ⊥
  no_recursion u c r = none_holds (IsRecursion f) (uses f)
      (λ v first. accepted v.instance.line v.instance.unit (record { element = v; first = first; line_is = refl; name_is = refl })) c.0 u (slice_get-get_or (uses f) c.0 u c.1 ∙ ap Some c.2) r

  -- the instance of a use leads to a model of this name
  abbrev LeadsTo : List ℕ → Use → Type 0
  LeadsTo name u = (u.instance.unit ≡ name) ⊎ Reaches (HasInstance f) u.instance.unit name

  -- the uses on the way to a model, the nearest first: their models differ, and their instances lead to it
  pub record IsWay (way : List Use) (m : BlifModelData) : Type 0 where
    pub inside : Contains f.models m
    pub are_uses : AllByRecursion (Contains (uses f)) way
    pub lead : AllByRecursion (LeadsTo m.name) way
    pub apart : Apart (map (λ (u : Use). u.model.name) way)
    pub named : AllByRecursion (λ (u : Use). Contains (map (λ (m : BlifModelData). m.name) f.models) u.model.name) way

  abbrev use_of : BlifModelData → InstanceData → Use
  use_of m i = record { model = m; instance = i }

  use_inside : (m : BlifModelData) (i : InstanceData) → Contains f.models m → Contains m.instances i → Contains (uses f) (use_of m i)
  use_inside m i c d = contains_flat (λ (k : BlifModelData). map (λ j. record { model = k; instance = j }) k.instances) f.models m (use_of m i) c (contains_to (λ j. use_of m j) m.instances i d)

  -- no model on the way has the name of the model that it leads to
  model_apart : (way : List Use) (m : BlifModelData) → IsWay way m → AllByRecursion (λ (u : Use). m.name ≢ u.model.name) way
  model_apart way m is = by way is.are_uses is.lead
    where
      by : (us : List Use) → AllByRecursion (Contains (uses f)) us → AllByRecursion (LeadsTo m.name) us → AllByRecursion (λ (u : Use). m.name ≢ u.model.name) us
      by [] c l = tt
      by (u ∷ us) c l = ((λ e. no_recursion u c.0 (elim l.0 [ inl is ↦ inl (is ∙ e) | inr steps ↦ inr (subst (Reaches (HasInstance f) u.instance.unit) e steps) ])), by us c.1 l.1)

  apart_by_map : (name : List ℕ) (us : List Use) → AllByRecursion (λ (u : Use). name ≢ u.model.name) us → AllByRecursion (λ x. name ≢ x) (map (λ (u : Use). u.model.name) us)
  apart_by_map name us h = AllByRecursion-map (λ x. name ≢ x) (λ (u : Use). u.model.name) us h

  way_down : (way : List Use) (m : BlifModelData) (i : InstanceData) (n : BlifModelData) → IsWay way m → Contains m.instances i → Contains (models_called f.models i.unit) n → IsWay (use_of m i ∷ way) n
  way_down way m i n is c d = record {
    inside = called.0;
    are_uses = (use_inside m i is.inside c, is.are_uses);
    lead = (inl (sym called.1), AllByRecursion-weaker (LeadsTo m.name) (LeadsTo n.name) further way is.lead);
    apart = (apart_by_map m.name way (model_apart way m is), is.apart);
    named = (contains_to (λ (k : BlifModelData). k.name) f.models m is.inside, is.named);
  }
    where
      called : Contains f.models n × (n.name ≡ i.unit)
      called = called_is f.models i.unit n d

      has : HasInstance f m.name n.name
      has = (use_of m i, use_inside m i is.inside c, refl, sym called.1)

      further : (u : Use) → LeadsTo m.name u → LeadsTo n.name u
      further u (inl e) = inr (step (subst (λ x. HasInstance f x n.name) (sym e) has))
      further u (inr steps) = inr (steps_then steps n.name has)

  -- so the way is shorter than the models are many
  way_short : (way : List Use) (m : BlifModelData) → IsWay way m → length way < length f.models
  way_short way m is =
      let all = fits (m.name ∷ map (λ (u : Use). u.model.name) way) (map (λ (k : BlifModelData). k.name) f.models)
      (apart_by_map m.name way (model_apart way m is), is.apart) (
        contains_to (λ (k : BlifModelData). k.name) f.models m is.inside,
        AllByRecursion-map (Contains (map (λ (k : BlifModelData). k.name) f.models)) (λ (u : Use). u.model.name) way is.named,
      ) in
      omega (arith, all, length-map way (λ (u : Use). u.model.name), length-map f.models (λ (k : BlifModelData). k.name))

  places_enough : (d extra : ℕ) (path : List InstanceData) (m : BlifModelData) (way : List Use) → IsWay way m → length f.models ≤ d + length way
      → occurrences_from f.models (d + extra) path m ≡ occurrences_from f.models d path m
  places_enough zero extra path m way is l = absurd (omega (arith, l, way_short way m is))
  places_enough (suc d) extra path m way is l = ap (λ k. occurrences_from f.models k path m) (let z : suc d + extra ≡ suc (d + extra) = omega arith in z) ∙ ap (λ k. record { path = path; model = m } ∷ k)
      (flat_same (λ (i : InstanceData). flat_map (occurrences_from f.models (d + extra) (i ∷ path)) (models_called f.models i.unit)) (λ (i : InstanceData). flat_map (occurrences_from f.models d (i ∷ path)) (models_called f.models i.unit)) m.instances
      (AllByRecursion-weaker (Contains m.instances) (λ (i : InstanceData). flat_map (occurrences_from f.models (d + extra) (i ∷ path)) (models_called f.models i.unit) ≡ flat_map (occurrences_from f.models d (i ∷ path)) (models_called f.models i.unit))
      (λ i c. flat_same (occurrences_from f.models (d + extra) (i ∷ path)) (occurrences_from f.models d (i ∷ path)) (models_called f.models i.unit)
      (AllByRecursion-weaker (Contains (models_called f.models i.unit)) (λ n. occurrences_from f.models (d + extra) (i ∷ path) n ≡ occurrences_from f.models d (i ∷ path) n)
      (λ n k. places_enough d extra (i ∷ path) n (use_of m i ∷ way) (way_down way m i n is c k) (omega (arith, l))) (models_called f.models i.unit) (each_itself (models_called f.models i.unit))))
      m.instances (each_itself m.instances)))

  expanded_enough : (d extra : ℕ) (path : List InstanceData) (m : BlifModelData) (way : List Use) → IsWay way m → length f.models ≤ d + length way
      → expanded_from f.models (d + extra) path m ≡ expanded_from f.models d path m
  expanded_enough zero extra path m way is l = absurd (omega (arith, l, way_short way m is))
  expanded_enough (suc d) extra path m way is l = ap (λ k. expanded_from f.models k path m) (let z : suc d + extra ≡ suc (d + extra) = omega arith in z)
      ∙ flat_same (parts_of_card (below (d + extra)) path) (parts_of_card (below d) path) (ordered_cards m)
      (AllByRecursion-weaker (IsCardOf m) (λ c. parts_of_card (below (d + extra)) path c ≡ parts_of_card (below d) path c)
      (by (λ i n c k. expanded_enough d extra (i ∷ path) n (use_of m i ∷ way) (way_down way m i n is c k) (omega (arith, l)))) (ordered_cards m) (own_cards m))
    where
      below : ℕ → List InstanceData → List ℕ → List PlacedPart
      below k p unit = flat_map (expanded_from f.models k p) (models_called f.models unit)

      by : ((i : InstanceData) (n : BlifModelData) → Contains m.instances i → Contains (models_called f.models i.unit) n → expanded_from f.models (d + extra) (i ∷ path) n ≡ expanded_from f.models d (i ∷ path) n)
          → (c : BodyCard) → IsCardOf m c → parts_of_card (below (d + extra)) path c ≡ parts_of_card (below d) path c
      by deeper (TableCard t) h = refl
      by deeper (LatchCard t) h = refl
      by deeper (InstanceCard i) h = flat_same (expanded_from f.models (d + extra) (i ∷ path)) (expanded_from f.models d (i ∷ path)) (models_called f.models i.unit)
          (AllByRecursion-weaker (Contains (models_called f.models i.unit)) (λ n. expanded_from f.models (d + extra) (i ∷ path) n ≡ expanded_from f.models d (i ∷ path) n) (λ n k. deeper i n h k)
          (models_called f.models i.unit) (each_itself (models_called f.models i.unit)))

  main_way : (f.models ≡ [] → ⊥) → IsWay [] (main_model f)
  main_way some = record { inside = by f.models some; are_uses = tt; lead = tt; apart = tt; named = tt }
    where
      by : (models : List BlifModelData) → (models ≡ [] → ⊥) → Contains models (first_model models)
      by [] some = absurd (some refl)
      by (m ∷ rest) some = Contains-first m rest

  pub deep_enough : (f.models ≡ [] → ⊥) → (extra : ℕ)
      → (expanded_from f.models (length f.models + extra) [] (main_model f) ≡ expanded f) × (occurrences_from f.models (length f.models + extra) [] (main_model f) ≡ occurrences f)
  deep_enough some extra = (
    expanded_enough (length f.models) extra [] (main_model f) [] (main_way some) (omega arith),
    places_enough (length f.models) extra [] (main_model f) [] (main_way some) (omega arith),
  )
