-- A file that has something wrong with its models by numbers is refused for its models.
use Rattle.std.proofs.Common.{◌≡◌, ℕ, IfNone, None, Option, ◌<◌, inl, inr, List, [], ◌∷◌, ◌++◌, length, map, Some, refl, ap, sym, ◌∙◌, subst, arith}
use Rattle.std.specs.Prelude.{Contains, slice_get, slice_index_or}
use Rattle.std.specs.List.{flat_map}
use Rattle.std.proofs.lemmas.List.{length-map}
use Rattle.std.proofs.lemmas.List.Elements.{Contains-append_left, Contains-append_right}
use Rattle.std.proofs.lemmas.Option.{get_or_from_slice_get, slice_get_within}
use Rattle.blif_ast.specs.Good.{IsGoodModel}
use Rattle.blif_ast.specs.BlifModelData.{BlifModelData}
use Rattle.blif_ast.specs.InstanceData.{InstanceData}
use Rattle.numbered_file.specs.declared.parts.ModelAt.{ModelAt}
use Rattle.numbered_file.specs.NumberedData.{NumberedData}
use Rattle.numbered_file.specs.Numbered.{IsNumbered, file_of, models_in, name_of, named}
use Rattle.numbered_file.specs.Places.{words_at}
use Rattle.numbered_file.proofs.Places.{length-models_in, words_below}
use Rattle.card_places.specs.CardPlaces.{AreCardPlaces, CardPlacesData}
use Rattle.dom_base.proofs.Lists.{AllByRecursion-contains, All-at, Contains-first, Contains-slice_get, slice_get-contained, slice_get-there}
use Rattle.network.proofs.Lists.{get_map, get_of_map}
use Rattle.local_names.proofs.KeptNumbers.{number_once}
use Rattle.local_names.specs.LocalNames.{AreLocalNames, LocalNamesData, names_in}
use Rattle.local_names.specs.Units.{AreUnits}
use Rattle.model_calls.proofs.MainNames.{contains_flat}
use Rattle.model_calls.proofs.OrderedPlans.{circle_recurs}
use Rattle.model_calls.proofs.Pairs.{contains_to}
use Rattle.model_calls.proofs.Recursions.{names_once}
use Rattle.model_calls.specs.CallNumbers.{AreCalls, names_of_models}
use Rattle.model_calls.specs.ModelCalls.{HasCircle}
use Rattle.model_calls.specs.ModelFaults.{BoundFormal, Formal, InputFormal, IsTwiceIn, IsWrongFormal, Port, Use, formals, formals_of, formals_of_use, formals_with, ports, ports_in, ports_of_model, uses}
use Rattle.model_calls.specs.Occurrences.{models_called}
use Rattle.part_numbers.specs.SignalNumbers.{model_names}
use Rattle.numbered_calls.proofs.AbsentFaults.{no_bad_formal, no_model_twice, no_port_twice, no_recursion, no_unknown_model}
use Rattle.numbered_calls.proofs.Accepting.{IsInstanceOf, apart, formals_placed, inputs_placed, instance_there, names_are, outputs_placed, unit_there}
use Rattle.numbered_calls.proofs.NamePlaces.{AreAt, at_append, item_of, item_twice, place_among}
use Rattle.numbered_calls.proofs.Owned.{names_in_file, numbered}
use Rattle.numbered_calls.proofs.PartUses.{IsUseAt, use_at}
use Rattle.numbered_calls.specs.BoundFormals.{HaveBadBinding, HavePortTwice, formals_at, inputs_in, outputs_in}
use Rattle.numbered_calls.specs.Owners.{HaveNameTwice, NamesNoModel}
use Rattle.numbered_calls.specs.PortMarks.{AreTwice, HasUnboundInput, HasWrongFormal}
use Rattle.numbered_calls.specs.Refused.{IsRefusedForModels}

module _ (d : NumberedData) where
  name_at : (k : ℕ) (at : ModelAt) → slice_get d.models k ≡ Some at → slice_get (names_of_models (models_in d)) k ≡ Some (name_of d.names at.name)
  name_at k at e = ap (λ l. slice_get l k) (names_in_file d) ∙ get_map (λ (m : ModelAt). name_of d.names m.name) d.models k at e

  -- two models have one name
  pub name_twice : HaveNameTwice d.models → IsRefusedForModels d
  name_twice t good closed accepted =
      let one = ap (λ n. Some (name_of d.names n)) (sym t.one_name) in
      let same = names_once (models_in d) (no_model_twice (file_of d) accepted) t.earlier t.later (name_of d.names t.first.name) (name_at t.earlier t.first t.first_there)
      (name_at t.later t.second t.second_there ∙ one) in
      omega (arith, t.order, same)

  -- an instance names no model
  pub no_model : IsNumbered d → (k : ℕ) → NamesNoModel d k → IsRefusedForModels d
  no_model inside k named_none good closed accepted =
      let j = slice_get-contained (uses (file_of d)) used at_use.used in
      no_unknown_model (file_of d) accepted j.0 used j.1 unknown
    where
      at_use : IsUseAt d k
      at_use = use_at d k named_none.instance (omega (arith, slice_get_within d.parts k named_none.instance.part named_none.instance.there, closed))

      used : Use
      used = record { model = at_use.model; instance = at_use.instance }

      w : IsInstanceOf d k at_use.instance
      w = instance_there d k at_use.instance at_use.there

      unknown : Contains (names_of_models (models_in d)) at_use.instance.unit → ⊥
      unknown c = by (words_at d k) refl
        where
          j : (j : ℕ) × (slice_get (names_of_models (models_in d)) j ≡ Some at_use.instance.unit)
          j = slice_get-contained (names_of_models (models_in d)) at_use.instance.unit c

          m : (m : ModelAt) × (slice_get d.models j.0 ≡ Some m) × (name_of d.names m.name ≡ at_use.instance.unit)
          m = numbered d j.0 at_use.instance.unit j.1

          by : (words : List ℕ) → words_at d k ≡ words → ⊥
          by [] none =
              let n = get_of_map (λ (m : BlifModelData). m.name) (models_in d) j.0 at_use.instance.unit j.1 in
              (All-at IsGoodModel (models_in d) j.0 n.0 good.models n.1).name.some (n.2 ∙ w.unit_is ∙ ap (λ l. slice_index_or (named d.names l) 0 []) none)
          by (word ∷ words) some =
              let below : word < length d.names = AllByRecursion-contains (λ n. n < length d.names) (words_at d k) word (words_below d inside k)
              (subst (λ l. Contains l word) (sym some) (Contains-first word words)) in
              let known : m.0.name < length d.names = AllByRecursion-contains (λ (a : ModelAt). a.name < length d.names) d.models m.0 inside.model_names
              (Contains-slice_get d.models j.0 m.0 m.1) in
              named_none.unknown word (ap (λ l. slice_get l 0) some) j.0 m.0 m.1
              (number_once d.names inside.names m.0.name word known below (m.2 ∙ w.unit_is ∙ ap (λ l. slice_index_or (named d.names l) 0 []) some))

module _ (d : NumberedData) (l : LocalNamesData) (names : AreLocalNames d l) where
  count_of : (m : ℕ) (model : BlifModelData) → slice_get (models_in d) m ≡ Some model → length (names_in l m) ≡ length (model_names model)
  count_of m model there = sym (length-map (names_in l m) (name_of d.names)) ∙ ap length (names_are d l names m model there)

  -- a port is there twice
  pub port_twice : HavePortTwice d l → IsRefusedForModels d
  port_twice t good closed accepted = elim t.twice [ inl h ↦ input h | inr h ↦ output h ]
    where
      found : (model : BlifModelData) × (slice_get (models_in d) t.model ≡ Some model)
      found = slice_get-there (models_in d) t.model (omega (arith, t.within, length-models_in d))

      model : BlifModelData
      model = found.0

      refused : (p : Port) → Contains (ports_of_model model) p → IsTwiceIn p.list p.name → ⊥
      refused p c twice =
          let all = contains_flat ports_of_model (models_in d) model p (Contains-slice_get (models_in d) t.model model found.1) c in
          let k = slice_get-contained (ports (file_of d)) p all in
          no_port_twice (file_of d) accepted k.0 p k.1 twice

      input : AreTwice (length (names_in l t.model)) (inputs_in d l t.model) → ⊥
      input h =
          let x = item_twice (model_names model) (inputs_in d l t.model) model.inputs (inputs_placed d l names t.model model found.1)
          (subst (λ n. AreTwice n (inputs_in d l t.model)) (count_of t.model model found.1) h) in
          let p : Port = record { line = model.line; list = model.inputs; name = x.0 } in
          refused p (Contains-append_left (ports_in model.line model.inputs) (ports_in model.line model.outputs) p
          (contains_to (λ name. record { line = model.line; list = model.inputs; name = name }) model.inputs x.0 x.1)) x.2

      output : AreTwice (length (names_in l t.model)) (outputs_in d l t.model) → ⊥
      output h =
          let x = item_twice (model_names model) (outputs_in d l t.model) model.outputs (outputs_placed d l names t.model model found.1)
          (subst (λ n. AreTwice n (outputs_in d l t.model)) (count_of t.model model found.1) h) in
          let p : Port = record { line = model.line; list = model.outputs; name = x.0 } in
          refused p (Contains-append_right (ports_in model.line model.inputs) (ports_in model.line model.outputs) p
          (contains_to (λ name. record { line = model.line; list = model.outputs; name = name }) model.outputs x.0 x.1)) x.2

  -- a formal is wrong
  pub bad_binding : (c : CardPlacesData) → AreCardPlaces d c → (units : List ℕ) → AreUnits d units → HaveBadBinding d l units → IsRefusedForModels d
  bad_binding c places units unit b good closed accepted = elim (b.bad unit_within) [ inl h ↦ formal h | inr h ↦ input h ]
    where
      k : ℕ
      k = b.part

      at_use : IsUseAt d k
      at_use = use_at d k b.instance (omega (arith, slice_get_within d.parts k b.instance.part b.instance.there, closed))

      i : InstanceData
      i = at_use.instance

      used : Use
      used = record { model = at_use.model; instance = i }

      w : IsInstanceOf d k i
      w = instance_there d k i at_use.there

      same : slice_index_or units k 0 ≡ b.unit
      same = get_or_from_slice_get units k b.unit 0 b.there

      found : (n : BlifModelData) × (slice_get (models_in d) (slice_index_or units k 0) ≡ Some n) × (models_called (models_in d) i.unit ≡ n ∷ [])
      found = unit_there d c places units unit k i w

      n : BlifModelData
      n = found.0

      there : slice_get (models_in d) b.unit ≡ Some n
      there = ap (slice_get (models_in d)) (sym same) ∙ found.1

      unit_within : b.unit < length d.models
      unit_within = omega (arith, slice_get_within (models_in d) b.unit n there, length-models_in d)

      placed : AreAt (model_names n) (formals_at d l k) (formals_of i)
      placed = formals_placed d l names k i w (slice_index_or units k 0) n found.1 (unit.units_are k w.instance)

      refused : (e : Formal) → Contains (formals_with i n) e → IsWrongFormal e → ⊥
      refused e here wrong =
          let one = contains_flat (formals_with i) (n ∷ []) n e (Contains-first n []) here in
          let of_use : Contains (formals_of_use (file_of d) used) e = subst (λ ms. Contains (flat_map (formals_with i) ms) e) (sym found.2) one in
          let all = contains_flat (formals_of_use (file_of d)) (uses (file_of d)) used e at_use.used of_use in
          let j = slice_get-contained (formals (file_of d)) e all in
          no_bad_formal (file_of d) accepted j.0 e j.1 wrong

      bound : (name : List ℕ) → Contains (formals_of i) name → IsWrongFormal (BoundFormal i n name) → ⊥
      bound name c wrong = refused (BoundFormal i n name)
          (Contains-append_left (map (BoundFormal i n) (formals_of i)) (map (InputFormal i) n.inputs) (BoundFormal i n name) (contains_to (BoundFormal i n) (formals_of i) name c)) wrong

      formal : HasWrongFormal (length (names_in l b.unit)) (inputs_in d l b.unit ++ outputs_in d l b.unit) (formals_at d l k) → ⊥
      formal h = elim (h.wrong within) [
        | inl twice ↦ let y = item_twice (model_names n) (formals_at d l k) (formals_of i) placed (record { at = h.at; place = h.place; there = h.there; twice = λ less. twice }) in
            bound y.0 y.1 (inr y.2)
        | inr none ↦ bound x.0 (Contains-slice_get (formals_of i) h.at x.0 x.1)
            (inl (λ port. none (place_among (model_names n) (inputs_in d l b.unit ++ outputs_in d l b.unit) (n.inputs ++ n.outputs) (apart d l names n)
            (at_append (model_names n) (inputs_in d l b.unit) (outputs_in d l b.unit) n.inputs n.outputs (inputs_placed d l names b.unit n there) (outputs_placed d l names b.unit n there))
            h.place x.0 x.2 port)))
      ]
        where
          x : (x : List ℕ) × (slice_get (formals_of i) h.at ≡ Some x) × (slice_get (model_names n) h.place ≡ Some x)
          x = item_of (model_names n) (formals_at d l k) (formals_of i) placed h.at h.place h.there

          within : h.place < length (names_in l b.unit)
          within = omega (arith, slice_get_within (model_names n) h.place x.0 x.2, count_of b.unit n there)

      input : HasUnboundInput (inputs_in d l b.unit) (formals_at d l k) → ⊥
      input h =
          let j = slice_get-contained (inputs_in d l b.unit) h.place h.input in
          let x = item_of (model_names n) (inputs_in d l b.unit) n.inputs (inputs_placed d l names b.unit n there) j.0 h.place j.1 in
          refused (InputFormal i x.0)
          (Contains-append_right (map (BoundFormal i n) (formals_of i)) (map (InputFormal i) n.inputs) (InputFormal i x.0)
          (contains_to (InputFormal i) n.inputs x.0 (Contains-slice_get n.inputs j.0 x.0 x.1)))
          (λ bound. h.unbound (place_among (model_names n) (formals_at d l k) (formals_of i) (apart d l names n) placed h.place x.0 x.2 bound))

-- a model reaches itself
pub circular : (d : NumberedData) (nodes : List (List ℕ)) → AreCalls (names_of_models (models_in d)) (models_in d) nodes → HasCircle nodes → IsRefusedForModels d
circular d nodes calls circle good closed accepted =
    circle_recurs (models_in d) nodes (no_model_twice (file_of d) accepted) calls circle (no_recursion (file_of d) accepted)

-- what follows from a fact of an answer that is nothing
pub none_found : {T : Type 0} (A B : Type 0) → (A → B) → (found : Option T) → IfNone found A → IfNone found B
none_found A B h None a = h a
none_found A B h (Some x) a = a

-- an answer that is nothing has its cause
pub none_of : {T : Type 0} (A : Type 0) (found : Option T) → ((x : T) → found ≡ Some x → ⊥) → IfNone found A → A
none_of A None not h = h
none_of A (Some x) not h = absurd (not x refl)
