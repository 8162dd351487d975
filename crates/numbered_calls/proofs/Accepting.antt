-- A file whose models, ports and formals were found right is refused for nothing of the first four orders.
use Rattle.std.proofs.Common.{◌≡◌, ℕ, ◌<◌, ◌+◌, inl, inr, List, [], ◌∷◌, ◌++◌, drop, length, map, Some, refl, ap, sym, ◌∙◌, subst, arith}
use Rattle.std.specs.Prelude.{Contains, slice_get, slice_index_or}
use Rattle.std.specs.List.{flat_map}
use Rattle.std.proofs.lemmas.List.{drop-map}
use Rattle.std.proofs.lemmas.List.Elements.{Contains-append_cases}
use Rattle.std.proofs.lemmas.Option.{get_or_from_slice_get, slice_get-get_or, slice_get_within}
use Rattle.blif_ast.specs.declared.instance.Binding.{Binding}
use Rattle.blif_ast.specs.BlifModelData.{BlifModelData}
use Rattle.blif_ast.specs.InstanceData.{InstanceData}
use Rattle.numbered_file.specs.declared.parts.PartAt.{PartAt}
use Rattle.numbered_file.specs.declared.parts.PartKind.{PartKind}
use Rattle.numbered_file.specs.declared.parts.PartKind.TheVariants as at
use Rattle.numbered_file.specs.NumberedData.{NumberedData}
use Rattle.numbered_file.specs.Numbered.{InstancePart, between, bindings_by, file_of, instance_by, model_by, models_in, name_of, named, part_by, parts_of}
use Rattle.numbered_file.specs.Places.{first_part, inputs_at, outputs_at, rows_at, words_at}
use Rattle.numbered_file.proofs.Places.{length-models_in, length-parts_of, model_there, part_there}
use Rattle.card_places.specs.CardPlaces.{AreAtPlaces, AreCardPlaces, CardPlacesData, places_at}
use Rattle.dom_base.proofs.Lists.{Contains-slice_get, slice_get-contained, slice_get-there}
use Rattle.network.proofs.IndexedLists.{same_at}
use Rattle.network.proofs.Lists.{contains_map, get_map, get_of_map}
use Rattle.local_names.specs.LocalNames.{AreLocalNames, IsInstance, IsUnitOf, LocalNamesData, firsts, names_in}
use Rattle.local_names.specs.Units.{AreUnits}
use Rattle.local_names.proofs.FormalNames.{formals_named}
use Rattle.model_calls.proofs.Accepted.{none_reported, nothing_with, nothing_yet}
use Rattle.model_calls.proofs.Apart.{Apart}
use Rattle.model_calls.proofs.FormalFaults.{called_at}
use Rattle.model_calls.proofs.OrderedPlans.{all_known}
use Rattle.model_calls.proofs.Recursions.{from_flat}
use Rattle.model_calls.proofs.UniqueNames.{unique_apart}
use Rattle.model_calls.specs.CallNumbers.{AreCallees, AreCalls, IsUseOfNone, names_of_models}
use Rattle.model_calls.specs.FirstFaults.{NoneHolds}
use Rattle.model_calls.specs.ModelCalls.{NothingRefuses}
use Rattle.model_calls.specs.ModelFaults.{BoundFormal, Formal, InputFormal, IsBadFormal, IsDuplicateModel, IsDuplicatePort, IsTwiceIn, IsWrongFormal, Port, Use, formals, formals_of, formals_of_use, formals_with, line_of_formal, name_of_formal, ports_in, ports_of_model, uses, uses_in}
use Rattle.model_calls.specs.Occurrences.{models_called, names_of}
use Rattle.model_calls.specs.declared.fault.FlatKind.TheVariants.{BadFormal, DuplicateModel, DuplicatePort, UnknownModel}
use Rattle.part_numbers.specs.SignalNumbers.{model_names}
use Rattle.numbered_calls.specs.BoundFormals.{AreBoundBelow, HavePortMarks, IsBoundAt, formals_at, inputs_in, outputs_in}
use Rattle.numbered_calls.specs.PortMarks.{ArePorts}
use Rattle.numbered_calls.proofs.Marking.{only}
use Rattle.numbered_calls.proofs.NamePlaces.{AreAt, at_append, item_among, named_at, not_twice}

-- the ports of a model, and the words of an instance, by numbers
module _ (d : NumberedData) where
  model_at : (m : ℕ) (model : BlifModelData) → slice_get (models_in d) m ≡ Some model
      → (m < length d.models) × (model.inputs ≡ named d.names (inputs_at d m)) × (model.outputs ≡ named d.names (outputs_at d m))
  model_at m model there =
      let within : m < length d.models = omega (arith, slice_get_within (models_in d) m model there, length-models_in d) in
      let a = slice_get-there d.models m within in
      let by = model_by (name_of d.names a.0.name) a.0.line (named d.names (inputs_at d m)) (named d.names (outputs_at d m)) (between (first_part d m) (first_part d (m + 1)) (parts_of d)) in
      let e : Some model ≡ Some by = sym there ∙ model_there d m a.0 a.1 in
      let is : model ≡ by = cc in
      (within, ap (λ (b : BlifModelData). b.inputs) is, ap (λ (b : BlifModelData). b.outputs) is)

  pub record IsInstanceOf (k : ℕ) (i : InstanceData) : Type 0 where
    pub within : k < length d.parts
    pub instance : IsInstance d k
    pub unit_is : i.unit ≡ slice_index_or (named d.names (words_at d k)) 0 []
    pub formals_are : formals_of i ≡ named d.names (firsts (drop 1 (words_at d k)))

  pub instance_there : (k : ℕ) (i : InstanceData) → slice_get (parts_of d) k ≡ Some (InstancePart i) → IsInstanceOf k i
  instance_there k i there = by a.0.kind refl (let e : Some (InstancePart i) ≡ Some (part_by d.text a.0.kind a.0.line words rows) = sym there ∙ part_there d k a.0 a.1 in cc)
    where
      words : List (List ℕ)
      words = named d.names (words_at d k)

      rows : List ℕ
      rows = rows_at d k

      within : k < length d.parts
      within = omega (arith, slice_get_within (parts_of d) k (InstancePart i) there, length-parts_of d)

      a : (part : PartAt) × (slice_get d.parts k ≡ Some part)
      a = slice_get-there d.parts k within

      by : (kind : PartKind) → a.0.kind ≡ kind → InstancePart i ≡ part_by d.text kind a.0.line words rows → IsInstanceOf k i
      by (at.Table on) is e = absurd cc
      by (at.Latch edge init) is e = absurd cc
      by at.Instance is e = let same : i ≡ instance_by a.0.line words = cc in record {
        within = within;
        instance = record { part = a.0; there = a.1; kind_is = is };
        unit_is = ap (λ (j : InstanceData). j.unit) same;
        formals_are = ap (λ (j : InstanceData). formals_of j) same
            ∙ ap (λ l. map (λ (b : Binding). b.formal) (bindings_by l)) (drop-map (name_of d.names) 1 (words_at d k))
            ∙ formals_named d.names (drop 1 (words_at d k));
      }

-- the instances of a model, and their models by number
module _ (d : NumberedData) (c : CardPlacesData) (places : AreCardPlaces d c) (units : List ℕ) (unit : AreUnits d units) where
  instance_place : (m : ℕ) (model : BlifModelData) → slice_get (models_in d) m ≡ Some model → (i : InstanceData) → Contains model.instances i
      → (k : ℕ) × (slice_get (parts_of d) k ≡ Some (InstancePart i))
  instance_place m model there i h =
      let j = slice_get-contained model.instances i h in
      let p = get_of_map (slice_get (parts_of d)) (places_at c.instances m) j.0 (Some (InstancePart i))
      (ap (λ q. slice_get q j.0) (places m model there).instances_are ∙ get_map Some (map InstancePart model.instances) j.0 (InstancePart i) (get_map InstancePart model.instances j.0 i j.1)) in
      (p.0, p.2)

  -- the model of an instance by its number
  pub unit_there : (k : ℕ) (i : InstanceData) → IsInstanceOf d k i
      → (n : BlifModelData) × (slice_get (models_in d) (slice_index_or units k 0) ≡ Some n) × (models_called (models_in d) i.unit ≡ n ∷ [])
  unit_there k i w =
      let u = slice_index_or units k 0 in
      let n = get_of_map (λ (m : BlifModelData). m.name) (models_in d) u i.unit (unit.units_are k w.instance ∙ ap Some (sym w.unit_is)) in
      (n.0, n.1, called_at (models_in d) unit.apart u n.0 i.unit n.1 n.2)

  pub callees_are : (m : ℕ) (model : BlifModelData) → slice_get (models_in d) m ≡ Some model
      → AreCallees (names_of_models (models_in d)) model.instances (map (λ k. slice_index_or units k 0) (places_at c.instances m))
  callees_are m model there = each (places_at c.instances m) model.instances (places m model there).instances_are
    where
      each : (ks : List ℕ) (is : List InstanceData) → AreAtPlaces d ks (map InstancePart is) → AreCallees (names_of_models (models_in d)) is (map (λ k. slice_index_or units k 0) ks)
      each [] [] e = refl
      each [] (i ∷ is) e = absurd cc
      each (k ∷ ks) [] e = absurd cc
      each (k ∷ ks) (i ∷ is) e =
          let head : slice_get (parts_of d) k ≡ Some (InstancePart i) = cc in
          let tail : map (slice_get (parts_of d)) ks ≡ map Some (map InstancePart is) = cc in
          let w = instance_there d k i head in
          let one = unit.units_are k w.instance ∙ ap Some (sym w.unit_is) in
          let rest = each ks is tail in
          (λ j. one j ∷ rest j)

module _ (d : NumberedData) (l : LocalNamesData) (names : AreLocalNames d l) where
  pub names_are : (m : ℕ) (model : BlifModelData) → slice_get (models_in d) m ≡ Some model → named d.names (names_in l m) ≡ model_names model
  names_are m model there =
      let h = same_at model_names (named d.names) (models_in d) l.models m model (sym names.models) there in
      ap (named d.names) (get_or_from_slice_get l.models m h.0 [] h.1) ∙ sym h.2

  pub inputs_placed : (m : ℕ) (model : BlifModelData) → slice_get (models_in d) m ≡ Some model → AreAt (model_names model) (inputs_in d l m) model.inputs
  inputs_placed m model there =
      let a = model_at d m model there in
      subst (λ n. AreAt n (inputs_in d l m) model.inputs) (names_are m model there)
      (subst (AreAt (named d.names (names_in l m)) (inputs_in d l m)) (sym a.1) (named_at d.names (names_in l m) (inputs_in d l m) (inputs_at d m) (names.inputs m a.0)))

  pub outputs_placed : (m : ℕ) (model : BlifModelData) → slice_get (models_in d) m ≡ Some model → AreAt (model_names model) (outputs_in d l m) model.outputs
  outputs_placed m model there =
      let a = model_at d m model there in
      subst (λ n. AreAt n (outputs_in d l m) model.outputs) (names_are m model there)
      (subst (AreAt (named d.names (names_in l m)) (outputs_in d l m)) (sym a.2) (named_at d.names (names_in l m) (outputs_in d l m) (outputs_at d m) (names.outputs m a.0)))

  pub formals_placed : (k : ℕ) (i : InstanceData) → IsInstanceOf d k i → (u : ℕ) (n : BlifModelData) → slice_get (models_in d) u ≡ Some n → IsUnitOf d k u
      → AreAt (model_names n) (formals_at d l k) (formals_of i)
  formals_placed k i w u n there unit =
      subst (λ m. AreAt m (formals_at d l k) (formals_of i)) (names_are u n there)
      (subst (AreAt (named d.names (names_in l u)) (formals_at d l k)) (sym w.formals_are)
      (named_at d.names (names_in l u) (formals_at d l k) (firsts (drop 1 (words_at d k))) (names.formals k u w.instance unit)))

  pub apart : (model : BlifModelData) → Apart (model_names model)
  apart model = unique_apart (names_of model)

  module _ (bound : ℕ) (marks : List (List ℕ)) (ports : HavePortMarks d l bound marks) where
    port_good : (m : ℕ) (model : BlifModelData) → slice_get (models_in d) m ≡ Some model → (p : Port) → Contains (ports_of_model model) p → IsTwiceIn p.list p.name → ⊥
    port_good m model there p c twice = elim (Contains-append_cases (ports_in model.line model.inputs) (ports_in model.line model.outputs) p c) [
      | inl h ↦ let x = contains_map (λ name. record { line = model.line; list = model.inputs; name = name }) model.inputs p h in
          not_twice (model_names model) (inputs_in d l m) model.inputs (apart model) (inputs_placed m model there) right.inputs_differ x.0 (subst (λ (q : Port). IsTwiceIn q.list q.name) x.2 twice)
      | inr h ↦ let x = contains_map (λ name. record { line = model.line; list = model.outputs; name = name }) model.outputs p h in
          not_twice (model_names model) (outputs_in d l m) model.outputs (apart model) (outputs_placed m model there) right.outputs_differ x.0 (subst (λ (q : Port). IsTwiceIn q.list q.name) x.2 twice)
    ]
      where
        row : (row : List ℕ) × (slice_get marks m ≡ Some row)
        row = slice_get-there marks m (let a = model_at d m model there in omega (arith, a.0, ports.count))

        right : ArePorts (inputs_in d l m) (outputs_in d l m) bound row.0
        right = ports.ports m row.0 row.1

    pub ports_good : NoneHolds IsDuplicatePort (flat_map ports_of_model (models_in d))
    ports_good k p at twice =
        let m = from_flat ports_of_model (models_in d) p (Contains-slice_get (flat_map ports_of_model (models_in d)) k p at) in
        port_good m.0 m.1 m.2 p m.3 twice

  module _ (c : CardPlacesData) (places : AreCardPlaces d c) (units : List ℕ) (unit : AreUnits d units) (all : AreBoundBelow d l units (length d.parts)) where
    formal_good : (k : ℕ) (i : InstanceData) → IsInstanceOf d k i → (n : BlifModelData) → slice_get (models_in d) (slice_index_or units k 0) ≡ Some n
        → (e : Formal) → Contains (formals_with i n) e → IsWrongFormal e → ⊥
    formal_good k i w n there e c wrong = elim (Contains-append_cases (map (BoundFormal i n) (formals_of i)) (map (InputFormal i) n.inputs) e c) [
      | inl h ↦ let x = contains_map (BoundFormal i n) (formals_of i) e h in bound_good x.0 x.1 (subst IsWrongFormal x.2 wrong)
      | inr h ↦ let x = contains_map (InputFormal i) n.inputs e h in
          (subst IsWrongFormal x.2 wrong) (item_among (model_names n) (inputs_in d l u) (formals_at d l k) n.inputs (formals_of i) (inputs_placed u n there) placed right.inputs_are x.0 x.1)
    ]
      where
        u : ℕ
        u = slice_index_or units k 0

        right : IsBoundAt d l u k
        right = all k u w.within (slice_get-get_or units k 0 (omega (arith, w.within, unit.count))) w.instance

        placed : AreAt (model_names n) (formals_at d l k) (formals_of i)
        placed = formals_placed k i w u n there (unit.units_are k w.instance)

        bound_good : (name : List ℕ) → Contains (formals_of i) name → IsWrongFormal (BoundFormal i n name) → ⊥
        bound_good name c (inl other) = other (item_among (model_names n) (formals_at d l k) (inputs_in d l u ++ outputs_in d l u) (formals_of i) (n.inputs ++ n.outputs) placed
            (at_append (model_names n) (inputs_in d l u) (outputs_in d l u) n.inputs n.outputs (inputs_placed u n there) (outputs_placed u n there)) right.ports_are name c)
        bound_good name c (inr twice) = not_twice (model_names n) (formals_at d l k) (formals_of i) (apart n) placed right.differ name twice

    pub formals_good : NoneHolds IsBadFormal (formals (file_of d))
    formals_good j e at wrong =
        let u = from_flat (formals_of_use (file_of d)) (uses (file_of d)) e (Contains-slice_get (formals (file_of d)) j e at) in
        let m = from_flat uses_in (models_in d) u.1 (Contains-slice_get (uses (file_of d)) u.0 u.1 u.2) in
        let i = contains_map (λ i. record { model = m.1; instance = i }) m.1.instances u.1 m.3 in
        let formals_are = subst (λ (v : Use). Contains (flat_map (formals_with v.instance) (models_called (models_in d) v.instance.unit)) e) i.2 u.3 in
        let k = instance_place d c places units unit m.0 m.1 m.2 i.0 i.1 in
        let w = instance_there d k.0 i.0 k.1 in
        let n = unit_there d c places units unit k.0 i.0 w in
        let f = from_flat (formals_with i.0) (n.0 ∷ []) e (subst (λ ms. Contains (flat_map (formals_with i.0) ms) e) n.2 formals_are) in
        let same : n.0 ≡ f.1 = only n.0 f.1 (Contains-slice_get (n.0 ∷ []) f.0 f.1 f.2) in
        formal_good k.0 i.0 w f.1 (n.1 ∙ ap Some same) e f.3 wrong

    -- nothing of the first four orders refuses the file
    pub accepted : (bound : ℕ) (marks : List (List ℕ)) → HavePortMarks d l bound marks → (nodes : List (List ℕ)) → AreCalls (names_of_models (models_in d)) (models_in d) nodes
        → NothingRefuses (file_of d) 4
    accepted bound marks ports nodes calls =
        let f = file_of d in
        let one = nothing_with f 0 DuplicateModel refl (nothing_yet f) (none_reported f IsDuplicateModel (models_in d) (λ m. m.line) (λ m. m.name) unit.apart) in
        let two = nothing_with f 1 DuplicatePort refl one (none_reported f IsDuplicatePort (flat_map ports_of_model (models_in d)) (λ p. p.line) (λ p. p.name) (ports_good bound marks ports)) in
        let three = nothing_with f 2 UnknownModel refl two (none_reported f (IsUseOfNone (names_of_models (models_in d))) (flat_map uses_in (models_in d))
        (λ u. u.instance.line) (λ u. u.instance.unit) (all_known (models_in d) nodes unit.apart calls)) in
        nothing_with f 3 BadFormal refl three (none_reported f IsBadFormal (formals f) line_of_formal name_of_formal formals_good)
