-- A file in which a formal is no name of its instance's model is refused for a formal.
use Rattle.std.proofs.Common.{◌≡◌, ℕ, zero, suc, ◌<◌, ◌+◌, ◌-◌, inl, List, [], ◌∷◌, ◌++◌, length, drop, map, take, Some, refl, ap, sym, ◌∙◌, subst, arith}
use Rattle.std.specs.Prelude.{Contains, slice_get}
use Rattle.std.specs.List.{AllByRecursion, filter_map, flat_map}
use Rattle.std.proofs.lemmas.List.{drop-map}
use Rattle.std.proofs.lemmas.List.Elements.{Contains-append_left}
use Rattle.std.proofs.lemmas.Option.{get_or_from_slice_get}
use Rattle.dom_base.proofs.Lists.{AllByRecursion-contains, AllByRecursion-drop, Contains-slice_get, slice_get-contained, slice_get-there}
use Rattle.blif_ast.specs.declared.instance.Binding.{Binding}
use Rattle.blif_ast.specs.BlifModelData.{BlifModelData}
use Rattle.blif_ast.specs.InstanceData.{InstanceData}
use Rattle.numbered_file.specs.declared.parts.ModelAt.{ModelAt}
use Rattle.numbered_file.specs.NumberedData.{NumberedData}
use Rattle.numbered_file.specs.Numbered.{AreBelow, InstancePart, IsNumbered, Part, between, bindings_by, file_of, instance_by, instance_in, model_by, models_in, name_of, named, part_by, parts_of}
use Rattle.numbered_file.specs.Places.{first_part, inputs_at, outputs_at, rows_at, words_at}
use Rattle.numbered_file.proofs.Places.{model_there, part_there, words_below}
use Rattle.card_places.proofs.KindPlaces.{get-between}
use Rattle.card_places.proofs.PartPlans.{place-of}
use Rattle.network.proofs.IndexedLists.{same_at}
use Rattle.network.proofs.Lists.{contains_map, get_of_map}
use Rattle.local_names.specs.LocalNames.{firsts}
use Rattle.local_names.specs.LostFormals.{HasLostFormal}
use Rattle.local_names.specs.Units.{AreUnits}
use Rattle.local_names.proofs.FormalNames.{formals_named}
use Rattle.local_names.proofs.KeptNumbers.{number_once}
use Rattle.model_calls.proofs.Fitting.{contains_unique}
use Rattle.model_calls.proofs.FormalFaults.{called_at}
use Rattle.model_calls.proofs.MainNames.{contains_flat}
use Rattle.model_calls.proofs.Pairs.{contains_to}
use Rattle.model_calls.specs.FirstFaults.{NoneHolds}
use Rattle.model_calls.specs.ModelCalls.{NothingRefuses}
use Rattle.model_calls.specs.ModelFaults.{BoundFormal, InputFormal, IsBadFormal, Use, formals, formals_of, formals_of_use, formals_with, line_of_formal, name_of_formal, uses, uses_in}
use Rattle.model_calls.specs.Occurrences.{actuals_of, models_called, names_of, names_of_latch, names_of_table}
use Rattle.model_calls.specs.Refusals.{IsReported}
use Rattle.model_calls.specs.declared.fault.FlatKind.TheVariants.{BadFormal}
use Rattle.part_numbers.specs.SignalNumbers.{model_names}

-- where no element can be the first of which something holds, it holds of none
pub none_unreported : {Element : Type 0} (Holds : List Element → Element → Type 0) (all : List Element) (line_of : Element → ℕ) (name_of : Element → List ℕ)
    → ((line : ℕ) (name : List ℕ) → IsReported Holds all line_of name_of line name → ⊥) → NoneHolds Holds all
none_unreported {Element} Holds all line_of name_of never k e there holds = up_to (k + 1) k e (omega arith) there holds
  where
    up_to : (n k : ℕ) (e : Element) → k < n → slice_get all k ≡ Some e → Holds (take k all) e → ⊥
    up_to zero k e l there holds = omega (arith, l)
    up_to (suc n) k e l there holds = never (line_of e) (name_of e) (record {
      element = e;
      first = record { index = k; there = there; holds = holds; none_before = λ j other lower. up_to n j other (omega (arith, l, lower)) };
      line_is = refl;
      name_is = refl;
    })

firsts-each : (P : ℕ → Type 0) (words : List ℕ) → AllByRecursion P words → AllByRecursion P (firsts words)
firsts-each P [] h = tt
firsts-each P (a ∷ []) h = tt
firsts-each P (a ∷ b ∷ words) h = (h.0, firsts-each P words h.1.1)

-- a port is a name that occurs in the model
port_is_name : (n : BlifModelData) (name : List ℕ) → Contains (n.inputs ++ n.outputs) name → Contains (names_of n) name
port_is_name n name c =
    let ports = n.inputs ++ n.outputs in
    let tables = flat_map names_of_table n.tables in
    let latches = flat_map names_of_latch n.latches in
    Contains-append_left (ports ++ tables ++ latches) (flat_map actuals_of n.instances) name
    (Contains-append_left (ports ++ tables) latches name (Contains-append_left ports tables name c))

module _ (d : NumberedData) (h : IsNumbered d) (units : List ℕ) (unit : AreUnits d units) (models : List (List ℕ))
    (names : map (named d.names) models ≡ map model_names (models_in d)) (below : AllByRecursion (AreBelow (length d.names)) models)
    (l : HasLostFormal d models) where
  abbrev words : List (List ℕ)
  words = named d.names (words_at d l.place)

  abbrev instance : InstanceData
  instance = instance_by l.instance.part.line words

  abbrev name : List ℕ
  name = name_of d.names l.lost.formal

  part_is : slice_get (parts_of d) l.place ≡ Some (InstancePart instance)
  part_is = part_there d l.place l.instance.part l.instance.there
      ∙ ap (λ kind. Some (part_by d.text kind l.instance.part.line words (rows_at d l.place))) l.instance.kind_is

  -- the model that the instance stands in
  at : (m : ModelAt) × (slice_get d.models l.model ≡ Some m)
  at = slice_get-there d.models l.model l.within

  abbrev parts : List Part
  parts = between (first_part d l.model) (first_part d (l.model + 1)) (parts_of d)

  abbrev model : BlifModelData
  model = model_by (name_of d.names at.0.name) at.0.line (named d.names (inputs_at d l.model)) (named d.names (outputs_at d l.model)) parts

  stands : Contains model.instances instance
  stands =
      let index = l.place - first_part d l.model in
      let behind : first_part d l.model + index ≡ l.place = omega (arith, l.of_model.0) in
      let there = get-between (first_part d l.model) (first_part d (l.model + 1)) (parts_of d) index (InstancePart instance) (omega (arith, behind, l.of_model.1))
      (ap (slice_get (parts_of d)) behind ∙ part_is) in
      Contains-slice_get (filter_map instance_in parts) (length (filter_map instance_in (take index parts))) instance
      (place-of instance_in parts index (InstancePart instance) instance there refl)

  -- the model that it names
  unit_model : (n : BlifModelData) × (slice_get (models_in d) l.unit ≡ Some n) × (n.name ≡ instance.unit)
  unit_model = get_of_map (λ (m : BlifModelData). m.name) (models_in d) l.unit instance.unit l.named

  abbrev n : BlifModelData
  n = unit_model.0

  formals_are : formals_of instance ≡ named d.names (firsts (drop 1 (words_at d l.place)))
  formals_are = ap (λ ws. map (λ (b : Binding). b.formal) (bindings_by ws)) (drop-map (name_of d.names) 1 (words_at d l.place))
      ∙ formals_named d.names (drop 1 (words_at d l.place))

  bound : Contains (formals_of instance) name
  bound = subst (λ ns. Contains ns name) (sym formals_are) (contains_to (name_of d.names) (firsts (drop 1 (words_at d l.place))) l.lost.formal l.lost.bound)

  among : Contains (formals (file_of d)) (BoundFormal instance n name)
  among =
      let the_use : Use = record { model = model; instance = instance } in
      let used = contains_flat uses_in (models_in d) model the_use
      (Contains-slice_get (models_in d) l.model model (model_there d l.model at.0 at.1)) (contains_to (λ i. record { model = model; instance = i }) model.instances instance stands) in
      let called : models_called (models_in d) instance.unit ≡ n ∷ [] = called_at (models_in d) unit.apart l.unit n instance.unit unit_model.1 unit_model.2 in
      let of_unit = Contains-append_left (map (BoundFormal instance n) (formals_of instance)) (map (InputFormal instance) n.inputs) (BoundFormal instance n name)
      (contains_to (BoundFormal instance n) (formals_of instance) name bound) in
      contains_flat (formals_of_use (file_of d)) (uses (file_of d)) the_use (BoundFormal instance n name) used
      (subst (λ ms. Contains (flat_map (formals_with instance) ms) (BoundFormal instance n name)) (sym called)
      (Contains-append_left (formals_with instance n) [] (BoundFormal instance n name) of_unit))

  -- a port is a name of the model
  port_named : Contains (n.inputs ++ n.outputs) name → Contains (model_names n) name
  port_named c = contains_unique (names_of n) name (port_is_name n name c)

  no_port : Contains (n.inputs ++ n.outputs) name → ⊥
  no_port c =
      let row = same_at model_names (named d.names) (models_in d) models l.unit n (sym names) unit_model.1 in
      let other = contains_map (name_of d.names) row.0 name (subst (λ ns. Contains ns name) row.2 (port_named c)) in
      let other_in = AllByRecursion-contains (λ k. k < length d.names) row.0 other.0
      (AllByRecursion-contains (AreBelow (length d.names)) models row.0 below (Contains-slice_get models l.unit row.0 row.1)) other.1 in
      let formal_in = AllByRecursion-contains (λ k. k < length d.names) (firsts (drop 1 (words_at d l.place))) l.lost.formal
      (firsts-each (λ k. k < length d.names) (drop 1 (words_at d l.place)) (AllByRecursion-drop (λ k. k < length d.names) 1 (words_at d l.place) (words_below d h l.place))) l.lost.bound in
      let one = number_once d.names h.names l.lost.formal other.0 formal_in other_in other.2 in
      l.lost.none (subst (λ ns. Contains ns l.lost.formal) (sym (get_or_from_slice_get models l.unit row.0 [] row.1)) (subst (Contains row.0) (sym one) other.1))

  pub lost_refused : NothingRefuses (file_of d) 5 → ⊥
  lost_refused nothing =
      let none = none_unreported IsBadFormal (formals (file_of d)) line_of_formal name_of_formal (λ line name. nothing BadFormal line name (omega arith)) in
      let place = slice_get-contained (formals (file_of d)) (BoundFormal instance n name) among in
      none place.0 (BoundFormal instance n name) place.1 (inl no_port)
