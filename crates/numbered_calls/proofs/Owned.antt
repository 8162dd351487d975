-- The models of a file by the numbers of their names, and the models of its instances.
use Rattle.std.proofs.Common.{◌≡◌, ℕ, ◌<◌, ◌+◌, inl, inr, List, [], ◌∷◌, ◌++◌, length, map, replicate, take, refl, ap, sym, ◌∙◌, subst, arith}
use Rattle.std.specs.Prelude.{None, Some, slice_get, slice_index_or, slice_set}
use Rattle.std.proofs.lemmas.Option.{get_or_from_slice_get, none-some, slice_get-get_or, slice_get_within}
use Rattle.blif_ast.specs.BlifModelData.{BlifModelData}
use Rattle.numbered_file.specs.declared.parts.ModelAt.{ModelAt}
use Rattle.numbered_file.specs.declared.parts.PartAt.{PartAt}
use Rattle.numbered_file.specs.declared.parts.PartKind.TheVariants.{Instance}
use Rattle.numbered_file.specs.NumberedData.{NumberedData}
use Rattle.numbered_file.specs.Numbered.{IsNumbered, Part, models_from, models_in, name_of, named, parts_of}
use Rattle.numbered_file.specs.Places.{words_at}
use Rattle.dom_base.proofs.Lists.{AllByRecursion-contains, Contains-slice_get, slice_get-append, slice_get-contained, slice_get-push, slice_get-push_cases, slice_get-set_other}
use Rattle.graph_order.proofs.Placed.{set_here}
use Rattle.network.proofs.IndexedLists.{get_replicate, get_set, take_get}
use Rattle.network.proofs.Lists.{get_map, get_of_map}
use Rattle.local_names.proofs.KeptNumbers.{number_once}
use Rattle.local_names.specs.LocalNames.{IsInstance, IsUnitOf}
use Rattle.local_names.specs.Units.{AreUnits}
use Rattle.model_calls.specs.CallNumbers.{names_of_models}
use Rattle.model_calls.specs.FirstFaults.{NoneHolds}
use Rattle.model_calls.specs.ModelFaults.{IsDuplicateModel}
use Rattle.numbered_calls.specs.Owners.{AreOwners, HaveNameTwice, NamesNoModel}

pub no_owners : (count : ℕ) → AreOwners [] (replicate count 0)
no_owners count = record {
  owned = λ name m e. let z : 0 ≡ m + 1 = get_replicate count 0 name (m + 1) e in absurd (omega (arith, z));
  named = λ m at e. absurd cc;
}

module _ (models : List ModelAt) (owners : List ℕ) (at : ModelAt) (h : AreOwners models owners) (unowned : slice_get owners at.name ≡ Some 0) where
  owned : (name m : ℕ) → slice_get (slice_set owners at.name (length models + 1)) name ≡ Some (m + 1)
      → (a : ModelAt) × (slice_get (models ++ at ∷ []) m ≡ Some a) × (a.name ≡ name)
  owned name m e = elim (get_set owners at.name name (length models + 1) (m + 1) e) [
    | inl p ↦ let place : length models ≡ m = omega (arith, p.1) in
        (at, subst (λ n. slice_get (models ++ at ∷ []) n ≡ Some at) place (slice_get-push models at), sym p.0)
    | inr p ↦ let o = h.owned name m p.1 in (o.0, slice_get-append models (at ∷ []) m o.0 o.1, o.2)
  ]

  other : (m : ℕ) (a : ModelAt) → slice_get models m ≡ Some a → a.name ≡ at.name → ⊥
  other m a there same =
      let e : Some (m + 1) ≡ Some 0 = sym (h.named m a there) ∙ ap (slice_get owners) same ∙ unowned in
      let z : m + 1 ≡ 0 = cc in
      omega (arith, z)

  each_named : (m : ℕ) (a : ModelAt) → slice_get (models ++ at ∷ []) m ≡ Some a → slice_get (slice_set owners at.name (length models + 1)) a.name ≡ Some (m + 1)
  each_named m a there = elim (slice_get-push_cases models at m a there) [
    | inl old ↦ slice_get-set_other owners at.name a.name (length models + 1) (other m a old) ∙ h.named m a old
    | inr new ↦
        let name_is : a.name ≡ at.name = ap (λ (b : ModelAt). b.name) (sym new.1) in
        ap (slice_get (slice_set owners at.name (length models + 1))) name_is
        ∙ set_here owners at.name (length models + 1) (slice_get_within owners at.name 0 unowned) ∙ ap (λ n. Some (n + 1)) (sym new.0)
  ]

  pub next_owner : AreOwners (models ++ at ∷ []) (slice_set owners at.name (length models + 1))
  next_owner = record { owned = owned; named = each_named }

-- a model's name that another model has
pub owned_twice : (models : List ModelAt) (owners : List ℕ) (i owner : ℕ) (at : ModelAt) → AreOwners (take i models) owners → slice_get models i ≡ Some at
    → slice_get owners at.name ≡ Some (owner + 1) → HaveNameTwice models
owned_twice models owners i owner at h there has =
    let o = h.owned at.name owner has in
    let t = take_get models i owner o.0 o.1 in
    record { earlier = owner; later = i; first = o.0; second = at; order = t.0; first_there = t.1; second_there = there; one_name = o.2 }

-- the names of the models of a file
names_from : (names inputs outputs : List (List ℕ)) (parts : List Part) (input output part : ℕ) (models : List ModelAt)
    → names_of_models (models_from names inputs outputs parts input output part models) ≡ map (λ (m : ModelAt). name_of names m.name) models
names_from names inputs outputs parts input output part [] = refl
names_from names inputs outputs parts input output part (m ∷ ms) =
    ap (λ l. name_of names m.name ∷ l) (names_from names inputs outputs parts m.inputs_end m.outputs_end m.parts_end ms)

pub names_in_file : (d : NumberedData) → names_of_models (models_in d) ≡ map (λ (m : ModelAt). name_of d.names m.name) d.models
names_in_file d = names_from d.names (named d.names d.inputs) (named d.names d.outputs) (parts_of d) 0 0 0 d.models

-- the number of the name of a model of a file
pub numbered : (d : NumberedData) (k : ℕ) (name : List ℕ) → slice_get (names_of_models (models_in d)) k ≡ Some name
    → (m : ModelAt) × (slice_get d.models k ≡ Some m) × (name_of d.names m.name ≡ name)
numbered d k name e = get_of_map (λ (m : ModelAt). name_of d.names m.name) d.models k name (ap (λ l. slice_get l k) (sym (names_in_file d)) ∙ e)

module _ (d : NumberedData) (owners : List ℕ) (h : AreOwners d.models owners) where
  pub models_apart : IsNumbered d → NoneHolds IsDuplicateModel (models_in d)
  models_apart inside k m there twice =
      let c = slice_get-contained (names_of_models (take k (models_in d))) m.name twice in
      let b = get_of_map (λ (m : BlifModelData). m.name) (take k (models_in d)) c.0 m.name c.1 in
      let t = take_get (models_in d) k c.0 b.0 b.1 in
      let one = numbered d c.0 m.name (get_map (λ (m : BlifModelData). m.name) (models_in d) c.0 b.0 t.1 ∙ ap Some b.2) in
      let two = numbered d k m.name (get_map (λ (m : BlifModelData). m.name) (models_in d) k m there) in
      let same : one.0.name ≡ two.0.name = number_once d.names inside.names one.0.name two.0.name (below c.0 one.0 one.1) (below k two.0 two.1) (one.2 ∙ sym two.2) in
      let e : Some (c.0 + 1) ≡ Some (k + 1) = sym (h.named c.0 one.0 one.1) ∙ ap (slice_get owners) same ∙ h.named k two.0 two.1 in
      let z : c.0 + 1 ≡ k + 1 = cc in
      omega (arith, t.0, z)
    where
      below : (i : ℕ) (m : ModelAt) → slice_get d.models i ≡ Some m → m.name < length d.names
      below i m e = AllByRecursion-contains (λ (m : ModelAt). m.name < length d.names) d.models m inside.model_names (Contains-slice_get d.models i m e)

  -- the model of an instance by the first of its words
  pub unit_is : (k word unit : ℕ) → slice_get (words_at d k) 0 ≡ Some word → slice_get owners word ≡ Some (unit + 1) → IsUnitOf d k unit
  unit_is k word unit first owner =
      let o = h.owned word unit owner in
      ap (λ l. slice_get l unit) (names_in_file d) ∙ get_map (λ (m : ModelAt). name_of d.names m.name) d.models unit o.0 o.1 ∙ ap (λ n. Some (name_of d.names n)) o.2
      ∙ ap Some (sym (get_or_from_slice_get (named d.names (words_at d k)) 0 (name_of d.names word) [] (get_map (name_of d.names) (words_at d k) 0 word first)))

  -- an instance whose first word, if it has one, no model has as its name
  names_none : (k : ℕ) → IsInstance d k → ((word : ℕ) → slice_get (words_at d k) 0 ≡ Some word → (owner : ℕ) → slice_get owners word ≡ Some owner → owner ≡ 0) → NamesNoModel d k
  names_none k is none = record {
    instance = is;
    unknown = λ word first m at there same.
        let zero = none word first (m + 1) (ap (slice_get owners) (sym same) ∙ h.named m at there) in
        omega (arith, zero);
  }

  pub no_owner : (k name : ℕ) → IsInstance d k → slice_get (words_at d k) 0 ≡ Some name → ((owner : ℕ) → slice_get owners name ≡ Some owner → owner ≡ 0) → NamesNoModel d k
  no_owner k name is first none = names_none k is (λ word e owner has.
      let q : Some word ≡ Some name = sym e ∙ first in
      let same : word ≡ name = cc in
      none owner (subst (λ w. slice_get owners w ≡ Some owner) same has))

  pub no_word : (k : ℕ) → IsInstance d k → slice_get (words_at d k) 0 ≡ None → NamesNoModel d k
  no_word k is none = names_none k is (λ word e. absurd (none-some word (sym none ∙ e)))

-- a part that is an instance
pub instance_here : (d : NumberedData) (k : ℕ) (parts : List PartAt) → parts ≡ d.parts → (part : PartAt) × (slice_get parts k ≡ Some part) × (part.kind ≡ Instance)
    → IsInstance d k
instance_here d k parts are h = record { part = h.0; there = ap (λ l. slice_get l k) (sym are) ∙ h.1; kind_is = h.2 }

-- a part that is no instance
pub no_instance : (d : NumberedData) (k : ℕ) → ((part : PartAt) → slice_get d.parts k ≡ Some part → part.kind ≡ Instance → ⊥) → IsInstance d k → ⊥
no_instance d k other is = other is.part is.there is.kind_is

-- a number for each of the first parts, which for an instance is that of its model
abbrev pub HaveUnits : NumberedData → List ℕ → Type 0
HaveUnits d units = (k unit : ℕ) → slice_get units k ≡ Some unit → IsInstance d k → IsUnitOf d k unit

pub no_units : (d : NumberedData) → HaveUnits d []
no_units d k unit e = absurd cc

-- units of the first parts
pub next_unit : (d : NumberedData) (units : List ℕ) (unit : ℕ) → HaveUnits d units → (IsInstance d (length units) → IsUnitOf d (length units) unit) → HaveUnits d (units ++ unit ∷ [])
next_unit d units unit have new k u e is = elim (slice_get-push_cases units unit k u e) [
  | inl old ↦ have k u old is
  | inr p ↦ subst (IsUnitOf d k) p.1 (subst (λ n. IsUnitOf d n unit) (sym p.0) (new (subst (IsInstance d) p.0 is)))
]

pub all_units : (d : NumberedData) (units : List ℕ) → NoneHolds IsDuplicateModel (models_in d) → length units ≡ length d.parts → HaveUnits d units → AreUnits d units
all_units d units apart count have = record {
  apart = apart;
  count = count;
  units_are = λ k is. have k (slice_index_or units k 0) (slice_get-get_or units k 0 (omega (arith, count, slice_get_within d.parts k is.part is.there))) is;
}
