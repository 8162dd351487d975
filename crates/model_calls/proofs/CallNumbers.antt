-- What the loops over models and over their instances keep, that number the models by their names.
use Rattle.std.proofs.Common.{◌≡◌, ℕ, zero, suc, ◌<◌, ◌≤◌, ◌+◌, inl, inr, Bool, true, false, List, [], ◌∷◌, ◌++◌, length, map, take, Option, Some, None, ap, sym, ◌∙◌, subst, arith}
use Rattle.std.specs.Prelude.{Contains, slice_get}
use Rattle.std.specs.List.{flat_map}
use Rattle.std.proofs.lemmas.Bool.{cases_eq}
use Rattle.std.proofs.lemmas.List.{take_all}
use Rattle.std.proofs.lemmas.Option.{slice_get_within}
use Rattle.blif_ast.specs.BlifModelData.{BlifModelData}
use Rattle.blif_ast.specs.InstanceData.{InstanceData}
use Rattle.dom_base.proofs.Lists.{Contains-slice_get, map-push}
use Rattle.graph_order.proofs.Lists.{take_next}
use Rattle.network.proofs.Lists.{get_map, get_of_map, get_take}
use Rattle.model_calls.proofs.FirstFaults.{none_of_both, none_of_each, none_up_to, reported_at, reported_of_each}
use Rattle.model_calls.specs.CallNumbers.{AreCallees, AreCalls, AreNamed, IsOfNone, IsUseOfNone, names_of_models}
use Rattle.model_calls.specs.ModelFaults.{IsDuplicateModel, Use, uses_in}
use Rattle.model_calls.specs.NameNumbers.{IsNameAdded}
use Rattle.model_calls.specs.Refusals.{IsReported}
use Rattle.model_calls.specs.FirstFaults.{NoneHolds}

-- so many models were numbered
abbrev pub NoneBefore : List BlifModelData → ℕ → Type 0
NoneBefore models k = (j : ℕ) (m : BlifModelData) → j < k → slice_get models j ≡ Some m → IsDuplicateModel (take j models) m → ⊥

abbrev pub NamedUpTo : List BlifModelData → ℕ → List (List ℕ) → Type 0
NamedUpTo models k names = (names ≡ names_of_models (take k models)) × NoneBefore models k

pub named_next : (models : List BlifModelData) (k : ℕ) (m : BlifModelData) (names after : List (List ℕ)) (n : ℕ) (new : Bool) (name : List ℕ) → name ≡ m.name → slice_get models k ≡ Some m
    → NamedUpTo models k names → new ≡ true → IsNameAdded names name after n new → NamedUpTo models (k + 1) after
named_next models k m names after n false name is there named test added = absurd cc
named_next models k m names after n true name is there named test added = (
  added.0 ∙ ap (λ l. l ++ name ∷ []) named.0 ∙ ap (λ x. names_of_models (take k models) ++ x ∷ []) is
      ∙ sym (ap names_of_models (take_next models k m there) ∙ map-push (λ (b : BlifModelData). b.name) (take k models) m),
  none,
)
  where
    none : NoneBefore models (k + 1)
    none j other l at twice = elim (cases_eq j k) [
      | inl same ↦ (
          let one : other ≡ m = (let e : Some other ≡ Some m = sym at ∙ ap (slice_get models) same ∙ there in cc) in
          added.2 (subst (λ l. Contains l name) (sym named.0) (subst (Contains (names_of_models (take k models))) (ap (λ (b : BlifModelData). b.name) one ∙ sym is)
          (subst (λ i. Contains (names_of_models (take i models)) other.name) same twice)))
          )
      | inr apart ↦ named.1 j other (omega (arith, l, apart)) at twice
    ]

pub all_named : (models : List BlifModelData) (k : ℕ) (names : List (List ℕ)) → length models ≤ k → NamedUpTo models k names → AreNamed models names None
all_named models k names most named = (
  named.0 ∙ ap names_of_models (take_all k models most),
  λ j m at. named.1 j m (omega (arith, most, slice_get_within models j m at)) at,
)

-- the numbers of the models that instances name

pub callee_next : (names : List (List ℕ)) (instances : List InstanceData) (k : ℕ) (i : InstanceData) (next after : List ℕ) (number : ℕ) → slice_get instances k ≡ Some i
    → AreCallees names (take k instances) next → slice_get names number ≡ Some i.unit → after ≡ next ++ number ∷ [] → AreCallees names (take (k + 1) instances) after
callee_next names instances k i next after number there callees at pushed =
    ap (map (slice_get names)) pushed ∙ map-push (slice_get names) next number
    ∙ ap (λ l. l ++ slice_get names number ∷ []) callees ∙ ap (λ x. map (λ (j : InstanceData). Some j.unit) (take k instances) ++ x ∷ []) at
    ∙ sym (ap (map (λ (j : InstanceData). Some j.unit)) (take_next instances k i there) ∙ map-push (λ (j : InstanceData). Some j.unit) (take k instances) i)

pub known_next : (names : List (List ℕ)) (instances : List InstanceData) (k : ℕ) (i : InstanceData) → slice_get instances k ≡ Some i → NoneHolds (IsOfNone names) (take k instances)
    → Contains names i.unit → NoneHolds (IsOfNone names) (take (k + 1) instances)
known_next names instances k i there none known = subst (NoneHolds (IsOfNone names)) (sym (take_next instances k i there))
    (none_of_both (λ (j : InstanceData). Contains names j.unit → ⊥) (λ j. j.line) (λ j. j.unit) (take k instances) (i ∷ []) none one)
  where
    one : NoneHolds (IsOfNone names) (i ∷ [])
    one j e at bad = by j at
      where
        by : (j : ℕ) → slice_get (i ∷ []) j ≡ Some e → ⊥
        by zero at = let same : i ≡ e = cc in bad (subst (λ (x : InstanceData). Contains names x.unit) same known)
        by (suc j) at = let z : slice_get {X = InstanceData} [] j ≡ Some e = at in absurd cc

pub first_unknown : (names : List (List ℕ)) (instances : List InstanceData) (k : ℕ) (i : InstanceData) (line : ℕ) (name : List ℕ) → slice_get instances k ≡ Some i
    → NoneHolds (IsOfNone names) (take k instances) → (Contains names i.unit → ⊥) → line ≡ i.line → name ≡ i.unit
    → IsReported (IsOfNone names) instances (λ j. j.line) (λ j. j.unit) line name
first_unknown names instances k i line name there none unknown line_is name_is = record {
  element = i;
  first = record {
    index = k;
    there = there;
    holds = unknown;
    none_before = λ j other l at bad. none j other (get_take instances j k other l at) bad;
  };
  line_is = line_is;
  name_is = name_is;
}

-- the model of an instance by its number
pub known_at : (names : List (List ℕ)) (instances : List InstanceData) (callees : List ℕ) → AreCallees names instances callees → (k : ℕ) (i : InstanceData) → slice_get instances k ≡ Some i
    → (number : ℕ) × (slice_get callees k ≡ Some number) × (slice_get names number ≡ Some i.unit)
known_at names instances callees are k i there =
    get_of_map (slice_get names) callees k (Some i.unit) (ap (λ l. slice_get l k) are ∙ get_map (λ (j : InstanceData). Some j.unit) instances k i there)

module _ (names : List (List ℕ)) where
  abbrev pub OfNone : Use → Type 0
  OfNone u = Contains names u.instance.unit → ⊥

  abbrev use_in : BlifModelData → InstanceData → Use
  use_in m i = record { model = m; instance = i }

  pub none_unknown : (m : BlifModelData) (callees : List ℕ) → AreCallees names m.instances callees → NoneHolds (IsUseOfNone names) (uses_in m)
  none_unknown m callees are = none_of_each OfNone (λ u. u.instance.line) (λ u. u.instance.unit) (use_in m) m.instances
      (λ k i there bad. let h = known_at names m.instances callees are k i there in bad (Contains-slice_get names h.0 i.unit h.2))

  pub unknown_use : (m : BlifModelData) (line : ℕ) (name : List ℕ) → IsReported (IsOfNone names) m.instances (λ i. i.line) (λ i. i.unit) line name
      → IsReported (IsUseOfNone names) (uses_in m) (λ u. u.instance.line) (λ u. u.instance.unit) line name
  unknown_use m line name r = reported_of_each OfNone (λ u. u.instance.line) (λ u. u.instance.unit) (use_in m) m.instances r.first.index r.element r.first.there r.first.holds
      r.first.none_before line name r.line_is r.name_is

  module _ (models : List BlifModelData) (k : ℕ) (m : BlifModelData) (there : slice_get models k ≡ Some m) where
    pub calls_next : (nodes after : List (List ℕ)) (node : List ℕ) → AreCalls names (take k models) nodes → AreCallees names m.instances node → after ≡ nodes ++ node ∷ []
        → AreCalls names (take (k + 1) models) after
    calls_next nodes after node calls callees pushed =
        ap (map (map (slice_get names))) pushed ∙ map-push (map (slice_get names)) nodes node
        ∙ ap (λ l. l ++ map (slice_get names) node ∷ []) calls ∙ ap (λ x. map units (take k models) ++ x ∷ []) callees
        ∙ sym (ap (map units) (take_next models k m there) ∙ map-push units (take k models) m)
      where
        units : BlifModelData → List (Option (List ℕ))
        units b = map (λ (i : InstanceData). Some i.unit) b.instances

    pub known_uses_next : (node : List ℕ) → NoneHolds (IsUseOfNone names) (flat_map uses_in (take k models)) → AreCallees names m.instances node
        → NoneHolds (IsUseOfNone names) (flat_map uses_in (take (k + 1) models))
    known_uses_next node none callees = none_up_to OfNone (λ u. u.instance.line) (λ u. u.instance.unit) uses_in models k m there none (none_unknown m node callees)

    pub unknown_use_at : (line : ℕ) (name : List ℕ) → NoneHolds (IsUseOfNone names) (flat_map uses_in (take k models))
        → IsReported (IsOfNone names) m.instances (λ i. i.line) (λ i. i.unit) line name
        → IsReported (IsUseOfNone names) (flat_map uses_in models) (λ u. u.instance.line) (λ u. u.instance.unit) line name
    unknown_use_at line name none r = reported_at OfNone (λ u. u.instance.line) (λ u. u.instance.unit) uses_in models k m there line name none (unknown_use m line name r)
