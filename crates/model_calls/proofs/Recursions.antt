-- Models that reach themselves through instances, by their numbers.
use Rattle.std.proofs.Common.{◌≡◌, ℕ, zero, suc, ◌<◌, ◌≤◌, ◌⊎◌, inl, inr, List, [], ◌∷◌, length, take, Some, None, refl, ap, sym, ◌∙◌, subst, arith}
use Rattle.std.specs.Prelude.{Contains, slice_get}
use Rattle.std.specs.List.{flat_map}
use Rattle.std.proofs.lemmas.Bool.{cases_lt}
use Rattle.std.proofs.lemmas.List.Elements.{Contains-append_cases}
use Rattle.std.proofs.lemmas.Option.{slice_get-get_or, slice_get_within}
use Rattle.blif_ast.specs.BlifFileData.{BlifFileData}
use Rattle.blif_ast.specs.BlifModelData.{BlifModelData}
use Rattle.blif_ast.specs.InstanceData.{InstanceData}
use Rattle.dom_base.proofs.Lists.{Contains-slice_get, slice_get-contained}
use Rattle.graph_order.specs.Components.{AreComponents, IsJoined}
use Rattle.graph_order.specs.Orders.{IsSuccessor, LeadsOn, more as leads_more, step as leads_step, successors}
use Rattle.model_calls.proofs.CallNumbers.{known_at}
use Rattle.model_calls.proofs.FormalFaults.{callees_count, calls_at, calls_count}
use Rattle.network.proofs.Lists.{get_map, get_of_map, get_take}
use Rattle.model_calls.proofs.MainNames.{contains_flat}
use Rattle.model_calls.proofs.Pairs.{contains_to}
use Rattle.model_calls.proofs.FirstFaults.{none_of_each, reported_of_each}
use Rattle.model_calls.specs.CallNumbers.{AreCallees, AreCalls, names_of_models}
use Rattle.model_calls.specs.ModelFaults.{HasInstance, IsDuplicateModel, IsRecursion, Use, uses_in}
use Rattle.model_calls.specs.Reaches.{Reaches, more, step}
use Rattle.model_calls.specs.Recursions.{IsBack, IsFirstBack}
use Rattle.model_calls.specs.Refusals.{IsReported}
use Rattle.model_calls.specs.FirstFaults.{NoneHolds}

-- an element of lists for each of some things is one of the list of one of them
pub from_flat : {X Y : Type 0} (g : X → List Y) (xs : List X) (y : Y) → Contains (flat_map g xs) y → (k : ℕ) × (x : X) × (slice_get xs k ≡ Some x) × Contains (g x) y
from_flat g [] y c = absurd (omega (arith, c.1))
from_flat g (x ∷ xs) y c = elim (Contains-append_cases (g x) (flat_map g xs) y c) [
  | inl h ↦ (0, x, refl, h)
  | inr h ↦ let r = from_flat g xs y h in (suc r.0, r.1, r.2, r.3)
]

-- a name is that of one model
pub names_once : (models : List BlifModelData) → NoneHolds IsDuplicateModel models → (a b : ℕ) (x : List ℕ) → slice_get (names_of_models models) a ≡ Some x → slice_get (names_of_models models) b ≡ Some x → a ≡ b
names_once models none a b x e f = by (cases_lt a b) (cases_lt b a)
  where
    twice : (j k : ℕ) → j < k → slice_get (names_of_models models) j ≡ Some x → slice_get (names_of_models models) k ≡ Some x → ⊥
    twice j k l e f =
        let m = get_of_map (λ (m : BlifModelData). m.name) models k x f in
        let b = get_of_map (λ (m : BlifModelData). m.name) models j x e in
        none k m.0 m.1 (Contains-slice_get (names_of_models (take k models)) j m.0.name
        (get_map (λ (m : BlifModelData). m.name) (take k models) j b.0 (get_take models j k b.0 l b.1) ∙ ap Some (b.2 ∙ sym m.2)))

    by : (a < b) ⊎ (b ≤ a) → (b < a) ⊎ (a ≤ b) → a ≡ b
    by (inl l) _ = absurd (twice a b l e f)
    by (inr p) (inl l) = absurd (twice b a l f e)
    by (inr p) (inr q) = omega (arith, p, q)

-- a model that leads to another is reached from it where both are in one component
pub back_by_numbers : (nodes : List (List ℕ)) (numbers : List ℕ) → AreComponents nodes numbers → (a b x y : ℕ) → IsSuccessor nodes a b
    → slice_get numbers a ≡ Some x → slice_get numbers b ≡ Some y → (y ≡ x → IsBack nodes a b) × (IsBack nodes a b → y ≡ x)
back_by_numbers nodes numbers are a b x y next at there = (
  λ same. back (are.joined a b x at (there ∙ ap Some same)),
  λ h. sym (are.same a b x y at there (joined h)),
)
  where
    back : IsJoined nodes a b → IsBack nodes a b
    back (inl is) = inl (sym is)
    back (inr h) = inr h.1

    joined : IsBack nodes a b → IsJoined nodes a b
    joined (inl is) = inl (sym is)
    joined (inr lead) = inr (leads_step next, lead)

module _ (models : List BlifModelData) (nodes : List (List ℕ)) (apart : NoneHolds IsDuplicateModel models) (calls : AreCalls (names_of_models models) models nodes) where
  abbrev file : BlifFileData
  file = record { models = models }

  abbrev names : List (List ℕ)
  names = names_of_models models

  abbrev use_in : BlifModelData → InstanceData → Use
  use_in m i = record { model = m; instance = i }

  -- the callees of a model
  pub callees_of : (k : ℕ) (m : BlifModelData) → slice_get models k ≡ Some m → AreCallees names m.instances (successors nodes k)
  callees_of k m there =
      calls_at names models nodes calls k m (successors nodes k) there
      (slice_get-get_or nodes k [] (omega (arith, slice_get_within models k m there, calls_count names models nodes calls)))

  name_at : (k : ℕ) (m : BlifModelData) → slice_get models k ≡ Some m → slice_get names k ≡ Some m.name
  name_at k m there = get_map (λ (m : BlifModelData). m.name) models k m there

  -- steps by numbers are steps by names
  step_by_names : (a b : ℕ) (x : List ℕ) → IsSuccessor nodes a b → slice_get names a ≡ Some x → (y : List ℕ) × (slice_get names b ≡ Some y) × HasInstance file x y
  step_by_names a b x next at =
      let m = get_of_map (λ (m : BlifModelData). m.name) models a x at in
      let callees = callees_of a m.0 m.1 in
      let k = slice_get-contained (successors nodes a) b next in
      let within = slice_get_within (successors nodes a) k.0 b k.1 in
      let same_length = callees_count names m.0.instances (successors nodes a) callees in
      let i = instance_at m.0.instances k.0 (omega (arith, within, same_length)) in
      let h = known_at names m.0.instances (successors nodes a) callees k.0 i.0 i.1 in
      let same : h.0 ≡ b = (let e : Some h.0 ≡ Some b = sym h.1 ∙ k.1 in cc) in (
        i.0.unit,
        ap (slice_get names) (sym same) ∙ h.2,
        (
          use_in m.0 i.0,
          contains_flat uses_in models m.0 (use_in m.0 i.0) (Contains-slice_get models a m.0 m.1)
              (contains_to (λ j. use_in m.0 j) m.0.instances i.0 (Contains-slice_get m.0.instances k.0 i.0 i.1)),
          m.2,
          refl,
        ),
      )
    where
      instance_at : (is : List InstanceData) (k : ℕ) → k < length is → (i : InstanceData) × (slice_get is k ≡ Some i)
      instance_at [] k l = absurd (omega (arith, l))
      instance_at (i ∷ is) zero l = (i, refl)
      instance_at (i ∷ is) (suc k) l = instance_at is k (omega (arith, l))

  leads_by_names : {a b : ℕ} → LeadsOn nodes a b → (x : List ℕ) → slice_get names a ≡ Some x → (y : List ℕ) × (slice_get names b ≡ Some y) × Reaches (HasInstance file) x y
  leads_by_names (leads_step {a} {b} next) x at = let h = step_by_names a b x next at in (h.0, h.1, step h.2)
  leads_by_names (leads_more {a} {b} {c} next rest) x at = let h = step_by_names a b x next at in let r = leads_by_names rest h.0 h.1 in (r.0, r.1, more h.2 r.2)

  -- and steps by names are steps by numbers
  step_by_numbers : (x y : List ℕ) → HasInstance file x y → (a : ℕ) → slice_get names a ≡ Some x → (b : ℕ) × IsSuccessor nodes a b × (slice_get names b ≡ Some y)
  step_by_numbers x y (u, within, model, unit) a at =
      let k = from_flat uses_in models u within in
      let j = slice_get-contained (uses_in k.1) u k.3 in
      let i = get_of_map (λ i. use_in k.1 i) k.1.instances j.0 u j.1 in
      let same : k.0 ≡ a = names_once models apart k.0 a x (name_at k.0 k.1 k.2 ∙ ap Some (ap (λ (v : Use). v.model.name) i.2 ∙ model)) at in
      let callees = subst (λ n. AreCallees names k.1.instances (successors nodes n)) same (callees_of k.0 k.1 k.2) in
      let h = known_at names k.1.instances (successors nodes a) callees j.0 i.0 i.1 in
      (h.0, Contains-slice_get (successors nodes a) j.0 h.0 h.1, h.2 ∙ ap Some (ap (λ (v : Use). v.instance.unit) i.2 ∙ unit))

  reaches_by_numbers : {x y : List ℕ} → Reaches (HasInstance file) x y → (a : ℕ) → slice_get names a ≡ Some x → (b : ℕ) × LeadsOn nodes a b × (slice_get names b ≡ Some y)
  reaches_by_numbers (step {a} {b} s) n at = let h = step_by_numbers a b s n at in (h.0, leads_step h.1, h.2)
  reaches_by_numbers (more {a} {b} {c} s rest) n at = let h = step_by_numbers a b s n at in let r = reaches_by_numbers rest h.0 h.2 in (r.0, leads_more h.1 r.1, r.2)

  module _ (k : ℕ) (m : BlifModelData) (there : slice_get models k ≡ Some m) (i : InstanceData) (unit : ℕ) (known : slice_get names unit ≡ Some i.unit) where
    pub back_is : IsBack nodes k unit → IsRecursion file [] (use_in m i)
    back_is (inl same) = inl (let e : Some i.unit ≡ Some m.name = sym known ∙ ap (slice_get names) same ∙ name_at k m there in cc)
    back_is (inr lead) = let h = leads_by_names lead i.unit known in
        inr (subst (Reaches (HasInstance file) i.unit) (let e : Some h.0 ≡ Some m.name = sym h.1 ∙ name_at k m there in cc) h.2)

    pub is_back : IsRecursion file [] (use_in m i) → IsBack nodes k unit
    is_back (inl same) = inl (names_once models apart unit k i.unit known (name_at k m there ∙ ap Some (sym same)))
    is_back (inr reaches) = let h = reaches_by_numbers reaches unit known in inr (subst (LeadsOn nodes unit) (names_once models apart h.0 k m.name h.2 (name_at k m there)) h.1)

  -- the instances of one model
  module _ (k : ℕ) (m : BlifModelData) (there : slice_get models k ≡ Some m) where
    known_in : (j : ℕ) (i : InstanceData) → slice_get m.instances j ≡ Some i → (unit : ℕ) × (slice_get (successors nodes k) j ≡ Some unit) × (slice_get names unit ≡ Some i.unit)
    known_in j i at = known_at names m.instances (successors nodes k) (callees_of k m there) j i at

    pub no_recursion_in : IsFirstBack nodes k None → NoneHolds (IsRecursion file) (uses_in m)
    no_recursion_in none = none_of_each (IsRecursion file []) (λ u. u.instance.line) (λ u. u.instance.unit) (use_in m) m.instances
        (λ j i at bad. let h = known_in j i at in none j h.0 h.1 (is_back k m there i h.0 h.2 bad))

    pub index_within : (first : ℕ) → IsFirstBack nodes k (Some first) → first < length m.instances
    index_within first h = omega (arith, slice_get_within (successors nodes k) first h.0.0 h.0.1, callees_count names m.instances (successors nodes k) (callees_of k m there))

    pub recursion_in : (first : ℕ) (i : InstanceData) (line : ℕ) (name : List ℕ) → IsFirstBack nodes k (Some first) → slice_get m.instances first ≡ Some i → line ≡ i.line → name ≡ i.unit
        → IsReported (IsRecursion file) (uses_in m) (λ u. u.instance.line) (λ u. u.instance.unit) line name
    recursion_in first i line name h at line_is name_is =
        let here = known_in first i at in
        let same : h.0.0 ≡ here.0 = (let e : Some h.0.0 ≡ Some here.0 = sym h.0.1 ∙ here.1 in cc) in
        reported_of_each (IsRecursion file []) (λ u. u.instance.line) (λ u. u.instance.unit) (use_in m) m.instances first i at
        (back_is k m there i here.0 here.2 (subst (IsBack nodes k) same h.0.2))
        (λ j other l there_other bad. let o = known_in j other there_other in h.1 j o.0 l o.1 (is_back k m there other o.0 o.2 bad)) line name line_is name_is
