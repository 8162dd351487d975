-- What the loops over instances keep, that look for the first formal that is wrong.
use Rattle.std.proofs.Common.{◌≡◌, ℕ, zero, suc, ◌<◌, ◌+◌, inl, inr, Bool, true, false, ◌||◌, List, [], ◌∷◌, ◌++◌, length, map, take, Option, Some, None, refl, ap, sym, ◌∙◌, subst, arith, append-nil, cond}
use Rattle.std.specs.Prelude.{Contains, nat_eq, slice_get}
use Rattle.std.specs.HashMap.{HashMap, get}
use Rattle.std.specs.List.{find, flat_map, list_any}
use Rattle.std.specs.Map.{lookup}
use Rattle.std.specs.Option.{option_to_list}
use Rattle.std.specs.Cmp.Lexicographic.{bytes_decides}
use Rattle.std.proofs.lemmas.Bool.{eqb-true, false_from_ne_true}
use Rattle.std.proofs.lemmas.List.{length-map, take_all}
use Rattle.std.proofs.lemmas.List.Concat.{flat_map-append}
use Rattle.std.proofs.lemmas.List.Folds.{flat_map-map}
use Rattle.blif_ast.specs.Cards.{same}
use Rattle.blif_ast.specs.BlifFileData.{BlifFileData}
use Rattle.blif_ast.specs.BlifModelData.{BlifModelData}
use Rattle.blif_ast.specs.InstanceData.{InstanceData}
use Rattle.dom_base.proofs.Lists.{Contains-slice_get, slice_get-contained, slice_get-push_cases}
use Rattle.graph_order.proofs.Lists.{take_next}
use Rattle.model_calls.proofs.CallNumbers.{known_at}
use Rattle.network.proofs.Lists.{get_map, get_of_map, get_take}
use Rattle.model_calls.proofs.FirstFaults.{behind_none, none_of_each, reported_of_each}
use Rattle.model_calls.proofs.Scans.{scan_faults}
use Rattle.model_calls.specs.CallNumbers.{AreCallees, AreCalls, names_of_models}
use Rattle.model_calls.specs.declared.first_fault.FirstFault.{FirstFault}
use Rattle.model_calls.specs.Formals.{HavePorts, IsUnbound, formals_in_model, formals_of_instance, names_of_ports}
use Rattle.model_calls.specs.ModelFaults.{BoundFormal, InputFormal, IsBadFormal, IsDuplicateModel, IsWrongFormal, formals, formals_of, formals_of_use, formals_with, line_of_formal, name_of_formal, uses_in}
use Rattle.model_calls.specs.Occurrences.{models_called}
use Rattle.model_calls.specs.Refusals.{IsReported}
use Rattle.model_calls.specs.FirstFaults.{IsFirstFaultIn, NoneHolds}
use Rattle.model_calls.specs.Scans.{AreFirsts, IsScan, IsWrong, IsFirstWrongName, ScanData}

-- names in order of first appearance are those of the list
pub firsts_have : (all names : List (List ℕ)) → AreFirsts all names → (x : List ℕ) → Contains all x → Contains names x
firsts_have all names firsts x c = let k = slice_get-contained all x c in let h = firsts.each k.0 x k.1 in Contains-slice_get names h.0 x h.1

pub firsts_only : (all names : List (List ℕ)) → AreFirsts all names → (x : List ℕ) → Contains names x → Contains all x
firsts_only all names firsts x c = let k = slice_get-contained names x c in let h = firsts.first k.0 x k.1 in Contains-slice_get all h.0 x h.1

module _ (i : InstanceData) (unit : BlifModelData) (s : ScanData) (scan : IsScan (Contains (names_of_ports unit)) (formals_of i) (formals_of i) s) where
  wrong_holds : (x : List ℕ) → IsWrong (Contains (names_of_ports unit)) (formals_of i) x → IsWrongFormal (BoundFormal i unit x)
  wrong_holds x (inl bad) = inl bad
  wrong_holds x (inr twice) = inr twice

  holds_wrong : (x : List ℕ) → IsWrongFormal (BoundFormal i unit x) → IsWrong (Contains (names_of_ports unit)) (formals_of i) x
  holds_wrong x (inl bad) = inl bad
  holds_wrong x (inr twice) = inr twice

  pub bound_fault : (found : Option FirstFault) → IsFirstWrongName s i.line found → IsFirstFaultIn IsBadFormal (map (BoundFormal i unit) (formals_of i)) line_of_formal name_of_formal found
  bound_fault = scan_faults IsWrongFormal line_of_formal name_of_formal (BoundFormal i unit) (Contains (names_of_ports unit)) (formals_of i) wrong_holds holds_wrong i.line (λ x. refl) (λ x. refl)
      s (length (formals_of i)) (omega arith) (subst (λ seen. IsScan (Contains (names_of_ports unit)) (formals_of i) seen s) (sym (take_all (length (formals_of i)) (formals_of i) (omega arith))) scan)

  inputs_report : (found : Option FirstFault) → IsFirstFaultIn (IsUnbound s.names) unit.inputs (λ x. i.line) (λ x. x) found
      → IsFirstFaultIn IsBadFormal (map (InputFormal i) unit.inputs) line_of_formal name_of_formal found
  inputs_report None none = none_of_each IsWrongFormal line_of_formal name_of_formal (InputFormal i) unit.inputs
      (λ k x there bad. none k x there (λ c. bad (firsts_only (formals_of i) s.names scan.firsts x c)))
  inputs_report (Some r) h = reported_of_each IsWrongFormal line_of_formal name_of_formal (InputFormal i) unit.inputs h.first.index h.element h.first.there
      (λ c. h.first.holds (firsts_have (formals_of i) s.names scan.firsts h.element c))
      (λ j y l there bad. h.first.none_before j y l there (λ c. bad (firsts_only (formals_of i) s.names scan.firsts y c)))
      r.line r.name h.line_is h.name_is

  -- the bound formals, and then the inputs
  pub instance_report : IsFirstFaultIn IsBadFormal (map (BoundFormal i unit) (formals_of i)) line_of_formal name_of_formal None
      → (found : Option FirstFault) → IsFirstFaultIn (IsUnbound s.names) unit.inputs (λ x. i.line) (λ x. x) found → IsFirstFaultIn IsBadFormal (formals_with i unit) line_of_formal name_of_formal found
  instance_report none found h = behind_none IsWrongFormal line_of_formal name_of_formal (map (BoundFormal i unit) (formals_of i)) (map (InputFormal i) unit.inputs) none found (inputs_report found h)

-- inputs that are bound
pub bound_next : (bound inputs : List (List ℕ)) (k : ℕ) (x : List ℕ) → slice_get inputs k ≡ Some x → NoneHolds (IsUnbound bound) (take k inputs) → Contains bound x
    → NoneHolds (IsUnbound bound) (take (k + 1) inputs)
bound_next bound inputs k x there none c j e at bad = elim (slice_get-push_cases (take k inputs) x j e (ap (λ l. slice_get l j) (sym (take_next inputs k x there)) ∙ at)) [
  | inl f ↦ none j e f bad
  | inr f ↦ bad (subst (Contains bound) f.1 c)
]

-- a name is listed where it stands in a list
pub listed_at : (names : List (List ℕ)) (k : ℕ) (name : List ℕ) → slice_get names k ≡ Some name → list_any (λ port. same port name) names ≡ true
listed_at [] k name e = absurd cc
listed_at (y ∷ ys) zero name e = let is : y ≡ name = cc in ap (λ b. b || list_any (λ port. same port name) ys) ((bytes_decides y name).1 is)
listed_at (y ∷ ys) (suc k) name e = by (same y name) (listed_at ys k name e)
  where
    by : (b : Bool) → list_any (λ port. same port name) ys ≡ true → (b || list_any (λ port. same port name) ys) ≡ true
    by true h = refl
    by false h = h

pub at_listed : (names : List (List ℕ)) (name : List ℕ) → list_any (λ port. same port name) names ≡ true → (k : ℕ) × (slice_get names k ≡ Some name)
at_listed [] name e = absurd cc
at_listed (y ∷ ys) name e = by (at_listed ys name) (same y name) refl e
  where
    by : (list_any (λ port. same port name) ys ≡ true → (k : ℕ) × (slice_get ys k ≡ Some name)) → (b : Bool) → same y name ≡ b
        → (b || list_any (λ port. same port name) ys) ≡ true → (k : ℕ) × (slice_get (y ∷ ys) k ≡ Some name)
    by rest true is e = (0, ap Some ((bytes_decides y name).0 is))
    by rest false is e = let h = rest e in (suc h.0, h.1)

-- no tables
pub have_no_ports : {S : Type 0} (models : List BlifModelData) (tables : HashMap ℕ (List (List ℕ)) S) → tables.entries ≡ [] → HavePorts models tables
have_no_ports models tables none = λ k m there names is.
    let e : lookup (nat_eq k) tables.entries ≡ None = ap (λ (es : List (ℕ × List (List ℕ))). lookup (nat_eq k) es) none in
    let f : ◌≡◌ {A = Option (List (List ℕ))} None (Some names) = sym e ∙ is in absurd cc

-- a table of the ports of one model more
pub have_ports_next : {S : Type 0} (models : List BlifModelData) (k : ℕ) (m : BlifModelData) (names : List (List ℕ)) (before after : HashMap ℕ (List (List ℕ)) S)
    → slice_get models k ≡ Some m → AreFirsts (names_of_ports m) names → ((q : ℕ) → get nat_eq after q ≡ cond (nat_eq k q) (Some names) (get nat_eq before q))
    → HavePorts models before → HavePorts models after
have_ports_next models k m names before after there firsts updated have = λ q n at ns is. by q n at ns (nat_eq k q) refl (sym (updated q) ∙ is)
  where
    by : (q : ℕ) (n : BlifModelData) → slice_get models q ≡ Some n → (ns : List (List ℕ)) (b : Bool) → nat_eq k q ≡ b → cond b (Some names) (get nat_eq before q) ≡ Some ns
        → AreFirsts (names_of_ports n) ns
    by q n at ns true same_number is =
        let numbers : k ≡ q = eqb-true k q same_number in
        let model : m ≡ n = (let e : Some m ≡ Some n = sym there ∙ ap (slice_get models) numbers ∙ at in cc) in
        let list : names ≡ ns = cc in subst (λ l. AreFirsts (names_of_ports n) l) list (subst (λ b. AreFirsts (names_of_ports b) names) model firsts)
    by q n at ns false other is = have q n at ns is

-- the model of a name where all names differ
pub called_at : (models : List BlifModelData) → NoneHolds IsDuplicateModel models → (u : ℕ) (n : BlifModelData) (name : List ℕ) → slice_get models u ≡ Some n → n.name ≡ name
    → models_called models name ≡ n ∷ []
called_at models none u n name there is = ap option_to_list (found models u there before)
  where
    before : (j : ℕ) (b : BlifModelData) → j < u → slice_get models j ≡ Some b → b.name ≡ name → ⊥
    before j b l at same_name =
        none u n there (subst (Contains (names_of_models (take u models))) (same_name ∙ sym is)
        (Contains-slice_get (names_of_models (take u models)) j b.name (get_map (λ (m : BlifModelData). m.name) (take u models) j b (get_take models j u b l at))))

    found : (all : List BlifModelData) (k : ℕ) → slice_get all k ≡ Some n → ((j : ℕ) (b : BlifModelData) → j < k → slice_get all j ≡ Some b → b.name ≡ name → ⊥)
        → find (λ (m : BlifModelData). same m.name name) all ≡ Some n
    found [] k e earlier = absurd cc
    found (m ∷ all) zero e earlier = let one : m ≡ n = cc in
        ap (λ t. cond t (Some m) (find (λ (b : BlifModelData). same b.name name) all)) ((bytes_decides m.name name).1 (ap (λ (b : BlifModelData). b.name) one ∙ is)) ∙ ap Some one
    found (m ∷ all) (suc k) e earlier =
        ap (λ t. cond t (Some m) (find (λ (b : BlifModelData). same b.name name) all)) (false_from_ne_true (same m.name name) (λ t. earlier 0 m (omega arith) refl ((bytes_decides m.name name).0 t)))
        ∙ found all k e (λ j b l at. earlier (suc j) b (omega (arith, l)) at)

-- the formals of an instance whose model is known
pub report_of_instance : (models : List BlifModelData) (i : InstanceData) (n : BlifModelData) → models_called models i.unit ≡ n ∷ [] → (found : Option FirstFault)
    → IsFirstFaultIn IsBadFormal (formals_with i n) line_of_formal name_of_formal found → IsFirstFaultIn IsBadFormal (formals_of_instance models i) line_of_formal name_of_formal found
report_of_instance models i n called found h = subst (λ all. IsFirstFaultIn IsBadFormal all line_of_formal name_of_formal found) (sym (ap (flat_map (formals_with i)) called ∙ append-nil (formals_with i n))) h

-- the formals of all instances, model by model
by_model : (f : BlifFileData) (models : List BlifModelData) → flat_map (formals_of_use f) (flat_map uses_in models) ≡ flat_map (formals_in_model f.models) models
by_model f [] = refl
by_model f (m ∷ models) = flat_map-append (formals_of_use f) (uses_in m) (flat_map uses_in models)
    ∙ ap (λ l. l ++ flat_map (formals_of_use f) (flat_map uses_in models)) (flat_map-map (formals_of_use f) (λ i. record { model = m; instance = i }) m.instances)
    ∙ ap (λ l. formals_in_model f.models m ++ l) (by_model f models)

pub formals_by_model : (f : BlifFileData) → formals f ≡ flat_map (formals_in_model f.models) f.models
formals_by_model f = by_model f f.models

-- the callee of an instance
pub callees_count : (names : List (List ℕ)) (instances : List InstanceData) (callees : List ℕ) → AreCallees names instances callees → length callees ≡ length instances
callees_count names instances callees are = sym (length-map callees (slice_get names)) ∙ ap length are ∙ length-map instances (λ (i : InstanceData). Some i.unit)

pub callee_is : (models : List BlifModelData) (instances : List InstanceData) (callees : List ℕ) → AreCallees (names_of_models models) instances callees
    → (k u : ℕ) (i : InstanceData) → slice_get instances k ≡ Some i → slice_get callees k ≡ Some u → (n : BlifModelData) × (slice_get models u ≡ Some n) × (n.name ≡ i.unit)
callee_is models instances callees are k u i there at =
    let h = known_at (names_of_models models) instances callees are k i there in
    let same_number : h.0 ≡ u = (let e : Some h.0 ≡ Some u = sym h.1 ∙ at in cc) in
    get_of_map (λ (m : BlifModelData). m.name) models u i.unit (ap (slice_get (names_of_models models)) (sym same_number) ∙ h.2)

-- the calls of a model
pub calls_at : (names : List (List ℕ)) (models : List BlifModelData) (nodes : List (List ℕ)) → AreCalls names models nodes
    → (k : ℕ) (m : BlifModelData) (node : List ℕ) → slice_get models k ≡ Some m → slice_get nodes k ≡ Some node → AreCallees names m.instances node
calls_at names models nodes are k m node there at =
    let e : Some (map (slice_get names) node) ≡ Some (map (λ (i : InstanceData). Some i.unit) m.instances) =
    sym (get_map (map (slice_get names)) nodes k node at) ∙ ap (λ l. slice_get l k) are ∙ get_map (λ (b : BlifModelData). map (λ (i : InstanceData). Some i.unit) b.instances) models k m there in cc

pub calls_count : (names : List (List ℕ)) (models : List BlifModelData) (nodes : List (List ℕ)) → AreCalls names models nodes → length nodes ≡ length models
calls_count names models nodes are = sym (length-map nodes (map (slice_get names))) ∙ ap length are ∙ length-map models (λ (b : BlifModelData). map (λ (i : InstanceData). Some i.unit) b.instances)

pub first_unbound : (bound inputs : List (List ℕ)) (k : ℕ) (x : List ℕ) (line line' : ℕ) (name : List ℕ) → slice_get inputs k ≡ Some x → NoneHolds (IsUnbound bound) (take k inputs)
    → (Contains bound x → ⊥) → line' ≡ line → name ≡ x → IsReported (IsUnbound bound) inputs (λ input. line) (λ input. input) line' name
first_unbound bound inputs k x line line' name there none unbound line_is name_is = record {
  element = x;
  first = record { index = k; there = there; holds = unbound; none_before = λ j other l at bad. none j other (get_take inputs j k other l at) bad };
  line_is = line_is;
  name_is = name_is;
}
