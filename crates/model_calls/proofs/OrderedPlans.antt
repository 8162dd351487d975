-- The plans of a file whose models can be put in order.
use Rattle.std.proofs.Common.{◌≡◌, ℕ, zero, suc, ◌<◌, ◌≤◌, ◌⊎◌, inl, inr, Bool, true, false, cond, List, [], ◌∷◌, length, take, Some, refl, ap, sym, ◌∙◌, subst, arith}
use Rattle.std.specs.Prelude.{Contains, ◌≢◌, get_or, nat_eq, slice_get}
use Rattle.std.specs.List.{flat_map}
use Rattle.std.proofs.lemmas.Bool.{cases_eq, cases_lt, eq-eqb, ne_eqb}
use Rattle.std.proofs.lemmas.List.{length-map}
use Rattle.std.proofs.lemmas.Option.{slice_get-get_or, slice_get_within}
use Rattle.blif_ast.specs.BlifFileData.{BlifFileData}
use Rattle.blif_ast.specs.BlifModelData.{BlifModelData}
use Rattle.blif_ast.specs.InstanceData.{InstanceData}
use Rattle.dom_base.proofs.Lists.{AllByRecursion-contains, Contains-slice_get, slice_get-contained}
use Rattle.graph_order.proofs.Circles.{no_circle}
use Rattle.graph_order.proofs.Lists.{contains_cons, take_get}
use Rattle.graph_order.specs.Orders.{IsGraph, IsOrder, IsSuccessor, LeadsOn, more as leads_more, step as leads_step, successors}
use Rattle.model_calls.proofs.CallNumbers.{known_at}
use Rattle.model_calls.proofs.FormalFaults.{callee_is, callees_count, called_at, calls_at, calls_count}
use Rattle.network.proofs.Lists.{get_map, get_of_map}
use Rattle.model_calls.proofs.MainNames.{contains_flat}
use Rattle.model_calls.proofs.Pairs.{contains_to}
use Rattle.model_calls.proofs.Recursions.{back_is, callees_of, from_flat, is_back}
use Rattle.model_calls.specs.CallNumbers.{AreCallees, AreCalls, IsUseOfNone, names_of_models}
use Rattle.model_calls.specs.declared.plan.CardAt.{CardAt}
use Rattle.model_calls.specs.declared.plan.CardAt.TheVariants.{Table, Latch as LatchAt, Instance}
use Rattle.model_calls.specs.Expanded.{BodyCard, InstanceCard, LatchCard, TableCard, ordered_cards}
use Rattle.model_calls.specs.LinedCards.{AreNumberedCards, IsNumberedCard}
use Rattle.model_calls.specs.ModelFaults.{IsDuplicateModel, IsRecursion, Use, uses_in}
use Rattle.model_calls.specs.ModelCalls.{HasCircle, HavePlans}
use Rattle.model_calls.specs.Occurrences.{first_model, main_model}
use Rattle.model_calls.specs.Plans.{AreCards, IsCardAt, IsPlanned, HasMainPlan, plan_at}
use Rattle.model_calls.specs.Recursions.{IsBack}
use Rattle.model_calls.specs.FirstFaults.{NoneHolds}

-- the main model of a file that has models
pub first_there_of : (all : List BlifModelData) → all ≢ [] → slice_get all 0 ≡ Some (first_model all)
first_there_of [] none = absurd (none refl)
first_there_of (m ∷ ms) none = refl

-- the first index of a number
abbrev first_index : List ℕ → ℕ → ℕ
first_index [] n = 0
first_index (x ∷ xs) n = cond (nat_eq x n) 0 (suc (first_index xs n))

first_least : (xs : List ℕ) (n : ℕ) → first_index xs n ≤ length xs
first_least [] n = omega arith
first_least (x ∷ xs) n = by (first_least xs n) (nat_eq x n)
  where
    by : first_index xs n ≤ length xs → (b : Bool) → cond b 0 (suc (first_index xs n)) ≤ length (x ∷ xs)
    by rest true = omega arith
    by rest false = omega (arith, rest)

first_before : (xs : List ℕ) (n k : ℕ) → slice_get xs k ≡ Some n → first_index xs n ≤ k
first_before [] n k e = absurd cc
first_before (x ∷ xs) n zero e =
    let is : x ≡ n = cc in let z : ◌≡◌ {A = ℕ} (cond (nat_eq x n) 0 (suc (first_index xs n))) 0 = ap (λ b. cond b 0 (suc (first_index xs n))) (eq-eqb x n is) in omega (arith, z)
first_before (x ∷ xs) n (suc k) e = by (first_before xs n k e) (nat_eq x n)
  where
    by : first_index xs n ≤ k → (b : Bool) → cond b 0 (suc (first_index xs n)) ≤ suc k
    by rest true = omega arith
    by rest false = omega (arith, rest)

first_there : (xs : List ℕ) (n k : ℕ) → slice_get xs k ≡ Some n → slice_get xs (first_index xs n) ≡ Some n
first_there [] n k e = absurd cc
first_there (x ∷ xs) n k e = by (first_there xs n) k e (cases_eq x n)
  where
    by : ((j : ℕ) → slice_get xs j ≡ Some n → slice_get xs (first_index xs n) ≡ Some n) → (k : ℕ) → slice_get (x ∷ xs) k ≡ Some n → (x ≡ n) ⊎ (x ≢ n)
        → slice_get (x ∷ xs) (cond (nat_eq x n) 0 (suc (first_index xs n))) ≡ Some n
    by rest k e (inl is) = ap (λ b. slice_get (x ∷ xs) (cond b 0 (suc (first_index xs n)))) (eq-eqb x n is) ∙ ap Some is
    by rest zero e (inr apart) = let is : x ≡ n = cc in absurd (apart is)
    by rest (suc k) e (inr apart) = ap (λ b. slice_get (x ∷ xs) (cond b 0 (suc (first_index xs n)))) (ne_eqb x n apart) ∙ rest k e

-- the nodes are a graph
callee_within : (names : List (List ℕ)) (instances : List InstanceData) (callees : List ℕ) → AreCallees names instances callees → (k u : ℕ) → slice_get callees k ≡ Some u → u < length names
callee_within names instances callees are k u at =
    let h = get_of_map (λ (i : InstanceData). Some i.unit) instances k (slice_get names u) (ap (λ l. slice_get l k) (sym are) ∙ get_map (slice_get names) callees k u at) in
    slice_get_within names u h.0.unit (sym h.2)

pub is_graph : (models : List BlifModelData) (nodes : List (List ℕ)) → AreCalls (names_of_models models) models nodes → IsGraph nodes
is_graph models nodes calls k d l j e m =
    let there = slice_get-get_or nodes k d l in
    let within : k < length models = omega (arith, l, calls_count (names_of_models models) models nodes calls) in
    let model = slice_get-get_or models k (first_model models) within in
    let callees = calls_at (names_of_models models) models nodes calls k (get_or models k (first_model models)) (get_or nodes k d) model there in
    let u = callee_within (names_of_models models) (get_or models k (first_model models)).instances (get_or nodes k d) callees j (get_or (get_or nodes k d) j e) (slice_get-get_or (get_or nodes k d) j e m) in
    omega (arith, u, calls_count (names_of_models models) models nodes calls, length-map models (λ (b : BlifModelData). b.name))

-- a plan's instances
numbered_instance : (m : BlifModelData) (callees : List ℕ) (ats : List CardAt) (cs : List BodyCard) → AreNumberedCards m callees ats cs → (i u : ℕ) → Contains ats (Instance i u)
    → (instance : InstanceData) × (slice_get m.instances i ≡ Some instance) × (slice_get callees i ≡ Some u)
numbered_instance m callees [] [] are i u c = absurd (omega (arith, c.1))
numbered_instance m callees [] (d ∷ cs) are i u c = absurd are
numbered_instance m callees (a ∷ ats) [] are i u c = absurd are
numbered_instance m callees (a ∷ ats) (d ∷ cs) are i u c = elim (contains_cons a ats (Instance i u) c) [
  | inl is ↦ by a d are.0 is
  | inr rest ↦ numbered_instance m callees ats cs are.1 i u rest
]
  where
    by : (a : CardAt) (d : BodyCard) → IsNumberedCard m callees a d → a ≡ Instance i u → (instance : InstanceData) × (slice_get m.instances i ≡ Some instance) × (slice_get callees i ≡ Some u)
    by (Table k) d h is = absurd cc
    by (LatchAt k) d h is = absurd cc
    by (Instance k v) (TableCard t) h is = absurd h
    by (Instance k v) (LatchCard l) h is = absurd h
    by (Instance k v) (InstanceCard j) h is =
        let first : k ≡ i = cc in let second : v ≡ u = cc in
        (j, ap (slice_get m.instances) (sym first) ∙ h.0, ap (slice_get callees) (sym first) ∙ h.1 ∙ ap Some second)

are_cards : (models : List BlifModelData) → NoneHolds IsDuplicateModel models → (m : BlifModelData) (callees : List ℕ) → AreCallees (names_of_models models) m.instances callees
    → (ats : List CardAt) (cs : List BodyCard) → AreNumberedCards m callees ats cs → AreCards (record { models = models }) m ats cs
are_cards models apart m callees known [] [] are = tt
are_cards models apart m callees known [] (d ∷ cs) are = absurd are
are_cards models apart m callees known (a ∷ ats) [] are = absurd are
are_cards models apart m callees known (a ∷ ats) (d ∷ cs) are = (by a d are.0, are_cards models apart m callees known ats cs are.1)
  where
    by : (a : CardAt) (d : BodyCard) → IsNumberedCard m callees a d → IsCardAt (record { models = models }) m a d
    by (Table k) (TableCard t) h = h
    by (Table k) (LatchCard t) h = absurd h
    by (Table k) (InstanceCard t) h = absurd h
    by (LatchAt k) (TableCard t) h = absurd h
    by (LatchAt k) (LatchCard t) h = h
    by (LatchAt k) (InstanceCard t) h = absurd h
    by (Instance k v) (TableCard t) h = absurd h
    by (Instance k v) (LatchCard t) h = absurd h
    by (Instance k v) (InstanceCard i) h =
        let n = callee_is models m.instances callees known k v i h.0 h.1 in (h.0, (n.0, n.1, called_at models apart v n.0 i.unit n.1 n.2))

module _ (models : List BlifModelData) (nodes : List (List ℕ)) (apart : NoneHolds IsDuplicateModel models) (calls : AreCalls (names_of_models models) models nodes) where
  abbrev file : BlifFileData
  file = record { models = models }

  -- the model of a node, and the instance of an edge
  edge : (a b : ℕ) → IsSuccessor nodes a b → (m : BlifModelData) × (i : InstanceData) × (slice_get models a ≡ Some m) × Contains m.instances i × (slice_get (names_of_models models) b ≡ Some i.unit)
  edge a b next =
      let k = slice_get-contained (successors nodes a) b next in
      let within : a < length models = by k.0 (cases_lt a (length nodes)) k.1 in
      let there = slice_get-get_or models a (first_model models) within in
      let m = get_or models a (first_model models) in
      let callees = callees_of models nodes apart calls a m there in
      let same_length = callees_count (names_of_models models) m.instances (successors nodes a) callees in
      let i = instance_at m.instances k.0 (omega (arith, slice_get_within (successors nodes a) k.0 b k.1, same_length)) in
      let h = known_at (names_of_models models) m.instances (successors nodes a) callees k.0 i.0 i.1 in
      let same : h.0 ≡ b = (let e : Some h.0 ≡ Some b = sym h.1 ∙ k.1 in cc) in
      (m, i.0, there, Contains-slice_get m.instances k.0 i.0 i.1, ap (slice_get (names_of_models models)) (sym same) ∙ h.2)
    where
      instance_at : (is : List InstanceData) (k : ℕ) → k < length is → (i : InstanceData) × (slice_get is k ≡ Some i)
      instance_at [] k l = absurd (omega (arith, l))
      instance_at (i ∷ is) zero l = (i, refl)
      instance_at (i ∷ is) (suc k) l = instance_at is k (omega (arith, l))

      past : (all : List (List ℕ)) (n : ℕ) → length all ≤ n → get_or all n [] ≡ []
      past [] n l = refl
      past (x ∷ xs) zero l = absurd (omega (arith, l))
      past (x ∷ xs) (suc n) l = past xs n (omega (arith, l))

      by : (k : ℕ) → (a < length nodes) ⊎ (length nodes ≤ a) → slice_get (successors nodes a) k ≡ Some b → a < length models
      by k (inl l) e = omega (arith, l, calls_count (names_of_models models) models nodes calls)
      by k (inr m) e = let z : slice_get {X = ℕ} [] k ≡ Some b = ap (λ l. slice_get l k) (sym (past nodes a m)) ∙ e in absurd cc

  -- each instance names a model
  pub all_known : NoneHolds (IsUseOfNone (names_of_models models)) (flat_map uses_in models)
  all_known k u there unknown =
      let m = from_flat uses_in models u (Contains-slice_get (flat_map uses_in models) k u there) in
      let j = slice_get-contained (uses_in m.1) u m.3 in
      let i = get_of_map (λ i. record { model = m.1; instance = i }) m.1.instances j.0 u j.1 in
      let h = known_at (names_of_models models) m.1.instances (successors nodes m.0) (callees_of models nodes apart calls m.0 m.1 m.2) j.0 i.0 i.1 in
      unknown (Contains-slice_get (names_of_models models) h.0 u.instance.unit (h.2 ∙ ap Some (ap (λ (v : Use). v.instance.unit) i.2)))

  -- where the nodes have a circle, some instance is a recursion
  pub circle_recurs : HasCircle nodes → NoneHolds (IsRecursion file) (flat_map uses_in models) → ⊥
  circle_recurs (node, lead) none = by lead
    where
      bad : (b : ℕ) → IsSuccessor nodes node b → IsBack nodes node b → ⊥
      bad b next back =
          let h = edge node b next in
          let u : Use = record { model = h.0; instance = h.1 } in
          let c = contains_flat uses_in models h.0 u (Contains-slice_get models node h.0 h.2) (contains_to (λ i. record { model = h.0; instance = i }) h.0.instances h.1 h.3) in
          let k = slice_get-contained (flat_map uses_in models) u c in
          none k.0 u k.1 (back_is models nodes apart calls node h.0 h.2 h.1 b h.4 back)

      by : LeadsOn nodes node node → ⊥
      by (leads_step next) = bad node next (inl refl)
      by (leads_more {b} next rest) = bad b next (inr rest)

  module _ (order : List ℕ) (ordered : IsOrder nodes order) where
    -- no instance is a recursion where the nodes are in order
    pub none_recurs : NoneHolds (IsRecursion file) (flat_map uses_in models)
    none_recurs k u there bad =
        let m = from_flat uses_in models u (Contains-slice_get (flat_map uses_in models) k u there) in
        let j = slice_get-contained (uses_in m.1) u m.3 in
        let i = get_of_map (λ i. record { model = m.1; instance = i }) m.1.instances j.0 u j.1 in
        let h = known_at (names_of_models models) m.1.instances (successors nodes m.0) (callees_of models nodes apart calls m.0 m.1 m.2) j.0 i.0 i.1 in
        let within : m.0 < length nodes = omega (arith, slice_get_within models m.0 m.1 m.2, calls_count (names_of_models models) models nodes calls) in
        no_circle nodes order ordered m.0 within
        (circle m.0 h.0 (Contains-slice_get (successors nodes m.0) j.0 h.0 h.1) (is_back models nodes apart calls m.0 m.1 m.2 i.0 h.0 h.2 (subst (IsRecursion file []) (sym i.2) bad)))
      where
        circle : (a b : ℕ) → IsSuccessor nodes a b → IsBack nodes a b → LeadsOn nodes a a
        circle a b next (inl is) = leads_step (subst (IsSuccessor nodes a) is next)
        circle a b next (inr lead) = leads_more next lead

    falls : (k u : ℕ) → k < length nodes → IsSuccessor nodes k u → first_index order u < first_index order k
    falls k u l next =
        let c = slice_get-contained order k (ordered.all k l) in
        let at = first_there order k c.0 c.1 in
        let b = AllByRecursion-contains (Contains (take (first_index order k) order)) (successors nodes k) u (ordered.earlier (first_index order k) k at) next in
        let g = slice_get-contained (take (first_index order k) order) u b in
        let t = take_get order (first_index order k) g.0 u g.1 in
        omega (arith, t.0, first_before order u g.0 t.1)

    module _ (plans : List (List CardAt)) (have : HavePlans models nodes plans) (some : models ≢ []) where
      instance_in : (k i u : ℕ) → Contains (plan_at plans k) (Instance i u) → (k < length nodes) × IsSuccessor nodes k u × (u < length plans)
      instance_in k i u c = by (cases_lt k (length plans))
        where
          past : (all : List (List CardAt)) (n : ℕ) → length all ≤ n → get_or all n [] ≡ []
          past [] n l = refl
          past (x ∷ xs) zero l = absurd (omega (arith, l))
          past (x ∷ xs) (suc n) l = past xs n (omega (arith, l))

          by : (k < length plans) ⊎ (length plans ≤ k) → (k < length nodes) × IsSuccessor nodes k u × (u < length plans)
          by (inr m) = let z : Contains [] (Instance i u) = subst (λ p. Contains p (Instance i u)) (past plans k m) c in absurd (omega (arith, z.1))
          by (inl l) =
              let within : k < length models = omega (arith, l, have.count) in
              let there = slice_get-get_or models k (first_model models) within in
              let m = get_or models k (first_model models) in
              let h = numbered_instance m (successors nodes k) (plan_at plans k) (ordered_cards m) (have.cards k m (plan_at plans k) there (slice_get-get_or plans k [] l)) i u c in
              let callees = callees_of models nodes apart calls k m there in
              let u_within = callee_within (names_of_models models) m.instances (successors nodes k) callees i u h.2 in (
                omega (arith, within, calls_count (names_of_models models) models nodes calls),
                Contains-slice_get (successors nodes k) i u h.2,
                omega (arith, u_within, length-map models (λ (b : BlifModelData). b.name), have.count),
              )

      main_there : slice_get models 0 ≡ Some (main_model file)
      main_there = first_there_of models some

      pub are_planned : IsPlanned file plans
      are_planned = record {
        main = main_there;
        cards = λ k m there. are_cards models apart m (successors nodes k) (callees_of models nodes apart calls k m there) (plan_at plans k) (ordered_cards m)
            (have.cards k m (plan_at plans k) there (slice_get-get_or plans k [] (omega (arith, slice_get_within models k m there, have.count))));
      }

      pub are_ready : HasMainPlan plans (length order)
      are_ready = record {
        rank = first_index order;
        ranked = record {
          inside = λ k i u c. (instance_in k i u c).2;
          falls = λ k i u c. let h = instance_in k i u c in falls k u h.0 h.1;
        };
        low = first_least order 0;
        some = omega (arith, slice_get_within models 0 (main_model file) main_there, have.count);
      }
