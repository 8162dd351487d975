-- The file of one model of a network is refused for nothing.
use Rattle.std.proofs.Common.{◌≡◌, ℕ, zero, suc, ◌<◌, ◌≤◌, ◌+◌, ◌⊎◌, inl, inr, Bool, true, false, cond, List, [], ◌∷◌, ◌++◌, map, length, take, Some, refl, ap, sym, ◌∙◌, subst, arith, append-nil}
use Rattle.std.specs.Prelude.{◌≢◌, Contains, nat_eq, slice_get}
use Rattle.std.specs.List.{AllByRecursion, IsDistinct, count_by, enumerate_from, filter_map, flat_map, sum_by}
use Rattle.std.specs.Set.{distinct_count, unique_keys}
use Rattle.std.specs.Cmp.Lexicographic.{same_text}
use Rattle.std.proofs.lemmas.Bool.{eqb-false}
use Rattle.std.proofs.lemmas.List.{length-map, map-append}
use Rattle.std.proofs.lemmas.List.Elements.{Contains-append_right, recursion_from_All}
use Rattle.std.proofs.lemmas.List.FromFn.{length-enumerate_from}
use Rattle.std.proofs.lemmas.List.Sums.{sum_by-cons}
use Rattle.dom_base.proofs.Lists.{AllByRecursion-append, AllByRecursion-both, AllByRecursion-contains, AllByRecursion-every, AllByRecursion-map, AllByRecursion-take, AllByRecursion-weaker, Contains-slice_get}
use Rattle.blif_ast.specs.BlifFileData.{BlifFileData}
use Rattle.blif_ast.specs.BlifModelData.{BlifModelData}
use Rattle.blif_ast.specs.Cards.{same}
use Rattle.blif_ast.specs.TableData.{TableData}
use Rattle.model_calls.specs.declared.fault.FlatKind.TheVariants.{DuplicateModel, DuplicatePort, UnknownModel, BadFormal, Recursion, DrivenTwice, Undriven, Cycle, TwoControls, ControlUsed}
use Rattle.network.specs.declared.network.NetLatch.{NetLatch}
use Rattle.model_calls.specs.Counts.{Counted, counts, instance_count, letter_count, signal_count, sink_count}
use Rattle.model_calls.specs.Ends.{Clocking, End, controls, drivers, driven_end, main_inputs, readers}
use Rattle.model_calls.specs.Expanded.{expanded, tables}
use Rattle.network.specs.Limits.{letters, most_instances, most_letters, most_signals, most_sinks}
use Rattle.model_calls.specs.ModelFaults.{Port, ports, ports_in, IsTwiceIn}
use Rattle.network.specs.NetworkData.{NetTableData, NetworkData}
use Rattle.network.specs.Networks.{IsNetwork, first_table}
use Rattle.net_flatten.specs.OneModel.{file_of, latch_at, name_at, table_at}
use Rattle.model_calls.specs.Occurrences.{main_model, names_of, names_of_latch, names_of_table}
use Rattle.model_calls.specs.Refusal.{Refusal, At, TooMany}
use Rattle.model_calls.specs.Refusals.{HasRefusal}
use Rattle.model_calls.specs.SignalFaults.{signals}
use Rattle.model_calls.proofs.Apart.{Apart}
use Rattle.model_calls.proofs.Drivers.{driven}
use Rattle.model_calls.proofs.EachPart.{each_flat, each_itself}
use Rattle.model_calls.proofs.Fitting.{contains_cons, fits}
use Rattle.net_flatten.proofs.OneAccepted.{SignalOf, all_read, drivers_apart, no_clockings, no_cycle}
use Rattle.net_flatten.proofs.OneModel.{latch_number, name_once, names_apart, table_number}
use Rattle.model_calls.proofs.Pairs.{contains_to}
use Rattle.std.proofs.lemmas.Option.{slice_get-get_or}
use Rattle.model_calls.proofs.UniqueNames.{unique_apart, unique_each}
use Rattle.part_numbers.proofs.Ranges.{each_enumerated, map_map}

-- where all elements differ, none stands at an earlier place
no_earlier : {X Y : Type 0} (g : X → Y) (xs : List X) (k : ℕ) (x : X) → Apart (map g xs) → slice_get xs k ≡ Some x → Contains (map g (take k xs)) (g x) → ⊥
no_earlier g [] k x a e c = absurd cc
no_earlier g (y ∷ ys) zero x a e (j, l, d) = omega (arith, l)
no_earlier g (y ∷ ys) (suc k) x a e c = by (no_earlier g ys k x a.1 e) (contains_cons (g y) (map g (take k ys)) (g x) c)
  where
    there : Contains (map g ys) (g x)
    there = contains_to g ys x (Contains-slice_get ys k x e)

    by : (Contains (map g (take k ys)) (g x) → ⊥) → (g y ≡ g x) ⊎ Contains (map g (take k ys)) (g x) → ⊥
    by deeper (inl same_one) = AllByRecursion-contains (λ z. g y ≢ z) (map g ys) (g x) a.0 there same_one
    by deeper (inr later) = deeper later

pub no_earlier_behind : {X Y : Type 0} (g : X → Y) (front : List Y) (xs : List X) (k : ℕ) (x : X) → Apart (front ++ map g xs) → slice_get xs k ≡ Some x → Contains (front ++ map g (take k xs)) (g x) → ⊥
no_earlier_behind g [] xs k x a e c = no_earlier g xs k x a e c
no_earlier_behind g (y ∷ front) xs k x a e c = by (no_earlier_behind g front xs k x a.1 e) (contains_cons y (front ++ map g (take k xs)) (g x) c)
  where
    there : Contains (front ++ map g xs) (g x)
    there = Contains-append_right front (map g xs) (g x) (contains_to g xs x (Contains-slice_get xs k x e))

    by : (Contains (front ++ map g (take k xs)) (g x) → ⊥) → (y ≡ g x) ⊎ Contains (front ++ map g (take k xs)) (g x) → ⊥
    by deeper (inl same_one) = AllByRecursion-contains (λ z. y ≢ z) (front ++ map g xs) (g x) a.0 there same_one
    by deeper (inr later) = deeper later

-- names that all differ stand once
count_none : (x : List ℕ) (xs : List (List ℕ)) → AllByRecursion (λ y. x ≢ y) xs → count_by (same x) xs ≡ 0
count_none x [] h = refl
count_none x (y ∷ ys) h = by (count_none x ys h.1) (same x y) refl
  where
    by : count_by (same x) ys ≡ 0 → (t : Bool) → same x y ≡ t → count_by (same x) (y ∷ ys) ≡ 0
    by rest true e = absurd (h.0 (same_text x y (sym e)))
    by rest false e = let c : ◌≡◌ {A = ℕ} (cond (same x y) 1 0) 0 = ap (λ b. cond b 1 0) e in omega (arith, sum_by-cons (λ z. cond (same x z) 1 0) y ys, c, rest)

count_apart : (x : List ℕ) (xs : List (List ℕ)) → Apart xs → count_by (same x) xs ≤ 1
count_apart x [] a = omega arith
count_apart x (y ∷ ys) a = by (count_apart x ys a.1) (same x y) refl
  where
    by : count_by (same x) ys ≤ 1 → (t : Bool) → same x y ≡ t → count_by (same x) (y ∷ ys) ≤ 1
    by rest true e =
        let is : y ≡ x = sym (same_text x y (sym e)) in
        let none = count_none x ys (subst (λ w. AllByRecursion (λ z. w ≢ z) ys) is a.0) in
        let c : ◌≡◌ {A = ℕ} (cond (same x y) 1 0) 1 = ap (λ b. cond b 1 0) e in
        omega (arith, sum_by-cons (λ z. cond (same x z) 1 0) y ys, c, none)
    by rest false e = let c : ◌≡◌ {A = ℕ} (cond (same x y) 1 0) 0 = ap (λ b. cond b 1 0) e in omega (arith, sum_by-cons (λ z. cond (same x z) 1 0) y ys, c, rest)

module _ (n : NetworkData) (is : IsNetwork n) where
  abbrev f : BlifFileData
  f = file_of n

  abbrev m : BlifModelData
  m = main_model (file_of n)

  apart_front : (k : ℕ) (xs : List (List ℕ)) → Apart xs → Apart (take k xs)
  apart_front zero xs a = tt
  apart_front (suc k) [] a = tt
  apart_front (suc k) (x ∷ xs) a = (AllByRecursion-take (λ y. x ≢ y) k xs a.0, apart_front k xs a.1)

  outputs_apart : (ks : List ℕ) → AllByRecursion (λ k. k < length n.names) ks → Apart ks → Apart (map (name_at n) ks)
  outputs_apart [] l a = tt
  outputs_apart (k ∷ ks) l a = (
    AllByRecursion-map (λ s. name_at n k ≢ s) (name_at n) ks
        (AllByRecursion-weaker (λ j. (j < length n.names) × (k ≢ j)) (λ j. name_at n k ≢ name_at n j) (λ j h e. h.1 (name_once n is k j l.0 h.0 e)) ks (AllByRecursion-both (λ j. j < length n.names) (λ j. k ≢ j) ks l.1 a.0)),
    outputs_apart ks l.1 a.1,
  )

  distinct_numbers : (ks : List ℕ) → IsDistinct nat_eq ks → Apart ks
  unfolding IsDistinct
  distinct_numbers [] d = tt
  distinct_numbers (k ∷ ks) d = (AllByRecursion-weaker (λ j. nat_eq k j ≡ false) (λ j. k ≢ j) (λ j e. eqb-false k j e) ks d.0, distinct_numbers ks d.1)

  no_twice : AllByRecursion (λ (p : Port). IsTwiceIn p.list p.name → ⊥) (ports f)
  no_twice = subst (AllByRecursion (λ (p : Port). IsTwiceIn p.list p.name → ⊥)) (sym (append-nil (ports_in 1 m.inputs ++ ports_in 1 m.outputs)))
      (AllByRecursion-append (λ (p : Port). IsTwiceIn p.list p.name → ⊥) (ports_in 1 m.inputs) (ports_in 1 m.outputs)
      (of_list m.inputs (apart_front n.inputs n.names (names_apart n is)))
      (of_list m.outputs (outputs_apart n.outputs (recursion_from_All (λ k. k < length n.names) n.outputs is.outputs) (distinct_numbers n.outputs is.outputs_apart))))
    where
      of_list : (list : List (List ℕ)) → Apart list → AllByRecursion (λ (p : Port). IsTwiceIn p.list p.name → ⊥) (ports_in 1 list)
      of_list list a = AllByRecursion-map (λ (p : Port). IsTwiceIn p.list p.name → ⊥) (λ name. record { line = 1; list = list; name = name }) list
          (AllByRecursion-every (λ name. IsTwiceIn list name → ⊥) (λ name twice. omega (arith, twice, count_apart name list a)) list)

  -- sizes

  inside : (k : ℕ) → k < length n.names → Contains n.names (name_at n k)
  inside k l = Contains-slice_get n.names k (name_at n k) (slice_get-get_or n.names k [] l)

  numbers_inside : (b : ℕ) (ks : List ℕ) → b ≤ length n.names → AllByRecursion (λ k. k < b) ks → AllByRecursion (Contains n.names) (map (name_at n) ks)
  numbers_inside b ks l h = AllByRecursion-map (Contains n.names) (name_at n) ks (AllByRecursion-weaker (λ k. k < b) (λ k. Contains n.names (name_at n k)) (λ k s. inside k (omega (arith, s, l))) ks h)

  names_inside : AllByRecursion (Contains n.names) (names_of m)
  names_inside = AllByRecursion-append (Contains n.names) (m.inputs ++ m.outputs ++ flat_map names_of_table m.tables ++ flat_map names_of_latch m.latches) []
      (AllByRecursion-append (Contains n.names) (m.inputs ++ m.outputs ++ flat_map names_of_table m.tables) (flat_map names_of_latch m.latches)
      (AllByRecursion-append (Contains n.names) (m.inputs ++ m.outputs) (flat_map names_of_table m.tables)
      (AllByRecursion-append (Contains n.names) m.inputs m.outputs
      (AllByRecursion-take (Contains n.names) n.inputs n.names (each_itself n.names))
      (numbers_inside (length n.names) n.outputs (omega arith) (recursion_from_All (λ k. k < length n.names) n.outputs is.outputs)))
      (each_flat (Contains n.names) names_of_table m.tables (AllByRecursion-map (λ t. AllByRecursion (Contains n.names) (names_of_table t)) (λ (p : ℕ × NetTableData). table_at n p.0 p.1) (enumerate_from 0 n.tables)
      (each_enumerated (λ (p : ℕ × NetTableData). AllByRecursion (Contains n.names) (names_of_table (table_at n p.0 p.1))) 0 n.tables
      (λ k t e. subst (λ j. AllByRecursion (Contains n.names) (names_of_table (table_at n j t))) (let z : k ≡ 0 + k = omega arith in z)
      (AllByRecursion-append (Contains n.names) (map (name_at n) t.inputs) (name_at n (first_table n + k) ∷ [])
      (numbers_inside (first_table n + k) t.inputs (omega (arith, table_number n is k t e)) (recursion_from_All (λ s. s < first_table n + k) t.inputs (is.tables k t e).inputs))
      (inside (first_table n + k) (table_number n is k t e), tt)))))))
      (each_flat (Contains n.names) names_of_latch m.latches (AllByRecursion-map (λ l. AllByRecursion (Contains n.names) (names_of_latch l)) (λ (p : ℕ × NetLatch). latch_at n p.0 p.1) (enumerate_from 0 n.latches)
      (each_enumerated (λ (p : ℕ × NetLatch). AllByRecursion (Contains n.names) (names_of_latch (latch_at n p.0 p.1))) 0 n.latches
      (λ k l e. subst (λ j. AllByRecursion (Contains n.names) (names_of_latch (latch_at n j l))) (let z : k ≡ 0 + k = omega arith in z) (
        inside l.input (AllByRecursion-contains (λ (j : NetLatch). j.input < length n.names) n.latches l (recursion_from_All (λ (j : NetLatch). j.input < length n.names) n.latches is.latches) (Contains-slice_get n.latches k l e)),
        (inside (n.inputs + k) (omega (arith, latch_number n is k l e, is.count)), tt),
      ))))))
      tt

  few_names : distinct_count same (names_of m) ≤ length n.names
  few_names = fits (unique_keys same (names_of m)) n.names (unique_apart (names_of m)) (unique_each (Contains n.names) (names_of m) names_inside)

  letters_sum : (ps : List (ℕ × NetTableData)) → sum_by (λ (t : TableData). letters (length t.inputs) t.rows) (map (λ (p : ℕ × NetTableData). table_at n p.0 p.1) ps) ≡ sum_by (λ (p : ℕ × NetTableData). letters (length p.1.inputs) p.1.rows) ps
  letters_sum [] = refl
  letters_sum (p ∷ ps) =
      sum_by-cons (λ (t : TableData). letters (length t.inputs) t.rows) (table_at n p.0 p.1) (map (λ (p : ℕ × NetTableData). table_at n p.0 p.1) ps)
      ∙ ap (λ k. letters k p.1.rows + sum_by (λ (t : TableData). letters (length t.inputs) t.rows) (map (λ (p : ℕ × NetTableData). table_at n p.0 p.1) ps)) (length-map p.1.inputs (name_at n))
      ∙ ap (λ k. letters (length p.1.inputs) p.1.rows + k) (letters_sum ps)
      ∙ sym (sum_by-cons (λ (q : ℕ × NetTableData). letters (length q.1.inputs) q.1.rows) p ps)

  sum_enumerated : (k : ℕ) (ts : List NetTableData) → sum_by (λ (p : ℕ × NetTableData). letters (length p.1.inputs) p.1.rows) (enumerate_from k ts) ≡ sum_by (λ (t : NetTableData). letters (length t.inputs) t.rows) ts
  sum_enumerated k [] = refl
  sum_enumerated k (t ∷ ts) =
      sum_by-cons (λ (p : ℕ × NetTableData). letters (length p.1.inputs) p.1.rows) (k, t) (enumerate_from (k + 1) ts)
      ∙ ap (λ z. letters (length t.inputs) t.rows + z) (sum_enumerated (k + 1) ts)
      ∙ sym (sum_by-cons (λ (u : NetTableData). letters (length u.inputs) u.rows) t ts)

  few_letters : letter_count f ≤ most_letters
  few_letters =
      let one : letter_count f ≡ 0 + sum_by (λ (t : TableData). letters (length t.inputs) t.rows) m.tables = refl in
      omega (arith, one, letters_sum (enumerate_from 0 n.tables), sum_enumerated 0 n.tables, is.few_letters)

  few_sinks : sink_count f ≤ most_sinks
  few_sinks =
      let one : sink_count f ≡ length m.outputs + (0 + length m.latches) = refl in
      omega (arith, one, length-map n.outputs (name_at n), length-map (enumerate_from 0 n.latches) (λ (p : ℕ × NetLatch). latch_at n p.0 p.1), length-enumerate_from 0 n.latches, is.few_sinks)

  few_signals : signal_count f ≤ most_signals
  few_signals =
      let one : signal_count f ≡ 0 + distinct_count same (names_of m) = refl in
      omega (arith, one, few_names, is.few_signals)

  few_instances : instance_count f ≤ most_instances
  few_instances = let one : instance_count f ≡ 1 = refl in omega (arith, one)

  all_within : AllByRecursion (λ (c : Counted). c.count ≤ c.most) (counts f)
  all_within = (few_signals, (few_instances, (few_letters, (few_sinks, tt))))

  at_place : {X : Type 0} (P : X → Type 0) (xs : List X) (k : ℕ) (x : X) → AllByRecursion P xs → slice_get xs k ≡ Some x → P x
  at_place P xs k x h e = AllByRecursion-contains P xs x h (Contains-slice_get xs k x e)

  pub unrefused : (r : Refusal) → HasRefusal f r → ⊥
  unrefused (At DuplicateModel line name) h = by h.first.index h.first.there h.first.holds
    where
      by : (k : ℕ) → slice_get (m ∷ []) k ≡ Some h.element → Contains (map (λ (b : BlifModelData). b.name) (take k (m ∷ []))) h.element.name → ⊥
      by zero e c = omega (arith, c.1)
      by (suc k) e c = absurd cc
  unrefused (At DuplicatePort line name) h = at_place (λ (p : Port). IsTwiceIn p.list p.name → ⊥) (ports f) h.first.index h.element no_twice h.first.there h.first.holds
  unrefused (At UnknownModel line name) h = let z = h.first.there in absurd cc
  unrefused (At BadFormal line name) h = let z = h.first.there in absurd cc
  unrefused (At Recursion line name) h = let z = h.first.there in absurd cc
  unrefused (At DrivenTwice line name) h = no_earlier_behind driven (map SignalOf (main_inputs f)) (expanded f) h.first.index h.element (drivers_apart n is) h.first.there
      (subst (λ s. Contains s (driven h.element))
      (map-append SignalOf (main_inputs f) (map driven_end (take h.first.index (expanded f))) ∙ ap (λ s. map SignalOf (main_inputs f) ++ s) (map_map SignalOf driven_end (take h.first.index (expanded f)))) h.first.holds)
  unrefused (At Undriven line name) h = h.first.holds (at_place (λ e. Contains (signals (drivers f)) e.signal) (readers f) h.first.index h.element (all_read n is) h.first.there)
  unrefused (At Cycle line name) h = no_cycle n is h.element (Contains-slice_get (tables f) h.first.index h.element h.first.there) h.first.holds
  unrefused (At TwoControls line name) h = let z : slice_get {X = Clocking} [] h.first.index ≡ Some h.element = ap (λ l. slice_get l h.first.index) (sym (no_clockings n is)) ∙ h.first.there in absurd cc
  unrefused (At ControlUsed line name) h =
      let none : controls f ≡ [] = ap (filter_map (λ (c : Clocking). c.signal)) (no_clockings n is) in
      let z : slice_get {X = End} [] 0 ≡ Some h.control = ap (λ l. slice_get l 0) (sym none) ∙ h.control_is in
      absurd cc
  unrefused (TooMany limit count) h = let l = at_place (λ (c : Counted). c.count ≤ c.most) (counts f) h.first.index h.counted all_within h.first.there in omega (arith, l, h.first.holds)
