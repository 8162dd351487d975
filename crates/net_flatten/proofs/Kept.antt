-- The network of a good file keeps what a network keeps.
use Rattle.std.proofs.Common.{◌≡◌, ℕ, zero, suc, ◌<◌, ◌≤◌, ◌+◌, ◌-◌, ◌⊎◌, inl, inr, max, true, false, not, List, [], ◌∷◌, ◌++◌, map, length, Some, refl, ap, sym, ◌∙◌, subst, arith, ne_eqb}
use Rattle.std.specs.Prelude.{◌≢◌, All, Contains, nat_eq, slice_get}
use Rattle.std.specs.List.{AllByRecursion, IsDistinct, enumerate_from, filter_map, flat_map, fold, sum_by}
use Rattle.std.proofs.lemmas.Bool.{cases_lt}
use Rattle.std.proofs.lemmas.List.{length-append, length-map}
use Rattle.std.proofs.lemmas.List.Elements.{All-from_recursion, Contains-append_left, recursion_from_All}
use Rattle.std.proofs.lemmas.List.FromFn.{length-enumerate_from}
use Rattle.std.proofs.lemmas.List.Sums.{sum_by-cons}
use Rattle.std.proofs.lemmas.Option.{slice_get_within}
use Rattle.dom_base.proofs.Lists.{AllByRecursion-append, AllByRecursion-contains, AllByRecursion-every, AllByRecursion-filter, AllByRecursion-from_places, AllByRecursion-map, AllByRecursion-unmap, AllByRecursion-weaker, Contains-slice_get}
use Rattle.blif_ast.specs.BlifFileData.{BlifFileData}
use Rattle.blif_ast.specs.Cards.{same}
use Rattle.blif_ast.specs.TableData.{TableData}
use Rattle.blif_ast.specs.Good.{IsGoodFile, IsGoodName, IsGoodTable}
use Rattle.network.specs.declared.network.NetLatch.{NetLatch}
use Rattle.model_calls.specs.Ends.{controls, inputs_of, next_of, output_of, state_of}
use Rattle.model_calls.specs.Expanded.{LatchPart, PlacedPart, PlacedTable, TablePart, expanded, part_latch, latches, part_table, tables}
use Rattle.net_flatten.specs.Flattening.{IsNetworkOf, LatchBySignals, TableBySignals, numbered_latch, numbered_table, placed_latch, placed_table}
use Rattle.model_calls.specs.Counts.{letter_count}
use Rattle.network.specs.Limits.{letters, most_signals}
use Rattle.network.specs.NetworkData.{NetTableData, NetworkData}
use Rattle.network.specs.Networks.{IsNetTable, IsNetwork, first_table}
use Rattle.model_calls.specs.Numbering.{IsLevelling, by_level, is_control_name, letters_w, name_by_number, names_by_number, pins, signals_by_number}
use Rattle.model_calls.specs.Occurrences.{Occurrence, actuals_of, main_model, names_of_latch, names_of_table, occurrences}
use Rattle.model_calls.specs.Signals.{Signal, signal_of}
use Rattle.model_calls.proofs.Apart.{Apart, apart_from_places, each_in_order}
use Rattle.model_calls.proofs.Drivers.{driven, each_latch, each_table, numbered_apart, output_once}
use Rattle.network.proofs.Lists.{each_le_greatest}
use Rattle.model_calls.proofs.Sums.{part_weight, parts_weigh, place_weight, sum_same}
use Rattle.model_calls.proofs.Fitting.{fits}
use Rattle.model_calls.proofs.Pairs.{count_pairs, input_in_pairs, parts_in_pairs}
use Rattle.model_calls.specs.Pairs.{pairs}
use Rattle.model_calls.proofs.MainNames.{HasMainName, main_names}
use Rattle.part_numbers.proofs.GoodParts.{IsGoodPart, good_driven, good_main, good_parts}
use Rattle.net_flatten.proofs.Within.{few_letters, few_signals, few_sinks}
use Rattle.net_flatten.proofs.NamesKept.{names_are_good, names_differ}
use Rattle.model_calls.proofs.Rising.{rising_in_order, rising_places, sum_in_order}

-- lists that are taken to one list

module _ {X Y Z : Type 0} (g : X → Z) (h : Y → Z) where
  pub same_length : (xs : List X) (ys : List Y) → map g xs ≡ map h ys → length xs ≡ length ys
  same_length xs ys e = sym (length-map xs g) ∙ ap length e ∙ length-map ys h

  -- the element that stands at the same index
  pub same_place : (xs : List X) (ys : List Y) → map g xs ≡ map h ys → (k : ℕ) (x : X) → slice_get xs k ≡ Some x → (y : Y) × (slice_get ys k ≡ Some y) × (g x ≡ h y)
  same_place [] ys e k x d = absurd cc
  same_place (x ∷ xs) [] e k z d = absurd cc
  same_place (x ∷ xs) (y ∷ ys) e zero z d = let i : x ≡ z = cc in let first : g x ≡ h y = cc in (y, refl, ap g (sym i) ∙ first)
  same_place (x ∷ xs) (y ∷ ys) e (suc k) z d = let rest : map g xs ≡ map h ys = cc in same_place xs ys rest k z d

  pub same_each : (P : X → Type 0) (Q : Y → Type 0) → ((x : X) (y : Y) → g x ≡ h y → Q y → P x) → (xs : List X) (ys : List Y) → map g xs ≡ map h ys → AllByRecursion Q ys → AllByRecursion P xs
  same_each P Q f [] ys e q = tt
  same_each P Q f (x ∷ xs) [] e q = absurd cc
  same_each P Q f (x ∷ xs) (y ∷ ys) e q = let first : g x ≡ h y = cc in let rest : map g xs ≡ map h ys = cc in (f x y first q.0, same_each P Q f xs ys rest q.1)

  same_sum : (m : X → ℕ) (n : Y → ℕ) → ((x : X) (y : Y) → g x ≡ h y → m x ≡ n y) → (xs : List X) (ys : List Y) → map g xs ≡ map h ys → sum_by m xs ≡ sum_by n ys
  same_sum m n f [] [] e = refl
  same_sum m n f [] (y ∷ ys) e = absurd cc
  same_sum m n f (x ∷ xs) [] e = absurd cc
  same_sum m n f (x ∷ xs) (y ∷ ys) e =
      let first : g x ≡ h y = cc in
      let rest : map g xs ≡ map h ys = cc in
      omega (arith, sum_by-cons m x xs, sum_by-cons n y ys, f x y first, same_sum m n f xs ys rest)

-- where an element of joined lists stands
get_joined : {X : Type 0} (xs ys : List X) (k : ℕ) (x : X) → slice_get (xs ++ ys) k ≡ Some x → (k < length xs) ⊎ ((length xs ≤ k) × (slice_get ys (k - length xs) ≡ Some x))
get_joined [] ys k x e = inr (omega arith, subst (λ n. slice_get ys n ≡ Some x) (let z : k ≡ k - 0 = omega arith in z) e)
get_joined (z ∷ zs) ys zero x e = inl (omega arith)
get_joined (z ∷ zs) ys (suc k) x e = elim (get_joined zs ys k x e) [
  | inl l ↦ inl (omega (arith, l))
  | inr h ↦ inr (omega (arith, h.0), subst (λ n. slice_get ys n ≡ Some x) (let z : k - length zs ≡ suc k - length (z ∷ zs) = omega (arith, h.0) in z) h.1)
]

map_self : (xs : List Signal) → map (λ (o : Signal). o) xs ≡ xs
map_self [] = refl
map_self (x ∷ xs) = ap (λ l. x ∷ l) (map_self xs)

module _ (f : BlifFileData) (level : Signal → ℕ) (levels : IsLevelling f level) where
  abbrev ordered : List PlacedTable
  ordered = by_level level f

  abbrev before_tables : List Signal
  before_tables = map (signal_of []) (pins f) ++ map state_of (latches f)

  -- a table's output has a higher level than each of its inputs
  inputs_lower : AllByRecursion (λ t. AllByRecursion (λ s. level s < level (output_of t)) (inputs_of t)) ordered
  inputs_lower = each_in_order (λ t. level (output_of t)) (λ t. AllByRecursion (λ s. level s < level (output_of t)) (inputs_of t)) (tables f)
      (AllByRecursion-weaker (λ t. level (output_of t) ≡ 1 + fold max 0 (map level (inputs_of t))) (λ t. AllByRecursion (λ s. level s < level (output_of t)) (inputs_of t))
      (λ t e. AllByRecursion-weaker (λ s. level s ≤ fold max 0 (map level (inputs_of t))) (λ s. level s < level (output_of t)) (λ s l. omega (arith, l, e)) (inputs_of t)
      (AllByRecursion-unmap (λ k. k ≤ fold max 0 (map level (inputs_of t))) level (inputs_of t) (each_le_greatest 0 (map level (inputs_of t)))))
      (tables f) (recursion_from_All (λ t. level (output_of t) ≡ 1 + fold max 0 (map level (inputs_of t))) (tables f) levels.tables_are))

  -- a signal of a lower level than a table's output stands before the table
  stands_before : (j number : ℕ) (t : PlacedTable) (s : Signal) → slice_get ordered j ≡ Some t → slice_get (before_tables ++ map output_of ordered) number ≡ Some s
      → level s < level (output_of t) → number < length before_tables + j
  stands_before j number t s at e lower = elim (get_joined before_tables (map output_of ordered) number s e) [
    | inl l ↦ omega (arith, l)
    | inr h ↦ by h.0 h.1
  ]
    where
      late : length before_tables ≤ number → (q : PlacedTable) → slice_get ordered (number - length before_tables) ≡ Some q → output_of q ≡ s
          → (number < length before_tables + j) ⊎ (length before_tables + j ≤ number) → number < length before_tables + j
      late above q there is (inl l) = l
      late above q there is (inr l) = absurd (omega (
        arith,
        rising_places (λ u. level (output_of u)) ordered (rising_in_order (λ u. level (output_of u)) (tables f)) j (number - length before_tables) t q (omega (arith, l)) at there,
        ap level is,
        lower,
      ))

      by : length before_tables ≤ number → slice_get (map output_of ordered) (number - length before_tables) ≡ Some s → number < length before_tables + j
      by above there =
          let q = same_place (λ (o : Signal). o) output_of (map output_of (by_level level f)) (by_level level f) (map_self (map output_of (by_level level f))) (number - length before_tables) s there in
          late above q.0 q.1 (sym q.2) (cases_lt number (length before_tables + j))

module _ (f : BlifFileData) (n : NetworkData) (good : IsGoodFile f) (is : IsNetworkOf f n) where
  abbrev all : List Signal
  all = signals_by_number f (by_level is.level f)

  count_latches : length n.latches ≡ length (latches f)
  count_latches = same_length (numbered_latch all) placed_latch n.latches (latches f) is.network.latches_are

  count_tables : length n.tables ≡ length (by_level is.level f)
  count_tables = same_length (numbered_table all) placed_table n.tables (by_level is.level f) is.network.tables_are

  count_before : length (before_tables f is.level is.levels) ≡ first_table n
  count_before = omega (arith, length-append (map (signal_of []) (pins f)) (map state_of (latches f)), length-map (pins f) (signal_of []), length-map (latches f) state_of, count_latches, is.network.inputs_are)

  count_all : length all ≡ first_table n + length n.tables
  count_all = omega (
    arith,
    length-append (before_tables f is.level is.levels) (map output_of (by_level is.level f)),
    count_before,
    count_tables,
    length-map (by_level is.level f) output_of,
  )

  count_names : length n.names ≡ length all
  count_names = ap length is.network.names_are ∙ length-map (enumerate_from 0 all) (λ (p : ℕ × Signal). name_by_number (letters_w is.width) p.0 p.1) ∙ length-enumerate_from 0 all

  reads_before : (k : ℕ) (t : NetTableData) → slice_get n.tables k ≡ Some t → All (λ number. number < first_table n + k) t.inputs
  reads_before k t e =
      let p = same_place (numbered_table all) placed_table n.tables (by_level is.level f) is.network.tables_are k t e in
      All-from_recursion (λ number. number < first_table n + k) t.inputs
      (same_each (slice_get all) Some (λ number. number < first_table n + k) (λ s. is.level s < is.level (output_of p.0))
      (λ number s at lower. omega (arith, stands_before f is.level is.levels k number p.0 s p.1 at lower, count_before))
      t.inputs (inputs_of p.0) (ap (λ (b : TableBySignals). b.inputs) p.2)
      (AllByRecursion-contains (λ u. AllByRecursion (λ s. is.level s < is.level (output_of u)) (inputs_of u)) (by_level is.level f) p.0 (inputs_lower f is.level is.levels)
      (Contains-slice_get (by_level is.level f) k p.0 p.1)))

  abbrev Kept : (Signal → Type 0) → Type 0
  Kept Q = AllByRecursion Q all

  -- what holds of all main inputs and of all that parts drive holds of all signals
  each_signal : (Q : Signal → Type 0) → AllByRecursion (λ name. Q (signal_of [] name)) (main_model f).inputs → AllByRecursion (λ p. Q (driven p)) (expanded f) → Kept Q
  each_signal Q inputs parts =
      AllByRecursion-append Q (map (signal_of []) (pins f) ++ map state_of (latches f)) (map output_of (by_level is.level f))
      (AllByRecursion-append Q (map (signal_of []) (pins f)) (map state_of (latches f))
      (AllByRecursion-map Q (signal_of []) (pins f)
      (AllByRecursion-weaker (λ name. (not (is_control_name (slice_get (controls f) 0) name) ≡ true) × Q (signal_of [] name)) (λ name. Q (signal_of [] name)) (λ name h. h.1) (pins f)
      (AllByRecursion-filter (λ name. Q (signal_of [] name)) (λ name. not (is_control_name (slice_get (controls f) 0) name)) (main_model f).inputs inputs)))
      (AllByRecursion-map Q state_of (latches f) (each_latch Q (expanded f) parts)))
      (AllByRecursion-map Q output_of (by_level is.level f)
      (each_in_order (λ t. is.level (output_of t)) (λ t. Q (output_of t)) (tables f) (each_table Q (expanded f) parts)))

  all_apart : Apart all
  all_apart = numbered_apart f is.accepted (λ t. is.level (output_of t))

  in_pairs : Kept (Contains (pairs f))
  in_pairs = each_signal (Contains (pairs f)) (AllByRecursion-from_places (λ name. Contains (pairs f) (signal_of [] name)) (main_model f).inputs
      (λ k name e. input_in_pairs f good name (Contains-slice_get (main_model f).inputs k name e))) (parts_in_pairs f)

  few : length all ≤ most_signals
  few = omega (arith, fits all (pairs f) all_apart in_pairs, count_pairs f, few_signals f is.accepted)

  good_all : Kept (λ s. IsGoodName s.name)
  good_all = each_signal (λ s. IsGoodName s.name) (recursion_from_All IsGoodName (main_model f).inputs (good_main f good).inputs)
      (AllByRecursion-weaker IsGoodPart (λ p. IsGoodName (driven p).name) (λ p h. good_driven p h) (expanded f) (good_parts f good))

  main_all : Kept (HasMainName (main_model f))
  main_all = each_signal (HasMainName (main_model f))
      (AllByRecursion-from_places (λ name. HasMainName (main_model f) (signal_of [] name)) (main_model f).inputs
      (λ k name e on. Contains-append_left ((main_model f).inputs ++ (main_model f).outputs ++ flat_map names_of_table (main_model f).tables ++ flat_map names_of_latch (main_model f).latches) (flat_map actuals_of (main_model f).instances) name
      (Contains-append_left ((main_model f).inputs ++ (main_model f).outputs ++ flat_map names_of_table (main_model f).tables) (flat_map names_of_latch (main_model f).latches) name
      (Contains-append_left ((main_model f).inputs ++ (main_model f).outputs) (flat_map names_of_table (main_model f).tables) name
      (Contains-append_left (main_model f).inputs (main_model f).outputs name (Contains-slice_get (main_model f).inputs k name e))))))
      (main_names f)

  good_tables : AllByRecursion (λ (t : PlacedTable). IsGoodTable t.table) (by_level is.level f)
  good_tables = each_in_order (λ t. is.level (output_of t)) (λ (t : PlacedTable). IsGoodTable t.table) (tables f) (by (expanded f) (good_parts f good))
    where
      by : (xs : List PlacedPart) → AllByRecursion IsGoodPart xs → AllByRecursion (λ (t : PlacedTable). IsGoodTable t.table) (filter_map part_table xs)
      by [] h = tt
      by (TablePart t ∷ xs) h = (h.0.1, by xs h.1)
      by (LatchPart l ∷ xs) h = by xs h.1

  keeps_table : (k : ℕ) (t : NetTableData) → slice_get n.tables k ≡ Some t → IsNetTable (first_table n + k) t
  keeps_table k t e =
      let p = same_place (numbered_table all) placed_table n.tables (by_level is.level f) is.network.tables_are k t e in
      let g = AllByRecursion-contains (λ (u : PlacedTable). IsGoodTable u.table) (by_level is.level f) p.0 good_tables (Contains-slice_get (by_level is.level f) k p.0 p.1) in
      let inputs = ap (λ (b : TableBySignals). b.inputs) p.2 in
      let on = ap (λ (b : TableBySignals). b.on) p.2 in
      let rows = ap (λ (b : TableBySignals). b.rows) p.2 in
      let width : length t.inputs ≡ length p.0.table.inputs = same_length (slice_get all) Some t.inputs (inputs_of p.0) inputs ∙ length-map p.0.table.inputs (signal_of p.0.path) in
      record {
        inputs = reads_before k t e;
        few_inputs = omega (arith, width, g.few_inputs);
        rows = subst (λ w. All (λ row. length row ≡ w) t.rows) (sym width) (subst (All (λ row. length row ≡ length p.0.table.inputs)) (sym rows) g.rows);
        on = λ none. on ∙ g.on (sym rows ∙ none);
      }

  small : (number : ℕ) (s : Signal) → slice_get all number ≡ Some s → number < length n.names
  small number s e = omega (arith, slice_get_within all number s e, count_names)

  keeps_latches : AllByRecursion (λ (l : NetLatch). l.input < length n.names) n.latches
  keeps_latches = same_each (numbered_latch all) placed_latch (λ (l : NetLatch). l.input < length n.names) (λ p. Unit {0})
      (λ l p e u. small l.input (next_of p) (ap (λ (b : LatchBySignals). b.input) e)) n.latches (latches f) is.network.latches_are (AllByRecursion-every (λ p. Unit {0}) (λ p. tt) (latches f))

  keeps_outputs : AllByRecursion (λ number. number < length n.names) n.outputs
  keeps_outputs = same_each (slice_get all) (λ name. Some (signal_of [] name)) (λ number. number < length n.names) (λ name. Unit {0})
      (λ number name e u. small number (signal_of [] name) e) n.outputs (main_model f).outputs is.network.outputs_are (AllByRecursion-every (λ name. Unit {0}) (λ name. tt) (main_model f).outputs)

  outputs_differ : Apart n.outputs
  outputs_differ = apart_from_places n.outputs by
    where
      by : (j k : ℕ) (x y : ℕ) → j < k → slice_get n.outputs j ≡ Some x → slice_get n.outputs k ≡ Some y → x ≢ y
      by j k x y l a b e =
          let p = same_place (slice_get all) (λ name. Some (signal_of [] name)) n.outputs (main_model f).outputs is.network.outputs_are j x a in
          let q = same_place (slice_get all) (λ name. Some (signal_of [] name)) n.outputs (main_model f).outputs is.network.outputs_are k y b in
          let one : Some (signal_of [] p.0) ≡ Some (signal_of [] q.0) = sym p.2 ∙ ap (slice_get all) e ∙ q.2 in
          let signal : signal_of [] p.0 ≡ signal_of [] q.0 = cc in
          output_once f is.accepted j k p.0 q.0 l p.1 q.1 (ap (λ (s : Signal). s.name) signal)

  apart_numbers : (xs : List ℕ) → Apart xs → IsDistinct nat_eq xs
  unfolding IsDistinct
  apart_numbers [] a = tt
  apart_numbers (x ∷ xs) a = (AllByRecursion-weaker (λ y. x ≢ y) (λ y. nat_eq x y ≡ false) (λ y h. ne_eqb x y h) xs a.0, apart_numbers xs a.1)

  weigh_tables : (of_table : TableData → ℕ) (xs : List PlacedPart) → sum_by (λ (t : PlacedTable). of_table t.table) (filter_map part_table xs) ≡ sum_by (part_weight of_table (λ l. 0)) xs
  weigh_tables of_table [] = refl
  weigh_tables of_table (TablePart t ∷ xs) = omega (
    arith,
    weigh_tables of_table xs,
    sum_by-cons (λ (u : PlacedTable). of_table u.table) t (filter_map part_table xs),
    sum_by-cons (part_weight of_table (λ l. 0)) (TablePart t) xs,
  )
  weigh_tables of_table (LatchPart l ∷ xs) = omega (arith, weigh_tables of_table xs, sum_by-cons (part_weight of_table (λ l. 0)) (LatchPart l) xs)

  count_parts : (xs : List PlacedPart) → length (filter_map part_latch xs) ≡ sum_by (part_weight (λ t. 0) (λ l. 1)) xs
  count_parts [] = refl
  count_parts (TablePart t ∷ xs) = omega (arith, count_parts xs, sum_by-cons (part_weight (λ t. 0) (λ l. 1)) (TablePart t) xs)
  count_parts (LatchPart l ∷ xs) = omega (arith, count_parts xs, sum_by-cons (part_weight (λ t. 0) (λ l. 1)) (LatchPart l) xs)

  sum_zero : {X : Type 0} (xs : List X) → sum_by (λ x. 0) xs ≡ 0
  sum_zero [] = refl
  sum_zero (x ∷ xs) = omega (arith, sum_by-cons (λ z. 0) x xs, sum_zero xs)

  sum_one : {X : Type 0} (xs : List X) → sum_by (λ x. 1) xs ≡ length xs
  sum_one [] = refl
  sum_one (x ∷ xs) = omega (arith, sum_by-cons (λ z. 1) x xs, sum_one xs)

  net_letters : sum_by (λ (t : NetTableData). letters (length t.inputs) t.rows) n.tables ≡ letter_count f
  net_letters =
      same_sum (numbered_table all) placed_table (λ (t : NetTableData). letters (length t.inputs) t.rows) (λ (p : PlacedTable). letters (length p.table.inputs) p.table.rows) same_letters
      n.tables (by_level is.level f) is.network.tables_are
      ∙ sum_in_order (λ t. is.level (output_of t)) (λ (p : PlacedTable). letters (length p.table.inputs) p.table.rows) (tables f)
      ∙ weigh_tables (λ t. letters (length t.inputs) t.rows) (expanded f)
      ∙ parts_weigh (λ t. letters (length t.inputs) t.rows) (λ l. 0) f.models (length f.models) [] (main_model f)
      ∙ sum_same (place_weight (λ t. letters (length t.inputs) t.rows) (λ l. 0)) (λ (p : Occurrence). sum_by (λ (t : TableData). letters (length t.inputs) t.rows) p.model.tables)
      (λ p. omega (arith, sum_zero p.model.latches)) (occurrences f)
    where
      same_letters : (t : NetTableData) (p : PlacedTable) → numbered_table all t ≡ placed_table p → letters (length t.inputs) t.rows ≡ letters (length p.table.inputs) p.table.rows
      same_letters t p e =
          let width : length t.inputs ≡ length p.table.inputs = same_length (slice_get all) Some t.inputs (inputs_of p) (ap (λ (b : TableBySignals). b.inputs) e) ∙ length-map p.table.inputs (signal_of p.path) in
          ap (λ w. letters w t.rows) width ∙ ap (letters (length p.table.inputs)) (ap (λ (b : TableBySignals). b.rows) e)

  net_latches : length n.latches ≡ sum_by (λ (p : Occurrence). length p.model.latches) (occurrences f)
  net_latches =
      count_latches ∙ count_parts (expanded f)
      ∙ parts_weigh (λ t. 0) (λ l. 1) f.models (length f.models) [] (main_model f)
      ∙ sum_same (place_weight (λ t. 0) (λ l. 1)) (λ (p : Occurrence). length p.model.latches) (λ p. omega (arith, sum_zero p.model.tables, sum_one p.model.latches)) (occurrences f)

  net_outputs : length n.outputs ≡ length (main_model f).outputs
  net_outputs = same_length (slice_get all) (λ name. Some (signal_of [] name)) n.outputs (main_model f).outputs is.network.outputs_are

  kept : IsNetwork n
  kept = record {
    name = subst IsGoodName (sym is.network.name_is) (good_main f good).name;
    names = subst (All IsGoodName) (sym is.network.names_are)
        (All-from_recursion IsGoodName (names_by_number (letters_w is.width) all) (names_are_good (main_model f) is.width is.prefix.is_free.free all (omega (arith, few)) good_all));
    apart = subst (IsDistinct same) (sym is.network.names_are) (names_differ (main_model f) is.width is.prefix.is_free.free all (omega (arith, few)) all_apart main_all);
    count = count_names ∙ count_all;
    tables = keeps_table;
    latches = All-from_recursion (λ (l : NetLatch). l.input < length n.names) n.latches keeps_latches;
    outputs = All-from_recursion (λ number. number < length n.names) n.outputs keeps_outputs;
    outputs_apart = apart_numbers n.outputs outputs_differ;
    few_signals = omega (arith, few, count_names);
    few_letters = omega (arith, net_letters, few_letters f is.accepted);
    few_sinks = omega (arith, net_latches, net_outputs, few_sinks f is.accepted);
  }

pub network_kept : (f : BlifFileData) (n : NetworkData) → IsGoodFile f → IsNetworkOf f n → IsNetwork n
network_kept f n good is = kept f n good is
