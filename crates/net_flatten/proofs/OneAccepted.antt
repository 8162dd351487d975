-- The file of one model of a network has nothing to be refused for.
use Rattle.std.proofs.Common.{◌≡◌, ℕ, zero, suc, ◌<◌, ◌≤◌, ◌+◌, inl, inr, List, [], ◌∷◌, ◌++◌, map, length, take, Some, refl, ap, sym, ◌∙◌, subst, arith, append-nil}
use Rattle.std.specs.Prelude.{◌≢◌, Contains, slice_get, if◌then◌else◌}
use Rattle.std.specs.List.{AllByRecursion, enumerate_from, filter_map, flat_map}
use Rattle.std.proofs.lemmas.Bool.{cases_lt, le-ltb}
use Rattle.std.proofs.lemmas.Grind.{flat_map-append}
use Rattle.std.proofs.lemmas.List.{map-append}
use Rattle.std.proofs.lemmas.List.Elements.{Contains-append_left, Contains-append_right, filter_map-append, recursion_from_All}
use Rattle.dom_base.proofs.Lists.{AllByRecursion-append, AllByRecursion-both, AllByRecursion-contains, AllByRecursion-map, AllByRecursion-weaker, Contains-slice_get, AllByRecursion-unmap}
use Rattle.blif_ast.specs.BlifFileData.{BlifFileData}
use Rattle.blif_ast.specs.BlifModelData.{BlifModelData}
use Rattle.blif_ast.specs.declared.latch.Latch.{Latch}
use Rattle.blif_ast.specs.InstanceData.{InstanceData}
use Rattle.blif_ast.specs.TableData.{TableData}
use Rattle.network.specs.declared.network.NetLatch.{NetLatch}
use Rattle.model_calls.specs.Ends.{End, clocking_of, clockings, drivers, driven_end, end_at, inputs_of, main_inputs, main_outputs, output_of, readers, read_ends, state_of}
use Rattle.model_calls.specs.Expanded.{BodyCard, LatchCard, LatchPart, PlacedPart, PlacedLatch, PlacedTable, TableCard, TablePart, ordered_cards, expanded, expanded_from, part_latch, latches, card_line, parts_of_card, part_table, tables}
use Rattle.network.specs.NetworkData.{NetTableData, NetworkData}
use Rattle.network.specs.Networks.{IsNetwork, first_table}
use Rattle.net_flatten.specs.OneModel.{file_of, latch_at, name_at, table_at}
use Rattle.model_calls.specs.Ordered.{in_order, with_element}
use Rattle.model_calls.specs.Occurrences.{main_model, models_called}
use Rattle.model_calls.specs.SignalFaults.{IsFedBy, signals}
use Rattle.model_calls.specs.Signals.{Signal, signal_of}
use Rattle.model_calls.specs.Reaches.{Reaches, more, step}
use Rattle.model_calls.proofs.Apart.{Apart, Apart-append}
use Rattle.model_calls.proofs.Drivers.{driven}
use Rattle.net_flatten.specs.OneModelParts.{IsTableHere, latches_here, signal_at, tables_here}
use Rattle.net_flatten.proofs.OneModel.{latch_lines, name_once, table_lines, table_number}
use Rattle.network.proofs.Lists.{contains_map}
use Rattle.model_calls.proofs.EachPart.{each_flat}
use Rattle.model_calls.proofs.Pairs.{contains_to}
use Rattle.part_numbers.proofs.Ranges.{each_enumerated, enumerated_row, map_map, row_apart, row_bounds, row_contains, take_by_row}
use Rattle.part_numbers.specs.Ranges.{row}
use Rattle.model_calls.proofs.Rising.{Rising}

-- what rises is in order
pub rising_is_in_order : {X : Type 0} (n : X → ℕ) (xs : List X) → Rising n xs → in_order n xs ≡ xs
rising_is_in_order n [] r = refl
rising_is_in_order n (x ∷ xs) r = ap (with_element n x) (rising_is_in_order n xs r.1) ∙ at_front n x xs r.0
  where
    at_front : {X : Type 0} (n : X → ℕ) (x : X) (xs : List X) → AllByRecursion (λ y. n x ≤ n y) xs → with_element n x xs ≡ x ∷ xs
    at_front n x [] h = refl
    at_front n x (y ∷ ys) h = ap (λ b. if b then y ∷ with_element n x ys else x ∷ y ∷ ys) (le-ltb (n y) (n x) h.0)

pub rising_by : {X : Type 0} (n : X → ℕ) (xs : List X) → Rising (λ (k : ℕ). k) (map n xs) → Rising n xs
rising_by n [] r = tt
rising_by n (x ∷ xs) r = (AllByRecursion-unmap (λ k. n x ≤ k) n xs r.0, rising_by n xs r.1)

rising_append : (xs ys : List ℕ) → Rising (λ (k : ℕ). k) xs → Rising (λ (k : ℕ). k) ys → AllByRecursion (λ x. AllByRecursion (λ y. x ≤ y) ys) xs → Rising (λ (k : ℕ). k) (xs ++ ys)
rising_append [] ys a b c = b
rising_append (x ∷ xs) ys a b c = (AllByRecursion-append (λ y. x ≤ y) xs ys a.0 c.0, rising_append xs ys a.1 b c.1)

rising_row : (a m : ℕ) → Rising (λ (k : ℕ). k) (row a m)
rising_row a zero = tt
rising_row a (suc m) = (AllByRecursion-weaker (λ k. (a + 1 ≤ k) × (k < a + 1 + m)) (λ k. a ≤ k) (λ k h. omega (arith, h.0)) (row (a + 1) m) (row_bounds (a + 1) m), rising_row (a + 1) m)

abbrev pub SignalOf : End → Signal
SignalOf e = e.signal

module _ (n : NetworkData) (is : IsNetwork n) where
  abbrev f : BlifFileData
  f = file_of n

  abbrev m : BlifModelData
  m = main_model (file_of n)

  abbrev pub tables_at : List PlacedTable
  tables_at = map (λ t. record { path = []; table = t }) (tables_here n)

  abbrev pub latches_at : List PlacedLatch
  latches_at = map (λ l. record { path = []; latch = l }) (latches_here n)

  abbrev parts : List PlacedPart
  parts = map TablePart tables_at ++ map LatchPart latches_at

  abbrev own_lines : List ℕ
  own_lines = row 2 (length n.tables) ++ row (2 + length n.tables) (length n.latches)

  lines_rise : Rising (λ (k : ℕ). k) own_lines
  lines_rise = rising_append (row 2 (length n.tables)) (row (2 + length n.tables) (length n.latches)) (rising_row 2 (length n.tables)) (rising_row (2 + length n.tables) (length n.latches))
      (AllByRecursion-weaker (λ k. (2 ≤ k) × (k < 2 + length n.tables)) (λ k. AllByRecursion (λ j. k ≤ j) (row (2 + length n.tables) (length n.latches)))
      (λ k h. AllByRecursion-weaker (λ j. (2 + length n.tables ≤ j) × (j < 2 + length n.tables + length n.latches)) (λ j. k ≤ j) (λ j g. omega (arith, h.1, g.0))
      (row (2 + length n.tables) (length n.latches)) (row_bounds (2 + length n.tables) (length n.latches))) (row 2 (length n.tables)) (row_bounds 2 (length n.tables)))

  abbrev own_cards : List BodyCard
  own_cards = map TableCard (tables_here n) ++ map LatchCard (latches_here n)

  lines_of_cards : map card_line own_cards ≡ own_lines
  lines_of_cards = map-append card_line (map TableCard (tables_here n)) (map LatchCard (latches_here n))
      ∙ ap (λ l. l ++ map card_line (map LatchCard (latches_here n))) (map_map card_line TableCard (tables_here n) ∙ table_lines n is)
      ∙ ap (λ l. row 2 (length n.tables) ++ l) (map_map card_line LatchCard (latches_here n) ∙ latch_lines n is)

  cards_are : ordered_cards m ≡ own_cards
  cards_are = ap (in_order card_line) (append-nil own_cards) ∙ rising_is_in_order card_line own_cards (rising_by card_line own_cards (subst (Rising (λ (k : ℕ). k)) (sym lines_of_cards) lines_rise))

  abbrev below : List InstanceData → List ℕ → List PlacedPart
  below p unit = flat_map (expanded_from f.models 0 p) (models_called f.models unit)

  tables_part : (ts : List TableData) → flat_map (parts_of_card below []) (map TableCard ts) ≡ map TablePart (map (λ t. record { path = []; table = t }) ts)
  tables_part [] = refl
  tables_part (t ∷ ts) = ap (λ l. TablePart (record { path = []; table = t }) ∷ l) (tables_part ts)

  latches_part : (ls : List Latch) → flat_map (parts_of_card below []) (map LatchCard ls) ≡ map LatchPart (map (λ l. record { path = []; latch = l }) ls)
  latches_part [] = refl
  latches_part (l ∷ ls) = ap (λ k. LatchPart (record { path = []; latch = l }) ∷ k) (latches_part ls)

  unfold_once : expanded f ≡ flat_map (parts_of_card below []) (ordered_cards m)
  unfold_once = refl

  pub expanded_is : expanded f ≡ parts
  expanded_is = unfold_once ∙ ap (flat_map (parts_of_card below [])) cards_are
      ∙ flat_map-append (parts_of_card below []) (map TableCard (tables_here n)) (map LatchCard (latches_here n))
      ∙ ap (λ l. l ++ flat_map (parts_of_card below []) (map LatchCard (latches_here n))) (tables_part (tables_here n))
      ∙ ap (λ l. map TablePart tables_at ++ l) (latches_part (latches_here n))

  only_tables : (ts : List PlacedTable) → filter_map part_table (map TablePart ts) ≡ ts
  only_tables [] = refl
  only_tables (t ∷ ts) = ap (λ l. t ∷ l) (only_tables ts)

  no_tables : (ls : List PlacedLatch) → filter_map part_table (map LatchPart ls) ≡ []
  no_tables [] = refl
  no_tables (l ∷ ls) = no_tables ls

  only_latches : (ls : List PlacedLatch) → filter_map part_latch (map LatchPart ls) ≡ ls
  only_latches [] = refl
  only_latches (l ∷ ls) = ap (λ k. l ∷ k) (only_latches ls)

  no_latches : (ts : List PlacedTable) → filter_map part_latch (map TablePart ts) ≡ []
  no_latches [] = refl
  no_latches (t ∷ ts) = no_latches ts

  pub tables_are : tables f ≡ tables_at
  tables_are = ap (filter_map part_table) expanded_is ∙ filter_map-append part_table (map TablePart tables_at) (map LatchPart latches_at)
      ∙ ap (λ l. l ++ filter_map part_table (map LatchPart latches_at)) (only_tables tables_at) ∙ ap (λ l. tables_at ++ l) (no_tables latches_at) ∙ append-nil tables_at

  pub latches_are : latches f ≡ latches_at
  latches_are = ap (filter_map part_latch) expanded_is ∙ filter_map-append part_latch (map TablePart tables_at) (map LatchPart latches_at)
      ∙ ap (λ l. l ++ filter_map part_latch (map LatchPart latches_at)) (no_latches tables_at) ∙ only_latches latches_at

  abbrev pub driver_numbers : List ℕ
  driver_numbers = row 0 n.inputs ++ (row (first_table n) (length n.tables) ++ row n.inputs (length n.latches))

  pub inputs_are : map SignalOf (main_inputs f) ≡ map (signal_at n) (row 0 n.inputs)
  inputs_are = map_map SignalOf (end_at [] 1) (take n.inputs n.names) ∙ ap (map (signal_of [])) (take_by_row [] n.names n.inputs (omega (arith, is.count))) ∙ map_map (signal_of []) (name_at n) (row 0 n.inputs)

  driven_tables : map driven (map TablePart tables_at) ≡ map (signal_at n) (row (first_table n) (length n.tables))
  driven_tables = map_map driven TablePart tables_at ∙ map_map output_of (λ t. record { path = []; table = t }) (tables_here n)
      ∙ map_map (λ t. output_of (record { path = []; table = t })) (λ (p : ℕ × NetTableData). table_at n p.0 p.1) (enumerate_from 0 n.tables)
      ∙ sym (map_map (signal_at n) (λ (p : ℕ × NetTableData). first_table n + p.0) (enumerate_from 0 n.tables))
      ∙ ap (map (signal_at n)) (enumerated_row (first_table n) 0 n.tables ∙ ap (λ k. row k (length n.tables)) (let z : first_table n + 0 ≡ first_table n = omega arith in z))

  driven_latches : map driven (map LatchPart latches_at) ≡ map (signal_at n) (row n.inputs (length n.latches))
  driven_latches = map_map driven LatchPart latches_at ∙ map_map state_of (λ l. record { path = []; latch = l }) (latches_here n)
      ∙ map_map (λ l. state_of (record { path = []; latch = l })) (λ (p : ℕ × NetLatch). latch_at n p.0 p.1) (enumerate_from 0 n.latches)
      ∙ sym (map_map (signal_at n) (λ (p : ℕ × NetLatch). n.inputs + p.0) (enumerate_from 0 n.latches))
      ∙ ap (map (signal_at n)) (enumerated_row n.inputs 0 n.latches ∙ ap (λ k. row k (length n.latches)) (let z : n.inputs + 0 ≡ n.inputs = omega arith in z))

  driven_are : map driven (expanded f) ≡ map (signal_at n) (row (first_table n) (length n.tables) ++ row n.inputs (length n.latches))
  driven_are = ap (map driven) expanded_is ∙ map-append driven (map TablePart tables_at) (map LatchPart latches_at)
      ∙ ap (λ l. l ++ map driven (map LatchPart latches_at)) driven_tables ∙ ap (λ l. map (signal_at n) (row (first_table n) (length n.tables)) ++ l) driven_latches
      ∙ sym (map-append (signal_at n) (row (first_table n) (length n.tables)) (row n.inputs (length n.latches)))

  all_driven : map SignalOf (main_inputs f) ++ map driven (expanded f) ≡ map (signal_at n) driver_numbers
  all_driven = ap (λ l. l ++ map driven (expanded f)) inputs_are ∙ ap (λ l. map (signal_at n) (row 0 n.inputs) ++ l) driven_are
      ∙ sym (map-append (signal_at n) (row 0 n.inputs) (row (first_table n) (length n.tables) ++ row n.inputs (length n.latches)))

  -- the numbers of drivers differ and are in range
  apart_rows : (a b c d : ℕ) → ((j k : ℕ) → a ≤ j → j < a + b → c ≤ k → k < c + d → j ≢ k) → AllByRecursion (λ j. AllByRecursion (λ k. j ≢ k) (row c d)) (row a b)
  apart_rows a b c d h = AllByRecursion-weaker (λ j. (a ≤ j) × (j < a + b)) (λ j. AllByRecursion (λ k. j ≢ k) (row c d))
      (λ j g. AllByRecursion-weaker (λ k. (c ≤ k) × (k < c + d)) (λ k. j ≢ k) (λ k e. h j k g.0 g.1 e.0 e.1) (row c d) (row_bounds c d)) (row a b) (row_bounds a b)

  across_both : (xs ys zs : List ℕ) → AllByRecursion (λ j. AllByRecursion (λ k. j ≢ k) ys) xs → AllByRecursion (λ j. AllByRecursion (λ k. j ≢ k) zs) xs → AllByRecursion (λ j. AllByRecursion (λ k. j ≢ k) (ys ++ zs)) xs
  across_both [] ys zs a b = tt
  across_both (x ∷ xs) ys zs a b = (AllByRecursion-append (λ k. x ≢ k) ys zs a.0 b.0, across_both xs ys zs a.1 b.1)

  numbers_apart : Apart driver_numbers
  numbers_apart = Apart-append (row 0 n.inputs) (row (first_table n) (length n.tables) ++ row n.inputs (length n.latches)) (row_apart 0 n.inputs)
      (Apart-append (row (first_table n) (length n.tables)) (row n.inputs (length n.latches)) (row_apart (first_table n) (length n.tables)) (row_apart n.inputs (length n.latches))
      (apart_rows (first_table n) (length n.tables) n.inputs (length n.latches) (λ j k a b c d e. omega (arith, a, d, e))))
      (across_both (row 0 n.inputs) (row (first_table n) (length n.tables)) (row n.inputs (length n.latches))
      (apart_rows 0 n.inputs (first_table n) (length n.tables) (λ j k a b c d e. omega (arith, b, c, e)))
      (apart_rows 0 n.inputs n.inputs (length n.latches) (λ j k a b c d e. omega (arith, b, c, e))))

  numbers_small : AllByRecursion (λ k. k < length n.names) driver_numbers
  numbers_small = AllByRecursion-append (λ k. k < length n.names) (row 0 n.inputs) (row (first_table n) (length n.tables) ++ row n.inputs (length n.latches))
      (AllByRecursion-weaker (λ k. (0 ≤ k) × (k < 0 + n.inputs)) (λ k. k < length n.names) (λ k h. omega (arith, h.1, is.count)) (row 0 n.inputs) (row_bounds 0 n.inputs))
      (AllByRecursion-append (λ k. k < length n.names) (row (first_table n) (length n.tables)) (row n.inputs (length n.latches))
      (AllByRecursion-weaker (λ k. (first_table n ≤ k) × (k < first_table n + length n.tables)) (λ k. k < length n.names) (λ k h. omega (arith, h.1, is.count)) (row (first_table n) (length n.tables)) (row_bounds (first_table n) (length n.tables)))
      (AllByRecursion-weaker (λ k. (n.inputs ≤ k) × (k < n.inputs + length n.latches)) (λ k. k < length n.names) (λ k h. omega (arith, h.1, is.count)) (row n.inputs (length n.latches)) (row_bounds n.inputs (length n.latches))))

  pub sig_once : (j k : ℕ) → j < length n.names → k < length n.names → signal_at n j ≡ signal_at n k → j ≡ k
  sig_once j k a b e = name_once n is j k a b (ap (λ (s : Signal). s.name) e)

  map_apart : (ks : List ℕ) → AllByRecursion (λ k. k < length n.names) ks → Apart ks → Apart (map (signal_at n) ks)
  map_apart [] l a = tt
  map_apart (k ∷ ks) l a = (
    AllByRecursion-map (λ s. signal_at n k ≢ s) (signal_at n) ks
        (AllByRecursion-weaker (λ j. (j < length n.names) × (k ≢ j)) (λ j. signal_at n k ≢ signal_at n j) (λ j h e. h.1 (sig_once k j l.0 h.0 e)) ks (AllByRecursion-both (λ j. j < length n.names) (λ j. k ≢ j) ks l.1 a.0)),
    map_apart ks l.1 a.1,
  )

  pub drivers_apart : Apart (map SignalOf (main_inputs f) ++ map driven (expanded f))
  drivers_apart = subst Apart (sym all_driven) (map_apart driver_numbers numbers_small numbers_apart)

  drives_number : (k : ℕ) → k < length n.names → Contains driver_numbers k
  drives_number k l = elim (cases_lt k n.inputs) [
    | inl a ↦ Contains-append_left (row 0 n.inputs) (row (first_table n) (length n.tables) ++ row n.inputs (length n.latches)) k (row_contains 0 n.inputs k (omega arith) (omega (arith, a)))
    | inr b ↦ Contains-append_right (row 0 n.inputs) (row (first_table n) (length n.tables) ++ row n.inputs (length n.latches)) k (elim (cases_lt k (first_table n)) [
      | inl c ↦ Contains-append_right (row (first_table n) (length n.tables)) (row n.inputs (length n.latches)) k (row_contains n.inputs (length n.latches) k b (omega (arith, c)))
      | inr d ↦ Contains-append_left (row (first_table n) (length n.tables)) (row n.inputs (length n.latches)) k (row_contains (first_table n) (length n.tables) k d (omega (arith, l, is.count)))
    ])
  ]

  pub is_driven : (k : ℕ) → k < length n.names → Contains (signals (drivers f)) (signal_at n k)
  is_driven k l = subst (λ s. Contains s (signal_at n k))
      (sym (map-append SignalOf (main_inputs f) (map driven_end (expanded f)) ∙ ap (λ s. map SignalOf (main_inputs f) ++ s) (map_map SignalOf driven_end (expanded f)) ∙ all_driven))
      (contains_to (signal_at n) driver_numbers k (drives_number k l))

  pub each_table_here : (P : PlacedTable → Type 0) → ((k : ℕ) (t : NetTableData) → slice_get n.tables k ≡ Some t → P (record { path = []; table = table_at n k t })) → AllByRecursion P tables_at
  each_table_here P h = AllByRecursion-map P (λ t. record { path = []; table = t }) (tables_here n)
      (AllByRecursion-map (λ t. P (record { path = []; table = t })) (λ (p : ℕ × NetTableData). table_at n p.0 p.1) (enumerate_from 0 n.tables)
      (each_enumerated (λ (p : ℕ × NetTableData). P (record { path = []; table = table_at n p.0 p.1 })) 0 n.tables
      (λ k t e. subst (λ j. P (record { path = []; table = table_at n j t })) (let z : k ≡ 0 + k = omega arith in z) (h k t e))))

  pub each_latch_here : (P : PlacedLatch → Type 0) → ((k : ℕ) (l : NetLatch) → slice_get n.latches k ≡ Some l → P (record { path = []; latch = latch_at n k l })) → AllByRecursion P latches_at
  each_latch_here P h = AllByRecursion-map P (λ l. record { path = []; latch = l }) (latches_here n)
      (AllByRecursion-map (λ l. P (record { path = []; latch = l })) (λ (p : ℕ × NetLatch). latch_at n p.0 p.1) (enumerate_from 0 n.latches)
      (each_enumerated (λ (p : ℕ × NetLatch). P (record { path = []; latch = latch_at n p.0 p.1 })) 0 n.latches
      (λ k l e. subst (λ j. P (record { path = []; latch = latch_at n j l })) (let z : k ≡ 0 + k = omega arith in z) (h k l e))))

  abbrev IsRead : End → Type 0
  IsRead e = Contains (signals (drivers f)) e.signal

  pub table_small : (k : ℕ) (t : NetTableData) → slice_get n.tables k ≡ Some t → AllByRecursion (λ s. s < first_table n + k) t.inputs
  table_small k t e = recursion_from_All (λ s. s < first_table n + k) t.inputs (is.tables k t e).inputs

  parts_read : AllByRecursion (λ p. AllByRecursion IsRead (read_ends p)) parts
  parts_read = AllByRecursion-append (λ p. AllByRecursion IsRead (read_ends p)) (map TablePart tables_at) (map LatchPart latches_at)
      (AllByRecursion-map (λ p. AllByRecursion IsRead (read_ends p)) TablePart tables_at (each_table_here (λ t. AllByRecursion IsRead (read_ends (TablePart t)))
      (λ k t e. AllByRecursion-map IsRead (end_at [] (2 + k)) (map (name_at n) t.inputs) (AllByRecursion-map (λ name. IsRead (end_at [] (2 + k) name)) (name_at n) t.inputs
      (AllByRecursion-weaker (λ s. s < first_table n + k) (λ s. IsRead (end_at [] (2 + k) (name_at n s))) (λ s l. is_driven s (omega (arith, l, table_number n is k t e))) t.inputs (table_small k t e))))))
      (AllByRecursion-map (λ p. AllByRecursion IsRead (read_ends p)) LatchPart latches_at (each_latch_here (λ l. AllByRecursion IsRead (read_ends (LatchPart l)))
      (λ k l e. (is_driven l.input (AllByRecursion-contains (λ (j : NetLatch). j.input < length n.names) n.latches l (recursion_from_All (λ (j : NetLatch). j.input < length n.names) n.latches is.latches) (Contains-slice_get n.latches k l e)), tt))))

  pub all_read : AllByRecursion IsRead (readers f)
  all_read = AllByRecursion-append IsRead (flat_map read_ends (expanded f)) (main_outputs f)
      (each_flat IsRead read_ends (expanded f) (subst (AllByRecursion (λ p. AllByRecursion IsRead (read_ends p))) (sym expanded_is) parts_read))
      (AllByRecursion-map IsRead (end_at [] 1) (map (name_at n) n.outputs) (AllByRecursion-map (λ name. IsRead (end_at [] 1 name)) (name_at n) n.outputs
      (AllByRecursion-weaker (λ s. s < length n.names) (λ s. IsRead (end_at [] 1 (name_at n s))) (λ s l. is_driven s l) n.outputs (recursion_from_All (λ s. s < length n.names) n.outputs is.outputs))))

  pub table_here : (t : PlacedTable) → Contains (tables f) t → IsTableHere n t
  table_here t c = AllByRecursion-contains (IsTableHere n) tables_at t (each_table_here (IsTableHere n) (λ k net e. (k, net, e, refl))) (subst (λ l. Contains l t) tables_are c)

  -- steps fall
  fed_falls : (a b : Signal) → IsFedBy f a b → (x : ℕ) → a ≡ signal_at n x → x < length n.names → (y : ℕ) × (b ≡ signal_at n y) × (y < x)
  fed_falls a b fed x at l = by (table_here fed.0 fed.1)
    where
      by : IsTableHere n fed.0 → (y : ℕ) × (b ≡ signal_at n y) × (y < x)
      by (k, net, e, same_table) =
          let out : signal_at n (first_table n + k) ≡ signal_at n x = sym (ap output_of same_table) ∙ fed.2 ∙ at in
          let number = sig_once (first_table n + k) x (table_number n is k net e) l out in
          let inside : Contains (map (signal_of []) (map (name_at n) net.inputs)) b = subst (λ u. Contains (inputs_of u) b) same_table fed.3 in
          let p = contains_map (signal_of []) (map (name_at n) net.inputs) b inside in
          let q = contains_map (name_at n) net.inputs p.0 p.1 in
          (q.0, p.2 ∙ ap (signal_of []) q.2, omega (arith, AllByRecursion-contains (λ s. s < first_table n + k) net.inputs q.0 (table_small k net e) q.1, number))

  steps_fall : {a b : Signal} → Reaches (IsFedBy f) a b → (x : ℕ) → a ≡ signal_at n x → x < length n.names → (y : ℕ) × (b ≡ signal_at n y) × (y < x)
  steps_fall (step {a} {b} fed) = λ x at l. fed_falls a b fed x at l
  steps_fall (more {a} {b} {c} fed rest) = λ x at l.
      let p = fed_falls a b fed x at l in
      let q = steps_fall rest p.0 p.1 (omega (arith, p.2, l)) in
      (q.0, q.1, omega (arith, q.2, p.2))

  pub no_cycle : (t : PlacedTable) → Contains (tables f) t → Reaches (IsFedBy f) (output_of t) (output_of t) → ⊥
  no_cycle t c steps = by (table_here t c)
    where
      by : IsTableHere n t → ⊥
      by (k, net, e, same_table) =
          let at : output_of t ≡ signal_at n (first_table n + k) = ap output_of same_table in
          let p = steps_fall steps (first_table n + k) at (table_number n is k net e) in
          let once = sig_once (first_table n + k) p.0 (table_number n is k net e) (omega (arith, p.2, table_number n is k net e)) (sym at ∙ p.1) in
          omega (arith, once, p.2)

  no_clocking : (ps : List (ℕ × NetLatch)) → filter_map clocking_of (map (λ l. record { path = []; latch = l }) (map (λ (p : ℕ × NetLatch). latch_at n p.0 p.1) ps)) ≡ []
  no_clocking [] = refl
  no_clocking (p ∷ ps) = no_clocking ps

  pub no_clockings : clockings f ≡ []
  no_clockings = ap (filter_map clocking_of) latches_are ∙ no_clocking (enumerate_from 0 n.latches)
