-- A network and the network of its file of one model have the same runs.
use Rattle.std.proofs.Common.{◌≡◌, ℕ, zero, suc, ◌<◌, ◌≤◌, ◌+◌, Bool, true, false, not, List, [], ◌∷◌, ◌++◌, map, filter, length, take, drop, Some, refl, ap, sym, ◌∙◌, subst, arith, append_assoc}
use Rattle.std.proofs.lemmas.List.Elements.{recursion_from_All}
use Rattle.std.specs.Prelude.{◌↔◌, ◌==◌, slice_get, if◌then◌else◌}
use Rattle.std.specs.List.{AllByRecursion, enumerate_from, filter_map}
use Rattle.std.proofs.lemmas.List.{length-append, length-drop, length-map, length-take-le, map-append}
use Rattle.std.proofs.Math.Seq.{drop-append_seam, take-append_seam}
use Rattle.std.proofs.lemmas.List.FromFn.{length-enumerate_from}
use Rattle.dom_base.proofs.Lists.{AllByRecursion-append, AllByRecursion-contains, AllByRecursion-weaker, Contains-slice_get}
use Rattle.blif_ast.specs.BlifFileData.{BlifFileData}
use Rattle.blif_ast.specs.TableValue.{IsOneAt}
use Rattle.network.specs.declared.network.NetLatch.{NetLatch}
use Rattle.model_calls.specs.Ends.{Clocking, End, inputs_of, output_of, state_of}
use Rattle.model_calls.specs.Expanded.{PlacedTable, latches, tables}
use Rattle.net_flatten.specs.Flattening.{IsNetworkOf, LatchBySignals, TableBySignals, numbered_latch, numbered_table, placed_latch, placed_table}
use Rattle.network.specs.NetworkData.{NetTableData, NetworkData}
use Rattle.network.specs.Networks.{IsNetwork, first_table}
use Rattle.model_calls.specs.Numbering.{by_level, is_control_name, letters_w, name_by_number, pins, signals_by_number}
use Rattle.net_flatten.specs.OneModel.{file_of, latch_at, name_at}
use Rattle.model_calls.specs.Signals.{Signal, signal_of}
use Rattle.model_calls.proofs.Apart.{each_in_order}
use Rattle.net_flatten.proofs.Kept.{network_kept, same_length, same_place}
use Rattle.net_flatten.specs.OneModelParts.{IsTableHere, signal_at, latches_here}
use Rattle.net_flatten.proofs.OneAccepted.{each_table_here, latches_are, no_clockings, sig_once, table_small, tables_are}
use Rattle.net_flatten.proofs.OneModel.{good_one_model, table_number}
use Rattle.part_numbers.proofs.Ranges.{enumerated_row, length_row, map_map, row_bounds, take_by_row}
use Rattle.part_numbers.specs.Ranges.{row}
use Rattle.net_run.proofs.Valuations.{one_valuation}
use Rattle.net_run.specs.Runs.{Cycle, IsNetworkCycle, IsNetworkRun, IsNetworkRunFrom, IsValuation, start, value_at}
use Rattle.network.proofs.Lists.{get_of_map}

-- lists that are taken to one list are taken alike by what agrees on them
same_map : {X Y Z W : Type 0} (g : X → Z) (h : Y → Z) (a : X → W) (b : Y → W) (Q : Y → Type 0) → ((x : X) (y : Y) → g x ≡ h y → Q y → a x ≡ b y)
    → (xs : List X) (ys : List Y) → map g xs ≡ map h ys → AllByRecursion Q ys → map a xs ≡ map b ys
same_map g h a b Q f [] [] e q = refl
same_map g h a b Q f [] (y ∷ ys) e q = absurd cc
same_map g h a b Q f (x ∷ xs) [] e q = absurd cc
same_map g h a b Q f (x ∷ xs) (y ∷ ys) e q =
    let first : g x ≡ h y = cc in
    let rest : map g xs ≡ map h ys = cc in
    ap (λ k. k ∷ map a xs) (f x y first q.0) ∙ ap (λ l. b y ∷ l) (same_map g h a b Q f xs ys rest q.1)

value_map : (g : ℕ → Bool) (ks : List ℕ) (x k : ℕ) → slice_get ks x ≡ Some k → value_at (map g ks) x ≡ g k
value_map g [] x k e = absurd cc
value_map g (j ∷ ks) zero k e = let i : j ≡ k = cc in ap g i
value_map g (j ∷ ks) (suc x) k e = value_map g ks x k e

get_behind : {X : Type 0} (xs ys : List X) (k : ℕ) (y : X) → slice_get ys k ≡ Some y → slice_get (xs ++ ys) (length xs + k) ≡ Some y
get_behind [] ys k y e = subst (λ n. slice_get ys n ≡ Some y) (let z : k ≡ 0 + k = omega arith in z) e
get_behind (x ∷ xs) ys k y e = subst (λ n. slice_get (x ∷ (xs ++ ys)) n ≡ Some y) (let z : suc (length xs + k) ≡ length (x ∷ xs) + k = omega arith in z) (get_behind xs ys k y e)

map_enumerated : {X Y : Type 0} (g : X → Y) (k : ℕ) (xs : List X) → map (λ (p : ℕ × X). g p.1) (enumerate_from k xs) ≡ map g xs
map_enumerated g k [] = refl
map_enumerated g k (x ∷ xs) = ap (λ l. g x ∷ l) (map_enumerated g (k + 1) xs)

-- a window of a list by its places
row_shift : {X : Type 0} (g : ℕ → X) (a b m : ℕ) → map (λ k. g (a + k)) (row b m) ≡ map g (row (a + b) m)
row_shift g a b zero = refl
row_shift g a b (suc m) = ap (λ l. g (a + b) ∷ l) (row_shift g a (b + 1) m ∙ ap (λ k. map g (row k m)) (let z : a + (b + 1) ≡ a + b + 1 = omega arith in z))

value_drop : (a : ℕ) (v : List Bool) (k : ℕ) → value_at (drop a v) k ≡ value_at v (a + k)
value_drop zero v k = ap (value_at v) (let z : k ≡ 0 + k = omega arith in z)
value_drop (suc a) [] k = refl
value_drop (suc a) (b ∷ v) k = value_drop a v k ∙ ap (λ j. value_at (b ∷ v) j) (let z : suc (a + k) ≡ suc a + k = omega arith in z)

each_value_drop : (a : ℕ) (v : List Bool) (ks : List ℕ) → map (value_at (drop a v)) ks ≡ map (λ k. value_at v (a + k)) ks
each_value_drop a v [] = refl
each_value_drop a v (k ∷ ks) = ap (λ b. b ∷ map (value_at (drop a v)) ks) (value_drop a v k) ∙ ap (λ l. value_at v (a + k) ∷ l) (each_value_drop a v ks)

window : (a m : ℕ) (v : List Bool) → a + m ≤ length v → take m (drop a v) ≡ map (value_at v) (row a m)
window a m v l = take_by_row false (drop a v) m (omega (arith, length-drop a v, l)) ∙ each_value_drop a v (row 0 m) ∙ row_shift (value_at v) a 0 m
    ∙ ap (λ k. map (value_at v) (row k m)) (let z : a + 0 ≡ a = omega arith in z)

pub keep_all : {X : Type 0} (xs : List X) → filter (λ x. not false) xs ≡ xs
keep_all [] = refl
keep_all (x ∷ xs) = ap (λ l. x ∷ l) (keep_all xs)

module _ (n m : NetworkData) (is : IsNetwork n) (of : IsNetworkOf (file_of n) m) where
  abbrev f : BlifFileData
  f = file_of n

  abbrev by : List PlacedTable
  by = by_level of.level f

  abbrev signals_m : List Signal
  signals_m = signals_by_number f by

  pub pins_are : pins f ≡ take n.inputs n.names
  pins_are = ap (λ (c : List End). filter (λ name. not (is_control_name (slice_get c 0) name)) (take n.inputs n.names)) (ap (filter_map (λ (c : Clocking). c.signal)) (no_clockings n is))
      ∙ keep_all (take n.inputs n.names)

  here : AllByRecursion (IsTableHere n) by
  here = each_in_order (λ t. of.level (output_of t)) (IsTableHere n) (tables f) (subst (AllByRecursion (IsTableHere n)) (sym (tables_are n is)) (each_table_here n is (IsTableHere n) (λ k t e. (k, t, e, refl))))

  -- the numbers that the tables have in the other network
  abbrev numbers : (ts : List PlacedTable) → AllByRecursion (IsTableHere n) ts → List ℕ
  numbers [] h = []
  numbers (t ∷ ts) h = (first_table n + h.0.0) ∷ numbers ts h.1

  numbers_sig : (ts : List PlacedTable) (h : AllByRecursion (IsTableHere n) ts) → map output_of ts ≡ map (signal_at n) (numbers ts h)
  numbers_sig [] h = refl
  numbers_sig (t ∷ ts) h = ap (λ s. s ∷ map output_of ts) (ap output_of h.0.3) ∙ ap (λ l. signal_at n (first_table n + h.0.0) ∷ l) (numbers_sig ts h.1)

  numbers_at : (ts : List PlacedTable) (h : AllByRecursion (IsTableHere n) ts) (j : ℕ) (t : PlacedTable) → slice_get ts j ≡ Some t → (x : IsTableHere n t) × (slice_get (numbers ts h) j ≡ Some (first_table n + x.0))
  numbers_at [] h j t e = absurd cc
  numbers_at (u ∷ ts) h zero t e = let i : u ≡ t = cc in subst (λ w. (x : IsTableHere n w) × (Some (first_table n + h.0.0) ≡ Some (first_table n + x.0))) i (h.0, refl)
  numbers_at (u ∷ ts) h (suc j) t e = numbers_at ts h.1 j t e

  abbrev places : List ℕ
  places = row 0 n.inputs ++ row n.inputs (length n.latches) ++ numbers by here

  states_are : map state_of (latches f) ≡ map (signal_at n) (row n.inputs (length n.latches))
  states_are = ap (map state_of) (latches_are n is) ∙ map_map state_of (λ l. record { path = []; latch = l }) (latches_here n)
      ∙ map_map (λ l. state_of (record { path = []; latch = l })) (λ (p : ℕ × NetLatch). latch_at n p.0 p.1) (enumerate_from 0 n.latches)
      ∙ sym (map_map (signal_at n) (λ (p : ℕ × NetLatch). n.inputs + p.0) (enumerate_from 0 n.latches))
      ∙ ap (map (signal_at n)) (enumerated_row n.inputs 0 n.latches ∙ ap (λ k. row k (length n.latches)) (let z : n.inputs + 0 ≡ n.inputs = omega arith in z))

  inputs_sig : map (signal_of []) (pins f) ≡ map (signal_at n) (row 0 n.inputs)
  inputs_sig = ap (map (signal_of [])) (pins_are ∙ take_by_row [] n.names n.inputs (omega (arith, is.count))) ∙ map_map (signal_of []) (name_at n) (row 0 n.inputs)

  signals_are : signals_m ≡ map (signal_at n) places
  signals_are =
      ap (λ l. l ++ map state_of (latches f) ++ map output_of by) inputs_sig
      ∙ ap (λ l. map (signal_at n) (row 0 n.inputs) ++ l ++ map output_of by) states_are
      ∙ ap (λ l. map (signal_at n) (row 0 n.inputs) ++ map (signal_at n) (row n.inputs (length n.latches)) ++ l) (numbers_sig by here)
      ∙ ap (λ l. l ++ map (signal_at n) (numbers by here)) (sym (map-append (signal_at n) (row 0 n.inputs) (row n.inputs (length n.latches))))
      ∙ sym (map-append (signal_at n) (row 0 n.inputs ++ row n.inputs (length n.latches)) (numbers by here))

  -- a number of the one stands for a number of the other
  stands : (x k : ℕ) → k < length n.names → AllByRecursion (λ j. j < length n.names) places → slice_get signals_m x ≡ Some (signal_at n k) → slice_get places x ≡ Some k
  stands x k l small e =
      let p = get_of_map (signal_at n) places x (signal_at n k) (ap (λ s. slice_get s x) (sym signals_are) ∙ e) in
      p.1 ∙ ap Some (sig_once n is p.0 k (AllByRecursion-contains (λ j. j < length n.names) places p.0 small (Contains-slice_get places x p.0 p.1)) l p.2)

  numbers_small : (ts : List PlacedTable) (h : AllByRecursion (IsTableHere n) ts) → AllByRecursion (λ j. j < length n.names) (numbers ts h)
  numbers_small [] h = tt
  numbers_small (t ∷ ts) h = (table_number n is h.0.0 h.0.1 h.0.2, numbers_small ts h.1)

  places_small : AllByRecursion (λ j. j < length n.names) places
  places_small = AllByRecursion-append (λ j. j < length n.names) (row 0 n.inputs ++ row n.inputs (length n.latches)) (numbers by here)
      (AllByRecursion-append (λ j. j < length n.names) (row 0 n.inputs) (row n.inputs (length n.latches))
      (AllByRecursion-weaker (λ k. (0 ≤ k) × (k < 0 + n.inputs)) (λ k. k < length n.names) (λ k h. omega (arith, h.1, is.count)) (row 0 n.inputs) (row_bounds 0 n.inputs))
      (AllByRecursion-weaker (λ k. (n.inputs ≤ k) × (k < n.inputs + length n.latches)) (λ k. k < length n.names) (λ k h. omega (arith, h.1, is.count)) (row n.inputs (length n.latches)) (row_bounds n.inputs (length n.latches))))
      (numbers_small by here)

  count_inputs : m.inputs ≡ n.inputs
  count_inputs = of.network.inputs_are ∙ ap length pins_are ∙ length-take-le n.inputs n.names (omega (arith, is.count))

  count_latches : length m.latches ≡ length n.latches
  count_latches = same_length (numbered_latch signals_m) placed_latch m.latches (latches f) of.network.latches_are
      ∙ sym (length-map (latches f) state_of) ∙ ap length states_are ∙ length-map (row n.inputs (length n.latches)) (signal_at n) ∙ length_row n.inputs (length n.latches)

  module _ (v : List Bool) where
    abbrev image : List Bool
    image = map (value_at v) places

    same_value : (x k : ℕ) → k < length n.names → slice_get signals_m x ≡ Some (signal_at n k) → value_at image x ≡ value_at v k
    same_value x k l e = value_map (value_at v) places x k (stands x k l places_small e)

    same_values : (xs ks : List ℕ) → map (slice_get signals_m) xs ≡ map (λ k. Some (signal_at n k)) ks → AllByRecursion (λ k. k < length n.names) ks → map (value_at image) xs ≡ map (value_at v) ks
    same_values xs ks e small = same_map (slice_get signals_m) (λ k. Some (signal_at n k)) (value_at image) (value_at v) (λ k. k < length n.names) (λ x k at l. same_value x k l at) xs ks e small

    module _ (u s : List Bool) (is_v : IsValuation n u s v) where
      whole : n.inputs + length n.latches ≤ length v
      whole = omega (arith, is_v.count, is.count)

      front_length : length (row 0 n.inputs ++ row n.inputs (length n.latches)) ≡ first_table m
      front_length = omega (arith, length-append (row 0 n.inputs) (row n.inputs (length n.latches)), length_row 0 n.inputs, length_row n.inputs (length n.latches), count_inputs, count_latches)

      image_is : image ≡ map (value_at v) (row 0 n.inputs) ++ (map (value_at v) (row n.inputs (length n.latches)) ++ map (value_at v) (numbers by here))
      image_is = map-append (value_at v) (row 0 n.inputs ++ row n.inputs (length n.latches)) (numbers by here)
          ∙ ap (λ l. l ++ map (value_at v) (numbers by here)) (map-append (value_at v) (row 0 n.inputs) (row n.inputs (length n.latches)))
          ∙ append_assoc (map (value_at v) (row 0 n.inputs)) (map (value_at v) (row n.inputs (length n.latches))) (map (value_at v) (numbers by here))

      first_values : map (value_at v) (row 0 n.inputs) ≡ u
      first_values = sym (take_by_row false v n.inputs (omega (arith, whole))) ∙ is_v.inputs

      next_values : map (value_at v) (row n.inputs (length n.latches)) ≡ s
      next_values = sym (window n.inputs (length n.latches) v whole) ∙ is_v.latches

      image_begins : image ≡ u ++ (s ++ map (value_at v) (numbers by here))
      image_begins = image_is ∙ ap (λ l. l ++ (map (value_at v) (row n.inputs (length n.latches)) ++ map (value_at v) (numbers by here))) first_values
          ∙ ap (λ l. u ++ (l ++ map (value_at v) (numbers by here))) next_values

      length_u : length u ≡ m.inputs
      length_u = ap length (sym first_values) ∙ length-map (row 0 n.inputs) (value_at v) ∙ length_row 0 n.inputs ∙ sym count_inputs

      length_s : length s ≡ length m.latches
      length_s = ap length (sym next_values) ∙ length-map (row n.inputs (length n.latches)) (value_at v) ∙ length_row n.inputs (length n.latches) ∙ sym count_latches

      table_of_m : (j : ℕ) (q : NetTableData) → slice_get m.tables j ≡ Some q
          → (value_at image (first_table m + j) ≡ true) ↔ IsOneAt q.on q.rows (map (value_at image) q.inputs)
      table_of_m j q e = from (same_place (numbered_table signals_m) placed_table m.tables by of.network.tables_are j q e)
        where
          from : (p : PlacedTable) × (slice_get by j ≡ Some p) × (numbered_table signals_m q ≡ placed_table p)
              → (value_at image (first_table m + j) ≡ true) ↔ IsOneAt q.on q.rows (map (value_at image) q.inputs)
          from (p, there, alike) =
              let at = numbers_at by here j p there in
              let k = at.0.0 in
              let t = at.0.1 in
              let place : slice_get places (first_table m + j) ≡ Some (first_table n + k) =
              subst (λ x. slice_get places (x + j) ≡ Some (first_table n + k)) front_length
              (get_behind (row 0 n.inputs ++ row n.inputs (length n.latches)) (numbers by here) j (first_table n + k) at.1) in
              let value : value_at image (first_table m + j) ≡ value_at v (first_table n + k) = value_map (value_at v) places (first_table m + j) (first_table n + k) place in
              let small = AllByRecursion-weaker (λ x. x < first_table n + k) (λ x. x < length n.names) (λ x l. omega (arith, l, table_number n is k t at.0.2)) t.inputs (table_small n is k t at.0.2) in
              let reads : map (slice_get signals_m) q.inputs ≡ map (λ x. Some (signal_at n x)) t.inputs =
              ap (λ (b : TableBySignals). b.inputs) alike ∙ ap (λ w. map Some (inputs_of w)) at.0.3
              ∙ ap (map Some) (map_map (signal_of []) (name_at n) t.inputs) ∙ map_map Some (signal_at n) t.inputs in
              let ins : map (value_at image) q.inputs ≡ map (value_at v) t.inputs = same_values q.inputs t.inputs reads small in
              let on : q.on ≡ t.on = ap (λ (b : TableBySignals). b.on) alike ∙ ap (λ (w : PlacedTable). w.table.on) at.0.3 in
              let rows : q.rows ≡ t.rows = ap (λ (b : TableBySignals). b.rows) alike ∙ ap (λ (w : PlacedTable). w.table.rows) at.0.3 in
              let holds = is_v.tables k t at.0.2 in
              let there_one : IsOneAt t.on t.rows (map (value_at v) t.inputs) ≡ IsOneAt q.on q.rows (map (value_at image) q.inputs) =
              ap (λ b. IsOneAt b t.rows (map (value_at v) t.inputs)) (sym on) ∙ ap (λ r. IsOneAt q.on r (map (value_at v) t.inputs)) (sym rows) ∙ ap (IsOneAt q.on q.rows) (sym ins) in (
                λ one. subst (λ T. T) there_one (holds.0 (sym value ∙ one)),
                λ one. value ∙ holds.1 (subst (λ T. T) (sym there_one) one),
              )

      image_valuation : IsValuation m u s image
      image_valuation = record {
        count = length-map places (value_at v) ∙ sym (ap length of.network.names_are
            ∙ length-map (enumerate_from 0 signals_m) (λ (p : ℕ × Signal). name_by_number (letters_w of.width) p.0 p.1) ∙ length-enumerate_from 0 signals_m ∙ ap length signals_are ∙ length-map places (signal_at n));
        inputs = ap (take m.inputs) image_begins ∙ ap (λ k. take k (u ++ (s ++ map (value_at v) (numbers by here)))) (sym length_u) ∙ take-append_seam u (s ++ map (value_at v) (numbers by here));
        latches = ap (λ w. take (length m.latches) (drop m.inputs w)) image_begins
            ∙ ap (λ k. take (length m.latches) (drop k (u ++ (s ++ map (value_at v) (numbers by here))))) (sym length_u)
            ∙ ap (take (length m.latches)) (drop-append_seam u (s ++ map (value_at v) (numbers by here)))
            ∙ ap (λ k. take k (s ++ map (value_at v) (numbers by here))) (sym length_s) ∙ take-append_seam s (map (value_at v) (numbers by here));
        tables = table_of_m;
      }

    same_outputs : map (value_at image) m.outputs ≡ map (value_at v) n.outputs
    same_outputs = same_values m.outputs n.outputs (of.network.outputs_are ∙ map_map (λ name. Some (signal_of [] name)) (name_at n) n.outputs) (recursion_from_All (λ k. k < length n.names) n.outputs is.outputs)

  -- latches of the file by those of the network
  abbrev net_latch : NetLatch → LatchBySignals
  net_latch l = record { input = Some (signal_at n l.input); init = (if l.init then 1 else 0) == 1 }

  placed_are : map (numbered_latch signals_m) m.latches ≡ map net_latch n.latches
  placed_are = of.network.latches_are ∙ ap (map placed_latch) (latches_are n is)
      ∙ map_map placed_latch (λ l. record { path = []; latch = l }) (latches_here n)
      ∙ map_map (λ l. placed_latch (record { path = []; latch = l })) (λ (p : ℕ × NetLatch). latch_at n p.0 p.1) (enumerate_from 0 n.latches)
      ∙ map_enumerated net_latch 0 n.latches

  same_next : (v : List Bool) → map (λ (l : NetLatch). value_at (image v) l.input) m.latches ≡ map (λ (l : NetLatch). value_at v l.input) n.latches
  same_next v = same_map (numbered_latch signals_m) net_latch (λ (l : NetLatch). value_at (image v) l.input) (λ (l : NetLatch). value_at v l.input) (λ (l : NetLatch). l.input < length n.names)
      (λ l k e small. same_value v l.input k.input small (ap (λ (b : LatchBySignals). b.input) e)) m.latches n.latches placed_are (recursion_from_All (λ (l : NetLatch). l.input < length n.names) n.latches is.latches)

  pub same_start : start m ≡ start n
  same_start = same_map (numbered_latch signals_m) net_latch (λ (l : NetLatch). l.init) (λ (l : NetLatch). l.init) (λ (l : NetLatch). l.input < length n.names)
      (λ l k e small. ap (λ (b : LatchBySignals). b.init) e ∙ bit k.init) m.latches n.latches placed_are (recursion_from_All (λ (l : NetLatch). l.input < length n.names) n.latches is.latches)
    where
      bit : (b : Bool) → ((if b then 1 else 0) == 1) ≡ b
      bit true = refl
      bit false = refl

  -- cycles

  cycle_there : (u s : List Bool) (c : Cycle) → IsNetworkCycle n u s c → IsNetworkCycle m u s c
  cycle_there u s c h = record {
    values = image h.values;
    valuation = image_valuation h.values u s h.valuation;
    outputs_are = h.outputs_are ∙ sym (same_outputs h.values);
    next_is = h.next_is ∙ sym (same_next h.values);
  }

  m_is : IsNetwork m
  m_is = network_kept f m (good_one_model n is) of

  cycle_back : (u s : List Bool) (c : Cycle) → IsNetworkCycle m u s c → IsNetworkCycle n u s c
  cycle_back u s c h =
      let lu : length u ≡ n.inputs = ap length (sym h.valuation.inputs) ∙ length-take-le m.inputs h.values (omega (arith, h.valuation.count, m_is.count)) ∙ count_inputs in
      let ls : length s ≡ length n.latches = ap length (sym h.valuation.latches)
      ∙ length-take-le (length m.latches) (drop m.inputs h.values) (omega (arith, length-drop m.inputs h.values, h.valuation.count, m_is.count)) ∙ count_latches in
      let one = one_valuation n u s is lu ls in
      let other = one_valuation m u s m_is (lu ∙ sym count_inputs) (ls ∙ sym count_latches) in
      let same : h.values ≡ image one.0 = other.1.only h.values h.valuation ∙ sym (other.1.only (image one.0) (image_valuation one.0 u s one.1.is_valuation)) in
      record {
        values = one.0;
        valuation = one.1.is_valuation;
        outputs_are = h.outputs_are ∙ ap (λ w. map (value_at w) m.outputs) same ∙ same_outputs one.0;
        next_is = h.next_is ∙ ap (λ w. map (λ (l : NetLatch). value_at w l.input) m.latches) same ∙ same_next one.0;
      }

  runs_there : (s : List Bool) (stream : List (List Bool)) (cycles : List Cycle) → IsNetworkRunFrom n s stream cycles → IsNetworkRunFrom m s stream cycles
  runs_there s [] [] h = tt
  runs_there s [] (c ∷ cycles) h = h
  runs_there s (u ∷ stream) [] h = h
  runs_there s (u ∷ stream) (c ∷ cycles) h = (cycle_there u s c h.0, runs_there c.next stream cycles h.1)

  runs_back : (s : List Bool) (stream : List (List Bool)) (cycles : List Cycle) → IsNetworkRunFrom m s stream cycles → IsNetworkRunFrom n s stream cycles
  runs_back s [] [] h = tt
  runs_back s [] (c ∷ cycles) h = h
  runs_back s (u ∷ stream) [] h = h
  runs_back s (u ∷ stream) (c ∷ cycles) h = (cycle_back u s c h.0, runs_back c.next stream cycles h.1)

  pub runs_alike : (stream : List (List Bool)) (cycles : List Cycle) → IsNetworkRun n stream cycles ↔ IsNetworkRun m stream cycles
  runs_alike stream cycles = (
    λ h. subst (λ s. IsNetworkRunFrom m s stream cycles) (sym same_start) (runs_there (start n) stream cycles h),
    λ h. runs_back (start n) stream cycles (subst (λ s. IsNetworkRunFrom m s stream cycles) same_start h),
  )
