-- The file of one model of a network, with its cards on any lines, is refused for nothing.
use Rattle.std.proofs.Common.{◌≡◌, ℕ, zero, suc, ◌+◌, List, [], ◌∷◌, ◌++◌, map, length, take, Some, None, slice_get, refl, ap, sym, ◌∙◌, subst, arith, append-nil}
use Rattle.std.specs.Prelude.{Contains}
use Rattle.std.specs.List.{AllByRecursion, enumerate_from, filter_map, flat_map, sum_by}
use Rattle.std.specs.Set.{distinct_count}
use Rattle.std.proofs.lemmas.Grind.{flat_map-append}
use Rattle.std.proofs.lemmas.List.{length-map, map-append}
use Rattle.dom_base.proofs.Lists.{AllByRecursion-append, AllByRecursion-contains, AllByRecursion-every, AllByRecursion-left, AllByRecursion-map, AllByRecursion-right, AllByRecursion-unmap, AllByRecursion-weaker, Contains-slice_get, filter_map-none, head_same, tail_same}
use Rattle.blif_ast.specs.Cards.{same}
use Rattle.blif_ast.specs.BlifFileData.{BlifFileData}
use Rattle.blif_ast.specs.BlifModelData.{BlifModelData}
use Rattle.blif_ast.specs.InstanceData.{InstanceData}
use Rattle.blif_ast.specs.TableData.{TableData}
use Rattle.blif_ast.specs.declared.latch.Latch.{Latch}
use Rattle.blif_read.specs.ReadsBack.{instance_unlined, latch_unlined, model_unlined, table_unlined}
use Rattle.model_calls.specs.declared.fault.FlatKind.TheVariants.{DuplicateModel, DuplicatePort, UnknownModel, BadFormal, Recursion, DrivenTwice, Undriven, Cycle, TwoControls, ControlUsed}
use Rattle.model_calls.specs.declared.fault.Limit.TheVariants.{Signals, Instances, Letters, Sinks}
use Rattle.network.specs.declared.network.NetLatch.{NetLatch}
use Rattle.model_calls.specs.Counts.{IsTooMany, counts, signal_count}
use Rattle.model_calls.specs.Ends.{Clocking, End, clocking_of, clockings, controls, driven_end, drivers, end_at, inputs_of, main_inputs, main_outputs, output_of, read_ends, readers}
use Rattle.model_calls.specs.Expanded.{BodyCard, LatchCard, LatchPart, PlacedLatch, PlacedPart, PlacedTable, TableCard, TablePart, card_line, expanded, expanded_from, latches, part_latch, part_table, parts_of_card, tables}
use Rattle.model_calls.specs.First.{IsFirst}
use Rattle.network.specs.Limits.{letters, most_instances, most_letters, most_signals, most_sinks}
use Rattle.model_calls.specs.ModelFaults.{IsDuplicatePort, Port, ports, ports_in}
use Rattle.network.specs.NetworkData.{NetworkData}
use Rattle.network.specs.Networks.{IsNetwork}
use Rattle.model_calls.specs.Occurrences.{main_model, models_called, names_of, names_of_latch, names_of_table}
use Rattle.net_flatten.specs.OneModel.{file_of, latch_at}
use Rattle.net_flatten.specs.OneModelParts.{latches_here, tables_here}
use Rattle.model_calls.specs.Reaches.{Reaches}
use Rattle.model_calls.specs.Refusal.{Refusal, At, TooMany}
use Rattle.model_calls.specs.Refusals.{HasRefusal}
use Rattle.model_calls.specs.SignalFaults.{IsFedBy, signals}
use Rattle.model_calls.specs.Signals.{Signal, signal_of}
use Rattle.model_calls.proofs.Apart.{Apart}
use Rattle.model_calls.proofs.Drivers.{driven}
use Rattle.model_calls.proofs.EachPart.{each_flat, each_itself}
use Rattle.model_calls.proofs.Firsts.{none_holds}
use Rattle.network.proofs.Lists.{contains_map, each_of_flat, get_map}
use Rattle.net_flatten.proofs.OneAccepted.{SignalOf, all_read, drivers_apart, expanded_is, no_cycle, tables_are}
use Rattle.net_flatten.proofs.OneUnrefused.{unrefused, no_earlier_behind}
use Rattle.model_calls.proofs.Pairs.{contains_to}
use Rattle.part_numbers.proofs.Permuted.{Permuted, permuted_append, permuted_apart, permuted_contains, permuted_flat, permuted_order, permuted_same}
use Rattle.part_numbers.proofs.Ranges.{map_map}
use Rattle.model_calls.proofs.Reaching.{reaches_by}
use Rattle.net_gen.proofs.OtherOrders.{by_itself, each_same, from_itself, kept_by, permuted_map, same_flat, same_map, same_sum}

-- the parts of tables and latches of the main model

abbrev placed_table : TableData → PlacedTable
placed_table t = record { path = []; table = t }

abbrev placed_latch : Latch → PlacedLatch
placed_latch l = record { path = []; latch = l }

abbrev parts_of : List TableData → List Latch → List PlacedPart
parts_of ts ls = map TablePart (map placed_table ts) ++ map LatchPart (map placed_latch ls)

-- the signals that they drive
abbrev driven_row : List TableData → List Latch → List Signal
driven_row ts ls = map (λ (t : TableData). signal_of [] t.output) ts ++ map (λ (l : Latch). signal_of [] l.output) ls

driven_parts : (ts : List TableData) (ls : List Latch) → map driven (parts_of ts ls) ≡ driven_row ts ls
driven_parts ts ls =
    map-append driven (map TablePart (map placed_table ts)) (map LatchPart (map placed_latch ls))
    ∙ ap (λ l. l ++ map driven (map LatchPart (map placed_latch ls)))
    (map_map driven TablePart (map placed_table ts) ∙ map_map (λ t. driven (TablePart t)) placed_table ts)
    ∙ ap (λ l. map (λ (t : TableData). signal_of [] t.output) ts ++ l)
    (map_map driven LatchPart (map placed_latch ls) ∙ map_map (λ l. driven (LatchPart l)) placed_latch ls)

signals_are : (h : BlifFileData) → signals (drivers h) ≡ map SignalOf (main_inputs h) ++ map driven (expanded h)
signals_are h = map-append SignalOf (main_inputs h) (map driven_end (expanded h)) ∙ ap (λ s. map SignalOf (main_inputs h) ++ s) (map_map SignalOf driven_end (expanded h))

-- what holds of tables, and of latches, among parts

abbrev OfTable : (PlacedTable → Type 0) → PlacedPart → Type 0
OfTable P (TablePart t) = P t
OfTable P (LatchPart l) = Unit {0}

abbrev OfLatch : (PlacedLatch → Type 0) → PlacedPart → Type 0
OfLatch P (TablePart t) = Unit {0}
OfLatch P (LatchPart l) = P l

each_table_of : (P : PlacedTable → Type 0) (xs : List PlacedPart) → AllByRecursion (OfTable P) xs → AllByRecursion P (filter_map part_table xs)
each_table_of P [] h = tt
each_table_of P (TablePart t ∷ xs) h = (h.0, each_table_of P xs h.1)
each_table_of P (LatchPart l ∷ xs) h = each_table_of P xs h.1

each_latch_of : (P : PlacedLatch → Type 0) (xs : List PlacedPart) → AllByRecursion (OfLatch P) xs → AllByRecursion P (filter_map part_latch xs)
each_latch_of P [] h = tt
each_latch_of P (TablePart t ∷ xs) h = each_latch_of P xs h.1
each_latch_of P (LatchPart l ∷ xs) h = (h.0, each_latch_of P xs h.1)

module _ (n : NetworkData) (is : IsNetwork n) (ts : List TableData) (ls : List Latch) (line : ℕ)
    (ts_same : map table_unlined ts ≡ map table_unlined (tables_here n)) (ls_same : map latch_unlined ls ≡ map latch_unlined (latches_here n)) where
  abbrev f : BlifFileData
  f = file_of n

  abbrev m : BlifModelData
  m = main_model (file_of n)

  abbrev y : BlifModelData
  y = record { name = n.name; inputs = m.inputs; outputs = m.outputs; tables = ts; latches = ls; instances = []; line = line }

  abbrev g : BlifFileData
  g = record { models = y ∷ [] }

  abbrev below : List InstanceData → List ℕ → List PlacedPart
  below p unit = flat_map (expanded_from g.models 0 p) (models_called g.models unit)

  abbrev own_cards : List BodyCard
  own_cards = map TableCard ts ++ map LatchCard ls

  table_parts : (us : List TableData) → flat_map (parts_of_card below []) (map TableCard us) ≡ map TablePart (map placed_table us)
  table_parts [] = refl
  table_parts (t ∷ us) = ap (λ l. TablePart (placed_table t) ∷ l) (table_parts us)

  latch_parts : (us : List Latch) → flat_map (parts_of_card below []) (map LatchCard us) ≡ map LatchPart (map placed_latch us)
  latch_parts [] = refl
  latch_parts (l ∷ us) = ap (λ k. LatchPart (placed_latch l) ∷ k) (latch_parts us)

  cards_parts : flat_map (parts_of_card below []) (own_cards ++ []) ≡ parts_of ts ls
  cards_parts =
      ap (flat_map (parts_of_card below [])) (append-nil own_cards)
      ∙ flat_map-append (parts_of_card below []) (map TableCard ts) (map LatchCard ls)
      ∙ ap (λ l. l ++ flat_map (parts_of_card below []) (map LatchCard ls)) (table_parts ts)
      ∙ ap (λ l. map TablePart (map placed_table ts) ++ l) (latch_parts ls)

  -- the expanded list has these parts in some order
  order : Permuted (expanded g) (parts_of ts ls)
  order = subst (Permuted (expanded g)) cards_parts (permuted_flat (parts_of_card below []) (permuted_order card_line (own_cards ++ [])))

  -- drivers

  abbrev inputs_row : List Signal
  inputs_row = map SignalOf (main_inputs f)

  inputs_same : map SignalOf (main_inputs g) ≡ inputs_row
  inputs_same = map_map SignalOf (end_at [] line) m.inputs ∙ sym (map_map SignalOf (end_at [] 1) m.inputs)

  row_same : driven_row ts ls ≡ driven_row (tables_here n) (latches_here n)
  row_same =
      let tables = same_map table_unlined ts (tables_here n) ts_same (λ (t : TableData). signal_of [] t.output) in
      let latches = same_map latch_unlined ls (latches_here n) ls_same (λ (l : Latch). signal_of [] l.output) in
      λ i. tables i ++ latches i

  driven_same : map driven (parts_of ts ls) ≡ map driven (expanded f)
  driven_same = driven_parts ts ls ∙ row_same ∙ sym (driven_parts (tables_here n) (latches_here n)) ∙ ap (map driven) (sym (expanded_is n is))

  drivers_order : Permuted (inputs_row ++ map driven (expanded g)) (inputs_row ++ map driven (expanded f))
  drivers_order = permuted_append (map driven (expanded g)) (map driven (expanded f)) (permuted_same inputs_row) (subst (Permuted (map driven (expanded g))) driven_same (permuted_map driven order))

  apart_here : Apart (map SignalOf (main_inputs g) ++ map driven (expanded g))
  apart_here = subst (λ s. Apart (s ++ map driven (expanded g))) (sym inputs_same)
      (from_itself (inputs_row ++ map driven (expanded g)) (permuted_apart (λ (s : Signal). s) drivers_order (by_itself (inputs_row ++ map driven (expanded f)) (drivers_apart n is))))

  carried : (s : Signal) → Contains (signals (drivers f)) s → Contains (signals (drivers g)) s
  carried s c =
      subst (λ l. Contains l s) (sym (signals_are g ∙ ap (λ l. l ++ map driven (expanded g)) inputs_same))
      (permuted_contains s drivers_order (subst (λ l. Contains l s) (signals_are f) c))

  -- readers

  abbrev IsRead : End → Type 0
  IsRead e = Contains (signals (drivers g)) e.signal

  abbrev IsReadThere : End → Type 0
  IsReadThere e = Contains (signals (drivers f)) e.signal

  parts_there : AllByRecursion (λ p. AllByRecursion IsReadThere (read_ends p)) (parts_of (tables_here n) (latches_here n))
  parts_there = subst (AllByRecursion (λ p. AllByRecursion IsReadThere (read_ends p))) (expanded_is n is)
      (each_of_flat IsReadThere read_ends (expanded f) (AllByRecursion-left IsReadThere (flat_map read_ends (expanded f)) (main_outputs f) (all_read n is)))

  tables_there : AllByRecursion (λ (t : TableData). AllByRecursion (λ name. Contains (signals (drivers f)) (signal_of [] name)) t.inputs) (tables_here n)
  tables_there =
      AllByRecursion-weaker (λ t. AllByRecursion IsReadThere (read_ends (TablePart (placed_table t)))) (λ t. AllByRecursion (λ name. Contains (signals (drivers f)) (signal_of [] name)) t.inputs)
      (λ t h. AllByRecursion-unmap IsReadThere (end_at [] t.line) t.inputs h) (tables_here n)
      (AllByRecursion-unmap (λ t. AllByRecursion IsReadThere (read_ends (TablePart t))) placed_table (tables_here n)
      (AllByRecursion-unmap (λ p. AllByRecursion IsReadThere (read_ends p)) TablePart (map placed_table (tables_here n))
      (AllByRecursion-left (λ p. AllByRecursion IsReadThere (read_ends p)) (map TablePart (map placed_table (tables_here n))) (map LatchPart (map placed_latch (latches_here n))) parts_there)))

  latches_there : AllByRecursion (λ (l : Latch). Contains (signals (drivers f)) (signal_of [] l.input)) (latches_here n)
  latches_there =
      AllByRecursion-weaker (λ l. AllByRecursion IsReadThere (read_ends (LatchPart (placed_latch l)))) (λ l. Contains (signals (drivers f)) (signal_of [] l.input))
      (λ l h. h.0) (latches_here n)
      (AllByRecursion-unmap (λ l. AllByRecursion IsReadThere (read_ends (LatchPart l))) placed_latch (latches_here n)
      (AllByRecursion-unmap (λ p. AllByRecursion IsReadThere (read_ends p)) LatchPart (map placed_latch (latches_here n))
      (AllByRecursion-right (λ p. AllByRecursion IsReadThere (read_ends p)) (map TablePart (map placed_table (tables_here n))) (map LatchPart (map placed_latch (latches_here n))) parts_there)))

  tables_read : AllByRecursion (λ t. AllByRecursion IsRead (read_ends (TablePart (placed_table t)))) ts
  tables_read =
      AllByRecursion-weaker (λ (t : TableData). AllByRecursion (λ name. Contains (signals (drivers f)) (signal_of [] name)) t.inputs) (λ t. AllByRecursion IsRead (read_ends (TablePart (placed_table t))))
      (λ t h. AllByRecursion-map IsRead (end_at [] t.line) t.inputs
      (AllByRecursion-weaker (λ name. Contains (signals (drivers f)) (signal_of [] name)) (λ name. IsRead (end_at [] t.line name)) (λ name c. carried (signal_of [] name) c) t.inputs h))
      ts
      (each_same table_unlined ts (tables_here n) ts_same (λ (t : TableData). AllByRecursion (λ name. Contains (signals (drivers f)) (signal_of [] name)) t.inputs) tables_there)

  latches_read : AllByRecursion (λ l. AllByRecursion IsRead (read_ends (LatchPart (placed_latch l)))) ls
  latches_read =
      AllByRecursion-weaker (λ (l : Latch). Contains (signals (drivers f)) (signal_of [] l.input)) (λ l. AllByRecursion IsRead (read_ends (LatchPart (placed_latch l))))
      (λ l h. (carried (signal_of [] l.input) h, tt)) ls
      (each_same latch_unlined ls (latches_here n) ls_same (λ (l : Latch). Contains (signals (drivers f)) (signal_of [] l.input)) latches_there)

  outputs_read : AllByRecursion IsRead (main_outputs g)
  outputs_read = AllByRecursion-map IsRead (end_at [] line) m.outputs
      (AllByRecursion-weaker (λ name. IsReadThere (end_at [] 1 name)) (λ name. IsRead (end_at [] line name)) (λ name c. carried (signal_of [] name) c) m.outputs
      (AllByRecursion-unmap IsReadThere (end_at [] 1) m.outputs (AllByRecursion-right IsReadThere (flat_map read_ends (expanded f)) (main_outputs f) (all_read n is))))

  all_read_here : AllByRecursion IsRead (readers g)
  all_read_here = AllByRecursion-append IsRead (flat_map read_ends (expanded g)) (main_outputs g)
      (each_flat IsRead read_ends (expanded g) (kept_by (λ p. AllByRecursion IsRead (read_ends p)) order
      (AllByRecursion-append (λ p. AllByRecursion IsRead (read_ends p)) (map TablePart (map placed_table ts)) (map LatchPart (map placed_latch ls))
      (AllByRecursion-map (λ p. AllByRecursion IsRead (read_ends p)) TablePart (map placed_table ts) (AllByRecursion-map (λ t. AllByRecursion IsRead (read_ends (TablePart t))) placed_table ts tables_read))
      (AllByRecursion-map (λ p. AllByRecursion IsRead (read_ends p)) LatchPart (map placed_latch ls) (AllByRecursion-map (λ l. AllByRecursion IsRead (read_ends (LatchPart l))) placed_latch ls latches_read)))))
      outputs_read

  -- loops

  -- a table with the same signals is in the file of the network
  abbrev IsLike : PlacedTable → Type 0
  IsLike t = (u : PlacedTable) × Contains (tables f) u × (output_of u ≡ output_of t) × (inputs_of u ≡ inputs_of t)

  like_table : (t : TableData) → Contains ts t → IsLike (placed_table t)
  like_table t c =
      let image = contains_map table_unlined (tables_here n) (table_unlined t) (subst (λ l. Contains l (table_unlined t)) ts_same (contains_to table_unlined ts t c)) in
      let same_one : table_unlined t ≡ table_unlined image.0 = image.2 in (
        placed_table image.0,
        subst (λ l. Contains l (placed_table image.0)) (sym (tables_are n is)) (contains_to placed_table (tables_here n) image.0 image.1),
        ap (λ (v : TableData). signal_of [] v.output) (sym same_one),
        ap (λ (v : TableData). map (signal_of []) v.inputs) (sym same_one),
      )

  all_like : AllByRecursion IsLike (tables g)
  all_like = each_table_of IsLike (expanded g) (kept_by (OfTable IsLike) order
      (AllByRecursion-append (OfTable IsLike) (map TablePart (map placed_table ts)) (map LatchPart (map placed_latch ls))
      (AllByRecursion-map (OfTable IsLike) TablePart (map placed_table ts) (AllByRecursion-map IsLike placed_table ts
      (AllByRecursion-weaker (Contains ts) (λ t. IsLike (placed_table t)) like_table ts (each_itself ts))))
      (AllByRecursion-map (OfTable IsLike) LatchPart (map placed_latch ls) (AllByRecursion-every (λ l. Unit {0}) (λ l. tt) (map placed_latch ls)))))

  like : (t : PlacedTable) → Contains (tables g) t → IsLike t
  like t c = AllByRecursion-contains IsLike (tables g) t all_like c

  fed_there : (a b : Signal) → IsFedBy g a b → IsFedBy f a b
  fed_there a b (t, c, out, input) =
      let u = like t c in
      (u.0, u.1, u.2 ∙ out, subst (λ l. Contains l b) (sym u.3) input)

  no_cycle_here : (t : PlacedTable) → Contains (tables g) t → Reaches (IsFedBy g) (output_of t) (output_of t) → ⊥
  no_cycle_here t c steps =
      let u = like t c in
      no_cycle n is u.0 u.1 (subst (λ s. Reaches (IsFedBy f) s s) (sym u.2) (reaches_by fed_there steps))

  -- no latch has a control

  no_controls : AllByRecursion (λ (l : Latch). l.control ≡ None) ls
  no_controls = each_same latch_unlined ls (latches_here n) ls_same (λ (l : Latch). l.control ≡ None)
      (AllByRecursion-map (λ (l : Latch). l.control ≡ None) (λ (p : ℕ × NetLatch). latch_at n p.0 p.1) (enumerate_from 0 n.latches)
      (AllByRecursion-every (λ (p : ℕ × NetLatch). (latch_at n p.0 p.1).control ≡ None) (λ p. refl) (enumerate_from 0 n.latches)))

  no_clockings : clockings g ≡ []
  no_clockings = filter_map-none clocking_of (latches g)
      (AllByRecursion-weaker (λ (l : PlacedLatch). l.latch.control ≡ None) (λ l. clocking_of l ≡ None) (λ l e. rw e refl) (latches g)
      (each_latch_of (λ l. l.latch.control ≡ None) (expanded g) (kept_by (OfLatch (λ l. l.latch.control ≡ None)) order
      (AllByRecursion-append (OfLatch (λ l. l.latch.control ≡ None)) (map TablePart (map placed_table ts)) (map LatchPart (map placed_latch ls))
      (AllByRecursion-map (OfLatch (λ l. l.latch.control ≡ None)) TablePart (map placed_table ts) (AllByRecursion-every (λ t. Unit {0}) (λ t. tt) (map placed_table ts)))
      (AllByRecursion-map (OfLatch (λ l. l.latch.control ≡ None)) LatchPart (map placed_latch ls) (AllByRecursion-map (λ (l : PlacedLatch). l.latch.control ≡ None) placed_latch ls no_controls))))))

  -- sizes

  names_same : names_of y ≡ names_of m
  names_same =
      let of_tables = same_flat table_unlined ts (tables_here n) ts_same names_of_table in
      let of_latches = same_flat latch_unlined ls (latches_here n) ls_same names_of_latch in
      λ i. m.inputs ++ m.outputs ++ of_tables i ++ of_latches i ++ []

  letters_same : sum_by (λ (t : TableData). letters (length t.inputs) t.rows) ts ≡ sum_by (λ (t : TableData). letters (length t.inputs) t.rows) (tables_here n)
  letters_same = same_sum table_unlined ts (tables_here n) ts_same (λ (t : TableData). letters (length t.inputs) t.rows)

  latches_count : length ls ≡ length (latches_here n)
  latches_count = sym (length-map ls latch_unlined) ∙ ap length ls_same ∙ length-map (latches_here n) latch_unlined

  counts_same : counts g ≡ counts f
  counts_same =
      let of_signals : signal_count g ≡ signal_count f = ap (λ names. 0 + distinct_count same names) names_same in
      let of_letters : 0 + sum_by (λ (t : TableData). letters (length t.inputs) t.rows) ts ≡ 0 + sum_by (λ (t : TableData). letters (length t.inputs) t.rows) (tables_here n) = ap (λ k. 0 + k) letters_same in
      let of_sinks : length m.outputs + (0 + length ls) ≡ length m.outputs + (0 + length (latches_here n)) = ap (λ k. length m.outputs + (0 + k)) latches_count in
      λ i.
      record { limit = Signals; count = of_signals i; most = most_signals }
      ∷ record { limit = Instances; count = 1; most = most_instances }
      ∷ record { limit = Letters; count = of_letters i; most = most_letters }
      ∷ record { limit = Sinks; count = of_sinks i; most = most_sinks }
      ∷ []

  -- ports

  abbrev on_first : Port → Port
  on_first p = record { line = 1; list = p.list; name = p.name }

  ports_there : ports f ≡ map on_first (ports g)
  ports_there =
      append-nil (ports_in 1 m.inputs ++ ports_in 1 m.outputs)
      ∙ (λ i. row m.inputs i ++ row m.outputs i)
      ∙ sym (map-append on_first (ports_in line m.inputs) (ports_in line m.outputs))
      ∙ ap (map on_first) (sym (append-nil (ports_in line m.inputs ++ ports_in line m.outputs)))
    where
      row : (list : List (List ℕ)) → ports_in 1 list ≡ map on_first (ports_in line list)
      row list = sym (map_map on_first (λ name. record { line = line; list = list; name = name }) list)

  pub relined_unrefused : (r : Refusal) → HasRefusal g r → ⊥
  relined_unrefused (At DuplicateModel at name) h = by h.first.index h.first.there h.first.holds
    where
      by : (k : ℕ) → slice_get (y ∷ []) k ≡ Some h.element → Contains (map (λ (b : BlifModelData). b.name) (take k (y ∷ []))) h.element.name → ⊥
      by zero e c = omega (arith, c.1)
      by (suc k) e c = absurd cc
  relined_unrefused (At DuplicatePort at name) h =
      none_holds IsDuplicatePort (ports f) (λ p first. unrefused n is (At DuplicatePort p.line p.name) (record { element = p; first = first; line_is = refl; name_is = refl }))
      h.first.index (on_first h.element) (ap (λ l. slice_get l h.first.index) ports_there ∙ get_map on_first (ports g) h.first.index h.element h.first.there) h.first.holds
  relined_unrefused (At UnknownModel at name) h = let z = h.first.there in absurd cc
  relined_unrefused (At BadFormal at name) h = let z = h.first.there in absurd cc
  relined_unrefused (At Recursion at name) h = let z = h.first.there in absurd cc
  relined_unrefused (At DrivenTwice at name) h = no_earlier_behind driven (map SignalOf (main_inputs g)) (expanded g) h.first.index h.element apart_here h.first.there
      (subst (λ s. Contains s (driven h.element))
      (map-append SignalOf (main_inputs g) (map driven_end (take h.first.index (expanded g))) ∙ ap (λ s. map SignalOf (main_inputs g) ++ s) (map_map SignalOf driven_end (take h.first.index (expanded g)))) h.first.holds)
  relined_unrefused (At Undriven at name) h = h.first.holds (AllByRecursion-contains IsRead (readers g) h.element all_read_here (Contains-slice_get (readers g) h.first.index h.element h.first.there))
  relined_unrefused (At Cycle at name) h = no_cycle_here h.element (Contains-slice_get (tables g) h.first.index h.element h.first.there) h.first.holds
  relined_unrefused (At TwoControls at name) h = let z : slice_get {X = Clocking} [] h.first.index ≡ Some h.element = ap (λ l. slice_get l h.first.index) (sym no_clockings) ∙ h.first.there in absurd cc
  relined_unrefused (At ControlUsed at name) h =
      let none_left : controls g ≡ [] = ap (filter_map (λ (c : Clocking). c.signal)) no_clockings in
      let z : slice_get {X = End} [] 0 ≡ Some h.control = ap (λ l. slice_get l 0) (sym none_left) ∙ h.control_is in
      absurd cc
  relined_unrefused (TooMany limit count) h =
      unrefused n is (TooMany limit count)
      (record { counted = h.counted; first = subst (λ l. IsFirst IsTooMany l h.counted) counts_same h.first; limit_is = h.limit_is; count_is = h.count_is })

-- the same of a file that is the network's in all but lines
pub unlined_unrefused : (n : NetworkData) → IsNetwork n → (models : List BlifModelData) → map model_unlined models ≡ map model_unlined (file_of n).models
    → (r : Refusal) → HasRefusal (record { models = models }) r → ⊥
unlined_unrefused n is [] e = absurd cc
unlined_unrefused n is (x ∷ z ∷ models) e = let never = tail_same e in absurd cc
unlined_unrefused n is (x ∷ []) e = λ r h.
    relined_unrefused n is x.tables x.latches x.line (ap (λ (b : BlifModelData). b.tables) one) (ap (λ (b : BlifModelData). b.latches) one) r
    (subst (λ (b : BlifModelData). HasRefusal (record { models = b ∷ [] }) r) whole h)
  where
    one : model_unlined x ≡ model_unlined (main_model (file_of n))
    one = head_same e

    no_instances : (all : List InstanceData) → map instance_unlined all ≡ [] → all ≡ []
    no_instances [] d = refl
    no_instances (i ∷ rest) d = absurd cc

    whole : x ≡ record { name = n.name; inputs = (main_model (file_of n)).inputs; outputs = (main_model (file_of n)).outputs; tables = x.tables; latches = x.latches; instances = []; line = x.line }
    whole =
        let name = ap (λ (b : BlifModelData). b.name) one in
        let inputs = ap (λ (b : BlifModelData). b.inputs) one in
        let outputs = ap (λ (b : BlifModelData). b.outputs) one in
        let instances = no_instances x.instances (ap (λ (b : BlifModelData). b.instances) one) in
        λ i. record { name = name i; inputs = inputs i; outputs = outputs i; tables = x.tables; latches = x.latches; instances = instances i; line = x.line }
