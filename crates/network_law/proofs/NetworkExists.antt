-- A file that has nothing to be refused for has a network.
use Rattle.std.proofs.Common.{◌≡◌, ℕ, List, [], ◌∷◌, map, length, Some, refl, ap, ap₂, sym, ◌∙◌}
use Rattle.std.specs.Prelude.{◌==◌, Contains, slice_get}
use Rattle.std.specs.List.{flat_map}
use Rattle.std.proofs.lemmas.List.Elements.{Contains-append_left, Contains-append_right}
use Rattle.dom_base.proofs.Lists.{AllByRecursion-contains, Contains-first, Contains-later, slice_get-contained}
use Rattle.blif_ast.specs.BlifFileData.{BlifFileData}
use Rattle.network.specs.declared.network.NetLatch.{NetLatch}
use Rattle.model_calls.specs.Ends.{End, end_at, inputs_of, main_outputs, output_of, read_ends, readers}
use Rattle.model_calls.specs.Expanded.{LatchPart, PlacedLatch, PlacedPart, PlacedTable, TablePart, expanded, latches, tables}
use Rattle.net_flatten.specs.Flattening.{IsNetworkOf, numbered_latch, numbered_table, placed_latch, placed_table}
use Rattle.network.specs.NetworkData.{NetTableData, NetworkData}
use Rattle.model_calls.specs.Numbering.{by_level, letters_w, names_by_number, pins, signals_by_number}
use Rattle.model_calls.specs.Occurrences.{main_model}
use Rattle.model_calls.specs.Refusal.{Refusal}
use Rattle.model_calls.specs.Refusals.{HasRefusal}
use Rattle.model_calls.specs.Signals.{Signal, signal_of}
use Rattle.model_calls.proofs.Apart.{each_in_order}
use Rattle.model_calls.proofs.EachPart.{each_itself}
use Rattle.network.proofs.Lists.{contains_map}
use Rattle.model_calls.proofs.MainNames.{contains_flat}
use Rattle.model_calls.proofs.Pairs.{contains_to}
use Rattle.network_law.proofs.FreePrefixes.{least_prefix}
use Rattle.network_law.proofs.LevelsExist.{latch_placed, level, levels, table_placed}
use Rattle.network_law.proofs.ReadSignals.{read_there}

-- a list that stands for another, where there is something for each element
stand_for : {X Y Z : Type 0} (g : Y → Z) (h : X → Z) (xs : List X) → ((x : X) → Contains xs x → (y : Y) × (g y ≡ h x))
    → (ys : List Y) × (map g ys ≡ map h xs)
stand_for g h [] each = ([], refl)
stand_for g h (x ∷ xs) each =
    let first = each x (Contains-first x xs) in
    let rest = stand_for g h xs (λ z c. each z (Contains-later x xs z c)) in
    (first.0 ∷ rest.0, ap₂ ◌∷◌ first.1 rest.1)

module _ (f : BlifFileData) (accepted : (r : Refusal) → HasRefusal f r → ⊥) where
  abbrev ordered : List PlacedTable
  ordered = by_level (level f accepted) f

  abbrev all : List Signal
  all = signals_by_number f ordered

  read_at : (e : End) → Contains (readers f) e → (k : ℕ) × (slice_get all k ≡ Some e.signal)
  read_at e c = slice_get-contained all e.signal (read_there f accepted (λ t. level f accepted (output_of t)) e c)

  part_reads : (part : PlacedPart) (e : End) → Contains (expanded f) part → Contains (read_ends part) e → Contains (readers f) e
  part_reads part e c d =
      Contains-append_left (flat_map read_ends (expanded f)) (main_outputs f) e (contains_flat read_ends (expanded f) part e c d)

  abbrev output_at : List ℕ → End
  output_at name = end_at [] (main_model f).line name

  abbrev input_at : PlacedTable → List ℕ → End
  input_at t name = end_at t.path t.table.line name

  outputs : (numbers : List ℕ) × (map (slice_get all) numbers ≡ map (λ name. Some (signal_of [] name)) (main_model f).outputs)
  outputs = stand_for (slice_get all) (λ name. Some (signal_of [] name)) (main_model f).outputs
      (λ name c. read_at (output_at name)
      (Contains-append_right (flat_map read_ends (expanded f)) (main_outputs f) (output_at name)
      (contains_to output_at (main_model f).outputs name c)))

  latch_for : (l : PlacedLatch) → Contains (latches f) l → (net : NetLatch) × (numbered_latch all net ≡ placed_latch l)
  latch_for l c =
      let end = end_at l.path l.latch.line l.latch.input in
      let at = read_at end (part_reads (LatchPart l) end (latch_placed f l c) (Contains-first end [])) in
      let is = at.1 in
      (record { input = at.0; init = l.latch.init == 1 }, λ i. record { input = is i; init = l.latch.init == 1 })

  input_for : (t : PlacedTable) → Contains (tables f) t → (s : Signal) → Contains (inputs_of t) s
      → (k : ℕ) × (slice_get all k ≡ Some s)
  input_for t c s d =
      let named = contains_map (signal_of t.path) t.table.inputs s d in
      let at = read_at (input_at t named.0)
      (part_reads (TablePart t) (input_at t named.0) (table_placed f t c) (contains_to (input_at t) t.table.inputs named.0 named.1)) in
      (at.0, at.1 ∙ ap Some (sym named.2))

  table_for : (t : PlacedTable) → Contains (tables f) t → (net : NetTableData) × (numbered_table all net ≡ placed_table t)
  table_for t c =
      let numbers = stand_for (slice_get all) Some (inputs_of t) (input_for t c) in
      let is = numbers.1 in (
        record { inputs = numbers.0; on = t.table.on; rows = t.table.rows },
        λ i. record { inputs = is i; on = t.table.on; rows = t.table.rows },
      )

  net_latches : (nets : List NetLatch) × (map (numbered_latch all) nets ≡ map placed_latch (latches f))
  net_latches = stand_for (numbered_latch all) placed_latch (latches f) latch_for

  net_tables : (nets : List NetTableData) × (map (numbered_table all) nets ≡ map placed_table ordered)
  net_tables = stand_for (numbered_table all) placed_table ordered
      (λ t c. table_for t (AllByRecursion-contains (Contains (tables f)) ordered t
      (each_in_order (λ u. level f accepted (output_of u)) (Contains (tables f)) (tables f) (each_itself (tables f))) c))

  pub network_exists : (n : NetworkData) × IsNetworkOf f n
  network_exists =
      let prefix = least_prefix (main_model f) in (
        record {
          name = (main_model f).name;
          names = names_by_number (letters_w prefix.0) all;
          inputs = length (pins f);
          outputs = outputs.0;
          latches = net_latches.0;
          tables = net_tables.0;
        },
        record {
          accepted = accepted;
          level = level f accepted;
          levels = levels f accepted;
          width = prefix.0;
          prefix = prefix.1;
          network = record {
            name_is = refl;
            names_are = refl;
            inputs_are = refl;
            outputs_are = outputs.1;
            latches_are = net_latches.1;
            tables_are = net_tables.1;
          };
        },
      )
