-- The file of one model of a network on other lines, in the same order: it is refused for nothing, and has the same networks.
use Rattle.std.proofs.Common.{◌≡◌, ℕ, ◌+◌, max, not, List, [], ◌∷◌, ◌++◌, map, filter, length, take, Some, None, refl, ap, sym, ◌∙◌, subst, append-nil}
use Rattle.std.specs.Prelude.{slice_get}
use Rattle.std.specs.List.{AllByRecursion, filter_map, flat_map, fold}
use Rattle.std.specs.Option.{option_map}
use Rattle.std.proofs.lemmas.Grind.{flat_map-append}
use Rattle.std.proofs.lemmas.List.{map-append}
use Rattle.std.proofs.lemmas.List.Elements.{All-from_recursion, recursion_from_All}
use Rattle.dom_base.proofs.Lists.{AllByRecursion-map, AllByRecursion-unmap, AllByRecursion-weaker, filter_map-none}
use Rattle.blif_ast.specs.BlifFileData.{BlifFileData}
use Rattle.blif_ast.specs.BlifModelData.{BlifModelData}
use Rattle.blif_ast.specs.TableData.{TableData}
use Rattle.blif_ast.specs.declared.latch.Latch.{Latch}
use Rattle.blif_ast.specs.InstanceData.{InstanceData}
use Rattle.blif_read.specs.ReadsBack.{latch_unlined, model_unlined, table_unlined}
use Rattle.model_calls.specs.Ends.{Clocking, End, clocking, clocking_of, clockings, controls, end_at, inputs_of, main_inputs, output_of, state_of}
use Rattle.model_calls.specs.Expanded.{BodyCard, LatchCard, LatchPart, PlacedLatch, PlacedPart, PlacedTable, TableCard, TablePart, card_line, expanded, expanded_from, latches, ordered_cards, part_latch, part_table, parts_of_card, tables}
use Rattle.model_calls.specs.Numbering.{IsLeastPrefixAmong, IsLevelling, by_level, is_control_name, letters_w, names_by_number, pins, signals_by_number}
use Rattle.model_calls.specs.Occurrences.{main_model, models_called, names_of, names_of_latch, names_of_table}
use Rattle.model_calls.specs.Ordered.{in_order}
use Rattle.model_calls.specs.Signals.{Signal, signal_of}
use Rattle.model_calls.proofs.Rising.{Rising}
use Rattle.network.specs.NetworkData.{NetworkData}
use Rattle.network.specs.Networks.{IsNetwork}
use Rattle.net_flatten.specs.Flattening.{IsNetworkOf, numbered_latch, numbered_table, placed_latch, placed_table}
use Rattle.net_flatten.specs.OneModel.{file_of, name_at}
use Rattle.net_flatten.specs.OneModelParts.{latches_here, tables_here}
use Rattle.net_flatten.proofs.Kept.{same_each}
use Rattle.net_flatten.proofs.OneAccepted.{rising_by, rising_is_in_order}
use Rattle.net_flatten.proofs.OneAccepted as one
use Rattle.net_flatten.proofs.OrderedAlike.{in_order_alike, kept_alike}
use Rattle.part_numbers.proofs.Ranges.{map_map}
use Rattle.net_gen.proofs.OtherOrders.{same_flat, same_map}
use Rattle.net_gen.proofs.RelinedFiles.{unlined_unrefused}

-- parts without their lines
abbrev table_at_no_line : PlacedTable → PlacedTable
table_at_no_line t = record { path = t.path; table = table_unlined t.table }

abbrev latch_at_no_line : PlacedLatch → PlacedLatch
latch_at_no_line l = record { path = l.path; latch = latch_unlined l.latch }

abbrev no_line : PlacedPart → PlacedPart
no_line (TablePart t) = TablePart (table_at_no_line t)
no_line (LatchPart l) = LatchPart (latch_at_no_line l)

table_no_line : (p : PlacedPart) → option_map table_at_no_line (part_table p) ≡ part_table (no_line p)
table_no_line (TablePart t) = refl
table_no_line (LatchPart l) = refl

latch_no_line : (p : PlacedPart) → option_map latch_at_no_line (part_latch p) ≡ part_latch (no_line p)
latch_no_line (TablePart t) = refl
latch_no_line (LatchPart l) = refl

-- parts of tables and latches in the main model
abbrev table_here : TableData → PlacedTable
table_here t = record { path = []; table = t }

abbrev latch_here : Latch → PlacedLatch
latch_here l = record { path = []; latch = l }

abbrev parts : List TableData → List Latch → List PlacedPart
parts ts ls = map TablePart (map table_here ts) ++ map LatchPart (map latch_here ls)

tables_no_line : (ts : List TableData) → map no_line (map TablePart (map table_here ts)) ≡ map (λ t. TablePart (table_here t)) (map table_unlined ts)
tables_no_line [] = refl
tables_no_line (t ∷ ts) = ap (λ l. TablePart (table_here (table_unlined t)) ∷ l) (tables_no_line ts)

latches_no_line : (ls : List Latch) → map no_line (map LatchPart (map latch_here ls)) ≡ map (λ l. LatchPart (latch_here l)) (map latch_unlined ls)
latches_no_line [] = refl
latches_no_line (l ∷ ls) = ap (λ k. LatchPart (latch_here (latch_unlined l)) ∷ k) (latches_no_line ls)

parts_alike : (ts us : List TableData) (ls ks : List Latch) → map table_unlined ts ≡ map table_unlined us → map latch_unlined ls ≡ map latch_unlined ks
    → map no_line (parts ts ls) ≡ map no_line (parts us ks)
parts_alike ts us ls ks e d =
    let first = tables_no_line ts ∙ ap (map (λ t. TablePart (table_here t))) e ∙ sym (tables_no_line us) in
    let second = latches_no_line ls ∙ ap (map (λ l. LatchPart (latch_here l))) d ∙ sym (latches_no_line ks) in
    map-append no_line (map TablePart (map table_here ts)) (map LatchPart (map latch_here ls))
    ∙ (λ i. first i ++ second i) ∙ sym (map-append no_line (map TablePart (map table_here us)) (map LatchPart (map latch_here ks)))

module _ (n : NetworkData) (is : IsNetwork n) (line : ℕ) (ts : List TableData) (ls : List Latch)
    (same_tables : map table_unlined ts ≡ map table_unlined (tables_here n)) (same_latches : map latch_unlined ls ≡ map latch_unlined (latches_here n))
    (rise : Rising (λ (k : ℕ). k) (map (λ (t : TableData). t.line) ts ++ map (λ (l : Latch). l.line) ls)) where
  abbrev f : BlifFileData
  f = file_of n

  abbrev m : BlifModelData
  m = main_model (file_of n)

  abbrev pub model_on_lines : BlifModelData
  model_on_lines = record { name = n.name; inputs = take n.inputs n.names; outputs = map (name_at n) n.outputs; tables = ts; latches = ls; instances = []; line = line }

  abbrev pub file_on_lines : BlifFileData
  file_on_lines = record { models = model_on_lines ∷ [] }

  abbrev g : BlifFileData
  g = file_on_lines

  -- its cards are in order, and so are its parts

  abbrev own_cards : List BodyCard
  own_cards = map TableCard ts ++ map LatchCard ls

  lines_of_cards : map card_line own_cards ≡ map (λ (t : TableData). t.line) ts ++ map (λ (l : Latch). l.line) ls
  lines_of_cards = map-append card_line (map TableCard ts) (map LatchCard ls)
      ∙ ap (λ l. l ++ map card_line (map LatchCard ls)) (map_map card_line TableCard ts)
      ∙ ap (λ l. map (λ (t : TableData). t.line) ts ++ l) (map_map card_line LatchCard ls)

  cards_are : ordered_cards model_on_lines ≡ own_cards
  cards_are = ap (in_order card_line) (append-nil own_cards) ∙ rising_is_in_order card_line own_cards (rising_by card_line own_cards (subst (Rising (λ (k : ℕ). k)) (sym lines_of_cards) rise))

  abbrev below : List InstanceData → List ℕ → List PlacedPart
  below p unit = flat_map (expanded_from g.models 0 p) (models_called g.models unit)

  tables_part : (us : List TableData) → flat_map (parts_of_card below []) (map TableCard us) ≡ map TablePart (map table_here us)
  tables_part [] = refl
  tables_part (t ∷ us) = ap (λ l. TablePart (table_here t) ∷ l) (tables_part us)

  latches_part : (ks : List Latch) → flat_map (parts_of_card below []) (map LatchCard ks) ≡ map LatchPart (map latch_here ks)
  latches_part [] = refl
  latches_part (l ∷ ks) = ap (λ k. LatchPart (latch_here l) ∷ k) (latches_part ks)

  unfold_once : expanded g ≡ flat_map (parts_of_card below []) (ordered_cards model_on_lines)
  unfold_once = refl

  expanded_is : expanded g ≡ parts ts ls
  expanded_is = unfold_once ∙ ap (flat_map (parts_of_card below [])) cards_are
      ∙ flat_map-append (parts_of_card below []) (map TableCard ts) (map LatchCard ls)
      ∙ ap (λ l. l ++ flat_map (parts_of_card below []) (map LatchCard ls)) (tables_part ts)
      ∙ ap (λ l. map TablePart (map table_here ts) ++ l) (latches_part ls)

  -- the same but for lines

  same_parts : map no_line (expanded g) ≡ map no_line (expanded f)
  same_parts = ap (map no_line) expanded_is ∙ parts_alike ts (tables_here n) ls (latches_here n) same_tables same_latches ∙ sym (ap (map no_line) (one.expanded_is n is))

  tables_alike : map table_at_no_line (tables g) ≡ map table_at_no_line (tables f)
  tables_alike = kept_alike no_line no_line part_table part_table table_at_no_line table_at_no_line (λ x y e. table_no_line x ∙ ap part_table e ∙ sym (table_no_line y)) (expanded g) (expanded f) same_parts

  latches_alike : map latch_at_no_line (latches g) ≡ map latch_at_no_line (latches f)
  latches_alike = kept_alike no_line no_line part_latch part_latch latch_at_no_line latch_at_no_line (λ x y e. latch_no_line x ∙ ap part_latch e ∙ sym (latch_no_line y)) (expanded g) (expanded f) same_parts

  same_names : names_of model_on_lines ≡ names_of m
  same_names =
      let of_tables = same_flat table_unlined ts (tables_here n) same_tables names_of_table in
      let of_latches = same_flat latch_unlined ls (latches_here n) same_latches names_of_latch in
      λ i. take n.inputs n.names ++ map (name_at n) n.outputs ++ of_tables i ++ of_latches i ++ []

  -- no latch has a control
  abbrev IsFree : PlacedLatch → Type 0
  IsFree l = l.latch.control ≡ None

  free_here : AllByRecursion IsFree (latches f)
  free_here = subst (AllByRecursion IsFree) (sym (one.latches_are n is)) (one.each_latch_here n is IsFree (λ k l e. refl))

  free : AllByRecursion IsFree (latches g)
  free = same_each latch_at_no_line latch_at_no_line IsFree IsFree (λ x y e p. ap (λ (l : PlacedLatch). l.latch.control) e ∙ p) (latches g) (latches f) latches_alike free_here

  no_clockings : clockings g ≡ []
  no_clockings = filter_map-none clocking_of (latches g) (AllByRecursion-weaker IsFree (λ l. clocking_of l ≡ None) (λ l e. ap (option_map (clocking l)) e) (latches g) free)

  no_controls : controls g ≡ []
  no_controls = ap (filter_map (λ (c : Clocking). c.signal)) no_clockings

  -- it is refused for nothing, since it is the network's file in all but lines

  same_models : map model_unlined (model_on_lines ∷ []) ≡ map model_unlined f.models
  same_models = λ i. record {
    name = n.name;
    inputs = take n.inputs n.names;
    outputs = map (name_at n) n.outputs;
    tables = same_tables i;
    latches = same_latches i;
    instances = [];
    line = 0;
  } ∷ []

  -- and has the same networks

  same_pins : pins g ≡ pins f
  same_pins = ap (λ (c : List End). filter (λ name. not (is_control_name (slice_get c 0) name)) (take n.inputs n.names))
      (no_controls ∙ sym (ap (filter_map (λ (c : Clocking). c.signal)) (one.no_clockings n is)))

  module _ (k : NetworkData) (of : IsNetworkOf (file_of n) k) where
    levels : IsLevelling g of.level
    levels = record {
      inputs = All-from_recursion (λ (e : End). of.level e.signal ≡ 0) (main_inputs g)
          (AllByRecursion-map (λ (e : End). of.level e.signal ≡ 0) (end_at [] line) m.inputs
          (AllByRecursion-unmap (λ (e : End). of.level e.signal ≡ 0) (end_at [] 1) m.inputs (recursion_from_All (λ (e : End). of.level e.signal ≡ 0) (main_inputs f) of.levels.inputs)));
      latches_are = All-from_recursion (λ l. of.level (state_of l) ≡ 0) (latches g)
          (same_each latch_at_no_line latch_at_no_line (λ l. of.level (state_of l) ≡ 0) (λ l. of.level (state_of l) ≡ 0) (λ x y e p. ap (λ (l : PlacedLatch). of.level (state_of l)) e ∙ p)
          (latches g) (latches f) latches_alike (recursion_from_All (λ l. of.level (state_of l) ≡ 0) (latches f) of.levels.latches_are));
      tables_are = All-from_recursion IsAbove (tables g)
          (same_each table_at_no_line table_at_no_line IsAbove IsAbove
          (λ x y e p. ap (λ (t : PlacedTable). of.level (output_of t)) e ∙ p ∙ sym (ap (λ (t : PlacedTable). 1 + fold max 0 (map of.level (inputs_of t))) e))
          (tables g) (tables f) tables_alike (recursion_from_All IsAbove (tables f) of.levels.tables_are));
    }
      where
        IsAbove : PlacedTable → Type 0
        IsAbove t = of.level (output_of t) ≡ 1 + fold max 0 (map of.level (inputs_of t))

    same_order : map table_at_no_line (by_level of.level g) ≡ map table_at_no_line (by_level of.level f)
    same_order = (in_order_alike table_at_no_line table_at_no_line (λ t. of.level (output_of t)) (λ t. of.level (output_of t)) (tables g) (tables f) tables_alike
        (same_map table_at_no_line (tables g) (tables f) tables_alike (λ t. of.level (output_of t)))).0

    same_signals : signals_by_number g (by_level of.level g) ≡ signals_by_number f (by_level of.level f)
    same_signals =
        let states = same_map latch_at_no_line (latches g) (latches f) latches_alike state_of in
        let outputs = same_map table_at_no_line (by_level of.level g) (by_level of.level f) same_order output_of in
        λ i. map (signal_of []) (same_pins i) ++ states i ++ outputs i

    pub network_on_lines : IsNetworkOf file_on_lines k
    network_on_lines = record {
      accepted = unlined_unrefused n is (model_on_lines ∷ []) same_models;
      level = of.level;
      levels = levels;
      width = of.width;
      prefix = subst (λ names. IsLeastPrefixAmong names of.width) (sym same_names) of.prefix;
      network = record {
        name_is = of.network.name_is;
        names_are = of.network.names_are ∙ ap (names_by_number (letters_w of.width)) (sym same_signals);
        inputs_are = of.network.inputs_are ∙ sym (ap length same_pins);
        outputs_are = subst (λ (s : List Signal). map (slice_get s) k.outputs ≡ map (λ name. Some (signal_of [] name)) m.outputs) (sym same_signals) of.network.outputs_are;
        latches_are = subst (λ (s : List Signal). map (numbered_latch s) k.latches ≡ map placed_latch (latches g)) (sym same_signals)
            (of.network.latches_are ∙ sym (same_map latch_at_no_line (latches g) (latches f) latches_alike placed_latch));
        tables_are = subst (λ (s : List Signal). map (numbered_table s) k.tables ≡ map placed_table (by_level of.level g)) (sym same_signals)
            (of.network.tables_are ∙ sym (same_map table_at_no_line (by_level of.level g) (by_level of.level f) same_order placed_table));
      };
    }
