-- The names of the network of a text of bytes are of bytes.
use Rattle.std.proofs.Common.{◌≡◌, ℕ, zero, suc, ◌+◌, ◌-◌, ◌<◌, ◌/◌, ◌%◌, Bool, true, false, ◌==◌, not, nat_lt, if◌then◌else◌, List, [], ◌∷◌, ◌++◌, length, map, filter, take, drop, slice_get, slice_index_or, Option, Some, None, codes, refl, sym, subst, arith, All}
use Rattle.std.specs.Prelude.{flat_map}
use Rattle.std.specs.Fmt.{decimal, digits, digits_onto, digit_glyph}
use Rattle.std.specs.List.{AllByRecursion, cons_option, enumerate_from, filter_map, position_or_len, prefix_len, take_while}
use Rattle.std.specs.Option.{option_to_list}
use Rattle.std.proofs.lemmas.List.Elements.{All-from_recursion, All-replicate, recursion_from_All}
use Rattle.dom_base.specs.Lines.{lines, without_comment}
use Rattle.dom_base.proofs.Lists.{AllByRecursion-append, AllByRecursion-contains, AllByRecursion-drop, AllByRecursion-kept, AllByRecursion-left, AllByRecursion-map, AllByRecursion-take, AllByRecursion-weaker}
use Rattle.dom_base.proofs.WordBytes.{lines_each, without_comment_each, words_each}
use Rattle.blif_ast.specs.BlifFileData.{BlifFileData}
use Rattle.blif_ast.specs.BlifModelData.{BlifModelData}
use Rattle.blif_ast.specs.Cards.{begins, inputs_card, is_row, last_word, latch_card, model_card, names_card, outputs_card, same, subckt_card, table_inputs}
use Rattle.blif_ast.specs.InstanceData.{InstanceData}
use Rattle.blif_ast.specs.LogicalLines.{LogicalLine, NumberedBytes, but_last, has_words, in_words, is_joined, joined_lines, logical_lines, with_blank, with_line, with_next}
use Rattle.blif_ast.specs.Models.{binding_of, blif_model, control_of, instance_of, instances_of, is_inside, latch_of, latches_of, models_of, names_on, table_of, tables_of}
use Rattle.blif_ast.specs.Reading.{IsFileOf}
use Rattle.blif_ast.specs.declared.instance.Binding.{Binding}
use Rattle.blif_ast.specs.declared.latch.Latch.{Latch}
use Rattle.model_calls.specs.Ends.{controls, output_of, state_of}
use Rattle.model_calls.specs.Expanded.{expanded, latches, tables}
use Rattle.model_calls.specs.Numbering.{by_level, is_control_name, is_main, letters_w, name_by_number, names_by_number, pins, signals_by_number}
use Rattle.model_calls.specs.Occurrences.{actuals_of, first_model, main_model, names_of, names_of_latch, names_of_table, signal_of_control}
use Rattle.model_calls.specs.Signals.{Signal, signal_of}
use Rattle.model_calls.proofs.Drivers.{driven, each_latch, each_table}
use Rattle.model_calls.proofs.Apart.{each_in_order}
use Rattle.model_calls.proofs.MainNames.{HasMainName, main_names}
use Rattle.network.specs.NetworkData.{NetworkData}
use Rattle.command_answers.specs.Networks.{HasNetwork}

abbrev IsByte : ℕ → Type 0
IsByte b = b < 256

abbrev AreBytes : List ℕ → Type 0
AreBytes word = AllByRecursion IsByte word

-- the words of a line are of bytes
abbrev HasByteWords : LogicalLine → Type 0
HasByteWords line = AllByRecursion AreBytes line.words

abbrev AreOfBytes : List NumberedBytes → Type 0
AreOfBytes all = AllByRecursion (λ (line : NumberedBytes). AreBytes line.bytes) all

next_bytes : (n : ℕ) (line : List ℕ) (next : List NumberedBytes) → AreBytes line → AreOfBytes next → AreOfBytes (with_next n line next)
next_bytes n line [] h k = (h, tt)
next_bytes n line (next ∷ more) h k = (AllByRecursion-append IsByte line next.bytes h k.0, k.1)

line_bytes : (n : ℕ) (line : List ℕ) (next : List NumberedBytes) → AreBytes line → AreOfBytes next → AreOfBytes (with_line n line next)
line_bytes n line next h k = by (is_joined line) refl
  where
    by : (b : Bool) → is_joined line ≡ b → AreOfBytes (with_line n line next)
    by true e = rw e (next_bytes n (with_blank line) next (AllByRecursion-append IsByte (but_last line) (32 ∷ []) (AllByRecursion-take IsByte (length line - 1) line h) (omega arith, tt)) k)
    by false e = rw e (h, k)

joined_bytes : (n : ℕ) (all : List (List ℕ)) → AllByRecursion AreBytes all → AreOfBytes (joined_lines n all)
joined_bytes n [] h = tt
joined_bytes n (line ∷ more) h = line_bytes n line (joined_lines (n + 1) more) h.0 (joined_bytes (n + 1) more h.1)

worded : (all : List NumberedBytes) → AreOfBytes all → AllByRecursion HasByteWords (map in_words all)
worded [] h = tt
worded (line ∷ more) h = (words_each IsByte line.bytes h.0, worded more h.1)

uncommented : (all : List (List ℕ)) → AllByRecursion AreBytes all → AllByRecursion AreBytes (map without_comment all)
uncommented [] h = tt
uncommented (line ∷ more) h = (without_comment_each IsByte line h.0, uncommented more h.1)

-- the words of the lines of a text of bytes
text_lines : (text : List ℕ) → AreBytes text → AllByRecursion HasByteWords (logical_lines text)
text_lines text h =
    let all = joined_lines 1 (map without_comment (lines text)) in
    AllByRecursion-kept HasByteWords has_words (map in_words all)
    (worded all (joined_bytes 1 (map without_comment (lines text)) (uncommented (lines text) (lines_each IsByte text h))))

-- one of some words, or no bytes
word_at : (all : List (List ℕ)) (k : ℕ) → AllByRecursion AreBytes all → AreBytes (slice_index_or all k [])
word_at [] k h = tt
word_at (word ∷ all) zero h = h.0
word_at (word ∷ all) (suc k) h = word_at all k h.1

behind : (all : List LogicalLine) → AllByRecursion HasByteWords all → AllByRecursion AreBytes (flat_map (λ (line : LogicalLine). drop 1 line.words) all)
behind [] h = tt
behind (line ∷ more) h =
    AllByRecursion-append AreBytes (drop 1 line.words) (flat_map (λ (k : LogicalLine). drop 1 k.words) more) (AllByRecursion-drop AreBytes 1 line.words h.0) (behind more h.1)

on_cards : (card : List ℕ) (all : List LogicalLine) → AllByRecursion HasByteWords all → AllByRecursion AreBytes (names_on card all)
on_cards card all h = behind (filter (begins card) all) (AllByRecursion-kept HasByteWords (begins card) all h)

tables_bytes : (all : List LogicalLine) → AllByRecursion HasByteWords all → AllByRecursion AreBytes (flat_map names_of_table (tables_of all))
tables_bytes [] h = tt
tables_bytes (line ∷ more) h = by (begins names_card line) (tables_bytes more h.1)
  where
    own : AllByRecursion AreBytes (names_of_table (table_of line (take_while is_row more)))
    own = AllByRecursion-append AreBytes (table_inputs line.words) (last_word line.words ∷ [])
        (AllByRecursion-take AreBytes (length line.words - 2) (drop 1 line.words) (AllByRecursion-drop AreBytes 1 line.words h.0))
        (word_at line.words (length line.words - 1) h.0, tt)

    by : (b : Bool) → AllByRecursion AreBytes (flat_map names_of_table (tables_of more))
        → AllByRecursion AreBytes (flat_map names_of_table (if b then table_of line (take_while is_row more) ∷ tables_of more else tables_of more))
    by true rest = AllByRecursion-append AreBytes (names_of_table (table_of line (take_while is_row more))) (flat_map names_of_table (tables_of more)) own rest
    by false rest = rest

-- the names of a latch, if there is one
abbrev names_of_found : Option Latch → List (List ℕ)
names_of_found None = []
names_of_found (Some l) = names_of_latch l

control_bytes : (type word : List ℕ) → AreBytes word → AllByRecursion AreBytes (signal_of_control (Some (control_of type word)))
control_bytes type word h = by (same word (codes "NIL"))
  where
    by : (b : Bool) → AllByRecursion AreBytes (option_to_list (if b then None else Some word) ++ [])
    by true = tt
    by false = (h, tt)

latch_bytes : (number : ℕ) (all : List (List ℕ)) → AllByRecursion AreBytes all → AllByRecursion AreBytes (names_of_found (latch_of number all))
latch_bytes number [] h = tt
latch_bytes number (card ∷ []) h = tt
latch_bytes number (card ∷ input ∷ []) h = tt
latch_bytes number (card ∷ input ∷ output ∷ []) h = (h.1.0, (h.1.1.0, tt))
latch_bytes number (card ∷ input ∷ output ∷ init ∷ []) h = (h.1.0, (h.1.1.0, tt))
latch_bytes number (card ∷ input ∷ output ∷ type ∷ control ∷ []) h = (h.1.0, (h.1.1.0, control_bytes type control h.1.1.1.1.0))
latch_bytes number (card ∷ input ∷ output ∷ type ∷ control ∷ init ∷ []) h = (h.1.0, (h.1.1.0, control_bytes type control h.1.1.1.1.0))
latch_bytes number (card ∷ input ∷ output ∷ type ∷ control ∷ init ∷ next ∷ more) h = tt

abbrev latches_in : List LogicalLine → List Latch
latches_in all = filter_map (λ (line : LogicalLine). latch_of line.number line.words) all

latches_bytes : (all : List LogicalLine) → AllByRecursion HasByteWords all → AllByRecursion AreBytes (flat_map names_of_latch (latches_in all))
latches_bytes [] h = tt
latches_bytes (line ∷ more) h = by (latch_of line.number line.words) (latch_bytes line.number line.words h.0) (latches_bytes more h.1)
  where
    by : (found : Option Latch) → AllByRecursion AreBytes (names_of_found found) → AllByRecursion AreBytes (flat_map names_of_latch (latches_in more))
        → AllByRecursion AreBytes (flat_map names_of_latch (cons_option found (latches_in more)))
    by None own rest = rest
    by (Some l) own rest = AllByRecursion-append AreBytes (names_of_latch l) (flat_map names_of_latch (latches_in more)) own rest

bindings_bytes : (all : List (List ℕ)) → AllByRecursion AreBytes all → AllByRecursion AreBytes (map (λ (b : Binding). b.actual) (map binding_of all))
bindings_bytes [] h = tt
bindings_bytes (word ∷ all) h = (AllByRecursion-drop IsByte (position_or_len (λ b. b == 61) word + 1) word h.0, bindings_bytes all h.1)

instances_bytes : (all : List LogicalLine) → AllByRecursion HasByteWords all → AllByRecursion AreBytes (flat_map actuals_of (map instance_of all))
instances_bytes [] h = tt
instances_bytes (line ∷ more) h =
    AllByRecursion-append AreBytes (actuals_of (instance_of line)) (flat_map actuals_of (map instance_of more))
    (bindings_bytes (drop 2 line.words) (AllByRecursion-drop AreBytes 2 line.words h.0)) (instances_bytes more h.1)

-- a model whose name, and whose names, are of bytes
abbrev IsByteModel : BlifModelData → Type 0
IsByteModel m = AreBytes m.name × AllByRecursion AreBytes (names_of m)

model_bytes : (line : LogicalLine) (all : List LogicalLine) → HasByteWords line → AllByRecursion HasByteWords all → IsByteModel (blif_model line all)
model_bytes line all own h =
    let i = names_on inputs_card all in
    let o = names_on outputs_card all in
    let t = flat_map names_of_table (tables_of all) in
    let l = flat_map names_of_latch (latches_of all) in
    let a = flat_map actuals_of (instances_of all) in (
      word_at line.words 1 own,
      AllByRecursion-append AreBytes (i ++ o ++ t ++ l) a
          (AllByRecursion-append AreBytes (i ++ o ++ t) l
          (AllByRecursion-append AreBytes (i ++ o) t (AllByRecursion-append AreBytes i o (on_cards inputs_card all h) (on_cards outputs_card all h)) (tables_bytes all h))
          (latches_bytes (filter (begins latch_card) all) (AllByRecursion-kept HasByteWords (begins latch_card) all h)))
          (instances_bytes (filter (begins subckt_card) all) (AllByRecursion-kept HasByteWords (begins subckt_card) all h)),
    )

first_bytes : (all : List LogicalLine) → AllByRecursion HasByteWords all → IsByteModel (first_model (models_of all))
first_bytes [] h = (tt, tt)
first_bytes (line ∷ more) h = by (begins model_card line) (first_bytes more h.1)
  where
    by : (b : Bool) → IsByteModel (first_model (models_of more))
        → IsByteModel (first_model (if b then blif_model line (take_while is_inside more) ∷ models_of more else models_of more))
    by true rest = model_bytes line (take_while is_inside more) h.0 (AllByRecursion-take HasByteWords (prefix_len is_inside more) more h.1)
    by false rest = rest

main_bytes : (text : List ℕ) (file : BlifFileData) → AreBytes text → IsFileOf text file → IsByteModel (main_model file)
main_bytes text file h is = subst (λ (f : BlifFileData). IsByteModel (main_model f)) (sym is.file_is) (first_bytes (logical_lines text) (text_lines text h))

-- decimal digits are bytes
glyph_low : (d : ℕ) → d < 10 → digit_glyph false d < 256
glyph_low d low = by (nat_lt d 10)
  where
    by : (b : Bool) → (if b then 48 + d else 87 + d) < 256
    by true = omega (arith, low)
    by false = omega (arith, low)

onto_low : (k n : ℕ) (behind : List ℕ) → AreBytes behind → AreBytes (digits_onto k 10 false n behind)
onto_low zero n behind h = h
onto_low (suc k) n behind h = by (n / 10 == 0) (onto_low k (n / 10) (digit_glyph false (n % 10) ∷ behind) more)
  where
    more : AreBytes (digit_glyph false (n % 10) ∷ behind)
    more = (glyph_low (n % 10) (omega arith), h)

    by : (b : Bool) → AreBytes (digits_onto k 10 false (n / 10) (digit_glyph false (n % 10) ∷ behind))
        → AreBytes (if b then digit_glyph false (n % 10) ∷ behind else digits_onto k 10 false (n / 10) (digit_glyph false (n % 10) ∷ behind))
    by true rest = more
    by false rest = rest

decimal_low : (n : ℕ) → AreBytes (decimal n)
unfolding digits
decimal_low n = onto_low 64 n [] tt

-- the signals of a file, where those on no path have names of its main model
module _ (f : BlifFileData) (main : IsByteModel (main_model f)) where
  abbrev HasOwnBytes : Signal → Type 0
  HasOwnBytes s = s.path ≡ [] → AreBytes s.name

  own_bytes : (s : Signal) → HasMainName (main_model f) s → HasOwnBytes s
  own_bytes s has on = AllByRecursion-contains AreBytes (names_of (main_model f)) s.name main.1 (has on)

  inputs_bytes : AllByRecursion AreBytes (main_model f).inputs
  inputs_bytes =
      let m = main_model f in
      let t = flat_map names_of_table m.tables in
      let l = flat_map names_of_latch m.latches in
      AllByRecursion-left AreBytes m.inputs m.outputs
      (AllByRecursion-left AreBytes (m.inputs ++ m.outputs) t
      (AllByRecursion-left AreBytes (m.inputs ++ m.outputs ++ t) l
      (AllByRecursion-left AreBytes (m.inputs ++ m.outputs ++ t ++ l) (flat_map actuals_of m.instances) main.1)))

  signals_bytes : (level : Signal → ℕ) → AllByRecursion HasOwnBytes (signals_by_number f (by_level level f))
  signals_bytes level =
      let parts = AllByRecursion-weaker (λ p. HasMainName (main_model f) (driven p)) (λ p. HasOwnBytes (driven p)) (λ p has. own_bytes (driven p) has) (expanded f) (main_names f) in
      AllByRecursion-append HasOwnBytes (map (signal_of []) (pins f) ++ map state_of (latches f)) (map output_of (by_level level f))
      (AllByRecursion-append HasOwnBytes (map (signal_of []) (pins f)) (map state_of (latches f))
      (AllByRecursion-map HasOwnBytes (signal_of []) (pins f)
      (AllByRecursion-kept (λ name. HasOwnBytes (signal_of [] name)) (λ name. not (is_control_name (slice_get (controls f) 0) name)) (main_model f).inputs
      (AllByRecursion-weaker AreBytes (λ name. HasOwnBytes (signal_of [] name)) (λ name h on. h) (main_model f).inputs inputs_bytes)))
      (AllByRecursion-map HasOwnBytes state_of (latches f) (each_latch HasOwnBytes (expanded f) parts)))
      (AllByRecursion-map HasOwnBytes output_of (by_level level f)
      (each_in_order (λ t. level (output_of t)) (λ t. HasOwnBytes (output_of t)) (tables f) (each_table HasOwnBytes (expanded f) parts)))

  name_bytes : (width k : ℕ) (s : Signal) → HasOwnBytes s → AreBytes (name_by_number (letters_w width) k s)
  name_bytes width k s h = by s.path refl
    where
      by : (p : List InstanceData) → s.path ≡ p → AreBytes (if is_main p then s.name else letters_w width ++ decimal k)
      by [] on = h on
      by (i ∷ up) on =
          AllByRecursion-append IsByte (letters_w width) (decimal k) (recursion_from_All IsByte (letters_w width) (All-replicate IsByte width 119 (omega arith))) (decimal_low k)

  names_bytes : (width k : ℕ) (xs : List Signal) → AllByRecursion HasOwnBytes xs
      → AllByRecursion AreBytes (map (λ (p : ℕ × Signal). name_by_number (letters_w width) p.0 p.1) (enumerate_from k xs))
  names_bytes width k [] h = tt
  names_bytes width k (x ∷ xs) h = (name_bytes width k x h.0, names_bytes width (k + 1) xs h.1)

-- the names of a network, and its own name, are of bytes
pub record HasByteNames (network : NetworkData) : Type 0 where
  pub names : All (λ name. All (λ b. b < 256) name) network.names
  pub name : All (λ b. b < 256) network.name

pub network_bytes : (bytes : List ℕ) (network : NetworkData) → All (λ b. b < 256) bytes → HasNetwork bytes network → HasByteNames network
network_bytes bytes network low has =
    let main = main_bytes bytes has.file (recursion_from_All IsByte bytes low) has.accepted in
    let level = has.network_is.level in
    let width = has.network_is.width in
    let names = names_by_number (letters_w width) (signals_by_number has.file (by_level level has.file)) in
    record {
      names = subst (All (λ name. All IsByte name)) (sym has.network_is.network.names_are)
          (All-from_recursion (λ name. All IsByte name) names
          (AllByRecursion-weaker AreBytes (λ name. All IsByte name) (λ name h. All-from_recursion IsByte name h) names
          (names_bytes has.file main width 0 (signals_by_number has.file (by_level level has.file)) (signals_bytes has.file main level))));
      name = subst (All IsByte) (sym has.network_is.network.name_is) (All-from_recursion IsByte (main_model has.file).name main.0);
    }
