-- Tables, latches and instances whose words are appended to the lists of a file by numbers are its parts.
use Rattle.std.proofs.Common.{◌≡◌, ℕ, ◌-◌, ◌+◌, List, [], ◌∷◌, ◌++◌, length, map, take, refl, sym, ap, ◌∙◌, arith}
use Rattle.std.specs.Prelude.{Option, Some, None, slice_index_or}
use Rattle.std.specs.Option.{option_to_list}
use Rattle.std.proofs.lemmas.List.{length-append}
use Rattle.std.proofs.Math.Seq.{take-append_seam}
use Rattle.std.proofs.lemmas.Grind.{flat_map-append}
use Rattle.dom_base.proofs.Lists.{slice_index_or-push}
use Rattle.blif_ast.specs.declared.instance.Binding.{Binding}
use Rattle.blif_ast.specs.declared.latch.Control.{Control}
use Rattle.blif_ast.specs.declared.latch.Edge2.{Edge2}
use Rattle.blif_ast.specs.declared.latch.Latch.{Latch}
use Rattle.blif_ast.specs.Cards.{last_word}
use Rattle.blif_ast.specs.InstanceData.{InstanceData}
use Rattle.blif_ast.specs.TableData.{TableData}
use Rattle.numbered_file.specs.declared.parts.PartKind.{PartKind}
use Rattle.numbered_file.specs.declared.parts.PartKind.TheVariants as at
use Rattle.numbered_file.specs.OpenLists.{with_parts, OpenLists, with_part, with_words}
use Rattle.blif_ast.specs.Models.{row_at}
use Rattle.numbered_file.specs.Numbered.{InstancePart, LatchPart, TablePart, bindings_by, latch_by, part_by, table_by}
use Rattle.file_copies.specs.Pushing.{HasRows, edge_of, pair_words, signal_words}
use Rattle.numbered_file.proofs.ListSteps.{part-taken}

-- the words of a table: its inputs and, last, its output
module _ (inputs : List (List ℕ)) (output : List ℕ) where
  count : length (inputs ++ output ∷ []) - 1 ≡ length inputs
  count = omega (arith, length-append inputs (output ∷ []))

  inputs_are : take (length (inputs ++ output ∷ []) - 1) (inputs ++ output ∷ []) ≡ inputs
  inputs_are = ap (λ n. take n (inputs ++ output ∷ [])) count ∙ take-append_seam inputs (output ∷ [])

  output_is : last_word (inputs ++ output ∷ []) ≡ output
  output_is = by (length (inputs ++ output ∷ []) - 1) count
    where
      by : (n : ℕ) → n ≡ length inputs → slice_index_or (inputs ++ output ∷ []) n [] ≡ output
      by n is = ap (λ k. slice_index_or (inputs ++ output ∷ []) k []) is ∙ slice_index_or-push inputs output []

-- a table
pub table-pushed : (lists filled rowed done : OpenLists) (table : TableData) (line : ℕ) → line ≡ table.line
    → filled ≡ with_words lists (table.inputs ++ table.output ∷ []) → HasRows filled rowed (length table.inputs) table.rows
    → done ≡ with_part rowed (at.Table table.on) line → lists.words ≡ [] → lists.rows ≡ [] → done ≡ with_parts lists (TablePart table ∷ [])
table-pushed lists filled rowed done table line line_is words rows pushed w r =
    let all = table.inputs ++ table.output ∷ [] in
    let rowed_is : rowed ≡ record lists { words = lists.words ++ all; rows = rowed.rows } = rows.lists ∙ ap (λ (l : OpenLists). record l { rows = rowed.rows }) words in
    let same_text : filled.text ≡ lists.text = ap (λ (l : OpenLists). l.text) words in
    let rows_are : map (row_at lists.text (length all - 1)) rowed.rows ≡ table.rows =
    (λ i. map (row_at (sym same_text i) (count table.inputs table.output i)) rowed.rows) ∙ rows.rows_are in
    pushed ∙ ap (λ l. with_part l (at.Table table.on) line) rowed_is
    ∙ (λ i. record lists {
      parts = lists.parts ++ TablePart (table_by lists.text table.on (line_is i) (w i ++ all) rowed.rows) ∷ [];
      words = sym w i;
      rows = sym r i;
    })
    ∙ (λ i. record lists {
      parts = lists.parts ++ TablePart (record {
        inputs = inputs_are table.inputs table.output i;
        output = output_is table.inputs table.output i;
        on = table.on;
        rows = rows_are i;
        line = table.line;
      }) ∷ [];
    })

-- the kind of a latch
abbrev pub latch_kind : Latch → PartKind
latch_kind l = at.Latch (edge_of l.control) l.init

latch-whole : (input output : List ℕ) (control : Option Control) (init line : ℕ)
    → latch_by (edge_of control) init line (input ∷ output ∷ signal_words control)
    ≡ record { input = input; output = output; control = control; init = init; line = line }
latch-whole input output None init line = refl
latch-whole input output (Some c) init line = by c.edge c.signal
  where
    by : (edge : Edge2) (signal : Option (List ℕ))
        → latch_by (Some edge) init line (input ∷ output ∷ option_to_list signal)
        ≡ record { input = input; output = output; control = Some (record { edge = edge; signal = signal }); init = init; line = line }
    by edge None = refl
    by edge (Some signal) = refl

-- a latch
pub latch-pushed : (lists filled done : OpenLists) (l : Latch) (line : ℕ) → line ≡ l.line
    → filled ≡ with_words lists (l.input ∷ l.output ∷ signal_words l.control)
    → done ≡ with_part filled (latch_kind l) line → lists.words ≡ [] → lists.rows ≡ [] → done ≡ with_parts lists (LatchPart l ∷ [])
latch-pushed lists filled done l line line_is words pushed w r =
    pushed ∙ part-taken lists filled (latch_kind l) line (l.input ∷ l.output ∷ signal_words l.control) words w r
    ∙ ap (λ n. with_parts lists (part_by lists.text (latch_kind l) n (l.input ∷ l.output ∷ signal_words l.control) [] ∷ [])) line_is
    ∙ ap (λ x. with_parts lists (LatchPart x ∷ [])) (latch-whole l.input l.output l.control l.init l.line)

-- the words of one binding more
pub pair_words-push : (bindings : List Binding) (binding : Binding)
    → pair_words (bindings ++ binding ∷ []) ≡ pair_words bindings ++ binding.formal ∷ binding.actual ∷ []
pair_words-push bindings binding = flat_map-append (λ (b : Binding). b.formal ∷ b.actual ∷ []) bindings (binding ∷ [])

pairs-whole : (bindings : List Binding) → bindings_by (pair_words bindings) ≡ bindings
pairs-whole [] = refl
pairs-whole (b ∷ bindings) = ap (λ l. b ∷ l) (pairs-whole bindings)

-- an instance
pub instance-pushed : (lists filled done : OpenLists) (i : InstanceData) (line : ℕ) → line ≡ i.line
    → filled ≡ with_words lists (i.unit ∷ pair_words i.bindings)
    → done ≡ with_part filled at.Instance line → lists.words ≡ [] → lists.rows ≡ [] → done ≡ with_parts lists (InstancePart i ∷ [])
instance-pushed lists filled done i line line_is words pushed w r =
    pushed ∙ part-taken lists filled at.Instance line (i.unit ∷ pair_words i.bindings) words w r
    ∙ (λ k. with_parts lists (InstancePart (record { unit = i.unit; bindings = pairs-whole i.bindings k; line = line_is k }) ∷ []))
