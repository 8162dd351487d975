-- Each word of a printed line is a good name.
use Rattle.std.proofs.Common.{◌≡◌, ℕ, ◌≤◌, ◌+◌, Bool, true, false, ◌==◌, ◌&&◌, not, nat_lt, List, [], ◌∷◌, ◌++◌, map, refl, ap, sym, subst, arith, codes, Some, None, Option, IfSome}
use Rattle.std.specs.List.{AllByRecursion, flat_map, list_all}
use Rattle.std.proofs.lemmas.Bool.Decides.{nat_tests}
use Rattle.std.proofs.lemmas.List.Elements.{All-from_recursion, recursion_from_All}
use Rattle.dom_base.specs.Lines.{is_word}
use Rattle.dom_base.proofs.Lists.{AllByRecursion-append}
use Rattle.blif_ast.specs.declared.letter.Letter.{Letter}
use Rattle.blif_ast.specs.declared.letter.Letter.TheVariants.{Zero, One, Any}
use Rattle.blif_ast.specs.declared.latch.Latch.{Latch}
use Rattle.blif_ast.specs.declared.latch.Control.{Control}
use Rattle.blif_ast.specs.declared.latch.Edge2.{Edge2}
use Rattle.blif_ast.specs.declared.latch.Edge2.TheVariants.{Rising, Falling}
use Rattle.blif_ast.specs.declared.instance.Binding.{Binding}
use Rattle.blif_ast.specs.TableData.{TableData}
use Rattle.blif_ast.specs.InstanceData.{InstanceData}
use Rattle.blif_ast.specs.BlifModelData.{BlifModelData}
use Rattle.blif_ast.specs.Good.{IsNameByte, IsGoodName, IsGoodSignal, IsGoodTable, IsGoodLatch, IsGoodBinding, IsGoodInstance, IsGoodModel}
use Rattle.blif_ast.specs.Printed.{names_words, row_words, letter_byte, value_word, edge_word, signal_word, control_words, latch_words, instance_words, binding_word, ports_card, model_lines}
use Rattle.blif_ast.specs.Cards.{model_card, inputs_card, outputs_card, end_card}
use Rattle.blif_read.proofs.PrintReadsBackWords.{IsNamesLine}
use Rattle.blif_read.proofs.PrintReadsBackParts.{tables_lines, latches_lines, instances_lines, inner_lines, model_lines-inner}

-- a test of a name's byte, which computes
abbrev is_name_byte : ℕ → Bool
is_name_byte b = nat_lt 32 b && not (b == 127) && not (b == 35)

name_byte-test : (b : ℕ) → is_name_byte b ≡ true → IsNameByte b
name_byte-test b h = (grind (arith, nat_tests), grind (arith, nat_tests), grind (arith, nat_tests))

name_bytes-test : (bs : List ℕ) → list_all is_name_byte bs ≡ true → AllByRecursion IsNameByte bs
name_bytes-test [] h = tt
name_bytes-test (b ∷ bs) h = by (is_name_byte b) refl h (λ rest. name_bytes-test bs rest)
  where
    by : (t : Bool) → is_name_byte b ≡ t → (t && list_all is_name_byte bs) ≡ true → (list_all is_name_byte bs ≡ true → AllByRecursion IsNameByte bs) → AllByRecursion IsNameByte (b ∷ bs)
    by true e both rest = (name_byte-test b e, rest both)
    by false e both rest = absurd (cc)

pub name-test : (word : List ℕ) → (is_word word && list_all is_name_byte word) ≡ true → IsGoodName word
name-test [] h = absurd (cc)
name-test (b ∷ bs) h = record {
  some = λ e. let never : true ≡ false = ap is_word e in cc;
  bytes = All-from_recursion IsNameByte (b ∷ bs) (name_bytes-test (b ∷ bs) h);
}

letter_names : (row : List Letter) → list_all is_name_byte (map letter_byte row) ≡ true
letter_names [] = refl
letter_names (Zero ∷ row) = letter_names row
letter_names (One ∷ row) = letter_names row
letter_names (Any ∷ row) = letter_names row

value_name : (on : Bool) → IsGoodName (value_word on)
value_name true = name-test (codes "1") refl
value_name false = name-test (codes "0") refl

letters_name : (l : Letter) (row : List Letter) → IsGoodName (map letter_byte (l ∷ row))
letters_name l row = name-test (map letter_byte (l ∷ row)) (letter_names (l ∷ row))

pub row_names : (on : Bool) (row : List Letter) → IsNamesLine (row_words on row)
row_names on [] = (value_name on, tt)
row_names on (l ∷ row) = (letters_name l row, (value_name on, tt))

pub table_names : (t : TableData) → IsGoodTable t → IsNamesLine (names_words t)
table_names t h = (name-test (codes ".names") refl, AllByRecursion-append IsGoodName t.inputs (t.output ∷ []) (recursion_from_All IsGoodName t.inputs h.inputs) (h.output, tt))

edge_name : (edge : Edge2) → IsGoodName (edge_word edge)
edge_name Rising = name-test (codes "re") refl
edge_name Falling = name-test (codes "fe") refl

signal_name : (signal : Option (List ℕ)) → IfSome signal IsGoodSignal → IsGoodName (signal_word signal)
signal_name None h = name-test (codes "NIL") refl
signal_name (Some signal) h = h.name

control_names : (control : Option Control) → IfSome control (λ c. IfSome c.signal IsGoodSignal) → AllByRecursion IsGoodName (control_words control)
control_names None h = tt
control_names (Some c) h = (edge_name c.edge, (signal_name c.signal h, tt))

init_name : (n : ℕ) → n ≤ 3 → IsGoodName ((48 + n) ∷ [])
init_name n h = record {
  some = λ e. let never : true ≡ false = ap is_word e in cc;
  bytes = All-from_recursion IsNameByte ((48 + n) ∷ []) ((omega (arith, h), (λ e. omega (arith, h, e)), (λ e. omega (arith, h, e))), tt);
}

pub latch_names : (l : Latch) → IsGoodLatch l → IsNamesLine (latch_words l)
latch_names l h =
    (name-test (codes ".latch") refl, (h.input, (h.output, AllByRecursion-append IsGoodName (control_words l.control) (((48 + l.init) ∷ []) ∷ []) (control_names l.control h.control) (init_name l.init h.init, tt))))

binding_name : (b : Binding) → IsGoodBinding b → IsGoodName (binding_word b)
binding_name b h = record {
  some = λ e. not_empty b.formal e;
  bytes = All-from_recursion IsNameByte (binding_word b) (AllByRecursion-append IsNameByte b.formal (61 ∷ b.actual) (recursion_from_All IsNameByte b.formal h.formal.bytes)
      (name_byte-test 61 refl, recursion_from_All IsNameByte b.actual h.actual.bytes));
}
  where
    not_empty : (front : List ℕ) → front ++ 61 ∷ b.actual ≡ [] → ⊥
    not_empty [] e = let never : true ≡ false = ap is_word e in cc
    not_empty (x ∷ front) e = let never : true ≡ false = ap is_word e in cc

binding_names : (bindings : List Binding) → AllByRecursion IsGoodBinding bindings → AllByRecursion IsGoodName (map binding_word bindings)
binding_names [] h = tt
binding_names (b ∷ bindings) h = (binding_name b h.0, binding_names bindings h.1)

pub instance_names : (i : InstanceData) → IsGoodInstance i → IsNamesLine (instance_words i)
instance_names i h = (name-test (codes ".subckt") refl, (h.unit, binding_names i.bindings (recursion_from_All IsGoodBinding i.bindings h.bindings)))

ports_names : (card : List ℕ) → IsGoodName card → (names : List (List ℕ)) → AllByRecursion IsGoodName names → AllByRecursion IsNamesLine (ports_card card names)
ports_names card c [] h = tt
ports_names card c (name ∷ names) h = ((c, h), tt)

rows_names : (on : Bool) (rows : List (List Letter)) → AllByRecursion IsNamesLine (map (row_words on) rows)
rows_names on [] = tt
rows_names on (row ∷ rows) = (row_names on row, rows_names on rows)

tables_names : (tables : List TableData) → AllByRecursion IsGoodTable tables → AllByRecursion IsNamesLine (tables_lines tables)
tables_names [] h = tt
tables_names (t ∷ tables) h = (table_names t h.0, AllByRecursion-append IsNamesLine (map (row_words t.on) t.rows) (tables_lines tables) (rows_names t.on t.rows) (tables_names tables h.1))

latches_names : (latches : List Latch) → AllByRecursion IsGoodLatch latches → AllByRecursion IsNamesLine (latches_lines latches)
latches_names [] h = tt
latches_names (l ∷ latches) h = (latch_names l h.0, latches_names latches h.1)

instances_names : (instances : List InstanceData) → AllByRecursion IsGoodInstance instances → AllByRecursion IsNamesLine (instances_lines instances)
instances_names [] h = tt
instances_names (i ∷ instances) h = (instance_names i h.0, instances_names instances h.1)

inner_names : (m : BlifModelData) → IsGoodModel m → AllByRecursion IsNamesLine (inner_lines m)
inner_names m h =
    let P = IsNamesLine in
    let latches = latches_lines m.latches in
    let instances = instances_lines m.instances in
    AllByRecursion-append P (ports_card inputs_card m.inputs) (ports_card outputs_card m.outputs ++ (tables_lines m.tables ++ (latches ++ instances)))
    (ports_names inputs_card (name-test inputs_card refl) m.inputs (recursion_from_All IsGoodName m.inputs h.inputs))
    (AllByRecursion-append P (ports_card outputs_card m.outputs) (tables_lines m.tables ++ (latches ++ instances))
    (ports_names outputs_card (name-test outputs_card refl) m.outputs (recursion_from_All IsGoodName m.outputs h.outputs))
    (AllByRecursion-append P (tables_lines m.tables) (latches ++ instances) (tables_names m.tables (recursion_from_All IsGoodTable m.tables h.tables))
    (AllByRecursion-append P latches instances (latches_names m.latches (recursion_from_All IsGoodLatch m.latches h.latches)) (instances_names m.instances (recursion_from_All IsGoodInstance m.instances h.instances)))))

-- the lines of good models
pub models_names : (models : List BlifModelData) → AllByRecursion IsGoodModel models → AllByRecursion IsNamesLine (flat_map model_lines models)
models_names [] h = tt
models_names (m ∷ models) h = subst (AllByRecursion IsNamesLine) (sym (model_lines-inner m (flat_map model_lines models))) (
  (name-test model_card refl, (h.0.name, tt)),
  AllByRecursion-append IsNamesLine (inner_lines m) ((end_card ∷ []) ∷ flat_map model_lines models) (inner_names m h.0) ((name-test end_card refl, tt), models_names models h.1),
)
