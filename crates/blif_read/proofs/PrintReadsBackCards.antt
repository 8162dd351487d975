-- What a printed card or row says: its table, its latch or its instance, in all but the line.
use Rattle.std.proofs.Common.{◌≡◌, ◌≢◌, ℕ, suc, ◌-◌, ◌+◌, Bool, true, false, ◌==◌, not, if◌then◌else◌, List, [], ◌∷◌, ◌++◌, length, length-append, drop, take, map, refl, ap, sym, ◌∙◌, arith, codes, Some, None, Option, IfSome}
use Rattle.std.specs.List.{AllByRecursion, position_or_len}
use Rattle.std.proofs.lemmas.Bool.Decides.{nat_tests}
use Rattle.std.proofs.lemmas.List.Elements.{recursion_from_All}
use Rattle.blif_ast.specs.declared.letter.Letter.{Letter}
use Rattle.blif_ast.specs.declared.latch.Latch.{Latch}
use Rattle.blif_ast.specs.declared.latch.Control.{Control}
use Rattle.blif_ast.specs.declared.latch.Edge2.{Edge2}
use Rattle.blif_ast.specs.declared.latch.Edge2.TheVariants.{Rising, Falling}
use Rattle.blif_ast.specs.declared.instance.Binding.{Binding}
use Rattle.blif_ast.specs.TableData.{TableData}
use Rattle.blif_ast.specs.InstanceData.{InstanceData}
use Rattle.blif_ast.specs.Good.{IsGoodTable, IsGoodSignal, IsGoodLatch, IsGoodBinding, IsGoodInstance}
use Rattle.blif_ast.specs.Printed.{names_words, row_words, edge_word, signal_word, control_words, latch_words, instance_words, binding_word}
use Rattle.blif_ast.specs.LogicalLines.{LogicalLine}
use Rattle.blif_ast.specs.Cards.{same, last_letter, table_inputs, formal_of, actual_of}
use Rattle.blif_ast.specs.Models.{row_letters, rows_are_on, table_of, binding_of, instance_of, latch_of, control_of, init_of}
use Rattle.blif_ast.proofs.LineWords.{last_word-end}
use Rattle.blif_read.specs.ReadsBack.{table_unlined, latch_unlined, instance_unlined}
use Rattle.blif_numbers.proofs.KnownWords.{same-true}
use Rattle.file_copies.proofs.RowPlaces.{row-back}
use Rattle.blif_read.proofs.PrintReadsBackLines.{line_at}
use Rattle.blif_read.proofs.PrintReadsBackData.{zeros}

pub row_back : (on : Bool) (row : List Letter) → row_letters (row_words on row) ≡ row
row_back on [] = refl
row_back on (l ∷ row) = row-back (l ∷ row)

rows_back : (on : Bool) (rows : List (List Letter)) → map (λ (line : LogicalLine). row_letters line.words) (zeros (map (row_words on) rows)) ≡ rows
rows_back on [] = refl
rows_back on (row ∷ rows) =
    ap (λ l. l ∷ map (λ (line : LogicalLine). row_letters line.words) (zeros (map (row_words on) rows))) (row_back on row)
    ∙ ap (λ ls. row ∷ ls) (rows_back on rows)

-- the last letter of a row is its value
pub row_last : (on : Bool) (row : List Letter) → last_letter (row_words on row) ≡ (if on then 49 else 48)
row_last true [] = refl
row_last false [] = refl
row_last true (l ∷ row) = refl
row_last false (l ∷ row) = refl

on_back : (on : Bool) (rows : List (List Letter)) → (rows ≡ [] → on ≡ true) → rows_are_on (zeros (map (row_words on) rows)) ≡ on
on_back on [] h = sym (h refl)
on_back true (row ∷ rows) h = ap (λ n. n == 49) (row_last true row)
on_back false (row ∷ rows) h = ap (λ n. n == 49) (row_last false row)

take-front : {X : Type 0} (front rest : List X) → take (length front) (front ++ rest) ≡ front
take-front [] rest = refl
take-front (x ∷ front) rest = ap (λ l. x ∷ l) (take-front front rest)

pub names_inputs : (card : List ℕ) (inputs : List (List ℕ)) (output : List ℕ) → table_inputs (card ∷ inputs ++ output ∷ []) ≡ inputs
names_inputs card inputs output =
    let count : length (card ∷ inputs ++ output ∷ []) - 2 ≡ length inputs = omega (arith, length-append inputs (output ∷ [])) in
    ap (λ n. take n (inputs ++ output ∷ [])) count ∙ take-front inputs (output ∷ [])

-- the table of printed lines
pub table_back : (t : TableData) → IsGoodTable t → table_of (line_at 0 (names_words t)) (zeros (map (row_words t.on) t.rows)) ≡ table_unlined t
table_back t h =
    let inputs = names_inputs (codes ".names") t.inputs t.output in
    let output = last_word-end (codes ".names" ∷ t.inputs) t.output in
    let on = on_back t.on t.rows h.on in
    let rows = rows_back t.on t.rows in
    λ i. record { inputs = inputs i; output = output i; on = on i; rows = rows i; line = 0 }

before_mark : (formal actual : List ℕ) → AllByRecursion (λ b. b ≢ 61) formal → position_or_len (λ b. b == 61) (formal ++ 61 ∷ actual) ≡ length formal
before_mark [] actual h = refl
before_mark (b ∷ formal) actual h =
    let other : (b == 61) ≡ false = other_number b h.0 in
    ap (λ t. if not t then 1 + position_or_len (λ c. c == 61) (formal ++ 61 ∷ actual) else 0) other
    ∙ ap (λ n. 1 + n) (before_mark formal actual h.1)
    ∙ next (length formal)
  where
    other_number : (c : ℕ) → c ≢ 61 → (c == 61) ≡ false
    other_number c n = grind (arith, nat_tests, n)

    next : (n : ℕ) → 1 + n ≡ suc n
    next n = omega arith

drop-front : {X : Type 0} (front : List X) (x : X) (rest : List X) → drop (suc (length front)) (front ++ x ∷ rest) ≡ rest
drop-front [] x rest = refl
drop-front (y ∷ front) x rest = drop-front front x rest

pub binding_back : (b : Binding) → IsGoodBinding b → binding_of (binding_word b) ≡ b
binding_back b h =
    let place = before_mark b.formal b.actual (recursion_from_All (λ byte. byte ≢ 61) b.formal h.no_equals) in
    let behind : length b.formal + 1 ≡ suc (length b.formal) = omega arith in
    let formal : formal_of (binding_word b) ≡ b.formal = ap (λ n. take n (b.formal ++ 61 ∷ b.actual)) place ∙ take-front b.formal (61 ∷ b.actual) in
    let actual : actual_of (binding_word b) ≡ b.actual = ap (λ n. drop (n + 1) (b.formal ++ 61 ∷ b.actual)) place ∙ ap (λ n. drop n (b.formal ++ 61 ∷ b.actual)) behind ∙ drop-front b.formal 61 b.actual in
    λ i. record { formal = formal i; actual = actual i }

bindings_back : (bindings : List Binding) → AllByRecursion IsGoodBinding bindings → map binding_of (map binding_word bindings) ≡ bindings
bindings_back [] h = refl
bindings_back (b ∷ bindings) h = ap (λ x. x ∷ map binding_of (map binding_word bindings)) (binding_back b h.0) ∙ ap (λ l. b ∷ l) (bindings_back bindings h.1)

-- the instance of a printed card
pub instance_back : (i : InstanceData) → IsGoodInstance i → instance_of (line_at 0 (instance_words i)) ≡ instance_unlined i
instance_back i h =
    let same_bindings = bindings_back i.bindings (recursion_from_All IsGoodBinding i.bindings h.bindings) in
    λ k. record { unit = i.unit; bindings = same_bindings k; line = 0 }

init_back : (n : ℕ) → init_of ((48 + n) ∷ []) ≡ n
init_back n = omega arith

signal_back : (type : List ℕ) (signal : Option (List ℕ)) → IfSome signal IsGoodSignal → (control_of type (signal_word signal)).signal ≡ signal
signal_back type None h = refl
signal_back type (Some signal) h = by (same signal (codes "NIL")) refl
  where
    by : (t : Bool) → same signal (codes "NIL") ≡ t → (if same signal (codes "NIL") then None else Some signal) ≡ Some signal
    by true e = absurd (h.some (same-true signal (codes "NIL") e))
    by false e = ap (λ t. if t then None else Some signal) e

edge_back : (edge : Edge2) (word : List ℕ) → (control_of (edge_word edge) word).edge ≡ edge
edge_back Rising word = refl
edge_back Falling word = refl

control_back : (c : Control) → IfSome c.signal IsGoodSignal → control_of (edge_word c.edge) (signal_word c.signal) ≡ c
control_back c h =
    let edge = edge_back c.edge (signal_word c.signal) in
    let signal = signal_back (edge_word c.edge) c.signal h in
    λ i. record { edge = edge i; signal = signal i }

latch_by : (input output : List ℕ) (control : Option Control) (init : ℕ) → IfSome control (λ c. IfSome c.signal IsGoodSignal)
    → latch_of 0 (codes ".latch" ∷ input ∷ output ∷ control_words control ++ ((48 + init) ∷ []) ∷ [])
    ≡ Some (record { input = input; output = output; control = control; init = init; line = 0 })
latch_by input output None init h = let value = init_back init in λ i. Some (record { input = input; output = output; control = None; init = value i; line = 0 })
latch_by input output (Some c) init h =
    let value = init_back init in
    let control = control_back c h in
    λ i. Some (record { input = input; output = output; control = Some (control i); init = value i; line = 0 })

-- the latch of a printed card
pub latch_back : (l : Latch) → IsGoodLatch l → latch_of 0 (latch_words l) ≡ Some (latch_unlined l)
latch_back l h = latch_by l.input l.output l.control l.init h.control
