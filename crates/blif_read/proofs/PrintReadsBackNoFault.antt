-- No card of a printed file has a fault.
use Rattle.std.proofs.Common.{◌≡◌, ◌≢◌, ℕ, zero, suc, ◌≤◌, ◌+◌, Bool, true, false, ◌&&◌, not, nat_lt, List, [], ◌∷◌, ◌++◌, length, length-append, map, slice_index_or, refl, ap, ◌∙◌, arith, codes, Some, None, Option}
use Rattle.std.specs.List.{AllByRecursion, list_any, list_all}
use Rattle.std.proofs.lemmas.Bool.Decides.{nat_tests}
use Rattle.std.proofs.lemmas.List.Elements.{recursion_from_All}
use Rattle.dom_base.specs.Lines.{is_control}
use Rattle.dom_base.proofs.Lists.{AllByRecursion-weaker, list_any-none}
use Rattle.blif_ast.specs.declared.latch.Latch.{Latch}
use Rattle.blif_ast.specs.declared.latch.Control.{Control}
use Rattle.blif_ast.specs.declared.latch.Edge2.{Edge2}
use Rattle.blif_ast.specs.declared.latch.Edge2.TheVariants.{Rising, Falling}
use Rattle.blif_ast.specs.declared.instance.Binding.{Binding}
use Rattle.blif_ast.specs.TableData.{TableData}
use Rattle.blif_ast.specs.InstanceData.{InstanceData}
use Rattle.blif_ast.specs.Good.{IsNameByte, IsGoodName, IsGoodTable, IsGoodLatch, IsGoodBinding, IsGoodInstance}
use Rattle.blif_ast.specs.Printed.{names_words, edge_word, control_words, latch_words, instance_words, binding_word}
use Rattle.blif_ast.specs.declared.kind.BlifKind.{BlifKind}
use Rattle.blif_ast.specs.declared.kind.BlifKind.TheVariants.{ControlByte, UnknownCard, BadCard, RowOutsideTable, BadRow, MixedCover, TooWide, NoModel, LatchKind}
use Rattle.blif_ast.specs.LogicalLines.{LogicalLine}
use Rattle.blif_ast.specs.Cards.{is_init, is_type, is_level, is_latch_form, is_binding, model_card, inputs_card, outputs_card, end_card}
use Rattle.blif_ast.specs.Context.{is_model_open}
use Rattle.blif_ast.specs.Faults.{has_blif_fault}
use Rattle.blif_read.proofs.PrintReadsBackWords.{IsNamesLine}
use Rattle.blif_read.proofs.PrintReadsBackLines.{line_at}
use Rattle.blif_read.proofs.PrintReadsBackCards.{names_inputs, binding_back}

name_no_control : (b : ℕ) → IsNameByte b → is_control b ≡ false
name_no_control b h = grind (arith, nat_tests, h.0, h.1)

word_no_control : (word : List ℕ) → IsGoodName word → list_any is_control word ≡ false
word_no_control word h =
    list_any-none is_control word (AllByRecursion-weaker IsNameByte (λ b. is_control b ≡ false) name_no_control word (recursion_from_All IsNameByte word h.bytes))

pub no_control : (words : List (List ℕ)) → IsNamesLine words → list_any (list_any is_control) words ≡ false
no_control [] h = absurd h
no_control (first ∷ others) h =
    list_any-none (list_any is_control) (first ∷ others) (AllByRecursion-weaker IsGoodName (λ word. list_any is_control word ≡ false) word_no_control (first ∷ others) h)

-- a line without faults, where these lines stand before it, the nearest first
abbrev pub IsFree : List LogicalLine → ℕ → List (List ℕ) → Type 0
IsFree before n words = (kind : BlifKind) → has_blif_fault kind before (line_at n words) ≡ false

pub model_free : (before : List LogicalLine) (n : ℕ) (name : List ℕ) → IsNamesLine (model_card ∷ name ∷ []) → IsFree before n (model_card ∷ name ∷ [])
model_free before n name h ControlByte = no_control (model_card ∷ name ∷ []) h
model_free before n name h UnknownCard = refl
model_free before n name h BadCard = refl
model_free before n name h RowOutsideTable = refl
model_free before n name h BadRow = refl
model_free before n name h MixedCover = refl
model_free before n name h TooWide = refl
model_free before n name h NoModel = refl
model_free before n name h LatchKind = refl

pub end_free : (before : List LogicalLine) (n : ℕ) → is_model_open before ≡ true → IsNamesLine (end_card ∷ []) → IsFree before n (end_card ∷ [])
end_free before n o h ControlByte = no_control (end_card ∷ []) h
end_free before n o h UnknownCard = refl
end_free before n o h BadCard = refl
end_free before n o h RowOutsideTable = refl
end_free before n o h BadRow = refl
end_free before n o h MixedCover = refl
end_free before n o h TooWide = refl
end_free before n o h NoModel = ap not o
end_free before n o h LatchKind = refl

pub inputs_free : (before : List LogicalLine) (n : ℕ) (names : List (List ℕ)) → is_model_open before ≡ true → IsNamesLine (inputs_card ∷ names) → IsFree before n (inputs_card ∷ names)
inputs_free before n names o h ControlByte = no_control (inputs_card ∷ names) h
inputs_free before n names o h UnknownCard = refl
inputs_free before n names o h BadCard = refl
inputs_free before n names o h RowOutsideTable = refl
inputs_free before n names o h BadRow = refl
inputs_free before n names o h MixedCover = refl
inputs_free before n names o h TooWide = refl
inputs_free before n names o h NoModel = ap not o
inputs_free before n names o h LatchKind = refl

pub outputs_free : (before : List LogicalLine) (n : ℕ) (names : List (List ℕ)) → is_model_open before ≡ true → IsNamesLine (outputs_card ∷ names) → IsFree before n (outputs_card ∷ names)
outputs_free before n names o h ControlByte = no_control (outputs_card ∷ names) h
outputs_free before n names o h UnknownCard = refl
outputs_free before n names o h BadCard = refl
outputs_free before n names o h RowOutsideTable = refl
outputs_free before n names o h BadRow = refl
outputs_free before n names o h MixedCover = refl
outputs_free before n names o h TooWide = refl
outputs_free before n names o h NoModel = ap not o
outputs_free before n names o h LatchKind = refl

names_long : (inputs : List (List ℕ)) (output : List ℕ) → nat_lt 1 (length (codes ".names" ∷ inputs ++ output ∷ [])) ≡ true
names_long inputs output = let count = length-append inputs (output ∷ []) in grind (arith, nat_tests, count)

not_wide : (inputs : List (List ℕ)) → length inputs ≤ 4096 → nat_lt 4096 (length inputs) ≡ false
not_wide inputs h = grind (arith, nat_tests, h)

pub names_free : (before : List LogicalLine) (n : ℕ) (t : TableData) → is_model_open before ≡ true → IsGoodTable t → IsNamesLine (names_words t) → IsFree before n (names_words t)
names_free before n t o g h ControlByte = no_control (names_words t) h
names_free before n t o g h UnknownCard = refl
names_free before n t o g h BadCard = ap not (names_long t.inputs t.output)
names_free before n t o g h RowOutsideTable = refl
names_free before n t o g h BadRow = refl
names_free before n t o g h MixedCover = refl
names_free before n t o g h TooWide = ap (λ (l : List (List ℕ)). nat_lt 4096 (length l)) (names_inputs (codes ".names") t.inputs t.output) ∙ not_wide t.inputs g.few_inputs
names_free before n t o g h NoModel = ap not o
names_free before n t o g h LatchKind = refl

init_word : (n : ℕ) → n ≤ 3 → is_init ((48 + n) ∷ []) ≡ true
init_word zero h = refl
init_word (suc zero) h = refl
init_word (suc (suc zero)) h = refl
init_word (suc (suc (suc zero))) h = refl
init_word (suc (suc (suc (suc n)))) h = absurd (omega (arith, h))

edge_type : (edge : Edge2) → is_type (edge_word edge) ≡ true
edge_type Rising = refl
edge_type Falling = refl

edge_level : (edge : Edge2) → is_level (edge_word edge) ≡ false
edge_level Rising = refl
edge_level Falling = refl

latch_form : (input output : List ℕ) (control : Option Control) (init : ℕ) → init ≤ 3
    → is_latch_form (codes ".latch" ∷ input ∷ output ∷ control_words control ++ ((48 + init) ∷ []) ∷ []) ≡ true
latch_form input output None init h = init_word init h
latch_form input output (Some c) init h = ap (λ t. t && is_init ((48 + init) ∷ [])) (edge_type c.edge) ∙ init_word init h

latch_level : (input output : List ℕ) (control : Option Control) (init : ℕ) (form : Bool) → form ≡ true
    → (form && nat_lt 4 (length (codes ".latch" ∷ input ∷ output ∷ control_words control ++ ((48 + init) ∷ []) ∷ []))
    && is_level (slice_index_or (codes ".latch" ∷ input ∷ output ∷ control_words control ++ ((48 + init) ∷ []) ∷ []) 3 [])) ≡ false
latch_level input output None init form h = ap (λ t. t && false && is_level ((48 + init) ∷ [])) h
latch_level input output (Some c) init form h = ap (λ t. t && true && is_level (edge_word c.edge)) h ∙ edge_level c.edge

pub latch_free : (before : List LogicalLine) (n : ℕ) (l : Latch) → is_model_open before ≡ true → IsGoodLatch l → IsNamesLine (latch_words l) → IsFree before n (latch_words l)
latch_free before n l o g h ControlByte = no_control (latch_words l) h
latch_free before n l o g h UnknownCard = refl
latch_free before n l o g h BadCard = ap not (latch_form l.input l.output l.control l.init g.init)
latch_free before n l o g h RowOutsideTable = refl
latch_free before n l o g h BadRow = refl
latch_free before n l o g h MixedCover = refl
latch_free before n l o g h TooWide = refl
latch_free before n l o g h NoModel = ap not o
latch_free before n l o g h LatchKind = latch_level l.input l.output l.control l.init (is_latch_form (latch_words l)) (latch_form l.input l.output l.control l.init g.init)

some_bytes : (word : List ℕ) → word ≢ [] → nat_lt 0 (length word) ≡ true
some_bytes [] n = absurd (n refl)
some_bytes (b ∷ bs) n = grind (arith, nat_tests)

binding_form : (b : Binding) → IsGoodBinding b → is_binding (binding_word b) ≡ true
binding_form b h =
    ap (λ (x : Binding). nat_lt 0 (length x.formal) && nat_lt 0 (length x.actual)) (binding_back b h)
    ∙ ap (λ t. t && nat_lt 0 (length b.actual)) (some_bytes b.formal h.formal.some)
    ∙ some_bytes b.actual h.actual.some

bindings_form : (bindings : List Binding) → AllByRecursion IsGoodBinding bindings → list_all is_binding (map binding_word bindings) ≡ true
bindings_form [] h = refl
bindings_form (b ∷ bindings) h = ap (λ t. t && list_all is_binding (map binding_word bindings)) (binding_form b h.0) ∙ bindings_form bindings h.1

pub instance_free : (before : List LogicalLine) (n : ℕ) (i : InstanceData) → is_model_open before ≡ true → IsGoodInstance i → IsNamesLine (instance_words i) → IsFree before n (instance_words i)
instance_free before n i o g h ControlByte = no_control (instance_words i) h
instance_free before n i o g h UnknownCard = refl
instance_free before n i o g h BadCard = ap not (bindings_form i.bindings (recursion_from_All IsGoodBinding i.bindings g.bindings))
instance_free before n i o g h RowOutsideTable = refl
instance_free before n i o g h BadRow = refl
instance_free before n i o g h MixedCover = refl
instance_free before n i o g h TooWide = refl
instance_free before n i o g h NoModel = ap not o
instance_free before n i o g h LatchKind = refl
