-- The text of a file of BLIF, the Berkeley Logic Interchange Format.
use Rattle.std.specs.Prelude.{ℕ, ◌+◌, Bool, true, false, if◌then◌else◌, List, [], ◌∷◌, ◌++◌, map, codes, Option, Some, None}
use Rattle.std.specs.List.{flat_map, join_with_byte}
use Rattle.blif_ast.specs.declared.instance.Binding.{Binding}
use Rattle.blif_ast.specs.declared.latch.Control.{Control}
use Rattle.blif_ast.specs.declared.latch.Edge2.{Edge2}
use Rattle.blif_ast.specs.declared.latch.Edge2.TheVariants.{Rising, Falling}
use Rattle.blif_ast.specs.declared.latch.Latch.{Latch}
use Rattle.blif_ast.specs.declared.letter.Letter.{Letter}
use Rattle.blif_ast.specs.declared.letter.Letter.TheVariants.{Zero, One, Any}
use Rattle.blif_ast.specs.BlifFileData.{BlifFileData}
use Rattle.blif_ast.specs.BlifModelData.{BlifModelData}
use Rattle.blif_ast.specs.Cards.{last_word}
use Rattle.blif_ast.specs.InstanceData.{InstanceData}
use Rattle.blif_ast.specs.LogicalLines.{is_joined}
use Rattle.blif_ast.specs.TableData.{TableData}

-- what stands behind the last word of a line: one blank if it ends with `\`, since a line that ends with `\` is joined with the next
abbrev pub guard : List ℕ → List ℕ
guard word = if is_joined word then 32 ∷ [] else []

-- a line of words: one blank between any two of them, and LF
abbrev pub printed_line : List (List ℕ) → List ℕ
printed_line words = join_with_byte 32 words ++ guard (last_word words) ++ 10 ∷ []

-- the byte of a letter
abbrev pub letter_byte : Letter → ℕ
letter_byte Zero = 48
letter_byte One = 49
letter_byte Any = 45

-- the letters of a row as one word, if there are any
abbrev pub letters_words : List Letter → List (List ℕ)
letters_words [] = []
letters_words (letter ∷ letters) = map letter_byte (letter ∷ letters) ∷ []

-- the word in which the rows of a table end: 1 or 0
abbrev pub value_word : Bool → List ℕ
value_word true = codes "1"
value_word false = codes "0"

-- the words of a row
abbrev pub row_words : Bool → List Letter → List (List ℕ)
row_words on row = letters_words row ++ value_word on ∷ []

-- the words of a table's card
abbrev pub names_words : TableData → List (List ℕ)
names_words t = codes ".names" ∷ t.inputs ++ t.output ∷ []

-- the lines of a table, each as its words
abbrev pub table_lines : TableData → List (List (List ℕ))
table_lines t = names_words t ∷ map (row_words t.on) t.rows

-- the word for an edge
abbrev pub edge_word : Edge2 → List ℕ
edge_word Rising = codes "re"
edge_word Falling = codes "fe"

-- the word for the signal that controls a latch
abbrev pub signal_word : Option (List ℕ) → List ℕ
signal_word None = codes "NIL"
signal_word (Some signal) = signal

-- the words for what a latch is clocked by
abbrev pub control_words : Option Control → List (List ℕ)
control_words None = []
control_words (Some control) = edge_word control.edge ∷ signal_word control.signal ∷ []

-- the words of a latch's card: the start value is one digit
abbrev pub latch_words : Latch → List (List ℕ)
latch_words l = codes ".latch" ∷ l.input ∷ l.output ∷ control_words l.control ++ ((48 + l.init) ∷ []) ∷ []

-- the word of a binding
abbrev pub binding_word : Binding → List ℕ
binding_word b = b.formal ++ 61 ∷ b.actual

-- the words of an instance's card
abbrev pub instance_words : InstanceData → List (List ℕ)
instance_words i = codes ".subckt" ∷ i.unit ∷ map binding_word i.bindings

-- a card for ports, if there are any
abbrev pub ports_card : List ℕ → List (List ℕ) → List (List (List ℕ))
ports_card card [] = []
ports_card card (name ∷ names) = (card ∷ name ∷ names) ∷ []

-- the lines of a model, each as its words
abbrev pub model_lines : BlifModelData → List (List (List ℕ))
model_lines m =
    (codes ".model" ∷ m.name ∷ []) ∷ ports_card (codes ".inputs") m.inputs
    ++ ports_card (codes ".outputs") m.outputs
    ++ flat_map table_lines m.tables
    ++ map latch_words m.latches
    ++ map instance_words m.instances
    ++ (codes ".end" ∷ []) ∷ []

-- the lines of a file, each as its words: those of its models in order
abbrev pub file_lines : BlifFileData → List (List (List ℕ))
file_lines f = flat_map model_lines f.models

-- the text of a file
abbrev pub printed : BlifFileData → List ℕ
printed f = flat_map printed_line (file_lines f)
