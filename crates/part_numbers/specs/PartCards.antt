-- What stands on the card of a table or of a latch.
use Rattle.std.specs.Prelude.{ℕ, Bool, false, List, [], ◌∷◌, Option, None, option_and_then, option_map}
use Rattle.blif_ast.specs.BlifFileData.{BlifFileData}
use Rattle.blif_ast.specs.declared.latch.Control.{Control}
use Rattle.blif_ast.specs.declared.latch.Edge2.{Edge2}
use Rattle.blif_ast.specs.declared.letter.Letter.{Letter}
use Rattle.model_calls.specs.Expanded.{BodyCard, InstanceCard, LatchCard, TableCard}
use Rattle.part_numbers.specs.NumberedFiles.{NumberedPartData, card_at, model_at}

-- the names that a card reads
abbrev pub card_inputs : BodyCard → List (List ℕ)
card_inputs (TableCard t) = t.inputs
card_inputs (LatchCard l) = l.input ∷ []
card_inputs (InstanceCard i) = []

-- the name that it drives
abbrev pub card_output : BodyCard → List ℕ
card_output (TableCard t) = t.output
card_output (LatchCard l) = l.output
card_output (InstanceCard i) = []

-- the edge at which a latch is clocked, if it has a type
abbrev pub card_edge : BodyCard → Option Edge2
card_edge (TableCard t) = None
card_edge (LatchCard l) = option_map (λ (c : Control). c.edge) l.control
card_edge (InstanceCard i) = None

-- the name of the signal that controls a latch, if it has one
abbrev pub card_control : BodyCard → Option (List ℕ)
card_control (TableCard t) = None
card_control (LatchCard l) = option_and_then (λ (c : Control). c.signal) l.control
card_control (InstanceCard i) = None

-- whether the rows of a table end in 1, and its rows
abbrev pub card_on : BodyCard → Bool
card_on (TableCard t) = t.on
card_on (LatchCard l) = false
card_on (InstanceCard i) = false

abbrev pub card_rows : BodyCard → List (List Letter)
card_rows (TableCard t) = t.rows
card_rows (LatchCard l) = []
card_rows (InstanceCard i) = []

-- the start value of a latch
abbrev pub card_init : BodyCard → ℕ
card_init (TableCard t) = 0
card_init (LatchCard l) = l.init
card_init (InstanceCard i) = 0

-- the edge of a part by numbers
abbrev pub edge_of : BlifFileData → NumberedPartData → Option Edge2
edge_of f p = option_and_then card_edge (card_at (model_at f p.model) p.card)
