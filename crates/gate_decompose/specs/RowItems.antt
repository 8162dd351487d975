-- The items of a row by the signals that it reads, and what signals are called.
use Rattle.std.specs.Prelude.{ℕ, ◌<◌, ◌≡◌, Bool, true, false, List, [], ◌∷◌, get_or, length}
use Rattle.blif_ast.specs.declared.letter.Letter.{Letter}
use Rattle.blif_ast.specs.declared.letter.Letter.TheVariants.{Zero, One, Any}
use Rattle.gate_decompose.specs.declared.expression.Item.{Item}
use Rattle.gate_decompose.specs.declared.gates.Ref.{Ref}
use Rattle.gate_decompose.specs.declared.gates.Ref.TheVariants.{Const}
use Rattle.gate_decompose.specs.GateNodes.{NodeName, Operand, Turn, above_nodes, folded, ref_of, row_nodes, table_nodes}
use Rattle.gate_decompose.specs.TermNodes.{TermNodes}
use Rattle.gate_decompose.specs.Terms.{Term, table_term}
use Rattle.network.specs.NetworkData.{NetTableData}

-- what a letter takes of an input: the signal under `1`, its Not under `0`, and nothing under `-`
abbrev pub letter_signals : ℕ → Letter → List (ℕ × Bool)
letter_signals signal One = (signal, true) ∷ []
letter_signals signal Zero = (signal, false) ∷ []
letter_signals signal Any = []

-- the signals that a row takes, in the order of the inputs, with false where it takes the Not
abbrev pub row_signals : List ℕ → List Letter → List (ℕ × Bool)
row_signals [] row = []
row_signals (signal ∷ inputs) [] = []
row_signals (signal ∷ inputs) (One ∷ row) = (signal, true) ∷ row_signals inputs row
row_signals (signal ∷ inputs) (Zero ∷ row) = (signal, false) ∷ row_signals inputs row
row_signals (signal ∷ inputs) (Any ∷ row) = row_signals inputs row

-- what a signal is called in a list of references
abbrev pub ref_at : List Ref → ℕ → Ref
ref_at refs signal = get_or refs signal (Const false)

abbrev pub signal_item : List Ref → ℕ × Bool → Item
signal_item refs (signal, plus) = record { part = ref_at refs signal; plus = plus }

-- each signal is called what it comes to
abbrev pub AreRefs : List NodeName → (ℕ → Operand) → List Ref → Type 0
AreRefs names of refs = (signal : ℕ) → signal < length refs → ref_at refs signal ≡ ref_of names (of signal)

-- what the parts of a table's term make: a row, the Or above rows, the whole table
module _ (of : ℕ → Operand) (table : ℕ) where
  abbrev pub row_made : Term → List Turn → TermNodes
  row_made t way = record { nodes = row_nodes of table way t; comes_to = folded of table way t }

  abbrev pub above_made : Term → List Turn → TermNodes
  above_made t way = record { nodes = above_nodes of table way t; comes_to = folded of table way t }

  abbrev pub table_made : NetTableData → TermNodes
  table_made t = record { nodes = table_nodes of table t; comes_to = folded of table [] (table_term t) }
