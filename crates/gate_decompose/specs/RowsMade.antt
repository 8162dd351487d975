-- What the rows of a table make, each at its way down the table's term.
use Rattle.std.specs.Prelude.{ℕ, ◌≡◌, Bool, true, List, ◌++◌, length, map}
use Rattle.std.specs.List.{flat_map}
use Rattle.blif_ast.specs.declared.letter.Letter.{Letter}
use Rattle.gate_decompose.specs.declared.expression.Item.{Item}
use Rattle.gate_decompose.specs.declared.gates.Node.{Node}
use Rattle.gate_decompose.specs.GateNodes.{NamedNode, NodeName, Operand, Turn, folded, node_of, row_nodes}
use Rattle.gate_decompose.specs.TermNodes.{AreNumbered, item_of, placed}
use Rattle.gate_decompose.specs.Terms.{row_term}
use Rattle.network.specs.NetworkData.{NetTableData}

module _ (of : ℕ → Operand) (number : ℕ) (inputs : List ℕ) where
  -- the nodes of some rows, and what each comes to
  abbrev pub nodes_of_rows : List (List Turn × List Letter) → List NamedNode
  nodes_of_rows rows = flat_map (λ p. row_nodes of number p.0 (row_term inputs p.1)) rows

  abbrev pub rows_come_to : List (List Turn × List Letter) → List (Operand × Bool)
  rows_come_to rows = map (λ p. (folded of number p.0 (row_term inputs p.1), true)) rows

-- nodes were appended for some rows, and the items are what these come to
pub record AreRowsMade (names : List NodeName) (of : ℕ → Operand) (number : ℕ) (inputs : List ℕ) (rows : List (List Turn × List Letter))
    (old new : List Node) (made : List Item) : Type 0 where
  pub nodes : new ≡ old ++ map (λ (n : NamedNode). node_of names n.joint) (nodes_of_rows of number inputs rows)
  pub items : made ≡ map (item_of names) (rows_come_to of number inputs rows)

abbrev pub MakesRows : List NodeName → (ℕ → Operand) → ℕ → List Turn → NetTableData → List Node → List Node → List Item → Type 0
MakesRows names of number way t old new made =
    AreNumbered names (length old) (nodes_of_rows of number t.inputs (placed t.rows way))
    → AreRowsMade names of number t.inputs (placed t.rows way) old new made
