-- The terms of tables: expressions over signals, whose operators join the items of a row and the rows of a table
-- in halves.
use Rattle.std.specs.Prelude.{ℕ, Bool, true, false, not, cond, ◌&&◌, ◌||◌, List, [], ◌∷◌, map}
use Rattle.blif_ast.specs.declared.letter.Letter.{Letter}
use Rattle.blif_ast.specs.declared.letter.Letter.TheVariants.{Zero, One, Any}
use Rattle.sp_network.specs.Balanced.{balanced}
use Rattle.network.specs.NetworkData.{NetTableData}

pub data Term : Type 0 where
  Constant : Bool → Term
  Signal : ℕ → Term
  Not : Term → Term
  And : Term → Term → Term
  Or : Term → Term → Term

-- the items of a row in the order of the inputs: an input under `1`, its Not under `0`, and nothing under `-`
abbrev pub items : List ℕ → List Letter → List Term
items [] row = []
items (signal ∷ inputs) [] = []
items (signal ∷ inputs) (One ∷ row) = Signal signal ∷ items inputs row
items (signal ∷ inputs) (Zero ∷ row) = Not (Signal signal) ∷ items inputs row
items (signal ∷ inputs) (Any ∷ row) = items inputs row

-- a row is the balanced And of its items; an empty one is the constant 1
abbrev pub row_term : List ℕ → List Letter → Term
row_term inputs row = balanced And (Constant true) (items inputs row)

-- the rows are joined by a balanced Or; without rows it is the constant 0
abbrev pub rows_term : NetTableData → Term
rows_term t = balanced Or (Constant false) (map (row_term t.inputs) t.rows)

-- the term of a table: its rows, under Not where they end in 0
abbrev pub table_term : NetTableData → Term
table_term t = cond t.on (rows_term t) (Not (rows_term t))

-- the value of a term where each signal has a value
abbrev pub term_value : (ℕ → Bool) → Term → Bool
term_value value (Constant b) = b
term_value value (Signal signal) = value signal
term_value value (Not t) = not (term_value value t)
term_value value (And l r) = term_value value l && term_value value r
term_value value (Or l r) = term_value value l || term_value value r
