-- A table of BLIF, the Berkeley Logic Interchange Format, as plain data over lists.
use Rattle.std.specs.Prelude.{ℕ, Bool, List}
use Rattle.blif_ast.specs.declared.letter.Letter.{Letter}

-- a table as plain data over lists: the names of its inputs and of its output, whether its rows end in 1,
-- the rows, and the line of its card
pub record TableData : Type 0 where
  pub inputs : List (List ℕ)
  pub output : List ℕ
  pub on : Bool
  pub rows : List (List Letter)
  pub line : ℕ
