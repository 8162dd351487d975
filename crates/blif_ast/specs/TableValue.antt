-- The value of a table of BLIF, the Berkeley Logic Interchange Format.
use Rattle.std.specs.Prelude.{ℕ, ◌≡◌, Bool, true, false, List, Some, slice_get, Any as AnyOf}
use Rattle.blif_ast.specs.declared.letter.Letter.{Letter}
use Rattle.blif_ast.specs.declared.letter.Letter.TheVariants.{Zero, One}

-- a row matches where each letter `1` stands at an input that is 1 and each letter `0` at one that is 0
pub record Matches (row : List Letter) (inputs : List Bool) : Type 0 where
  pub ones : (k : ℕ) → slice_get row k ≡ Some One → slice_get inputs k ≡ Some true
  pub zeros : (k : ℕ) → slice_get row k ≡ Some Zero → slice_get inputs k ≡ Some false

-- the table has the value 1 at these inputs: some row matches if its rows end in 1, and none if they end in 0
abbrev pub IsOneAt : Bool → List (List Letter) → List Bool → Type 0
IsOneAt true rows inputs = AnyOf (λ row. Matches row inputs) rows
IsOneAt false rows inputs = AnyOf (λ row. Matches row inputs) rows → ⊥
