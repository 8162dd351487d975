-- Rows of a table that match, letter by letter.
use Rattle.std.proofs.Common.{◌≡◌, ℕ, zero, suc, Bool, true, false, List, ◌∷◌, Some, slice_get, ap}
use Rattle.std.proofs.lemmas.Option.{same_Some}
use Rattle.blif_ast.specs.declared.letter.Letter.{Letter}
use Rattle.blif_ast.specs.declared.letter.Letter.TheVariants.{Zero, One}
use Rattle.blif_ast.specs.TableValue.{Matches}

ones-cons : (l : Letter) (row : List Letter) (b : Bool) (bits : List Bool) → (l ≡ One → b ≡ true) → Matches row bits
    → (k : ℕ) → slice_get (l ∷ row) k ≡ Some One → slice_get (b ∷ bits) k ≡ Some true
ones-cons l row b bits one rest zero at = ap (λ x. Some x) (one (same_Some l One at))
ones-cons l row b bits one rest (suc k) at = rest.ones k at

zeros-cons : (l : Letter) (row : List Letter) (b : Bool) (bits : List Bool) → (l ≡ Zero → b ≡ false) → Matches row bits
    → (k : ℕ) → slice_get (l ∷ row) k ≡ Some Zero → slice_get (b ∷ bits) k ≡ Some false
zeros-cons l row b bits nought rest zero at = ap (λ x. Some x) (nought (same_Some l Zero at))
zeros-cons l row b bits nought rest (suc k) at = rest.zeros k at

-- a row with one more letter in front
pub Matches-cons : (l : Letter) (row : List Letter) (b : Bool) (bits : List Bool) → (l ≡ One → b ≡ true) → (l ≡ Zero → b ≡ false) → Matches row bits → Matches (l ∷ row) (b ∷ bits)
Matches-cons l row b bits one nought rest = record { ones = ones-cons l row b bits one rest; zeros = zeros-cons l row b bits nought rest }

-- a row behind its first letter
pub Matches-tail : (l : Letter) (row : List Letter) (b : Bool) (bits : List Bool) → Matches (l ∷ row) (b ∷ bits) → Matches row bits
Matches-tail l row b bits is = record { ones = λ k. is.ones (suc k); zeros = λ k. is.zeros (suc k) }
