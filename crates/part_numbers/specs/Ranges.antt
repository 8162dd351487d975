-- Numbers in a row.
use Rattle.std.specs.Prelude.{ℕ, zero, suc, List, [], ◌∷◌, ◌+◌}

-- so many numbers from one on
abbrev pub row : ℕ → ℕ → List ℕ
row a zero = []
row a (suc m) = a ∷ row (a + 1) m
