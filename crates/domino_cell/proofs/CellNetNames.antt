-- Names of nets that differ.
use Rattle.std.proofs.Common.{◌≡◌, ℕ, true, false, List, ◌∷◌, ap, nat_eq}
use Rattle.std.specs.Prelude.{◌≢◌, codes}
use Rattle.std.specs.Cmp.Lexicographic.{pointwise}

-- names differ where their first bytes do
pub first_apart : (x y : ℕ) (xs ys : List ℕ) → x ≢ y → x ∷ xs ≢ y ∷ ys
first_apart x y xs ys apart e = let same : x ≡ y = cc in apart same

pub supplies_apart : codes "vdd" ≢ codes "vss"
supplies_apart e = let never : true ≡ false = ap (pointwise nat_eq (codes "vdd")) e in absurd (cc)
