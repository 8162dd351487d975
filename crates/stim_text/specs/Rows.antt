-- Lists of one length that stand one behind the other.
use Rattle.std.specs.Prelude.{ℕ, zero, suc, List, [], ◌∷◌, drop, take}

-- so many lists of so many items each
abbrev pub rows : {X : Type 0} → ℕ → ℕ → List X → List (List X)
rows width zero items = []
rows width (suc count) items = take width items ∷ rows width count (drop width items)
