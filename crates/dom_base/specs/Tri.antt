-- Ternary values of nets, as switch-level simulation has them (Bryant).
use Rattle.std.specs.Prelude.{ℕ}
use Rattle.dom_base.specs.declared.tri.Tri.{Tri}
use Rattle.dom_base.specs.declared.tri.Tri.TheVariants.{Zero, One, Unknown}

-- the other of the two known values; an unknown value stays unknown
abbrev pub opposite : Tri → Tri
opposite Zero = One
opposite One = Zero
opposite Unknown = Unknown

-- the letter that stands for a value in text, as its code
abbrev pub letter_of : Tri → ℕ
letter_of Zero = 48
letter_of One = 49
letter_of Unknown = 88
