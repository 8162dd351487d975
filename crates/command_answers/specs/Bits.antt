-- Values of bits.
use Rattle.std.specs.Prelude.{Bool, true, false}
use Rattle.dom_base.specs.declared.tri.Tri.{Tri}
use Rattle.dom_base.specs.declared.tri.Tri.TheVariants.{Zero, One}

-- the value of a bit
abbrev pub tri_of : Bool → Tri
tri_of true = One
tri_of false = Zero
