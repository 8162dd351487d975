-- Which devices lead to a supply: `nch` to ground, on at 1, and `pch` to the positive supply, on at 0 (Rabaey, Digital Integrated
-- Circuits: static complementary CMOS).
use Rattle.std.specs.Prelude.{◌≡◌, ◌⊎◌}
use Rattle.dom_base.specs.declared.kind.Kind.{Kind}
use Rattle.dom_base.specs.declared.kind.Kind.TheVariants.{N as nch, P as pch}
use Rattle.dom_base.specs.declared.tri.Tri.{Tri}
use Rattle.dom_base.specs.declared.tri.Tri.TheVariants.{Zero, One}

-- a device of this kind is a switch that is on at this value of its gate, and strong
abbrev pub IsSwitch : Kind → Tri → Type 0
IsSwitch kind on = ((kind ≡ nch) × (on ≡ One)) ⊎ ((kind ≡ pch) × (on ≡ Zero))
