-- Known values of switches, and tests of values that trees of switches keep.
use Rattle.std.specs.Prelude.{◌≡◌, ◌⊎◌, Bool, true, false, cond}
use Rattle.dom_base.specs.declared.tri.Tri.{Tri}
use Rattle.dom_base.specs.declared.tri.Tri.TheVariants.{Zero, One, Unknown}
use Rattle.sp_network.specs.Tree.{both, either}

-- the value is not Unknown
abbrev pub IsKnown : Tri → Type 0
IsKnown v = (v ≡ Zero) ⊎ (v ≡ One)

-- whether the value is One
abbrev pub is_one : Tri → Bool
is_one Zero = false
is_one One = true
is_one Unknown = false

-- whether the value is One or Unknown
abbrev pub is_not_zero : Tri → Bool
is_not_zero Zero = false
is_not_zero One = true
is_not_zero Unknown = true

-- a test that takes two parts in series to `and`, and two in parallel to `or`
pub record IsTest (test : Tri → Bool) : Type 0 where
  pub on_both : (a b : Tri) → test (both a b) ≡ cond (test a) (test b) false
  pub on_either : (a b : Tri) → test (either a b) ≡ cond (test a) true (test b)
