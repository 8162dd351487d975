-- Whether a pair is free: the test tells.
use Rattle.std.proofs.Common.{◌≡◌, refl, ℕ, Bool, true, false, ◌==◌, eqb-true, eq-eqb}
use Rattle.dom_base.proofs.Bools.{and_both}
use Rattle.dual_rail.specs.ForestData.{ForestData}
use Rattle.dual_rail.specs.Forests.{arm_uses, end_uses}
use Rattle.compound_plan.specs.PlanTrees.{IsFree, is_free}

pub is_free-true : (forest : ForestData) (place : ℕ) → is_free forest place ≡ true → IsFree forest place
unfolding is_free
is_free-true forest place e =
    let p = and_both (arm_uses forest place == 1) (end_uses forest place == 0) e in (eqb-true (arm_uses forest place) 1 p.0, eqb-true (end_uses forest place) 0 p.1)

pub is_free-of : (forest : ForestData) (place : ℕ) → IsFree forest place → is_free forest place ≡ true
unfolding is_free
is_free-of forest place e = rw (eq-eqb (arm_uses forest place) 1 e.0, eq-eqb (end_uses forest place) 0 e.1) refl

pub is_free-not : (forest : ForestData) (place : ℕ) → (IsFree forest place → ⊥) → is_free forest place ≡ false
is_free-not forest place never = by (is_free forest place) refl
  where
    by : (b : Bool) → is_free forest place ≡ b → b ≡ false
    by true e = absurd (never (is_free-true forest place e))
    by false e = refl
