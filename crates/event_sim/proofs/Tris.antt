-- Values that differ.
use Rattle.std.proofs.Common.{◌≡◌, true, false, not, refl, sym, ap, ◌∙◌}
use denote.Enum.Bare.{sameb}
use Rattle.dom_base.specs.contracts.tri.Tri.{the_type}
use Rattle.dom_base.specs.declared.tri.Tri.{Tri}
use Rattle.dom_base.specs.declared.tri.Tri.TheVariants.{Zero, One, Unknown}

-- what `!=` answers of two values
pub differ : (a b : Tri) → not (sameb the_type a b) ≡ true → b ≡ a → ⊥
differ Zero b t e = let never : false ≡ true = ap (λ (c : Tri). not (sameb the_type Zero c)) (sym e) ∙ t in cc
differ One b t e = let never : false ≡ true = ap (λ (c : Tri). not (sameb the_type One c)) (sym e) ∙ t in cc
differ Unknown b t e = let never : false ≡ true = ap (λ (c : Tri). not (sameb the_type Unknown c)) (sym e) ∙ t in cc

pub told : (a b : Tri) → (b ≡ a → ⊥) → not (sameb the_type a b) ≡ true
told Zero Zero d = absurd (d refl)
told Zero One d = refl
told Zero Unknown d = refl
told One Zero d = refl
told One One d = absurd (d refl)
told One Unknown d = refl
told Unknown Zero d = refl
told Unknown One d = refl
told Unknown Unknown d = absurd (d refl)
