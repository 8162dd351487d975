-- Kinds of refusals by their orders.
use Rattle.std.proofs.Common.{◌≡◌, List, [], ◌∷◌, refl, arith, inl, inr}
use Rattle.dom_base.specs.FaultKinds.{IsAmong, RisesAbove}
use Rattle.dom_base.proofs.Faults.{number_of-injective}
use Rattle.model_calls.specs.declared.fault.FlatKind.{FlatKind}
use Rattle.model_calls.specs.declared.fault.FlatKind.TheVariants.{DuplicateModel, DuplicatePort, UnknownModel, BadFormal, Recursion, DrivenTwice, Undriven, Cycle, TwoControls, ControlUsed}
use Rattle.model_calls.specs.Refusal.{flat_kind_order}

abbrev kinds : List FlatKind
kinds = DuplicateModel ∷ DuplicatePort ∷ UnknownModel ∷ BadFormal ∷ Recursion ∷ DrivenTwice ∷ Undriven ∷ Cycle ∷ TwoControls ∷ ControlUsed ∷ []

is_kind : (kind : FlatKind) → IsAmong kind kinds
is_kind DuplicateModel = inl refl
is_kind DuplicatePort = inr (inl refl)
is_kind UnknownModel = inr (inr (inl refl))
is_kind BadFormal = inr (inr (inr (inl refl)))
is_kind Recursion = inr (inr (inr (inr (inl refl))))
is_kind DrivenTwice = inr (inr (inr (inr (inr (inl refl)))))
is_kind Undriven = inr (inr (inr (inr (inr (inr (inl refl))))))
is_kind Cycle = inr (inr (inr (inr (inr (inr (inr (inl refl)))))))
is_kind TwoControls = inr (inr (inr (inr (inr (inr (inr (inr (inl refl))))))))
is_kind ControlUsed = inr (inr (inr (inr (inr (inr (inr (inr (inr (inl refl)))))))))

kinds_rise : RisesAbove flat_kind_order 0 kinds
kinds_rise = (omega arith, (omega arith, (omega arith, (omega arith, (omega arith, (omega arith, (omega arith, (omega arith, (omega arith, (omega arith, tt))))))))))

-- kinds of one order are the same
pub order_of_kind-injective : (a b : FlatKind) → flat_kind_order a ≡ flat_kind_order b → a ≡ b
order_of_kind-injective a b e = number_of-injective flat_kind_order 0 kinds a b kinds_rise (is_kind a) (is_kind b) e

-- and none has the order of a limit
pub order_of_kind-six : (a : FlatKind) → flat_kind_order a ≡ 6 → ⊥
order_of_kind-six DuplicateModel e = omega (arith, e)
order_of_kind-six DuplicatePort e = omega (arith, e)
order_of_kind-six UnknownModel e = omega (arith, e)
order_of_kind-six BadFormal e = omega (arith, e)
order_of_kind-six Recursion e = omega (arith, e)
order_of_kind-six DrivenTwice e = omega (arith, e)
order_of_kind-six Undriven e = omega (arith, e)
order_of_kind-six Cycle e = omega (arith, e)
order_of_kind-six TwoControls e = omega (arith, e)
order_of_kind-six ControlUsed e = omega (arith, e)
