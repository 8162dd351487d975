-- Kinds of faults by their numbers.
use Rattle.std.proofs.Common.{◌≡◌, Bool, refl, arith, inl, inr}
use Rattle.std.specs.List.{find}
use Rattle.dom_base.specs.FaultKinds.{IsAmong, IsSmallest, RisesAbove}
use Rattle.dom_base.proofs.Faults.{number_of-injective, smallest_found}
use Rattle.blif_ast.specs.declared.kind.BlifKind.{BlifKind}
use Rattle.blif_ast.specs.declared.kind.BlifKind.TheVariants.{ControlByte, UnknownCard, BadCard, RowOutsideTable, BadRow, MixedCover, TooWide, NoModel, LatchKind}
use Rattle.blif_ast.specs.Faults.{blif_kind_number}
use Rattle.blif_numbers.specs.Steps.{kinds}

is_kind : (kind : BlifKind) → IsAmong kind kinds
is_kind ControlByte = inl refl
is_kind UnknownCard = inr (inl refl)
is_kind BadCard = inr (inr (inl refl))
is_kind RowOutsideTable = inr (inr (inr (inl refl)))
is_kind BadRow = inr (inr (inr (inr (inl refl))))
is_kind MixedCover = inr (inr (inr (inr (inr (inl refl)))))
is_kind TooWide = inr (inr (inr (inr (inr (inr (inl refl))))))
is_kind NoModel = inr (inr (inr (inr (inr (inr (inr (inl refl)))))))
is_kind LatchKind = inr (inr (inr (inr (inr (inr (inr (inr (inl refl))))))))

kinds_rise : RisesAbove blif_kind_number 0 kinds
kinds_rise = (omega arith, (omega arith, (omega arith, (omega arith, (omega arith, (omega arith, (omega arith, (omega arith, (omega arith, tt)))))))))

-- the smallest kind that passes a test, if one does
pub smallest_kind : (test : BlifKind → Bool) → IsSmallest blif_kind_number test (find test kinds)
smallest_kind test = smallest_found blif_kind_number 0 kinds kinds_rise is_kind test

-- kinds of one number are the same
pub blif_kind_number-injective : (a b : BlifKind) → blif_kind_number a ≡ blif_kind_number b → a ≡ b
blif_kind_number-injective a b e = number_of-injective blif_kind_number 0 kinds a b kinds_rise (is_kind a) (is_kind b) e
