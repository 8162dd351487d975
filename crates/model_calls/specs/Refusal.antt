-- Refusals of a file of BLIF, the Berkeley Logic Interchange Format, and the order in which they are looked for.
use Rattle.std.specs.Prelude.{ℕ, List}
use Rattle.model_calls.specs.declared.fault.FlatKind.{FlatKind}
use Rattle.model_calls.specs.declared.fault.FlatKind.TheVariants.{DuplicateModel, DuplicatePort, UnknownModel, BadFormal, Recursion, DrivenTwice, Undriven, Cycle, TwoControls, ControlUsed}
use Rattle.model_calls.specs.declared.fault.Limit.{Limit}

-- what a file is refused for: a kind with the line and the name that are reported, or a limit with the count
pub data Refusal : Type 0 where
  At : FlatKind → ℕ → List ℕ → Refusal
  TooMany : Limit → ℕ → Refusal

-- the order in which the kinds are looked for; too many stands between `Recursion` and `DrivenTwice`
abbrev pub flat_kind_order : FlatKind → ℕ
flat_kind_order DuplicateModel = 1
flat_kind_order DuplicatePort = 2
flat_kind_order UnknownModel = 3
flat_kind_order BadFormal = 4
flat_kind_order Recursion = 5
flat_kind_order DrivenTwice = 7
flat_kind_order Undriven = 8
flat_kind_order Cycle = 9
flat_kind_order TwoControls = 10
flat_kind_order ControlUsed = 11

abbrev pub refusal_order : Refusal → ℕ
refusal_order (At kind line name) = flat_kind_order kind
refusal_order (TooMany limit count) = 6
