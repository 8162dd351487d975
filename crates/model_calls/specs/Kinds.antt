-- The numbers and the words of refusals of a hierarchy of BLIF, the Berkeley Logic Interchange Format, as they are printed.
use Rattle.std.specs.Prelude.{ℕ, List, codes}
use Rattle.model_calls.specs.declared.fault.FlatKind.{FlatKind}
use Rattle.model_calls.specs.declared.fault.FlatKind.TheVariants.{DuplicateModel, DuplicatePort, UnknownModel, BadFormal, Recursion, DrivenTwice, Undriven, Cycle, TwoControls, ControlUsed}
use Rattle.model_calls.specs.declared.fault.Limit.{Limit}
use Rattle.model_calls.specs.declared.fault.Limit.TheVariants.{Signals, Instances, Letters, Sinks}

-- the number of a kind: those of a line of text have smaller ones
abbrev pub flat_kind_number : FlatKind → ℕ
flat_kind_number DuplicateModel = 10
flat_kind_number DuplicatePort = 11
flat_kind_number UnknownModel = 12
flat_kind_number BadFormal = 13
flat_kind_number Recursion = 14
flat_kind_number DrivenTwice = 15
flat_kind_number Undriven = 16
flat_kind_number Cycle = 17
flat_kind_number TwoControls = 18
flat_kind_number ControlUsed = 19

-- the word of a kind
abbrev pub flat_kind_word : FlatKind → List ℕ
flat_kind_word DuplicateModel = codes "DuplicateModel"
flat_kind_word DuplicatePort = codes "DuplicatePort"
flat_kind_word UnknownModel = codes "UnknownModel"
flat_kind_word BadFormal = codes "BadFormal"
flat_kind_word Recursion = codes "Recursion"
flat_kind_word DrivenTwice = codes "DrivenTwice"
flat_kind_word Undriven = codes "Undriven"
flat_kind_word Cycle = codes "Cycle"
flat_kind_word TwoControls = codes "TwoControls"
flat_kind_word ControlUsed = codes "ControlUsed"

-- the number of a refusal for too many of something, whatever it is
abbrev pub too_many_number : ℕ
too_many_number = 20

-- the word of what there is too many of
abbrev pub limit_word : Limit → List ℕ
limit_word Signals = codes "signals"
limit_word Instances = codes "instances"
limit_word Letters = codes "letters"
limit_word Sinks = codes "sinks"
