use Rattle.std.proofs.Common.{◌<◌, length, ap, sym, subst}
use Rattle.std.specs.Prelude.{All}
use Rattle.std.proofs.lemmas.Option.{slice_get_within}
use Rattle.model_calls.specs.declared.fault.FlatKind.TheVariants.{DrivenTwice}
use Rattle.part_numbers.specs.CheckOutcomes.{IsAtOutput}
use Rattle.net_flatten.specs.DriverSearches.{AreDrivers, IsSetOfDrivers}
use Rattle.model_calls.specs.FirstFaults.{NoneHolds}
use Rattle.net_flatten.specs.FoundFirst.{IsFirstAt}
use Rattle.part_numbers.specs.NumberedFaults.{IsDrivenAgain, IsPartWithin}
use Rattle.part_numbers.specs.NumberedFiles.{NumberedFileData}
use Rattle.model_calls.specs.Refusals.{IsOfKind}
use Rattle.part_numbers.proofs.CardFaults.{IsFaultOf-weaker}
use Rattle.net_flatten.proofs.DriverFaults.{first_twice, none_twice}
use Rattle.part_numbers.proofs.NumberedEnds.{inputs_within, parts_within}
use Rattle.net_flatten.proofs.driver_checks.check_drivers.Goals as goal

pub find_drivers-requires-clause-inputs : goal.find_drivers-requires-clause-inputs
find_drivers-requires-clause-inputs c =
    let count = ap (λ (n : NumberedFileData). n.signals) c.numbered.view_is in
    subst (λ m. All (λ x. x < m) c.inputs.result.now) (sym count)
    (subst (All (λ x. x < c.args.numbered.now.signals)) (sym c.inputs.ensures) (inputs_within c.args.file.now c.requires.numbers.0 c.args.numbered.now c.requires.numbers.1))

pub find_drivers-requires-clause-parts : goal.find_drivers-requires-clause-parts
find_drivers-requires-clause-parts c =
    let count = ap (λ (n : NumberedFileData). n.signals) c.numbered.view_is in
    subst (λ m. All (IsPartWithin m) c.parts.result.now) (sym count)
    (subst (All (IsPartWithin c.args.numbered.now.signals)) (sym c.parts.ensures) (parts_within c.args.file.now c.requires.numbers.0 c.args.numbered.now c.requires.numbers.1))

pub fault_at_output-requires-clause-there : goal.fault_at_output-requires-clause-there
fault_at_output-requires-clause-there c =
    let first : IsFirstAt (IsDrivenAgain c.inputs.result.now) c.parts.result.now c.in-Twice.index =
    subst (AreDrivers c.numbered.inside.signals c.inputs.result.now c.parts.result.now) c.in-Twice.is (c.in_ok-driven.ensures {u = tt}) in
    subst (λ ps. c.in-Twice.index < length ps) c.parts.ensures (slice_get_within c.parts.result.now c.in-Twice.index first.element first.there)

pub returns-in-Once-clause-check : goal.returns-in-Once-clause-check
returns-in-Once-clause-check c =
    let once : IsSetOfDrivers c.numbered.inside.signals c.inputs.result.now c.parts.result.now c.in-Once.driven =
    subst (AreDrivers c.numbered.inside.signals c.inputs.result.now c.parts.result.now) c.in-Once.is (c.in_ok-driven.ensures {u = tt}) in
    none_twice c.args.file.now c.requires.numbers.0 c.args.numbered.now c.requires.numbers.1
    (subst (NoneHolds (IsDrivenAgain c.args.numbered.now.inputs)) c.parts.ensures (subst (λ is. NoneHolds (IsDrivenAgain is) c.parts.result.now) c.inputs.ensures once.none))

pub returns-in-Twice-clause-check : goal.returns-in-Twice-clause-check
returns-in-Twice-clause-check c =
    let first : IsFirstAt (IsDrivenAgain c.inputs.result.now) c.parts.result.now c.in-Twice.index =
    subst (AreDrivers c.numbered.inside.signals c.inputs.result.now c.parts.result.now) c.in-Twice.is (c.in_ok-driven.ensures {u = tt}) in
    IsFaultOf-weaker DrivenTwice (IsAtOutput c.args.file.now c.in-Twice.index) (IsOfKind c.args.file.now DrivenTwice)
    (first_twice c.args.file.now c.requires.numbers.0 c.args.numbered.now c.requires.numbers.1 c.in-Twice.index
    (subst (λ ps. IsFirstAt (IsDrivenAgain c.args.numbered.now.inputs) ps c.in-Twice.index) c.parts.ensures
    (subst (λ is. IsFirstAt (IsDrivenAgain is) c.parts.result.now c.in-Twice.index) c.inputs.ensures first)))
    c.fault_at_output.result c.fault_at_output.ensures
