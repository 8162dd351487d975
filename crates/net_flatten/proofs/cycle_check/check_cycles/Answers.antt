use Rattle.std.proofs.Common.{◌<◌, length, ap, sym, subst}
use Rattle.std.specs.Prelude.{All}
use Rattle.std.proofs.lemmas.Option.{slice_get_within}
use Rattle.model_calls.specs.declared.fault.FlatKind.TheVariants.{Cycle}
use Rattle.part_numbers.specs.CheckOutcomes.{IsAtOutput}
use Rattle.net_flatten.specs.Dependences.{AreDrivenOnce}
use Rattle.net_flatten.specs.Levelled.{AreLevelled, HaveLevels, IsFirstLoop}
use Rattle.part_numbers.specs.NumberedFaults.{IsPartWithin}
use Rattle.part_numbers.specs.NumberedFiles.{NumberedFileData}
use Rattle.model_calls.specs.Refusals.{IsOfKind}
use Rattle.part_numbers.proofs.CardFaults.{IsFaultOf-weaker}
use Rattle.net_flatten.proofs.CycleFaults.{driven_once, first_on_loop, none_on_loop}
use Rattle.part_numbers.proofs.NumberedEnds.{parts_within}
use Rattle.net_flatten.proofs.cycle_check.check_cycles.Goals as goal

pub find_levelled-requires-clause-within : goal.find_levelled-requires-clause-within
find_levelled-requires-clause-within c =
    let count = ap (λ (n : NumberedFileData). n.signals) c.numbered.view_is in
    subst (λ m. All (IsPartWithin m) c.parts.result.now) (sym count)
    (subst (All (IsPartWithin c.args.numbered.now.signals)) (sym c.parts.ensures) (parts_within c.args.file.now c.requires.numbers.0 c.args.numbered.now c.requires.numbers.1))

pub find_levelled-requires-clause-once : goal.find_levelled-requires-clause-once
find_levelled-requires-clause-once c = subst AreDrivenOnce (sym c.parts.ensures) (driven_once c.args.file.now c.requires.numbers.0 c.args.numbered.now c.requires.numbers.1 c.requires.once)

pub fault_at_output-requires-clause-there : goal.fault_at_output-requires-clause-there
fault_at_output-requires-clause-there c =
    let loop : IsFirstLoop c.numbered.inside.signals c.parts.result.now c.in-Loop.index = subst (AreLevelled c.numbered.inside.signals c.parts.result.now) c.in-Loop.is (c.in_ok-levels.ensures {u = tt}) in
    subst (λ ps. c.in-Loop.index < length ps) c.parts.ensures (slice_get_within c.parts.result.now c.in-Loop.index loop.first.element loop.first.there)

pub returns-in-Levels-clause-check : goal.returns-in-Levels-clause-check
returns-in-Levels-clause-check c =
    let count = ap (λ (n : NumberedFileData). n.signals) c.numbered.view_is in
    let have : HaveLevels c.numbered.inside.signals c.parts.result.now c.in-Levels.levels.items = subst (AreLevelled c.numbered.inside.signals c.parts.result.now) c.in-Levels.is (c.in_ok-levels.ensures {u = tt}) in
    let same : HaveLevels c.args.numbered.now.signals c.args.numbered.now.parts c.in-Levels.levels.items =
    subst (λ ps. HaveLevels c.args.numbered.now.signals ps c.in-Levels.levels.items) c.parts.ensures (subst (λ m. HaveLevels m c.parts.result.now c.in-Levels.levels.items) count have) in
    none_on_loop c.args.file.now c.requires.numbers.0 c.args.numbered.now c.requires.numbers.1 same.no_loop.nodes same.no_loop.depend same.no_loop.none

pub returns-in-Loop-clause-check : goal.returns-in-Loop-clause-check
returns-in-Loop-clause-check c =
    let count = ap (λ (n : NumberedFileData). n.signals) c.numbered.view_is in
    let loop : IsFirstLoop c.numbered.inside.signals c.parts.result.now c.in-Loop.index = subst (AreLevelled c.numbered.inside.signals c.parts.result.now) c.in-Loop.is (c.in_ok-levels.ensures {u = tt}) in
    let same : IsFirstLoop c.args.numbered.now.signals c.args.numbered.now.parts c.in-Loop.index =
    subst (λ ps. IsFirstLoop c.args.numbered.now.signals ps c.in-Loop.index) c.parts.ensures (subst (λ m. IsFirstLoop m c.parts.result.now c.in-Loop.index) count loop) in
    IsFaultOf-weaker Cycle (IsAtOutput c.args.file.now c.in-Loop.index) (IsOfKind c.args.file.now Cycle)
    (first_on_loop c.args.file.now c.requires.numbers.0 c.args.numbered.now c.requires.numbers.1 same.nodes same.depend c.in-Loop.index same.first)
    c.fault_at_output.result c.fault_at_output.ensures
