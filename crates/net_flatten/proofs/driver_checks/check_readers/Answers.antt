use Rattle.std.proofs.Common.{◌<◌, sym, subst}
use Rattle.std.specs.Prelude.{All}
use Rattle.model_calls.specs.declared.fault.FlatKind.TheVariants.{Undriven}
use Rattle.part_numbers.specs.CheckOutcomes.{IsAtInput, IsAtMainOutput}
use Rattle.net_flatten.specs.DriverSearches.{IsFirstOutside, IsFirstRead, IsOutsideSet}
use Rattle.model_calls.specs.FirstFaults.{NoneHolds}
use Rattle.net_flatten.specs.FoundFirst.{IsFirstAt}
use Rattle.part_numbers.specs.NumberedFaults.{IsPartWithin}
use Rattle.model_calls.specs.Refusals.{IsOfKind}
use Rattle.part_numbers.proofs.CardFaults.{IsFaultOf-weaker}
use Rattle.net_flatten.proofs.DriverFaults.{all_read, first_undriven, first_undriven_output, none_undriven, output_there, read_is_there}
use Rattle.part_numbers.proofs.NumberedEnds.{outputs_within, parts_within}
use Rattle.net_flatten.proofs.driver_checks.check_readers.Goals as goal

pub find_read_outside-requires : goal.find_read_outside-requires
find_read_outside-requires c = record {
  within =
      subst (λ m. All (IsPartWithin m) c.parts.result.now) (sym c.requires.driven.length_is)
      (subst (All (IsPartWithin c.args.numbered.now.signals)) (sym c.parts.ensures) (parts_within c.args.file.now c.requires.numbers.0 c.args.numbered.now c.requires.numbers.1));
}

pub fault_at_input-requires-clause-there : goal.fault_at_input-requires-clause-there
fault_at_input-requires-clause-there c = read_is_there c.args.driven.now c.args.numbered.now.parts c.in-Some.at
    (subst (λ ps. IsFirstRead c.args.driven.now ps c.in-Some.at) c.parts.ensures (c.in-Some.ensures {u = tt}))

pub returns-in-Some : goal.returns-in-Some
returns-in-Some c = record {
  check = IsFaultOf-weaker Undriven (IsAtInput c.args.file.now c.in-Some.at.part c.in-Some.at.read) (IsOfKind c.args.file.now Undriven)
      (first_undriven c.args.file.now c.requires.numbers.0 c.args.numbered.now c.requires.numbers.1 c.args.driven.now c.requires.driven c.in-Some.at
      (subst (λ ps. IsFirstRead c.args.driven.now ps c.in-Some.at) c.parts.ensures (c.in-Some.ensures {u = tt}))) c.fault_at_input.result c.fault_at_input.ensures;
}

pub find_outside-requires : goal.find_outside-requires
find_outside-requires c = record {
  within =
      subst (λ m. All (λ x. x < m) c.outputs.result.now) (sym c.requires.driven.length_is)
      (subst (All (λ x. x < c.args.numbered.now.signals)) (sym c.outputs.ensures) (outputs_within c.args.file.now c.requires.numbers.0 c.args.numbered.now c.requires.numbers.1));
}

pub fault_at_main_output-requires : goal.fault_at_main_output-requires
fault_at_main_output-requires c = record {
  there = output_there c.args.file.now c.requires.numbers.0 c.args.numbered.now c.requires.numbers.1 c.args.driven.now c.in-Some-find_outside.index
      (subst (λ xs. IsFirstAt (IsOutsideSet c.args.driven.now) xs c.in-Some-find_outside.index) c.outputs.ensures (c.in-Some-find_outside.ensures {u = tt}));
}

pub returns-in-None : goal.returns-in-None
returns-in-None c = record {
  check = none_undriven c.args.file.now c.requires.numbers.0 c.args.numbered.now c.requires.numbers.1 c.args.driven.now c.requires.driven
      (all_read c.args.driven.now c.args.numbered.now.parts c.find_read_outside.result (subst (λ ps. IsFirstOutside c.args.driven.now ps c.find_read_outside.result) c.parts.ensures c.find_read_outside.ensures) c.in_default.not-Some)
      (subst (NoneHolds (IsOutsideSet c.args.driven.now)) c.outputs.ensures (c.in-None.ensures {u = tt}));
}

pub returns-in-Some-find_outside : goal.returns-in-Some-find_outside
returns-in-Some-find_outside c = record {
  check = IsFaultOf-weaker Undriven (IsAtMainOutput c.args.file.now c.in-Some-find_outside.index) (IsOfKind c.args.file.now Undriven)
      (first_undriven_output c.args.file.now c.requires.numbers.0 c.args.numbered.now c.requires.numbers.1 c.args.driven.now c.requires.driven c.in-Some-find_outside.index
      (all_read c.args.driven.now c.args.numbered.now.parts c.find_read_outside.result (subst (λ ps. IsFirstOutside c.args.driven.now ps c.find_read_outside.result) c.parts.ensures c.find_read_outside.ensures) c.in_default.not-Some)
      (subst (λ xs. IsFirstAt (IsOutsideSet c.args.driven.now) xs c.in-Some-find_outside.index) c.outputs.ensures (c.in-Some-find_outside.ensures {u = tt})))
      c.fault_at_main_output.result c.fault_at_main_output.ensures;
}
