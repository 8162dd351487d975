use Rattle.model_calls.specs.declared.fault.FlatKind.TheVariants.{TwoControls}
use Rattle.part_numbers.specs.CheckOutcomes.{IsAtOutput}
use Rattle.model_calls.specs.Refusals.{IsOfKind}
use Rattle.part_numbers.proofs.CardFaults.{IsFaultOf-weaker}
use Rattle.net_flatten.proofs.ClockFaults.{first_other, none_other}
use Rattle.net_flatten.proofs.clock_checks.check_clocks.Goals as goal

pub returns-in-None : goal.returns-in-None
returns-in-None c = let one = c.in-None.ensures {u = tt} in
    record { check = none_other c.args.file.now c.requires.numbers.0 c.args.numbered.now c.requires.numbers.1 one.0 one.1 }

pub returns-in-Some : goal.returns-in-Some
returns-in-Some c = record {
  check = IsFaultOf-weaker TwoControls (IsAtOutput c.args.file.now c.in-Some.index) (IsOfKind c.args.file.now TwoControls)
      (first_other c.args.file.now c.requires.numbers.0 c.args.numbered.now c.requires.numbers.1 c.in-Some.index (c.in-Some.ensures {u = tt}))
      c.fault_at_output.result c.fault_at_output.ensures;
}
