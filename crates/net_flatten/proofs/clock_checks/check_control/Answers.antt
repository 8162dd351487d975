use Rattle.std.proofs.Common.{◌≡◌, ◌<◌, length, sym, subst}
use Rattle.std.specs.Prelude.{Contains}
use Rattle.std.proofs.lemmas.Option.{slice_get_within}
use Rattle.model_calls.specs.declared.fault.FlatKind.TheVariants.{ControlUsed}
use Rattle.part_numbers.specs.CheckOutcomes.{IsAtControlOf, IsLineAt}
use Rattle.net_flatten.specs.ClockSearches.{HasControl, IsAtNumber, IsFirstControl}
use Rattle.model_calls.specs.FirstFaults.{NoneHolds}
use Rattle.net_flatten.specs.FoundFirst.{IsFirstAt}
use Rattle.model_calls.specs.Occurrences.{main_model}
use Rattle.model_calls.specs.Refusals.{IsOfKind}
use Rattle.part_numbers.proofs.CardFaults.{IsFaultOf-weaker}
use Rattle.net_flatten.proofs.ControlFaults.{control_unused, no_control, none_controlled, none_found, used_at_output, used_at_part}
use Rattle.net_flatten.proofs.clock_checks.check_control.Goals as goal

pub returns-in_default : goal.returns-in_default
returns-in_default c = record {
  check = no_control c.args.file.now c.requires.numbers.0 c.args.numbered.now c.requires.numbers.1
      (subst (NoneHolds HasControl) c.parts-parts.ensures (none_controlled c.parts-parts.result.now c.find_control.result c.find_control.ensures c.in_default.not-Some));
}

pub fault_at_control-requires-clause-there : goal.fault_at_control-requires-clause-there
fault_at_control-requires-clause-there c = let first = c.in-Some-find_number.ensures {u = tt} in
    subst (λ ps. c.in-Some-find_number.index < length ps) c.parts-parts.ensures (slice_get_within c.parts-parts.result.now c.in-Some-find_number.index first.element first.there)

pub returns-in-Some-find_number : goal.returns-in-Some-find_number
returns-in-Some-find_number c =
    record {
      check = IsFaultOf-weaker ControlUsed (IsAtControlOf c.args.file.now c.in-Some.control.latch (IsLineAt c.args.file.now c.in-Some-find_number.index)) (IsOfKind c.args.file.now ControlUsed)
          (used_at_part c.args.file.now c.requires.numbers.0 c.args.numbered.now c.requires.numbers.1 c.in-Some.control
          (subst (λ ps. IsFirstControl ps c.in-Some.control) c.parts-parts.ensures (c.in-Some.ensures {u = tt})) c.in-Some-find_number.index
          (subst (λ ps. IsFirstAt (IsAtNumber c.in-Some.control.number) ps c.in-Some-find_number.index) c.parts-parts.ensures (c.in-Some-find_number.ensures {u = tt})))
          c.fault_at_control.result c.fault_at_control.ensures;
    }

pub returns-then-has : goal.returns-then-has
returns-then-has c =
    record {
      check = IsFaultOf-weaker ControlUsed (IsAtControlOf c.args.file.now c.in-Some.control.latch (λ l. l ≡ (main_model c.args.file.now).line)) (IsOfKind c.args.file.now ControlUsed)
          (used_at_output c.args.file.now c.requires.numbers.0 c.args.numbered.now c.requires.numbers.1 c.in-Some.control
          (subst (λ ps. IsFirstControl ps c.in-Some.control) c.parts-parts.ensures (c.in-Some.ensures {u = tt}))
          (subst (NoneHolds (IsAtNumber c.in-Some.control.number)) c.parts-parts.ensures
          (none_found (IsAtNumber c.in-Some.control.number) c.parts-parts.result.now c.find_number.result c.find_number.ensures c.in_default-find_number.not-Some))
          (subst (λ xs. Contains xs c.in-Some.control.number) c.outputs.ensures (c.has.ensures.there c.if-has.true)))
          c.fault_at_main_control.result c.fault_at_main_control.ensures;
    }

pub returns : goal.returns
returns c =
    record {
      check = control_unused c.args.file.now c.requires.numbers.0 c.args.numbered.now c.requires.numbers.1 c.in-Some.control
          (subst (λ ps. IsFirstControl ps c.in-Some.control) c.parts-parts.ensures (c.in-Some.ensures {u = tt}))
          (subst (NoneHolds (IsAtNumber c.in-Some.control.number)) c.parts-parts.ensures
          (none_found (IsAtNumber c.in-Some.control.number) c.parts-parts.result.now c.find_number.result c.find_number.ensures c.in_default-find_number.not-Some))
          (λ there. c.has.ensures.not_there c.if-has.false (subst (λ xs. Contains xs c.in-Some.control.number) (sym c.outputs.ensures) there));
    }
