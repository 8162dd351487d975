use Rattle.std.proofs.Common.{◌+◌, take, sym, subst, arith}
use Rattle.std.proofs.lemmas.List.{take_all}
use Rattle.model_calls.specs.NumberSets.{IsSetOf}
use Rattle.model_calls.proofs.NumberSets.{set_of_next}
use Rattle.model_calls.proofs.number_set.NumberSet.of.Goals as goal

pub loop-number-preserved : goal.loop-number-preserved
loop-number-preserved c = subst (IsSetOf c.args.bound (take (c.loop-number.number-index + 1) c.args.numbers.now)) (sym c.insert.ensures)
    (set_of_next c.args.bound c.args.numbers.now c.loop-number.number-index c.loop-number.set 0 c.loop-number-test.true c.loop-number.invariant)

pub returns : goal.returns
returns c = subst (λ l. IsSetOf c.args.bound l c.loop-number.set) (take_all c.loop-number.number-index c.args.numbers.now (omega arith)) c.loop-number.invariant
