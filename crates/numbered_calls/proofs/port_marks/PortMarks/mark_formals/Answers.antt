use Rattle.std.proofs.Common.{arith}
use Rattle.std.proofs.lemmas.Option.{slice_get-get_or}
use Rattle.numbered_calls.proofs.Marking.{looking-ends, looking-goes_on, looking-starts, looking-stops}
use Rattle.numbered_calls.proofs.port_marks.PortMarks.mark_formals.Goals as goal

pub formals-init : goal.formals-init
formals-init c = (looking-starts c.args.words.now c.args.self.now c.args.mark, omega arith)

pub overflow_add-at : goal.overflow_add-at
overflow_add-at c = omega (arith, c.type_inv.words, c.formals.invariant.1)

pub formals-preserved : goal.formals-preserved
formals-preserved c = (
  looking-goes_on c.args.words.now c.args.self.now c.args.mark c.formals.at c.formals.self c.mark.new.self _ c.formals-test.true (slice_get-get_or c.args.words.now c.formals.at 0 (omega (arith, c.formals-test.true)))
      c.formals.invariant.0 (c.mark.ensures.marked c.if-not-mark.false),
  omega (arith, c.formals-test.true),
)

pub returns-then-not-mark-clause-barred : goal.returns-then-not-mark-clause-barred
returns-then-not-mark-clause-barred c = λ f. looking-stops c.args.words.now c.args.self.now c.args.mark c.formals.at c.formals.self _ c.formals-test.true
    (slice_get-get_or c.args.words.now c.formals.at 0 (omega (arith, c.formals-test.true))) c.formals.invariant.0 (c.mark.ensures.barred c.if-not-mark.true)

pub returns-clause-marked : goal.returns-clause-marked
returns-clause-marked c = λ t. looking-ends c.args.words.now c.args.self.now c.args.mark c.formals.at c.formals.self (omega (arith, c.formals-test.false)) c.formals.invariant.0
