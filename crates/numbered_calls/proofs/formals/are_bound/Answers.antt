use Rattle.std.proofs.Common.{◌≡◌, ◌+◌, ap, length, subst, arith}
use Rattle.numbered_calls.specs.BoundFormals.{HavePortMarks}
use Rattle.numbered_calls.proofs.PortRows.{next_bound}
use Rattle.numbered_calls.proofs.formals.are_bound.Goals as goal

pub loop-index-preserved : goal.loop-index-preserved
loop-index-preserved c = (
  subst (λ n. HavePortMarks c.args.file.now c.args.names.now n c.is_bound.new.marks.items) (let e : c.loop-index.index + 4 ≡ c.loop-index.index + 1 + 3 = omega arith in e)
      (c.is_bound.ensures.ports c.if-not-is_bound.false),
  next_bound c.args.file.now c.args.names.now c.args.units.now c.loop-index.index c.loop-index.invariant.1 (c.is_bound.ensures.bound c.if-not-is_bound.false),
)

pub returns-then-not-is_bound-clause-bad : goal.returns-then-not-is_bound-clause-bad
returns-then-not-is_bound-clause-bad c = λ f. c.is_bound.ensures.bad c.if-not-is_bound.true

pub returns-clause-bound : goal.returns-clause-bound
returns-clause-bound c = λ t k unit less. c.loop-index.invariant.1 k unit (omega (arith, less, c.loop-index-test.false, ap length c.parts-count.ensures))
