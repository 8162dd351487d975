use Rattle.std.proofs.Common.{arith}
use Rattle.link_reduce.proofs.Popped.{popped_dead, popped_live}
use Rattle.link_reduce.proofs.reduction.Reduction.take_live.Goals as goal

pub returns-then-is_live-clause-some : goal.returns-then-is_live-clause-some
returns-then-is_live-clause-some c =
    popped_live c.args.net c.args.self.now c.listed.self c.take_listed.new.self c.listed.invariant (omega (arith, c.requires.within, c.listed.invariant.room))
    c.take_listed.ensures.same c.in-Some.part c.in-Some.ensures.some c.is_live.result c.is_live.ensures c.if-is_live.true

pub listed-preserved : goal.listed-preserved
listed-preserved c =
    popped_dead c.args.net c.args.self.now c.listed.self c.take_listed.new.self c.listed.invariant (omega (arith, c.requires.within, c.listed.invariant.room))
    c.take_listed.ensures.same c.in-Some.part c.in-Some.ensures.some c.is_live.result c.is_live.ensures c.if-is_live.false
