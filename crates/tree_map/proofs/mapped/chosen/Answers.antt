use Rattle.std.proofs.Common.{arith}
use Rattle.tree_map.proofs.DecidedPlan.{decided_at}
use Rattle.tree_map.proofs.mapped.chosen.Goals as goal

pub returns : goal.returns
returns c =
    let sums = c.in_ok-sums.sums in
    let d = c.in_ok-decisions.decisions in
    decided_at c.args.costs sums.costs c.args.forest.now sums.w sums.h c.args.bounds.w c.args.bounds.h d.kept.items d.split.items d.shapes.items c.in_ok-sums.ensures.costs
    c.in_ok-sums.ensures.width c.in_ok-sums.ensures.height (omega (arith, c.requires.width.0, c.in_ok-sums.ensures.width)) (omega (arith, c.requires.height.0, c.in_ok-sums.ensures.height))
    c.in_ok-free.ensures.order c.in_ok-decisions.ensures.kept c.in_ok-decisions.ensures.split c.in_ok-decisions.ensures.shapes c.in_ok-decisions.ensures.free c.in_ok-decisions.ensures.marked
    c.in_ok-decisions.ensures.decided
