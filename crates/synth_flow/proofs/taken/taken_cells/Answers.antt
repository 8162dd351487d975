use Rattle.std.proofs.Common.{arith, take}
use Rattle.std.proofs.lemmas.List.{length-take-le}
use Rattle.synth_flow.proofs.TakenCells.{ends_more, few_so_far}
use Rattle.synth_flow.proofs.taken.taken_cells.Goals as goal

pub taken_end-requires-clause-few : goal.taken_end-requires-clause-few
taken_end-requires-clause-few c =
    let ends = c.args.ends.now in
    let few = few_so_far c.args.cells.now (take c.ends.end-index ends) c.ends.taken.items c.ends.numbered.items c.ends.invariant in
    omega (arith, few, length-take-le c.ends.end-index ends (omega (arith, c.ends-test.true)), c.ends-test.true, c.requires.few)

pub ends-preserved : goal.ends-preserved
ends-preserved c =
    ends_more c.args.cells.now c.args.ends.now c.ends.end-index _ c.ends.taken.items c.taken_end.new.taken.items c.ends.numbered.items c.push.new.self.items _
    c.ends-test.true c.ends.invariant c.in_ok-taken_end.ensures c.in_ok-push.ensures.items
