use Rattle.std.proofs.Common.{arith, get_or, length, subst, sym, ◌*◌, ◌+◌, ◌<◌}
use Rattle.sp_network.specs.Tree.{EachLeaf}
use Rattle.sp_network.specs.TypedTree.{tree_of}
use Rattle.sp_network.specs.declared.plan.GatePlan.{GatePlan}
use Rattle.clock_phase.specs.Levels.{cells_read}
use Rattle.phase_buffer.specs.Unbuffered.{AreRaised}
use Rattle.phase_buffer.proofs.ChainBounds.{reads_cells}
use Rattle.phase_buffer.proofs.LastReaders.{AreOfSinks, all_sinks, one_plan_more}
use Rattle.phase_buffer.proofs.unbuffered.Unbuffered.find_readers.Goals as goal

pub raise-requires-clause-there : goal.raise-requires-clause-there
raise-requires-clause-there c =
    subst (λ (p : GatePlan). EachLeaf (λ gate. gate < 2 * c.args.self.now.leaves + length c.loop-plan.clocks) (tree_of p.tree))
    (sym c.plan-item.is)
    (subst (λ n. EachLeaf (λ gate. gate < 2 * c.args.self.now.leaves + n)
    (tree_of (get_or c.args.self.now.plans.now c.loop-plan.plan-index c.plan-item.result).tree)) (sym c.loop-plan.invariant.one_each)
    (reads_cells c.args.self.now c.requires.chainable c.loop-plan.plan-index c.plan-item.result c.loop-plan-test.true))

pub loop-plan-preserved : goal.loop-plan-preserved
loop-plan-preserved c =
    one_plan_more c.args.self.now c.loop-plan.plan-index c.plan-item.result c.loop-plan.clocks c.raise.new.clocks c.loop-plan-test.true
    c.loop-plan.invariant
    (subst (λ (p : GatePlan). AreRaised p.clock (cells_read c.args.self.now.leaves (tree_of p.tree)) c.loop-plan.clocks
    c.raise.new.clocks) c.plan-item.is c.raise.ensures)

pub returns : goal.returns
returns c =
    all_sinks c.args.self.now c.loop-sink.clocks
    (subst (λ i. AreOfSinks c.args.self.now i c.loop-sink.clocks) (omega (arith, c.loop-sink-test.false, c.loop-sink.auto.sink-index-end))
    c.loop-sink.invariant)
