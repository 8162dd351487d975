use Rattle.std.proofs.Common.{ap, map, ◌++◌, ◌+◌, ◌-◌, ◌∙◌}
use Rattle.dom_base.proofs.Lists.{map-push}
use Rattle.clock_phase.specs.Plans.{cell_plan}
use Rattle.phase_buffer.specs.Chains.{chain}
use Rattle.phase_buffer.specs.Unbuffered.{old_cells}
use Rattle.phase_buffer.proofs.PushedChains.{one_buffer_more}
use Rattle.phase_buffer.proofs.unbuffered.Unbuffered.push_chain.Goals as goal

pub loop-number-preserved : goal.loop-number-preserved
loop-number-preserved c =
    let behind = chain (old_cells c.args.self.now) (c.args.at + (c.loop-number.number + 1)) (c.args.clock + (c.loop-number.number + 1))
    (c.args.count - (c.loop-number.number + 1)) in
    ap (λ plans. map cell_plan plans ++ behind) c.in_ok-push.ensures.items
    ∙ ap (λ cells. cells ++ behind) (map-push cell_plan c.loop-number.plans.items _)
    ∙ one_buffer_more c.args.self.now c.args.at c.args.clock c.args.count c.loop-number.number
    (map cell_plan c.loop-number.plans.items) _ c.from.result c.loop-number-test.true c.from.ensures c.loop-number.invariant
