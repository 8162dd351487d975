use Rattle.std.proofs.Common.{◌∙◌, ap, sym, max, get_or}
use Rattle.clock_phase.proofs.Greatest.{greatest_one_more}
use Rattle.synth_flow.proofs.counts.greatest_level.Goals as goal

pub levels-preserved : goal.levels-preserved
levels-preserved c =
    c.max-most.ensures ∙ ap (λ most. max most (get_or c.args.levels.now c.levels.level-index 0)) c.levels.invariant
    ∙ sym (greatest_one_more c.args.levels.now c.levels.level-index 0 c.levels-test.true)
