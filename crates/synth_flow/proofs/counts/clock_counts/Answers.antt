use Rattle.std.proofs.Common.{◌+◌, ◌∙◌, sym, refl}
use Rattle.std.proofs.lemmas.List.FromFn.{map-range_with_len_more}
use Rattle.synth_flow.specs.SummaryParts.{levels_at_clock}
use Rattle.synth_flow.proofs.LoopItems.{pushed_item}
use Rattle.synth_flow.proofs.counts.clock_counts.Goals as goal

pub clocks-preserved : goal.clocks-preserved
clocks-preserved c =
    pushed_item c.in_ok-push.ensures.items c.clocks.invariant c.clock_count.ensures
    ∙ sym (map-range_with_len_more (levels_at_clock c.args.phases c.greatest_level-top.result c.args.levels.now) 1 c.clocks.k (1 + c.clocks.k) refl)
