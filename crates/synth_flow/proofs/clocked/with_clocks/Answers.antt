use Rattle.std.proofs.Common.{◌≡◌, length, ap, subst, sym, ◌∙◌, rules}
use Rattle.clock_phase.specs.Levels.{AreLevels}
use Rattle.clock_phase.specs.Plans.{trees_of}
use Rattle.dual_rail.proofs.Marks.{written_over}
use Rattle.synth_flow.specs.ClockedPlans.{AreClocked}
use Rattle.synth_flow.proofs.clocked.with_clocks.Goals as goal

pub returns : goal.returns
returns c =
    let len : c.args.plans.len ≡ length c.args.plans.items = search rules in
    let value = c.as_mut_slice.ensures.value in
    let back = written_over c.args.plans.len c.assign_clocks.new.plans c.args.plans.items (len ∙ sym (c.assign_clocks.auto.plans ∙ ap length value)) in
    subst (AreClocked c.args.leaves c.args.phases c.args.plans.items) (sym back) record {
      levels = c.assign_clocks.new.levels;
      levels_are = subst (λ l. AreLevels c.args.leaves (trees_of l) c.assign_clocks.new.levels) value c.assign_clocks.ensures.levels;
      trees = c.assign_clocks.ensures.trees ∙ ap trees_of value;
      clocks = c.assign_clocks.ensures.clocks;
    }
