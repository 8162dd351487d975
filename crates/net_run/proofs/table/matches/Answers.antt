use Rattle.std.proofs.Common.{refl}
use Rattle.net_run.proofs.RowMatches.{all_letters, more_letters}
use Rattle.net_run.proofs.table.matches.Goals as goal

pub compare-preserved : goal.compare-preserved
compare-preserved c =
    more_letters c.args.letters.now c.args.inputs.now c.args.values.now 0 c.compare.start c.min-end.result c.compare.invariant (c.stand_between.ensures.0 c.if-not-stand_between.false)

pub returns : goal.returns
returns c = (
  λ e. all_letters c.args.letters.now c.args.inputs.now c.args.values.now c.compare.start c.compare-test.false c.requires.letters c.compare.invariant,
  λ m. refl,
)
