use Rattle.std.proofs.Common.{arith, ap, ◌∙◌, ◌≡◌, sym, get_or}
use Rattle.std.proofs.lemmas.List.{get_or_default}
use Rattle.switch_model.specs.Joins.{above, top_of}
use Rattle.switch_model.proofs.Forests.{top_above, top_top}
use Rattle.switch_model.proofs.joins.top.Goals as goal

pub up-preserved : goal.up-preserved
up-preserved c =
    let parents = c.args.parents.now in
    let lt = c.up.invariant.0 in
    let read : get_or parents c.up.at 0 ≡ above parents c.up.at = get_or_default parents c.up.at 0 c.up.at lt in (
      omega (arith, read, c.requires.forest c.up.at, lt),
      ap (top_of parents) read ∙ top_above parents c.requires.forest c.up.at ∙ c.up.invariant.1,
    )

pub returns : goal.returns
returns c =
    let parents = c.args.parents.now in
    let read : get_or parents c.up.at 0 ≡ above parents c.up.at = get_or_default parents c.up.at 0 c.up.at c.up.invariant.0 in
    sym (top_top parents c.requires.forest c.up.at (sym read ∙ c.up-test.false)) ∙ c.up.invariant.1
