use Rattle.std.proofs.Common.{arith, ap, ◌∙◌, ◌≡◌, ◌<◌, sym, length}
use Rattle.std.proofs.lemmas.List.{get_or_read}
use Rattle.switch_model.specs.Joins.{above, top_of}
use Rattle.switch_model.proofs.Forests.{top_above, top_top}
use Rattle.switch_model.proofs.joins.lift.Goals as goal

pub up-preserved : goal.up-preserved
up-preserved c =
    let i = c.up.invariant in
    let done = c.lower.ensures in
    let parents = c.lower.new.parents.items in
    let at = c.up.at in
    let lt : at < length parents = omega (arith, i.within, done.long) in
    let read : c.index-at.result.now ≡ above parents at = get_or_read parents at c.index-at.result.now lt c.index-at.ensures at in
    record {
      forest = done.forest;
      long = done.long ∙ i.long;
      tops = λ n. done.tops n ∙ i.tops n;
      within = omega (arith, read, done.forest at, lt);
      top = ap (top_of parents) read ∙ top_above parents done.forest at ∙ done.tops at ∙ i.top ∙ sym (done.tops c.args.net);
    }

pub returns-clause-top : goal.returns-clause-top
returns-clause-top c =
    let i = c.up.invariant in
    let parents = c.up.parents.items in
    let read : c.index.result.now ≡ above parents c.up.at = get_or_read parents c.up.at c.index.result.now i.within c.index.ensures c.up.at in
    sym (top_top parents i.forest c.up.at (sym read ∙ c.up-test.false)) ∙ i.top ∙ i.tops c.args.net
