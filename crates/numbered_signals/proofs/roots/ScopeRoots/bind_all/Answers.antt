use Rattle.std.proofs.Common.{◌<◌, ◌+◌, length, subst, sym, arith}
use Rattle.local_names.specs.LocalNames.{firsts}
use Rattle.numbered_signals.specs.ScopeRoots.{ScopeRootsData}
use Rattle.numbered_signals.proofs.BlockSteps.{IsBinding, actual_in, bind-ends, bind-step, formal_in}
use Rattle.numbered_signals.proofs.Pairs.{half_is}
use Rattle.numbered_signals.proofs.roots.ScopeRoots.bind_all.Goals as goal

pub pair_from_last-formal-requires : goal.pair_from_last-formal-requires
pair_from_last-formal-requires c = omega (arith, c.loop-index-test.true, half_is c.args.pairs.now)

pub bind-requires-clause-formal : goal.bind-requires-clause-formal
bind-requires-clause-formal c =
    let inside : c.loop-index.index < length (firsts c.args.pairs.now) = omega (arith, c.loop-index-test.true, half_is c.args.pairs.now) in
    formal_in c.args.start c.args.above c.args.pairs.now c.args.self.now c.loop-index.self c.loop-index.index c.pair_from_last-formal.result.0 c.pair_from_last-formal.result.1
    c.loop-index.invariant inside c.pair_from_last-formal.ensures.formal c.pair_from_last-formal.ensures.actual c.requires

pub bind-requires-clause-actual : goal.bind-requires-clause-actual
bind-requires-clause-actual c =
    let inside : c.loop-index.index < length (firsts c.args.pairs.now) = omega (arith, c.loop-index-test.true, half_is c.args.pairs.now) in
    actual_in c.args.start c.args.above c.args.pairs.now c.args.self.now c.loop-index.self c.loop-index.index c.pair_from_last-formal.result.0 c.pair_from_last-formal.result.1
    c.loop-index.invariant inside c.pair_from_last-formal.ensures.formal c.pair_from_last-formal.ensures.actual c.requires

pub loop-index-preserved : goal.loop-index-preserved
loop-index-preserved c =
    let inside : c.loop-index.index < length (firsts c.args.pairs.now) = omega (arith, c.loop-index-test.true, half_is c.args.pairs.now) in
    subst (λ (r : ScopeRootsData). IsBinding c.args.start c.args.above c.args.pairs.now c.args.self.now r (c.loop-index.index + 1)) (sym c.bind.ensures)
    (bind-step c.args.start c.args.above c.args.pairs.now c.args.self.now c.loop-index.self c.loop-index.index c.pair_from_last-formal.result.0 c.pair_from_last-formal.result.1
    c.loop-index.invariant inside c.pair_from_last-formal.ensures.formal c.pair_from_last-formal.ensures.actual)

pub returns : goal.returns
returns c = bind-ends c.args.start c.args.above c.args.pairs.now c.args.self.now c.loop-index.self c.loop-index.index c.loop-index.invariant
    (omega (arith, c.loop-index-test.false, half_is c.args.pairs.now))
