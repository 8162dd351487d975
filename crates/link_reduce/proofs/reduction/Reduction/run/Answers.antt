use Rattle.std.proofs.Common.{subst, sym}
use Rattle.link_reduce.specs.Reductions.{IsSound}
use Rattle.link_reduce.proofs.Runs.{taken_holding, taken_inside, taken_on}
use Rattle.link_reduce.proofs.reduction.Reduction.run.Goals as goal

pub examine-requires-clause-holding : goal.examine-requires-clause-holding
examine-requires-clause-holding c =
    let o = c.requires.sound in
    (o.0, o.1, taken_holding c.args.top c.args.bottom c.in-Some.net c.nets.self c.take_net.new.self c.in-Some.ensures.some o.0 (c.nets.invariant o.0 o.2))

pub examine-requires-clause-within : goal.examine-requires-clause-within
examine-requires-clause-within c =
    let o = c.requires.sound in
    taken_inside c.args.top c.args.bottom c.in-Some.net c.nets.self c.take_net.new.self c.in-Some.ensures.some o.0 (c.nets.invariant o.0 o.2)

pub nets-preserved : goal.nets-preserved
nets-preserved c = λ ends sound.
    taken_on c.args.top c.args.bottom c.in-Some.net c.nets.self c.take_net.new.self c.in-Some.ensures.some c.examine.new.self c.in_ok-examine.ensures ends
    (c.nets.invariant ends sound)

pub returns-clause-sound : goal.returns-clause-sound
returns-clause-sound c = λ ends s.
    subst (IsSound ends c.args.top c.args.bottom) (sym c.in_default.ensures.same) (c.nets.invariant ends s)
