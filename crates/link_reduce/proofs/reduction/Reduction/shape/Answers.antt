use Rattle.link_reduce.proofs.Final.{live_low, none_network, not_joined, some_network}
use Rattle.link_reduce.proofs.reduction.Reduction.shape.Goals as goal

pub returns-in_default-clause-none : goal.returns-in_default-clause-none
returns-in_default-clause-none c = λ ends sound w h n.
    let y = none_network ends c.args.top c.args.bottom c.args.self.now sound c.requires.done w h n in
    c.in_default.ensures.none y.0 y.4

pub part-part-requires : goal.part-part-requires
part-part-requires c =
    let o = c.requires.sound in
    live_low o.0 c.args.top c.args.bottom c.args.self.now o.2 c.in-Some.last c.in-Some.ensures.some

pub returns-then-joins-clause-some : goal.returns-then-joins-clause-some
returns-then-joins-clause-some c = λ ends sound.
    some_network ends c.args.top c.args.bottom c.args.self.now sound c.in-Some.last c.part-part.result c.part-part.ensures c.in-Some.ensures.some
    (c.joins.ensures.yes c.if-joins.true)

pub returns-else-joins-clause-none : goal.returns-else-joins-clause-none
returns-else-joins-clause-none c = λ ends sound w h n.
    not_joined ends c.args.top c.args.bottom c.args.self.now sound c.in-Some.last c.part-part.result c.part-part.ensures c.in-Some.ensures.some
    (c.joins.ensures.no c.if-joins.false) c.requires.done w h n
