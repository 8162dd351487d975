use Rattle.std.proofs.Common.{◌+◌, ◌<◌, ◌≤◌, length, arith}
use Rattle.deck.specs.Limits.{most_clocks, unclocked_count}
use Rattle.deck.proofs.PortOrder.{leading_from, further, leaves_leading}
use Rattle.deck.proofs.port_order.count_clocks.Goals as goal

pub returns-then-count-clocks : goal.returns-then-count-clocks
returns-then-count-clocks c =
    let count = c.count_leading-count in
    let same = c.if-count-clocks.true in
    let few : c.loop-clocks.clocks ≤ most_clocks = omega arith in
    let long : c.loop-clocks.clocks + unclocked_count ≤ length c.args.ports.now = omega (arith, count.ensures.within, same) in
    record {
      some_clock = c.loop-clocks.auto.clocks;
      few_clocks = few;
      long = long;
      leading = leading_from c.args.ports.now c.loop-clocks.clocks few long (λ k lt. count.ensures.agrees k (omega (arith, lt, same)));
    }

pub loop-clocks-preserved : goal.loop-clocks-preserved
loop-clocks-preserved c =
    let count = c.count_leading-count in
    let few : c.loop-clocks.clocks ≤ most_clocks = omega arith in
    let short : count.result < c.loop-clocks.clocks + unclocked_count = omega (arith, count.ensures.few, c.if-count-clocks.false) in
    let t = further c.args.ports.now c.loop-clocks.farthest count.result c.loop-clocks.clocks c.max-farthest.result c.max-farthest.ensures
    record { some_clock = c.loop-clocks.auto.clocks; few_clocks = few; short = short; within = count.ensures.within; agrees = count.ensures.agrees; differs = count.ensures.differs short }
    c.loop-clocks.invariant.begins c.loop-clocks.invariant.leaves in
    record { begins = t.0; leaves = t.1 }

pub returns : goal.returns
returns c =
    leaves_leading c.args.ports.now c.loop-clocks.farthest c.loop-clocks.invariant.begins
    (λ clocks some few. c.loop-clocks.invariant.leaves clocks some (omega arith))
