-- A node more.
use Rattle.std.proofs.Common.{refl, arith}
use Rattle.std.proofs.lemmas.Grind.{common_steps}
use Rattle.std.proofs.lemmas.Option.{slice_get-get_or}
use Rattle.dual_rail.specs.WantedNodes.{holds}
use Rattle.dual_rail.proofs.PairLists.{few_next, pairs_next, places_next}
use Rattle.dual_rail.proofs.pairs_needed.needed_pairs.Goals as goal

pub loop-index-preserved : goal.loop-index-preserved
loop-index-preserved c =
    let at = slice_get-get_or c.args.nodes.now c.loop-index.index _ c.loop-index-test.true in
    record {
      pairs = pairs_next c.args.nodes.now (holds c.args.wanted.now) c.loop-index.index _ c.pair_signs-signs.result at (λ s. c.pair_signs-signs.ensures s)
          c.loop-index.pairs.items c.push_pairs.new.pairs.items c.loop-index.invariant.pairs c.in_ok-own.ensures.pushed;
      places = places_next c.args.nodes.now (holds c.args.wanted.now) c.loop-index.index _ c.pair_signs-signs.result at (λ s. c.pair_signs-signs.ensures s)
          c.loop-index.pairs.items c.push_pairs.new.pairs.items c.loop-index.places.items c.push.new.self.items c.in_ok-own.own c.in_ok-own.ensures.pushed c.loop-index.invariant.count
          c.in_ok-push.ensures.items c.loop-index.invariant.places (λ s e. c.in_ok-own.ensures.places s e);
      count = let so_far = c.loop-index.invariant.count in rw c.in_ok-push.ensures.items (grind (arith, common_steps));
      few = few_next c.args.nodes.now (holds c.args.wanted.now) c.loop-index.index _ c.pair_signs-signs.result at (λ s. c.pair_signs-signs.ensures s)
          c.loop-index.pairs.items c.push_pairs.new.pairs.items _ refl c.loop-index-test.true c.in_ok-own.ensures.pushed c.loop-index.invariant.few;
    }
