use Rattle.std.proofs.Common.{arith}
use Rattle.phase_buffer.specs.Chains.{chain_length, place}
use Rattle.phase_buffer.specs.Unbuffered.{old_cells}
use Rattle.phase_buffer.proofs.ChainBounds.{chain_short, gate_fits, one_at, one_for_each, one_more, place_more}
use Rattle.phase_buffer.proofs.unbuffered.Unbuffered.places.Goals as goal

pub bounds-lengths-k : goal.bounds-lengths-k
bounds-lengths-k c = omega (
  arith,
  c.loop-k-test.true,
  one_for_each c.args.self.now
      (chain_length (old_cells c.args.self.now)) c.args.lengths.now c.requires.lengths,
)

pub overflow_add-next-in-loop-k : goal.overflow_add-next-in-loop-k
overflow_add-next-in-loop-k c =
    let length = one_at c.args.self.now (chain_length (old_cells c.args.self.now)) c.args.lengths.now c.loop-k.k c.requires.lengths
    c.loop-k-test.true in
    let fits = gate_fits c.args.self.now c.requires.chainable c.loop-k.k
    (chain_length (old_cells c.args.self.now) c.loop-k.k) c.loop-k-test.true
    (chain_short c.args.self.now c.requires.chainable c.loop-k.k c.loop-k-test.true) in
    omega (arith, length, fits, c.from.ensures, c.loop-k.invariant.next)

pub loop-k-preserved : goal.loop-k-preserved
loop-k-preserved c =
    let length = one_at c.args.self.now (chain_length (old_cells c.args.self.now)) c.args.lengths.now c.loop-k.k c.requires.lengths
    c.loop-k-test.true in
    record {
      next = omega (arith, place_more c.args.self.now c.loop-k.k, length, c.from.ensures, c.loop-k.invariant.next);
      places = one_more (place (old_cells c.args.self.now)) c.loop-k.k _ _ _ c.loop-k.invariant.places c.in_ok-push.ensures.items
          c.loop-k.invariant.next;
    }
