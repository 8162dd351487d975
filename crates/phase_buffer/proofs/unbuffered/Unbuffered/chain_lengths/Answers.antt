use Rattle.std.proofs.Common.{arith, length, ◌<◌}
use Rattle.std.proofs.lemmas.Grind.{get_or_default_zero}
use Rattle.phase_buffer.specs.Chains.{chain_length}
use Rattle.phase_buffer.specs.Unbuffered.{old_cells, last_reader}
use Rattle.phase_buffer.proofs.ChainBounds.{chain_is, one_at, one_for_each, one_more}
use Rattle.phase_buffer.proofs.LastReaders.{last_is}
use Rattle.phase_buffer.proofs.unbuffered.Unbuffered.chain_lengths.Goals as goal

pub index-requires : goal.index-requires
index-requires c = omega (
  arith,
  c.loop-k-test.true,
  one_for_each c.args.self.now
      (last_reader c.args.self.now) c.in_ok-last_readers.last_readers.items c.in_ok-last_readers.ensures,
)

pub loop-k-preserved : goal.loop-k-preserved
loop-k-preserved c =
    let reader = one_at c.args.self.now (last_reader c.args.self.now) c.in_ok-last_readers.last_readers.items c.loop-k.k
    c.in_ok-last_readers.ensures c.loop-k-test.true in
    let there : c.loop-k.k < length c.in_ok-last_readers.last_readers.items =
    omega (
      arith,
      c.loop-k-test.true,
      one_for_each c.args.self.now (last_reader c.args.self.now) c.in_ok-last_readers.last_readers.items
          c.in_ok-last_readers.ensures,
    ) in
    let same = get_or_default_zero c.in_ok-last_readers.last_readers.items c.loop-k.k c.index.result.now there in
    let last = last_is c.args.self.now c.loop-k.k in
    let chain = chain_is c.args.self.now c.loop-k.k c.index-self-k.result c.loop-k-test.true in
    one_more (chain_length (old_cells c.args.self.now)) c.loop-k.k _ _ _ c.loop-k.invariant c.in_ok-push.ensures.items
    (omega (arith, reader, same, last, chain, c.index.ensures, c.saturating_sub-last.ensures, c.saturating_sub.ensures))
