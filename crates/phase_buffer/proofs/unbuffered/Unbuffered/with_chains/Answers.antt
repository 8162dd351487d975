use Rattle.std.proofs.Common.{ap, ap₂, arith, get_or, map, ◌++◌, ◌∙◌}
use Rattle.dom_base.proofs.Lists.{map-push}
use Rattle.clock_phase.specs.Plans.{cell_plan}
use Rattle.phase_buffer.specs.Chains.{chain, chain_length, place}
use Rattle.phase_buffer.specs.Unbuffered.{old_cells}
use Rattle.phase_buffer.proofs.ChainBounds.{chain_short, chain_within, gate_fits, one_at, one_for_each, reads_cells}
use Rattle.phase_buffer.proofs.PushedChains.{one_cell_more}
use Rattle.phase_buffer.proofs.unbuffered.Unbuffered.with_chains.Goals as goal

pub moved-requires-clause-there : goal.moved-requires-clause-there
moved-requires-clause-there c = reads_cells c.args.self.now c.requires.chainable c.loop-k.k c.index-self-k.result c.loop-k-test.true

pub bounds-places-k : goal.bounds-places-k
bounds-places-k c = omega (
  arith,
  c.loop-k-test.true,
  one_for_each c.args.self.now
      (place (old_cells c.args.self.now)) c.args.places.now c.requires.places,
)

pub bounds-lengths-k : goal.bounds-lengths-k
bounds-lengths-k c = omega (
  arith,
  c.loop-k-test.true,
  one_for_each c.args.self.now
      (chain_length (old_cells c.args.self.now)) c.args.lengths.now c.requires.lengths,
)

pub push_chain-requires-clause-gates : goal.push_chain-requires-clause-gates
push_chain-requires-clause-gates c =
    let length = one_at c.args.self.now (chain_length (old_cells c.args.self.now)) c.args.lengths.now c.loop-k.k c.requires.lengths
    c.loop-k-test.true in
    let place = one_at c.args.self.now (place (old_cells c.args.self.now)) c.args.places.now c.loop-k.k c.requires.places
    c.loop-k-test.true in
    let fits = gate_fits c.args.self.now c.requires.chainable c.loop-k.k
    (chain_length (old_cells c.args.self.now) c.loop-k.k) c.loop-k-test.true
    (chain_short c.args.self.now c.requires.chainable c.loop-k.k c.loop-k-test.true) in
    omega (arith, length, place, fits)

pub push_chain-requires-clause-clocks : goal.push_chain-requires-clause-clocks
push_chain-requires-clause-clocks c =
    let length = one_at c.args.self.now (chain_length (old_cells c.args.self.now)) c.args.lengths.now c.loop-k.k c.requires.lengths
    c.loop-k-test.true in
    omega (arith, length, chain_within c.args.self.now c.requires.chainable c.loop-k.k c.index-self-k.result c.loop-k-test.true)

pub loop-k-preserved : goal.loop-k-preserved
loop-k-preserved c =
    let length = one_at c.args.self.now (chain_length (old_cells c.args.self.now)) c.args.lengths.now c.loop-k.k c.requires.lengths
    c.loop-k-test.true in
    let place = one_at c.args.self.now (place (old_cells c.args.self.now)) c.args.places.now c.loop-k.k c.requires.places
    c.loop-k-test.true in
    let clock = (get_or c.args.self.now.plans.now c.loop-k.k c.index-self-k.result).clock in
    one_cell_more c.args.self.now c.loop-k.k c.index-self-k.result (map cell_plan c.loop-k.plans.items)
    (map cell_plan c.push.new.self.items) (map cell_plan c.push_chain.new.plans.items) _ _ c.loop-k-test.true
    (ap (map cell_plan) c.in_ok-push.ensures.items ∙ map-push cell_plan c.loop-k.plans.items _)
    (ap (λ tree. record { tree = tree; clock = clock }) c.in_ok-tree.ensures)
    (c.in_ok-push_chain.ensures ∙ ap₂ (λ at n. map cell_plan c.push.new.self.items ++ chain (old_cells c.args.self.now) at clock n) place
    length)
    c.loop-k.invariant
