use Rattle.std.proofs.Common.{add-one, ap, ap₂, arith, get_or, map, sym, take, take-suc, ◌++◌, ◌+◌, ◌∙◌, [], ◌∷◌}
use Rattle.std.proofs.lemmas.List.{map-append}
use Rattle.phase_buffer.specs.Chains.{chain_length, end_at, place}
use Rattle.phase_buffer.specs.Unbuffered.{old_cells}
use Rattle.phase_buffer.proofs.ChainBounds.{chain_short, gate_fits, one_at, one_for_each}
use Rattle.phase_buffer.proofs.unbuffered.Unbuffered.chain_ends.Goals as goal

pub bounds-places-cell : goal.bounds-places-cell
bounds-places-cell c =
    omega (
      arith,
      c.requires.chainable.sinks c.loop-sink.sink-index 0 c.loop-sink-test.true,
      one_for_each c.args.self.now (place (old_cells c.args.self.now)) c.args.places.now c.requires.places,
    )

pub bounds-lengths-cell : goal.bounds-lengths-cell
bounds-lengths-cell c =
    omega (
      arith,
      c.requires.chainable.sinks c.loop-sink.sink-index 0 c.loop-sink-test.true,
      one_for_each c.args.self.now (chain_length (old_cells c.args.self.now)) c.args.lengths.now c.requires.lengths,
    )

pub overflow_add-places : goal.overflow_add-places
overflow_add-places c =
    let cell = get_or c.args.self.now.sinks.now c.loop-sink.sink-index 0 in
    let there = c.requires.chainable.sinks c.loop-sink.sink-index 0 c.loop-sink-test.true in
    let length = one_at c.args.self.now (chain_length (old_cells c.args.self.now)) c.args.lengths.now cell c.requires.lengths there in
    let place = one_at c.args.self.now (place (old_cells c.args.self.now)) c.args.places.now cell c.requires.places there in
    let fits = gate_fits c.args.self.now c.requires.chainable cell (chain_length (old_cells c.args.self.now) cell) there
    (chain_short c.args.self.now c.requires.chainable cell there) in
    omega (arith, length, place, fits, c.from.ensures)

pub loop-sink-preserved : goal.loop-sink-preserved
loop-sink-preserved c =
    let cell = get_or c.args.self.now.sinks.now c.loop-sink.sink-index 0 in
    let there = c.requires.chainable.sinks c.loop-sink.sink-index 0 c.loop-sink-test.true in
    let length = one_at c.args.self.now (chain_length (old_cells c.args.self.now)) c.args.lengths.now cell c.requires.lengths there in
    let place = one_at c.args.self.now (place (old_cells c.args.self.now)) c.args.places.now cell c.requires.places there in
    c.in_ok-push.ensures.items
    ∙ ap₂ (λ front n. front ++ n ∷ []) c.loop-sink.invariant (ap₂ (λ a b. a + b) place (c.from.ensures ∙ length))
    ∙ sym (map-append (end_at (old_cells c.args.self.now)) (take c.loop-sink.sink-index c.args.self.now.sinks.now) (cell ∷ []))
    ∙ ap (map (end_at (old_cells c.args.self.now)))
    (sym (rw add-one (take-suc c.args.self.now.sinks.now c.loop-sink.sink-index 0 c.loop-sink-test.true)))
