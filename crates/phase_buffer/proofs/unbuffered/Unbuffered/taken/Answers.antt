use Rattle.std.proofs.Common.{ap, ap₂, arith, sym, ◌*◌, ◌+◌, ◌-◌, ◌<◌, ◌∙◌, length}
use Rattle.phase_buffer.specs.Chains.{place, taken_at}
use Rattle.phase_buffer.specs.Unbuffered.{old_cells}
use Rattle.phase_buffer.proofs.ChainBounds.{clock_is, gate_fits, new_gate_behind, one_at, one_for_each}
use Rattle.phase_buffer.proofs.unbuffered.Unbuffered.taken.Goals as goal

pub bounds-places-cell : goal.bounds-places-cell
bounds-places-cell c =
    omega (
      arith,
      c.requires.there,
      c.if-gate-rails.false,
      one_for_each c.args.self.now
          (place (old_cells c.args.self.now)) c.args.places.now c.requires.places,
    )

pub overflow_add-result : goal.overflow_add-result
overflow_add-result c =
    let cell = c.args.gate - 2 * c.args.self.now.leaves in
    let there : cell < length c.args.self.now.plans.now = omega (arith, c.requires.there, c.if-gate-rails.false) in
    let place = one_at c.args.self.now (place (old_cells c.args.self.now)) c.args.places.now cell c.requires.places there in
    let fits = gate_fits c.args.self.now c.requires.chainable cell 3 there (omega arith) in
    omega (arith, place, fits, c.from.ensures, c.saturating_sub-buffers.ensures, c.requires.few_phases)

pub overflow_add-result-2 : goal.overflow_add-result-2
overflow_add-result-2 c =
    let cell = c.args.gate - 2 * c.args.self.now.leaves in
    let there : cell < length c.args.self.now.plans.now = omega (arith, c.requires.there, c.if-gate-rails.false) in
    let place = one_at c.args.self.now (place (old_cells c.args.self.now)) c.args.places.now cell c.requires.places there in
    let fits = gate_fits c.args.self.now c.requires.chainable cell 3 there (omega arith) in
    omega (arith, place, fits, c.from.ensures, c.saturating_sub-buffers.ensures, c.requires.few_phases)

pub returns : goal.returns
returns c =
    let cell = c.args.gate - 2 * c.args.self.now.leaves in
    let there : cell < length c.args.self.now.plans.now = omega (arith, c.requires.there, c.if-gate-rails.false) in
    let place = one_at c.args.self.now (place (old_cells c.args.self.now)) c.args.places.now cell c.requires.places there in
    let clock = clock_is c.args.self.now cell c.index-self-cell.result there in
    ap (λ n. 2 * c.args.self.now.leaves + n)
    (ap₂ (λ a b. a + b) place (c.from.ensures ∙ c.saturating_sub-buffers.ensures ∙ ap (λ n. c.args.clock - 1 - n) (sym clock)))
    ∙ sym (new_gate_behind c.args.self.now.leaves (taken_at (old_cells c.args.self.now) c.args.clock) c.args.gate
    (omega (arith, c.if-gate-rails.false)))
