-- States of the generator.
use Rattle.std.proofs.Common.{◌≡◌, ℕ, zero, suc, ◌+◌, ◌*◌, ◌≤◌, sym, ap, ◌∙◌, arith, zero-add}
use Rattle.net_gen.specs.Draws.{next_draw_state, seed_state, draw_state_after}

-- states after states
pub draw_state_after-add : (a b state : ℕ) → draw_state_after a (draw_state_after b state) ≡ draw_state_after (a + b) state
draw_state_after-add zero b state = ap (λ n. draw_state_after n state) (sym (zero-add b))
draw_state_after-add (suc a) b state =
    let more : suc (a + b) ≡ suc a + b = omega arith in
    ap next_draw_state (draw_state_after-add a b state) ∙ ap (λ n. draw_state_after n state) more

pub state_is_low : (count seed : ℕ) → draw_state_after count (seed_state seed) ≤ 65536
state_is_low zero seed = omega arith
state_is_low (suc count) seed = omega arith

-- the state before the next table
pub next_ten : (table state : ℕ) → draw_state_after 10 (draw_state_after (10 * table) state) ≡ draw_state_after (10 * (table + 1)) state
next_ten table state = draw_state_after-add 10 (10 * table) state ∙ ap (λ n. draw_state_after n state) (omega arith)
