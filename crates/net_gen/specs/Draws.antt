-- Draws of numbers from the states of a linear congruential generator (Knuth, The Art of Computer Programming 2, section 3.2.1),
-- with the multiplier 75, the increment 74 and the modulus 2^16 + 1.
use Rattle.std.specs.Prelude.{ℕ, zero, suc, ◌+◌, ◌*◌, ◌%◌}

-- the state after a state
abbrev pub next_draw_state : ℕ → ℕ
next_draw_state state = (75 * state + 74) % 65537

-- the first state of a seed
abbrev pub seed_state : ℕ → ℕ
seed_state seed = seed % 65536

-- the state that is so many states after a state
abbrev pub draw_state_after : ℕ → ℕ → ℕ
draw_state_after zero state = state
draw_state_after (suc count) state = next_draw_state (draw_state_after count state)

-- the draw of a number below n that follows so many others, all of them from a state on
abbrev pub drawn : ℕ → ℕ → ℕ → ℕ
drawn state before n = draw_state_after (before + 1) state % n
