-- The stimulus for a network that is generated: four cycles.
use Rattle.std.specs.Prelude.{ℕ, ◌+◌, ◌%◌, ◌==◌, Bool, List, [], ◌∷◌, ◌++◌, map}
use Rattle.std.specs.List.{flat_map, range_with_len}
use Rattle.stim_text.specs.CycleLines.{pin_letters}

-- in a cycle every third pin is 1
abbrev pub stimulus_bit : ℕ → ℕ → ℕ → Bool
stimulus_bit seed cycle pin = (pin + cycle + seed % 3) % 3 == 0

abbrev pub stimulus_cycle : ℕ → ℕ → ℕ → List Bool
stimulus_cycle seed width cycle = map (stimulus_bit seed cycle) (range_with_len 0 width)

-- the four cycles for so many pins
abbrev pub stimulus_cycles : ℕ → ℕ → List (List Bool)
stimulus_cycles seed width = map (stimulus_cycle seed width) (range_with_len 0 4)

-- and their text: a line of letters for each
abbrev pub stimulus_text : ℕ → ℕ → List ℕ
stimulus_text seed width = flat_map (λ pins. pin_letters pins ++ 10 ∷ []) (stimulus_cycles seed width)
