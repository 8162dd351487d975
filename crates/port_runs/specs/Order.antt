-- The order of the environment's moves in a run, whatever the values of the nets are.
use Rattle.std.specs.Prelude.{Bool, List, [], false, length, ℕ, ◌++◌, ◌+◌, ◌<◌, ◌∷◌, ◌≡◌, ◌≤◌, ◌⊎◌}
use Rattle.dom_base.specs.declared.tri.Tri.{Tri}
use Rattle.port_runs.specs.Environment.{Capture, Evaluation, Happens, Fall, IsNext, Launched, Move, Moves, Open, Pins, Place, Released, Reset, Rise, Step, Take, World, after_move}
use Rattle.port_runs.specs.declared.clocking.Clocking.{Clocking}
use Rattle.port_runs.specs.declared.clocking.Clocking.TheVariants.{Overlapping}

-- what a move needs but for rest, with so many clocks and pins
abbrev pub Allows : Clocking → ℕ → ℕ → Move → World → Type 0
Allows clocking clocks pins (Open place) w = IsNext w.place place × (place ≡ Capture → w.risen ≡ clocks)
Allows clocking clocks pins (Take bits) w = ((w.place ≡ Released) ⊎ (w.place ≡ Launched)) × (length bits ≡ pins)
Allows clocking clocks pins Rise w = (w.place ≡ Evaluation) × (w.risen < clocks)
Allows clocking clocks pins (Fall k) w =
    (w.place ≡ Evaluation) × (k + 1 < w.risen) × (w.fallen k ≡ false) × (clocking ≡ Overlapping) × (k + 1 < clocks)

-- the steps are events and such moves
abbrev pub Proceeds : Clocking → ℕ → ℕ → List Step → World → World → Type 0
Proceeds clocking clocks pins [] w w' = w' ≡ w
Proceeds clocking clocks pins (Happens n ∷ steps) w w' = (values : List Tri) × Proceeds clocking clocks pins steps (record w { values = values }) w'
Proceeds clocking clocks pins (Moves move ∷ steps) w w' =
    (values : List Tri) × Allows clocking clocks pins move w × Proceeds clocking clocks pins steps (record (after_move move w) { values = values }) w'

-- how many clocks have risen when pins are taken: none in the first cycle, and all those of the cycle before in a later one
abbrev pub risen_before : ℕ → List (List Bool) → ℕ
risen_before clocks [] = 0
risen_before clocks (pins ∷ past) = clocks

-- Where a run stands after it took a stream of pins. Before the first pins nothing has been taken and no clock has risen; from then
-- on the stream is the pins of the earlier cycles and of this one; in evaluation a clock has risen, and from capture on all have.
abbrev pub StandsAfter : ℕ → List (List Bool) → Place → ℕ → List (List Bool) → List Bool → Type 0
StandsAfter clocks stream Reset risen past pins = (stream ≡ []) × (past ≡ []) × (pins ≡ []) × (risen ≡ 0)
StandsAfter clocks stream Released risen past pins = (stream ≡ []) × (past ≡ []) × (pins ≡ []) × (risen ≡ 0)
StandsAfter clocks stream Pins risen past pins = (stream ≡ past ++ pins ∷ []) × (risen ≡ risen_before clocks past)
StandsAfter clocks stream Evaluation risen past pins = (stream ≡ past ++ pins ∷ []) × (1 ≤ risen) × (1 ≤ clocks → risen ≤ clocks)
StandsAfter clocks stream _ risen past pins = (stream ≡ past ++ pins ∷ []) × (risen ≡ clocks)
