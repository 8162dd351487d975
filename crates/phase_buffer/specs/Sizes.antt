-- How many buffers chains have, and how many devices plans and decks with chains have (Harris and Horowitz, Skew-tolerant domino
-- circuits).
use Rattle.std.specs.Prelude.{List, Some, cond, length, map, slice_get, sum_by, ℕ, ◌*◌, ◌+◌, ◌<◌, ◌≡◌, ◌≤◌}
use Rattle.sp_network.specs.Tree.{leaves}
use Rattle.sp_network.specs.declared.plan.GatePlan.{GatePlan}
use Rattle.clock_phase.specs.Plans.{CellPlan, cell_plan}
use Rattle.domino_law.specs.Shape.{Shape}
use Rattle.domino_law.specs.Spelled.{shape_cards}
use Rattle.phase_buffer.specs.BufferedPlans.{AreBuffered, DeckPlan, HaveClocksUpTo, is_among, plan_cells}
use Rattle.phase_buffer.specs.Buffers.{buffered, sinks}
use Rattle.phase_buffer.specs.Chains.{Cells, chain_length}
use Rattle.phase_buffer.specs.Laws.{MayBeBuffered}

-- there are at most four clocks, and each cell is on one of them
pub record HasFewClocks {Cell : Type 0} (d : Cells Cell) : Type 0 where
  pub few : d.last ≤ d.first + 3
  pub clocks_are : (k : ℕ) (c : Cell) → slice_get d.cells k ≡ Some c → (d.first ≤ d.clock c) × (d.clock c ≤ d.last)

-- at most two buffers follow a cell, and at most one more where a sink takes from it
abbrev pub ChainsAreShort : Type 0
ChainsAreShort =
    (p : DeckPlan) (k : ℕ) (c : CellPlan) → HasFewClocks (plan_cells p) → slice_get p.cells k ≡ Some c
    → chain_length (plan_cells p) k ≤ 2 + cond (is_among k p.sinks) 1 0

-- so there are at most three plans in the place of each, and one more for each sink
abbrev pub BufferedPlansAreFew : Type 0
BufferedPlansAreFew =
    (leaves phases : ℕ) (old : List GatePlan) (sinks : List ℕ) (new : List GatePlan) (place ends : List ℕ)
    → phases ≤ 4 → HaveClocksUpTo phases old → AreBuffered leaves phases old sinks new place ends
    → length new ≤ 3 * length old + length sinks

-- the devices of cells with keepers: of each one for each leaf, and the precharge, the keeper, the foot and the inverter
abbrev pub plan_devices : List CellPlan → ℕ
plan_devices cells = sum_by (λ (c : CellPlan). leaves c.tree + 5) cells

-- a buffer has six devices, so plans have at most twelve more for each plan, and six more for each sink
abbrev pub BufferedPlansAreSmall : Type 0
BufferedPlansAreSmall =
    (leaves phases : ℕ) (old : List GatePlan) (sinks : List ℕ) (new : List GatePlan) (place ends : List ℕ)
    → phases ≤ 4 → HaveClocksUpTo phases old → AreBuffered leaves phases old sinks new place ends
    → plan_devices (map cell_plan new) ≤ plan_devices (map cell_plan old) + 6 * (2 * length old + length sinks)

-- and so has a deck of at most four clocks, for each cell and for each sink
abbrev pub BufferedDecksAreSmall : Type 0
BufferedDecksAreSmall =
    (s : Shape) → MayBeBuffered s → s.clocks ≤ 4
    → length (shape_cards (buffered s)) ≤ length (shape_cards s) + 6 * (2 * length s.cells + length (sinks s))

-- one of at most 800,000 cells and 8,192 sinks, which has at most 6,200,000 devices without buffers, has fewer than 16,000,000
abbrev pub BufferedDecksFit : Type 0
BufferedDecksFit =
    (s : Shape) → MayBeBuffered s → s.clocks ≤ 4 → length s.cells ≤ 800000 → length (sinks s) ≤ 8192
    → length (shape_cards s) ≤ 6200000 → length (shape_cards (buffered s)) < 16000000
