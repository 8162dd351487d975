-- Runs of the network of a file of BLIF, the Berkeley Logic Interchange Format.
use Rattle.std.specs.Prelude.{ℕ, ◌≡◌, ◌+◌, ◌↔◌, Bool, true, false, List, [], ◌∷◌, length, map, take, drop, Some, slice_get, slice_index_or}
use Rattle.blif_ast.specs.TableValue.{IsOneAt}
use Rattle.network.specs.declared.network.NetLatch.{NetLatch}
use Rattle.network.specs.NetworkData.{NetTableData, NetworkData}
use Rattle.network.specs.Networks.{first_table}

-- the value of the signal of a number
abbrev pub value_at : List Bool → ℕ → Bool
value_at values number = slice_index_or values number false

-- values of all signals of a network, by number: the inputs have these values and the latches these, and all tables hold at once
pub record IsValuation (n : NetworkData) (pins state values : List Bool) : Type 0 where
  pub count : length values ≡ length n.names
  pub inputs : take n.inputs values ≡ pins
  pub latches : take (length n.latches) (drop n.inputs values) ≡ state
  pub tables : (k : ℕ) (t : NetTableData) → slice_get n.tables k ≡ Some t
      → (value_at values (first_table n + k) ≡ true) ↔ IsOneAt t.on t.rows (map (value_at values) t.inputs)

-- a cycle of a run: its outputs, and the values of the latches after it
pub record Cycle : Type 0 where
  pub outputs : List Bool
  pub next : List Bool

-- in a cycle the outputs are read, and the next state is what the latches read
pub record IsNetworkCycle (n : NetworkData) (pins state : List Bool) (c : Cycle) : Type 0 where
  pub values : List Bool
  pub valuation : IsValuation n pins state values
  pub outputs_are : c.outputs ≡ map (value_at values) n.outputs
  pub next_is : c.next ≡ map (λ (l : NetLatch). value_at values l.input) n.latches

-- from a state on, the cycles of the bits at the inputs, one cycle for each
abbrev pub IsNetworkRunFrom : NetworkData → List Bool → List (List Bool) → List Cycle → Type 0
IsNetworkRunFrom n state [] [] = Unit {0}
IsNetworkRunFrom n state (pins ∷ stream) (c ∷ cycles) = IsNetworkCycle n pins state c × IsNetworkRunFrom n c.next stream cycles
IsNetworkRunFrom n state _ _ = ⊥

-- the latches' start values
abbrev pub start : NetworkData → List Bool
start n = map (λ (l : NetLatch). l.init) n.latches

abbrev pub IsNetworkRun : NetworkData → List (List Bool) → List Cycle → Type 0
IsNetworkRun n stream cycles = IsNetworkRunFrom n (start n) stream cycles
