-- A runner of a network of tables and latches as plain data over lists, and what it keeps.
use Rattle.std.specs.Prelude.{ℕ, ◌≡◌, ◌<◌, ◌≤◌, ◌+◌, ◌↔◌, Bool, true, false, List, All, length, map, take, Some, slice_get, slice_index_or}
use Rattle.blif_ast.specs.declared.letter.Letter.{Letter}
use Rattle.blif_ast.specs.declared.letter.Letter.TheVariants.{Zero, One}
use Rattle.blif_ast.specs.TableValue.{IsOneAt}
use Rattle.network.specs.declared.network.NetLatch.{NetLatch}
use Rattle.network.specs.NetworkData.{NetTableData, NetworkData}
use Rattle.network.specs.Networks.{IsNetTable, IsNetwork}
use Rattle.net_run.specs.Runs.{value_at}

-- a runner as plain data: how many signals are inputs, the signals that are outputs, those that latches read, the tables,
-- and the values of the latches
pub record RunnerData : Type 0 where
  pub inputs : ℕ
  pub outputs : List ℕ
  pub latches : List ℕ
  pub tables : List NetTableData
  pub state : List Bool

abbrev pub runner_signal_count : RunnerData → ℕ
runner_signal_count r = r.inputs + length r.latches + length r.tables

-- each table reads only signals before its own, where the first table's signal has this number
abbrev pub AreTablesFrom : ℕ → List NetTableData → Type 0
AreTablesFrom first tables = (k : ℕ) (t : NetTableData) → slice_get tables k ≡ Some t → IsNetTable (first + k) t

-- a runner with a value for each latch, tables that read before themselves, and numbers in range; it has room for the values
-- of all signals and of the outputs
pub record IsRunner (r : RunnerData) (values outs : List Bool) : Type 0 where
  pub state : length r.state ≡ length r.latches
  pub tables : AreTablesFrom (r.inputs + length r.latches) r.tables
  pub latches : All (λ signal. signal < runner_signal_count r) r.latches
  pub outputs : All (λ signal. signal < runner_signal_count r) r.outputs
  pub room : length values ≡ runner_signal_count r
  pub outs_room : length outs ≡ length r.outputs

-- it is the network that the runner runs
pub record RunsNetwork (n : NetworkData) (r : RunnerData) : Type 0 where
  pub network : IsNetwork n
  pub inputs_are : r.inputs ≡ n.inputs
  pub outputs_are : r.outputs ≡ n.outputs
  pub latches_are : r.latches ≡ map (λ (l : NetLatch). l.input) n.latches
  pub tables_are : r.tables ≡ n.tables

-- the values of all signals that begin with these, where all tables hold at once
pub record AreValuesOf (first : List Bool) (tables : List NetTableData) (values : List Bool) : Type 0 where
  pub count : length values ≡ length first + length tables
  pub begin : take (length first) values ≡ first
  pub hold : (k : ℕ) (t : NetTableData) → slice_get tables k ≡ Some t
      → (value_at values (length first + k) ≡ true) ↔ IsOneAt t.on t.rows (map (value_at values) t.inputs)

-- a letter of a row stands for a value: `1` for 1, `0` for 0, and `-` for both
pub record StandsFor (letter : Letter) (value : Bool) : Type 0 where
  pub one : letter ≡ One → value ≡ true
  pub zero : letter ≡ Zero → value ≡ false

-- the letters of a row from one place up to another stand for the values of the signals that are its inputs
abbrev pub StandBetween : List Letter → List ℕ → List Bool → ℕ → ℕ → Type 0
StandBetween letters inputs values start end =
    (k : ℕ) (x : Letter) → start ≤ k → k < end → slice_get letters k ≡ Some x → StandsFor x (value_at values (slice_index_or inputs k 0))
