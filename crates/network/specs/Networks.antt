-- What a network keeps that stands for a file of BLIF, the Berkeley Logic Interchange Format.
use Rattle.std.specs.Prelude.{ℕ, ◌≤◌, ◌<◌, ◌≡◌, ◌+◌, true, [], nat_eq, length, All, Some, slice_get}
use Rattle.std.specs.List.{IsDistinct, sum_by}
use Rattle.blif_ast.specs.Cards.{same}
use Rattle.blif_ast.specs.Good.{IsGoodName}
use Rattle.network.specs.Limits.{most_signals, most_letters, most_sinks, letters}
use Rattle.network.specs.NetworkData.{NetworkData, NetTableData}

-- the number of the first table's signal: inputs stand before latch outputs, and these before table outputs
abbrev pub first_table : NetworkData → ℕ
first_table n = n.inputs + length n.latches

-- a table that reads only signals below this number, with one letter per input in each row
pub record IsNetTable (below : ℕ) (t : NetTableData) : Type 0 where
  pub inputs : All (λ signal. signal < below) t.inputs
  pub few_inputs : length t.inputs ≤ 4096
  pub rows : All (λ row. length row ≡ length t.inputs) t.rows
  pub on : t.rows ≡ [] → t.on ≡ true

-- a network with names that are good and all differ, tables that read only signals before their own, outputs that differ,
-- and numbers in range; it is within the limits
pub record IsNetwork (n : NetworkData) : Type 0 where
  pub name : IsGoodName n.name
  pub names : All IsGoodName n.names
  pub apart : IsDistinct same n.names
  pub count : length n.names ≡ first_table n + length n.tables
  pub tables : (k : ℕ) (t : NetTableData) → slice_get n.tables k ≡ Some t → IsNetTable (first_table n + k) t
  pub latches : All (λ latch. latch.input < length n.names) n.latches
  pub outputs : All (λ signal. signal < length n.names) n.outputs
  pub outputs_apart : IsDistinct nat_eq n.outputs
  pub few_signals : length n.names ≤ most_signals
  pub few_letters : sum_by (λ t. letters (length t.inputs) t.rows) n.tables ≤ most_letters
  pub few_sinks : length n.outputs + length n.latches ≤ most_sinks
