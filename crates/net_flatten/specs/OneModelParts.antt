-- What stands in the file of one model of a network: its tables, latches and signals, by their numbers.
use Rattle.std.specs.Prelude.{◌≡◌, ℕ, List, [], map, slice_get, Some}
use Rattle.std.specs.List.{enumerate_from}
use Rattle.blif_ast.specs.declared.latch.Latch.{Latch}
use Rattle.blif_ast.specs.TableData.{TableData}
use Rattle.network.specs.declared.network.NetLatch.{NetLatch}
use Rattle.model_calls.specs.Expanded.{PlacedTable}
use Rattle.network.specs.NetworkData.{NetTableData, NetworkData}
use Rattle.net_flatten.specs.OneModel.{latch_at, name_at, table_at}
use Rattle.model_calls.specs.Signals.{Signal}

-- its tables and latches in order
abbrev pub tables_here : NetworkData → List TableData
tables_here n = map (λ (p : ℕ × NetTableData). table_at n p.0 p.1) (enumerate_from 0 n.tables)

abbrev pub latches_here : NetworkData → List Latch
latches_here n = map (λ (p : ℕ × NetLatch). latch_at n p.0 p.1) (enumerate_from 0 n.latches)

-- the signal of a number
abbrev pub signal_at : NetworkData → ℕ → Signal
signal_at n k = record { path = []; name = name_at n k }

-- one of its tables, in the main model
abbrev pub IsTableHere : NetworkData → PlacedTable → Type 0
IsTableHere n t = (k : ℕ) × (net : NetTableData) × (slice_get n.tables k ≡ Some net) × (t ≡ record { path = []; table = table_at n k net })
