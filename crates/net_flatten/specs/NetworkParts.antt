-- The tables and latches of a network, from those of a file by numbers and the places that the numbers have in the network.
use Rattle.std.specs.Prelude.{ℕ, ◌==◌, List, map, Option, Some, None, option_and_then, option_map, slice_get, slice_index_or}
use Rattle.blif_ast.specs.BlifFileData.{BlifFileData}
use Rattle.network.specs.declared.network.NetLatch.{NetLatch}
use Rattle.net_flatten.specs.declared.table_order.LevelledTable.{LevelledTable}
use Rattle.model_calls.specs.Expanded.{BodyCard, LatchCard, TableCard}
use Rattle.network.specs.NetworkData.{NetTableData}
use Rattle.part_numbers.specs.NumberedFiles.{NumberedPartData, card_at, model_at}

-- the place of a number
abbrev pub network_place : List ℕ → ℕ → ℕ
network_place places number = slice_index_or places number 0

-- a table in the network: it reads the places of its numbers, and keeps the rows of its card
abbrev pub table_by_card : List ℕ → NumberedPartData → BodyCard → Option NetTableData
table_by_card places p (TableCard t) = Some (record { inputs = map (network_place places) p.reads; on = t.on; rows = t.rows })
table_by_card places p _ = None

abbrev pub table_in_network : BlifFileData → List ℕ → NumberedPartData → Option NetTableData
table_in_network f places p = option_and_then (table_by_card places p) (card_at (model_at f p.model) p.card)

-- the table at the index of one with its level
abbrev pub levelled_in_network : BlifFileData → List ℕ → List NumberedPartData → LevelledTable → Option NetTableData
levelled_in_network f places parts t = option_and_then (table_in_network f places) (slice_get parts t.part)

-- a latch in the network: it reads the place of its one number, and of the four start values 1 is true
abbrev pub latch_by_card : List ℕ → NumberedPartData → BodyCard → Option NetLatch
latch_by_card places p (LatchCard l) = option_map (λ number. record { input = network_place places number; init = l.init == 1 }) (slice_get p.reads 0)
latch_by_card places p _ = None

abbrev pub latch_in_network : BlifFileData → List ℕ → NumberedPartData → Option NetLatch
latch_in_network f places p = option_and_then (latch_by_card places p) (card_at (model_at f p.model) p.card)
