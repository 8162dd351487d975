-- The tables of a network by the lists of all that they read and of all their rows.
use Rattle.std.specs.Prelude.{ℕ, List, All, map}
use Rattle.blif_ast.specs.declared.letter.Letter.{Letter}
use Rattle.blif_ast.specs.Models.{row_at}
use Rattle.network.specs.declared.net_tables.TableAt.{TableAt}
use Rattle.network.specs.ListPools.{IsPlaceWithin, list_in}
use Rattle.network.specs.NetworkData.{NetTableData}

-- the table at a place among all reads and all rows
abbrev pub table_in : List ℕ → List (List Letter) → TableAt → NetTableData
table_in reads rows at = record { inputs = list_in reads at.reads; on = at.on; rows = list_in rows at.rows }

abbrev pub tables_in : List ℕ → List (List Letter) → List TableAt → List NetTableData
tables_in reads rows tables = map (table_in reads rows) tables

-- a table whose reads and rows end within so many
pub record IsTableWithin (read_count row_count : ℕ) (at : TableAt) : Type 0 where
  pub reads : IsPlaceWithin read_count at.reads
  pub rows : IsPlaceWithin row_count at.rows

abbrev pub AreTablesWithin : ℕ → ℕ → List TableAt → Type 0
AreTablesWithin read_count row_count tables = All (IsTableWithin read_count row_count) tables

-- the rows of so many letters each, or as many as there are up to the text's end, that begin at these places of a text
abbrev pub rows_in_text : List ℕ → ℕ → List ℕ → List (List Letter)
rows_in_text text width places = map (row_at text width) places
