-- Tables by their indices among the parts of a file by numbers, with their levels.
use Rattle.std.specs.Prelude.{ℕ, ◌≡◌, List, map, Some, slice_get}
use Rattle.net_flatten.specs.declared.table_order.LevelledTable.{LevelledTable}
use Rattle.net_flatten.specs.Dependences.{level_at}
use Rattle.part_numbers.specs.NumberedFiles.{NumberedPartData}

-- the parts at these indices are these tables, and each has its level
pub record AreLevelledTables (levels : List ℕ) (parts tables : List NumberedPartData) (levelled : List LevelledTable) : Type 0 where
  pub are_tables : map (λ (t : LevelledTable). slice_get parts t.part) levelled ≡ map Some tables
  pub have_levels : map (λ (t : LevelledTable). t.level) levelled ≡ map (λ (p : NumberedPartData). level_at levels p.drives) tables
