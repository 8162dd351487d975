-- The tables among the parts of a file by numbers.
use Rattle.std.specs.Prelude.{ℕ, List, filter, map}
use Rattle.net_flatten.specs.Dependences.{is_table}
use Rattle.part_numbers.specs.NumberedFiles.{NumberedPartData}

-- the tables among some parts
abbrev pub tables_among : List NumberedPartData → List NumberedPartData
tables_among parts = filter (λ (p : NumberedPartData). is_table p.card) parts

-- the numbers that they drive
abbrev pub driven_by_tables : List NumberedPartData → List ℕ
driven_by_tables parts = map (λ (p : NumberedPartData). p.drives) (tables_among parts)
