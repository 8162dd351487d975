-- Tables on loops, by numbers.
use Rattle.std.specs.Prelude.{◌≡◌, true, List, ℕ}
use Rattle.graph_order.specs.Orders.{LeadsOn}
use Rattle.net_flatten.specs.Dependences.{is_table}
use Rattle.part_numbers.specs.NumberedFiles.{NumberedPartData}

-- a part is a table whose signal depends on itself
abbrev pub IsOnLoop : List (List ℕ) → List NumberedPartData → NumberedPartData → Type 0
IsOnLoop nodes before p = (is_table p.card ≡ true) × LeadsOn nodes p.drives p.drives
