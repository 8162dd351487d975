-- The letters of the rows of a file of BLIF (Berkeley Logic Interchange Format), one behind the other.
use Rattle.std.specs.Prelude.{ℕ, List, map}
use Rattle.std.specs.List.{flat_map}
use Rattle.blif_ast.specs.declared.letter.Letter.{Letter}
use Rattle.blif_ast.specs.BlifFileData.{BlifFileData}
use Rattle.blif_ast.specs.BlifModelData.{BlifModelData}
use Rattle.blif_ast.specs.Printed.{letter_byte}
use Rattle.blif_ast.specs.TableData.{TableData}

-- the letters of rows, as bytes
abbrev pub rows_letters : List (List Letter) → List ℕ
rows_letters rows = flat_map (map letter_byte) rows

-- those of the rows of tables, and of the tables of models
abbrev pub tables_letters : List TableData → List ℕ
tables_letters tables = flat_map (λ t. rows_letters t.rows) tables

abbrev pub models_letters : List BlifModelData → List ℕ
models_letters models = flat_map (λ m. tables_letters m.tables) models

-- those of all rows of a file
abbrev pub file_letters : BlifFileData → List ℕ
file_letters f = models_letters f.models
