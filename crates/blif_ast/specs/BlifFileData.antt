-- A file of BLIF, the Berkeley Logic Interchange Format, as plain data over lists.
use Rattle.std.specs.Prelude.{List}
use Rattle.blif_ast.specs.BlifModelData.{BlifModelData}

-- a file as plain data: its models in order, the main model first
pub record BlifFileData : Type 0 where
  pub models : List BlifModelData
