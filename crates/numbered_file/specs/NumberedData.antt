-- A file of BLIF by numbers, as plain data over lists.
use Rattle.std.specs.Prelude.{ℕ, List}
use Rattle.numbered_file.specs.declared.parts.PartAt.{PartAt}
use Rattle.numbered_file.specs.declared.parts.ModelAt.{ModelAt}

-- a file by numbers as plain data over lists: the text; its names, each once, in the order in which they are first seen; by their
-- numbers the inputs and outputs of all models and the words of all parts; the places of the text at which the rows of all tables
-- begin; all parts; all models
pub record NumberedData : Type 0 where
  pub text : List ℕ
  pub names : List (List ℕ)
  pub inputs : List ℕ
  pub outputs : List ℕ
  pub words : List ℕ
  pub rows : List ℕ
  pub parts : List PartAt
  pub models : List ModelAt
