-- The places of all inputs, outputs and words of a file of BLIF (Berkeley Logic Interchange Format) by numbers.
use Rattle.std.specs.Prelude.{ℕ, List, length}
use Rattle.numbered_file.specs.NumberedData.{NumberedData}
use Rattle.local_names.specs.declared.names_of_file.Placed.{Placed}
use Rattle.local_names.specs.Placed.{AreInputsPlaced, AreOutputsPlaced, AreWordsPlaced}

pub record AreAllPlaced (d : NumberedData) (models : List (List ℕ)) (p : Placed) : Type 0 where
  pub inputs : AreInputsPlaced d models (length d.models) p.inputs.items
  pub outputs : AreOutputsPlaced d models (length d.models) p.outputs.items
  pub words : AreWordsPlaced d models (length d.parts) p.words.items
