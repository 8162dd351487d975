use Rattle.numbered_file.specs.Places.{first_part}
use Rattle.local_names.specs.Placed.{AreInputsPlaced, AreOutputsPlaced, AreWordsPlaced}
use Rattle.local_names.proofs.names_of_file.place_all.Given as goal

pub record ArePlaced (l : goal.Live-loop-model) : Type 0 where
  pub inputs : AreInputsPlaced l.file l.lookup.models.now.lists l.model l.placed.inputs.items
  pub outputs : AreOutputsPlaced l.file l.lookup.models.now.lists l.model l.placed.outputs.items
  pub words : AreWordsPlaced l.file l.lookup.models.now.lists (first_part l.file l.model) l.placed.words.items

abbrev pub invariant-loop-model : goal.invariant-loop-model
invariant-loop-model l = ArePlaced l
