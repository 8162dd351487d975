use Rattle.std.proofs.Common.{◌≡◌, take}
use Rattle.numbered_file.specs.Numbered.{models_from, named, parts_of}
use Rattle.numbered_file.specs.OpenLists.{inputs_end, outputs_end, parts_end}
use Rattle.file_copies.proofs.copy.to_file.Given as goal

pub record Copies (l : goal.Live-loop-index) : Type 0 where
  pub models : l.models.items ≡ models_from l.file.names (named l.file.names l.file.inputs) (named l.file.names l.file.outputs) (parts_of l.file) 0 0 0 (take l.index l.all)
  pub inputs : l.starts.inputs ≡ inputs_end 0 (take l.index l.all)
  pub outputs : l.starts.outputs ≡ outputs_end 0 (take l.index l.all)
  pub parts : l.starts.parts ≡ parts_end 0 (take l.index l.all)

abbrev pub invariant-loop-index : goal.invariant-loop-index
invariant-loop-index l = Copies l
