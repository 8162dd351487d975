use Rattle.std.proofs.Common.{rules, ap}
use Rattle.blif_ast.specs.BlifFileData.{BlifFileData}
use Rattle.blif_ast.proofs.FileLines.{flat_map_twice}
use Rattle.blif_ast.proofs.print.Goals as goal

pub returns : goal.returns
returns c = let same = ap (λ (f : BlifFileData). f.models) c.file.view_is in search (rules, flat_map_twice, same)
