use Rattle.std.proofs.Common.{List}
use Rattle.blif_ast.specs.InstanceData.{InstanceData}
use Rattle.numbered_file.specs.Numbered.{file_of}
use Rattle.numbered_signals.specs.ScopeRoots.{signals_with}
use Rattle.part_numbers.specs.Expansions.{ArePaths}
use Rattle.part_numbers.specs.SignalNumbers.{AreNumbers}
use Rattle.numbered_signals.proofs.scopes.number_scopes.Given as goal

abbrev pub invariant-loop-scope : goal.invariant-loop-scope
invariant-loop-scope l = (paths : List (List InstanceData)) → ArePaths (file_of l.file) l.scopes paths
    → AreNumbers (file_of l.file) l.scopes paths l.scope-index (signals_with l.file l.roots)
