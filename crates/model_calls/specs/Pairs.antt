-- All pairs of a path and a name of its model in a file of BLIF, the Berkeley Logic Interchange Format, in order: their
-- indices number them.
use Rattle.std.specs.Prelude.{List, map}
use Rattle.std.specs.List.{flat_map}
use Rattle.std.specs.Set.{unique_keys}
use Rattle.blif_ast.specs.BlifFileData.{BlifFileData}
use Rattle.blif_ast.specs.Cards.{same}
use Rattle.model_calls.specs.Occurrences.{Occurrence, names_of, occurrences}
use Rattle.model_calls.specs.Signals.{Signal}

-- the pairs of an occurrence: each name of its model once
abbrev pub pairs_of : Occurrence → List Signal
pairs_of p = map (λ name. record { path = p.path; name = name }) (unique_keys same (names_of p.model))

abbrev pub pairs : BlifFileData → List Signal
pairs f = flat_map pairs_of (occurrences f)
