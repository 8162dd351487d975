use Rattle.std.proofs.Common.{ℕ, List, ◌++◌, take}
use Rattle.model_calls.specs.Scans.{AreFirsts}
use Rattle.model_calls.proofs.formals.add_all.Given as goal

abbrev pub invariant-loop-name : goal.invariant-loop-name
invariant-loop-name l = (seen : List (List ℕ)) → AreFirsts seen l.fn.names → AreFirsts (seen ++ take l.name-index l.list) l.names
