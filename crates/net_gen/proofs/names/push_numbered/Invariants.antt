use Rattle.std.proofs.Common.{◌≡◌, ◌++◌}
use Rattle.net_gen.specs.Generated.{numbered_names}
use Rattle.net_gen.proofs.names.push_numbered.Given as goal

abbrev pub invariant-numbers : goal.invariant-numbers
invariant-numbers l = l.names ≡ l.fn.names ++ numbered_names l.letter l.number
