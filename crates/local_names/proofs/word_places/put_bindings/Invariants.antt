use Rattle.std.proofs.Common.{length}
use Rattle.local_names.proofs.Placing.{BindingsGoOn}
use Rattle.local_names.proofs.word_places.put_bindings.Given as goal

abbrev pub invariant-bindings : goal.invariant-bindings
invariant-bindings l = BindingsGoOn l.unit_names l.names l.words l.fn.all.items l.all.items l.rest

abbrev pub decreases-bindings : goal.decreases-bindings
decreases-bindings l = length l.rest
