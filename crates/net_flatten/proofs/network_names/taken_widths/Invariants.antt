use Rattle.std.proofs.Common.{map}
use Rattle.net_flatten.proofs.NetworkNames.{AreMarked}
use Rattle.net_flatten.proofs.network_names.taken_widths.Given as goal

abbrev pub invariant-loop-index : goal.invariant-loop-index
invariant-loop-index l = AreMarked (map (λ k. k.now) l.names) l.index l.marks.items
