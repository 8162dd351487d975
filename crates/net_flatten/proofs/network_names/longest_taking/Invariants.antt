use Rattle.std.proofs.Common.{map, take}
use Rattle.std.specs.Prelude.{All}
use Rattle.net_flatten.specs.NetworkNames.{IsNoLongerTaking}
use Rattle.net_flatten.proofs.network_names.longest_taking.Given as goal

abbrev pub invariant-loop-index : goal.invariant-loop-index
invariant-loop-index l = All (IsNoLongerTaking l.longest) (take l.index (map (λ k. k.now) l.names))
