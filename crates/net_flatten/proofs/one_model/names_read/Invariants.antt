use Rattle.std.proofs.Common.{◌≡◌, map, take}
use Rattle.net_flatten.specs.OneModel.{name_at}
use Rattle.net_flatten.proofs.one_model.names_read.Given as goal

abbrev pub invariant-loop-signal : goal.invariant-loop-signal
invariant-loop-signal l = l.names.items ≡ map (name_at l.fn.network) (take l.signal-index l.fn.signals)
