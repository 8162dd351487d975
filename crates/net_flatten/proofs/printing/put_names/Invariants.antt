use Rattle.std.proofs.Common.{◌≡◌, ◌++◌, ◌∷◌, map, take}
use Rattle.std.specs.List.{flat_map}
use Rattle.net_flatten.specs.OneModel.{name_at}
use Rattle.net_flatten.proofs.printing.put_names.Given as goal

abbrev pub invariant-loop-signal : goal.invariant-loop-signal
invariant-loop-signal l = l.text.items ≡ l.fn.text.items ++ flat_map (λ word. 32 ∷ word) (map (name_at l.fn.network) (take l.signal-index l.fn.signals))
