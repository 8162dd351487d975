use Rattle.std.proofs.Common.{◌≡◌, ◌++◌, take}
use Rattle.spice_text.specs.Text.{device_cards}
use Rattle.spice_text.proofs.cards.put_cards.Given as goal

abbrev pub invariant-loop-index : goal.invariant-loop-index
invariant-loop-index l = l.text.items ≡ l.fn.text.items ++ device_cards l.nets (take l.index l.devices)
