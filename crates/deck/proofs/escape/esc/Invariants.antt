use Rattle.std.proofs.Common.{◌≡◌, take}
use Rattle.deck.specs.Escapes.{escaped}
use Rattle.deck.proofs.escape.esc.Given as goal

abbrev pub invariant-loop-byte : goal.invariant-loop-byte
invariant-loop-byte l = l.text.items ≡ escaped (take l.byte-index l.name)
