use Rattle.std.proofs.Common.{◌≡◌, false, take}
use Rattle.std.specs.List.{list_any}
use Rattle.command_words.specs.Written.{is_same}
use Rattle.command_words.proofs.items.is_among.Given as goal

abbrev pub invariant-loop-name : goal.invariant-loop-name
invariant-loop-name l = list_any (λ n. is_same l.fn.word n.now) (take l.name-index l.fn.names) ≡ false
