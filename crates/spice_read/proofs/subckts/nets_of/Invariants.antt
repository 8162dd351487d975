use Rattle.std.proofs.Common.{◌≡◌, [], map, take}
use Rattle.std.specs.Str.{str_to_ascii_lowercase}
use Rattle.deck.specs.Numbers.{with_all}
use Rattle.spice_read.proofs.subckts.nets_of.Given as goal

abbrev pub invariant-loop-word : goal.invariant-loop-word
invariant-loop-word l = l.nets.keys ≡ with_all [] (map (λ w. str_to_ascii_lowercase w.now) (take l.word-index l.words))
