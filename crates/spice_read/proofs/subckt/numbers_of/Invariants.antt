use Rattle.std.proofs.Common.{◌≡◌, map, take}
use Rattle.std.specs.Str.{str_to_ascii_lowercase}
use Rattle.deck.specs.Numbers.{with_all}
use Rattle.spice_read.specs.ReadSubckts.{numbers_in}
use Rattle.spice_read.proofs.subckt.numbers_of.Given as goal

abbrev pub invariant-loop-word : goal.invariant-loop-word
invariant-loop-word l =
    (l.numbers.items ≡ numbers_in l.fn.subckt.nets (map (λ w. str_to_ascii_lowercase w.now) (take l.word-index l.words)))
    × (l.subckt ≡ record l.fn.subckt { nets = with_all l.fn.subckt.nets (map (λ w. str_to_ascii_lowercase w.now) (take l.word-index l.words)) })
