use Rattle.std.proofs.Common.{◌≡◌, length, map}
use Rattle.std.specs.String.{string_bytes}
use Rattle.std.specs.List.{list_all}
use Rattle.command_words.specs.Written.{takes, written}
use Rattle.command_words.proofs.items.takes_all.Given as goal

abbrev pub invariant-items : goal.invariant-items
invariant-items l =
    list_all (takes (map (λ n. n.now) l.fn.valued) (map (λ n. n.now) l.fn.flags)) (written (map string_bytes l.fn.words))
    ≡ list_all (takes (map (λ n. n.now) l.fn.valued) (map (λ n. n.now) l.fn.flags)) (written (map string_bytes l.left))

abbrev pub decreases-items : goal.decreases-items
decreases-items l = length l.left
