use Rattle.std.proofs.Common.{◌≡◌, length, map}
use Rattle.std.specs.String.{string_bytes}
use Rattle.command_words.specs.Items.{all_wanted}
use Rattle.command_words.proofs.items.first_wanted.Given as goal

abbrev pub invariant-items : goal.invariant-items
invariant-items l = all_wanted l.fn.wanted (map string_bytes l.fn.words) ≡ all_wanted l.fn.wanted (map string_bytes l.left)

abbrev pub decreases-items : goal.decreases-items
decreases-items l = length l.left
