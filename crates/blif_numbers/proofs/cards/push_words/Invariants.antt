use Rattle.std.proofs.Common.{◌≡◌, map, take}
use Rattle.numbered_file.specs.NameNumbers.{Grows}
use Rattle.numbered_file.specs.OpenLists.{open_lists, with_words}
use Rattle.blif_numbers.proofs.cards.push_words.Given as goal

pub record Pushes (l : goal.Live-loop-index) : Type 0 where
  pub lists : open_lists l.file ≡ with_words (open_lists l.fn.file) (take l.index (map (λ w. w.now) l.words))
  pub grown : Grows l.fn.file.names l.file.names

abbrev pub invariant-loop-index : goal.invariant-loop-index
invariant-loop-index l = Pushes l
