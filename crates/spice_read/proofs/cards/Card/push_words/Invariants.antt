use Rattle.std.proofs.Common.{◌≡◌, ◌++◌, length}
use Rattle.std.specs.Str.{str_to_ascii_lowercase}
use Rattle.dom_base.specs.Lines.{unindented, words}
use Rattle.spice_read.proofs.cards.Card.push_words.Given as goal

pub record HasWords (l : goal.Live-words) : Type 0 where
  pub no_indent : unindented l.rest ≡ l.rest
  pub number : l.self.number ≡ l.fn.self.number
  pub words_are : l.self.words ++ words (str_to_ascii_lowercase l.rest) ≡ l.fn.self.words ++ words (str_to_ascii_lowercase l.fn.line)

abbrev pub invariant-words : goal.invariant-words
invariant-words l = HasWords l

abbrev pub decreases-words : goal.decreases-words
decreases-words l = length l.rest
