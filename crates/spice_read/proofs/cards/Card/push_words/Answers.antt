use Rattle.std.proofs.Common.{◌∙◌, ◌++◌, sym, ap, refl, rules, map, length, take, drop, ◌-◌}
use Rattle.std.specs.Str.{str_to_ascii_lowercase}
use Rattle.dom_base.specs.Lines.{unindented, words}
use Rattle.spice_read.proofs.FirstWords.{unindented-twice, words-unindented}
use Rattle.spice_read.proofs.LowerCase.{words-lower}
use Rattle.spice_read.proofs.WordLists.{found-whole, next_shorter, nothing_left, word_found}
use Rattle.spice_read.proofs.cards.Card.push_words.Goals as goal

pub words-init : goal.words-init
words-init c =
    let line = c.args.line.now in
    let lower = str_to_ascii_lowercase in
    record {
      no_indent = ap unindented c.unindent-rest.ensures ∙ unindented-twice line ∙ sym c.unindent-rest.ensures;
      number = refl;
      words_are = ap (λ l. c.args.self.now.words ++ words (lower l)) c.unindent-rest.ensures
          ∙ ap (λ l. c.args.self.now.words ++ l) (words-lower (unindented line) ∙ ap (λ l. map lower l) (words-unindented line) ∙ sym (words-lower line));
    }

pub words-smaller : goal.words-smaller
words-smaller c = next_shorter c.words.rest.now c.front_piece-unclean.result.0.now _ c.words.invariant.no_indent (search rules) c.front_piece-unclean.ensures.word c.unindent-rest-in-words.ensures

pub words-preserved : goal.words-preserved
words-preserved c =
    let rest = c.words.rest.now in
    let word = c.front_piece-unclean.result.0.now in
    record {
      no_indent = ap unindented c.unindent-rest-in-words.ensures ∙ unindented-twice (take (length rest - length word) (drop (length word) rest)) ∙ sym c.unindent-rest-in-words.ensures;
      number = c.in_ok-push_word.ensures.number ∙ c.words.invariant.number;
      words_are = word_found c.words.self.words _ rest word _ c.words.invariant.no_indent (search rules) c.front_piece-unclean.ensures.word c.in_ok-push_word.ensures.words c.unindent-rest-in-words.ensures ∙ c.words.invariant.words_are;
    }

pub returns-clause-words : goal.returns-clause-words
returns-clause-words c = found-whole c.words.self.words _ c.words.rest.now (nothing_left c.words.rest.now c.is_empty.result c.is_empty.ensures c.words-test.false) c.words.invariant.words_are
