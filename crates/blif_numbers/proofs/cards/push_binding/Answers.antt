use Rattle.std.proofs.Common.{◌∷◌, [], ap, refl, ◌∙◌}
use Rattle.std.proofs.lemmas.Result.{on_ok_weaker}
use Rattle.blif_ast.specs.Cards.{actual_of, formal_of}
use Rattle.numbered_file.specs.OpenLists.{open_lists, with_words}
use Rattle.numbered_file.proofs.ListSteps.{grows-on, words-more}
use Rattle.blif_numbers.proofs.cards.push_binding.Goals as goal

pub returns-clause-lists : goal.returns-clause-lists
returns-clause-lists c =
    let word = c.args.word.now in
    let first = c.in_ok-add_word.ensures.lists ∙ ap (λ w. with_words (open_lists c.args.file.now) (w ∷ [])) c.sides.ensures.formal in
    on_ok_weaker c.add_word-2.result
    (λ e. words-more (open_lists c.args.file.now) (open_lists c.add_word.new.self) (open_lists c.add_word-2.new.self) (formal_of word ∷ []) (actual_of word ∷ [])
    (formal_of word ∷ actual_of word ∷ []) refl first (e ∙ ap (λ w. with_words (open_lists c.add_word.new.self) (w ∷ [])) c.sides.ensures.actual)) c.add_word-2.ensures.lists

pub returns-clause-grown : goal.returns-clause-grown
returns-clause-grown c = on_ok_weaker c.add_word-2.result
    (λ e. grows-on c.args.file.now.names c.add_word.new.self.names c.add_word-2.new.self.names c.in_ok-add_word.ensures.grown c.add_word-2.ensures.grown) c.add_word-2.ensures.lists
