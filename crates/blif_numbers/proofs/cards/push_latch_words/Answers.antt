use Rattle.std.proofs.Common.{◌∷◌, [], ap, map, refl, ◌∙◌}
use Rattle.std.specs.Prelude.{slice_index_or}
use Rattle.std.specs.Option.{option_to_list}
use Rattle.std.proofs.lemmas.Result.{on_ok_weaker}
use Rattle.blif_numbers.specs.LatchWords.{latch_words, signal_in}
use Rattle.numbered_file.specs.OpenLists.{open_lists, with_words}
use Rattle.numbered_file.proofs.ListSteps.{grows-on, words-more}
use Rattle.blif_numbers.proofs.cards.push_latch_words.Goals as goal

pub returns-clause-lists : goal.returns-clause-lists
returns-clause-lists c =
    let words = map (λ w. w.now) c.args.words.now in
    let lists = open_lists c.args.file.now in
    let input = slice_index_or words 1 [] in
    let output = slice_index_or words 2 [] in
    let first = c.in_ok-add_word.ensures.lists ∙ ap (λ w. with_words lists (w ∷ [])) c.word_at.ensures in
    let second = words-more lists (open_lists c.add_word.new.self) (open_lists c.add_word-2.new.self) (input ∷ []) (output ∷ []) (input ∷ output ∷ []) refl first
    (c.in_ok-add_word-2.ensures.lists ∙ ap (λ w. with_words (open_lists c.add_word.new.self) (w ∷ [])) c.word_at-2.ensures) in
    on_ok_weaker c.push_signal.result
    (λ e. words-more lists (open_lists c.add_word-2.new.self) (open_lists c.push_signal.new.file) (input ∷ output ∷ []) (option_to_list (signal_in words)) (latch_words words) refl second e)
    c.push_signal.ensures.lists

pub returns-clause-grown : goal.returns-clause-grown
returns-clause-grown c = on_ok_weaker c.push_signal.result
    (λ g. grows-on c.args.file.now.names c.add_word-2.new.self.names c.push_signal.new.file.names
    (grows-on c.args.file.now.names c.add_word.new.self.names c.add_word-2.new.self.names c.in_ok-add_word.ensures.grown c.in_ok-add_word-2.ensures.grown) g) c.push_signal.ensures.grown
