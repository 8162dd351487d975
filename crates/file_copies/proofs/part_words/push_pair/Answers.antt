use Rattle.std.proofs.Common.{◌∷◌, [], ap, refl, ◌∙◌}
use Rattle.std.proofs.lemmas.Result.{on_ok_weaker}
use Rattle.numbered_file.specs.OpenLists.{open_lists, with_words}
use Rattle.numbered_file.proofs.ListSteps.{words-more}
use Rattle.file_copies.proofs.part_words.push_pair.Goals as goal

pub returns : goal.returns
returns c =
    let lists = open_lists c.args.file.now in
    let binding = c.args.binding.now in
    let first = c.in_ok-add_word.ensures.lists ∙ ap (λ w. with_words lists (w ∷ [])) c.as_bytes.ensures in
    on_ok_weaker c.add_word-2.result
    (λ e. words-more lists (open_lists c.add_word.new.self) (open_lists c.add_word-2.new.self) (binding.formal ∷ []) (binding.actual ∷ [])
    (binding.formal ∷ binding.actual ∷ []) refl first (e ∙ ap (λ w. with_words (open_lists c.add_word.new.self) (w ∷ [])) c.as_bytes-2.ensures))
    c.add_word-2.ensures.lists
