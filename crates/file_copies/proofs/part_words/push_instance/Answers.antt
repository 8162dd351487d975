use Rattle.std.proofs.Common.{◌∷◌, [], ap, refl, ◌∙◌}
use Rattle.std.proofs.lemmas.Result.{on_ok_weaker}
use Rattle.numbered_file.specs.OpenLists.{open_lists, with_words}
use Rattle.file_copies.specs.Pushing.{pair_words}
use Rattle.numbered_file.proofs.ListSteps.{words-more}
use Rattle.file_copies.proofs.PartWords.{instance-pushed}
use Rattle.file_copies.proofs.part_words.push_instance.Goals as goal

pub returns : goal.returns
returns c =
    let lists = open_lists c.args.file.now in
    let instance = c.args.instance.now in
    let one = open_lists c.add_word.new.self in
    let filled = open_lists c.push_bindings.new.file in
    let first = c.in_ok-add_word.ensures.lists ∙ ap (λ w. with_words lists (w ∷ [])) c.unit_of.ensures in
    let words = words-more lists one filled (instance.unit ∷ []) (pair_words instance.bindings) (instance.unit ∷ pair_words instance.bindings) refl first
    (c.in_ok-push_bindings.ensures ∙ ap (λ bs. with_words one (pair_words bs)) c.bindings_of.ensures) in
    on_ok_weaker c.add_part.result
    (λ e. instance-pushed lists filled (open_lists c.add_part.new.self) instance c.in_ok-line.line c.in_ok-line.ensures words e c.requires.words c.requires.rows)
    c.add_part.ensures.lists
