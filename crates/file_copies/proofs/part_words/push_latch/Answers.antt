use Rattle.std.proofs.Common.{◌∷◌, [], ap, refl, ◌∙◌}
use Rattle.std.proofs.lemmas.Result.{on_ok_weaker}
use Rattle.numbered_file.specs.OpenLists.{open_lists, with_part, with_words}
use Rattle.file_copies.specs.Pushing.{signal_words}
use Rattle.numbered_file.proofs.ListSteps.{words-more}
use Rattle.file_copies.proofs.PartWords.{latch-pushed}
use Rattle.file_copies.proofs.part_words.push_latch.Goals as goal

pub returns : goal.returns
returns c =
    let lists = open_lists c.args.file.now in
    let latch = c.args.latch.now in
    let one = open_lists c.add_word.new.self in
    let two = open_lists c.add_word-2.new.self in
    let filled = open_lists c.push_signal.new.file in
    let first = c.in_ok-add_word.ensures.lists ∙ ap (λ w. with_words lists (w ∷ [])) c.as_bytes.ensures in
    let second = words-more lists one two (latch.input ∷ []) (latch.output ∷ []) (latch.input ∷ latch.output ∷ []) refl first
    (c.in_ok-add_word-2.ensures.lists ∙ ap (λ w. with_words one (w ∷ [])) c.as_bytes-2.ensures) in
    let words = words-more lists two filled (latch.input ∷ latch.output ∷ []) (signal_words latch.control) (latch.input ∷ latch.output ∷ signal_words latch.control) refl second
    c.in_ok-push_signal.ensures in
    on_ok_weaker c.add_part.result
    (λ e. latch-pushed lists filled (open_lists c.add_part.new.self) latch c.in_ok-line.line c.in_ok-line.ensures words
    (e ∙ ap (λ k. with_part filled k c.in_ok-line.line) c.latch_kind-kind.ensures) c.requires.words c.requires.rows) c.add_part.ensures.lists
