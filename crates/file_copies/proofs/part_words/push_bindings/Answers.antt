use Rattle.std.proofs.Common.{◌+◌, ◌∷◌, [], ap, arith, take, ◌∙◌}
use Rattle.std.proofs.lemmas.List.{take_all}
use Rattle.numbered_file.specs.OpenLists.{open_lists, with_words}
use Rattle.file_copies.specs.Pushing.{pair_words}
use Rattle.numbered_file.proofs.ListSteps.{words-more, words-none}
use Rattle.numbered_file.proofs.PartLists.{take-get}
use Rattle.file_copies.proofs.PartWords.{pair_words-push}
use Rattle.file_copies.proofs.part_words.push_bindings.Goals as goal

pub loop-index-init : goal.loop-index-init
loop-index-init c = words-none (open_lists c.args.file.now)

pub loop-index-preserved : goal.loop-index-preserved
loop-index-preserved c =
    let bindings = c.args.bindings.now in
    let i = c.loop-index.index in
    let binding = c.binding_at.result.now in
    words-more (open_lists c.args.file.now) (open_lists c.loop-index.file) (open_lists c.push_pair.new.file) (pair_words (take i bindings)) (binding.formal ∷ binding.actual ∷ [])
    (pair_words (take (i + 1) bindings)) (ap pair_words (take-get bindings i binding c.binding_at.ensures) ∙ pair_words-push (take i bindings) binding)
    c.loop-index.invariant c.in_ok-push_pair.ensures

pub returns : goal.returns
returns c = c.loop-index.invariant
    ∙ ap (λ bs. with_words (open_lists c.args.file.now) (pair_words bs)) (take_all c.loop-index.index c.args.bindings.now (omega (arith, c.loop-index-test.false)))
