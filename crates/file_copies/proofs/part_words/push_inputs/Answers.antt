use Rattle.std.proofs.Common.{◌+◌, ◌∷◌, [], ap, arith, take, ◌∙◌}
use Rattle.std.proofs.lemmas.List.{take_all}
use Rattle.numbered_file.specs.OpenLists.{open_lists, with_inputs}
use Rattle.numbered_file.proofs.ListSteps.{inputs-more, inputs-none}
use Rattle.numbered_file.proofs.PartLists.{take-get}
use Rattle.file_copies.proofs.part_words.push_inputs.Goals as goal

pub loop-index-init : goal.loop-index-init
loop-index-init c = inputs-none (open_lists c.args.file.now)

pub loop-index-preserved : goal.loop-index-preserved
loop-index-preserved c =
    let names = c.args.names.now in
    let i = c.loop-index.index in
    let name = c.name_at.result.now in
    inputs-more (open_lists c.args.file.now) (open_lists c.loop-index.file) (open_lists c.add_input.new.self) (take i names) (name ∷ []) (take (i + 1) names)
    (take-get names i name c.name_at.ensures) c.loop-index.invariant c.in_ok-add_input.ensures.lists

pub returns : goal.returns
returns c =
    c.loop-index.invariant ∙ ap (with_inputs (open_lists c.args.file.now)) (take_all c.loop-index.index c.args.names.now (omega (arith, c.loop-index-test.false)))
