use Rattle.std.proofs.Common.{[], ap, subst, sym, ◌∙◌}
use Rattle.numbered_file.specs.Numbered.{name_of}
use Rattle.numbered_file.specs.OpenLists.{open_lists, with_inputs, with_outputs}
use Rattle.file_copies.specs.Pushing.{IsPushing, IsReached, state}
use Rattle.file_copies.proofs.ModelsToCome.{model-left, model-pushed, model-pushing, model-there}
use Rattle.file_copies.proofs.numbering.push_model.Goals as goal

pub push_parts-requires : goal.push_parts-requires
push_parts-requires c =
    let m = c.args.model.now in
    let lists = open_lists c.args.file.now in
    let opened = open_lists c.push_inputs.new.file in
    let filled = open_lists c.push_outputs.new.file in
    subst (IsPushing) (λ i. state filled (sym c.rest_of.ensures.tables i) (sym c.rest_of.ensures.latches i) (sym c.rest_of.ensures.instances i) c.args.letters.now)
    (model-pushing lists opened filled m c.requires.closed
    (c.in_ok-push_inputs.ensures ∙ ap (with_inputs lists) c.inputs_of.ensures) (c.in_ok-push_outputs.ensures ∙ ap (with_outputs opened) c.outputs_of.ensures)
    c.args.letters.now c.requires.good c.requires.letters c.requires.there)

pub returns-clause-lists : goal.returns-clause-lists
returns-clause-lists c =
    let m = c.args.model.now in
    let lists = open_lists c.args.file.now in
    let opened = open_lists c.push_inputs.new.file in
    let filled = open_lists c.push_outputs.new.file in
    let parted = open_lists c.push_parts.new.file in
    model-pushed lists opened filled m c.requires.closed
    (c.in_ok-push_inputs.ensures ∙ ap (with_inputs lists) c.inputs_of.ensures) (c.in_ok-push_outputs.ensures ∙ ap (with_outputs opened) c.outputs_of.ensures)
    parted c.args.letters.now c.in_ok-left.left.now
    (subst (λ s. IsReached s (state parted [] [] [] c.in_ok-left.left.now))
    (λ i. state filled (c.rest_of.ensures.tables i) (c.rest_of.ensures.latches i) (c.rest_of.ensures.instances i) c.args.letters.now) c.in_ok-left.ensures)
    (open_lists c.close_model.new.file) c.name_of.result.now c.in_ok-line.line c.name_of.ensures c.in_ok-line.ensures c.in_ok-close_model.ensures

pub returns-clause-left : goal.returns-clause-left
returns-clause-left c =
    let m = c.args.model.now in
    let lists = open_lists c.args.file.now in
    let opened = open_lists c.push_inputs.new.file in
    let filled = open_lists c.push_outputs.new.file in
    let parted = open_lists c.push_parts.new.file in
    model-left lists opened filled m c.requires.closed
    (c.in_ok-push_inputs.ensures ∙ ap (with_inputs lists) c.inputs_of.ensures) (c.in_ok-push_outputs.ensures ∙ ap (with_outputs opened) c.outputs_of.ensures)
    parted c.args.letters.now c.in_ok-left.left.now
    (subst (λ s. IsReached s (state parted [] [] [] c.in_ok-left.left.now))
    (λ i. state filled (c.rest_of.ensures.tables i) (c.rest_of.ensures.latches i) (c.rest_of.ensures.instances i) c.args.letters.now) c.in_ok-left.ensures)

pub returns-clause-there : goal.returns-clause-there
returns-clause-there c =
    let m = c.args.model.now in
    let lists = open_lists c.args.file.now in
    let opened = open_lists c.push_inputs.new.file in
    let filled = open_lists c.push_outputs.new.file in
    let parted = open_lists c.push_parts.new.file in
    model-there lists opened filled m c.requires.closed
    (c.in_ok-push_inputs.ensures ∙ ap (with_inputs lists) c.inputs_of.ensures) (c.in_ok-push_outputs.ensures ∙ ap (with_outputs opened) c.outputs_of.ensures)
    parted c.args.letters.now c.in_ok-left.left.now
    (subst (λ s. IsReached s (state parted [] [] [] c.in_ok-left.left.now))
    (λ i. state filled (c.rest_of.ensures.tables i) (c.rest_of.ensures.latches i) (c.rest_of.ensures.instances i) c.args.letters.now) c.in_ok-left.ensures)
