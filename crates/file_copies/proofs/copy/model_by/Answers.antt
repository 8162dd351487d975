use Rattle.std.proofs.Common.{ap, ◌∙◌}
use Rattle.file_copies.specs.Copied.{model_with_all}
use Rattle.numbered_file.specs.Numbered.{between, name_of, named, parts_of}
use Rattle.file_copies.proofs.Copying.{with_all-by}
use Rattle.file_copies.proofs.copy.model_by.Goals as goal

pub returns : goal.returns
returns c =
    let d = c.args.file.now in
    let at = c.args.at in
    let parts = between c.args.starts.parts at.parts_end (parts_of d) in
    c.in_ok-push_parts.ensures ∙ ap (λ m. model_with_all m parts) c.in_ok-model.ensures
    ∙ with_all-by (name_of d.names at.name) at.line (between c.args.starts.inputs at.inputs_end (named d.names d.inputs))
    (between c.args.starts.outputs at.outputs_end (named d.names d.outputs)) parts
