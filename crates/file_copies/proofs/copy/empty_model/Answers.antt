use Rattle.std.proofs.Common.{ap, ◌∙◌}
use Rattle.numbered_file.specs.Numbered.{between, name_of, named}
use Rattle.file_copies.proofs.copy.empty_model.Goals as goal

pub returns : goal.returns
returns c =
    let at = c.args.at in
    let starts = c.args.starts in
    let names = c.names-names.ensures in
    let inputs = c.in_ok-names_between.ensures ∙ (λ k. between starts.inputs at.inputs_end (named (names k) (c.inputs.ensures k))) in
    let outputs = c.in_ok-names_between-2.ensures ∙ (λ k. between starts.outputs at.outputs_end (named (names k) (c.outputs.ensures k))) in
    λ i. record {
      name = (c.in_ok-name_at.ensures ∙ ap (λ ns. name_of ns at.name) names) i;
      inputs = inputs i;
      outputs = outputs i;
      tables = c.new.ensures.items i;
      latches = c.new-2.ensures.items i;
      instances = c.new-3.ensures.items i;
      line = c.from.ensures i;
    }
