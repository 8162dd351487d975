use Rattle.std.proofs.Common.{ap, Some, ◌∙◌}
use Rattle.blif_numbers.specs.BuilderData.{BuilderData, is_on}
use Rattle.numbered_file.specs.NumberedData.{NumberedData}
use Rattle.numbered_file.specs.OpenLists.{OpenLists, open_lists, with_part}
use Rattle.blif_numbers.specs.declared.open_model.OpenModel.{OpenModel}
use Rattle.numbered_file.specs.declared.parts.PartKind.TheVariants as at
use Rattle.blif_numbers.proofs.BuilderSteps.{close-table}
use Rattle.blif_numbers.proofs.builder.Builder.close_table_in.Goals as goal

pub returns : goal.returns
returns c =
    let file = c.in_ok-add_part.ensures in
    let same_file = ap (λ (x : BuilderData). x.file) c.self.view_is in
    let done = close-table c.requires.builder c.requires.model c.requires.table
    (file.names ∙ ap (λ (f : NumberedData). f.names) same_file)
    (file.lists ∙ ap (λ k. with_part (open_lists c.self.inside.file) k c.args.table.line) c.kind.ensures
    ∙ ap (λ f. with_part (open_lists f) (at.Table (is_on c.args.table.value)) c.args.table.line) same_file)
    (ap (λ (m : OpenModel). Some m) c.with_table-after.ensures) in
    record {
      built = done.built_is;
      builder = done.builder;
      text = ap (λ (l : OpenLists). l.text) file.lists ∙ ap (λ (f : NumberedData). f.text) same_file;
    }
