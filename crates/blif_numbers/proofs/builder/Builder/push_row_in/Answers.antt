use Rattle.std.proofs.Common.{ap, map, Some, ◌∙◌}
use Rattle.blif_numbers.specs.BuilderData.{BuilderData, value_after}
use Rattle.numbered_file.specs.NumberedData.{NumberedData}
use Rattle.numbered_file.specs.OpenLists.{OpenLists, open_lists, with_row}
use Rattle.blif_numbers.specs.declared.open_model.OpenModel.{OpenModel}
use Rattle.blif_numbers.specs.declared.open_model.OpenTable.{OpenTable}
use Rattle.blif_numbers.proofs.BuilderSteps.{row-step}
use Rattle.blif_numbers.proofs.builder.Builder.push_row_in.Goals as goal

pub returns : goal.returns
returns c =
    let file = c.in_ok-add_row.ensures in
    let same_file = ap (λ (x : BuilderData). x.file) c.self.view_is in
    let table_is = c.after_row.ensures
    ∙ ap (λ letter. record { width = c.args.table.width; value = value_after c.args.table.value letter; line = c.args.table.line }) c.last_letter.ensures in
    let open_is = c.with_table-after.ensures ∙ ap (λ (t : OpenTable). record { name = c.args.model.name; line = c.args.model.line; table = Some t }) table_is in
    let done = row-step c.args.place (map (λ w. w.now) c.args.words.now) c.requires.builder c.requires.model c.requires.table c.requires.clean c.requires.stands
    (file.names ∙ ap (λ (f : NumberedData). f.names) same_file) (file.lists ∙ ap (λ f. with_row (open_lists f) c.args.place) same_file)
    (ap (λ (m : OpenModel). Some m) open_is) in
    record {
      built = done.built_is;
      builder = done.builder;
      text = ap (λ (l : OpenLists). l.text) file.lists ∙ ap (λ (f : NumberedData). f.text) same_file;
    }
