use Rattle.std.proofs.Common.{ap, refl, length, subst, sym, ◌∙◌, ◌<◌}
use Rattle.blif_numbers.specs.BuilderData.{BuilderData}
use Rattle.numbered_file.specs.NumberedData.{NumberedData}
use Rattle.numbered_file.specs.Numbered.{name_of}
use Rattle.numbered_file.specs.OpenLists.{OpenLists, open_lists, with_model}
use Rattle.blif_numbers.proofs.BuilderSteps.{close-model, open_model_of}
use Rattle.blif_numbers.proofs.builder.Builder.close_model_in.Goals as goal

pub add_model-requires : goal.add_model-requires
add_model-requires c =
    subst (λ (x : BuilderData). c.args.model.name < length x.file.names) (sym c.self.view_is) (open_model_of c.requires.builder c.requires.model)

pub returns : goal.returns
returns c =
    let file = c.in_ok-add_model.ensures in
    let same_file = ap (λ (x : BuilderData). x.file) c.self.view_is in
    let done = close-model c.requires.builder c.requires.model c.requires.table
    (file.names ∙ ap (λ (f : NumberedData). f.names) same_file)
    (file.lists ∙ ap (λ (f : NumberedData). with_model (open_lists f) (name_of f.names c.args.model.name) c.args.model.line) same_file)
    refl in
    record {
      built = done.built_is;
      builder = done.builder;
      text = ap (λ (l : OpenLists). l.text) file.lists ∙ ap (λ (f : NumberedData). f.text) same_file;
    }
