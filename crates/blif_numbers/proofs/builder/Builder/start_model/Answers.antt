use Rattle.std.proofs.Common.{ap, refl, map, Some, ◌∙◌}
use Rattle.blif_numbers.specs.BuilderData.{BuilderData}
use Rattle.numbered_file.specs.NumberedData.{NumberedData}
use Rattle.numbered_file.specs.OpenLists.{OpenLists, open_lists}
use Rattle.blif_numbers.proofs.BuilderSteps.{start-step}
use Rattle.blif_numbers.proofs.builder.Builder.start_model.Goals as goal

pub returns : goal.returns
returns c =
    let file = c.in_ok-name.ensures in
    let same_file = ap (λ (x : BuilderData). x.file) c.self.view_is in
    let done = start-step c.in_ok-name.name c.args.line (map (λ w. w.now) c.args.words.now) c.requires.builder c.requires.none
    (file.number ∙ ap (λ w. Some w) c.word_at.ensures) (file.lists ∙ ap open_lists same_file) refl in
    record {
      built = done.built_is;
      builder = done.builder;
      text = ap (λ (l : OpenLists). l.text) file.lists ∙ ap (λ (f : NumberedData). f.text) same_file;
    }
