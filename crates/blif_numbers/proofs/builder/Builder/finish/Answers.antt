use Rattle.std.proofs.Common.{ap, subst, sym, ◌∙◌}
use Rattle.blif_numbers.specs.Build.{Built}
use Rattle.blif_numbers.proofs.ReaderInvariant.{kind_of_fault, line_of_fault}
use Rattle.blif_numbers.proofs.BuilderSteps.{closed-all}
use Rattle.blif_numbers.specs.BuilderData.{BuilderData, built_in}
use Rattle.numbered_file.specs.NumberedData.{NumberedData}
use Rattle.numbered_file.specs.Numbered.{models_in}
use Rattle.numbered_file.specs.OpenLists.{open_lists, IsClosed}
use Rattle.blif_numbers.proofs.builder.Builder.finish.Goals as goal

pub returns-then-has_no_model-clause-fault : goal.returns-then-has_no_model-clause-fault
returns-then-has_no_model-clause-fault c = λ number kind is. (
  sym (ap (λ (b : Built). b.models) c.in_ok-close_all.ensures.built) ∙ c.has_no_model.ensures.none c.if-has_no_model.true,
  sym (ap line_of_fault is),
  sym (ap kind_of_fault is),
)

pub returns-clause-file : goal.returns-clause-file
returns-clause-file c =
    let file_is = c.close.ensures ∙ ap (λ (x : BuilderData). x.file) c.builder.view_is in (
      ap models_in file_is ∙ ap (λ (b : Built). b.models) c.in_ok-close_all.ensures.built,
      λ none. c.has_no_model.ensures.some c.if-has_no_model.false (sym (ap models_in file_is) ∙ none),
    )

pub returns-clause-closed : goal.returns-clause-closed
returns-clause-closed c =
    let file_is = c.close.ensures ∙ ap (λ (x : BuilderData). x.file) c.builder.view_is in
    subst (λ (f : NumberedData). IsClosed (open_lists f)) (sym file_is)
    (closed-all c.in_ok-close_all.ensures.builder (ap (λ (b : Built). b.model) c.in_ok-close_all.ensures.built))
