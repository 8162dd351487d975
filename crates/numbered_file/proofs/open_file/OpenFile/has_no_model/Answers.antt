use Rattle.std.proofs.Common.{◌≡◌, ◌==◌, true, false, length, sym, ap, ◌∙◌}
use Rattle.numbered_file.specs.Numbered.{models_in}
use Rattle.numbered_file.proofs.Growth.{models-none}
use Rattle.numbered_file.proofs.open_file.OpenFile.has_no_model.Goals as goal

pub returns-clause-some : goal.returns-clause-some
returns-clause-some c = λ no none.
    let e = models-none _ _ _ _ _ _ _ _ (ap models_in c.self.view_is ∙ none) in
    let never : true ≡ false = sym (ap (λ l. length l == 0) (c.as_slice.ensures.value ∙ e)) ∙ sym c.is_empty.ensures ∙ no in cc
