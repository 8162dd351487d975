use Rattle.std.proofs.Common.{ap, subst, sym, ◌∙◌}
use Rattle.numbered_file.specs.NumberedData.{NumberedData}
use Rattle.numbered_file.specs.Numbered.{file_of}
use Rattle.numbered_file.specs.OpenLists.{open_lists, IsClosed}
use Rattle.numbered_file.proofs.Places.{parts-closed}
use Rattle.file_copies.proofs.numbering.number_by.Goals as goal

pub returns-clause-file : goal.returns-clause-file
returns-clause-file c =
    let models = c.in_ok-pushed.ensures.models ∙ c.deref.ensures.value in
    ap (λ (d : NumberedData). file_of d) c.close-numbered.ensures ∙ (λ i. record { models = models i }) ∙ c.file.view_is

pub returns-clause-closed : goal.returns-clause-closed
returns-clause-closed c =
    parts-closed c.close-numbered.result c.is_in_order.ensures
    (subst (λ (f : NumberedData). IsClosed (open_lists f)) (sym c.close-numbered.ensures) c.in_ok-pushed.ensures.closed)
