use Rattle.std.proofs.Common.{◌≡◌, Some, ap, refl, sym, ◌∙◌}
use Rattle.std.specs.Prelude.{slice_get}
use Rattle.local_names.proofs.KeptNumbers.{noted-new}
use Rattle.local_names.proofs.distinct.note.Goals as goal

pub returns-in_ok-append-in-Some-2-clause-noted : goal.returns-in_ok-append-in-Some-2-clause-noted
returns-in_ok-append-in-Some-2-clause-noted c =
    let at : slice_get c.args.place.now c.args.number ≡ Some c.in-Some.index = sym c.item_at.ensures ∙ c.in-Some.is in
    noted-new c.args.kept.now.items c.append.new.kept.items c.args.place.now c.append.new.place c.args.number c.in-Some.index
    c.requires at (λ e. c.if-is_at.ensures.no refl (ap (λ l. slice_get l c.in-Some.index) c.deref.ensures.value ∙ e)) c.in_ok-append-in-Some-2.ensures.kept c.in_ok-append-in-Some-2.ensures.place
