use Rattle.std.proofs.Common.{◌≡◌, Some, length, sym, ap, refl, ◌∙◌}
use Rattle.std.proofs.lemmas.Option.{slice_get_past, slice_get_read}
use Rattle.std.specs.Cmp.Lexicographic.{bytes_decides}
use Rattle.numbered_file.proofs.slots.has_number.Goals as goal

pub returns-in-Some-clause-yes : goal.returns-in-Some-clause-yes
returns-in-Some-clause-yes c = λ yes.
    let names = c.args.names.now in
    let looked = c.in-Some.ensures.lookup in
    let there = slice_get_read names (length names) c.args.number c.in-Some.known.now refl looked.3.0 looked.1 in
    there ∙ ap Some (sym c.known.view_is ∙ (bytes_decides c.known.inside.0.now c.args.name.now).0 (sym c.is_same.ensures ∙ yes))

pub returns-in-Some-clause-no : goal.returns-in-Some-clause-no
returns-in-Some-clause-no c = λ no is.
    let names = c.args.names.now in
    let looked = c.in-Some.ensures.lookup in
    let there = slice_get_read names (length names) c.args.number c.in-Some.known.now refl looked.3.0 looked.1 in
    let both : Some c.in-Some.known.now ≡ Some c.args.name.now = sym there ∙ is in
    let one : c.in-Some.known.now ≡ c.args.name.now = cc in
    let equal = (bytes_decides c.known.inside.0.now c.args.name.now).1 (c.known.view_is ∙ one) in
    cc (sym no ∙ c.is_same.ensures ∙ equal)

pub returns-in-None-clause-no : goal.returns-in-None-clause-no
returns-in-None-clause-no c = λ _ is. cc (sym (slice_get_past c.args.names.now c.args.number c.in-None.ensures.lookup.3) ∙ is)
