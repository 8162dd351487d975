use Rattle.std.proofs.Common.{◌≡◌, Some, slice_get, ap, sym, ◌∙◌}
use Rattle.std.specs.Cmp.Lexicographic.{bytes_decides}
use Rattle.std.proofs.lemmas.Option.{slice_get-get_or}
use Rattle.spice_read.proofs.NamedNets.{name_in_lower_case}
use Rattle.spice_read.proofs.named_nets.is_named.Goals as goal

pub returns-in-Some : goal.returns-in-Some
returns-in-Some c = λ yes.
    let looked = c.in-Some.ensures.lookup in
    let there : slice_get c.args.nets.now c.args.number ≡ Some c.in-Some.net.now =
    slice_get-get_or c.args.nets.now c.args.number c.in-Some.net.now looked.3.0 ∙ ap Some (sym looked.1) in
    let same = (bytes_decides _ _).0 (sym c.is_same.ensures ∙ yes) in
    there ∙ ap Some (name_in_lower_case c.in-Some.net.now c.args.word.now c.as_bytes.ensures.good (sym c.as_bytes.ensures.bytes ∙ same))
