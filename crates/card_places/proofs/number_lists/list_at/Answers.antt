use Rattle.std.proofs.Common.{◌≡◌, [], take, ap, sym, ◌∙◌, length, Some}
use Rattle.std.specs.Prelude.{slice_get}
use Rattle.std.proofs.lemmas.Option.{get_or_from_slice_get, slice_get-get_or}
use Rattle.std.proofs.lemmas.Bool.{ltb-false}
use Rattle.numbered_file.specs.Numbered.{between}
use Rattle.card_places.specs.NumberLists.{last_end, lists_from}
use Rattle.card_places.proofs.ListEnds.{list-none, list-there}
use Rattle.card_places.proofs.number_lists.list_at.Goals as goal

pub returns-in-Some : goal.returns-in-Some
returns-in-Some c =
    let items = c.args.items.now in
    let ends = c.args.ends.now in
    let at : slice_get ends c.args.index ≡ Some c.in-Some.end.now =
    (let h = (c.in-Some.ensures {u = tt}).lookup in slice_get-get_or ends c.args.index c.in-Some.end.now h.3.0 ∙ ap Some (sym h.1)) in
    c.between.ensures ∙ ap (λ s. between s c.in-Some.end.now items) c.start_at.ensures
    ∙ sym (get_or_from_slice_get (lists_from items 0 ends) c.args.index
    (between (last_end 0 (take c.args.index ends)) c.in-Some.end.now items) []
    (list-there items 0 ends c.args.index c.in-Some.end.now at))

pub returns-in-None : goal.returns-in-None
returns-in-None c = sym (list-none c.args.items.now 0 c.args.ends.now c.args.index
    (ltb-false c.args.index (length c.args.ends.now) (sym (c.in-None.ensures {u = tt}).lookup.0)))
