use Rattle.deck.specs.declared.role.Roles.{Roles}
use Rattle.deck.specs.declared.device.Device.{Device}
use Rattle.link_reduce.proofs.ShortTrees.{number_low}
use Rattle.std.specs.Prelude.{Some, slice_get, ◌≢◌}
use Rattle.std.proofs.Common.{List, ap, arith, get_or, length, map, subst, sym, ℕ, ◌<◌, ◌∙◌, ◌≡◌}
use Rattle.std.proofs.lemmas.Option.{slice_get-get_or}
use Rattle.dom_base.proofs.Lists.{All-at}
use Rattle.link_reduce.specs.Parts.{IsSpelled, links_of, numbers_of}
use Rattle.link_reduce.specs.Spellings.{SpelledData}
use Rattle.link_reduce.specs.declared.part.Ends.{Ends}
use Rattle.sp_reduction.specs.Reduction.{IsNetwork}
use Rattle.deck_audit.specs.Words.{here}
use Rattle.audit_deck.specs.CellTrees.{AreLocal, HasBothMet, IsTreeAt}
use Rattle.audit_deck.specs.Indexes.{AreThose}
use Rattle.audit_deck.specs.Numberings.{IsMet}
use Rattle.audit_deck.proofs.CellTrees.{bottom_met, rest_met, rest_short, tree_found, tree_network}
use Rattle.audit_deck.proofs.LocalLinks.{local_low}
use Rattle.link_reduce.proofs.Options.{none_is, some_is, some_of}
use Rattle.audit_deck.proofs.index.Index.shape.Goals as goal

others_of : (nets places rest : List ℕ) (one : ℕ) → nets ≡ places → AreThose (λ p. IsMet nets p × (p ≢ one)) rest
    → AreThose (λ p. IsMet places p × (p ≢ one)) rest
others_of nets places rest one same h = subst (λ l. AreThose (λ p. IsMet l p × (p ≢ one)) rest) same h

tree_as : (ds : List Device) (roles : Roles) (x clock foot bottom w w' h h' : ℕ) (o o' : List ℕ) → w ≡ w' → h ≡ h' → o ≡ o'
    → IsTreeAt ds roles x clock (record { foot = foot; bottom = bottom; width = w'; height = h'; order = o' })
    → IsTreeAt ds roles x clock (record { foot = foot; bottom = bottom; width = w; height = h; order = o })
tree_as ds roles x clock foot bottom w w' h h' o o' a b c t =
    subst (λ n. IsTreeAt ds roles x clock (record { foot = foot; bottom = bottom; width = n; height = h; order = o })) (sym a)
    (subst (λ n. IsTreeAt ds roles x clock (record { foot = foot; bottom = bottom; width = w'; height = n; order = o })) (sym b)
    (subst (λ l. IsTreeAt ds roles x clock (record { foot = foot; bottom = bottom; width = w'; height = h'; order = l })) (sym c) t))

pub links-requires-clause-met : goal.links-requires-clause-met
links-requires-clause-met c =
    let ds = c.args.self.now.devices in
    let m = c.requires.met in
    let rest = c.in_ok-rest.rest.items in
    let others = others_of c.nets.result.now c.args.places.now.nets rest c.args.foot.place c.nets.ensures.nets c.in_ok-rest.ensures in
    subst (λ l. (k d : ℕ) → k < length l → HasBothMet ds c.args.nets.now.nets (get_or l k d)) (sym c.as_slice.ensures.value)
    (λ k d lt. rest_met ds c.args.top.roles c.args.top.net m.free c.args.nets.now.nets c.args.places.now.nets m.reached m.channels c.args.top.clock c.args.foot c.requires.foot rest others
    k (get_or rest k d) (slice_get-get_or rest k d lt))

pub number-requires : goal.number-requires
number-requires c =
    let y = c.requires.met.reached.full c.args.top.net here in
    All-at (λ n. n < c.args.nets.now.room) c.args.nets.now.nets y.0 c.args.top.net c.nets-2.ensures.within y.1

pub unwrap-upper-requires : goal.unwrap-upper-requires
unwrap-upper-requires c = some_of c.number.result (IsMet c.args.nets.now.nets c.args.top.net) c.number.ensures.none (c.requires.met.reached.full c.args.top.net here)

pub number-requires-2 : goal.number-requires-2
number-requires-2 c =
    let m = c.requires.met in
    let y = bottom_met c.args.self.now.devices c.args.top.roles c.args.top.net m.free c.args.nets.now.nets c.args.places.now.nets m.reached m.channels c.args.top.clock c.args.foot
    c.requires.foot in
    All-at (λ n. n < c.args.nets.now.room) c.args.nets.now.nets y.0 c.args.foot.bottom c.nets-2.ensures.within y.1

pub unwrap-lower-requires : goal.unwrap-lower-requires
unwrap-lower-requires c =
    let m = c.requires.met in
    some_of c.number-2.result (IsMet c.args.nets.now.nets c.args.foot.bottom) c.number-2.ensures.none
    (bottom_met c.args.self.now.devices c.args.top.roles c.args.top.net m.free c.args.nets.now.nets c.args.places.now.nets m.reached m.channels c.args.top.clock c.args.foot
    c.requires.foot)

pub spelled_of-requires-clause-few : goal.spelled_of-requires-clause-few
spelled_of-requires-clause-few c =
    let m = c.requires.met in
    let rest = c.in_ok-rest.rest.items in
    let others = others_of c.nets.result.now c.args.places.now.nets rest c.args.foot.place c.nets.ensures.nets c.in_ok-rest.ensures in
    let short = rest_short c.args.self.now.devices c.args.top.roles c.args.top.net m.free c.args.nets.now.nets c.args.places.now.nets m.reached m.channels c.args.top.clock c.args.foot
    c.requires.foot rest others in
    let count = c.in_ok-links.ensures.count in
    omega (arith, short, count, ap length c.as_slice.ensures.value, ap length c.as_slice-2.ensures.value, c.requires.few)

pub spelled_of-requires-clause-inside : goal.spelled_of-requires-clause-inside
spelled_of-requires-clause-inside c =
    let nets = c.args.nets.now.nets in
    subst (λ l. (k : ℕ) (d : Ends) → k < length l → ((get_or l k d).from < length c.nets-2.result.now) × ((get_or l k d).to < length c.nets-2.result.now))
    (sym c.as_slice-2.ensures.value)
    (subst (λ n. (k : ℕ) (d : Ends) → k < length c.in_ok-links.links.items
    → ((get_or c.in_ok-links.links.items k d).from < length n) × ((get_or c.in_ok-links.links.items k d).to < length n)) (sym c.nets-2.ensures.nets)
    (local_low c.args.self.now.devices nets c.as_slice.result.now c.in_ok-links.links.items c.in_ok-links.ensures))

pub returns-in_default-clause-none : goal.returns-in_default-clause-none
returns-in_default-clause-none c = λ bottom t h.
    let m = c.requires.met in
    let ds = c.args.self.now.devices in
    let nets = c.args.nets.now.nets in
    let rest = c.in_ok-rest.rest.items in
    let links = c.as_slice-2.result.now in
    let others = others_of c.nets.result.now c.args.places.now.nets rest c.args.foot.place c.nets.ensures.nets c.in_ok-rest.ensures in
    let local : AreLocal ds nets rest links =
    subst (λ l. AreLocal ds nets l links) c.as_slice.ensures.value (subst (AreLocal ds nets c.as_slice.result.now) (sym c.as_slice-2.ensures.value) c.in_ok-links.ensures) in
    let upper = some_is c.number.result c.unwrap-upper.result (λ n. slice_get nets n ≡ Some c.args.top.net) c.unwrap-upper.ensures c.number.ensures.some in
    let lower = some_is c.number-2.result c.unwrap-lower.result (λ n. slice_get nets n ≡ Some c.args.foot.bottom) c.unwrap-lower.ensures c.number-2.ensures.some in
    let y = tree_network ds c.args.top.roles c.args.top.net m.free nets c.args.places.now.nets m.reached m.channels c.args.top.clock c.args.foot c.requires.foot rest others
    links local c.unwrap-upper.result c.unwrap-lower.result upper lower bottom t h in
    none_is c.in_ok-spelled.field-0 ((w k : ℕ) → IsNetwork (links_of links) c.unwrap-upper.result c.unwrap-lower.result w k → ⊥) c.in_default.is c.in_ok-spelled.ensures.none y.0 y.1 y.2

pub returns-clause-some : goal.returns-clause-some
returns-clause-some c =
    let m = c.requires.met in
    let ds = c.args.self.now.devices in
    let nets = c.args.nets.now.nets in
    let rest = c.in_ok-rest.rest.items in
    let links = c.as_slice-2.result.now in
    let others = others_of c.nets.result.now c.args.places.now.nets rest c.args.foot.place c.nets.ensures.nets c.in_ok-rest.ensures in
    let local : AreLocal ds nets rest links =
    subst (λ l. AreLocal ds nets l links) c.as_slice.ensures.value (subst (AreLocal ds nets c.as_slice.result.now) (sym c.as_slice-2.ensures.value) c.in_ok-links.ensures) in
    let upper = some_is c.number.result c.unwrap-upper.result (λ n. slice_get nets n ≡ Some c.args.top.net) c.unwrap-upper.ensures c.number.ensures.some in
    let lower = some_is c.number-2.result c.unwrap-lower.result (λ n. slice_get nets n ≡ Some c.args.foot.bottom) c.unwrap-lower.ensures c.number-2.ensures.some in
    let n = some_is c.in_ok-spelled.field-0 c.in-Some.spelled
    (λ (s : SpelledData). IsSpelled (links_of links) c.unwrap-upper.result c.unwrap-lower.result s.width s.height s.order) c.in-Some.is c.in_ok-spelled.ensures.some in
    let v = c.spelled.view_is in
    let named : c.in_ok-order.order.items ≡ map (λ k. get_or rest k 0) c.in-Some.spelled.order =
    c.in_ok-order.ensures ∙ ap (λ l. map (λ k. get_or l k 0) c.as_slice-4.result.now) c.as_slice-3.ensures.value
    ∙ ap (map (λ k. get_or rest k 0)) (c.as_slice-4.ensures.value ∙ ap (λ (s : SpelledData). s.order) v) in
    tree_as ds c.args.top.roles c.args.top.net c.args.top.clock c.args.foot.place c.args.foot.bottom c.spelled.inside.width c.in-Some.spelled.width
    c.spelled.inside.height c.in-Some.spelled.height c.in_ok-order.order.items (map (λ k. get_or rest k 0) c.in-Some.spelled.order)
    (ap (λ (s : SpelledData). s.width) v) (ap (λ (s : SpelledData). s.height) v) named
    (tree_found ds c.args.top.roles c.args.top.net m.free nets c.args.places.now.nets m.reached m.channels c.args.top.clock c.args.foot c.requires.foot rest others
    links local c.unwrap-upper.result c.unwrap-lower.result upper lower c.requires.inside c.in-Some.spelled.width c.in-Some.spelled.height c.in-Some.spelled.order n)

pub places_of-requires : goal.places_of-requires
places_of-requires c = λ k d lt.
    let ds = c.args.self.now.devices in
    let nets = c.args.nets.now.nets in
    let links = c.as_slice-2.result.now in
    let numbers = c.as_slice-4.result.now in
    let n = some_is c.in_ok-spelled.field-0 c.in-Some.spelled
    (λ (s : SpelledData). IsSpelled (links_of links) c.unwrap-upper.result c.unwrap-lower.result s.width s.height s.order) c.in-Some.is c.in_ok-spelled.ensures.some in
    let e : numbers_of n.tree ≡ numbers = n.order_is ∙ sym (ap (λ (s : SpelledData). s.order) c.spelled.view_is) ∙ sym c.as_slice-4.ensures.value in
    let at : slice_get (numbers_of n.tree) k ≡ Some (get_or numbers k d) =
    subst (λ l. slice_get l k ≡ Some (get_or numbers k d)) (sym e) (slice_get-get_or numbers k d lt) in
    let low = number_low links n.tree n.from k (get_or numbers k d) at in
    let count = c.in_ok-links.ensures.count in
    omega (arith, low, count, ap length c.as_slice.ensures.value, ap length c.as_slice-2.ensures.value, ap length c.as_slice-3.ensures.value)
