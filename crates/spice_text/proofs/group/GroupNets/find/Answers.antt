use Rattle.std.proofs.Common.{rules, ◌≡◌, ◌≤◌, ◌<◌, true, false, nat_eq, length, ap, sym, ◌∙◌, subst, arith, refl}
use Rattle.std.specs.List.{list_any}
use Rattle.std.proofs.lemmas.Option.{same_Some, slice_get_read, slice_get_within}
use Rattle.spice_text.specs.GroupNets.{GroupNetsData, place_of}
use Rattle.spice_text.proofs.Places.{found_place, lost_place}
use Rattle.spice_text.proofs.group.GroupNets.find.Goals as goal

pub returns-then-at-len : goal.returns-then-at-len
returns-then-at-len c =
    let nets = c.self.inside.nets.items in
    let places = c.self.inside.places.items in
    let within : c.args.net < length places = omega (arith, c.requires, ap (λ (d : GroupNetsData). d.count) c.self.view_is) in
    let far : length nets ≤ c.index-place.result.now = search rules in
    subst (λ (d : GroupNetsData). list_any (nat_eq c.args.net) d.nets ≡ false) c.self.view_is
    (lost_place nets places c.args.net c.index-place.result.now c.self.invariant within c.index-place.ensures
    (λ e. omega (arith, far, slice_get_within nets c.index-place.result.now c.args.net e)))

pub returns-then-index-net : goal.returns-then-index-net
returns-then-index-net c =
    let nets = c.self.inside.nets.items in
    let places = c.self.inside.places.items in
    let within : c.args.net < length places = omega (arith, c.requires, ap (λ (d : GroupNetsData). d.count) c.self.view_is) in
    let low : c.index-place.result.now < length nets = search rules in
    let other : c.index.result.now ≡ c.args.net → ⊥ = search rules in
    subst (λ (d : GroupNetsData). list_any (nat_eq c.args.net) d.nets ≡ false) c.self.view_is
    (lost_place nets places c.args.net c.index-place.result.now c.self.invariant within c.index-place.ensures
    (λ e. other (same_Some c.index.result.now c.args.net (sym
    (slice_get_read nets (length nets) c.index-place.result.now c.index.result.now refl low c.index.ensures) ∙ e))))

pub returns : goal.returns
returns c =
    let nets = c.self.inside.nets.items in
    let places = c.self.inside.places.items in
    let within : c.args.net < length places = omega (arith, c.requires, ap (λ (d : GroupNetsData). d.count) c.self.view_is) in
    let low : c.index-place.result.now < length nets = search rules in
    let same : c.index.result.now ≡ c.args.net = search rules in
    subst (λ (d : GroupNetsData). (list_any (nat_eq c.args.net) d.nets ≡ true) × (c.index-place.result.now ≡ place_of d.nets c.args.net))
    c.self.view_is
    (found_place nets places c.args.net c.index-place.result.now c.index.result.now c.self.invariant within c.index-place.ensures low
    c.index.ensures same)
