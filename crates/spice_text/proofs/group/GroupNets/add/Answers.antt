use Rattle.std.proofs.Common.{rules, ◌≡◌, ◌<◌, ◌++◌, ◌∷◌, [], ℕ, List, false, nat_eq, length, set, Some, slice_get, ap, sym, ◌∙◌, subst}
use Rattle.std.proofs.Common.{arith}
use Rattle.std.specs.List.{list_any}
use Rattle.spice_text.specs.GroupNets.{GroupNetsData, HavePlaces}
use Rattle.spice_text.proofs.Places.{position_or_len-none, push_place}
use Rattle.spice_text.proofs.group.GroupNets.add.Goals as goal

pub invariant_of-self-2 : goal.invariant_of-self-2
invariant_of-self-2 c =
    let nets = c.self.inside.nets.items in
    let places = c.self.inside.places.items in
    let none : list_any (nat_eq c.args.net) nets ≡ false = subst (λ (d : GroupNetsData). list_any (nat_eq c.args.net) d.nets ≡ false)
    (sym c.self.view_is) c.requires.new in
    let within : c.args.net < length places = omega (arith, c.requires.within, ap (λ (d : GroupNetsData). d.count) c.self.view_is) in
    let long : c.len-next.result ≡ length nets = search rules in
    let placed : HavePlaces (nets ++ c.args.net ∷ []) (set places c.args.net (length nets)) = push_place nets places c.args.net
    c.self.invariant within none in
    λ i n at. subst (λ (k : ℕ). slice_get (set places c.args.net k) n ≡ Some i) (sym long)
    (placed i n (subst (λ (l : List ℕ). slice_get l i ≡ Some n) c.in_ok-push.ensures.items at))

pub returns-clause-place : goal.returns-clause-place
returns-clause-place c =
    let nets = c.self.inside.nets.items in
    let long : c.len-next.result ≡ length nets = search rules in
    long ∙ ap (λ (d : GroupNetsData). length d.nets) c.self.view_is
    ∙ sym (position_or_len-none (nat_eq c.args.net) c.args.self.now.nets c.requires.new)
