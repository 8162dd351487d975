use Rattle.std.proofs.Common.{arith, ap, ◌∙◌, ◌≡◌, ◌<◌, sym, subst, All, length, List, ℕ}
use Rattle.std.specs.Prelude.{Contains}
use Rattle.switch_model.specs.ComponentLists.{list_at, number_in}
use Rattle.switch_model.specs.Components.{AreTouched, IsClosedPart}
use Rattle.switch_model.specs.LinksData.{LinksData, is_first}
use Rattle.switch_model.specs.Targets.{IsTarget}
use Rattle.switch_model.proofs.ClosedGroups.{group_closed, group_nets, group_places}
use Rattle.switch_model.proofs.Searches.{first-false}
use Rattle.switch_model.proofs.Touching.{own-length}
use Rattle.switch_model.proofs.links.Links.target_counted.Goals as goal

pub find_targets-plain-requires-clause-nets : goal.find_targets-plain-requires-clause-nets
find_targets-plain-requires-clause-nets g c =
    let w = c.self.inside in
    let i = c.self.invariant in
    let whole : length c.args.values.now ≡ length w.components.nets = c.requires.whole ∙ sym (ap (λ (l : LinksData). l.nets) c.self.view_is) in
    subst (λ (m : ℕ). All (λ (n : ℕ). n < m) c.at.result.now) (sym whole)
    (subst (λ (l : List ℕ). All (λ (n : ℕ). n < length w.components.nets) l) (sym c.at.ensures)
    (group_nets w.wires (is_first w.sources) (length w.components.nets) w.components i.components_are i.in_range c.number-number.result))

pub find_targets-plain-requires-clause-places : goal.find_targets-plain-requires-clause-places
find_targets-plain-requires-clause-places g c =
    let w = c.self.inside in
    let i = c.self.invariant in
    let few : c.number-number.result < length w.components.nets =
    omega (arith, c.number-number.ensures, i.components_are.numbering.low c.args.net, c.requires.within, ap (λ (l : LinksData). l.nets) c.self.view_is) in
    subst (λ (l : List ℕ). All (λ (n : ℕ). n < length w.wires) l) (sym c.at-2.ensures)
    (group_places w.wires (is_first w.sources) (length w.components.nets) w.components i.components_are i.in_range c.number-number.result few)

pub find_targets-plain-requires-clause-closed : goal.find_targets-plain-requires-clause-closed
find_targets-plain-requires-clause-closed g c =
    let w = c.self.inside in
    let i = c.self.invariant in
    let few : c.number-number.result < length w.components.nets =
    omega (arith, c.number-number.ensures, i.components_are.numbering.low c.args.net, c.requires.within, ap (λ (l : LinksData). l.nets) c.self.view_is) in
    subst (λ (l : List ℕ). IsClosedPart w.wires (is_first w.sources) l c.at-2.result.now) (sym c.at.ensures)
    (subst (λ (l : List ℕ). IsClosedPart w.wires (is_first w.sources) (list_at w.components.nets c.number-number.result) l) (sym c.at-2.ensures)
    (group_closed w.wires (is_first w.sources) (length w.components.nets) w.components i.components_are i.in_range c.number-number.result few))

pub target-requires : goal.target-requires
target-requires g c =
    let w = c.self.inside in
    let whole : length c.args.values.now ≡ length w.components.nets = c.requires.whole ∙ sym (ap (λ (l : LinksData). l.nets) c.self.view_is) in
    (length c.args.values.now, c.find_targets-plain.ensures.rooms, omega (arith, whole, c.requires.within, ap (λ (l : LinksData). l.nets) c.self.view_is))

pub returns-clause-target : goal.returns-clause-target
returns-clause-target g c =
    let w = c.self.inside in
    let i = c.self.invariant in
    let net = c.args.net in
    let values = c.args.values.now in
    let lt : net < length w.components.nets = omega (arith, c.requires.within, ap (λ (l : LinksData). l.nets) c.self.view_is) in
    let free = first-false w.sources net (omega (arith, c.requires.free, ap (λ (l : LinksData). l.sources) c.self.view_is)) in
    let member : Contains c.at.result.now net =
    subst (λ (l : List ℕ). Contains l net) (sym c.at.ensures) ((i.components_are.nets_are c.number-number.result net).1 (lt, free, sym c.number-number.ensures)) in
    subst (λ (l : LinksData). IsTarget l.devices (is_first l.sources) values net c.target.result) c.self.view_is
    (subst (IsTarget w.wires (is_first w.sources) values net) (sym c.target.ensures) (c.find_targets-plain.ensures.swept net member))

pub returns-clause-cost : goal.returns-clause-cost
returns-clause-cost g c = λ places t.
    let w = c.self.inside in
    let i = c.self.invariant in
    let net = c.args.net in
    let lt : net < length w.components.nets = omega (arith, c.requires.within, ap (λ (l : LinksData). l.nets) c.self.view_is) in
    let free = first-false w.sources net (omega (arith, c.requires.free, ap (λ (l : LinksData). l.sources) c.self.view_is)) in
    let touched : AreTouched w.wires (is_first w.sources) net places = subst (λ (l : LinksData). AreTouched l.devices (is_first l.sources) net places) (sym c.self.view_is) t in
    let own = own-length w.wires (is_first w.sources) (length w.components.nets) w.components i.components_are i.in_range net lt free places touched in
    let size : length c.at-2.result.now ≡ length (list_at w.components.places (number_in w.components net)) =
    ap (λ (l : List ℕ). length l) c.at-2.ensures ∙ ap (λ (k : ℕ). length (list_at w.components.places k)) c.number-number.ensures in
    omega (arith, c.find_targets-plain.ensures.cost, own, size)
