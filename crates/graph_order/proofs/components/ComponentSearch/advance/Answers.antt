use Rattle.std.proofs.Common.{rules, ◌≡◌, ◌<◌, Option, None, true, false, eqb-true, ◌-◌, List, ℕ, Some, length, take, arith, ap, sym, ◌∙◌, subst}
use Rattle.std.specs.Prelude.{All, slice_get}
use Rattle.std.proofs.Math.Dec.{eqb}
use Rattle.std.specs.Option.{option_eq}
use Rattle.std.proofs.lemmas.Bool.{eq-eqb}
use Rattle.std.proofs.lemmas.Option.{slice_get_within}
use Rattle.graph_order.proofs.ComponentMeasures.{goes_on_component, goes_on_inner, goes_on_joined, goes_on_new, goes_on_within}
use Rattle.graph_order.proofs.ComponentSteps.{at_top, child_inside, path_inside, top_within}
use Rattle.graph_order.proofs.Placed.{split_last}
use Rattle.graph_order.specs.ComponentSearches.{ComponentData, HasGoneOn, IsJoinedFrom, with_component, with_entered, with_starts, with_stop}
use Rattle.graph_order.proofs.components.ComponentSearch.advance.Goals as goal

option_is : (o : Option ℕ) (x : ℕ) → option_eq eqb o (Some x) ≡ true → o ≡ Some x
option_is None x e = absurd cc
option_is (Some y) x e = ap Some (eqb-true y x e)

option_is_not : (o : Option ℕ) (x : ℕ) → option_eq eqb o (Some x) ≡ false → o ≡ Some x → ⊥
option_is_not None x e is = absurd cc
option_is_not (Some y) x e is = (let z : y ≡ x = cc in let t : eqb y x ≡ true = eq-eqb y x z in absurd cc)

pub next_of-requires : goal.next_of-requires
next_of-requires c = record { within = top_within c.args.nodes.now c.args.self.now c.args.stop c.requires.sound }

pub close-requires-clause-place : goal.close-requires-clause-place
close-requires-clause-place c =
    let l = slice_get_within c.args.self.now.path c.args.stop.place c.args.stop.node
    (at_top c.args.nodes.now c.args.self.now c.args.stop c.requires.sound) in
    omega (arith, l, ap (λ (s : ComponentData). length s.path) c.self.view_is)

pub close-requires-clause-within : goal.close-requires-clause-within
close-requires-clause-within c =
    subst (λ (s : ComponentData). All (λ node. node < length s.places) s.path) (sym c.self.view_is)
    (path_inside c.args.nodes.now c.args.self.now c.args.stop c.requires.sound)

pub returns-then-eq : goal.returns-then-eq
returns-then-eq c =
    let starts : List ℕ = c.pop.new.self.items in
    let rest : starts ≡ take (length c.self.inside.starts.items - 1) c.self.inside.starts.items = search (rules, c.pop.ensures.rest) in
    let same : c.self.inside.starts.items ≡ c.args.self.now.starts = ap (λ (s : ComponentData). s.starts) c.self.view_is in
    let last = sym c.last_start.ensures ∙ option_is c.last_start.result c.args.stop.place (sym c.eq.ensures ∙ c.if-eq.true) in
    subst (HasGoneOn c.args.nodes.now (with_stop c.args.self.now c.args.stop))
    (sym (c.close.ensures ∙ ap (λ s. with_component (with_starts s starts) c.args.stop.node c.args.stop.place) c.self.view_is))
    (goes_on_component c.args.nodes.now c.args.self.now c.args.stop c.requires.sound (sym c.in_default.ensures.next) starts
    (split_last c.args.self.now.starts starts c.args.stop.place (rest ∙ ap (λ l. take (length l - 1) l) same) last))

pub returns-else-eq : goal.returns-else-eq
returns-else-eq c =
    goes_on_inner c.args.nodes.now c.args.self.now c.args.stop c.requires.sound (sym c.in_default.ensures.next)
    (λ last. option_is_not c.last_start.result c.args.stop.place (sym c.eq.ensures ∙ c.if-eq.false) (c.last_start.ensures ∙ last))

pub place-requires : goal.place-requires
place-requires c =
    let inside = child_inside c.args.nodes.now c.args.self.now c.args.stop c.requires.sound c.in-Some.child
    (sym c.in-Some.ensures.next) c.requires.graph in
    let places = ap (λ (s : ComponentData). length s.places) c.in_ok-look.ensures in
    record { within = omega (arith, inside, c.requires.sound.count, places) }

pub enter-requires : goal.enter-requires
enter-requires c =
    let inside = child_inside c.args.nodes.now c.args.self.now c.args.stop c.requires.sound c.in-Some.child
    (sym c.in-Some.ensures.next) c.requires.graph in
    let places = ap (λ (s : ComponentData). length s.places) c.in_ok-look.ensures in
    record { within = omega (arith, inside, c.requires.sound.count, places) }

pub returns-in_ok-enter-in-New : goal.returns-in_ok-enter-in-New
returns-in_ok-enter-in-New c =
    subst (HasGoneOn c.args.nodes.now (with_stop c.args.self.now c.args.stop))
    (sym (c.in_ok-enter-in-New.ensures ∙ ap (λ s. with_entered s c.in-Some.child) c.in_ok-look.ensures))
    (goes_on_new c.args.nodes.now c.args.self.now c.args.stop c.requires.sound c.in-Some.child (sym c.in-Some.ensures.next)
    (ap (λ (s : ComponentData). slice_get s.places c.in-Some.child) (sym c.in_ok-look.ensures) ∙ c.in-New.ensures))

pub returns-in-OnPath : goal.returns-in-OnPath
returns-in-OnPath c =
    goes_on_joined c.args.nodes.now c.args.self.now c.args.stop c.requires.sound c.in-Some.child
    (sym c.in-Some.ensures.next) c.in-OnPath.place c.join_from.new.self
    (ap (λ (s : ComponentData). slice_get s.places c.in-Some.child) (sym c.in_ok-look.ensures) ∙ c.in-OnPath.ensures)
    (subst (λ s. IsJoinedFrom c.in-OnPath.place s c.join_from.new.self) c.in_ok-look.ensures c.join_from.ensures)

pub returns-in-Within : goal.returns-in-Within
returns-in-Within c =
    subst (HasGoneOn c.args.nodes.now (with_stop c.args.self.now c.args.stop)) (sym c.in_ok-look.ensures)
    (goes_on_within c.args.nodes.now c.args.self.now c.args.stop c.requires.sound c.in-Some.child
    (sym c.in-Some.ensures.next) c.in-Within.field-0
    (ap (λ (s : ComponentData). slice_get s.places c.in-Some.child) (sym c.in_ok-look.ensures) ∙ c.in-Within.ensures))
