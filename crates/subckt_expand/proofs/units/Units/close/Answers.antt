use Rattle.std.proofs.Common.{rules, ◌≡◌, ◌++◌, ◌∷◌, [], ◌∙◌, ap, sym, subst, length, nat_eq, false}
use Rattle.std.specs.List.{list_any}
use Rattle.std.specs.Cmp.Lexicographic.{pointwise}
use Rattle.deck.specs.Nets.{with_net}
use Rattle.subckt_expand.specs.Units.{AreSlots, AreUnits, IsClosed, UnitData, definitions, names_of}
use Rattle.subckt_expand.proofs.MoreUnits.{are_units-push, names-push}
use Rattle.subckt_expand.proofs.units.Units.close.Goals as goal

pub invariant_of-self-2 : goal.invariant_of-self-2
invariant_of-self-2 c =
    let units = c.self.inside.closed.items in
    let u : UnitData = record { definition = c.args.definition; slots = c.in_ok-slots.slots; dotted = c.has_dotted_port-dotted.result } in
    let pushed : c.push.new.self.items ≡ units ++ u ∷ [] = search rules in
    let same = c.self.view_is in
    let closed = subst (λ all. IsClosed (all ++ c.args.definition ∷ []) (length all) c.args.definition) (sym same) c.requires.closed in
    let new : list_any (pointwise nat_eq c.args.definition.name) (names_of (definitions units)) ≡ false =
    subst (λ name. list_any (pointwise nat_eq name) (names_of (definitions units)) ≡ false) c.requires.same
    (subst (λ all. list_any (pointwise nat_eq c.args.name) (names_of all) ≡ false) (sym same) c.requires.new) in
    let slots = subst AreSlots c.slots.view_is c.slots.invariant in
    let names = c.in_ok-number.ensures.keys ∙ ap (λ keys. with_net keys c.args.name) c.self.invariant.1 ∙ ap (with_net (names_of (definitions units))) c.requires.same ∙ names-push units u new in (
      subst AreUnits (sym pushed) (are_units-push units u c.self.invariant.0 closed new (slots, c.in_ok-slots.ensures) c.has_dotted_port-dotted.ensures),
      names ∙ ap (λ l. names_of (definitions l)) (sym pushed),
    )
