-- One more closed subcircuit with its slots.
use Rattle.std.proofs.Common.{◌≡◌, ◌<◌, ℕ, false, List, [], ◌∷◌, ◌++◌, length, slice_index_or, sym, ap, ◌∙◌, subst, arith, nat_eq}
use Rattle.std.specs.List.{list_any}
use Rattle.std.specs.Cmp.Lexicographic.{pointwise}
use Rattle.std.proofs.lemmas.List.{get_or_read, map-append}
use Rattle.dom_base.proofs.Lists.{AllByRecursion-append}
use Rattle.deck.specs.Nets.{with_net}
use Rattle.subckt_expand.specs.Definitions.{DefinitionData, no_definition}
use Rattle.subckt_expand.specs.Units.{AreClosed, AreUnits, HasSlots, IsClosed, IsDotted, UnitData, definition_at, definitions, names_of, no_unit, unit_at}
use Rattle.subckt_expand.proofs.MoreClosed.{are_closed-push}
use Rattle.subckt_expand.proofs.Places.{index_or-map}

pub definitions-push : (units : List UnitData) (u : UnitData) → definitions (units ++ u ∷ []) ≡ definitions units ++ u.definition ∷ []
definitions-push units u = map-append (λ (v : UnitData). v.definition) units (u ∷ [])

pub are_units-push : (units : List UnitData) (u : UnitData) → AreUnits units → IsClosed (definitions units ++ u.definition ∷ []) (length (definitions units)) u.definition
    → list_any (pointwise nat_eq u.definition.name) (names_of (definitions units)) ≡ false → HasSlots u → IsDotted u → AreUnits (units ++ u ∷ [])
are_units-push units u are is new slots dots = record {
  closed = subst AreClosed (sym (definitions-push units u)) (are_closed-push (definitions units) are.closed u.definition is new);
  slots = AllByRecursion-append HasSlots units (u ∷ []) are.slots (slots, tt);
  dots = AllByRecursion-append IsDotted units (u ∷ []) are.dots (dots, tt);
}

-- and its name
pub names-push : (units : List UnitData) (u : UnitData) → list_any (pointwise nat_eq u.definition.name) (names_of (definitions units)) ≡ false
    → with_net (names_of (definitions units)) u.definition.name ≡ names_of (definitions (units ++ u ∷ []))
names-push units u new =
    let all = ap names_of (definitions-push units u) ∙ map-append (λ (d : DefinitionData). d.name) (definitions units) (u.definition ∷ []) in
    rw new (sym all)

-- the definition of a number
pub definition_is : (units : List UnitData) (number : ℕ) → number < length units → (unit_at units number).definition ≡ definition_at (definitions units) number
definition_is units number lt = sym (index_or-map (λ (u : UnitData). u.definition) units number no_unit no_definition lt)

-- the definition of a number, where the subcircuit was read
pub definition_read : (units : List UnitData) (read_from : List UnitData) (number : ℕ) (read : UnitData) → read_from ≡ units → number < length units → read ≡ slice_index_or read_from number read
    → read.definition ≡ definition_at (definitions units) number
definition_read units read_from number read same lt is_item =
    let count = ap length same in
    let at : read ≡ unit_at units number = get_or_read read_from number read (omega (arith, lt, count)) is_item no_unit ∙ (λ i. unit_at (same i) number) in
    ap (λ (u : UnitData). u.definition) at ∙ definition_is units number lt
