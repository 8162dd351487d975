-- What a call of a closed subcircuit stands for is found by the name.
use Rattle.std.proofs.Common.{◌≡◌, ◌<◌, ◌≤◌, ℕ, zero, suc, Bool, true, false, List, [], ◌∷◌, length, map, reverse, take, find, Some, ◌⊎◌, inl, inr, slice_index_or, refl, sym, ap, ◌∙◌, subst, arith, nat_eq, take-suc}
use Rattle.std.specs.List.{IsDistinct}
use Rattle.std.specs.Cmp.Lexicographic.{pointwise}
use Rattle.std.proofs.lemmas.Bool.{true≢false}
use Rattle.dom_base.proofs.Decided.{lt_or_ge}
use Rattle.std.proofs.lemmas.List.{length-map, reverse-append}
use Rattle.std.proofs.lemmas.Map.Keys.{apart_from_distinct}
use Rattle.deck.specs.Nets.{net_name}
use Rattle.deck.specs.Subckts.{Subckt, Expansion, expansions}
use Rattle.deck.proofs.NetNumbers.{same_name}
use Rattle.subckt_expand.specs.Definitions.{DefinitionData, no_definition, subckt_of}
use Rattle.subckt_expand.specs.Units.{definition_at, expansion_at, names_of, subckts_before}
use Rattle.subckt_expand.proofs.Places.{index_or-map}

-- one more subcircuit before a number
pub before-suc : (all : List DefinitionData) (number : ℕ) → number < length all
    → subckts_before all (suc number) ≡ subckt_of (names_of all) (definition_at all number) ∷ subckts_before all number
before-suc all number lt =
    let named : List Subckt = map (subckt_of (names_of all)) all in
    let long : number < length named = omega (arith, lt, length-map all (subckt_of (names_of all))) in
    let none : Subckt = subckt_of (names_of all) no_definition in
    ap reverse (take-suc named number none long) ∙ reverse-append (take number named) (slice_index_or named number none ∷ [])
    ∙ ap (λ (s : Subckt). s ∷ reverse (take number named)) (index_or-map (subckt_of (names_of all)) all number no_definition none lt)

pub found_call : (all : List DefinitionData) (number unit : ℕ) → IsDistinct (pointwise nat_eq) (names_of all) → unit < number → number ≤ length all
    → find (λ (e : Expansion). pointwise nat_eq (net_name (names_of all) unit) e.name) (expansions (subckts_before all number)) ≡ Some (expansion_at all unit)
found_call all zero unit apart lt le = absurd (omega arith)
found_call all (suc number) unit apart lt le = rw (before-suc all number (omega arith)) (by (pointwise nat_eq (net_name (names_of all) unit) (definition_at all number).name) refl (λ before. found_call all number unit apart before (omega arith)))
  where
    here : number ≡ unit → expansion_at all number ≡ expansion_at all unit
    here e = ap (expansion_at all) e

    name_is : net_name (names_of all) number ≡ (definition_at all number).name
    name_is = index_or-map (λ (d : DefinitionData). d.name) all number no_definition [] (omega arith)

    -- an earlier one has another name
    other : unit < number → pointwise nat_eq (net_name (names_of all) unit) (definition_at all number).name ≡ false
    other before =
        let count : length (names_of all) ≡ length all = length-map all (λ (d : DefinitionData). d.name) in
        ap (pointwise nat_eq (net_name (names_of all) unit)) (sym name_is)
        ∙ apart_from_distinct (pointwise nat_eq) (names_of all) unit number [] apart before (omega (arith, le, count))

    same : pointwise nat_eq (net_name (names_of all) unit) (definition_at all number).name ≡ true → (unit < number) ⊎ (number ≤ unit) → number ≡ unit
    same e (inl before) = absurd (let never : true ≡ false = sym e ∙ other before in true≢false never)
    same e (inr behind) = omega (arith, lt, behind)

    not_same : pointwise nat_eq (net_name (names_of all) unit) (definition_at all number).name ≡ false → (unit < number) ⊎ (number ≤ unit) → unit < number
    not_same e (inl before) = before
    not_same e (inr behind) =
        let equal : number ≡ unit = omega (arith, lt, behind) in
        let yes : pointwise nat_eq (net_name (names_of all) unit) (definition_at all number).name ≡ true =
        subst (λ n. pointwise nat_eq (net_name (names_of all) n) (definition_at all number).name ≡ true) equal
        (subst (λ n. pointwise nat_eq n (definition_at all number).name ≡ true) (sym name_is) (same_name (definition_at all number).name)) in
        absurd (true≢false (sym yes ∙ e))

    by : (t : Bool) → pointwise nat_eq (net_name (names_of all) unit) (definition_at all number).name ≡ t
        → (unit < number → find (λ (e : Expansion). pointwise nat_eq (net_name (names_of all) unit) e.name) (expansions (subckts_before all number)) ≡ Some (expansion_at all unit))
        → find (λ (e : Expansion). pointwise nat_eq (net_name (names_of all) unit) e.name) (expansions (subckt_of (names_of all) (definition_at all number) ∷ subckts_before all number)) ≡ Some (expansion_at all unit)
    by true e rest = rw e (ap Some (here (same e (lt_or_ge unit number))))
    by false e rest = rw e (rest (not_same e (lt_or_ge unit number)))
