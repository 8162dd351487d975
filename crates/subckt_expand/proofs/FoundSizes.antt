-- A closed subcircuit is found among sizes by its name.
use Rattle.std.proofs.Common.{◌≡◌, ◌<◌, ◌≤◌, ℕ, zero, suc, Bool, true, false, List, [], ◌∷◌, length, map, reverse, take, find, Some, None, option_map, ◌⊎◌, inl, inr, slice_get, slice_index_or, refl, sym, ap, ◌∙◌, subst, arith, nat_eq, take-suc}
use Rattle.std.specs.List.{AllByRecursion, IsDistinct, list_any}
use Rattle.std.specs.Cmp.Lexicographic.{pointwise}
use Rattle.std.proofs.lemmas.Bool.{true≢false}
use Rattle.std.proofs.lemmas.List.{length-map, reverse-append, take_all}
use Rattle.std.proofs.lemmas.Map.Keys.{apart_from_distinct}
use Rattle.std.proofs.lemmas.Option.{get_or_from_slice_get, slice_get-get_or, slice_get_past}
use Rattle.dom_base.proofs.Decided.{lt_or_ge}
use Rattle.dom_base.proofs.Lists.{AllByRecursion-reverse, list_any-map, none-list_any}
use Rattle.deck.specs.Nets.{net_number}
use Rattle.deck.specs.Subckts.{Size, size_named}
use Rattle.deck.proofs.NetNumbers.{HasNumber-below, number_cases, same_name}
use Rattle.subckt_expand.specs.Definitions.{DefinitionData, no_definition}
use Rattle.subckt_expand.specs.Live.{size_of}
use Rattle.subckt_expand.specs.Units.{definition_at, names_of}
use Rattle.subckt_expand.proofs.MoreClosed.{length-names}
use Rattle.subckt_expand.proofs.Places.{index_or-map}

-- names that differ: the last of the first ones with the name of a place is that place
found_back : (xs : List Size) (none : Size) (count number : ℕ) → IsDistinct (pointwise nat_eq) (map (λ (s : Size). s.name) xs) → number < count → count ≤ length xs
    → find (λ (s : Size). pointwise nat_eq (slice_index_or xs number none).name s.name) (reverse (take count xs)) ≡ Some (slice_index_or xs number none)
found_back xs none zero number apart lt le = absurd (omega arith)
found_back xs none (suc count) number apart lt le =
    let split : reverse (take (suc count) xs) ≡ slice_index_or xs count none ∷ reverse (take count xs) =
    ap reverse (take-suc xs count none (omega arith)) ∙ reverse-append (take count xs) (slice_index_or xs count none ∷ []) in
    rw split (by (pointwise nat_eq (slice_index_or xs number none).name (slice_index_or xs count none).name) refl (λ before. found_back xs none count number apart before (omega arith)))
  where
    named : (i : ℕ) → i < length xs → slice_index_or (map (λ (s : Size). s.name) xs) i [] ≡ (slice_index_or xs i none).name
    named i low = index_or-map (λ (s : Size). s.name) xs i none [] low

    other : number < count → pointwise nat_eq (slice_index_or xs number none).name (slice_index_or xs count none).name ≡ false
    other before =
        let size : length (map (λ (s : Size). s.name) xs) ≡ length xs = length-map xs (λ (s : Size). s.name) in
        let one = named number (omega arith) in
        let two = named count (omega arith) in
        (λ i. pointwise nat_eq (sym one i) (sym two i)) ∙ apart_from_distinct (pointwise nat_eq) (map (λ (s : Size). s.name) xs) number count [] apart before (omega (arith, le, size))

    by : (t : Bool) → pointwise nat_eq (slice_index_or xs number none).name (slice_index_or xs count none).name ≡ t
        → (number < count → find (λ (s : Size). pointwise nat_eq (slice_index_or xs number none).name s.name) (reverse (take count xs)) ≡ Some (slice_index_or xs number none))
        → find (λ (s : Size). pointwise nat_eq (slice_index_or xs number none).name s.name) (slice_index_or xs count none ∷ reverse (take count xs)) ≡ Some (slice_index_or xs number none)
    by true e rest = rw e (ap (λ n. Some (slice_index_or xs n none)) (same (lt_or_ge number count)))
      where
        same : (number < count) ⊎ (count ≤ number) → count ≡ number
        same (inl before) = absurd (true≢false (sym e ∙ other before))
        same (inr behind) = omega (arith, lt, behind)
    by false e rest = rw e (rest (less (lt_or_ge number count)))
      where
        less : (number < count) ⊎ (count ≤ number) → number < count
        less (inl before) = before
        less (inr behind) =
            let equal : count ≡ number = omega (arith, lt, behind) in
            let yes : pointwise nat_eq (slice_index_or xs number none).name (slice_index_or xs count none).name ≡ true =
            subst (λ n. pointwise nat_eq (slice_index_or xs number none).name (slice_index_or xs n none).name ≡ true) (sym equal) (same_name (slice_index_or xs number none).name) in
            absurd (true≢false (sym yes ∙ e))

names_same : (all : List DefinitionData) → map (λ (s : Size). s.name) (map size_of all) ≡ names_of all
names_same [] = refl
names_same (d ∷ all) = ap (λ l. d.name ∷ l) (names_same all)

-- the size of the closed subcircuit of a number is the one of its name
size_at : (all : List DefinitionData) (number : ℕ) → IsDistinct (pointwise nat_eq) (names_of all) → number < length all
    → size_named (definition_at all number).name (reverse (map size_of all)) ≡ Some (size_of (definition_at all number))
size_at all number apart lt =
    let none : Size = size_of no_definition in
    let count : length (map size_of all) ≡ length all = length-map all size_of in
    let at : slice_index_or (map size_of all) number none ≡ size_of (definition_at all number) = index_or-map size_of all number no_definition none lt in
    let whole : take (length all) (map size_of all) ≡ map size_of all = take_all (length all) (map size_of all) (omega (arith, count)) in
    let back = found_back (map size_of all) none (length all) number (subst (IsDistinct (pointwise nat_eq)) (sym (names_same all)) apart) lt (omega (arith, count)) in
    sym (λ i. find (λ (s : Size). pointwise nat_eq (at i).name s.name) (reverse (whole i))) ∙ back ∙ ap Some at

find-none : (p : Size → Bool) (xs : List Size) → AllByRecursion (λ x. p x ≡ false) xs → find p xs ≡ None
find-none p [] h = refl
find-none p (x ∷ xs) h = rw h.0 (find-none p xs h.1)

-- no closed subcircuit has a name that is none of theirs
size_missing : (all : List DefinitionData) (name : List ℕ) → list_any (pointwise nat_eq name) (names_of all) ≡ false → size_named name (reverse (map size_of all)) ≡ None
size_missing all name missing =
    let test : Size → Bool = λ s. pointwise nat_eq name s.name in
    let names : list_any (pointwise nat_eq name) (map (λ (s : Size). s.name) (map size_of all)) ≡ false = ap (list_any (pointwise nat_eq name)) (names_same all) ∙ missing in
    let each = none-list_any test (map size_of all) (sym (list_any-map (pointwise nat_eq name) (λ (s : Size). s.name) (map size_of all)) ∙ names) in
    find-none test (reverse (map size_of all)) (AllByRecursion-reverse (λ s. test s ≡ false) (map size_of all) each)

-- the size of a name is that of the closed subcircuit of its number
pub size_found : (all : List DefinitionData) (name : List ℕ) → IsDistinct (pointwise nat_eq) (names_of all)
    → size_named name (reverse (map size_of all)) ≡ option_map size_of (slice_get all (net_number (names_of all) name))
size_found all name apart = by (number_cases (pointwise nat_eq name) (names_of all))
  where
    by : ((list_any (pointwise nat_eq name) (names_of all) ≡ true) × (net_number (names_of all) name < length (names_of all)))
        ⊎ ((list_any (pointwise nat_eq name) (names_of all) ≡ false) × (net_number (names_of all) name ≡ length (names_of all)))
        → size_named name (reverse (map size_of all)) ≡ option_map size_of (slice_get all (net_number (names_of all) name))
    by (inl h) =
        let low : net_number (names_of all) name < length all = omega (arith, h.1, length-names all) in
        let named : (definition_at all (net_number (names_of all) name)).name ≡ name =
        sym (index_or-map (λ (d : DefinitionData). d.name) all (net_number (names_of all) name) no_definition [] low)
        ∙ get_or_from_slice_get (names_of all) (net_number (names_of all) name) name [] (HasNumber-below (names_of all) name h.1) in
        sym (ap (λ n. size_named n (reverse (map size_of all))) named) ∙ size_at all (net_number (names_of all) name) apart low
        ∙ sym (ap (option_map size_of) (slice_get-get_or all (net_number (names_of all) name) no_definition low))
    by (inr h) =
        size_missing all name h.0 ∙ sym (ap (option_map size_of) (slice_get_past all (net_number (names_of all) name) (omega (arith, h.1, length-names all))))
