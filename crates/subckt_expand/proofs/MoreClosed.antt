-- One more subcircuit is closed: those before it stand for what they did.
use Rattle.std.proofs.Common.{◌≡◌, ◌<◌, ◌≤◌, ℕ, zero, suc, false, List, [], ◌∷◌, ◌++◌, ◌⊎◌, inl, inr, length, map, reverse, take, slice_index_or, refl, sym, ap, ◌∙◌, subst, arith, nat_eq, length-append}
use Rattle.std.specs.List.{AllByRecursion, IsDistinct, list_any}
use Rattle.std.specs.Cmp.Lexicographic.{pointwise}
use Rattle.std.proofs.lemmas.List.{length-map, map-append}
use Rattle.std.proofs.lemmas.Map.Keys.{IsDistinct-push}
use Rattle.dom_base.proofs.Decided.{lt_or_ge}
use Rattle.dom_base.proofs.Lists.{AllByRecursion-weaker, slice_index_or-push}
use Rattle.dom_base.proofs.Names.{names_equal}
use Rattle.deck.specs.Subckts.{Subckt, Expansion, expansion, expansions, Called}
use Rattle.subckt_expand.specs.declared.part.Part.{Part}
use Rattle.subckt_expand.specs.declared.part.Part.TheVariants.{Own, Called as Calling}
use Rattle.subckt_expand.specs.Definitions.{CallData, DefinitionData, IsDefinition, IsPartOf, named_part, no_call, no_definition, subckt_of}
use Rattle.subckt_expand.specs.Units.{AreClosed, IsCallBelow, IsClosed, definition_at, expansion_at, names_of, subckts_before}
use Rattle.subckt_expand.proofs.Places.{index_or-append}

-- an item of a list has what all have
pub all_index : {X : Type 0} (P : X → Type 0) (xs : List X) (i : ℕ) (d : X) → AllByRecursion P xs → i < length xs → P (slice_index_or xs i d)
all_index P [] i d h lt = absurd (omega arith)
all_index P (x ∷ xs) zero d h lt = h.0
all_index P (x ∷ xs) (suc i) d h lt = all_index P xs i d h.1 (omega arith)

-- calls of subcircuits that have a name
abbrev pub AreNamed : List (List ℕ) → DefinitionData → Type 0
AreNamed names d = AllByRecursion (λ (call : CallData). call.unit < length names) d.calls

part-more : (names more : List (List ℕ)) (d : DefinitionData) (p : Part) → AreNamed names d → IsPartOf (length d.nets) (length d.calls) p
    → named_part (names ++ more) d p ≡ named_part names d p
part-more names more d (Own device) named there = refl
part-more names more d (Calling index) named there =
    let call = slice_index_or d.calls index no_call in
    let low = all_index (λ (call : CallData). call.unit < length names) d.calls index no_call named there in
    let unit = index_or-append names more call.unit [] low in
    λ i. Called (record { name = call.name; nets = map (λ n. slice_index_or d.nets n []) call.nets; unit = unit i })

parts-more : (names more : List (List ℕ)) (d : DefinitionData) (ps : List Part) → AreNamed names d → AllByRecursion (IsPartOf (length d.nets) (length d.calls)) ps
    → map (named_part (names ++ more) d) ps ≡ map (named_part names d) ps
parts-more names more d [] named there = refl
parts-more names more d (p ∷ ps) named there =
    let first = part-more names more d p named there.0 in
    let rest = parts-more names more d ps named there.1 in
    λ i. first i ∷ rest i

pub subckt-more : (names more : List (List ℕ)) (d : DefinitionData) → AreNamed names d → IsDefinition d → subckt_of (names ++ more) d ≡ subckt_of names d
subckt-more names more d named is =
    let parts = parts-more names more d d.parts named is.parts_are in
    λ i. record { name = d.name; ports = take d.ports d.nets; parts = parts i }

-- what is known of each of some subcircuits
record IsKnown (names : List (List ℕ)) (d : DefinitionData) : Type 0 where
  named : AreNamed names d
  whole : IsDefinition d

subckts-more : (names more : List (List ℕ)) (ds : List DefinitionData) → AllByRecursion (IsKnown names) ds → map (subckt_of (names ++ more)) ds ≡ map (subckt_of names) ds
subckts-more names more [] h = refl
subckts-more names more (d ∷ ds) h =
    let first = subckt-more names more d (h.0).named (h.0).whole in
    let rest = subckts-more names more ds h.1 in
    λ i. first i ∷ rest i

-- each of the closed ones is known
known_from : (P : DefinitionData → Type 0) (ds : List DefinitionData) → ((number : ℕ) → number < length ds → P (definition_at ds number)) → AllByRecursion P ds
known_from P [] h = tt
known_from P (d ∷ ds) h = (h 0 (omega arith), known_from P ds (λ number lt. h (suc number) (omega arith)))

pub length-names : (all : List DefinitionData) → length (names_of all) ≡ length all
length-names all = length-map all (λ (d : DefinitionData). d.name)

module _ (all : List DefinitionData) (closed : AreClosed all) (d : DefinitionData) where
  known : AllByRecursion (IsKnown (names_of all)) all
  known = known_from (IsKnown (names_of all)) all (λ number lt.
      let is = closed.each number lt in
      record {
        named = AllByRecursion-weaker (IsCallBelow all number) (λ (call : CallData). call.unit < length (names_of all)) (λ call b. omega (arith, b.below, lt, length-names all)) (definition_at all number).calls is.calls;
        whole = is.whole;
      })

  pub names-more : names_of (all ++ d ∷ []) ≡ names_of all ++ d.name ∷ []
  names-more = map-append (λ (e : DefinitionData). e.name) all (d ∷ [])

  -- those before are the same
  pub before-more : (number : ℕ) → number ≤ length all → subckts_before (all ++ d ∷ []) number ≡ subckts_before all number
  before-more number le =
      let f = subckt_of (names_of (all ++ d ∷ [])) in
      let g = subckt_of (names_of all) in
      let front : map f all ≡ map g all = ap (λ n. map (subckt_of n) all) names-more ∙ subckts-more (names_of all) (d.name ∷ []) all known in
      let long : number ≤ length (map f all) = omega (arith, le, length-map all f) in
      ap (λ l. reverse (take number l)) (map-append f all (d ∷ []))
      ∙ ap reverse (take-front (map f all) (map f (d ∷ [])) number long)
      ∙ ap (λ l. reverse (take number l)) front
    where
      take-front : (xs ys : List Subckt) (n : ℕ) → n ≤ length xs → take n (xs ++ ys) ≡ take n xs
      take-front [] ys zero le = refl
      take-front [] ys (suc n) le = absurd (omega arith)
      take-front (x ∷ xs) ys zero le = refl
      take-front (x ∷ xs) ys (suc n) le = ap (λ l. x ∷ l) (take-front xs ys n (omega arith))

  at-more : (number : ℕ) → number < length all → definition_at (all ++ d ∷ []) number ≡ definition_at all number
  at-more number lt = index_or-append all (d ∷ []) number no_definition lt

  pub expansion-more : (number : ℕ) → number < length all → expansion_at (all ++ d ∷ []) number ≡ expansion_at all number
  expansion-more number lt =
      let here = all_index (IsKnown (names_of all)) all number no_definition known lt in
      let same : subckt_of (names_of (all ++ d ∷ [])) (definition_at (all ++ d ∷ []) number) ≡ subckt_of (names_of all) (definition_at all number) =
      ap (subckt_of (names_of (all ++ d ∷ []))) (at-more number lt) ∙ ap (λ n. subckt_of n (definition_at all number)) names-more
      ∙ subckt-more (names_of all) (d.name ∷ []) (definition_at all number) here.named here.whole in
      let before = before-more number (omega (arith, lt)) in
      λ i. expansion (expansions (before i)) (same i)

  pub call-more : (number : ℕ) → number ≤ length all → (call : CallData) → IsCallBelow all number call → IsCallBelow (all ++ d ∷ []) number call
  call-more number le call b = record {
    below = b.below;
    passed = b.passed ∙ sym (ap (λ (e : DefinitionData). e.ports) (at-more call.unit (omega (arith, b.below, le))));
  }

  closed-more : (number : ℕ) → number < length all → IsClosed (all ++ d ∷ []) number (definition_at (all ++ d ∷ []) number)
  closed-more number lt =
      let is = closed.each number lt in
      subst (IsClosed (all ++ d ∷ []) number) (sym (at-more number lt)) (record {
        whole = is.whole;
        apart = is.apart;
        calls = AllByRecursion-weaker (IsCallBelow all number) (IsCallBelow (all ++ d ∷ []) number) (call-more number (omega (arith, lt))) (definition_at all number).calls is.calls;
        few_ports = is.few_ports;
        few_devices = is.few_devices;
        counted = ap (λ (e : Expansion). length e.devices) (expansion-more number lt) ∙ is.counted;
      })

  -- and with one more they are closed
  pub are_closed-push : IsClosed (all ++ d ∷ []) (length all) d → list_any (pointwise nat_eq d.name) (names_of all) ≡ false → AreClosed (all ++ d ∷ [])
  are_closed-push is new = record {
    each = λ number lt. by number lt (lt_or_ge number (length all));
    names_differ = subst (IsDistinct (pointwise nat_eq)) (sym names-more) (IsDistinct-push names_equal (names_of all) d.name closed.names_differ new);
  }
    where
      by : (number : ℕ) → number < length (all ++ d ∷ []) → (number < length all) ⊎ (length all ≤ number) → IsClosed (all ++ d ∷ []) number (definition_at (all ++ d ∷ []) number)
      by number lt (inl before) = closed-more number before
      by number lt (inr behind) =
          let last : number ≡ length all = omega (arith, lt, behind, length-append all (d ∷ [])) in
          subst (λ n. IsClosed (all ++ d ∷ []) n (definition_at (all ++ d ∷ []) n)) (sym last)
          (subst (IsClosed (all ++ d ∷ []) (length all)) (sym (slice_index_or-push all d no_definition)) is)
