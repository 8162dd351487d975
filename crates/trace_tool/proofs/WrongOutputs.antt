-- The first output of a reading that isn't the network's.
use Rattle.std.proofs.Common.{◌≡◌, ◌≢◌, ℕ, zero, suc, ◌+◌, ◌≤◌, ◌⊎◌, inl, inr, Bool, List, [], ◌∷◌, ◌++◌, length, map, take, Some, slice_get, refl, sym, ap, ◌∙◌, arith}
use Rattle.std.proofs.lemmas.Option.{same_Some}
use Rattle.std.proofs.lemmas.List.{length-map, take_all}
use Rattle.dom_base.specs.declared.tri.Tri.{Tri}
use Rattle.network.proofs.IndexedLists.{take_next}
use Rattle.dom_base.proofs.Decided.{dec_tri}
use Rattle.port_runs.specs.Environment.{bit}
use Rattle.trace_tool.specs.Verdicts.{IsFirstWrong}
use Rattle.trace_tool.proofs.FirstDifferences.{index_is_one}

get_map : (bits : List Bool) (i : ℕ) (one : Bool) → slice_get bits i ≡ Some one → slice_get (map bit bits) i ≡ Some (bit one)
get_map [] i one at = absurd cc
get_map (b ∷ bs) zero one at = ap (λ (o : _). o) (let same : b ≡ one = cc in ap (λ (x : Bool). Some (bit x)) same)
get_map (b ∷ bs) (suc i) one at = get_map bs i one at

-- bits and values that are the same so far, and one more
pub bits_more : (wanted : List Bool) (found : List Tri) (i : ℕ) (one : Bool) (value : Tri) → take i (map bit wanted) ≡ take i found
    → slice_get wanted i ≡ Some one → slice_get found i ≡ Some value → value ≡ bit one → take (i + 1) (map bit wanted) ≡ take (i + 1) found
bits_more wanted found i one value same wanted_is found_is is =
    take_next (map bit wanted) i (bit one) (get_map wanted i one wanted_is)
    ∙ (λ j. same j ++ sym is j ∷ [])
    ∙ sym (take_next found i value found_is)

-- and all of them
pub bits_all : (wanted : List Bool) (found : List Tri) (i : ℕ) → take i (map bit wanted) ≡ take i found → length wanted ≤ i → length found ≤ i → found ≡ map bit wanted
bits_all wanted found i same few few' =
    sym (take_all i found few') ∙ sym same ∙ take_all i (map bit wanted) (omega (arith, few, length-map wanted bit))

-- what stands at its index isn't the bit
wrong-apart : (names : List (List ℕ)) (wanted : List Bool) (found : List Tri) (pin : List ℕ) (one : Bool) (value : Tri)
    → (w : IsFirstWrong names wanted found pin one value) → slice_get (map bit wanted) w.index ≢ slice_get found w.index
wrong-apart names wanted found pin one value w same =
    w.apart (same_Some _ _ (sym (sym (get_map wanted w.index one w.wanted_is) ∙ same ∙ w.found_is)))

-- it is one
pub wrong_is_one : (names : List (List ℕ)) (wanted : List Bool) (found : List Tri) (pin pin' : List ℕ) (one one' : Bool) (value value' : Tri)
    → IsFirstWrong names wanted found pin one value → IsFirstWrong names wanted found pin' one' value'
    → (pin ≡ pin') × (one ≡ one') × (value ≡ value')
wrong_is_one names wanted found pin pin' one one' value value' x y =
    let same = index_is_one (map bit wanted) found x.index y.index x.before (wrong-apart names wanted found pin one value x) y.before (wrong-apart names wanted found pin' one' value' y) in (
      same_Some _ _ (sym x.pin_is ∙ ap (slice_get names) same ∙ y.pin_is),
      same_Some _ _ (sym x.wanted_is ∙ ap (slice_get wanted) same ∙ y.wanted_is),
      same_Some _ _ (sym x.found_is ∙ ap (slice_get found) same ∙ y.found_is),
    )

-- there is none where all are the network's
pub wrong_or_same : (names : List (List ℕ)) (wanted : List Bool) (found : List Tri) (pin : List ℕ) (one : Bool) (value : Tri)
    → IsFirstWrong names wanted found pin one value → found ≡ map bit wanted → ⊥
wrong_or_same names wanted found pin one value x same =
    wrong-apart names wanted found pin one value x (ap (λ (l : List Tri). slice_get l x.index) (sym same))

-- of as many names, bits and values there is a first that isn't its bit, or none
pub wrong_there : (names : List (List ℕ)) (wanted : List Bool) (found : List Tri) → length names ≡ length wanted → length found ≡ length wanted
    → ((pin : List ℕ) × (one : Bool) × (value : Tri) × IsFirstWrong names wanted found pin one value) ⊎ (found ≡ map bit wanted)
wrong_there names [] [] l m = inr refl
wrong_there names [] (v ∷ vs) l m = absurd (omega (arith, m))
wrong_there names (b ∷ bs) [] l m = absurd (omega (arith, m))
wrong_there [] (b ∷ bs) (v ∷ vs) l m = absurd (omega (arith, l))
wrong_there (n ∷ ns) (b ∷ bs) (v ∷ vs) l m = elim (dec_tri v (bit b)) [
  | inl h ↦ elim (wrong_there ns bs vs (omega (arith, l)) (omega (arith, m))) [
    | inl d ↦ inl (d.0, d.1, d.2, later h d.0 d.1 d.2 d.3)
    | inr k ↦ inr (λ i. h i ∷ k i)
  ]
  | inr a ↦ inl (n, b, v, record { index = 0; before = refl; pin_is = refl; wanted_is = refl; found_is = refl; apart = a })
]
  where
    later : v ≡ bit b → (pin : List ℕ) (one : Bool) (value : Tri) → IsFirstWrong ns bs vs pin one value → IsFirstWrong (n ∷ ns) (b ∷ bs) (v ∷ vs) pin one value
    later h pin one value d = record {
      index = suc d.index;
      before = λ i. sym h i ∷ d.before i;
      pin_is = d.pin_is;
      wanted_is = d.wanted_is;
      found_is = d.found_is;
      apart = d.apart;
    }
