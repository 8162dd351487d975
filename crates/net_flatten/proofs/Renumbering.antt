-- The places of numbers in a list, as far as they were set.
use Rattle.std.proofs.Common.{◌≡◌, ℕ, ◌<◌, ◌+◌, ◌⊎◌, inl, inr, List, [], ◌∷◌, length, replicate, set, take, Some, ap, sym, ◌∙◌, subst, arith}
use Rattle.std.specs.Prelude.{Contains, slice_get, slice_index_or}
use Rattle.std.proofs.lemmas.Bool.{cases_eq}
use Rattle.std.proofs.lemmas.List.{get_or-set_other, get_or-set_same, length-replicate, length-set, take_all}
use Rattle.std.proofs.lemmas.List.Elements.{Contains-append_cases}
use Rattle.net_flatten.specs.NetworkNumbers.{IsRenumbering}
use Rattle.model_calls.proofs.Fitting.{contains_cons}
use Rattle.network.proofs.IndexedLists.{take_next}

-- the numbers before an index have places in the list
pub record IsRenumberingSoFar (signals : ℕ) (numbers : List ℕ) (index : ℕ) (places : List ℕ) : Type 0 where
  pub count : length places ≡ signals
  pub places_are : (number : ℕ) → Contains (take index numbers) number → slice_get numbers (slice_index_or places number 0) ≡ Some number

pub places_at_start : (signals : ℕ) (numbers : List ℕ) → IsRenumberingSoFar signals numbers 0 (replicate signals 0)
places_at_start signals numbers = record { count = length-replicate signals 0; places_are = λ number c. absurd (omega (arith, c.1)) }

pub places_at_next : (signals : ℕ) (numbers : List ℕ) (index : ℕ) (places : List ℕ) (number : ℕ) → slice_get numbers index ≡ Some number → number < signals
    → IsRenumberingSoFar signals numbers index places → IsRenumberingSoFar signals numbers (index + 1) (set places number index)
places_at_next signals numbers index places number at within s = record {
  count = length-set places number index ∙ s.count;
  places_are = λ other c. elim (cases_eq other number) [
    | inl is ↦ ap (λ k. slice_get numbers (slice_index_or (set places number index) k 0)) is ∙ ap (slice_get numbers) (get_or-set_same places number index 0 inside) ∙ at ∙ ap Some (sym is)
    | inr apart ↦ ap (slice_get numbers) (get_or-set_other places number other index 0 apart) ∙ s.places_are other (elim (either other c) [ inl old ↦ old | inr same ↦ absurd (apart (sym same)) ])
  ];
}
  where
    inside : number < length places
    inside = omega (arith, within, s.count)

    either : (other : ℕ) → Contains (take (index + 1) numbers) other → Contains (take index numbers) other ⊎ (number ≡ other)
    either other c = elim (Contains-append_cases (take index numbers) (number ∷ []) other (subst (λ l. Contains l other) (take_next numbers index number at) c)) [
      | inl old ↦ inl old
      | inr new ↦ elim (contains_cons number [] other new) [ inl is ↦ inr is | inr none ↦ absurd (omega (arith, none.1)) ]
    ]

pub places_at_end : (signals : ℕ) (numbers : List ℕ) (index : ℕ) (places : List ℕ) → length numbers ≡ index → IsRenumberingSoFar signals numbers index places → IsRenumbering signals numbers places
places_at_end signals numbers index places e s = record {
  count = s.count;
  places_are = λ number c. s.places_are number (subst (λ l. Contains l number) (sym (take_all index numbers (omega (arith, e)))) c);
}
