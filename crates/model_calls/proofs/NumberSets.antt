-- Sets of numbers: empty ones, and those that a number is put into.
use Rattle.std.proofs.Common.{ℕ, ◌<◌, inl, inr, Bool, true, false, ◌+◌, List, [], ◌∷◌, ◌++◌, length, replicate, set, take, sym, subst, arith, ◌∙◌}
use Rattle.std.specs.Prelude.{Contains, slice_index_or}
use Rattle.std.proofs.lemmas.Bool.{true≢false}
use Rattle.std.proofs.lemmas.List.{length-replicate, length-set, take_more}
use Rattle.std.proofs.lemmas.List.Elements.{Contains-append_left, Contains-append_right, Contains-append_cases}
use Rattle.dom_base.proofs.Lists.{Contains-first}
use Rattle.model_calls.specs.NumberSets.{IsSetOf}
use Rattle.model_calls.proofs.Fitting.{contains_cons}
use Rattle.network.proofs.IndexedLists.{get_replicate, get_set}

pub empty_set : (bound : ℕ) → IsSetOf bound [] (replicate bound false)
empty_set bound = record {
  length_is = length-replicate bound false;
  marked = λ k e. absurd (true≢false (sym (get_replicate bound false k true e)));
  unmarked = λ k e c. absurd (omega (arith, c.1));
}

pub set_with : (bound : ℕ) (numbers : List ℕ) (marks : List Bool) (x : ℕ) → IsSetOf bound numbers marks → IsSetOf bound (numbers ++ x ∷ []) (set marks x true)
set_with bound numbers marks x s = record {
  length_is = length-set marks x true ∙ s.length_is;
  marked = λ k e. elim (get_set marks x k true true e) [
    | inl h ↦ Contains-append_right numbers (x ∷ []) k (subst (Contains (x ∷ [])) (sym h.0) (Contains-first x []))
    | inr h ↦ Contains-append_left numbers (x ∷ []) k (s.marked k h.1)
  ];
  unmarked = λ k e c. elim (get_set marks x k true false e) [
    | inl h ↦ true≢false h.1
    | inr h ↦ elim (Contains-append_cases numbers (x ∷ []) k c) [
      | inl old ↦ s.unmarked k h.1 old
      | inr new ↦ elim (contains_cons x [] k new) [ inl is ↦ h.0 (sym is) | inr none ↦ omega (arith, none.1) ]
    ]
  ];
}

pub set_of_next : (bound : ℕ) (numbers : List ℕ) (index : ℕ) (marks : List Bool) (d : ℕ) → index < length numbers → IsSetOf bound (take index numbers) marks
    → IsSetOf bound (take (index + 1) numbers) (set marks (slice_index_or numbers index d) true)
set_of_next bound numbers index marks d l s =
    subst (λ n. IsSetOf bound n (set marks (slice_index_or numbers index d) true)) (sym (take_more numbers index d l)) (set_with bound (take index numbers) marks (slice_index_or numbers index d) s)
