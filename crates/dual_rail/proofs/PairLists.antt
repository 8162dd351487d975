-- The pairs of marked nodes, and their places, node by node.
use Rattle.std.proofs.Common.{◌≡◌, inl, inr, sym, ap, ap₂, ◌∙◌, ℕ, zero, suc, ◌+◌, ◌*◌, ◌≤◌, ◌<◌, Bool, true, false, cond, ◌&&◌, List, [], ◌∷◌, ◌++◌, length, take, flat_map, get_or, count_by, Some, slice_get, arith, add-one, add-zero, zero-add, append-nil, append_assoc, length-append}
use Rattle.std.specs.List.{range_with_len}
use Rattle.std.proofs.Math.Seq.{get_or-append_seam}
use Rattle.std.proofs.lemmas.Bool.{cases_lt}
use Rattle.std.proofs.lemmas.List.{get_or_append_left}
use Rattle.std.proofs.lemmas.List.Sums.{sum_by_more}
use Rattle.dom_base.proofs.Lists.{slice_get-append}
use Rattle.gate_decompose.specs.declared.gates.Node.{Node}
use Rattle.gate_decompose.specs.GatesOrder.{is_operator}
use Rattle.gate_decompose.specs.NeededPass.{is_gate, is_marked_gate, pairs_from, signs_at}
use Rattle.dual_rail.specs.Places.{place_at}
use Rattle.dual_rail.specs.SignedValues.{of_sign}
use Rattle.dual_rail.specs.declared.signed.Signed.{Signed}

flat_map-more : {X : Type 0} (f : ℕ → List X) (a n : ℕ) → flat_map f (range_with_len a (n + 1)) ≡ flat_map f (range_with_len a n) ++ f (a + n)
flat_map-more {X} f a n = rw (add-one) (step a n)
  where
    step : (a n : ℕ) → flat_map f (range_with_len a (suc n)) ≡ flat_map f (range_with_len a n) ++ f (a + n)
    step a zero = append-nil (f a) ∙ ap f (sym (add-zero a))
    step a (suc n) =
        ap (λ xs. f a ++ xs) (step (a + 1) n) ∙ sym (append_assoc (f a) (flat_map f (range_with_len (a + 1) n)) (f (a + 1 + n)))
        ∙ ap (λ k. (f a ++ flat_map f (range_with_len (a + 1) n)) ++ f k) (shift a n)
      where
        shift : (a n : ℕ) → a + 1 + n ≡ a + suc n
        shift a n = omega arith

abbrev none : Signed ℕ
none = record { plus = 0; minus = 0 }

module _ (nodes : List Node) (marks : ℕ → Bool → Bool) (i : ℕ) (x : Node) (signs : Signed Bool) (at : slice_get nodes i ≡ Some x) (are : (s : Bool) → of_sign signs s ≡ (is_operator x && marks i s)) where
  sign_is : (s : Bool) → of_sign signs s ≡ is_marked_gate nodes marks i s
  sign_is s = are s ∙ ap (λ o. is_gate o && marks i s) (sym at)

  own_pairs : signs_at (λ n s. of_sign signs s) i ≡ signs_at (is_marked_gate nodes marks) i
  own_pairs = ap₂ (λ a b. cond a ((i, true) ∷ []) [] ++ cond b ((i, false) ∷ []) []) (sign_is true) (sign_is false)

  -- the pairs of a node more
  pub pairs_next : (pairs new : List (ℕ × Bool)) → pairs ≡ pairs_from (is_marked_gate nodes marks) 0 i → new ≡ pairs ++ signs_at (λ n s. of_sign signs s) i
      → new ≡ pairs_from (is_marked_gate nodes marks) 0 (i + 1)
  pairs_next pairs new so_far next =
      next ∙ ap₂ (λ xs ys. xs ++ ys) so_far own_pairs ∙ sym (flat_map-more (signs_at (is_marked_gate nodes marks)) 0 i ∙ ap (λ k. pairs_from (is_marked_gate nodes marks) 0 i ++ signs_at (is_marked_gate nodes marks) k) (zero-add i))

  -- their places
  pub places_next : (pairs new : List (ℕ × Bool)) (places new_places : List (Signed ℕ)) (own : Signed ℕ) → new ≡ pairs ++ signs_at (λ n s. of_sign signs s) i → length places ≡ i → new_places ≡ places ++ (own ∷ [])
      → ((n : ℕ) (s : Bool) → n < i → is_marked_gate nodes marks n s ≡ true → slice_get pairs (place_at places n s) ≡ Some (n, s))
      → ((s : Bool) → of_sign signs s ≡ true → slice_get new (of_sign own s) ≡ Some (i, s))
      → (n : ℕ) (s : Bool) → n < i + 1 → is_marked_gate nodes marks n s ≡ true → slice_get new (place_at new_places n s) ≡ Some (n, s)
  places_next pairs new places new_places own next count next_places before here n s lt marked =
      elim (cases_lt n i) [
        | inl low ↦
            ap (λ p. slice_get new (of_sign p s)) (ap (λ ps. get_or ps n none) next_places ∙ get_or_append_left places (own ∷ []) none n (omega (arith, low, count)))
            ∙ ap (λ xs. slice_get xs (place_at places n s)) next
            ∙ slice_get-append pairs (signs_at (λ m t. of_sign signs t) i) (place_at places n s) (n, s) (before n s low marked)
        | inr high ↦ last (omega (arith, lt, high))
      ]
    where
      last : n ≡ i → slice_get new (place_at new_places n s) ≡ Some (n, s)
      last same =
          ap (λ p. slice_get new (of_sign p s)) (ap₂ (λ ps k. get_or ps k none) next_places (same ∙ sym count) ∙ get_or-append_seam places own [] none)
          ∙ here s (sign_is s ∙ ap (λ k. is_marked_gate nodes marks k s) (sym same) ∙ marked) ∙ ap (λ (k : ℕ). Some (k, s)) (sym same)

  -- and how many there are
  pub few_next : (pairs new : List (ℕ × Bool)) (d : Node) → get_or nodes i d ≡ x → i < length nodes → new ≡ pairs ++ signs_at (λ n s. of_sign signs s) i → length pairs ≤ 2 * count_by is_operator (take i nodes)
      → length new ≤ 2 * count_by is_operator (take (i + 1) nodes)
  few_next pairs new d is lt next before =
      let more = sum_by_more (λ (y : Node). cond (is_operator y) 1 0) nodes i d lt in
      let same : one (is_operator (get_or nodes i d)) ≡ one (is_operator x) = ap (λ (y : Node). one (is_operator y)) is in
      let count = ap length next ∙ length-append pairs (signs_at (λ n s. of_sign signs s) i) in
      let own = few (is_operator x) (of_sign signs true) (of_sign signs false) (are true) (are false) in
      omega (arith, more, same, count, own, before)
    where
      both : Bool → Bool → List (ℕ × Bool)
      both p m = cond p ((i, true) ∷ []) [] ++ cond m ((i, false) ∷ []) []

      one : Bool → ℕ
      one b = cond b 1 0

      few : (b p m : Bool) → p ≡ (b && marks i true) → m ≡ (b && marks i false) → length (both p m) ≤ 2 * cond b 1 0
      few true true true e f = omega arith
      few true true false e f = omega arith
      few true false true e f = omega arith
      few true false false e f = omega arith
      few false true m e f = absurd (cc)
      few false false true e f = absurd (cc)
      few false false false e f = omega arith
