-- Marks of leaves.
use Rattle.std.specs.Prelude.{◌==◌, ◌||◌}
use Rattle.std.proofs.Common.{◌≡◌, ℕ, ◌+◌, ◌*◌, ◌/◌, ◌%◌, ◌≤◌, ◌<◌, zero, suc, Bool, true, false, cond, List, [], ◌∷◌, ◌++◌, length, map, filter, take, set, replicate, get_or, refl, sym, ap, ◌∙◌, arith, eq-eqb, zero-add, inl, inr}
use Rattle.std.specs.List.{list_any, range_with_len}
use Rattle.std.proofs.lemmas.Bool.{cases_eq, ne_eqb}
use Rattle.std.proofs.lemmas.Grind.{get_or-set_at}
use Rattle.std.proofs.lemmas.List.{get_or-replicate, get_or-set_other, length-replicate, take_more}
use Rattle.std.proofs.lemmas.List.Folds.{list_any-append}
use Rattle.std.proofs.lemmas.List.FromFn.{filter_of_map_range_with_len_more}
use Rattle.dom_base.proofs.Bools.{or_false, or_true, or_assoc}
use Rattle.synth_flow.specs.NamedComplements.{MarksAlso}

-- a leaf that is marked, and the others
pub mark_set : (marks : List Bool) (place leaf : ℕ) → place < length marks → get_or (set marks place true) leaf false ≡ (get_or marks leaf false || (place == leaf))
mark_set marks place leaf low =
    elim (cases_eq place leaf) [
      | inl same ↦ get_or-set_at marks place leaf true false (sym same) low ∙ sym (ap (λ b. get_or marks leaf false || b) (eq-eqb place leaf same) ∙ or_true (get_or marks leaf false))
      | inr other ↦ get_or-set_other marks place leaf true false (λ e. other (sym e)) ∙ sym (ap (λ b. get_or marks leaf false || b) (ne_eqb place leaf other) ∙ or_false (get_or marks leaf false))
    ]

-- the gate of the opposite of a leaf
same_gate : (gate leaf : ℕ) → gate % 2 ≡ 1 → (gate / 2 == leaf) ≡ (gate == 2 * leaf + 1)
same_gate gate leaf odd =
    elim (cases_eq (gate / 2) leaf) [
      | inl same ↦ eq-eqb (gate / 2) leaf same ∙ sym (eq-eqb gate (2 * leaf + 1) (omega arith))
      | inr other ↦ ne_eqb (gate / 2) leaf other ∙ sym (ne_eqb gate (2 * leaf + 1) (λ e. other (omega arith)))
    ]

pub mark_gate : (marks : List Bool) (gate leaf : ℕ) → gate % 2 ≡ 1 → gate / 2 < length marks → get_or (set marks (gate / 2) true) leaf false ≡ (get_or marks leaf false || (gate == 2 * leaf + 1))
mark_gate marks gate leaf odd low = mark_set marks (gate / 2) leaf low ∙ ap (λ b. get_or marks leaf false || b) (same_gate gate leaf odd)

pub gate_kept : (marks : List Bool) (gate leaf : ℕ) → (gate % 2 ≡ 1 → length marks ≤ gate / 2) → leaf < length marks → get_or marks leaf false ≡ (get_or marks leaf false || (gate == 2 * leaf + 1))
gate_kept marks gate leaf far lt =
    let other : (gate == 2 * leaf + 1) ≡ false = ne_eqb gate (2 * leaf + 1) (λ e. let odd : gate % 2 ≡ 1 = omega arith in omega (arith, far odd)) in
    sym (ap (λ b. get_or marks leaf false || b) other ∙ or_false (get_or marks leaf false))

-- marks that are made in two turns
pub marks_both : (old between new : List Bool) (one two all : ℕ → Bool) → length between ≡ length old → MarksAlso old between one → MarksAlso between new two
    → ((leaf : ℕ) → all leaf ≡ (one leaf || two leaf)) → MarksAlso old new all
marks_both old between new one two all same first second is leaf lt =
    second leaf (omega arith) ∙ ap (λ b. b || two leaf) (first leaf lt) ∙ or_assoc (get_or old leaf false) (one leaf) (two leaf) ∙ ap (λ b. get_or old leaf false || b) (sym (is leaf))

-- marks that stayed as they were
pub marks_stay : (marks : List Bool) → MarksAlso marks marks (λ leaf. false)
marks_stay marks leaf lt = sym (or_false (get_or marks leaf false))

-- one more of a list
pub any_more : {X : Type 0} (test : X → Bool) (xs : List X) (k : ℕ) (x : X) → k < length xs → x ≡ get_or xs k x → list_any test (take (k + 1) xs) ≡ (list_any test (take k xs) || test x)
any_more test xs k x lt is =
    ap (list_any test) (take_more xs k x lt) ∙ list_any-append test (take k xs) (get_or xs k x ∷ []) ∙ ap (λ b. list_any test (take k xs) || b) (or_false (test (get_or xs k x)) ∙ ap test (sym is))

-- one more leaf of a range
pub filter_more : (test : ℕ → Bool) (n : ℕ) → filter test (range_with_len 0 (n + 1)) ≡ filter test (range_with_len 0 n) ++ cond (test n) (n ∷ []) []
filter_more test n =
    ap (filter test) (sym (map-same (range_with_len 0 (n + 1)))) ∙ filter_of_map_range_with_len_more test (λ x. x) 0 n n (zero-add n) ∙ ap (λ l. filter test l ++ cond (test n) (n ∷ []) []) (map-same (range_with_len 0 n))
  where
    map-same : (xs : List ℕ) → map (λ x. x) xs ≡ xs
    map-same [] = refl
    map-same (x ∷ xs) = ap (λ l. x ∷ l) (map-same xs)

-- tests that agree below a number
pub filter_same : (p q : ℕ → Bool) (a n : ℕ) → ((k : ℕ) → k < a + n → p k ≡ q k) → filter p (range_with_len a n) ≡ filter q (range_with_len a n)
filter_same p q a zero same = refl
filter_same p q a (suc n) same =
    let rest = filter_same p q (a + 1) n (λ k lt. same k (omega arith)) in
    λ i. cond (same a (omega arith) i) (a ∷ rest i) (rest i)

-- where none was marked before, those are marked that pass the test
pub marks_at : (count : ℕ) (start after : List Bool) (test : ℕ → Bool) → start ≡ replicate count false → MarksAlso start after test
    → (k : ℕ) → k < count → get_or after k false ≡ test k
marks_at count start after test none also k lt =
    also k (omega (arith, ap length none, length-replicate count false)) ∙ ap (λ l. get_or l k false || test k) none
    ∙ ap (λ b. b || test k) (get_or-replicate count k false false lt)

-- so the leaves that are marked are those that pass it
pub marked_are : (leaves : ℕ) (start after : List Bool) (test : ℕ → Bool) → start ≡ replicate leaves false → MarksAlso start after test
    → filter (λ leaf. get_or after leaf false) (range_with_len 0 leaves) ≡ filter test (range_with_len 0 leaves)
marked_are leaves start after test none also =
    filter_same (λ leaf. get_or after leaf false) test 0 leaves (λ k lt. marks_at leaves start after test none also k (omega arith))
