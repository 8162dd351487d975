-- The first index at which two lists differ.
use Rattle.std.proofs.Common.{◌≡◌, ◌≢◌, ℕ, zero, suc, ◌+◌, ◌<◌, ◌≤◌, ◌⊎◌, inl, inr, true, false, nat_eq, List, [], ◌∷◌, ◌++◌, length, min, take, Some, slice_get, slice_index_or, refl, sym, ap, ◌∙◌, arith}
use Rattle.std.specs.Cmp.Lexicographic.{bytes_decides, pointwise}
use Rattle.std.proofs.lemmas.List.{take_all, take_more}
use Rattle.std.proofs.lemmas.Option.{same_Some, slice_get-get_or, slice_get_past}
use Rattle.dom_base.specs.Decided.{Decided}
use Rattle.dom_base.proofs.Decided.{dec_nat, lt_or_ge}
use Rattle.dom_base.proofs.Lists.{head_same, tail_same}
use Rattle.trace_tool.specs.Verdicts.{DifferFirstAt}

-- what stands at an index of a front stands there in the list
front_get : {X : Type 0} (xs : List X) (i j : ℕ) → i < j → slice_get (take j xs) i ≡ slice_get xs i
front_get xs i zero lt = absurd (omega (arith, lt))
front_get [] i (suc j) lt = refl
front_get (x ∷ xs) zero (suc j) lt = refl
front_get (x ∷ xs) (suc i) (suc j) lt = front_get xs i j (omega (arith, lt))

-- lists with the same front are the same within it
pub same_within : {X : Type 0} (a b : List X) (i j : ℕ) → i < j → take j a ≡ take j b → slice_get a i ≡ slice_get b i
same_within a b i j lt same = sym (front_get a i j lt) ∙ ap (λ l. slice_get l i) same ∙ front_get b i j lt

-- an index is the only one with the same fronts and something that differs
pub index_is_one : {X : Type 0} (a b : List X) (i j : ℕ) → take i a ≡ take i b → slice_get a i ≢ slice_get b i → take j a ≡ take j b → slice_get a j ≢ slice_get b j → i ≡ j
index_is_one a b i j p q r s =
    elim (lt_or_ge i j) [
      | inl lt ↦ absurd (q (same_within a b i j lt r))
      | inr ge ↦ elim (lt_or_ge j i) [
        | inl lt ↦ absurd (s (same_within a b j i lt p))
        | inr le ↦ omega (arith, ge, le)
      ]
    ]

pub difference_is_one : (a b : List (List ℕ)) (i j : ℕ) → DifferFirstAt a b i → DifferFirstAt a b j → i ≡ j
difference_is_one a b i j x y = index_is_one a b i j x.before x.apart y.before y.apart

-- there is none where the lists are the same
pub difference_or_same : (a b : List (List ℕ)) (i : ℕ) → DifferFirstAt a b i → b ≡ a → ⊥
difference_or_same a b i x same = x.apart (ap (λ (l : List (List ℕ)). slice_get l i) (sym same))

dec_name : (a b : List ℕ) → Decided (a ≡ b)
dec_name [] [] = inl refl
dec_name [] (y ∷ ys) = inr (λ e. cc)
dec_name (x ∷ xs) [] = inr (λ e. cc)
dec_name (x ∷ xs) (y ∷ ys) = elim (dec_nat x y) [
  | inl h ↦ elim (dec_name xs ys) [
    | inl k ↦ inl (λ i. h i ∷ k i)
    | inr n ↦ inr (λ e. n (tail_same e))
  ]
  | inr n ↦ inr (λ e. n (head_same e))
]

-- two lists of names differ first at an index, or they are the same
pub difference_there : (a b : List (List ℕ)) → ((i : ℕ) × DifferFirstAt a b i) ⊎ (b ≡ a)
difference_there [] [] = inr refl
difference_there [] (y ∷ ys) = inl (0, record { before = refl; apart = λ e. cc })
difference_there (x ∷ xs) [] = inl (0, record { before = refl; apart = λ e. cc })
difference_there (x ∷ xs) (y ∷ ys) = elim (dec_name x y) [
  | inl h ↦ elim (difference_there xs ys) [
    | inl d ↦ inl (suc d.0, record { before = (λ i. h i ∷ d.1.before i); apart = d.1.apart })
    | inr k ↦ inr (λ i. sym h i ∷ k i)
  ]
  | inr n ↦ inl (0, record { before = refl; apart = (λ (e : Some x ≡ Some y). n (cc)) })
]

-- lists that are the same up to an index, with names there that differ
pub differ_here : (a b : List (List ℕ)) (i : ℕ) (x y : List ℕ) → take i a ≡ take i b → i < length a → i < length b
    → x ≡ slice_index_or a i x → y ≡ slice_index_or b i y → x ≢ y → DifferFirstAt a b i
differ_here a b i x y same within within' at at' differ = record {
  before = same;
  apart = λ e.
      differ
      (same_Some _ _ (ap (λ (l : List ℕ). Some l) at ∙ sym (slice_get-get_or a i x within) ∙ e ∙ slice_get-get_or b i y within' ∙ ap (λ (l : List ℕ). Some l) (sym at')));
}

-- lists that are the same up to the end of the shorter
pub differ_end : (a b : List (List ℕ)) (m : ℕ) → take m a ≡ take m b → m ≡ min (length a) (length b) → length a ≢ length b → DifferFirstAt a b m
differ_end a b m same is differ = record {
  before = same;
  apart = λ e. elim (lt_or_ge (length a) (length b)) [
    | inl lt ↦
        let none = slice_get_past a m (omega (arith, is, lt)) in
        let some = slice_get-get_or b m [] (omega (arith, is, lt)) in
        let no = sym none ∙ e ∙ some in absurd cc
    | inr ge ↦
        let less : length b < length a = below ge in
        let none = slice_get_past b m (omega (arith, is, less)) in
        let some = slice_get-get_or a m [] (omega (arith, is, less)) in
        let no = sym none ∙ sym e ∙ some in absurd cc
  ];
}
  where
    below : length b ≤ length a → length b < length a
    below ge = elim (lt_or_ge (length b) (length a)) [ inl x ↦ x | inr y ↦ absurd (differ (omega (arith, ge, y))) ]

pub same_all : (a b : List (List ℕ)) (m : ℕ) → take m a ≡ take m b → m ≡ min (length a) (length b) → length a ≡ length b → b ≡ a
same_all a b m same is even =
    sym (take_all m b (omega (arith, is, even))) ∙ sym same ∙ take_all m a (omega (arith, is, even))

-- names that a test tells apart, and names that it doesn't
pub told_apart : (x y : List ℕ) → pointwise nat_eq x y ≡ false → x ≢ y
told_apart x y test same =
    let there : true ≡ false = sym ((bytes_decides y y).1 refl) ∙ ap (λ (l : List ℕ). pointwise nat_eq l y) (sym same) ∙ test in cc

-- lists that are the same up to an index and there
pub same_more : (a b : List (List ℕ)) (i : ℕ) (x y : List ℕ) → take i a ≡ take i b → i < length a → i < length b
    → x ≡ slice_index_or a i x → y ≡ slice_index_or b i y → x ≡ y → take (i + 1) a ≡ take (i + 1) b
same_more a b i x y same within within' at at' equal =
    take_more a i x within
    ∙ (λ j. same j ++ (sym at ∙ equal ∙ at') j ∷ [])
    ∙ sym (take_more b i y within')
