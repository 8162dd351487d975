-- No two cards of a model stand on one line.
use Rattle.std.proofs.Common.{◌≡◌, ℕ, ◌≤◌, ◌+◌, Bool, true, false, cond, List, [], ◌∷◌, ◌++◌, map, filter, refl, sym, ◌∙◌, subst, arith, nat_eq, eqb-true}
use Rattle.std.specs.List.{AllByRecursion, IsDistinct}
use Rattle.std.proofs.lemmas.Bool.{false_from_ne_true}
use Rattle.dom_base.proofs.Lists.{AllByRecursion-append, AllByRecursion-weaker}
use Rattle.blif_ast.specs.LogicalLines.{LogicalLine}
use Rattle.blif_numbers.proofs.LineNumbers.{Rises, Rises-lower}

abbrev pub numbers_of : (LogicalLine → Bool) → List LogicalLine → List ℕ
numbers_of test all = map (λ line. line.number) (filter test all)

numbers_at_least : (n : ℕ) (test : LogicalLine → Bool) (all : List LogicalLine) → Rises n all → AllByRecursion (λ m. n ≤ m) (numbers_of test all)
numbers_at_least n test [] rises = tt
numbers_at_least n test (line ∷ more) rises = by (test line) refl (numbers_at_least n test more (Rises-lower (line.number + 1) n more (omega (arith, rises.0)) rises.1))
  where
    by : (b : Bool) → test line ≡ b → AllByRecursion (λ m. n ≤ m) (numbers_of test more) → AllByRecursion (λ m. n ≤ m) (numbers_of test (line ∷ more))
    by true e rest = subst (λ b. AllByRecursion (λ m. n ≤ m) (map (λ k. k.number) (cond b (line ∷ filter test more) (filter test more)))) (sym e) (rises.0, rest)
    by false e rest = subst (λ b. AllByRecursion (λ m. n ≤ m) (map (λ k. k.number) (cond b (line ∷ filter test more) (filter test more)))) (sym e) rest

differ : (a b : ℕ) → (a ≡ b → ⊥) → nat_eq a b ≡ false
differ a b h = false_from_ne_true (nat_eq a b) (λ e. h (eqb-true a b e))

-- numbers that are greater
greater : (n : ℕ) (ms : List ℕ) → AllByRecursion (λ m. n + 1 ≤ m) ms → AllByRecursion (λ m. nat_eq n m ≡ false) ms
greater n ms h = AllByRecursion-weaker (λ m. n + 1 ≤ m) (λ m. nat_eq n m ≡ false) (λ m k. differ n m (λ e. omega (arith, k, e))) ms h

pub distinct_numbers : (n : ℕ) (test : LogicalLine → Bool) (all : List LogicalLine) → Rises n all → IsDistinct nat_eq (numbers_of test all)
unfolding IsDistinct
distinct_numbers n test [] rises = tt
distinct_numbers n test (line ∷ more) rises = by (test line) refl (distinct_numbers (line.number + 1) test more rises.1)
  where
    by : (b : Bool) → test line ≡ b → IsDistinct nat_eq (numbers_of test more) → IsDistinct nat_eq (numbers_of test (line ∷ more))
    by true e rest =
        subst (λ b. IsDistinct nat_eq (map (λ k. k.number) (cond b (line ∷ filter test more) (filter test more)))) (sym e)
        (greater line.number (numbers_of test more) (numbers_at_least (line.number + 1) test more rises.1), rest)
    by false e rest = subst (λ b. IsDistinct nat_eq (map (λ k. k.number) (cond b (line ∷ filter test more) (filter test more)))) (sym e) rest

-- no number of the first list is in the second
abbrev pub Apart : List ℕ → List ℕ → Type 0
Apart ms ns = AllByRecursion (λ m. AllByRecursion (λ n. nat_eq m n ≡ false) ns) ms

-- a number in front of the second list, below those of the first
apart_push : (n : ℕ) (ms ns : List ℕ) → AllByRecursion (λ m. n + 1 ≤ m) ms → Apart ms ns → Apart ms (n ∷ ns)
apart_push n [] ns h k = tt
apart_push n (m ∷ ms) ns h k = ((differ m n (λ e. omega (arith, h.0, e)), k.0), apart_push n ms ns h.1 k.1)

-- two tests that no line passes both
pub apart_numbers : (n : ℕ) (one two : LogicalLine → Bool) → ((line : LogicalLine) → one line ≡ true → two line ≡ false) → (all : List LogicalLine) → Rises n all
    → Apart (numbers_of one all) (numbers_of two all)
apart_numbers n one two never [] rises = tt
apart_numbers n one two never (line ∷ more) rises = by (one line) (two line) refl refl (apart_numbers (line.number + 1) one two never more rises.1)
  where
    kept : (LogicalLine → Bool) → Bool → List ℕ
    kept test b = map (λ k. k.number) (cond b (line ∷ filter test more) (filter test more))

    by : (a b : Bool) → one line ≡ a → two line ≡ b → Apart (numbers_of one more) (numbers_of two more) → Apart (numbers_of one (line ∷ more)) (numbers_of two (line ∷ more))
    by true true e f rest = let no : true ≡ false = sym f ∙ never line e in absurd cc
    by true false e f rest =
        subst (λ a. Apart (kept one a) (kept two (two line))) (sym e) (subst (λ b. Apart (kept one true) (kept two b)) (sym f)
        (greater line.number (numbers_of two more) (numbers_at_least (line.number + 1) two more rises.1), rest))
    by false true e f rest =
        subst (λ a. Apart (kept one a) (kept two (two line))) (sym e) (subst (λ b. Apart (kept one false) (kept two b)) (sym f)
        (apart_push line.number (numbers_of one more) (numbers_of two more) (numbers_at_least (line.number + 1) one more rises.1) rest))
    by false false e f rest = subst (λ a. Apart (kept one a) (kept two (two line))) (sym e) (subst (λ b. Apart (kept one false) (kept two b)) (sym f) rest)

pub distinct_append : (ms ns : List ℕ) → IsDistinct nat_eq ms → IsDistinct nat_eq ns → Apart ms ns → IsDistinct nat_eq (ms ++ ns)
unfolding IsDistinct
distinct_append [] ns h k apart = k
distinct_append (m ∷ ms) ns h k apart = (AllByRecursion-append (λ n. nat_eq m n ≡ false) ms ns h.0 apart.0, distinct_append ms ns h.1 k apart.1)
