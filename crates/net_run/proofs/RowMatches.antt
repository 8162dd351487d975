-- Whether rows match, letter by letter and row by row.
use Rattle.std.proofs.Common.{◌≡◌, ℕ, ◌<◌, ◌≤◌, ◌+◌, inl, inr, Bool, true, false, List, map, length, get_or, Some, refl, ap, sym, ◌∙◌, subst, arith}
use Rattle.std.specs.Prelude.{◌↔◌, ◌&&◌, Any as AnyOf, slice_get}
use Rattle.std.proofs.lemmas.Bool.{and_from, cases_eq, cases_lt, true≢false}
use mathlib.Core.Bool.{beq}
use Rattle.std.proofs.lemmas.Option.{get_or_from_slice_get, same_Some, slice_get-get_or, slice_get_within}
use Rattle.dom_base.proofs.Bools.{and_both}
use Rattle.network.proofs.Lists.{get_map}
use Rattle.blif_ast.specs.declared.letter.Letter.{Letter}
use Rattle.blif_ast.specs.declared.letter.Letter.TheVariants.{Zero, One}
use Rattle.blif_ast.specs.TableValue.{IsOneAt, Matches}
use Rattle.net_run.specs.RunnerData.{StandBetween, StandsFor}
use Rattle.net_run.specs.Runs.{value_at}

module _ (letters : List Letter) (inputs : List ℕ) (values : List Bool) where
  abbrev pub Stands : ℕ → ℕ → Type 0
  Stands = StandBetween letters inputs values

  pub no_letter : (k : ℕ) → Stands k k
  no_letter k j x a b e = absurd (omega (arith, a, b))

  pub more_letters : (i k m : ℕ) → Stands i k → Stands k m → Stands i m
  more_letters i k m a b j x p q e = elim (cases_lt j k) [
    | inl below ↦ a j x p below e
    | inr from ↦ b j x from q e
  ]

  pub fewer_letters : (i k m n : ℕ) → k ≤ i → m ≤ n → Stands k n → Stands i m
  fewer_letters i k m n p q a j x l lt e = a j x (omega (arith, p, l)) (omega (arith, q, lt)) e

  pub one_letter : (k : ℕ) (d : Letter) → StandsFor (get_or letters k d) (value_at values (get_or inputs k 0)) → Stands k (k + 1)
  one_letter k d stands j x a b e =
      let same : j ≡ k = omega (arith, a, b) in
      subst (λ m. StandsFor x (value_at values (get_or inputs m 0))) (sym same)
      (subst (λ z. StandsFor z (value_at values (get_or inputs k 0))) (ap (λ m. get_or letters m d) (sym same) ∙ get_or_from_slice_get letters j x d e) stands)

  pub that_letter : (i k : ℕ) (d : Letter) → i ≤ k → k < length letters → Stands i (k + 1) → StandsFor (get_or letters k d) (value_at values (get_or inputs k 0))
  that_letter i k d l lt a = a k (get_or letters k d) l (omega arith) (slice_get-get_or letters k d lt)

  -- whether the letters up to one stand, and it too
  pub with_one_letter : (i k : ℕ) (d : Letter) (all here : Bool) → i ≤ k → k < length letters → (all ≡ true) ↔ Stands i k
      → (here ≡ true) ↔ StandsFor (get_or letters k d) (value_at values (get_or inputs k 0)) → ((all && here) ≡ true) ↔ Stands i (k + 1)
  with_one_letter i k d all here l lt before at = (
    λ e. let both = and_both all here e in more_letters i k (k + 1) (before.0 both.0) (one_letter k d (at.0 both.1)),
    λ stands. and_from all here (before.1 (fewer_letters i i k (k + 1) (omega arith) (omega arith) stands)) (at.1 (that_letter i k d l lt stands)),
  )

  input_at : (k : ℕ) → k < length inputs → slice_get (map (value_at values) inputs) k ≡ Some (value_at values (get_or inputs k 0))
  input_at k l = get_map (value_at values) inputs k (get_or inputs k 0) (slice_get-get_or inputs k 0 l)

  pub all_letters : (m : ℕ) → length letters ≤ m → length letters ≡ length inputs → Stands 0 m → Matches letters (map (value_at values) inputs)
  all_letters m most same stands = record {
    ones = λ k e. let l = slice_get_within letters k One e in input_at k (omega (arith, l, same)) ∙ ap Some ((stands k One (omega arith) (omega (arith, l, most)) e).one refl);
    zeros = λ k e. let l = slice_get_within letters k Zero e in input_at k (omega (arith, l, same)) ∙ ap Some ((stands k Zero (omega arith) (omega (arith, l, most)) e).zero refl);
  }

  pub each_letter : (i m : ℕ) → length letters ≡ length inputs → Matches letters (map (value_at values) inputs) → Stands i m
  each_letter i m same row k x a b e =
      let at = input_at k (omega (arith, slice_get_within letters k x e, same)) in record {
        one = λ is. same_Some (value_at values (get_or inputs k 0)) true (sym at ∙ row.ones k (e ∙ ap Some is));
        zero = λ is. same_Some (value_at values (get_or inputs k 0)) false (sym at ∙ row.zeros k (e ∙ ap Some is));
      }

module _ (rows : List (List Letter)) (bits : List Bool) where
  -- none of the first rows matches
  abbrev pub NoneMatches : ℕ → Type 0
  NoneMatches k = (j : ℕ) (row : List Letter) → j < k → slice_get rows j ≡ Some row → Matches row bits → ⊥

  pub one_row_more : (k : ℕ) (d : List Letter) → NoneMatches k → (Matches (get_or rows k d) bits → ⊥) → NoneMatches (k + 1)
  one_row_more k d none fails j row lt e m = elim (cases_eq j k) [
    | inl same ↦ fails (subst (λ r. Matches r bits) (sym (ap (λ n. get_or rows n d) (sym same) ∙ get_or_from_slice_get rows j row d e)) m)
    | inr apart ↦ none j row (omega (arith, lt, apart)) e m
  ]

  pub no_row : NoneMatches (length rows) → AnyOf (λ row. Matches row bits) rows → ⊥
  no_row none a = none a.0 a.1 a.2 (slice_get-get_or rows a.0 a.1 a.2 ∙ ap Some a.3) a.4

-- the value of a table by whether a row matches
pub by_rows : (any on : Bool) (rows : List (List Letter)) (bits : List Bool) → (any ≡ true) ↔ IsOneAt true rows bits → (beq any on ≡ true) ↔ IsOneAt on rows bits
by_rows true true rows bits is = is
by_rows false true rows bits is = is
by_rows true false rows bits is = (λ e. absurd (true≢false (sym e)), λ none. absurd (none (is.0 refl)))
by_rows false false rows bits is = (λ e a. true≢false (sym (is.1 a)), λ none. refl)
