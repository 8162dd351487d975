-- Words that are the same as a known one.
use Rattle.std.proofs.Common.{◌≡◌, ℕ, Bool, true, false, ◌||◌, List, [], ◌∷◌, refl, ap, sym, ◌∙◌, subst}
use Rattle.std.specs.List.{AllByRecursion}
use Rattle.std.specs.Cmp.Lexicographic.{same_text}
use Rattle.blif_ast.specs.Cards.{same, is_one_of}

pub same-true : (a b : List ℕ) → same a b ≡ true → a ≡ b
same-true a b e = same_text a b (sym e)

-- what holds of each of some words holds of one of them
pub one_of-all : (P : List ℕ → Type 0) (all : List (List ℕ)) (word : List ℕ) → AllByRecursion P all → is_one_of all word ≡ true → P word
one_of-all P [] word h e = absurd (cc)
one_of-all P (other ∷ all) word h e = by (same word other) refl (one_of-all P all word h.1)
  where
    by : (b : Bool) → same word other ≡ b → (is_one_of all word ≡ true → P word) → P word
    by true is rest = subst P (sym (same-true word other is)) h.0
    by false is rest = rest (sym (ap (λ b. b || is_one_of all word) is) ∙ e)
