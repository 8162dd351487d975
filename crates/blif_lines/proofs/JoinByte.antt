-- The byte that joins a line with the next, at its end.
use Rattle.std.proofs.Common.{◌≡◌, ℕ, suc, ◌-◌, true, false, ◌==◌, List, [], ◌∷◌, ◌++◌, length, get_or, sym, ap, ◌∙◌, arith, eq-eqb, eqb-true}
use Rattle.std.proofs.lemmas.Bool.{false_from_ne_true}
use Rattle.std.proofs.lemmas.List.{take_at, get_or_at, length_push}
use Rattle.blif_ast.specs.LogicalLines.{but_last, is_joined}
use Rattle.blif_ast.proofs.LineWords.{index-last, joined-last}

last-at : (front : List ℕ) (b : ℕ) → get_or (front ++ b ∷ []) (length (front ++ b ∷ []) - 1) 0 ≡ b
last-at front b = get_or_at front b [] 0 _ (omega (arith, length_push front b))

joined_by : (line : List ℕ) → is_joined line ≡ (get_or line (length line - 1) 0 == 92)
joined_by line = joined-last line ∙ ap (λ b. b == 92) (sym (index-last line))

pub joined-at : (line front : List ℕ) → line ≡ front ++ 92 ∷ [] → (is_joined line ≡ true) × (front ≡ but_last line)
joined-at line front is = (
  ap is_joined is ∙ joined_by (front ++ 92 ∷ []) ∙ eq-eqb _ 92 (last-at front 92),
  sym (ap but_last is ∙ take_at front (92 ∷ []) _ (omega (arith, length_push front 92))),
)

last_splits : (line : List ℕ) → get_or line (length line - 1) 0 ≡ 92 → (front : List ℕ) × (line ≡ front ++ 92 ∷ [])
last_splits [] is = absurd (omega (arith, is))
last_splits (b ∷ []) is = ([], ap (λ x. x ∷ []) is)
last_splits (b ∷ next ∷ bs) is =
    let place : length (b ∷ next ∷ bs) - 1 ≡ suc (length (next ∷ bs) - 1) = omega arith in
    let s = last_splits (next ∷ bs) (sym (ap (λ n. get_or (b ∷ next ∷ bs) n 0) place) ∙ is) in
    (b ∷ s.0, ap (λ l. b ∷ l) s.1)

pub not_joined : (line : List ℕ) → ((front : List ℕ) → line ≡ front ++ 92 ∷ [] → ⊥) → is_joined line ≡ false
not_joined line h = false_from_ne_true _ (λ e. let s = last_splits line (eqb-true _ _ (sym (joined_by line) ∙ e)) in h s.0 s.1)
