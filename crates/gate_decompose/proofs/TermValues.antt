-- The term of a table has the table's value.
use Rattle.std.proofs.lemmas.Option.{same_Some}
use Rattle.std.proofs.Common.{◌≡◌, ◌↔◌, inl, inr, refl, sym, ap, ap₂, subst, ◌∙◌, ℕ, zero, suc, Bool, true, false, not, cond, ◌&&◌, ◌||◌, List, [], ◌∷◌, length, map, take, drop, All, arith, take-append-drop}
use Rattle.std.specs.Prelude.{Any as AnyOf}
use Rattle.std.specs.List.{list_all, list_any}
use Rattle.std.proofs.lemmas.List.Elements.{All-head, All-tail}
use Rattle.std.proofs.lemmas.List.Folds.{list_all-append, list_any-append}
use Rattle.blif_ast.specs.declared.letter.Letter.{Letter}
use Rattle.blif_ast.specs.declared.letter.Letter.TheVariants.{Zero, One, Any}
use Rattle.blif_ast.proofs.TableRows.{Matches-cons, Matches-tail}
use Rattle.blif_ast.specs.TableValue.{IsOneAt, Matches}
use Rattle.sp_network.specs.Balanced.{balanced, first_half}
use Rattle.gate_decompose.specs.NetworkOrder.{TermsHaveValues}
use Rattle.gate_decompose.specs.Terms.{Term, Constant, Not, And, Or, items, row_term, term_value}
use Rattle.dom_base.proofs.Bools.{and_both, and_true, false_from_not, or_false, or_one}
use Rattle.std.proofs.lemmas.Bool.{and_from, or_left, or_right}
use Rattle.sp_network.proofs.BalancedExpressions.{balanced-halves, by_halves}
use Rattle.gate_decompose.specs.Items.{Among}
use Rattle.gate_decompose.proofs.Among.{among_left, among_right}

among_take : {X : Type 0} (n : ℕ) (x : X) (xs : List X) → Among x (take n xs) → Among x xs
among_take n x xs at = subst (Among x) (take-append-drop n xs) (among_left x (take n xs) (drop n xs) at)

among_drop : {X : Type 0} (n : ℕ) (x : X) (xs : List X) → Among x (drop n xs) → Among x xs
among_drop n x xs at = subst (Among x) (take-append-drop n xs) (among_right x (take n xs) (drop n xs) at)

-- what the operator keeps holds of a balanced expression
pub balanced_keeps : {T : Type 0} (P : T → Type 0) (op : T → T → T) (none : T) (xs : List T) → P none → ((a b : T) → P a → P b → P (op a b)) → ((x : T) → Among x xs → P x) → P (balanced op none xs)
balanced_keeps P op none [] start keeps each = start
balanced_keeps {T} P op none (x ∷ xs) start keeps each =
    by_halves (λ ys. ((y : T) → Among y ys → P y) → P (balanced op none ys)) (λ y h. h y (inl refl))
    (λ ys many front back h.
    subst P (sym (balanced-halves op none ys many))
    (keeps _ _ (front (λ y at. h y (among_take (first_half (length ys)) y ys at))) (back (λ y at. h y (among_drop (first_half (length ys)) y ys at)))))
    (length (x ∷ xs)) (x ∷ xs) (omega arith) (omega arith) each

-- a balanced And has the value of all its items, a balanced Or that of any
all_value : (value : ℕ → Bool) (xs : List Term) → term_value value (balanced And (Constant true) xs) ≡ list_all (term_value value) xs
all_value value [] = refl
all_value value (x ∷ xs) =
    by_halves (λ ys. term_value value (balanced And (Constant true) ys) ≡ list_all (term_value value) ys)
    (λ y. sym (and_true (term_value value y)))
    (λ ys many front back.
    let h : ℕ = first_half (length ys) in
    ap (term_value value) (balanced-halves And (Constant true) ys many)
    ∙ ap₂ ◌&&◌ front back
    ∙ sym (list_all-append (term_value value) (take h ys) (drop h ys))
    ∙ ap (list_all (term_value value)) (take-append-drop h ys))
    (length (x ∷ xs)) (x ∷ xs) (omega arith) (omega arith)

any_value : (value : ℕ → Bool) (xs : List Term) → term_value value (balanced Or (Constant false) xs) ≡ list_any (term_value value) xs
any_value value [] = refl
any_value value (x ∷ xs) =
    by_halves (λ ys. term_value value (balanced Or (Constant false) ys) ≡ list_any (term_value value) ys)
    (λ y. sym (or_false (term_value value y)))
    (λ ys many front back.
    let h : ℕ = first_half (length ys) in
    ap (term_value value) (balanced-halves Or (Constant false) ys many)
    ∙ ap₂ ◌||◌ front back
    ∙ sym (list_any-append (term_value value) (take h ys) (drop h ys))
    ∙ ap (list_any (term_value value)) (take-append-drop h ys))
    (length (x ∷ xs)) (x ∷ xs) (omega arith) (omega arith)

-- a row matches where all its items are 1
row_matches : (value : ℕ → Bool) (inputs : List ℕ) (row : List Letter) → length row ≡ length inputs → list_all (term_value value) (items inputs row) ≡ true → Matches row (map value inputs)
row_matches value [] [] same h = record { ones = λ k at. absurd (cc); zeros = λ k at. absurd (cc) }
row_matches value [] (l ∷ row) same h = absurd (omega arith)
row_matches value (s ∷ inputs) [] same h = absurd (omega arith)
row_matches value (s ∷ inputs) (One ∷ row) same h =
    let p = and_both (value s) (list_all (term_value value) (items inputs row)) h in
    Matches-cons One row (value s) (map value inputs) (λ e. p.0) (λ e. absurd (cc)) (row_matches value inputs row (omega arith) p.1)
row_matches value (s ∷ inputs) (Zero ∷ row) same h =
    let p = and_both (not (value s)) (list_all (term_value value) (items inputs row)) h in
    Matches-cons Zero row (value s) (map value inputs) (λ e. absurd (cc)) (λ e. false_from_not (value s) p.0) (row_matches value inputs row (omega arith) p.1)
row_matches value (s ∷ inputs) (Any ∷ row) same h =
    Matches-cons Any row (value s) (map value inputs) (λ e. absurd (cc)) (λ e. absurd (cc)) (row_matches value inputs row (omega arith) h)

row_all : (value : ℕ → Bool) (inputs : List ℕ) (row : List Letter) → Matches row (map value inputs) → list_all (term_value value) (items inputs row) ≡ true
row_all value [] row is = refl
row_all value (s ∷ inputs) [] is = refl
row_all value (s ∷ inputs) (One ∷ row) is =
    and_from (value s) (list_all (term_value value) (items inputs row)) (same_Some (value s) true (is.ones 0 refl)) (row_all value inputs row (Matches-tail One row (value s) (map value inputs) is))
row_all value (s ∷ inputs) (Zero ∷ row) is =
    and_from (not (value s)) (list_all (term_value value) (items inputs row)) (ap not (same_Some (value s) false (is.zeros 0 refl))) (row_all value inputs row (Matches-tail Zero row (value s) (map value inputs) is))
row_all value (s ∷ inputs) (Any ∷ row) is = row_all value inputs row (Matches-tail Any row (value s) (map value inputs) is)

row_value : (value : ℕ → Bool) (inputs : List ℕ) (row : List Letter) → term_value value (row_term inputs row) ≡ list_all (term_value value) (items inputs row)
row_value value inputs row = all_value value (items inputs row)

-- some row is 1 exactly where some row matches
some_row : (value : ℕ → Bool) (inputs : List ℕ) (rows : List (List Letter)) → All (λ row. length row ≡ length inputs) rows → list_any (term_value value) (map (row_term inputs) rows) ≡ true
    → AnyOf (λ row. Matches row (map value inputs)) rows
some_row value inputs [] fits h = absurd (cc)
some_row value inputs (row ∷ rows) fits h =
    elim (or_one (term_value value (row_term inputs row)) (list_any (term_value value) (map (row_term inputs) rows)) h) [
      | inl e ↦ (0, row, omega arith, refl, row_matches value inputs row (All-head (λ r. length r ≡ length inputs) row rows fits) (sym (row_value value inputs row) ∙ e))
      | inr e ↦ let r = some_row value inputs rows (All-tail (λ r. length r ≡ length inputs) row rows fits) e in (suc r.0, r.1, omega (arith, r.2), r.3, r.4)
    ]

any_row : (value : ℕ → Bool) (inputs : List ℕ) (rows : List (List Letter)) → AnyOf (λ row. Matches row (map value inputs)) rows → list_any (term_value value) (map (row_term inputs) rows) ≡ true
any_row value inputs [] (k, x, lt, e, is) = absurd (omega arith)
any_row value inputs (row ∷ rows) (zero, x, lt, e, is) =
    or_left (term_value value (row_term inputs row)) (list_any (term_value value) (map (row_term inputs) rows)) (row_value value inputs row ∙ row_all value inputs row (subst (λ r. Matches r (map value inputs)) (sym e) is))
any_row value inputs (row ∷ rows) (suc k, x, lt, e, is) =
    or_right (term_value value (row_term inputs row)) (list_any (term_value value) (map (row_term inputs) rows)) (any_row value inputs rows (k, x, omega arith, e, is))

table_value : (value : ℕ → Bool) (on : Bool) (inputs : List ℕ) (rows : List (List Letter)) → All (λ row. length row ≡ length inputs) rows
    → (term_value value (cond on (balanced Or (Constant false) (map (row_term inputs) rows)) (Not (balanced Or (Constant false) (map (row_term inputs) rows)))) ≡ true)
    ↔ IsOneAt on rows (map value inputs)
table_value value true inputs rows fits =
    let same = any_value value (map (row_term inputs) rows) in
    (λ e. some_row value inputs rows fits (sym same ∙ e), λ some. same ∙ any_row value inputs rows some)
table_value value false inputs rows fits =
    let same = any_value value (map (row_term inputs) rows) in (
      λ e some. (let x = false_from_not (term_value value (balanced Or (Constant false) (map (row_term inputs) rows))) e in let y = same ∙ any_row value inputs rows some in absurd (cc)),
      λ none. ap not (same ∙ no_row (list_any (term_value value) (map (row_term inputs) rows)) refl none),
    )
  where
    no_row : (b : Bool) → list_any (term_value value) (map (row_term inputs) rows) ≡ b → (AnyOf (λ row. Matches row (map value inputs)) rows → ⊥) → b ≡ false
    no_row true e none = absurd (none (some_row value inputs rows fits e))
    no_row false e none = refl

pub terms_have_values : TermsHaveValues
terms_have_values = λ t value fits. table_value value t.on t.inputs t.rows fits
