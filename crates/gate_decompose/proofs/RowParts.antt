-- The items of rows, and that a row makes what its items make.
use Rattle.std.proofs.Common.{◌≡◌, refl, sym, ap, ap₂, subst, ◌∙◌, ℕ, zero, suc, ◌+◌, ◌≤◌, ◌<◌, Bool, true, false, List, [], ◌∷◌, ◌++◌, length, map, take, drop, get_or, All, arith, add-one}
use Rattle.std.proofs.lemmas.List.{map-append, length-map}
use Rattle.std.proofs.lemmas.List.Elements.{All-head, All-tail}
use Rattle.blif_ast.specs.declared.letter.Letter.{Letter}
use Rattle.blif_ast.specs.declared.letter.Letter.TheVariants.{Zero, One, Any}
use Rattle.gate_decompose.specs.declared.expression.Item.{Item}
use Rattle.gate_decompose.specs.declared.gates.Ref.{Ref}
use Rattle.gate_decompose.specs.declared.operator.Operator.TheVariants.{And as and_operator}
use Rattle.gate_decompose.specs.GateNodes.{Left, NodeName, Operand, Right, Turn}
use Rattle.gate_decompose.specs.RowItems.{AreRefs, row_made, row_signals, signal_item, letter_signals}
use Rattle.gate_decompose.specs.TermNodes.{all_joined, item_of, two_parts}
use Rattle.gate_decompose.specs.Terms.{And, Constant, Not, Signal, Term, items, row_term}
use Rattle.gate_decompose.proofs.JoinedItems.{all_joined-halves}
use Rattle.sp_network.specs.Balanced.{balanced, first_half}
use Rattle.sp_network.proofs.BalancedExpressions.{balanced-map, by_halves}
use Rattle.std.proofs.lemmas.List.{take-map, drop-map}

-- one letter more
signals_next : (inputs : List ℕ) (row : List Letter) (i : ℕ) (d : Letter) → length row ≡ length inputs → i < length row
    → row_signals (take (i + 1) inputs) (take (i + 1) row) ≡ row_signals (take i inputs) (take i row) ++ letter_signals (get_or inputs i 0) (get_or row i d)
signals_next inputs row i d fits lt = rw (add-one) (step inputs row i fits lt)
  where
    step : (inputs : List ℕ) (row : List Letter) (i : ℕ) → length row ≡ length inputs → i < length row
        → row_signals (take (suc i) inputs) (take (suc i) row) ≡ row_signals (take i inputs) (take i row) ++ letter_signals (get_or inputs i 0) (get_or row i d)
    step [] [] i fits lt = absurd (omega arith)
    step [] (x ∷ row) i fits lt = absurd (omega arith)
    step (s ∷ inputs) [] i fits lt = absurd (omega arith)
    step (s ∷ inputs) (One ∷ row) zero fits lt = refl
    step (s ∷ inputs) (Zero ∷ row) zero fits lt = refl
    step (s ∷ inputs) (Any ∷ row) zero fits lt = refl
    step (s ∷ inputs) (One ∷ row) (suc i) fits lt = ap (λ xs. (s, true) ∷ xs) (step inputs row i (omega arith) (omega arith))
    step (s ∷ inputs) (Zero ∷ row) (suc i) fits lt = ap (λ xs. (s, false) ∷ xs) (step inputs row i (omega arith) (omega arith))
    step (s ∷ inputs) (Any ∷ row) (suc i) fits lt = step inputs row i (omega arith) (omega arith)

items_next : (refs : List Ref) (inputs : List ℕ) (row : List Letter) (i : ℕ) (d : Letter) (xs : List Item) → length row ≡ length inputs → i < length row
    → xs ≡ map (signal_item refs) (row_signals (take i inputs) (take i row))
    → map (signal_item refs) (row_signals (take (i + 1) inputs) (take (i + 1) row)) ≡ xs ++ map (signal_item refs) (letter_signals (get_or inputs i 0) (get_or row i d))
items_next refs inputs row i d xs fits lt are =
    ap (map (signal_item refs)) (signals_next inputs row i d fits lt)
    ∙ map-append (signal_item refs) (row_signals (take i inputs) (take i row)) (letter_signals (get_or inputs i 0) (get_or row i d))
    ∙ ap (λ ys. ys ++ map (signal_item refs) (letter_signals (get_or inputs i 0) (get_or row i d))) (sym are)

pub letter_made : (refs : List Ref) (inputs : List ℕ) (row letters : List Letter) (i : ℕ) (d letter : Letter) (xs ys : List Item) → letters ≡ row → length row ≡ length inputs → i < length letters
    → get_or letters i d ≡ letter → xs ≡ map (signal_item refs) (row_signals (take i inputs) (take i row))
    → ys ≡ xs ++ map (signal_item refs) (letter_signals (get_or inputs i 0) letter) → ys ≡ map (signal_item refs) (row_signals (take (i + 1) inputs) (take (i + 1) row))
letter_made refs inputs row letters i d letter xs ys same fits lt is are next =
    next ∙ ap (λ x. xs ++ map (signal_item refs) (letter_signals (get_or inputs i 0) x)) (sym is ∙ ap (λ zs. get_or zs i d) same)
    ∙ sym (items_next refs inputs row i d xs fits (subst (λ zs. i < length zs) same lt) are)

-- no more signals than inputs
signals_few : (inputs : List ℕ) (row : List Letter) → length (row_signals inputs row) ≤ length inputs
signals_few [] row = omega arith
signals_few (s ∷ inputs) [] = omega arith
signals_few (s ∷ inputs) (One ∷ row) = let more = signals_few inputs row in omega arith
signals_few (s ∷ inputs) (Zero ∷ row) = let more = signals_few inputs row in omega arith
signals_few (s ∷ inputs) (Any ∷ row) = let more = signals_few inputs row in omega arith

pub items_few : (refs : List Ref) (inputs : List ℕ) (row : List Letter) (xs : List Item) → xs ≡ map (signal_item refs) (row_signals inputs row) → length xs ≤ length inputs
items_few refs inputs row xs are =
    let few = signals_few inputs row in
    subst (λ n. n ≤ length inputs) (sym (ap length are ∙ length-map (row_signals inputs row) (signal_item refs))) few

signed_term : ℕ × Bool → Term
signed_term (s, true) = Signal s
signed_term (s, false) = Not (Signal s)

row_terms : (inputs : List ℕ) (row : List Letter) → items inputs row ≡ map signed_term (row_signals inputs row)
unfolding signed_term
row_terms [] row = refl
row_terms (s ∷ inputs) [] = refl
row_terms (s ∷ inputs) (One ∷ row) = ap (λ xs. Signal s ∷ xs) (row_terms inputs row)
row_terms (s ∷ inputs) (Zero ∷ row) = ap (λ xs. Not (Signal s) ∷ xs) (row_terms inputs row)
row_terms (s ∷ inputs) (Any ∷ row) = row_terms inputs row

module _ (of : ℕ → Operand) where
  abbrev pub operand_at : ℕ × Bool → Operand × Bool
  operand_at (s, plus) = (of s, plus)

  -- the items by their names
  pub items_called : (names : List NodeName) (refs : List Ref) (inputs : List ℕ) (row : List Letter) → AreRefs names of refs → All (λ s. s < length refs) inputs
      → map (signal_item refs) (row_signals inputs row) ≡ map (item_of names) (map operand_at (row_signals inputs row))
  items_called names refs [] row known below = refl
  items_called names refs (s ∷ inputs) [] known below = refl
  items_called names refs (s ∷ inputs) (One ∷ row) known below =
      ap₂ (λ (r : Ref) xs. record { part = r; plus = true } ∷ xs) (known s (All-head (λ n. n < length refs) s inputs below)) (items_called names refs inputs row known (All-tail (λ n. n < length refs) s inputs below))
  items_called names refs (s ∷ inputs) (Zero ∷ row) known below =
      ap₂ (λ (r : Ref) xs. record { part = r; plus = false } ∷ xs) (known s (All-head (λ n. n < length refs) s inputs below)) (items_called names refs inputs row known (All-tail (λ n. n < length refs) s inputs below))
  items_called names refs (s ∷ inputs) (Any ∷ row) known below = items_called names refs inputs row known (All-tail (λ n. n < length refs) s inputs below)

  module _ (table : ℕ) where
    one_row : (p : ℕ × Bool) (way : List Turn) → row_made of table (signed_term p) way ≡ all_joined and_operator table (operand_at p ∷ []) way
    unfolding signed_term
    one_row (s, true) way = refl
    one_row (s, false) way = refl

    signals_joined : (ps : List (ℕ × Bool)) (way : List Turn) → row_made of table (balanced And (Constant true) (map signed_term ps)) way ≡ all_joined and_operator table (map operand_at ps) way
    signals_joined [] way = refl
    signals_joined (p ∷ ps) way =
        by_halves (λ qs. (w : List Turn) → row_made of table (balanced And (Constant true) (map signed_term qs)) w ≡ all_joined and_operator table (map operand_at qs) w)
        one_row
        (λ qs many front back w.
        let h : ℕ = first_half (length qs) in
        let count = length-map qs operand_at in
        let same : first_half (length (map operand_at qs)) ≡ h = ap first_half count in
        let name : NodeName = record { table = table; way = w } in
        ap (λ t. row_made of table t w) (balanced-map And (Constant true) signed_term qs many)
        ∙ ap₂ (two_parts and_operator name) (front (Left ∷ w)) (back (Right ∷ w))
        ∙ sym (ap₂ (λ xs ys. two_parts and_operator name (all_joined and_operator table xs (Left ∷ w)) (all_joined and_operator table ys (Right ∷ w)))
        (ap (λ n. take n (map operand_at qs)) same ∙ take-map operand_at h qs) (ap (λ n. drop n (map operand_at qs)) same ∙ drop-map operand_at h qs))
        ∙ sym (all_joined-halves and_operator table (map operand_at qs) w (omega (arith, many, count))))
        (length (p ∷ ps)) (p ∷ ps) (omega arith) (omega arith) way

    -- a row makes what its items make
    pub row_joined : (inputs : List ℕ) (row : List Letter) (way : List Turn) → row_made of table (row_term inputs row) way ≡ all_joined and_operator table (map operand_at (row_signals inputs row)) way
    row_joined inputs row way = ap (λ ts. row_made of table (balanced And (Constant true) ts) way) (row_terms inputs row) ∙ signals_joined (row_signals inputs row) way
