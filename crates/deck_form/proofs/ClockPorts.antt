-- The ports of clocks by their numbers, and names by their first letters.
use Rattle.std.proofs.Common.{◌≡◌, ℕ, suc, zero, ◌+◌, ◌≤◌, ◌<◌, true, List, [], ◌∷◌, ◌++◌, sym, ap, arith, Some, slice_get, nat_eq}
use Rattle.std.specs.Prelude.{codes}
use Rattle.std.specs.List.{starts_with}
use Rattle.std.proofs.lemmas.Bool.{and_parts, eqb-true}
use Rattle.std.proofs.lemmas.Fmt.{decimal_digit}
use Rattle.deck.specs.Ports.{leading_ports}
use Rattle.deck_form.specs.DeckNets.{clock_net}

-- a name that begins with two bytes
pub begins : (b c : ℕ) (name : List ℕ) → starts_with nat_eq name (b ∷ c ∷ []) ≡ true → (rest : List ℕ) × (name ≡ b ∷ rest)
begins b c [] e = absurd (cc)
begins b c (x ∷ name) e = let same : b ≡ x = eqb-true _ _ (and_parts _ _ e).0 in (name, ap (λ y. y ∷ name) (sym same))

clock_named : (n : ℕ) → n < 10 → Some (codes "ck" ++ (48 + n) ∷ []) ≡ Some (clock_net n)
clock_named n few = ap (λ ds. Some (codes "ck" ++ ds)) (sym (decimal_digit n few))

-- a clock stands behind the supplies
pub clock_at : (clocks i : ℕ) (rest : List (List ℕ)) → clocks ≤ 4 → i < clocks → slice_get (leading_ports clocks ++ rest) (2 + i) ≡ Some (clock_net (1 + i))
clock_at (suc zero) zero rest few lt = clock_named 1 (omega arith)
clock_at (suc (suc zero)) zero rest few lt = clock_named 1 (omega arith)
clock_at (suc (suc zero)) (suc zero) rest few lt = clock_named 2 (omega arith)
clock_at (suc (suc (suc zero))) zero rest few lt = clock_named 1 (omega arith)
clock_at (suc (suc (suc zero))) (suc zero) rest few lt = clock_named 2 (omega arith)
clock_at (suc (suc (suc zero))) (suc (suc zero)) rest few lt = clock_named 3 (omega arith)
clock_at (suc (suc (suc (suc zero)))) zero rest few lt = clock_named 1 (omega arith)
clock_at (suc (suc (suc (suc zero)))) (suc zero) rest few lt = clock_named 2 (omega arith)
clock_at (suc (suc (suc (suc zero)))) (suc (suc zero)) rest few lt = clock_named 3 (omega arith)
clock_at (suc (suc (suc (suc zero)))) (suc (suc (suc zero))) rest few lt = clock_named 4 (omega arith)
clock_at clocks i rest few lt = absurd (omega arith)
