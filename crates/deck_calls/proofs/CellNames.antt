-- The names of cells, of their ports and of calls: they are names of nets without `=`, and differ.
use Rattle.std.proofs.Common.{◌≡◌, ℕ, ◌<◌, ◌+◌, ◌%◌, ◌^◌, ◌≢◌, zero, suc, Bool, true, false, nat_eq, List, [], ◌∷◌, ◌++◌, map, codes, refl, arith}
use Rattle.std.specs.List.{AllByRecursion, IsDistinct, range_with_len}
use Rattle.std.specs.Cmp.Lexicographic.{pointwise, bytes_decides}
use Rattle.std.specs.Fmt.{decimal}
use Rattle.std.proofs.lemmas.Fmt.{decimal_by_steps, decimal_injective}
use Rattle.std.proofs.lemmas.List.{append_cancel_left}
use Rattle.std.proofs.lemmas.List.Elements.{All-nil, All-cons, All-push, All-append}
use Rattle.dom_base.specs.Names.{IsNetName}
use Rattle.dom_base.proofs.Lists.{AllByRecursion-every, AllByRecursion-map}
use Rattle.deck.specs.DeckText.{HasNoEquals}
use Rattle.spice_text.proofs.CellPorts.{numbered_name}
use Rattle.spice_text.specs.Cells.{cell_port}

no_equals-decimal : (n : ℕ) → n < 2 ^ 64 → HasNoEquals (decimal n)
no_equals-decimal n low =
    decimal_by_steps (λ n ds. HasNoEquals ds)
    (λ n few. All-cons (λ b. b ≢ 61) (48 + n) [] (λ e. omega arith) (All-nil (λ b. b ≢ 61)))
    (λ n ds many front. All-push (λ b. b ≢ 61) ds (48 + n % 10) front (λ e. omega arith))
    n low

-- a front without `=` and a number
pub no_equals-numbered : (front : List ℕ) (n : ℕ) → HasNoEquals front → n < 2 ^ 64 → HasNoEquals (front ++ decimal n)
no_equals-numbered front n h few = All-append (λ b. b ≢ 61) front (decimal n) h (no_equals-decimal n few)

-- the same front with other numbers
pub numbers_apart : (front : List ℕ) (m n : ℕ) → m < 2 ^ 64 → n < 2 ^ 64 → m ≢ n → pointwise nat_eq (front ++ decimal m) (front ++ decimal n) ≡ false
numbers_apart front m n p q apart = by (pointwise nat_eq (front ++ decimal m) (front ++ decimal n)) refl
  where
    by : (b : Bool) → pointwise nat_eq (front ++ decimal m) (front ++ decimal n) ≡ b → pointwise nat_eq (front ++ decimal m) (front ++ decimal n) ≡ false
    by true e = absurd (apart (decimal_injective m n p q (append_cancel_left front (decimal m) (decimal n) ((bytes_decides (front ++ decimal m) (front ++ decimal n)).0 e))))
    by false e = e

port_apart : (k a n : ℕ) → k < a → a + n < 2 ^ 64 → AllByRecursion (λ y. pointwise nat_eq (cell_port k) y ≡ false) (map cell_port (range_with_len a n))
port_apart k a zero lt few = tt
port_apart k a (suc n) lt few = (numbers_apart (codes "p") k a (omega arith) (omega arith) (λ e. omega arith), port_apart k (a + 1) n (omega arith) (omega arith))

numbered_apart : (a n : ℕ) → a + n < 2 ^ 64 → IsDistinct (pointwise nat_eq) (map cell_port (range_with_len a n))
unfolding IsDistinct
numbered_apart a zero few = tt
numbered_apart a (suc n) few = (port_apart a (a + 1) n (omega arith) (omega arith), numbered_apart (a + 1) n (omega arith))

-- the ports of a cell differ
pub ports_apart : (n : ℕ) → n < 2 ^ 64 → IsDistinct (pointwise nat_eq) (codes "vdd" ∷ codes "vss" ∷ map cell_port (range_with_len 0 n))
unfolding IsDistinct
ports_apart n few = (
  (refl, AllByRecursion-map (λ y. pointwise nat_eq (codes "vdd") y ≡ false) cell_port (range_with_len 0 n) (AllByRecursion-every (λ k. pointwise nat_eq (codes "vdd") (cell_port k) ≡ false) (λ k. refl) (range_with_len 0 n))),
  (
    AllByRecursion-map (λ y. pointwise nat_eq (codes "vss") y ≡ false) cell_port (range_with_len 0 n) (AllByRecursion-every (λ k. pointwise nat_eq (codes "vss") (cell_port k) ≡ false) (λ k. refl) (range_with_len 0 n)),
    numbered_apart 0 n (omega arith),
  ),
)

-- the ports of a cell are names of nets without `=`
pub ports_plain : (a n : ℕ) → a + n < 2 ^ 64 → AllByRecursion IsNetName (map cell_port (range_with_len a n))
ports_plain a zero few = tt
ports_plain a (suc n) few = (numbered_name 112 [] a refl (omega arith), ports_plain (a + 1) n (omega arith))

pub ports_no_equals : (a n : ℕ) → a + n < 2 ^ 64 → AllByRecursion HasNoEquals (map cell_port (range_with_len a n))
ports_no_equals a zero few = tt
ports_no_equals a (suc n) few =
    (no_equals-numbered (codes "p") a (All-cons (λ b. b ≢ 61) 112 [] (λ e. omega arith) (All-nil (λ b. b ≢ 61))) (omega arith), ports_no_equals (a + 1) n (omega arith))
