-- Nets that are added in turn, and their numbers.
use Rattle.std.specs.Prelude.{ℕ, ◌≡◌, List, nat_eq}
use Rattle.std.specs.Cmp.Lexicographic.{pointwise}
use Rattle.indexmap.specs.IndexSet.{insert_all}
use Rattle.deck.specs.Nets.{net_number, with_net}

-- the nets after each of these is added in turn
abbrev pub with_all : List (List ℕ) → List (List ℕ) → List (List ℕ)
with_all nets names = insert_all (pointwise nat_eq) nets names

-- the numbers of a drain, a gate and a source that are added in this order
abbrev pub AreNumbersOf : List (List ℕ) → List ℕ → List ℕ → List ℕ → ℕ × ℕ × ℕ → Type 0
AreNumbersOf nets d g s p =
    (p.0 ≡ net_number nets d) × (p.1 ≡ net_number (with_net nets d) g) × (p.2 ≡ net_number (with_net (with_net nets d) g) s)
