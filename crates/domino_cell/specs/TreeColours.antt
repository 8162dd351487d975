-- The nets of a tree of devices, and colours of nets: where a tree doesn't join its ends, colours show that no path does.
use Rattle.std.specs.Prelude.{◌≡◌, ◌≢◌, ◌⊎◌, ◌<◌, ◌≤◌, ◌+◌, ℕ, Bool, true, cond, eqb, List}
use Rattle.std.specs.List.{AllByRecursion}
use Rattle.dom_base.specs.declared.kind.Kind.{Kind}
use Rattle.deck.specs.NamedDevices.{NamedDevice}
use Rattle.sp_network.specs.Tree.{Tree, Leaf, Series, Parallel, joins, inner_count}
use Rattle.domino_cell.specs.Spelling.{spell}

-- x is the top, the bottom or one of the n inner nets from the k-th on
abbrev pub IsIn : (ℕ → ℕ) → ℕ → ℕ → ℕ → ℕ → ℕ → Type 0
IsIn inner top bottom k n x = (x ≡ top) ⊎ ((x ≡ bottom) ⊎ ((j : ℕ) × (k ≤ j) × (j < k + n) × (x ≡ inner j)))

-- x is none of the n inner nets from the k-th on
abbrev pub IsOutside : (ℕ → ℕ) → ℕ → ℕ → ℕ → Type 0
IsOutside inner k n x = (j : ℕ) → k ≤ j → j < k + n → x ≢ inner j

-- the n inner nets from the k-th on are different nets
abbrev pub IsApart : (ℕ → ℕ) → ℕ → ℕ → Type 0
IsApart inner k n = (i j : ℕ) → k ≤ i → i < k + n → k ≤ j → j < k + n → inner i ≡ inner j → i ≡ j

-- no device whose gate passes the test has ends of two colours
abbrev pub IsPainted : (ℕ → Bool) → (ℕ → Bool) → List (NamedDevice ℕ) → Type 0
IsPainted c g ds = AllByRecursion (λ d. g d.gate ≡ true → c d.drain ≡ c d.source) ds

abbrev pub with_colour : (ℕ → Bool) → ℕ → Bool → ℕ → Bool
with_colour c n v x = cond (eqb x n) v (c x)

-- The colours c, with the inner nets of the tree coloured: the net between two parts in series takes the
-- colour of the top where the left part joins its ends, else that of the bottom.
unfoldable pub painting : (ℕ → Bool) → (ℕ → ℕ) → Tree ℕ → ℕ → ℕ → ℕ → (ℕ → Bool) → ℕ → Bool
painting g inner (Leaf gate) top bottom k c = c
painting g inner (Series l r) top bottom k c =
    painting g inner r (inner k) bottom (k + 1 + inner_count l)
    (painting g inner l top (inner k) (k + 1) (with_colour c (inner k) (cond (joins g l) (c top) (c bottom))))
painting g inner (Parallel l r) top bottom k c =
    painting g inner r top bottom (k + inner_count l) (painting g inner l top bottom k c)

-- other nets keep their colours, and the tree is painted
pub record Paints (g : ℕ → Bool) (kind : Kind) (inner : ℕ → ℕ) (t : Tree ℕ) (top bottom k : ℕ) (c c' : ℕ → Bool) : Type 0 where
  pub kept : (x : ℕ) → IsOutside inner k (inner_count t) x → c' x ≡ c x
  pub painted : IsPainted c' g (spell kind inner t top bottom k)
