-- Binary trees of counts.
use Rattle.std.specs.Prelude.{◌≡◌, ◌≢◌, ◌<◌, ◌≤◌, ◌+◌, ◌*◌, ◌^◌, zero, suc, ℕ, List, [], ◌∷◌, ◌++◌, length, slice_index_or}
use Rattle.dom_base.specs.declared.tri.Tri.{Tri}

-- the count at a node of a binary tree: node 1 is the top, the nodes below node n are 2n and 2n + 1
abbrev pub count_at : List ℕ → ℕ → ℕ
count_at counts node = slice_index_or counts node 0

-- one number where there is a count, else none
abbrev pub number_if_counted : ℕ → ℕ → List ℕ
number_if_counted zero low = []
number_if_counted (suc count) low = low ∷ []

-- the numbers of the leaves with a count, of a node of this height whose first leaf has the number low
abbrev pub listed_at : List ℕ → ℕ → ℕ → ℕ → List ℕ
listed_at counts zero node low = number_if_counted (count_at counts node) low
listed_at counts (suc height) node low = listed_at counts height (2 * node) low ++ listed_at counts height (2 * node + 1) (low + 2 ^ height)

-- each node but one counts what the two below it count; the leaves stand from size on and count 0 or 1
pub record IsOpen (size : ℕ) (gap : ℕ) (counts : List ℕ) : Type 0 where
  pub long : length counts ≡ 2 * size
  pub sums : (node : ℕ) → 1 ≤ node → node < size → node ≢ gap
      → count_at counts node ≡ count_at counts (2 * node) + count_at counts (2 * node + 1)
  pub leaves : (node : ℕ) → size ≤ node → count_at counts node ≤ 1
  pub few : (node : ℕ) → count_at counts node * node ≤ 2 * size

-- each node counts what the two below it count: there is no node 0
abbrev pub IsTree : ℕ → List ℕ → Type 0
IsTree size counts = IsOpen size 0 counts

-- a tree with a leaf for each net, and a target of each
pub record IsPendingTree (nets size levels : ℕ) (counts : List ℕ) (targets : List Tri) : Type 0 where
  pub within : nets ≤ size
  pub small : size ≤ 2 ^ 27
  pub size_is : size ≡ 2 ^ levels
  pub tree : IsTree size counts
  -- leaves without a net count nothing
  pub empty : (n : ℕ) → nets ≤ n → count_at counts (size + n) ≡ 0
  pub long : length targets ≡ nets
