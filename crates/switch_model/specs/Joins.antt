-- Nets that are joined, as a forest.
use Rattle.std.specs.Prelude.{◌≡◌, ◌≢◌, ◌⊎◌, ◌≤◌, zero, suc, ℕ, List, length, slice_index_or}

-- the net above a net; the net itself at the top
abbrev pub above : List ℕ → ℕ → ℕ
above parents net = slice_index_or parents net net

-- so many times up
abbrev pub climb : ℕ → List ℕ → ℕ → ℕ
climb zero parents net = net
climb (suc times) parents net = climb times parents (above parents net)

-- the top above a net: nets with one top are joined
abbrev pub top_of : List ℕ → ℕ → ℕ
top_of parents net = climb (length parents) parents net

-- each net stands above itself or has one of a smaller number above it
abbrev pub IsJoinForest : List ℕ → Type 0
IsJoinForest parents = (net : ℕ) → above parents net ≤ net

-- two nets are joined
abbrev pub AreJoined : List ℕ → ℕ → ℕ → Type 0
AreJoined parents a b = top_of parents a ≡ top_of parents b

-- the tops of two nets, in one order or the other
abbrev pub AreTopsOf : List ℕ → ℕ → ℕ → ℕ → ℕ → Type 0
AreTopsOf parents a b t u = ((t ≡ top_of parents a) × (u ≡ top_of parents b)) ⊎ ((t ≡ top_of parents b) × (u ≡ top_of parents a))

-- the top of a net is as before, but keep where it was gone
abbrev pub IsTopMoved : List ℕ → List ℕ → ℕ → ℕ → ℕ → Type 0
IsTopMoved old new keep gone n = ((top_of old n ≡ gone) × (top_of new n ≡ keep)) ⊎ ((top_of old n ≢ gone) × (top_of new n ≡ top_of old n))
