-- Trees over the names of nets, as they are appended to a circuit (Rabaey, Digital Integrated Circuits: pull-down networks).
use Rattle.std.specs.Prelude.{◌≡◌, ◌<◌, ℕ, List, ◌++◌, length}
use Rattle.std.specs.Fmt.{decimal}
use Rattle.deck.specs.Nets.{net_name}
use Rattle.sp_network.specs.Tree.{Tree, map_tree}

-- an inner net: how all of them begin, and its number
abbrev pub inner_net : List ℕ → ℕ → List ℕ
inner_net front j = front ++ decimal j

-- these are inner nets by their numbers, from the first on
abbrev pub AreInnerNames : List ℕ → List (List ℕ) → Type 0
AreInnerNames front names = (j : ℕ) → j < length names → net_name names j ≡ inner_net front j

-- the tree over the names of the nets that gate its leaves
abbrev pub named_tree : List (List ℕ) → Tree ℕ → Tree (List ℕ)
named_tree gates tree = map_tree (net_name gates) tree
