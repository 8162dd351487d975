-- The devices of a tree of switches (Rabaey, Digital Integrated Circuits: pull-down networks).
use Rattle.std.specs.Prelude.{ℕ, ◌+◌, List, [], ◌∷◌, ◌++◌}
use Rattle.dom_base.specs.declared.kind.Kind.{Kind}
use Rattle.deck.specs.NamedDevices.{NamedDevice}
use Rattle.sp_network.specs.Tree.{Tree, Leaf, Series, Parallel, inner_count}

-- The devices of a tree from the net top to the net bottom; the inner nets inner k, inner (k + 1) and so on
-- are free. A series takes the next inner net, then spells its left part from the top to it and its right
-- part from it to the bottom. A parallel spells both parts between the same nets.
abbrev pub spell : {Net : Type 0} → Kind → (ℕ → Net) → Tree Net → Net → Net → ℕ → List (NamedDevice Net)
spell kind inner (Leaf gate) top bottom k = record { kind = kind; drain = top; gate = gate; source = bottom } ∷ []
spell kind inner (Series l r) top bottom k =
    spell kind inner l top (inner k) (k + 1) ++ spell kind inner r (inner k) bottom (k + 1 + inner_count l)
spell kind inner (Parallel l r) top bottom k =
    spell kind inner l top bottom k ++ spell kind inner r top bottom (k + inner_count l)
