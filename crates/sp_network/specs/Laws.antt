-- What the laws of trees say: a tree of known gates is known, it is One where its formula holds, and its dual is its opposite (Rabaey,
-- Digital Integrated Circuits: static complementary CMOS).
use Rattle.std.specs.Prelude.{◌≡◌, ◌↔◌, ℕ, IsTrue}
use Rattle.dom_base.specs.declared.kind.Kind.TheVariants.{N as nch, P as pch}
use Rattle.dom_base.specs.declared.tri.Tri.{Tri}
use Rattle.dom_base.specs.declared.tri.Tri.TheVariants.{One}
use Rattle.sp_network.specs.Duals.{ConductOpposite, OneConducts}
use Rattle.sp_network.specs.Known.{IsKnown, is_one}
use Rattle.sp_network.specs.Tree.{Tree, EachLeaf, dual, joins, tree_conduction}

-- where the value of each leaf's gate is known, so is the conduction of the tree
abbrev pub KnownTreeIsKnown : Type 0
KnownTreeIsKnown =
    (value : ℕ → Tri) (tree : Tree ℕ) → EachLeaf (λ n. IsKnown (value n)) tree → IsKnown (tree_conduction nch value tree)

-- a tree is One exactly where its formula holds: `and` for series, `or` for parallel, for a leaf that its gate is One
abbrev pub TreeIsFormula : Type 0
TreeIsFormula =
    (value : ℕ → Tri) (tree : Tree ℕ) → (tree_conduction nch value tree ≡ One) ↔ IsTrue (joins (λ n. is_one (value n)) tree)

-- a tree of nch and its dual of pch have opposite conduction at all values of their gates
abbrev pub DualConductsOpposite : Type 0
DualConductsOpposite = (tree : Tree ℕ) → ConductOpposite nch tree pch (dual tree)

-- of a tree of nch and its dual of pch exactly one conducts where the values of all gates are known
abbrev pub OneOfTreeAndDual : Type 0
OneOfTreeAndDual = (tree : Tree ℕ) → OneConducts nch tree pch (dual tree)
