-- Trees of switches in series and in parallel, and their conduction in three values (Rabaey, Digital
-- Integrated Circuits: series is And, parallel is Or).
use Rattle.std.specs.Prelude.{ℕ, ◌+◌, max, Bool, true, false, cond}
use Rattle.dom_base.specs.Conduction.{conduction}
use Rattle.dom_base.specs.declared.kind.Kind.{Kind}
use Rattle.dom_base.specs.declared.tri.Tri.{Tri}
use Rattle.dom_base.specs.declared.tri.Tri.TheVariants.{Zero, One, Unknown}

-- a tree of switches in series and in parallel; a leaf holds the net that gates it
pub data Tree (Net : Type 0) : Type 0 where
  Leaf : Net → Tree Net
  Series : Tree Net → Tree Net → Tree Net
  Parallel : Tree Net → Tree Net → Tree Net

-- two parts in series: Zero if one is, One if both are
abbrev pub both : Tri → Tri → Tri
both Zero b = Zero
both One b = b
both Unknown Zero = Zero
both Unknown One = Unknown
both Unknown Unknown = Unknown

-- two parts in parallel: One if one is, Zero if both are
abbrev pub either : Tri → Tri → Tri
either One b = One
either Zero b = b
either Unknown One = One
either Unknown Zero = Unknown
either Unknown Unknown = Unknown

-- whether a tree of devices of this kind conducts at these values of its gates
abbrev pub tree_conduction : {Net : Type 0} → Kind → (Net → Tri) → Tree Net → Tri
tree_conduction kind value (Leaf gate) = conduction kind (value gate)
tree_conduction kind value (Series l r) = both (tree_conduction kind value l) (tree_conduction kind value r)
tree_conduction kind value (Parallel l r) = either (tree_conduction kind value l) (tree_conduction kind value r)

-- whether the leaves whose gates pass the test join the top of the tree to its bottom
abbrev pub joins : {Net : Type 0} → (Net → Bool) → Tree Net → Bool
joins test (Leaf gate) = test gate
joins test (Series l r) = cond (joins test l) (joins test r) false
joins test (Parallel l r) = cond (joins test l) true (joins test r)

-- P holds of the gate of each leaf
abbrev pub EachLeaf : {Net : Type 0} → (Net → Type 0) → Tree Net → Type 0
EachLeaf P (Leaf gate) = P gate
EachLeaf P (Series l r) = EachLeaf P l × EachLeaf P r
EachLeaf P (Parallel l r) = EachLeaf P l × EachLeaf P r

-- how many leaves the tree has
abbrev pub leaves : {Net : Type 0} → Tree Net → ℕ
leaves (Leaf gate) = 1
leaves (Series l r) = leaves l + leaves r
leaves (Parallel l r) = leaves l + leaves r

-- the most leaves side by side
abbrev pub width : {Net : Type 0} → Tree Net → ℕ
width (Leaf gate) = 1
width (Series l r) = max (width l) (width r)
width (Parallel l r) = width l + width r

-- the most leaves on a way from the top to the bottom
abbrev pub height : {Net : Type 0} → Tree Net → ℕ
height (Leaf gate) = 1
height (Series l r) = height l + height r
height (Parallel l r) = max (height l) (height r)

-- how many inner nets the tree takes: one for each series
abbrev pub inner_count : {Net : Type 0} → Tree Net → ℕ
inner_count (Leaf gate) = 0
inner_count (Series l r) = 1 + (inner_count l + inner_count r)
inner_count (Parallel l r) = inner_count l + inner_count r

-- the tree with the gate of each leaf taken to its image
abbrev pub map_tree : {Net Image : Type 0} → (Net → Image) → Tree Net → Tree Image
map_tree f (Leaf gate) = Leaf (f gate)
map_tree f (Series l r) = Series (map_tree f l) (map_tree f r)
map_tree f (Parallel l r) = Parallel (map_tree f l) (map_tree f r)

-- the tree with series and parallel exchanged
abbrev pub dual : {Net : Type 0} → Tree Net → Tree Net
dual (Leaf gate) = Leaf gate
dual (Series l r) = Parallel (dual l) (dual r)
dual (Parallel l r) = Series (dual l) (dual r)
