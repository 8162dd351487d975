-- Trees over other nets: of each net's image, and with other values of their gates.
use Rattle.std.proofs.Common.{◌≡◌, refl}
use Rattle.dom_base.specs.declared.kind.Kind.{Kind}
use Rattle.dom_base.specs.declared.tri.Tri.{Tri}
use Rattle.sp_network.specs.Tree.{Tree, Leaf, Series, Parallel, EachLeaf, height, inner_count, leaves, map_tree, tree_conduction, width}

pub inner_count-map_tree : {Net Image : Type 0} (f : Net → Image) (t : Tree Net) → inner_count (map_tree f t) ≡ inner_count t
inner_count-map_tree f (Leaf gate) = refl
inner_count-map_tree f (Series l r) = rw (inner_count-map_tree f l, inner_count-map_tree f r) refl
inner_count-map_tree f (Parallel l r) = rw (inner_count-map_tree f l, inner_count-map_tree f r) refl

pub leaves-map_tree : {Net Image : Type 0} (f : Net → Image) (t : Tree Net) → leaves (map_tree f t) ≡ leaves t
leaves-map_tree f (Leaf gate) = refl
leaves-map_tree f (Series l r) = rw (leaves-map_tree f l, leaves-map_tree f r) refl
leaves-map_tree f (Parallel l r) = rw (leaves-map_tree f l, leaves-map_tree f r) refl

pub width-map_tree : {Net Image : Type 0} (f : Net → Image) (t : Tree Net) → width (map_tree f t) ≡ width t
width-map_tree f (Leaf gate) = refl
width-map_tree f (Series l r) = rw (width-map_tree f l, width-map_tree f r) refl
width-map_tree f (Parallel l r) = rw (width-map_tree f l, width-map_tree f r) refl

pub height-map_tree : {Net Image : Type 0} (f : Net → Image) (t : Tree Net) → height (map_tree f t) ≡ height t
height-map_tree f (Leaf gate) = refl
height-map_tree f (Series l r) = rw (height-map_tree f l, height-map_tree f r) refl
height-map_tree f (Parallel l r) = rw (height-map_tree f l, height-map_tree f r) refl

pub tree_conduction-map_tree : {Net Image : Type 0} (kind : Kind) (value : Image → Tri) (f : Net → Image) (t : Tree Net)
    → tree_conduction kind value (map_tree f t) ≡ tree_conduction kind (λ n. value (f n)) t
tree_conduction-map_tree kind value f (Leaf gate) = refl
tree_conduction-map_tree kind value f (Series l r) =
    rw (tree_conduction-map_tree kind value f l, tree_conduction-map_tree kind value f r) refl
tree_conduction-map_tree kind value f (Parallel l r) =
    rw (tree_conduction-map_tree kind value f l, tree_conduction-map_tree kind value f r) refl

-- trees whose gates have the same values conduct alike
pub tree_conduction-same : {Net : Type 0} (kind : Kind) (value value' : Net → Tri) (t : Tree Net)
    → EachLeaf (λ n. value n ≡ value' n) t → tree_conduction kind value t ≡ tree_conduction kind value' t
tree_conduction-same kind value value' (Leaf gate) h = rw h refl
tree_conduction-same kind value value' (Series l r) h =
    rw (tree_conduction-same kind value value' l h.0, tree_conduction-same kind value value' r h.1) refl
tree_conduction-same kind value value' (Parallel l r) h =
    rw (tree_conduction-same kind value value' l h.0, tree_conduction-same kind value value' r h.1) refl
