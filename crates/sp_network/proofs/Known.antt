-- Trees whose gates all have known values.
use Rattle.std.proofs.Common.{◌≡◌, refl, inl, inr, sym, ◌∙◌, ap}
use Rattle.std.specs.Prelude.{◌↔◌, IsTrue}
use Rattle.dom_base.specs.Conduction.{conduction}
use Rattle.dom_base.specs.declared.kind.Kind.{Kind}
use Rattle.dom_base.specs.declared.kind.Kind.TheVariants.{N as nch, P as pch, Keep}
use Rattle.dom_base.specs.declared.tri.Tri.{Tri}
use Rattle.dom_base.specs.declared.tri.Tri.TheVariants.{One}
use Rattle.sp_network.specs.Known.{IsKnown, is_one}
use Rattle.sp_network.specs.Tree.{Tree, Leaf, Series, Parallel, both, either, joins, tree_conduction, EachLeaf}
use Rattle.sp_network.proofs.TreeTests.{IsTest-is_one, is_one-true, joins-conduction}

pub IsKnown-both : (a b : Tri) → IsKnown a → IsKnown b → IsKnown (both a b)
IsKnown-both a b (inl h) k = inl (rw h refl)
IsKnown-both a b (inr h) k = rw h k

pub IsKnown-either : (a b : Tri) → IsKnown a → IsKnown b → IsKnown (either a b)
IsKnown-either a b (inl h) k = rw h k
IsKnown-either a b (inr h) k = inr (rw h refl)

pub IsKnown-conduction : (kind : Kind) (v : Tri) → IsKnown v → IsKnown (conduction kind v)
IsKnown-conduction nch v h = h
IsKnown-conduction pch v (inl h) = inr (rw h refl)
IsKnown-conduction pch v (inr h) = inl (rw h refl)
IsKnown-conduction Keep v (inl h) = inr (rw h refl)
IsKnown-conduction Keep v (inr h) = inl (rw h refl)

-- where the values of all gates are known, so is the conduction
pub IsKnown-tree_conduction : {Net : Type 0} (kind : Kind) (value : Net → Tri) (t : Tree Net)
    → EachLeaf (λ n. IsKnown (value n)) t → IsKnown (tree_conduction kind value t)
IsKnown-tree_conduction kind value (Leaf gate) h = IsKnown-conduction kind (value gate) h
IsKnown-tree_conduction kind value (Series l r) h =
    IsKnown-both _ _ (IsKnown-tree_conduction kind value l h.0) (IsKnown-tree_conduction kind value r h.1)
IsKnown-tree_conduction kind value (Parallel l r) h =
    IsKnown-either _ _ (IsKnown-tree_conduction kind value l h.0) (IsKnown-tree_conduction kind value r h.1)

-- the conduction is One exactly where the leaves that are on join the tree's ends
pub tree_conduction-one : {Net : Type 0} (kind : Kind) (value : Net → Tri) (t : Tree Net)
    → (tree_conduction kind value t ≡ One) ↔ IsTrue (joins (λ n. is_one (conduction kind (value n))) t)
tree_conduction-one kind value t =
    let e = joins-conduction is_one IsTest-is_one kind value t in
    ((λ h. sym e ∙ ap is_one h), (λ h. is_one-true _ (e ∙ h)))
