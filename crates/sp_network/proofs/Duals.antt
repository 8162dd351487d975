-- Of a tree and its dual one conducts where the other does not.
use Rattle.std.proofs.Common.{◌≡◌, inl, inr, refl, sym, ap, ◌∙◌}
use Rattle.dom_base.specs.Conduction.{conduction}
use Rattle.dom_base.specs.Polarity.{IsSwitch}
use Rattle.dom_base.specs.Tri.{opposite}
use Rattle.dom_base.specs.declared.kind.Kind.{Kind}
use Rattle.dom_base.specs.declared.tri.Tri.{Tri}
use Rattle.dom_base.specs.declared.tri.Tri.TheVariants.{Zero, One, Unknown}
use Rattle.sp_network.specs.Duals.{ConductOpposite, OneConducts}
use Rattle.sp_network.specs.Tree.{Tree, Leaf, Series, Parallel, both, dual, either, tree_conduction}
use Rattle.sp_network.proofs.Known.{IsKnown-tree_conduction}

either-opposite : (a b : Tri) → either (opposite a) (opposite b) ≡ opposite (both a b)
either-opposite Zero b = refl
either-opposite One b = refl
either-opposite Unknown Zero = refl
either-opposite Unknown One = refl
either-opposite Unknown Unknown = refl

both-opposite : (a b : Tri) → both (opposite a) (opposite b) ≡ opposite (either a b)
both-opposite Zero b = refl
both-opposite One b = refl
both-opposite Unknown Zero = refl
both-opposite Unknown One = refl
both-opposite Unknown Unknown = refl

opposite-opposite : (v : Tri) → v ≡ opposite (opposite v)
opposite-opposite Zero = refl
opposite-opposite One = refl
opposite-opposite Unknown = refl

-- devices of the one kind are on where those of the other are off
abbrev pub AreOpposed : Kind → Kind → Type 0
AreOpposed kind kind' = (v : Tri) → conduction kind' v ≡ opposite (conduction kind v)

-- switches that are on at opposite values are opposed
pub switches_opposed : (kind kind' : Kind) (on on' : Tri) → IsSwitch kind on → IsSwitch kind' on' → on' ≡ opposite on → AreOpposed kind kind'
switches_opposed kind kind' on on' (inl a) (inl b) e v = absurd (clash (sym b.1 ∙ (e ∙ ap opposite a.1)))
  where
    clash : One ≡ Zero → ⊥
    clash x = cc
switches_opposed kind kind' on on' (inl a) (inr b) e v = rw (a.0, b.0) refl
switches_opposed kind kind' on on' (inr a) (inl b) e v = rw (a.0, b.0) (opposite-opposite v)
switches_opposed kind kind' on on' (inr a) (inr b) e v = absurd (clash (sym b.1 ∙ (e ∙ ap opposite a.1)))
  where
    clash : Zero ≡ One → ⊥
    clash x = cc

pub tree_conduction-dual : {Net : Type 0} (kind kind' : Kind) → AreOpposed kind kind' → (tree : Tree Net) → ConductOpposite kind tree kind' (dual tree)
tree_conduction-dual kind kind' h (Leaf gate) value = h (value gate)
tree_conduction-dual kind kind' h (Series l r) value =
    rw (tree_conduction-dual kind kind' h l value, tree_conduction-dual kind kind' h r value)
    (either-opposite (tree_conduction kind value l) (tree_conduction kind value r))
tree_conduction-dual kind kind' h (Parallel l r) value =
    rw (tree_conduction-dual kind kind' h l value, tree_conduction-dual kind kind' h r value)
    (both-opposite (tree_conduction kind value l) (tree_conduction kind value r))

-- where the values of all gates are known exactly one of them conducts
pub one_conducts : {Net : Type 0} (kind kind' : Kind) (tree tree' : Tree Net) → ConductOpposite kind tree kind' tree' → OneConducts kind tree kind' tree'
one_conducts kind kind' tree tree' h value known =
    elim (IsKnown-tree_conduction kind value tree known) [ inl e ↦ inr (e, h value ∙ ap opposite e) | inr e ↦ inl (e, h value ∙ ap opposite e) ]

-- a tree that is the dual of another, of devices to the other supply
pub dual_opposite : {Net : Type 0} (kind kind' : Kind) (on on' : Tri) (tree tree' : Tree Net) → IsSwitch kind on → IsSwitch kind' on' → on' ≡ opposite on
    → tree' ≡ dual tree → ConductOpposite kind tree kind' tree'
dual_opposite kind kind' on on' tree tree' a b e same value =
    ap (tree_conduction kind' value) same ∙ tree_conduction-dual kind kind' (switches_opposed kind kind' on on' a b e) tree value
