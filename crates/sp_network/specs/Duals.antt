-- Trees of which one conducts where the other does not (Rabaey, Digital Integrated Circuits: the pull-up and the pull-down network
-- of a static gate are dual).
use Rattle.std.specs.Prelude.{◌≡◌, ◌⊎◌}
use Rattle.dom_base.specs.Tri.{opposite}
use Rattle.dom_base.specs.declared.kind.Kind.{Kind}
use Rattle.dom_base.specs.declared.tri.Tri.{Tri}
use Rattle.dom_base.specs.declared.tri.Tri.TheVariants.{Zero, One}
use Rattle.sp_network.specs.Known.{IsKnown}
use Rattle.sp_network.specs.Tree.{Tree, EachLeaf, tree_conduction}

-- at all values of the gates, unknown ones too, the two trees have opposite conduction
abbrev pub ConductOpposite : {Net : Type 0} → Kind → Tree Net → Kind → Tree Net → Type 0
ConductOpposite {Net} kind tree kind' tree' =
    (value : Net → Tri) → tree_conduction kind' value tree' ≡ opposite (tree_conduction kind value tree)

-- where the values of all gates are known exactly one of the two trees conducts, and the other does not
abbrev pub OneConducts : {Net : Type 0} → Kind → Tree Net → Kind → Tree Net → Type 0
OneConducts {Net} kind tree kind' tree' =
    (value : Net → Tri) → EachLeaf (λ n. IsKnown (value n)) tree
    → ((tree_conduction kind value tree ≡ One) × (tree_conduction kind' value tree' ≡ Zero))
    ⊎ ((tree_conduction kind value tree ≡ Zero) × (tree_conduction kind' value tree' ≡ One))
