-- What the laws of domino cells say of paths in a circuit that holds the dynamic stage of a cell (Rabaey, Digital Integrated Circuits:
-- dynamic logic; Bryant, switch-level model: definite and possible paths).
use Rattle.std.specs.Prelude.{◌≡◌, ◌≢◌, ◌↔◌, ℕ, Bool, List}
use Rattle.dom_base.specs.declared.kind.Kind.TheVariants.{N as nch}
use Rattle.dom_base.specs.declared.tri.Tri.{Tri}
use Rattle.dom_base.specs.declared.tri.Tri.TheVariants.{Zero, One}
use Rattle.deck.specs.declared.device.Device.{Device}
use Rattle.deck.specs.Paths.{DefiniteStrong, Possible, PossibleStrong}
use Rattle.deck.specs.Switches.{value_of}
use Rattle.sp_network.specs.Tree.{Tree, tree_conduction}
use Rattle.domino_cell.specs.Cell.{CellNets}
use Rattle.domino_cell.specs.HeldCells.{IsDynamicStage}
use Rattle.domino_cell.specs.declared.style.Style.{Style}

-- the statement holds of each circuit that holds the dynamic stage of a cell of either style, at all values of its nets
abbrev pub InEachStage : (List Device → (ℕ → Bool) → List Tri → CellNets ℕ → Tree ℕ → Type 0) → Type 0
InEachStage Holds =
    (style : Style) (devices : List Device) (is_source : ℕ → Bool) (values : List Tri) (nets : CellNets ℕ) (tree : Tree ℕ)
    → IsDynamicStage style devices is_source nets tree → Holds devices is_source values nets tree

-- the dynamic net of a cell is surely joined to ground exactly where the clock and the tree are One
abbrev pub PullsDownWhereOne : Type 0
PullsDownWhereOne =
    InEachStage (λ devices is_source values nets tree.
    DefiniteStrong devices is_source values nets.dynamic nets.vss
    ↔ ((value_of values nets.clock ≡ One) × (tree_conduction nch (value_of values) tree ≡ One)))

-- it may be joined to ground exactly where neither the clock nor the tree is Zero
abbrev pub MayPullDownWhereNotZero : Type 0
MayPullDownWhereNotZero =
    InEachStage (λ devices is_source values nets tree.
    PossibleStrong devices is_source values nets.dynamic nets.vss
    ↔ ((value_of values nets.clock ≢ Zero) × (tree_conduction nch (value_of values) tree ≢ Zero)))

-- no path at all, not even through a keeper, may join it to ground but where neither the clock nor the tree is Zero
abbrev pub JoinsGroundThroughTreeAlone : Type 0
JoinsGroundThroughTreeAlone =
    InEachStage (λ devices is_source values nets tree.
    Possible devices is_source values nets.dynamic nets.vss
    → (value_of values nets.clock ≢ Zero) × (tree_conduction nch (value_of values) tree ≢ Zero))

-- the dynamic net of a cell is surely joined to its foot net exactly where the tree is One
abbrev pub JoinsFootWhereOne : Type 0
JoinsFootWhereOne =
    InEachStage (λ devices is_source values nets tree.
    DefiniteStrong devices is_source values nets.dynamic nets.foot ↔ (tree_conduction nch (value_of values) tree ≡ One))

-- it may be joined to its foot net exactly where the tree is not Zero
abbrev pub MayJoinFootWhereNotZero : Type 0
MayJoinFootWhereNotZero =
    InEachStage (λ devices is_source values nets tree.
    PossibleStrong devices is_source values nets.dynamic nets.foot ↔ (tree_conduction nch (value_of values) tree ≢ Zero))

-- no path at all, not even through a keeper, may join it to its foot net but where the tree is not Zero
abbrev pub JoinsFootThroughTreeAlone : Type 0
JoinsFootThroughTreeAlone =
    InEachStage (λ devices is_source values nets tree.
    Possible devices is_source values nets.dynamic nets.foot → tree_conduction nch (value_of values) tree ≢ Zero)
