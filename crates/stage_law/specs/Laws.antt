-- What the laws of stages say of the next values of their nets (Bryant, switch-level model: channel-connected groups;
-- Rabaey, Digital Integrated Circuits: dynamic logic, charge sharing).
use Rattle.std.specs.List.{AllByRecursion}
use Rattle.std.specs.Prelude.{Bool, Contains, List, Some, slice_get, true, ℕ, ◌≡◌, ◌≢◌, ◌⊎◌}
use Rattle.dom_base.specs.declared.kind.Kind.TheVariants.{Keep}
use Rattle.dom_base.specs.declared.tri.Tri.{Tri}
use Rattle.dom_base.specs.declared.tri.Tri.TheVariants.{One, Zero}
use Rattle.deck.specs.Paths.{DefiniteStrong, PossibleStrong}
use Rattle.deck.specs.Switches.{value_of}
use Rattle.deck.specs.declared.device.Device.{Device}
use Rattle.sp_network.specs.Known.{IsKnown}
use Rattle.sp_network.specs.Tree.{EachLeaf, Tree, tree_conduction}
use Rattle.domino_cell.specs.Stage.{Branch, IsStage, IsSpot, Spot, Top}
use Rattle.switch_model.specs.Targets.{IsTarget}
use Rattle.stage_law.specs.Precharged.{IsPrecharged, inner_taps, precharged}
use Rattle.stage_law.specs.Shut.{IsShut}
use Rattle.domino_cell.specs.Tapped.{IsTapped, Tap, ways}

-- the statement holds of each stage with taps in a circuit, at all values of its nets
abbrev pub InEachStage : (List Device → (ℕ → Bool) → List Tri → (Spot → ℕ) → List Branch → List Tap → Type 0) → Type 0
InEachStage Holds =
    (devices : List Device) (is_source : ℕ → Bool) (at : Spot → ℕ) (bs : List Branch) (taps : List Tap)
    → IsTapped devices is_source at bs taps → (values : List Tri) → Holds devices is_source values at bs taps

-- a possible strong path from the top to a source goes through a way to it that is no keeper and is not off
abbrev pub LeavesByWays : Type 0
LeavesByWays =
    InEachStage (λ devices is_source values at bs taps. (s : ℕ) → PossibleStrong devices is_source values (at Top) s → is_source s ≡ true
    → (b : Branch) × Contains (ways bs taps) b × (s ≡ b.supply) × (b.kind ≢ Keep)
    × (tree_conduction b.kind (value_of values) b.tree ≢ Zero))

-- a branch is no keeper and conducts, and each other way is a keeper, is off or leads to a source of the same value: the top goes to it
abbrev pub BranchDrives : Type 0
BranchDrives =
    InEachStage (λ devices is_source values at bs taps. (i : ℕ) (b : Branch) → slice_get bs i ≡ Some b → b.kind ≢ Keep
    → tree_conduction b.kind (value_of values) b.tree ≡ One
    → AllByRecursion (λ c. (c.kind ≡ Keep) ⊎ ((tree_conduction c.kind (value_of values) c.tree ≡ Zero)
    ⊎ (value_of values c.supply ≡ value_of values b.supply))) (ways bs taps)
    → IsTarget devices is_source values (at Top) (value_of values b.supply))

-- a keeper conducts, and each other way is off or a keeper to a source of the same value: the top goes to it
abbrev pub KeeperKeeps : Type 0
KeeperKeeps =
    InEachStage (λ devices is_source values at bs taps. (i : ℕ) (b : Branch) → slice_get bs i ≡ Some b → b.kind ≡ Keep
    → tree_conduction b.kind (value_of values) b.tree ≡ One
    → AllByRecursion (λ c. (tree_conduction c.kind (value_of values) c.tree ≡ Zero)
    ⊎ ((c.kind ≡ Keep) × (value_of values c.supply ≡ value_of values b.supply))) (ways bs taps)
    → IsTarget devices is_source values (at Top) (value_of values b.supply))

-- each device at the top is off: it keeps its value
abbrev pub ShutStageHolds : Type 0
ShutStageHolds =
    (devices : List Device) (is_source : ℕ → Bool) (at : Spot → ℕ) (bs : List Branch) → IsStage devices is_source at bs
    → (values : List Tri)
    → AllByRecursion (λ b. IsShut b.kind values b.tree) bs → IsTarget devices is_source values (at Top) (value_of values (at Top))

-- the dynamic stage of a cell that precharges its inner nets stands in the circuit
abbrev pub IsPrechargedCell : List Device → (ℕ → Bool) → (Spot → ℕ) → ℕ → ℕ → ℕ → Tree ℕ → Type 0
IsPrechargedCell devices is_source at vdd vss clock t = IsTapped devices is_source at (precharged vdd vss clock t) (inner_taps vdd clock t)

-- with the clock at Zero its dynamic net and each inner net but the foot go to One
abbrev pub PrechargesInnerNets : Type 0
PrechargesInnerNets =
    (devices : List Device) (is_source : ℕ → Bool) (at : Spot → ℕ) (vdd vss clock : ℕ) (t : Tree ℕ)
    → IsPrechargedCell devices is_source at vdd vss clock t
    → (values : List Tri) → value_of values vdd ≡ One → value_of values vss ≡ Zero → value_of values clock ≡ Zero
    → (a : Spot) → IsPrecharged t a → IsTarget devices is_source values (at a) One

-- With the clock at One and known leaves no charge is shared: while each of these nets is One, or Zero by a definite strong path to
-- ground, one that isn't at its target is One and goes to Zero by such a path.
abbrev pub SharesNoCharge : Type 0
SharesNoCharge =
    (devices : List Device) (is_source : ℕ → Bool) (at : Spot → ℕ) (vdd vss clock : ℕ) (t : Tree ℕ)
    → IsPrechargedCell devices is_source at vdd vss clock t
    → (values : List Tri) → value_of values vdd ≡ One → value_of values vss ≡ Zero → value_of values clock ≡ One
    → EachLeaf (λ g. IsKnown (value_of values g)) t
    → ((a : Spot) → IsPrecharged t a
    → (value_of values (at a) ≡ One) ⊎ ((value_of values (at a) ≡ Zero) × DefiniteStrong devices is_source values (at a) vss))
    → (a : Spot) → IsPrecharged t a → (v : Tri) → IsTarget devices is_source values (at a) v → value_of values (at a) ≢ v
    → (value_of values (at a) ≡ One) × (v ≡ Zero) × DefiniteStrong devices is_source values (at a) vss

-- a definite strong path to ground stays while leaves rise
abbrev pub StaysPulled : Type 0
StaysPulled =
    (devices : List Device) (is_source : ℕ → Bool) (at : Spot → ℕ) (vdd vss clock : ℕ) (t : Tree ℕ)
    → IsPrechargedCell devices is_source at vdd vss clock t
    → (before after : List Tri) → value_of before clock ≡ One → value_of after clock ≡ One
    → EachLeaf (λ g. value_of before g ≡ One → value_of after g ≡ One) t
    → (a : Spot) → IsSpot (precharged vdd vss clock t) a
    → DefiniteStrong devices is_source before (at a) vss → DefiniteStrong devices is_source after (at a) vss
