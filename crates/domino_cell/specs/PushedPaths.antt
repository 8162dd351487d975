-- Paths in a circuit to which a domino cell or a static gate was appended, by the names of nets (Rabaey, Digital Integrated Circuits:
-- dynamic logic, static complementary CMOS; Bryant, switch-level model: definite and possible paths).
use Rattle.std.specs.Prelude.{◌≡◌, ◌≢◌, ◌↔◌, ◌⊎◌, ℕ, List, codes}
use Rattle.dom_base.specs.declared.kind.Kind.TheVariants.{N as nch}
use Rattle.dom_base.specs.declared.tri.Tri.{Tri}
use Rattle.dom_base.specs.declared.tri.Tri.TheVariants.{Zero, One}
use Rattle.deck.specs.CircuitData.{CircuitData}
use Rattle.deck.specs.Nets.{net_number}
use Rattle.deck.specs.Paths.{DefiniteStrong, Possible, PossibleStrong}
use Rattle.deck.specs.Sources.{is_source}
use Rattle.deck.specs.Switches.{value_of}
use Rattle.sp_network.specs.Known.{IsKnown}
use Rattle.sp_network.specs.Tree.{Tree, EachLeaf, map_tree, tree_conduction}
use Rattle.domino_cell.specs.Cell.{CellNets, map_nets}
use Rattle.domino_cell.specs.HeldCells.{IsCell, IsDynamicStage}
use Rattle.domino_cell.specs.declared.style.Style.{Style}

-- the value of a net by its name
abbrev pub named_value : CircuitData → List Tri → List ℕ → Tri
named_value c values name = value_of values (net_number c.nets name)

-- the dynamic stage of these nets and this style stands in the circuit
abbrev pub HoldsStage : Style → CircuitData → CellNets (List ℕ) → Tree (List ℕ) → Type 0
HoldsStage style c nets tree = IsDynamicStage style c.devices (is_source c) (map_nets (net_number c.nets) nets) (map_tree (net_number c.nets) tree)

-- the cell of these nets and this style stands in the circuit
abbrev pub HoldsCell : Style → CircuitData → CellNets (List ℕ) → Tree (List ℕ) → Type 0
HoldsCell style c nets tree = IsCell style c.devices (is_source c) (map_nets (net_number c.nets) nets) (map_tree (net_number c.nets) tree)

-- at all values of the nets there is a definite strong path between the two nets exactly where the tree is One
abbrev pub JoinsWhereOne : CircuitData → List ℕ → List ℕ → Tree (List ℕ) → Type 0
JoinsWhereOne c top bottom tree =
    (values : List Tri)
    → DefiniteStrong c.devices (is_source c) values (net_number c.nets top) (net_number c.nets bottom)
    ↔ (tree_conduction nch (named_value c values) tree ≡ One)

-- at all values of the nets there is a possible strong path between the two nets exactly where the tree is not Zero
abbrev pub MayJoinWhereNotZero : CircuitData → List ℕ → List ℕ → Tree (List ℕ) → Type 0
MayJoinWhereNotZero c top bottom tree =
    (values : List Tri)
    → PossibleStrong c.devices (is_source c) values (net_number c.nets top) (net_number c.nets bottom)
    ↔ (tree_conduction nch (named_value c values) tree ≢ Zero)

-- a definite strong path joins the net to the one supply, and no possible path joins it to the other
pub record IsDrivenAlone (c : CircuitData) (values : List Tri) (net one other : List ℕ) : Type 0 where
  pub joined : DefiniteStrong c.devices (is_source c) values (net_number c.nets net) (net_number c.nets one)
  pub apart : Possible c.devices (is_source c) values (net_number c.nets net) (net_number c.nets other) → ⊥

-- where the values of the tree's gates are known, the net is driven by one supply alone: by vss where the tree conducts, else by vdd
abbrev pub IsDrivenByTree : CircuitData → List ℕ → Tree (List ℕ) → Type 0
IsDrivenByTree c net tree =
    (values : List Tri) → EachLeaf (λ gate. IsKnown (named_value c values gate)) tree
    → ((tree_conduction nch (named_value c values) tree ≡ One) × IsDrivenAlone c values net (codes "vss") (codes "vdd"))
    ⊎ ((tree_conduction nch (named_value c values) tree ≡ Zero) × IsDrivenAlone c values net (codes "vdd") (codes "vss"))
