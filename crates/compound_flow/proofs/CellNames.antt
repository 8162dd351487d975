-- The names of the nets of simple and of compound cells.
use Rattle.std.proofs.Common.{ℕ, List, [], ◌∷◌, ◌++◌, ◌+◌, codes}
use Rattle.std.specs.Fmt.{decimal}
use Rattle.std.specs.List.{AllByRecursion}
use Rattle.dom_base.specs.declared.kind.Kind.TheVariants.{N as nch, P as pch}
use Rattle.dom_base.proofs.Lists.{AllByRecursion-append}
use Rattle.deck.specs.NamedDevices.{NamedDevice}
use Rattle.sp_network.specs.Tree.{EachLeaf, Tree, inner_count, map_tree}
use Rattle.domino_cell.specs.Cell.{CellNets}
use Rattle.domino_cell.specs.NamedTrees.{inner_net}
use Rattle.domino_cell.specs.PushedNames.{inner_front, lower_front, numbered_cell}
use Rattle.domino_cell.specs.Spelling.{spell}
use Rattle.domino_cell.specs.StyledCells.{behind_precharge, pull_down_cards, styled_stage}
use Rattle.domino_cell.specs.declared.style.Style.TheVariants.{Precharge as WithPrecharge}
use Rattle.domino_cell.proofs.StyledCells.{styled_stage-ends}
use Rattle.compound_plan.specs.Plans.{CellTrees, Compound, Simple}
use Rattle.compound_cell.specs.CompoundCells.{named_cell, output_gate, right_cell, right_front, whole_tree}
use Rattle.deck_form.proofs.NameParts.{HasNames}
use Rattle.synth_flow.proofs.CellNets.{behind_cards, tree_names}
use Rattle.synth_flow.proofs.DeckRooms.{HasEnds, HoldsOfCells}
use Rattle.compound_flow.specs.MadeCells.{named_cells}

-- what is said of the nets of cell k holds of all names of a dynamic stage
stage_names : (P : List ℕ → Type 0) (nets : CellNets (List ℕ)) (t : Tree (List ℕ))
    → P nets.dynamic → P nets.foot → P nets.clock → P nets.output → P nets.vdd → P nets.vss → ((j : ℕ) → P (nets.inner j)) → EachLeaf P t
    → AllByRecursion (HasNames P) (styled_stage WithPrecharge nets t)
stage_names P nets t d f ck z vdd vss inner h =
    let first : NamedDevice (List ℕ) = record { kind = pch; drain = nets.dynamic; gate = nets.clock; source = nets.vdd } in
    let foot : NamedDevice (List ℕ) = record { kind = nch; drain = nets.foot; gate = nets.clock; source = nets.vss } in
    let spelled = spell nch nets.inner t nets.dynamic nets.foot 0 in
    AllByRecursion-append (HasNames P) (first ∷ behind_precharge WithPrecharge nets (inner_count t)) (pull_down_cards nets t)
    ((d, ck, vdd), behind_cards (HasNames P) WithPrecharge nets (inner_count t) (d, z, vdd) (λ j. (inner j, ck, vdd)))
    (AllByRecursion-append (HasNames P) spelled (foot ∷ []) (tree_names P nch nets.inner t nets.dynamic nets.foot 0 d f inner h) ((f, ck, vss), tt))

-- a property of the nets of cell k, and of its clock and the supplies
pub record HoldsOfCell (P : List ℕ → Type 0) (clock k : ℕ) : Type 0 where
  pub d : P (codes "d" ++ decimal k)
  pub f : P (codes "f" ++ decimal k)
  pub t : (j : ℕ) → P (inner_net (inner_front k) j)
  pub e : P (codes "e" ++ decimal k)
  pub g : P (codes "g" ++ decimal k)
  pub u : (j : ℕ) → P (inner_net (right_front k) j)
  pub z : P (codes "z" ++ decimal k)
  pub n : P (inner_net (lower_front (codes "z" ++ decimal k)) 0)
  pub ck : P (codes "ck" ++ decimal clock)
  pub vdd : P (codes "vdd")
  pub vss : P (codes "vss")

-- one by letters
pub by_letters : (P : List ℕ → Type 0) → HoldsOfCells P → ((rest : List ℕ) → P (codes "ck" ++ rest)) → (clock k : ℕ) → HoldsOfCell P clock k
by_letters P h ck clock k = record {
  d = h.d (decimal k);
  f = h.f (decimal k);
  t = λ j. h.t ((decimal k ++ codes "_") ++ decimal j);
  e = h.e (decimal k);
  g = h.g (decimal k);
  u = λ j. h.u ((decimal k ++ codes "_") ++ decimal j);
  z = h.z (decimal k);
  n = h.z ((decimal k ++ codes "_n") ++ decimal 0);
  ck = ck (decimal clock);
  vdd = h.v (100 ∷ 100 ∷ []);
  vss = h.v (115 ∷ 115 ∷ []);
}

gate_names : (P : List ℕ → Type 0) (clock k : ℕ) → HoldsOfCell P clock k → (c : CellTrees) → AllByRecursion (HasNames P) (output_gate k c)
gate_names P clock k h (Simple t) = ((h.z, h.d, h.vdd), ((h.z, h.d, h.vss), tt))
gate_names P clock k h (Compound l r) = ((h.z, h.d, h.vdd), ((h.z, h.e, h.vdd), ((h.z, h.d, h.n), ((h.n, h.e, h.vss), tt))))

-- the names of a cell whose gates have the property
pub cell_has_names : (P : List ℕ → Type 0) (name : ℕ → List ℕ) (clock k : ℕ) → HoldsOfCell P clock k → (c : CellTrees) → EachLeaf P (map_tree name (whole_tree c))
    → AllByRecursion (HasNames P) (named_cell name clock k c)
cell_has_names P name clock k h (Simple t) each =
    AllByRecursion-append (HasNames P) (styled_stage WithPrecharge (numbered_cell clock k) (map_tree name t)) (output_gate k (Simple t))
    (stage_names P (numbered_cell clock k) (map_tree name t) h.d h.f h.ck h.z h.vdd h.vss h.t each) (gate_names P clock k h (Simple t))
cell_has_names P name clock k h (Compound l r) each =
    let left = styled_stage WithPrecharge (numbered_cell clock k) (map_tree name l) in
    let right = styled_stage WithPrecharge (right_cell clock k) (map_tree name r) in
    AllByRecursion-append (HasNames P) left (right ++ output_gate k (Compound l r))
    (stage_names P (numbered_cell clock k) (map_tree name l) h.d h.f h.ck h.z h.vdd h.vss h.t each.0)
    (AllByRecursion-append (HasNames P) right (output_gate k (Compound l r))
    (stage_names P (right_cell clock k) (map_tree name r) h.e h.g h.ck h.z h.vdd h.vss h.u each.1) (gate_names P clock k h (Compound l r)))

-- and of cells, from number k on
pub cells_have_names : (P : List ℕ → Type 0) → HoldsOfCells P → ((rest : List ℕ) → P (codes "ck" ++ rest)) → (name : ℕ → List ℕ) (k : ℕ) (cells : List (CellTrees × ℕ))
    → AllByRecursion (λ (cell : CellTrees × ℕ). EachLeaf P (map_tree name (whole_tree cell.0))) cells → AllByRecursion (HasNames P) (named_cells name k cells)
cells_have_names P h ck name k [] each = tt
cells_have_names P h ck name k (p ∷ cells) each =
    AllByRecursion-append (HasNames P) (named_cell name p.1 k p.0) (named_cells name (k + 1) cells)
    (cell_has_names P name p.1 k (by_letters P h ck p.1 k) p.0 each.0) (cells_have_names P h ck name (k + 1) cells each.1)

-- the ends of a cell's devices
cell_has_ends : (P : List ℕ → Type 0) (name : ℕ → List ℕ) (clock k : ℕ) → HoldsOfCells P → (c : CellTrees) → AllByRecursion (HasEnds P) (named_cell name clock k c)
cell_has_ends P name clock k h c = by c
  where
    vdd : P (codes "vdd")
    vdd = h.v (100 ∷ 100 ∷ [])

    vss : P (codes "vss")
    vss = h.v (115 ∷ 115 ∷ [])

    z : P (codes "z" ++ decimal k)
    z = h.z (decimal k)

    n : P (inner_net (lower_front (codes "z" ++ decimal k)) 0)
    n = h.z ((decimal k ++ codes "_n") ++ decimal 0)

    left : (t : Tree (List ℕ)) → AllByRecursion (HasEnds P) (styled_stage WithPrecharge (numbered_cell clock k) t)
    left t =
        styled_stage-ends P WithPrecharge (numbered_cell clock k) t (h.d (decimal k)) (h.f (decimal k)) (λ j. h.t ((decimal k ++ codes "_") ++ decimal j)) vdd vss

    right : (t : Tree (List ℕ)) → AllByRecursion (HasEnds P) (styled_stage WithPrecharge (right_cell clock k) t)
    right t =
        styled_stage-ends P WithPrecharge (right_cell clock k) t (h.e (decimal k)) (h.g (decimal k)) (λ j. h.u ((decimal k ++ codes "_") ++ decimal j)) vdd vss

    by : (x : CellTrees) → AllByRecursion (HasEnds P) (named_cell name clock k x)
    by (Simple t) =
        AllByRecursion-append (HasEnds P) (styled_stage WithPrecharge (numbered_cell clock k) (map_tree name t)) (output_gate k (Simple t))
        (left (map_tree name t)) ((z, vdd), ((z, vss), tt))
    by (Compound l r) =
        AllByRecursion-append (HasEnds P) (styled_stage WithPrecharge (numbered_cell clock k) (map_tree name l))
        (styled_stage WithPrecharge (right_cell clock k) (map_tree name r) ++ output_gate k (Compound l r)) (left (map_tree name l))
        (AllByRecursion-append (HasEnds P) (styled_stage WithPrecharge (right_cell clock k) (map_tree name r)) (output_gate k (Compound l r))
        (right (map_tree name r)) ((z, vdd), ((z, vdd), ((z, n), ((n, vss), tt)))))

pub cells_have_ends : (P : List ℕ → Type 0) → HoldsOfCells P → (name : ℕ → List ℕ) (k : ℕ) (cells : List (CellTrees × ℕ)) → AllByRecursion (HasEnds P) (named_cells name k cells)
cells_have_ends P h name k [] = tt
cells_have_ends P h name k (p ∷ cells) =
    AllByRecursion-append (HasEnds P) (named_cell name p.1 k p.0) (named_cells name (k + 1) cells)
    (cell_has_ends P name p.1 k h p.0) (cells_have_ends P h name (k + 1) cells)
