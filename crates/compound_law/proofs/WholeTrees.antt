-- A shape with compound cells beside that of its whole trees, whose cells are simple: both have the same own run, and one is a shape where
-- the other is.
use Rattle.std.proofs.Common.{◌≡◌, ℕ, ◌<◌, ◌++◌, ◌∙◌, ◌∷◌, Bool, List, [], None, Option, Some, ap, ap₂, map, not, refl, slice_get, subst, sym, zip}
use Rattle.std.proofs.lemmas.Option.{same_Some}
use Rattle.sp_network.specs.Tree.{EachLeaf, Leaf, Parallel, Series, Tree}
use Rattle.network.specs.NetworkData.{NetworkData}
use Rattle.clock_phase.specs.Levels.{clock_of}
use Rattle.network.proofs.Lists.{get_map, get_of_map}
use Rattle.port_runs.specs.declared.clocking.Clocking.TheVariants.{Together}
use Rattle.compound_plan.specs.Plans.{CellTrees, Compound, Simple}
use Rattle.domino_law.specs.Nets.{DeckSignal, FromDynamic, FromOutput, Gate, High, Left, Low, Minus, Plus, Right, Side, left_side}
use Rattle.domino_law.specs.OwnRun.{bit_at, cell_bit, cell_bits, gate_bit, next_state, outputs_of, signal_bit}
use Rattle.domino_cell.specs.declared.style.Style.TheVariants.{Precharge as WithPrecharge}
use Rattle.domino_law.specs.Shape.{DominoCell, DynamicStage, IsCellAt, IsGate, IsLeafOf, IsShape, Shape, left_stage, right_stage, side_of}
use Rattle.deck_law.specs.OwnRuns.{RunsAsNetwork}
use Rattle.deck_law.specs.NetNames as ordinary
use Rattle.compound_cell.specs.CompoundCells.{whole_tree}
use Rattle.compound_law.specs.CompoundDecks.{cell_shape}

-- the cell of a whole tree
abbrev pub whole : Tree Gate → Option (Tree Gate) → Tree Gate
whole t None = t
whole t (Some r) = Parallel t r

abbrev pub whole_cell : DominoCell → DominoCell
whole_cell c = record { clock = c.clock; tree = whole c.tree c.right; right = None }

-- the cells of the whole trees of a plan's cells
cell_whole : (pins leaf_count clock : ℕ) (c : CellTrees)
    → ordinary.cell_shape pins leaf_count (record { tree = whole_tree c; clock = clock }) ≡ whole_cell (cell_shape pins leaf_count clock c)
cell_whole pins leaf_count clock (Simple t) = refl
cell_whole pins leaf_count clock (Compound l r) = refl

pub cells_whole : (pins leaf_count phases high : ℕ) (cells : List CellTrees) (levels : List ℕ)
    → map (ordinary.cell_shape pins leaf_count) (map (λ (p : Tree ℕ × ℕ). record { tree = p.0; clock = clock_of phases high p.1 }) (zip (map whole_tree cells) levels))
    ≡ map whole_cell (map (λ (p : CellTrees × ℕ). cell_shape pins leaf_count p.1 p.0) (map (λ (p : CellTrees × ℕ). (p.0, clock_of phases high p.1)) (zip cells levels)))
cells_whole pins leaf_count phases high [] levels = refl
cells_whole pins leaf_count phases high (c ∷ cells) [] = refl
cells_whole pins leaf_count phases high (c ∷ cells) (n ∷ levels) =
    ap₂ (λ x xs. x ∷ xs) (cell_whole pins leaf_count (clock_of phases high n) c) (cells_whole pins leaf_count phases high cells levels)

-- the bits of cells
bit_whole : (bit : Gate → Bool) (t : Tree Gate) (right : Option (Tree Gate)) → cell_bit bit t right ≡ cell_bit bit (whole t right) None
bit_whole bit t None = refl
bit_whole bit t (Some r) = refl

bits_whole : (signal : DeckSignal → Bool) (cs : List DominoCell) (before : List Bool) → cell_bits signal cs before ≡ cell_bits signal (map whole_cell cs) before
bits_whole signal [] before = refl
bits_whole signal (c ∷ cs) before =
    ap (λ b. cell_bits signal cs (before ++ b ∷ [])) (bit_whole (gate_bit signal before) c.tree c.right)
    ∙ bits_whole signal cs (before ++ cell_bit (gate_bit signal before) (whole c.tree c.right) None ∷ [])

-- a side of a cell has its clock, and what each leaf of the whole tree has
side_has : (cell : DominoCell) (side : Side) (c : DynamicStage) → side_of cell side ≡ Some c
    → (c.clock ≡ cell.clock) × ((P : Gate → Type 0) → EachLeaf P (whole cell.tree cell.right) → EachLeaf P c.tree)
side_has cell Left c e =
    let same = same_Some (left_stage cell) c e in (
      ap (λ (d : DynamicStage). d.clock) (sym same),
      λ P each. subst (λ (d : DynamicStage). EachLeaf P d.tree) same (left_of P cell.tree cell.right each),
    )
  where
    left_of : (P : Gate → Type 0) (t : Tree Gate) (right : Option (Tree Gate)) → EachLeaf P (whole t right) → EachLeaf P t
    left_of P t None each = each
    left_of P t (Some r) each = each.0
side_has cell Right c e = by cell.right e
  where
    by : (right : Option (Tree Gate)) → right_stage cell.clock right ≡ Some c
        → (c.clock ≡ cell.clock) × ((P : Gate → Type 0) → EachLeaf P (whole cell.tree right) → EachLeaf P c.tree)
    by None f = absurd (cc)
    by (Some r) f =
        let same = same_Some (record { clock = cell.clock; tree = r }) c f in (
          ap (λ (d : DynamicStage). d.clock) (sym same),
          λ P each. subst (λ (d : DynamicStage). EachLeaf P d.tree) same each.1,
        )

each_leaf : (P Q : Gate → Type 0) → ((g : Gate) → P g → Q g) → (t : Tree Gate) → EachLeaf P t → EachLeaf Q t
each_leaf P Q f (Leaf g) e = f g e
each_leaf P Q f (Series l r) e = (each_leaf P Q f l e.0, each_leaf P Q f r e.1)
each_leaf P Q f (Parallel l r) e = (each_leaf P Q f l e.0, each_leaf P Q f r e.1)

module _ (s : Shape) (cells : List DominoCell) (same : s.cells ≡ map whole_cell cells) where
  -- the shape with these cells
  abbrev pub split_shape : Shape
  split_shape = record s { cells = cells }

  bits_same : (signal : DeckSignal → Bool) → cell_bits signal cells [] ≡ cell_bits signal s.cells []
  bits_same signal = bits_whole signal cells [] ∙ ap (λ cs. cell_bits signal cs []) (sym same)

  outputs_same : (state pins : List Bool) → outputs_of split_shape state pins ≡ outputs_of s state pins
  outputs_same state pins =
      ap (λ bits. map (λ g. not (gate_bit (signal_bit (bit_at pins) (bit_at state)) bits g)) s.outputs) (bits_same (signal_bit (bit_at pins) (bit_at state)))

  next_same : (state pins : List Bool) → next_state split_shape state pins ≡ next_state s state pins
  next_same state pins =
      ap (λ bits. map (λ b. not (gate_bit (signal_bit (bit_at pins) (bit_at state)) bits b.next)) s.latches) (bits_same (signal_bit (bit_at pins) (bit_at state)))

  pub split_runs : (network : NetworkData) → RunsAsNetwork network s → RunsAsNetwork network split_shape
  split_runs network r = record {
    starts = r.starts;
    cycles = λ pins state fit fits.
        let c = r.cycles pins state fit fits in (c.0, c.1, outputs_same state pins ∙ c.2, next_same state pins ∙ c.3);
  }

  there : (k : ℕ) (c : DominoCell) → slice_get cells k ≡ Some c → IsCellAt s k (whole_cell c)
  there k c e = subst (λ cs. slice_get cs k ≡ Some (whole_cell c)) (sym same) (get_map whole_cell cells k c e)

  back : (k : ℕ) → (c : DominoCell) × IsCellAt s k c → (c : DominoCell) × IsCellAt split_shape k c
  back k (c, e) = let m = get_of_map whole_cell cells k c (subst (λ cs. slice_get cs k ≡ Some c) same e) in (m.0, m.1)

  gate_is : (g : Gate) → IsGate s g → IsGate split_shape g
  gate_is (Plus l) h = h
  gate_is (Minus l) h = h
  gate_is (FromOutput k) h = back k h
  gate_is (FromDynamic k) h = back k h
  gate_is High h = tt
  gate_is Low h = tt

  leaf_is : (k : ℕ) (g : Gate) → IsLeafOf s k g → IsLeafOf split_shape k g
  leaf_is k (Plus l) h = h
  leaf_is k (Minus l) h = h
  leaf_is k (FromOutput j) h = (h.0, back j h.1)
  leaf_is k (FromDynamic j) h = absurd h
  leaf_is k High h = absurd h
  leaf_is k Low h = absurd h

  pub split_is_shape : IsShape s → s.style ≡ WithPrecharge → s.clocking ≡ Together → IsShape split_shape
  split_is_shape is precharged together = record {
    clocks_are = λ k c at.
        let has = side_has at.0 k.side c at.2 in
        subst (λ n. n < s.clocks) (sym has.0) (is.clocks_are (left_side k.cell) (left_stage (whole_cell at.0)) (whole_cell at.0, there k.cell at.0 at.1, refl));
    leaves = λ k c at.
        let has = side_has at.0 k.side c at.2 in
        let all = is.leaves (left_side k.cell) (left_stage (whole_cell at.0)) (whole_cell at.0, there k.cell at.0 at.1, refl) in
        has.1 (IsLeafOf split_shape k.cell) (each_leaf (IsLeafOf s k.cell) (IsLeafOf split_shape k.cell) (leaf_is k.cell) (whole (at.0).tree (at.0).right) all);
    simple = λ e. absurd (let other = sym precharged ∙ e in cc);
    complements_are = is.complements_are;
    complements_ordered = is.complements_ordered;
    nexts = λ j b e. gate_is b.next (is.nexts j b e);
    outputs_are = λ i g e. gate_is g (is.outputs_are i g e);
    overlap = λ e. absurd (let other = sym together ∙ e in cc);
  }
