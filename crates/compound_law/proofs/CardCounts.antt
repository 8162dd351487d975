-- How many devices cells have, and that the numbers in the names of a deck's nets are small.
use Rattle.std.proofs.Common.{◌≡◌, ℕ, zero, suc, ◌+◌, ◌≤◌, ◌∷◌, List, [], None, Option, Some, ap, arith, length, length-append, refl, slice_get, subst, sym, zip, map}
use Rattle.std.proofs.lemmas.List.Sums.{sum_by-cons}
use Rattle.std.proofs.lemmas.Option.{same_Some}
use Rattle.sp_network.specs.Tree.{Tree, inner_count, map_tree}
use Rattle.sp_network.proofs.TreeImages.{inner_count-map_tree, leaves-map_tree}
use Rattle.compound_plan.specs.Plans.{CellTrees, Compound, Simple, cell_cost, compound_costs, cost}
use Rattle.compound_plan.proofs.CompoundCosts.{compound_costs_are}
use Rattle.domino_law.specs.Nets.{Gate, Left, Right, Side}
use Rattle.domino_cell.specs.declared.style.Style.TheVariants.{Precharge as WithPrecharge}
use Rattle.domino_law.specs.Shape.{DominoCell, DynamicStage, left_stage, right_stage, side_of}
use Rattle.domino_law.specs.Spelled.{cell_cards, one_cell}
use Rattle.domino_law.proofs.CellCards.{cells_have_cards}
use Rattle.deck_law.specs.NetNames.{gate_of}
use Rattle.compound_law.specs.CompoundDecks.{cell_shape}

-- a cell has more devices than series nodes in either tree
side_small : (k : ℕ) (cell : DominoCell) (side : Side) (c : DynamicStage) → side_of cell side ≡ Some c → 1 + inner_count c.tree ≤ length (one_cell WithPrecharge k cell)
side_small k cell Left c e =
    let same = ap (λ (d : DynamicStage). inner_count d.tree) (same_Some (left_stage cell) c e) in
    by cell.right refl same
  where
    by : (right : Option (Tree Gate)) → cell.right ≡ right → inner_count cell.tree ≡ inner_count c.tree → 1 + inner_count c.tree ≤ length (one_cell WithPrecharge k cell)
    by None f same = omega (arith, same, cells_have_cards.simple k cell f)
    by (Some r) f same = omega (arith, same, cells_have_cards.compound k cell r f)
side_small k cell Right c e = by cell.right refl e
  where
    by : (right : Option (Tree Gate)) → cell.right ≡ right → right_stage cell.clock right ≡ Some c → 1 + inner_count c.tree ≤ length (one_cell WithPrecharge k cell)
    by None f g = absurd (cc)
    by (Some r) f g =
        let same = ap (λ (d : DynamicStage). inner_count d.tree) (same_Some (record { clock = cell.clock; tree = r }) c g) in
        omega (arith, same, cells_have_cards.compound k cell r f)

cell_some : (k : ℕ) (cell : DominoCell) → 1 ≤ length (one_cell WithPrecharge k cell)
cell_some k cell = let small = side_small k cell Left (left_stage cell) refl in omega (arith, small)

-- and so have all cells
pub cells_many : (k : ℕ) (cells : List DominoCell) → length cells ≤ length (cell_cards WithPrecharge k cells)
cells_many k [] = omega arith
cells_many k (c ∷ cells) =
    omega (arith, cell_some k c, cells_many (k + 1) cells, length-append (one_cell WithPrecharge k c) (cell_cards WithPrecharge (k + 1) cells))

pub side_within : (k : ℕ) (cells : List DominoCell) (n : ℕ) (cell : DominoCell) (side : Side) (c : DynamicStage) → slice_get cells n ≡ Some cell → side_of cell side ≡ Some c
    → 1 + inner_count c.tree ≤ length (cell_cards WithPrecharge k cells)
side_within k [] n cell side c e f = absurd (cc)
side_within k (d ∷ cells) zero cell side c e f =
    let small = side_small k d side c (subst (λ x. side_of x side ≡ Some c) (sym (same_Some d cell e)) f) in
    omega (arith, small, length-append (one_cell WithPrecharge k d) (cell_cards WithPrecharge (k + 1) cells))
side_within k (d ∷ cells) (suc n) cell side c e f =
    omega (arith, side_within (k + 1) cells n cell side c e f, length-append (one_cell WithPrecharge k d) (cell_cards WithPrecharge (k + 1) cells))

-- the cells of a plan have as many devices as the plan costs
module _ (pins leaf_count : ℕ) where
  cell_count : (k clock : ℕ) (c : CellTrees) → length (one_cell WithPrecharge k (cell_shape pins leaf_count clock c)) ≡ cell_cost compound_costs c
  cell_count k clock (Simple t) =
      omega (arith, cells_have_cards.simple k (cell_shape pins leaf_count clock (Simple t)) refl, leaves-map_tree (gate_of pins leaf_count) t, inner_count-map_tree (gate_of pins leaf_count) t, compound_costs_are.0 t)
  cell_count k clock (Compound l r) =
      omega (
        arith,
        cells_have_cards.compound k (cell_shape pins leaf_count clock (Compound l r)) (map_tree (gate_of pins leaf_count) r) refl,
        leaves-map_tree (gate_of pins leaf_count) l,
        inner_count-map_tree (gate_of pins leaf_count) l,
        leaves-map_tree (gate_of pins leaf_count) r,
        inner_count-map_tree (gate_of pins leaf_count) r,
        compound_costs_are.1 l r,
      )

  pub cells_count : (clock : ℕ → ℕ) (k : ℕ) (cells : List CellTrees) (levels : List ℕ) → length levels ≡ length cells
      → length (cell_cards WithPrecharge k (map (λ (p : CellTrees × ℕ). cell_shape pins leaf_count p.1 p.0) (map (λ (p : CellTrees × ℕ). (p.0, clock p.1)) (zip cells levels)))) ≡ cost compound_costs cells
  cells_count clock k [] levels e = refl
  cells_count clock k (c ∷ cells) [] e = absurd (omega (arith, e))
  cells_count clock k (c ∷ cells) (n ∷ levels) e =
      omega (
        arith,
        cell_count k (clock n) c,
        cells_count clock (k + 1) cells levels (omega (arith, e)),
        sum_by-cons (cell_cost compound_costs) c cells,
        length-append (one_cell WithPrecharge k (cell_shape pins leaf_count (clock n) c))
            (cell_cards WithPrecharge (k + 1) (map (λ (p : CellTrees × ℕ). cell_shape pins leaf_count p.1 p.0) (map (λ (p : CellTrees × ℕ). (p.0, clock p.1)) (zip cells levels)))),
      )
