-- The devices of the cells of a deck, and what cells keep of the trees and levels that they are made of.
use Rattle.std.specs.List.{enumerate_from, zip}
use Rattle.std.proofs.Common.{List, [], ap, arith, flat_map, length, length-append, map, refl, ℕ, ◌+◌, ◌∷◌, ◌≡◌}
use Rattle.std.proofs.lemmas.List.Sums.{sum_by-cons}
use Rattle.domino_cell.specs.PushedNames.{numbered_cell}
use Rattle.domino_cell.specs.declared.style.Style.{Style}
use Rattle.domino_cell.specs.declared.style.Style.TheVariants.{Keeper as WithKeeper, Precharge as WithPrecharge}
use Rattle.domino_cell.specs.StyledCells.{around_tree, behind_count}
use Rattle.domino_cell.proofs.StyledCells.{length-styled_cell}
use Rattle.sp_network.specs.Tree.{Tree, leaves, map_tree}
use Rattle.sp_network.proofs.TreeImages.{inner_count-map_tree, leaves-map_tree}
use Rattle.style_costs.specs.Styles.{cost_in, costs_of}
use Rattle.tree_map.specs.Plans.{tree_cost_by}
use Rattle.deck_form.specs.DeckNets.{CellPlan, named_cell, named_gate}

-- what a tree costs in a style is its devices and those around it
pub cost_in_style : (style : Style) (tree : Tree ℕ) → tree_cost_by (costs_of style) tree ≡ leaves tree + around_tree style tree
cost_in_style WithKeeper tree = refl
cost_in_style WithPrecharge tree = omega arith

pub cell_count : (style : Style) (pins : List (List ℕ)) (lc k : ℕ) (c : CellPlan) → length (named_cell style pins lc (k, c)) ≡ tree_cost_by (costs_of style) c.tree
cell_count style pins lc k c =
    let nets = numbered_cell c.clock k in
    let tree = map_tree (named_gate pins lc) c.tree in
    let inner = ap (behind_count style) (inner_count-map_tree (named_gate pins lc) c.tree) in
    omega (
      arith,
      length-styled_cell style nets tree,
      leaves-map_tree (named_gate pins lc) c.tree,
      inner,
      cost_in_style style c.tree,
    )

pub cells_count : (style : Style) (pins : List (List ℕ)) (lc k : ℕ) (cells : List CellPlan)
    → length (flat_map (named_cell style pins lc) (enumerate_from k cells)) ≡ cost_in style (map (λ (c : CellPlan). c.tree) cells)
cells_count style pins lc k [] = refl
cells_count style pins lc k (c ∷ cells) = omega (
  arith,
  length-append (named_cell style pins lc (k, c)) (flat_map (named_cell style pins lc) (enumerate_from (k + 1) cells)),
  cell_count style pins lc k c,
  cells_count style pins lc (k + 1) cells,
  sum_by-cons (tree_cost_by (costs_of style)) c.tree (map (λ (d : CellPlan). d.tree) cells),
)

module _ (f : ℕ → ℕ) where
  abbrev pub with_clock : Tree ℕ × ℕ → CellPlan
  with_clock p = record { tree = p.0; clock = f p.1 }

  pub trees_stay : (trees : List (Tree ℕ)) (levels : List ℕ) → length levels ≡ length trees → map (λ (c : CellPlan). c.tree) (map with_clock (zip trees levels)) ≡ trees
  trees_stay [] [] e = refl
  trees_stay [] (l ∷ levels) e = refl
  trees_stay (t ∷ trees) [] e = absurd (omega (arith, e))
  trees_stay (t ∷ trees) (l ∷ levels) e = ap (λ r. t ∷ r) (trees_stay trees levels (omega (arith, e)))

  pub clocks_stay : (trees : List (Tree ℕ)) (levels : List ℕ) → length levels ≡ length trees → map (λ (c : CellPlan). c.clock) (map with_clock (zip trees levels)) ≡ map f levels
  clocks_stay [] [] e = refl
  clocks_stay [] (l ∷ levels) e = absurd (omega (arith, e))
  clocks_stay (t ∷ trees) [] e = absurd (omega (arith, e))
  clocks_stay (t ∷ trees) (l ∷ levels) e = ap (λ r. f l ∷ r) (clocks_stay trees levels (omega (arith, e)))
