-- The nets that gate the leaves of trees.
use Rattle.std.proofs.Common.{◌≡◌, ℕ, ◌+◌, ◌-◌, ◌*◌, ◌/◌, ◌%◌, ◌<◌, Bool, true, false, cond, List, nat_lt, ap, ◌∙◌, arith}
use Rattle.std.specs.Prelude.{◌==◌}
use Rattle.std.proofs.lemmas.Bool.{eq-eqb, le-ltb, lt-ltb, ne_eqb}
use Rattle.deck_form.specs.DeckNets.{named_gate, output_net, rail_net}
use Rattle.dual_rail.specs.ForestData.{ForestData}
use Rattle.dual_rail.specs.declared.forest.Arm.{Arm}
use Rattle.dual_rail.specs.declared.forest.Arm.TheVariants.{Literal, Pair as pair_arm}
use Rattle.dual_rail.specs.declared.forest.Rail.{Rail}
use Rattle.sp_network.specs.Tree.{Tree, Leaf}
use Rattle.tree_map.specs.Plans.{IsArmTree, cell_gate, cell_of, cut, is_kept, literal, rail_gate}
use Rattle.tree_map.proofs.PlanOne.{arm_tree_one}
use Rattle.plan_text.specs.PutCells.{netted}

-- the net of a rail
pub rail_gate_net : (pins : List (List ℕ)) (lc : ℕ) (rail : Rail) → rail.leaf < lc → named_gate pins lc (rail_gate rail) ≡ rail_net pins rail.leaf rail.plus
rail_gate_net pins lc rail low = by rail.plus
  where
    by : (b : Bool) → named_gate pins lc (cond b (2 * rail.leaf) (2 * rail.leaf + 1)) ≡ rail_net pins rail.leaf b
    by true =
        let below : nat_lt (2 * rail.leaf) (2 * lc) ≡ true = lt-ltb (2 * rail.leaf) (2 * lc) (omega (arith, low)) in
        let leaf : 2 * rail.leaf / 2 ≡ rail.leaf = omega arith in
        let even : (2 * rail.leaf % 2 == 0) ≡ true = eq-eqb (2 * rail.leaf % 2) 0 (omega arith) in
        (λ i. cond (below i) (rail_net pins (leaf i) (even i)) (output_net (2 * rail.leaf - 2 * lc)))
    by false =
        let below : nat_lt (2 * rail.leaf + 1) (2 * lc) ≡ true = lt-ltb (2 * rail.leaf + 1) (2 * lc) (omega (arith, low)) in
        let leaf : (2 * rail.leaf + 1) / 2 ≡ rail.leaf = omega arith in
        let odd : ((2 * rail.leaf + 1) % 2 == 0) ≡ false = ne_eqb ((2 * rail.leaf + 1) % 2) 0 (λ e. omega (arith, e)) in
        (λ i. cond (below i) (rail_net pins (leaf i) (odd i)) (output_net (2 * rail.leaf + 1 - 2 * lc)))

-- the net of the output of a cell
pub cell_gate_net : (pins : List (List ℕ)) (lc cell : ℕ) → named_gate pins lc (cell_gate lc cell) ≡ output_net cell
cell_gate_net pins lc cell =
    let above : nat_lt (2 * lc + cell) (2 * lc) ≡ false = le-ltb (2 * lc + cell) (2 * lc) (omega arith) in
    let number : 2 * lc + cell - 2 * lc ≡ cell = omega arith in
    (λ i. cond (above i) (rail_net pins ((2 * lc + cell) / 2) ((2 * lc + cell) % 2 == 0)) (output_net (number i)))

module _ (forest : ForestData) (kept : List Bool) (pins : List (List ℕ)) where
  -- the tree below an arm that is a literal
  pub literal_net : (arm : Arm) (rail : Rail) (tree : Tree ℕ) → IsArmTree forest kept arm tree → arm ≡ Literal rail → rail.leaf < forest.leaves
      → netted pins forest.leaves tree ≡ Leaf (rail_net pins rail.leaf rail.plus)
  literal_net arm rail tree is e low =
      ap (netted pins forest.leaves) (arm_tree_one forest kept is literal e) ∙ ap Leaf (rail_gate_net pins forest.leaves rail low)

  -- and below one to a root
  pub root_net : (arm : Arm) (place : ℕ) (tree : Tree ℕ) → IsArmTree forest kept arm tree → arm ≡ pair_arm place → is_kept kept place ≡ false
      → netted pins forest.leaves tree ≡ Leaf (output_net (cell_of kept place))
  root_net arm place tree is e root =
      ap (netted pins forest.leaves) (arm_tree_one forest kept is (cut root) e) ∙ ap Leaf (cell_gate_net pins forest.leaves (cell_of kept place))
