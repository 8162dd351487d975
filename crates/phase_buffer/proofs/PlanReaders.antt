-- Plans with chains of buffers read earlier cells, and their clocks are the deck's.
use Rattle.std.specs.Prelude.{Some, slice_get, ◌==◌}
use Rattle.std.specs.List.{list_any}
use Rattle.std.proofs.Common.{Bool, List, ap, arith, false, get_or, inl, inr, map, nat_lt, option_map, refl, subst, suc, sym, true, ℕ, ◌*◌, ◌++◌, ◌+◌, ◌-◌, ◌<◌, ◌∙◌, ◌≡◌, ◌≤◌}
use Rattle.std.proofs.lemmas.Bool.{eq-eqb, le-ltb, ltb-false, ltb-true}
use Rattle.std.proofs.lemmas.List.Folds.{list_any-append}
use Rattle.std.proofs.lemmas.Option.{slice_get-get_or, slice_get-map, slice_get_within}
use Rattle.dom_base.proofs.Bools.{or_true}
use Rattle.sp_network.specs.Tree.{EachLeaf, Leaf, Parallel, Series, Tree}
use Rattle.sp_network.specs.TypedTree.{tree_of}
use Rattle.sp_network.specs.declared.plan.GatePlan.{GatePlan}
use Rattle.clock_phase.specs.Levels.{cells_read}
use Rattle.clock_phase.specs.Plans.{CellPlan, ReadEarlierCells, cell_plan, trees_of}
use Rattle.domino_law.proofs.Leaves.{EachLeaf-both, EachLeaf-map, EachLeaf-weaker}
use Rattle.phase_buffer.specs.BufferedPlans.{BufferedPlansReadEarlier, HaveClocksUpTo, is_among, new_gate, plan_cells, plan_of_gates}
use Rattle.phase_buffer.specs.Chains.{Cells, chain_length, place, taken_at, with_chains}
use Rattle.phase_buffer.specs.Sizes.{HasFewClocks}
use Rattle.phase_buffer.proofs.BufferedCells.{IsNewCell, any_new, place_below}
use Rattle.phase_buffer.proofs.BufferedShapes.{map_back}
use Rattle.phase_buffer.proofs.ChainBounds.{new_gate_behind}
use Rattle.phase_buffer.proofs.ChainSizes.{chain_by_last, reader_reached}
use Rattle.phase_buffer.proofs.PlanSizes.{clocks_few}

-- a tree reads the cells whose outputs gate it
IsRead : ℕ → Tree ℕ → ℕ → Type 0
IsRead leaves tree gate = 2 * leaves ≤ gate → is_among (gate - 2 * leaves) (cells_read leaves tree) ≡ true

among_left : (k : ℕ) (xs ys : List ℕ) → is_among k xs ≡ true → is_among k (xs ++ ys) ≡ true
among_left k xs ys e = rw (list_any-append (λ j. j == k) xs ys, e) refl

among_right : (k : ℕ) (xs ys : List ℕ) → is_among k ys ≡ true → is_among k (xs ++ ys) ≡ true
among_right k xs ys e = rw (list_any-append (λ j. j == k) xs ys, e) (or_true (list_any (λ j. j == k) xs))

gates_read : (leaves : ℕ) (tree : Tree ℕ) → EachLeaf (IsRead leaves tree) tree
unfolding IsRead
gates_read leaves (Leaf gate) = λ l. rw (le-ltb gate (2 * leaves) l, eq-eqb (gate - 2 * leaves) (gate - 2 * leaves) refl) refl
gates_read leaves (Series l r) = (
  EachLeaf-weaker (IsRead leaves l) (IsRead leaves (Series l r)) (λ g h m. among_left (g - 2 * leaves) _ _ (h m)) l (gates_read leaves l),
  EachLeaf-weaker (IsRead leaves r) (IsRead leaves (Series l r)) (λ g h m. among_right (g - 2 * leaves) _ _ (h m)) r (gates_read leaves r),
)
gates_read leaves (Parallel l r) = (
  EachLeaf-weaker (IsRead leaves l) (IsRead leaves (Parallel l r)) (λ g h m. among_left (g - 2 * leaves) _ _ (h m)) l (gates_read leaves l),
  EachLeaf-weaker (IsRead leaves r) (IsRead leaves (Parallel l r)) (λ g h m. among_right (g - 2 * leaves) _ _ (h m)) r
      (gates_read leaves r),
)

module _ (leaves phases : ℕ) (old : List GatePlan) (sinks : List ℕ) (few : phases ≤ 4) (all : HaveClocksUpTo phases old)
    (earlier : ReadEarlierCells leaves (trees_of old)) where
  abbrev deck : Cells CellPlan
  deck = plan_cells (plan_of_gates leaves phases old sinks)

  clocks : HasFewClocks deck
  clocks = clocks_few leaves phases old sinks few all

  reads_earlier : (k : ℕ) (c : CellPlan) → slice_get (map cell_plan old) k ≡ Some c → EachLeaf (λ gate. gate < 2 * leaves + k) c.tree
  reads_earlier k c e =
      let p = map_back cell_plan old k c e in
      subst (λ (x : CellPlan). EachLeaf (λ gate. gate < 2 * leaves + k) x.tree) (sym p.2)
      (earlier k (tree_of (p.0).tree)
      (slice_get-map (λ (q : GatePlan). tree_of q.tree) old k ∙ ap (option_map (λ (q : GatePlan). tree_of q.tree)) p.1))

  -- a gate that a moved cell takes
  taken_earlier : (k : ℕ) (c : CellPlan) → slice_get (map cell_plan old) k ≡ Some c → (gate : ℕ) → gate < 2 * leaves + k
      → IsRead leaves c.tree gate
      → new_gate leaves (taken_at deck c.clock) gate < 2 * leaves + place deck k
  unfolding IsRead
  taken_earlier k c e gate low read = go (nat_lt gate (2 * leaves)) refl
    where
      go : (b : Bool) → nat_lt gate (2 * leaves) ≡ b → new_gate leaves (taken_at deck c.clock) gate < 2 * leaves + place deck k
      go true f = rw f (let l = ltb-true gate (2 * leaves) f in omega arith)
      go false f =
          let l = ltb-false gate (2 * leaves) f in
          let j = gate - 2 * leaves in
          let below : j < k = omega (arith, low, l) in
          let long = slice_get_within (map cell_plan old) k c e in
          let at = slice_get-get_or (map cell_plan old) j c (omega (arith, below, long)) in
          let reached = reader_reached deck clocks j (get_or (map cell_plan old) j c) at k c e (read l) in
          let before = place_below deck j k below in
          rw (new_gate_behind leaves (taken_at deck c.clock) gate l) (omega (arith, reached, before))

  -- each new cell
  pub new_cell_is : (m : ℕ) (d : CellPlan) → slice_get (with_chains deck 0 (map cell_plan old)) m ≡ Some d
      → ((1 ≤ d.clock) × (d.clock ≤ phases)) × EachLeaf (λ gate. gate < 2 * leaves + m) d.tree
  new_cell_is m d e = by (any_new deck m d e)
    where
      by : IsNewCell deck m d → ((1 ≤ d.clock) × (d.clock ≤ phases)) × EachLeaf (λ gate. gate < 2 * leaves + m) d.tree
      by n = elim n.of [
        | inl p ↦ rw (p.0, p.1) (
          clocks.clocks_are n.old n.cell n.cell_is,
          EachLeaf-map (λ gate. gate < 2 * leaves + place deck n.old) (new_gate leaves (taken_at deck (n.cell).clock)) (n.cell).tree
              (EachLeaf-weaker _ (λ gate. new_gate leaves (taken_at deck (n.cell).clock) gate < 2 * leaves + place deck n.old)
              (λ gate h. taken_earlier n.old n.cell n.cell_is gate h.0 h.1) (n.cell).tree
              (EachLeaf-both (λ gate. gate < 2 * leaves + n.old) (IsRead leaves (n.cell).tree) (n.cell).tree
              (reads_earlier n.old n.cell n.cell_is) (gates_read leaves (n.cell).tree))),
        )
        | inr p ↦ rw (p.2, p.3) (let last = chain_by_last deck clocks n.old n.cell n.cell_is in
            let own = clocks.clocks_are n.old n.cell n.cell_is in (
              (omega arith, within (n.cell).clock (chain_length deck n.old) p.0 phases last p.1),
              behind (2 * leaves) (place deck n.old) p.0,
            ))
      ]
        where
          within : (a n j last : ℕ) → a + n ≤ last → j < n → a + 1 + j ≤ last
          within a n j last x y = omega arith

          behind : (r p j : ℕ) → r + (p + j) < r + (p + suc j)
          behind r p j = omega arith

pub plans_read_earlier : BufferedPlansReadEarlier
plans_read_earlier leaves phases old sinks new place ends few all earlier are = (
  (λ k p l. (is_at k (get_or new k p) (slice_get-get_or new k p l)).0),
  (λ k tree e.
      let p = map_back (λ (q : GatePlan). tree_of q.tree) new k tree e in
      subst (EachLeaf (λ gate. gate < 2 * leaves + k)) (sym p.2) (is_at k p.0 p.1).1),
)
  where
    is_at : (k : ℕ) (p : GatePlan) → slice_get new k ≡ Some p
        → ((1 ≤ p.clock) × (p.clock ≤ phases)) × EachLeaf (λ gate. gate < 2 * leaves + k) (tree_of p.tree)
    is_at k p e =
        new_cell_is leaves phases old sinks few all earlier k (cell_plan p)
        (ap (λ cells. slice_get cells k) (sym are.cells_are) ∙ slice_get-map cell_plan new k ∙ ap (option_map cell_plan) e)
