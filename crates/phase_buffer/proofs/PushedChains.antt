-- Cells that are pushed, each with its chain.
use Rattle.std.proofs.Common.{List, [], add-one, ap, ap₂, arith, drop, get_or, map, suc, sym, ℕ, ◌*◌, ◌++◌, ◌+◌, ◌-◌, ◌<◌, ◌∙◌, ◌∷◌, ◌≡◌}
use Rattle.std.proofs.lemmas.List.{append_assoc, drop_more}
use Rattle.sp_network.specs.Tree.{Leaf}
use Rattle.sp_network.specs.declared.plan.GatePlan.{GatePlan}
use Rattle.clock_phase.specs.Plans.{CellPlan, cell_plan}
use Rattle.phase_buffer.specs.Chains.{chain, chain_length, moved, place, with_chains}
use Rattle.phase_buffer.specs.Unbuffered.{old_cells}
use Rattle.phase_buffer.specs.declared.unbuffered.Unbuffered.{Unbuffered}
use Rattle.phase_buffer.proofs.ChainBounds.{count}

module _ (u : Unbuffered) where
  -- the next buffer of a chain, and those behind it
  pub chain_step : (at clock n i : ℕ) → i < n
      → chain (old_cells u) (at + i) (clock + i) (n - i)
      ≡ (old_cells u).buffer (at + i) (clock + i + 1) ∷ chain (old_cells u) (at + (i + 1)) (clock + (i + 1)) (n - (i + 1))
  chain_step at clock n i l =
      ap (chain (old_cells u) (at + i) (clock + i)) (less n i l)
      ∙ ap₂ (λ a c. (old_cells u).buffer (at + i) (clock + i + 1) ∷ chain (old_cells u) a c (n - (i + 1))) (plus at i) (plus clock i)
    where
      less : (n i : ℕ) → i < n → n - i ≡ suc (n - (i + 1))
      less n i l = omega arith

      plus : (a i : ℕ) → a + i + 1 ≡ a + (i + 1)
      plus a i = omega arith

  abbrev plan_cell : ℕ → ℕ → CellPlan
  plan_cell gate clock = record { tree = Leaf gate; clock = clock }

  -- one buffer more
  pub one_buffer_more : (at clock n i : ℕ) (front all : List CellPlan) (m : ℕ) → i < n → m ≡ i
      → front ++ chain (old_cells u) (at + i) (clock + i) (n - i) ≡ all
      → (front ++ record { tree = Leaf (2 * u.leaves + at + m); clock = clock + 1 + i } ∷ [])
      ++ chain (old_cells u) (at + (i + 1)) (clock + (i + 1)) (n - (i + 1)) ≡ all
  one_buffer_more at clock n i front all m l same are =
      let behind = chain (old_cells u) (at + (i + 1)) (clock + (i + 1)) (n - (i + 1)) in
      append_assoc front (record { tree = Leaf (2 * u.leaves + at + m); clock = clock + 1 + i } ∷ []) behind
      ∙ ap (λ cell. front ++ cell ∷ behind) (ap₂ plan_cell (gate_is (2 * u.leaves) at i m same) (clock_is clock i))
      ∙ ap (λ cells. front ++ cells) (sym (chain_step at clock n i l)) ∙ are
    where
      gate_is : (r a i m : ℕ) → m ≡ i → r + a + m ≡ r + (a + i)
      gate_is r a i m same = omega arith

      clock_is : (a i : ℕ) → a + 1 + i ≡ a + i + 1
      clock_is a i = omega arith

  -- the next cell, its chain, and the cells behind it
  cell_step : (k : ℕ) (p : GatePlan) → k < count u
      → with_chains (old_cells u) k (map cell_plan (drop k u.plans.now))
      ≡ moved (old_cells u) (cell_plan (get_or u.plans.now k p))
      ∷ (chain (old_cells u) (place (old_cells u) k) (get_or u.plans.now k p).clock (chain_length (old_cells u) k)
      ++ with_chains (old_cells u) (k + 1) (map cell_plan (drop (k + 1) u.plans.now)))
  cell_step k p l =
      ap (λ plans. with_chains (old_cells u) k (map cell_plan plans)) (drop_more u.plans.now k p l)
      ∙ ap (λ j. moved (old_cells u) (cell_plan (get_or u.plans.now k p))
      ∷ (chain (old_cells u) (place (old_cells u) k) (get_or u.plans.now k p).clock (chain_length (old_cells u) k)
      ++ with_chains (old_cells u) j (map cell_plan (drop (k + 1) u.plans.now)))) (sym (add-one k))

  -- one cell more, with its chain
  pub one_cell_more : (k : ℕ) (p : GatePlan) (front pushed chained all : List CellPlan) (cell : CellPlan) → k < count u
      → pushed ≡ front ++ cell ∷ [] → cell ≡ moved (old_cells u) (cell_plan (get_or u.plans.now k p))
      → chained ≡ pushed ++ chain (old_cells u) (place (old_cells u) k) (get_or u.plans.now k p).clock (chain_length (old_cells u) k)
      → front ++ with_chains (old_cells u) k (map cell_plan (drop k u.plans.now)) ≡ all
      → chained ++ with_chains (old_cells u) (k + 1) (map cell_plan (drop (k + 1) u.plans.now)) ≡ all
  one_cell_more k p front pushed chained all cell l push is chains are =
      let new = moved (old_cells u) (cell_plan (get_or u.plans.now k p)) in
      let own = chain (old_cells u) (place (old_cells u) k) (get_or u.plans.now k p).clock (chain_length (old_cells u) k) in
      let behind = with_chains (old_cells u) (k + 1) (map cell_plan (drop (k + 1) u.plans.now)) in
      ap (λ cells. cells ++ behind) (chains ∙ ap (λ cells. cells ++ own) (push ∙ ap (λ x. front ++ x ∷ []) is))
      ∙ append_assoc (front ++ new ∷ []) own behind ∙ append_assoc front (new ∷ []) (own ++ behind)
      ∙ ap (λ cells. front ++ cells) (sym (cell_step k p l)) ∙ are
