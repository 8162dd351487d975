-- The cells of a planned deck with chains of buffers have the bits of their root pairs.
use Rattle.domino_cell.specs.declared.style.Style.TheVariants.{Keeper as WithKeeper}
use Rattle.std.specs.Prelude.{None, Some, slice_get}
use Rattle.std.specs.List.{AllByRecursion, zip}
use Rattle.std.proofs.Common.{Bool, List, [], add-zero, ap, arith, inl, inr, length, map, refl, subst, suc, sym, zero, ℕ, ◌++◌, ◌+◌, ◌<◌, ◌∙◌, ◌∷◌, ◌≡◌, ◌≤◌}
use Rattle.std.proofs.Math.Bool.{not-not}
use Rattle.std.proofs.lemmas.Option.{slice_get_within}
use Rattle.dom_base.specs.Tri.{opposite}
use Rattle.deck.specs.CircuitData.{CircuitData}
use Rattle.sp_network.specs.Tree.{Tree}
use Rattle.network.specs.declared.network.NetLatch.{NetLatch}
use Rattle.network.specs.NetworkData.{NetworkData}
use Rattle.network.specs.Networks.{IsNetwork}
use Rattle.net_run.specs.Runs.{Cycle, IsNetworkRunFrom, start, value_at}
use Rattle.port_runs.specs.Environment.{bit}
use Rattle.port_runs.specs.Readings.{HasResetBy}
use Rattle.port_runs.specs.declared.clocking.Clocking.TheVariants.{Overlapping}
use Rattle.domino_law.specs.Nets.{FromDynamic, Gate, left_side}
use Rattle.domino_law.specs.OwnRun.{bit_at, cell_bits, gate_bit, next_state, own_bit, signal_bit, start_state, state_after, state_from}
use Rattle.domino_law.specs.Shape.{DominoCell, IsCellAt, Shape}
use Rattle.domino_law.proofs.OwnRuns.{own_is_trees}
use Rattle.domino_law.proofs.SimpleCells.{simple_bit}
use Rattle.domino_law.proofs.Statics.{left_is}
use Rattle.deck_form.specs.AskedOptions.{keeper_options}
use Rattle.deck_form.specs.ChosenDecks.{IsPlannedDeck, end_at_cell}
use Rattle.deck_form.specs.declared.options.SynthOptions.{SynthOptions}
use Rattle.deck_form.specs.DominoDecks.{cells_of, outs_of, pins_of, starts_of}
use Rattle.deck_form.specs.NamedDecks.{IsNamedDeck}
use Rattle.deck_form.proofs.DeckForms.{length_map, zip_length}
use Rattle.deck_law.specs.Headline.{roles_of}
use Rattle.deck_law.specs.HonestDecks.{IsHonestDeck}
use Rattle.deck_law.specs.OwnRuns.{RunsAsNetwork}
use Rattle.deck_law.proofs.NetworkRuns.{planned_runs}
use Rattle.deck_law.proofs.OwnRun.{root_values}
use Rattle.tree_map.specs.Plans.{roots}
use Rattle.phase_buffer.specs.BufferedPlans.{DeckPlan}
use Rattle.phase_buffer.specs.Buffers.{buffered, shape_cells}
use Rattle.phase_buffer.specs.Chains.{chain_length, place}
use Rattle.phase_buffer.specs.Laws.{MayBeBuffered, RunsAlike}
use Rattle.phase_buffer.proofs.BufferedCells.{any_new, buffer_cell, new_buffer}
use Rattle.phase_buffer.proofs.BufferedRuns.{buffered_runs_alike, ended_bit}
use Rattle.phase_buffer.proofs.BufferedShapes.{buffered_is_shape, new_simple}
use Rattle.skew_law.specs.RootPairs.{CellsHoldRootValues, HaveRootValues, IsRootPair, state_beyond, unbuffered_plan}
use Rattle.skew_law.proofs.BufferedPlans.{IsShapeOf, length_is, place_is, shape_of}
use Rattle.skew_law.proofs.NamedPlans.{clocked}
use Rattle.skew_law.proofs.PlannedShapes.{leaves_are, planned_deck, planned_may_be_buffered, planned_shape}

-- a chain has the bit of the cell that begins it
module _ (s : Shape) (may : MayBeBuffered s) (pins state : ℕ → Bool) where
  abbrev at : ℕ → ℕ → ℕ
  at k h = place (shape_cells s) k + h

  -- a buffer has the bit of the cell before it
  buffer_bit : (k : ℕ) (c : DominoCell) → IsCellAt s k c → (j : ℕ) → j < chain_length (shape_cells s) k
      → own_bit (buffered s) pins state (at k (suc j)) ≡ own_bit (buffered s) pins state (at k j)
  buffer_bit k c e j l =
      let d = buffer_cell (shape_cells s) (place (shape_cells s) k) c.clock j in
      let n = new_buffer (shape_cells s) k j c e l in
      own_is_trees (buffered s) pins state (at k (suc j)) d n ((buffered_is_shape s may).leaves (left_side (at k (suc j))) _ (left_is (buffered s) (at k (suc j)) d n), (λ t z. absurd (no z)))
      ∙ simple_bit (gate_bit (signal_bit pins state) (cell_bits (signal_bit pins state) (buffered s).cells [])) d (new_simple s may (at k (suc j)) d n)
    where
      no : {t : Tree Gate} → None ≡ Some t → ⊥
      no z = cc

  first_bit : (k : ℕ) (c : DominoCell) → IsCellAt s k c → (h : ℕ) → h ≤ chain_length (shape_cells s) k
      → own_bit (buffered s) pins state (at k h) ≡ own_bit (buffered s) pins state (at k 0)
  first_bit k c e zero l = refl
  first_bit k c e (suc j) l = buffer_bit k c e j (omega arith) ∙ first_bit k c e j (omega arith)

  pub chain_bit : (k : ℕ) (c : DominoCell) → IsCellAt s k c → (h : ℕ) → h ≤ chain_length (shape_cells s) k
      → own_bit (buffered s) pins state (at k h) ≡ own_bit s pins state k
  chain_bit k c e h l =
      let end = own_bit (buffered s) pins state (at k (chain_length (shape_cells s) k)) in
      first_bit k c e h l
      ∙ (sym (first_bit k c e (chain_length (shape_cells s) k) (omega arith))
      ∙ (sym (not-not end) ∙ ended_bit s may pins state (FromDynamic k) (c, e) ∙ not-not (own_bit s pins state k)))

-- the own run of a shape that does a network, up to the next cycle
module _ (network : NetworkData) (s : Shape) (runs : RunsAsNetwork network s) where
  run_from : (past : List (List Bool)) (pins state : List Bool) → AllByRecursion (λ (u : List Bool). length u ≡ network.inputs) (past ++ pins ∷ [])
      → length state ≡ length network.latches
      → (earlier : List Cycle) × IsNetworkRunFrom network state past earlier × (state_from s state past ≡ state_beyond state earlier)
      × (length (state_beyond state earlier) ≡ length network.latches) × (length pins ≡ network.inputs)
  run_from [] pins state fit fits = ([], tt, refl, fits, fit.0)
  run_from (u ∷ past) pins state fit fits =
      let c = runs.cycles u state fit.0 fits in
      let next = ap length (c.1).next_is ∙ length_map (λ (l : NetLatch). value_at (c.1).values l.input) network.latches in
      let more = run_from past pins (c.0).next fit.1 next in
      (c.0 ∷ more.0, (c.1, more.1), ap (λ x. state_from s x past) c.3 ∙ more.2, more.3, more.4)

  pub run_to_cycle : (past : List (List Bool)) (pins : List Bool) → AllByRecursion (λ (u : List Bool). length u ≡ network.inputs) (past ++ pins ∷ [])
      → (earlier : List Cycle) × IsNetworkRunFrom network (start network) past earlier × (state_after s past ≡ state_beyond (start network) earlier)
      × (length (state_beyond (start network) earlier) ≡ length network.latches) × (length pins ≡ network.inputs)
  run_to_cycle past pins fit =
      let r = run_from past pins (start network) fit (length_map (λ (l : NetLatch). l.init) network.latches) in
      (r.0, r.1, ap (λ x. state_from s x past) runs.starts ∙ r.2, r.3, r.4)

module _ (network : NetworkData) (options : SynthOptions) (plain : CircuitData) (planned : IsPlannedDeck network (keeper_options options) plain) (net_is : IsNetwork network)
    (some : 1 ≤ options.phases) (few : options.phases ≤ 4) where
  abbrev s₀ : Shape
  s₀ = planned_shape network options plain planned net_is some few

  abbrev may : MayBeBuffered s₀
  may = planned_may_be_buffered network options plain planned net_is some few

  runs : RunsAsNetwork network s₀
  runs = planned_runs network (keeper_options options) plain planned (planned_deck network options plain planned net_is some few).complements net_is

  alike : RunsAlike s₀ (buffered s₀)
  alike = buffered_runs_alike s₀ may

  -- the state of the buffered shape is that of the shape
  state_same : (past : List (List Bool)) (state : List Bool) → state_from (buffered s₀) state past ≡ state_from s₀ state past
  state_same [] state = refl
  state_same (u ∷ past) state = ap (λ x. state_from (buffered s₀) x past) (alike.nexts state u) ∙ state_same past (next_state s₀ state u)

  after_same : (past : List (List Bool)) → state_after (buffered s₀) past ≡ state_after s₀ past
  after_same past = ap (λ x. state_from (buffered s₀) x past) alike.starts ∙ state_same past (start_state s₀)

  abbrev p : DeckPlan
  p = unbuffered_plan network options planned

  abbrev d : IsNamedDeck WithKeeper plain
  d = planned_deck network options plain planned net_is some few

  -- its plan
  shape_is : IsShapeOf (length (pins_of network)) p (map (end_at_cell planned.kept) planned.forest.ends) s₀
  shape_is = shape_of (pins_of network) (outs_of network) (starts_of network) d.complements (map (end_at_cell planned.kept) planned.forest.ends) p
      (sym (leaves_are network options plain planned net_is some few)) refl d.one_end (clocked plain d may)

  cells_count : length s₀.cells ≡ length planned.trees
  cells_count =
      length_map _ (cells_of options.phases planned.levels planned.trees) ∙ (length_map _ (zip planned.trees planned.levels)
      ∙ zip_length planned.trees planned.levels (sym planned.levels_are.one_each))

  -- where a cell of the buffered shape stands in the chain of a cell
  record IsInChain (m : ℕ) : Type 0 where
    old : ℕ
    cell : DominoCell
    cell_is : IsCellAt s₀ old cell
    behind : ℕ
    within : behind ≤ chain_length (shape_cells s₀) old
    there : m ≡ place (shape_cells s₀) old + behind

  in_chain : (m : ℕ) (c : DominoCell) → IsCellAt (buffered s₀) m c → IsInChain m
  in_chain m c e =
      let n = any_new (shape_cells s₀) m c e in
      elim n.of [
        | inl q ↦ record { old = n.old; cell = n.cell; cell_is = n.cell_is; behind = 0; within = omega arith; there = q.0 ∙ sym (add-zero (place (shape_cells s₀) n.old)) }
        | inr q ↦ record { old = n.old; cell = n.cell; cell_is = n.cell_is; behind = suc q.0; within = omega (arith, q.1); there = q.2 }
      ]

  pair_of : (m : ℕ) (i : IsInChain m) (root : ℕ) (pair : ℕ × Bool) → slice_get (roots planned.kept) i.old ≡ Some root → slice_get planned.forest.origin root ≡ Some pair
      → IsRootPair network options planned m pair
  pair_of m i root pair root_is pair_is =
      let first = place_is (length (pins_of network)) p (map (end_at_cell planned.kept) planned.forest.ends) s₀ shape_is i.old in
      let more = length_is (length (pins_of network)) p (map (end_at_cell planned.kept) planned.forest.ends) s₀ shape_is i.old in
      record {
        begins = i.old;
        from = omega (arith, first, i.there);
        to = omega (arith, first, more, i.within, i.there);
        root = root;
        root_is = root_is;
        pair_is = pair_is;
      }

  pub root_values_are : HaveRootValues network options planned (buffered s₀)
  root_values_are past pins fit =
      let r = run_to_cycle network s₀ runs past pins fit in
      let state = state_beyond (start network) r.0 in
      let c = runs.cycles pins state r.4 r.3 in
      let v = root_values planned net_is d.complements pins state c.0 c.1 in (
        (c.1).values,
        record { earlier = r.0; run = r.1; valuation = (c.1).valuation },
        v.0,
        v.1,
        λ m cell e.
            let i = in_chain m cell e in
            let w = v.2 i.old (subst (λ n. i.old < n) cells_count (slice_get_within s₀.cells i.old i.cell i.cell_is)) in (
              w.1,
              pair_of m i w.0 w.1 w.2 w.3,
              ap (λ (x : List Bool). own_bit (buffered s₀) (bit_at pins) (bit_at x) m) (after_same past ∙ r.2)
                  ∙ (ap (own_bit (buffered s₀) (bit_at pins) (bit_at state)) i.there
                  ∙ (chain_bit s₀ may (bit_at pins) (bit_at state) i.old i.cell i.cell_is i.behind i.within ∙ w.4)),
            ),
      )

-- so a cell that holds has the opposite of its root pair's value on its dynamic net
pub cells_hold : (network : NetworkData) (options : SynthOptions) (circuit plain : CircuitData) (planned : IsPlannedDeck network (keeper_options options) plain)
    (states : IsHonestDeck Overlapping WithKeeper network circuit (roles_of network options.phases)) → HaveRootValues network options planned states.shape
    → CellsHoldRootValues network options planned circuit states.net states.shape
cells_hold network options circuit plain planned states roots w reset fit at cell e up fallen =
    let h = states.honest.honest w (subst (λ k. HasResetBy k circuit (roles_of network options.phases) w) (sym states.clocks_fall) reset) in
    let r = roots w.past w.pins fit in
    let p = r.4 at cell e in
    record {
      signals = r.0;
      are_signals = r.1;
      node = r.2;
      are_nodes = r.3;
      pair = p.0;
      is_root = p.1;
      dynamic_is = (h.cells.held at cell e up fallen).pair.0 ∙ ap (λ b. opposite (bit b)) p.2;
    }
