-- A deck with compound cells that is pushed group by group: each group has room, and together they are the devices of the deck.
use Rattle.std.proofs.Common.{◌≡◌, ℕ, ◌+◌, ◌*◌, ◌≤◌, ◌<◌, ◌^◌, Bool, List, [], ◌++◌, ◌∙◌, All, Some, ap, arith, filter, length, map, nat_eq, option_map, slice_get, subst, sym}
use Rattle.std.specs.List.{AllByRecursion, IsDistinct, range_with_len}
use Rattle.std.specs.Cmp.Lexicographic.{pointwise}
use Rattle.std.proofs.lemmas.List.Elements.{recursion_from_All}
use Rattle.std.proofs.lemmas.List.FromFn.{length-map-range_with_len}
use Rattle.std.proofs.lemmas.Option.{slice_get-map, slice_get_within}
use Rattle.deck.specs.CircuitData.{CircuitData}
use Rattle.deck.specs.NamedDevices.{NamedDevice, with_devices}
use Rattle.deck.specs.Nets.{IsCircuit, net_name}
use Rattle.deck.specs.Ports.{IsOutput, IsPin}
use Rattle.deck.specs.Pushes.{new_circuit}
use Rattle.dual_rail.proofs.Zips.{all_from}
use Rattle.sp_network.specs.Tree.{EachLeaf, map_tree}
use Rattle.clock_phase.proofs.Greatest.{each_leaf_weaker}
use Rattle.latch_bind.proofs.LatchParts.{two_parts}
use Rattle.compound_plan.specs.Plans.{CellTrees, compound_costs, cost}
use Rattle.compound_cell.specs.CompoundCells.{whole_tree}
use Rattle.compound_plan.specs.declared.cell_plan.CellPlan.{CellPlan}
use Rattle.deck_form.specs.DeckNets.{SinkEnd, complement_net, own_net}
use Rattle.synth_flow.specs.BareDecks.{IsBareDeck, gate_nets}
use Rattle.synth_flow.specs.MadeDecks.{IsBeforeCell, IsBeforeLatch, inverters, latches_from}
use Rattle.synth_flow.proofs.BareDecks.{gate_before_cell, gate_net}
use Rattle.synth_flow.proofs.DeckRooms.{HasEnds, HoldsOfCells}
use Rattle.synth_flow.proofs.DeckStages.{ends_before_sinks, gate_before_latch, named_each, sinks_apart}
use Rattle.synth_flow.proofs.PushedDecks.{few_before_sinks}
use Rattle.deck_form.specs.DeckNets.{named_gate}
use Rattle.compound_flow.specs.MadeCells.{AreCompoundPlans, HaveGates, named_cells, plain_cells}
use Rattle.compound_flow.specs.MadeDecks.{compound_devices}
use Rattle.compound_flow.specs.MadeSinks.{HasRoomForSinks, IsSinkName, sink_gates}
use Rattle.tree_map.specs.CompoundCover.{cell_trees}
use Rattle.compound_flow.proofs.CellLoop.{all_trees, cells_count, plain_count, plain_trees}
use Rattle.compound_flow.proofs.CellNames.{cells_have_ends}
use Rattle.compound_flow.proofs.SinkRooms.{room_for_gates}

-- each whole tree by the place of its cell
pub whole_at : (plans : List CellPlan) (k : ℕ) (cell : CellTrees × ℕ) → slice_get (plain_cells plans) k ≡ Some cell → slice_get (map whole_tree (cell_trees plans)) k ≡ Some (whole_tree cell.0)
whole_at plans k cell at =
    ap (λ l. slice_get (map whole_tree l) k) (sym (plain_trees plans))
    ∙ slice_get-map whole_tree (all_trees (plain_cells plans)) k
    ∙ ap (option_map whole_tree) (slice_get-map (λ (p : CellTrees × ℕ). p.0) (plain_cells plans) k ∙ ap (option_map (λ (p : CellTrees × ℕ). p.0)) at)

module _ (pins : List (List ℕ)) (lc : ℕ) (few : lc ≤ 200000) (pins_are : AllByRecursion IsPin pins) (plans : List CellPlan) (are : AreCompoundPlans lc plans) where
  abbrev pub cells : List (CellTrees × ℕ)
  cells = plain_cells plans

  count : length cells ≡ length plans
  count = plain_count plans

  abbrev names : List (List ℕ)
  names = gate_nets pins lc (2 * lc + length plans)

  earlier : (k : ℕ) (cell : CellTrees × ℕ) → slice_get cells k ≡ Some cell → EachLeaf (λ gate. gate < 2 * lc + k) (whole_tree cell.0)
  earlier k cell at = are.earlier k (whole_tree cell.0) (whole_at plans k cell at)

  low_cell : (k : ℕ) (cell : CellTrees × ℕ) → slice_get cells k ≡ Some cell → k < length plans
  low_cell k cell at = let lt = slice_get_within cells k cell at in omega (arith, lt, count)

  -- the gates of the cells have names
  pub have_gates : HaveGates names 0 cells
  have_gates i cell at =
      let lt = low_cell i cell at in
      let long = length-map-range_with_len (named_gate pins lc) 0 (2 * lc + length plans) in
      each_leaf_weaker (λ gate. gate < 2 * lc + i) (λ gate. (gate < length names) × IsBeforeCell (0 + i) (net_name names gate))
      (λ gate low. (
        omega (arith, long, lt, low),
        subst (IsBeforeCell (0 + i)) (sym (gate_net pins lc (2 * lc + length plans) gate (omega (arith, lt, low))))
            (gate_before_cell pins lc (0 + i) gate (omega (arith, lt, are.few)) pins_are (omega (arith, low))),
      ))
      (whole_tree cell.0) (earlier i cell at)

  -- which are no nets of latches
  pub gates_before : AllByRecursion (λ (cell : CellTrees × ℕ). EachLeaf (IsBeforeLatch 0) (map_tree (net_name names) (whole_tree cell.0))) cells
  gates_before =
      let P : CellTrees × ℕ → Type 0 = λ (cell : CellTrees × ℕ). EachLeaf (IsBeforeLatch 0) (map_tree (net_name names) (whole_tree cell.0)) in
      recursion_from_All P cells
      (all_from P cells (λ k cell at. let lt = low_cell k cell at in named_each (IsBeforeLatch 0) names (whole_tree cell.0)
      (each_leaf_weaker (λ gate. gate < 2 * lc + k) (λ gate. IsBeforeLatch 0 (net_name names gate))
      (λ gate low. subst (IsBeforeLatch 0) (sym (gate_net pins lc (2 * lc + length plans) gate (omega (arith, lt, low))))
      (gate_before_latch pins lc gate (omega (arith, lt, low, few, are.few)) pins_are))
      (whole_tree cell.0) (earlier k cell at))))

  abbrev pub first : List (NamedDevice (List ℕ))
  first = named_cells (net_name names) 0 cells

  pub few_first : length first ≤ 15249152
  few_first = omega (arith, cells_count (net_name names) 0 cells, ap (cost compound_costs) (plain_trees plans), are.cheap)

  pub first_ends : (P : List ℕ → Type 0) → HoldsOfCells P → AllByRecursion (HasEnds P) first
  first_ends P h = cells_have_ends P h (net_name names) 0 cells

module _ (old : CircuitData) (pins sinks : List (List ℕ)) (starts : List Bool) (plans : List CellPlan) (lc : ℕ) (lc_is : length pins + length starts ≡ lc)
    (bare : IsBareDeck old (length starts) pins sinks []) (whole : IsCircuit old.ports old.nets old.devices) (are : AreCompoundPlans lc plans) (few : lc ≤ 200000) (test : ℕ → Bool) where
  pins_are : AllByRecursion IsPin pins
  pins_are = recursion_from_All IsPin pins bare.pins_are

  outs_are : AllByRecursion IsOutput bare.outs
  outs_are = recursion_from_All IsOutput bare.outs bare.outs_are

  abbrev cards : List (NamedDevice (List ℕ))
  cards = named_cells (net_name (gate_nets pins lc (2 * lc + length plans))) 0 (plain_cells plans)

  abbrev named : List ℕ
  named = filter test (range_with_len 0 lc)

  abbrev opposite : List (NamedDevice (List ℕ))
  opposite = inverters (map (own_net pins) named) (map complement_net named)

  bare_is : IsCircuit (new_circuit bare.name bare.phases bare.clocks pins bare.outs).ports (new_circuit bare.name bare.phases bare.clocks pins bare.outs).nets []
  bare_is = subst (λ (d : CircuitData). IsCircuit d.ports d.nets d.devices) bare.circuit_is whole

  -- the sinks
  pub sinks_fit : (c d e : CircuitData) → c ≡ with_devices old cards → d ≡ with_devices c opposite → e ≡ with_devices d (latches_from 0 starts) → length starts ≤ 8192
      → All IsSinkName sinks → IsCircuit e.ports e.nets e.devices → HasRoomForSinks e sinks
  sinks_fit c d e one two three few_starts sinks_are e_whole =
      let latches = latches_from 0 starts in
      let base = new_circuit bare.name bare.phases bare.clocks pins bare.outs in
      let distinct : IsDistinct (pointwise nat_eq) sinks
      = subst (IsDistinct (pointwise nat_eq)) (sym bare.sinks_are)
      (sinks_apart bare.name bare.phases bare.clocks pins bare.outs bare_is pins_are outs_are (length starts) (omega (arith, few_starts)) bare.apart) in
      let made : e ≡ with_devices base (cards ++ opposite ++ latches)
      = two_parts base d e (cards ++ opposite) latches (two_parts base c d cards opposite (one ∙ ap (λ x. with_devices x cards) bare.circuit_is) two) three in
      room_for_gates bare.name bare.phases bare.clocks pins bare.outs bare_is pins_are outs_are (cards ++ opposite ++ latches)
      (ends_before_sinks bare.name bare.phases bare.clocks pins bare.outs bare_is pins_are outs_are cards (first_ends pins lc few pins_are plans are _) (map (own_net pins) named) named starts)
      sinks sinks_are distinct e made e_whole

  pub sinks_count : (c d e : CircuitData) → c ≡ with_devices old cards → d ≡ with_devices c opposite → e ≡ with_devices d (latches_from 0 starts) → length starts ≤ 8192
      → length sinks ≤ 8192 → length e.devices + 4 * length sinks ≤ 2 ^ 24
  sinks_count c d e one two three few_starts few_sinks =
      omega (
        arith,
        few_before_sinks old pins sinks starts [] lc bare whole few cards (first_ends pins lc few pins_are plans are) (few_first pins lc few pins_are plans are) test
            c d e one two three few_starts,
        few_sinks,
      )

  -- all groups are the devices of the deck
  pub deck_made : (c d e f : CircuitData) (ends : List SinkEnd) → c ≡ with_devices old cards → d ≡ with_devices c opposite → e ≡ with_devices d (latches_from 0 starts)
      → f ≡ with_devices e (sink_gates pins (plain_cells plans) sinks ends) → f ≡ with_devices old (compound_devices pins sinks starts (plain_cells plans) named ends)
  deck_made c d e f ends one two three four =
      let latches = latches_from 0 starts in
      let last = sink_gates pins (plain_cells plans) sinks ends in
      let count : length plans ≡ length (plain_cells plans) = sym (plain_count plans) in
      two_parts old e f (cards ++ opposite ++ latches) last (two_parts old d e (cards ++ opposite) latches (two_parts old c d cards opposite one two) three) four
      ∙ (λ i. with_devices old (named_cells (net_name (gate_nets pins (sym lc_is i) (2 * sym lc_is i + count i))) 0 (plain_cells plans) ++ opposite ++ latches ++ last))
