-- The ports of a deck, and the nets that gate its cells.
use Rattle.domino_cell.specs.declared.style.Style.{Style}
use Rattle.std.proofs.Common.{◌≡◌, ℕ, ◌+◌, ◌-◌, ◌*◌, ◌/◌, ◌%◌, ◌≤◌, ◌<◌, ◌^◌, Bool, true, false, cond, List, [], ◌∷◌, ◌++◌, length, map, take, refl, sym, ap, ◌∙◌, subst, arith, Some, slice_get, append_assoc, nat_lt, zero-add, flat_map}
use Rattle.std.specs.Prelude.{◌==◌, codes, slice_index_or}
use Rattle.std.specs.Fmt.{decimal}
use Rattle.std.specs.List.{AllByRecursion, enumerate_from}
use Rattle.std.proofs.lemmas.Bool.{ltb-false, ltb-true}
use Rattle.std.proofs.lemmas.List.Elements.{All-from_recursion, recursion_from_All}
use Rattle.std.proofs.lemmas.List.FromFn.{get_or-map-range_with_len, length-map-range_with_len}
use Rattle.std.proofs.lemmas.Option.{slice_get_within, slice_get-get_or}
use Rattle.dom_base.proofs.Lists.{All-at, AllByRecursion-append, AllByRecursion-take, AllByRecursion-weaker}
use Rattle.deck.specs.CircuitData.{CircuitData}
use Rattle.dual_rail.proofs.Zips.{all_from}
use Rattle.deck.specs.Nets.{net_name, net_number}
use Rattle.deck.specs.Ports.{IsOutput, IsPin, clock_ports, latch_ports, leading_ports}
use Rattle.deck.specs.Pushes.{new_circuit}
use Rattle.deck.specs.declared.phase.Phase.{Phase}
use Rattle.deck.proofs.NetNumbers.{HasNumber-from}
use Rattle.sp_network.specs.Tree.{Tree, Leaf, Series, Parallel, EachLeaf, map_tree}
use Rattle.sp_network.specs.TypedTree.{tree_of}
use Rattle.sp_network.specs.declared.plan.GatePlan.{GatePlan}
use Rattle.clock_phase.proofs.Greatest.{each_leaf_weaker}
use Rattle.domino_cell.specs.StyledCells.{styled_cell}
use Rattle.domino_cell.specs.NamedTrees.{named_tree}
use Rattle.domino_cell.specs.PushedNames.{IsPort, numbered_cell}
use Rattle.synth_flow.specs.BareDecks.{cell_plan, gate_nets}
use Rattle.deck_form.specs.DeckNets.{clock_net, complement_net, named_cell, named_gate, output_net, own_net, rail_net}
use Rattle.synth_flow.specs.MadeDecks.{AreGated, HasRoomForCells, IsBeforeCell, cells_from}
use Rattle.deck_form.proofs.NameParts.{bare_number_is}
use Rattle.deck_form.proofs.ClockPorts.{begins, clock_at}

-- a property of names by their letter
pub pins_have : (P : List ℕ → Type 0) → ((rest : List ℕ) → P (105 ∷ rest)) → (pins : List (List ℕ)) → AllByRecursion IsPin pins → AllByRecursion P pins
pins_have P each = AllByRecursion-weaker IsPin P (λ name pin. let b = begins 105 95 name pin in subst P (sym b.1) (each b.0))

pub outs_have : (P : List ℕ → Type 0) → ((rest : List ℕ) → P (111 ∷ rest)) → (outs : List (List ℕ)) → AllByRecursion IsOutput outs → AllByRecursion P outs
outs_have P each = AllByRecursion-weaker IsOutput P (λ name out. let b = begins 111 95 name out in subst P (sym b.1) (each b.0))

-- a property of all ports
pub ports_have : (P : List ℕ → Type 0) (clocks : ℕ) (pins outs : List (List ℕ)) → P (codes "vdd") → P (codes "vss") → AllByRecursion P clock_ports → AllByRecursion P latch_ports
    → AllByRecursion P pins → AllByRecursion P outs → AllByRecursion P (leading_ports clocks ++ pins ++ outs)
ports_have P clocks pins outs vdd vss clock latch pin out =
    AllByRecursion-append P (leading_ports clocks ++ pins) outs
    (AllByRecursion-append P (leading_ports clocks) pins (vdd, (vss, AllByRecursion-append P (take clocks clock_ports) latch_ports (AllByRecursion-take P clocks clock_ports clock) latch)) pin) out

module _ (name : List ℕ) (phases : List Phase) (clocks : ℕ) (pins outs : List (List ℕ)) where
  abbrev bare : CircuitData
  bare = new_circuit name phases clocks pins outs

  pub is_port : (i : ℕ) (net : List ℕ) → slice_get (leading_ports clocks ++ pins ++ outs) i ≡ Some net → IsPort bare net
  is_port i net at =
      let nets = leading_ports clocks ++ pins ++ outs in
      slice_get_within nets (net_number nets net) net (HasNumber-from nets i net at)

  pub is_clock : (clock : ℕ) → 1 ≤ clock → clock ≤ clocks → clocks ≤ 4 → IsPort bare (codes "ck" ++ decimal clock)
  is_clock clock some low few =
      let same : 1 + (clock - 1) ≡ clock = omega arith in
      is_port (2 + (clock - 1)) (clock_net clock)
      (ap (λ l. slice_get l (2 + (clock - 1))) (append_assoc (leading_ports clocks) pins outs) ∙ clock_at clocks (clock - 1) (pins ++ outs) few (omega arith) ∙ ap (λ n. Some (clock_net n)) same)

  -- a circuit without devices has room for cells
  pub room_for_cells : (plans : List GatePlan) → clocks ≤ 4 → AllByRecursion IsPin pins → AllByRecursion IsOutput outs → AllByRecursion (λ (p : GatePlan). (1 ≤ p.clock) × (p.clock ≤ clocks)) plans
      → HasRoomForCells bare plans
  room_for_cells plans few pins_are outs_are clocks_are = record {
    ports = omega arith;
    vdd = is_port 0 (codes "vdd") refl;
    vss = is_port 1 (codes "vss") refl;
    clocks = All-from_recursion (λ (p : GatePlan). IsPort bare (codes "ck" ++ decimal p.clock)) plans
        (AllByRecursion-weaker (λ (p : GatePlan). (1 ≤ p.clock) × (p.clock ≤ clocks)) (λ (p : GatePlan). IsPort bare (codes "ck" ++ decimal p.clock)) (λ p h. is_clock p.clock h.0 h.1 few) plans clocks_are);
    nets = All-from_recursion (IsBeforeCell 0) (leading_ports clocks ++ pins ++ outs)
        (ports_have (IsBeforeCell 0) clocks pins outs never never (never, (never, (never, (never, tt)))) (never, (never, (never, (never, (never, (never, tt))))))
        (pins_have (IsBeforeCell 0) (λ rest. never) pins pins_are) (outs_have (IsBeforeCell 0) (λ rest. never) outs outs_are));
  }
    where
      never : {n : ℕ} → false ≡ true → n < 0
      never e = absurd (cc)

-- a property of the own net of a leaf
pub own_has : (P : List ℕ → Type 0) (pins : List (List ℕ)) (leaf : ℕ) → AllByRecursion P pins → P (codes "q" ++ decimal (leaf - length pins)) → P (own_net pins leaf)
own_has P pins leaf all own = by (nat_lt leaf (length pins)) refl
  where
    by : (b : Bool) → nat_lt leaf (length pins) ≡ b → P (cond b (slice_index_or pins leaf []) (codes "q" ++ decimal (leaf - length pins)))
    by true e = All-at P pins leaf (slice_index_or pins leaf []) (All-from_recursion P pins all) (slice_get-get_or pins leaf [] (ltb-true leaf (length pins) e))
    by false e = own

-- a property of the net of a gate
pub gate_has : (P : List ℕ → Type 0) (pins : List (List ℕ)) (lc gate : ℕ) → AllByRecursion P pins → P (codes "q" ++ decimal (gate / 2 - length pins)) → P (complement_net (gate / 2))
    → (2 * lc ≤ gate → P (output_net (gate - 2 * lc))) → P (named_gate pins lc gate)
gate_has P pins lc gate all own opposite out = by (nat_lt gate (2 * lc)) refl
  where
    rail : (b : Bool) → P (rail_net pins (gate / 2) b)
    rail true = own_has P pins (gate / 2) all own
    rail false = opposite

    by : (b : Bool) → nat_lt gate (2 * lc) ≡ b → P (cond b (rail_net pins (gate / 2) (gate % 2 == 0)) (output_net (gate - 2 * lc)))
    by true e = rail (gate % 2 == 0)
    by false e = out (ltb-false gate (2 * lc) e)

pub gate_net : (pins : List (List ℕ)) (lc n gate : ℕ) → gate < n → net_name (gate_nets pins lc n) gate ≡ named_gate pins lc gate
gate_net pins lc n gate lt = get_or-map-range_with_len (named_gate pins lc) 0 n gate gate [] lt (zero-add gate)

-- the net of a gate below so many cells is before the next cell
pub gate_before_cell : (pins : List (List ℕ)) (lc i gate : ℕ) → i < 2 ^ 32 → AllByRecursion IsPin pins → gate < 2 * lc + i → IsBeforeCell i (named_gate pins lc gate)
gate_before_cell pins lc i gate few pins_are low =
    gate_has (IsBeforeCell i) pins lc gate (pins_have (IsBeforeCell i) (λ rest e. absurd (never e)) pins pins_are) (λ e. absurd (never e)) (λ e. absurd (never e))
    (λ le e. omega (arith, le, low, bare_number_is 122 (gate - 2 * lc) (omega (arith, le, low, few))))
  where
    never : false ≡ true → ⊥
    never e = cc

-- plans that read cells before them are gated by nets before their cells
pub are_gated : (pins : List (List ℕ)) (lc : ℕ) (plans : List GatePlan) → length plans < 2 ^ 32 → AllByRecursion IsPin pins
    → ((k : ℕ) (p : GatePlan) → slice_get plans k ≡ Some p → EachLeaf (λ gate. gate < 2 * lc + k) (tree_of p.tree)) → AreGated (gate_nets pins lc (2 * lc + length plans)) 0 plans
are_gated pins lc plans few pins_are earlier i p at =
    let n : ℕ = 2 * lc + length plans in
    let lt = slice_get_within plans i p at in
    let long = length-map-range_with_len (named_gate pins lc) 0 n in
    each_leaf_weaker (λ gate. gate < 2 * lc + i) (λ gate. (gate < length (gate_nets pins lc n)) × IsBeforeCell (0 + i) (net_name (gate_nets pins lc n) gate))
    (λ gate low. (
      omega (arith, long, lt, low),
      subst (IsBeforeCell (0 + i)) (sym (gate_net pins lc n gate (omega (arith, lt, low)))) (gate_before_cell pins lc (0 + i) gate (omega (arith, lt, few)) pins_are (omega (arith, low))),
    ))
    (tree_of p.tree) (earlier i p at)

pub same_tree : (names pins : List (List ℕ)) (lc : ℕ) (t : Tree ℕ) → EachLeaf (λ gate. net_name names gate ≡ named_gate pins lc gate) t → named_tree names t ≡ map_tree (named_gate pins lc) t
same_tree names pins lc (Leaf gate) h = ap Leaf h
same_tree names pins lc (Series l r) h = λ i. Series (same_tree names pins lc l h.0 i) (same_tree names pins lc r h.1 i)
same_tree names pins lc (Parallel l r) h = λ i. Parallel (same_tree names pins lc l h.0 i) (same_tree names pins lc r h.1 i)

-- the cells by the nets of their gates
pub cells_are : (style : Style) (names pins : List (List ℕ)) (lc k : ℕ) (plans : List GatePlan) → AllByRecursion (λ (p : GatePlan). EachLeaf (λ gate. net_name names gate ≡ named_gate pins lc gate) (tree_of p.tree)) plans
    → cells_from style names k plans ≡ flat_map (named_cell style pins lc) (enumerate_from k (map cell_plan plans))
cells_are style names pins lc k [] h = refl
cells_are style names pins lc k (p ∷ plans) h =
    λ i. styled_cell style (numbered_cell p.clock k) (same_tree names pins lc (tree_of p.tree) h.0 i) ++ cells_are style names pins lc (k + 1) plans h.1 i

-- the gates of plans have their nets
pub gates_are : (pins : List (List ℕ)) (lc : ℕ) (plans : List GatePlan) → ((k : ℕ) (p : GatePlan) → slice_get plans k ≡ Some p → EachLeaf (λ gate. gate < 2 * lc + k) (tree_of p.tree))
    → AllByRecursion (λ (p : GatePlan). EachLeaf (λ gate. net_name (gate_nets pins lc (2 * lc + length plans)) gate ≡ named_gate pins lc gate) (tree_of p.tree)) plans
gates_are pins lc plans earlier =
    let P : GatePlan → Type 0 = λ (p : GatePlan). EachLeaf (λ gate. net_name (gate_nets pins lc (2 * lc + length plans)) gate ≡ named_gate pins lc gate) (tree_of p.tree) in
    recursion_from_All P plans
    (all_from P plans
    (λ k p at. let lt = slice_get_within plans k p at in
    each_leaf_weaker (λ gate. gate < 2 * lc + k) (λ gate. net_name (gate_nets pins lc (2 * lc + length plans)) gate ≡ named_gate pins lc gate)
    (λ gate low. gate_net pins lc (2 * lc + length plans) gate (omega (arith, lt, low))) (tree_of p.tree) (earlier k p at)))
