-- A deck stage by stage: its cells, complements, latches and sinks each find room.
use Rattle.std.proofs.Common.{◌≡◌, ℕ, zero, suc, ◌+◌, ◌-◌, ◌*◌, ◌/◌, ◌≤◌, ◌<◌, ◌^◌, Bool, true, false, List, [], ◌∷◌, ◌++◌, length, map, refl, sym, ap, ◌∙◌, subst, arith, Some, slice_get, All, nat_eq, inl, inr}
use Rattle.std.specs.Prelude.{◌≢◌, codes}
use Rattle.std.specs.Fmt.{decimal}
use Rattle.std.specs.List.{AllByRecursion, IsDistinct, range_with_len, starts_with}
use Rattle.std.specs.Cmp.Lexicographic.{pointwise}
use Rattle.std.proofs.lemmas.List.Elements.{All-from_recursion, recursion_from_All}
use Rattle.dom_base.proofs.Lists.{IsDistinct-append, list_any-none, AllByRecursion-append, AllByRecursion-every, AllByRecursion-map, AllByRecursion-weaker}
use Rattle.dom_base.proofs.Names.{AreApart-from_start}
use Rattle.deck.proofs.CircuitGrowth.{with_devices-append}
use Rattle.deck.specs.CircuitData.{CircuitData}
use Rattle.deck.specs.NamedDevices.{NamedDevice, with_devices}
use Rattle.deck.specs.Nets.{IsCircuit, net_name, net_number}
use Rattle.deck.specs.Ports.{IsOutput, IsPin, leading_ports}
use Rattle.deck.specs.Pushes.{new_circuit}
use Rattle.deck.specs.Sources.{is_source}
use Rattle.deck.specs.declared.phase.Phase.{Phase}
use Rattle.gate_decompose.specs.Items.{Among, Rises}
use Rattle.sp_network.specs.Tree.{Tree, Leaf, Series, Parallel, EachLeaf}
use Rattle.sp_network.specs.TypedTree.{tree_of}
use Rattle.sp_network.specs.declared.plan.GatePlan.{GatePlan}
use Rattle.domino_cell.specs.NamedTrees.{named_tree}
use Rattle.dual_rail.proofs.Zips.{all_from}
use Rattle.std.proofs.lemmas.Option.{slice_get_within}
use Rattle.clock_phase.proofs.Greatest.{each_leaf_weaker}
use Rattle.synth_flow.specs.BareDecks.{gate_nets}
use Rattle.deck_form.specs.DeckNets.{complement_net, data_net, named_gate, own_net}
use Rattle.synth_flow.specs.MadeDecks.{EndsApart, HasRoomForInverters, IsBeforeLatch, inverters, latches_from}
use Rattle.deck_form.specs.NameParts.{leading_letter, rest_of}
use Rattle.synth_flow.proofs.BareDecks.{gate_has, gate_net, own_has, is_port, outs_have, pins_have, ports_have}
use Rattle.synth_flow.proofs.DeckRooms.{HasEnds, HoldsOfCells, ends_apart, inverters_end, inverters_named, latches_end, new_no_source, numbered_apart, output_no_source}
use Rattle.synth_flow.proofs.LatchNets.{other}
use Rattle.deck_form.proofs.NameParts.{HasNames, all_nets, bare_rest_is}
use Rattle.deck_form.proofs.ClockPorts.{begins}

-- no complement: a name with the letter `c` has more than a number behind it
abbrev pub IsNoComplement : List ℕ → Type 0
IsNoComplement name = leading_letter name ≡ 99 → rest_of name ≢ []

-- no sink: neither `x` nor `o`
abbrev pub IsNoData : List ℕ → Type 0
IsNoData name = leading_letter name ≢ 120

abbrev pub IsNoSink : List ℕ → Type 0
IsNoSink name = (leading_letter name ≢ 120) × (leading_letter name ≢ 111)

-- numbers in a row rise
range_above : (a n y : ℕ) → Among y (range_with_len a n) → a ≤ y
range_above a zero y at = absurd at
range_above a (suc n) y (inl same) = omega arith
range_above a (suc n) y (inr at) = omega (arith, range_above (a + 1) n y at)

range_rises : (a n : ℕ) → Rises (λ x y. x < y) (range_with_len a n)
range_rises a zero = tt
range_rises a (suc n) = ((λ y at. omega (arith, range_above (a + 1) n y at)), range_rises (a + 1) n)

range_small : (a n : ℕ) → a + n ≤ 2 ^ 64 → AllByRecursion (λ k. k < 2 ^ 64) (range_with_len a n)
range_small a zero few = tt
range_small a (suc n) few = (omega arith, range_small (a + 1) n (omega arith))

module _ (name : List ℕ) (phases : List Phase) (clocks : ℕ) (pins outs : List (List ℕ)) (bare_is : IsCircuit (new_circuit name phases clocks pins outs).ports (new_circuit name phases clocks pins outs).nets [])
    (pins_are : AllByRecursion IsPin pins) (outs_are : AllByRecursion IsOutput outs) where
  abbrev bare : CircuitData
  bare = new_circuit name phases clocks pins outs

  -- a letter other than `c`
  plain : (letter : ℕ) (rest : List ℕ) → letter ≢ 99 → IsNoComplement (letter ∷ rest)
  plain letter rest differs e = absurd (differs e)

  plain_cells : HoldsOfCells IsNoComplement
  plain_cells = record {
    d = λ rest. plain 100 rest (λ e. omega (arith, e));
    f = λ rest. plain 102 rest (λ e. omega (arith, e));
    t = λ rest. plain 116 rest (λ e. omega (arith, e));
    e = λ rest. plain 101 rest (λ e. omega (arith, e));
    g = λ rest. plain 103 rest (λ e. omega (arith, e));
    u = λ rest. plain 117 rest (λ e. omega (arith, e));
    z = λ rest. plain 122 rest (λ e. omega (arith, e));
    v = λ rest. plain 118 rest (λ e. omega (arith, e));
  }

  plain_ports : AllByRecursion IsNoComplement (leading_ports clocks ++ pins ++ outs)
  plain_ports =
      ports_have IsNoComplement clocks pins outs (plain 118 (100 ∷ 100 ∷ []) (λ e. omega (arith, e))) (plain 118 (115 ∷ 115 ∷ []) (λ e. omega (arith, e)))
      (clock 49, (clock 50, (clock 51, (clock 52, tt))))
      (l (109 ∷ []), (l (109 ∷ 98 ∷ []), (l (115 ∷ []), (l (115 ∷ 98 ∷ []), (r (115 ∷ []), (r (115 ∷ 98 ∷ []), tt))))))
      (pins_have IsNoComplement (λ rest. plain 105 rest (λ e. omega (arith, e))) pins pins_are) (outs_have IsNoComplement (λ rest. plain 111 rest (λ e. omega (arith, e))) outs outs_are)
    where
      clock : (digit : ℕ) → IsNoComplement (99 ∷ 107 ∷ digit ∷ [])
      clock digit e f = cc

      l : (rest : List ℕ) → IsNoComplement (108 ∷ rest)
      l rest = plain 108 rest (λ e. omega (arith, e))

      r : (rest : List ℕ) → IsNoComplement (114 ∷ rest)
      r rest = plain 114 rest (λ e. omega (arith, e))

  is_complement : (n : ℕ) → n < 2 ^ 64 → IsNoComplement (complement_net n) → ⊥
  is_complement n small no_such = no_such refl (bare_rest_is 99 n small)

  -- the complements of rising leaves find room behind any cells
  pub room_for_complements : (cells : List (NamedDevice (List ℕ))) → (HoldsOfCells IsNoComplement → AllByRecursion (HasEnds IsNoComplement) cells)
      → (c : CircuitData) (leaves : List ℕ) → c ≡ with_devices bare cells
      → Rises (λ x y. x < y) leaves → AllByRecursion (λ n. n < 2 ^ 64) leaves → HasRoomForInverters c (map complement_net leaves)
  room_for_complements cells cells_end c leaves is rises small = record {
    bare = bare;
    named = cells;
    circuit_is = is;
    empty = refl;
    bare_is = bare_is;
    vdd = is_port name phases clocks pins outs 0 (codes "vdd") refl;
    vss = is_port name phases clocks pins outs 1 (codes "vss") refl;
    no_sources = All-from_recursion (λ out. is_source bare (net_number bare.nets out) ≡ false) (map complement_net leaves)
        (AllByRecursion-map (λ out. is_source bare (net_number bare.nets out) ≡ false) complement_net leaves
        (AllByRecursion-weaker (λ n. n < 2 ^ 64) (λ n. is_source bare (net_number bare.nets (complement_net n)) ≡ false)
        (λ n low. new_no_source bare IsNoComplement (complement_net n) (omega arith) (is_complement n low) plain_ports) leaves small));
    none_ends = All-from_recursion (λ out. All (EndsApart out) cells) (map complement_net leaves)
        (AllByRecursion-map (λ out. All (EndsApart out) cells) complement_net leaves
        (AllByRecursion-weaker (λ n. n < 2 ^ 64) (λ n. All (EndsApart (complement_net n)) cells)
        (λ n low. All-from_recursion (EndsApart (complement_net n)) cells
        (ends_apart IsNoComplement (complement_net n) (is_complement n low) cells (cells_end plain_cells))) leaves small));
    apart = numbered_apart 99 leaves rises small;
  }

  -- the nets of the latches are new behind cells and complements
  latch_cells : HoldsOfCells (IsBeforeLatch 0)
  latch_cells = record {
    d = λ rest. other 0 100 rest (λ e. omega (arith, e)) (λ e. omega (arith, e));
    f = λ rest. other 0 102 rest (λ e. omega (arith, e)) (λ e. omega (arith, e));
    t = λ rest. other 0 116 rest (λ e. omega (arith, e)) (λ e. omega (arith, e));
    e = λ rest. other 0 101 rest (λ e. omega (arith, e)) (λ e. omega (arith, e));
    g = λ rest. other 0 103 rest (λ e. omega (arith, e)) (λ e. omega (arith, e));
    u = λ rest. other 0 117 rest (λ e. omega (arith, e)) (λ e. omega (arith, e));
    z = λ rest. other 0 122 rest (λ e. omega (arith, e)) (λ e. omega (arith, e));
    v = λ rest. other 0 118 rest (λ e. omega (arith, e)) (λ e. omega (arith, e));
  }

  latch_ports_are : AllByRecursion (IsBeforeLatch 0) (leading_ports clocks ++ pins ++ outs)
  latch_ports_are =
      ports_have (IsBeforeLatch 0) clocks pins outs (latch_cells.v (100 ∷ 100 ∷ [])) (latch_cells.v (115 ∷ 115 ∷ []))
      (ck (49 ∷ []), (ck (50 ∷ []), (ck (51 ∷ []), (ck (52 ∷ []), tt))))
      (l (109 ∷ []), (l (109 ∷ 98 ∷ []), (l (115 ∷ []), (l (115 ∷ 98 ∷ []), (r (115 ∷ []), (r (115 ∷ 98 ∷ []), tt))))))
      (pins_have (IsBeforeLatch 0) (λ rest. other 0 105 rest (λ e. omega (arith, e)) (λ e. omega (arith, e))) pins pins_are)
      (outs_have (IsBeforeLatch 0) (λ rest. other 0 111 rest (λ e. omega (arith, e)) (λ e. omega (arith, e))) outs outs_are)
    where
      ck : (rest : List ℕ) → IsBeforeLatch 0 (99 ∷ 107 ∷ rest)
      ck rest = other 0 99 (107 ∷ rest) (λ e. omega (arith, e)) (λ e. omega (arith, e))

      l : (rest : List ℕ) → IsBeforeLatch 0 (108 ∷ rest)
      l rest = other 0 108 rest (λ e. omega (arith, e)) (λ e. omega (arith, e))

      r : (rest : List ℕ) → IsBeforeLatch 0 (114 ∷ rest)
      r rest = other 0 114 rest (λ e. omega (arith, e)) (λ e. omega (arith, e))

  pub latches_are_new : (cells : List (NamedDevice (List ℕ)))
      → (HoldsOfCells (IsBeforeLatch 0) → ((rest : List ℕ) → IsBeforeLatch 0 (codes "ck" ++ rest)) → AllByRecursion (HasNames (IsBeforeLatch 0)) cells)
      → (gates opposite : List (List ℕ)) (c : CircuitData) → c ≡ with_devices (with_devices bare cells) (inverters gates opposite)
      → AllByRecursion (IsBeforeLatch 0) gates → AllByRecursion (IsBeforeLatch 0) opposite → All (IsBeforeLatch 0) c.nets
  latches_are_new cells cells_named gates opposite c is gates_are opposite_are =
      let ck : (rest : List ℕ) → IsBeforeLatch 0 (codes "ck" ++ rest) = λ rest. other 0 99 (107 ∷ rest) (λ e. omega (arith, e)) (λ e. omega (arith, e)) in
      let first = all_nets (IsBeforeLatch 0) bare cells latch_ports_are (cells_named latch_cells ck) in
      let second = all_nets (IsBeforeLatch 0) (with_devices bare cells) (inverters gates opposite) first (inverters_named (IsBeforeLatch 0) latch_cells.v gates opposite gates_are opposite_are) in
      subst (λ (d : CircuitData). All (IsBeforeLatch 0) d.nets) (sym is)
      (All-from_recursion (IsBeforeLatch 0) (with_devices (with_devices bare cells) (inverters gates opposite)).nets second)

  -- no sink is an end of what stands before the sinks
  sink_cells : HoldsOfCells IsNoSink
  sink_cells = record {
    d = λ rest. ((λ e. omega (arith, e)), (λ e. omega (arith, e)));
    f = λ rest. ((λ e. omega (arith, e)), (λ e. omega (arith, e)));
    t = λ rest. ((λ e. omega (arith, e)), (λ e. omega (arith, e)));
    e = λ rest. ((λ e. omega (arith, e)), (λ e. omega (arith, e)));
    g = λ rest. ((λ e. omega (arith, e)), (λ e. omega (arith, e)));
    u = λ rest. ((λ e. omega (arith, e)), (λ e. omega (arith, e)));
    z = λ rest. ((λ e. omega (arith, e)), (λ e. omega (arith, e)));
    v = λ rest. ((λ e. omega (arith, e)), (λ e. omega (arith, e)));
  }

  pub data_ports : AllByRecursion IsNoData (leading_ports clocks ++ pins ++ outs)
  data_ports =
      ports_have IsNoData clocks pins outs (λ e. omega (arith, e)) (λ e. omega (arith, e)) (ck 49, (ck 50, (ck 51, (ck 52, tt))))
      (l (109 ∷ []), (l (109 ∷ 98 ∷ []), (l (115 ∷ []), (l (115 ∷ 98 ∷ []), (r (115 ∷ []), (r (115 ∷ 98 ∷ []), tt))))))
      (pins_have IsNoData (λ rest e. omega (arith, e)) pins pins_are) (outs_have IsNoData (λ rest e. omega (arith, e)) outs outs_are)
    where
      ck : (digit : ℕ) → IsNoData (99 ∷ 107 ∷ digit ∷ [])
      ck digit e = omega (arith, e)

      l : (rest : List ℕ) → IsNoData (108 ∷ rest)
      l rest e = omega (arith, e)

      r : (rest : List ℕ) → IsNoData (114 ∷ rest)
      r rest e = omega (arith, e)

  out_is_sink : (out : List ℕ) → IsOutput out → IsNoSink out → ⊥
  out_is_sink out is none = let b = begins 111 95 out is in none.1 (ap leading_letter b.1)

  data_is_sink : (j : ℕ) → IsNoSink (data_net j) → ⊥
  data_is_sink j none = none.0 refl

  abbrev pub sinks_of : ℕ → List (List ℕ)
  sinks_of count = outs ++ map data_net (range_with_len 0 count)

  pub sinks_apart : (count : ℕ) → count < 2 ^ 64 → IsDistinct (pointwise nat_eq) outs → IsDistinct (pointwise nat_eq) (sinks_of count)
  sinks_apart count few apart =
      IsDistinct-append (pointwise nat_eq) outs (map data_net (range_with_len 0 count)) apart
      (numbered_apart 120 (range_with_len 0 count) (range_rises 0 count) (range_small 0 count (omega arith)))
      (AreApart-from_start (codes "x") outs (map data_net (range_with_len 0 count))
      (list_any-none (λ x. starts_with nat_eq x (codes "x")) outs (outs_have (λ x. starts_with nat_eq x (codes "x") ≡ false) (λ rest. refl) outs outs_are))
      (All-from_recursion (λ y. starts_with nat_eq y (codes "x") ≡ true) (map data_net (range_with_len 0 count))
      (AllByRecursion-map (λ y. starts_with nat_eq y (codes "x") ≡ true) data_net (range_with_len 0 count)
      (AllByRecursion-every (λ j. starts_with nat_eq (data_net j) (codes "x") ≡ true) (λ j. refl) (range_with_len 0 count)))))

  -- each sink has the property, where each output and each data net has
  each_sink : (P : List ℕ → Type 0) (count : ℕ) → ((out : List ℕ) → IsOutput out → P out) → ((j : ℕ) → P (data_net j)) → All P (sinks_of count)
  each_sink P count out data_has =
      All-from_recursion P (sinks_of count)
      (AllByRecursion-append P outs (map data_net (range_with_len 0 count)) (AllByRecursion-weaker IsOutput P out outs outs_are)
      (AllByRecursion-map P data_net (range_with_len 0 count) (AllByRecursion-every (λ j. P (data_net j)) data_has (range_with_len 0 count))))

  -- what stands before the sinks ends at no net of one
  pub ends_before_sinks : (cells : List (NamedDevice (List ℕ))) → (HoldsOfCells IsNoSink → AllByRecursion (HasEnds IsNoSink) cells)
      → (gates : List (List ℕ)) (leaves : List ℕ) (starts : List Bool)
      → AllByRecursion (HasEnds IsNoSink) (cells ++ inverters gates (map complement_net leaves) ++ latches_from 0 starts)
  ends_before_sinks cells cells_end gates leaves starts =
      let opposite = inverters gates (map complement_net leaves) in
      let complements_are : AllByRecursion IsNoSink (map complement_net leaves)
      = AllByRecursion-map IsNoSink complement_net leaves (AllByRecursion-every (λ n. IsNoSink (complement_net n)) (λ n. ((λ e. omega (arith, e)), (λ e. omega (arith, e)))) leaves) in
      AllByRecursion-append (HasEnds IsNoSink) (cells ++ opposite) (latches_from 0 starts)
      (AllByRecursion-append (HasEnds IsNoSink) cells opposite (cells_end sink_cells) (inverters_end IsNoSink sink_cells.v gates (map complement_net leaves) complements_are))
      (latches_end IsNoSink (λ rest. ((λ e. omega (arith, e)), (λ e. omega (arith, e)))) (λ rest. ((λ e. omega (arith, e)), (λ e. omega (arith, e)))) sink_cells.v 0 starts)

  -- the sinks find room behind cells, complements and latches
  pub room_for_sinks : (cells : List (NamedDevice (List ℕ))) → (HoldsOfCells IsNoSink → AllByRecursion (HasEnds IsNoSink) cells)
      → (gates : List (List ℕ)) (leaves : List ℕ) (starts : List Bool) (count : ℕ) (c : CircuitData)
      → c ≡ with_devices (with_devices (with_devices bare cells) (inverters gates (map complement_net leaves))) (latches_from 0 starts)
      → count < 2 ^ 64 → IsDistinct (pointwise nat_eq) outs → HasRoomForInverters c (sinks_of count)
  room_for_sinks cells cells_end gates leaves starts count c is few apart =
      let opposite = inverters gates (map complement_net leaves) in
      let latches = latches_from 0 starts in
      let all = ends_before_sinks cells cells_end gates leaves starts in
      record {
        bare = bare;
        named = cells ++ opposite ++ latches;
        circuit_is = is ∙ ap (λ d. with_devices d latches) (sym (with_devices-append bare cells opposite)) ∙ sym (with_devices-append bare (cells ++ opposite) latches);
        empty = refl;
        bare_is = bare_is;
        vdd = is_port name phases clocks pins outs 0 (codes "vdd") refl;
        vss = is_port name phases clocks pins outs 1 (codes "vss") refl;
        no_sources = each_sink (λ out. is_source bare (net_number bare.nets out) ≡ false) count (λ out h. output_no_source bare out (omega arith) h)
            (λ j. new_no_source bare IsNoData (data_net j) (omega arith) (λ none. none refl) data_ports);
        none_ends = each_sink (λ out. All (EndsApart out) (cells ++ opposite ++ latches)) count
            (λ out h. All-from_recursion (EndsApart out) (cells ++ opposite ++ latches) (ends_apart IsNoSink out (out_is_sink out h) (cells ++ opposite ++ latches) all))
            (λ j. All-from_recursion (EndsApart (data_net j)) (cells ++ opposite ++ latches) (ends_apart IsNoSink (data_net j) (data_is_sink j) (cells ++ opposite ++ latches) all));
        apart = sinks_apart count few apart;
      }

-- pins and the outputs of latches are no inner nets of latches
pins_before : (pins : List (List ℕ)) → AllByRecursion IsPin pins → AllByRecursion (IsBeforeLatch 0) pins
pins_before = pins_have (IsBeforeLatch 0) (λ rest. other 0 105 rest (λ e. omega (arith, e)) (λ e. omega (arith, e)))

own_before : (n : ℕ) → n < 2 ^ 64 → IsBeforeLatch 0 (codes "q" ++ decimal n)
own_before n small = ((λ e. absurd (omega (arith, e))), (λ e more. absurd (more (bare_rest_is 113 n small))))

-- the net of a gate is none either
pub gate_before_latch : (pins : List (List ℕ)) (lc gate : ℕ) → gate < 2 ^ 64 → AllByRecursion IsPin pins → IsBeforeLatch 0 (named_gate pins lc gate)
gate_before_latch pins lc gate small pins_are =
    gate_has (IsBeforeLatch 0) pins lc gate (pins_before pins pins_are) (own_before (gate / 2 - length pins) (omega arith))
    (other 0 99 (decimal (gate / 2)) (λ e. omega (arith, e)) (λ e. omega (arith, e))) (λ le. other 0 122 (decimal (gate - 2 * lc)) (λ e. omega (arith, e)) (λ e. omega (arith, e)))

pub named_each : (P : List ℕ → Type 0) (names : List (List ℕ)) (t : Tree ℕ) → EachLeaf (λ gate. P (net_name names gate)) t → EachLeaf P (named_tree names t)
named_each P names (Leaf gate) h = h
named_each P names (Series l r) h = (named_each P names l h.0, named_each P names r h.1)
named_each P names (Parallel l r) h = (named_each P names l h.0, named_each P names r h.1)

-- the gates of the plans are no nets of latches
pub gates_before : (pins : List (List ℕ)) (lc : ℕ) (plans : List GatePlan) → lc < 2 ^ 32 → length plans < 2 ^ 32 → AllByRecursion IsPin pins
    → ((k : ℕ) (p : GatePlan) → slice_get plans k ≡ Some p → EachLeaf (λ gate. gate < 2 * lc + k) (tree_of p.tree))
    → AllByRecursion (λ (p : GatePlan). EachLeaf (IsBeforeLatch 0) (named_tree (gate_nets pins lc (2 * lc + length plans)) (tree_of p.tree))) plans
gates_before pins lc plans few not_many pins_are earlier =
    let names = gate_nets pins lc (2 * lc + length plans) in
    let P : GatePlan → Type 0 = λ (p : GatePlan). EachLeaf (IsBeforeLatch 0) (named_tree names (tree_of p.tree)) in
    recursion_from_All P plans
    (all_from P plans (λ k p at. let lt = slice_get_within plans k p at in named_each (IsBeforeLatch 0) names (tree_of p.tree) (each_leaf_weaker (λ gate. gate < 2 * lc + k) (λ gate. IsBeforeLatch 0 (net_name names gate))
    (λ gate low. subst (IsBeforeLatch 0) (sym (gate_net pins lc (2 * lc + length plans) gate (omega (arith, lt, low)))) (gate_before_latch pins lc gate (omega (arith, lt, low, few, not_many)) pins_are))
    (tree_of p.tree) (earlier k p at))))

-- the own nets and the complements of leaves are none either
pub own_are_before : (pins : List (List ℕ)) (leaves : List ℕ) → AllByRecursion IsPin pins → AllByRecursion (λ n. n < 2 ^ 64) leaves → AllByRecursion (IsBeforeLatch 0) (map (own_net pins) leaves)
own_are_before pins leaves pins_are small =
    AllByRecursion-map (IsBeforeLatch 0) (own_net pins) leaves
    (AllByRecursion-weaker (λ n. n < 2 ^ 64) (λ n. IsBeforeLatch 0 (own_net pins n))
    (λ n low. own_has (IsBeforeLatch 0) pins n (pins_before pins pins_are) (own_before (n - length pins) (omega arith))) leaves small)

pub complements_before : (leaves : List ℕ) → AllByRecursion (IsBeforeLatch 0) (map complement_net leaves)
complements_before leaves =
    AllByRecursion-map (IsBeforeLatch 0) complement_net leaves
    (AllByRecursion-every (λ n. IsBeforeLatch 0 (complement_net n)) (λ n. other 0 99 (decimal n) (λ e. omega (arith, e)) (λ e. omega (arith, e))) leaves)

pub ruleset deck_stages = (room_for_complements, latches_are_new, room_for_sinks, gates_before, own_are_before, complements_before)
