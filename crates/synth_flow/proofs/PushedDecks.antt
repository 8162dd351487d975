-- A deck that is pushed group by group: each group has room, and together they are the devices of the deck.
use Rattle.std.proofs.Common.{◌≡◌, ℕ, ◌+◌, ◌*◌, ◌≤◌, ◌<◌, ◌^◌, ◌||◌, Bool, true, false, cond, List, [], ◌∷◌, ◌++◌, length, map, filter, refl, sym, ap, ◌∙◌, subst, arith, All, inl, inr}
use Rattle.std.specs.Prelude.{codes}
use Rattle.std.specs.List.{AllByRecursion, list_any, range_with_len}
use Rattle.std.proofs.lemmas.List.{length-map}
use Rattle.std.proofs.lemmas.List.FromFn.{length-range_with_len}
use Rattle.std.proofs.lemmas.List.Elements.{recursion_from_All}
use Rattle.deck.specs.CircuitData.{CircuitData}
use Rattle.deck.specs.Limits.{most_devices}
use Rattle.deck.specs.NamedDevices.{NamedDevice, with_devices}
use Rattle.deck.specs.Nets.{IsCircuit}
use Rattle.deck.specs.Ports.{IsOutput, IsPin}
use Rattle.deck.specs.Pushes.{new_circuit}
use Rattle.dual_rail.specs.declared.forest.End.{End}
use Rattle.gate_decompose.specs.Items.{Among}
use Rattle.sp_network.specs.declared.plan.GatePlan.{GatePlan}
use Rattle.latch_bind.proofs.LatchParts.{two_parts}
use Rattle.domino_cell.specs.declared.style.Style.{Style}
use Rattle.synth_flow.specs.BareDecks.{ArePlans, IsBareDeck, gate_nets, made_devices, named_leaves}
use Rattle.deck_form.specs.DeckNets.{complement_net, own_net, sink_gate}
use Rattle.synth_flow.specs.MadeDecks.{HasRoomForInverters, IsBeforeLatch, cells_from, inverters, latches_from}
use Rattle.synth_flow.specs.NamedComplements.{are_read, is_plus_end}
use Rattle.synth_flow.specs.SinkParts.{end_in}
use Rattle.synth_flow.proofs.CellNets.{cells_length}
use Rattle.deck_form.proofs.DeckForms.{rises_in_range}
use Rattle.deck_form.proofs.NameParts.{HasNames}
use Rattle.synth_flow.proofs.DeckRooms.{HasEnds, HoldsOfCells, cells_end, cells_named}
use Rattle.synth_flow.proofs.DeckStages.{complements_before, gates_before, latches_are_new, own_are_before, room_for_complements, room_for_sinks}
use Rattle.synth_flow.proofs.InverterRows.{inverters_length}
use Rattle.synth_flow.proofs.LatchNets.{latches_length}
use Rattle.domino_cell.proofs.CellCircuits.{count_with}

each_among : (P : ℕ → Type 0) (ns : List ℕ) → ((n : ℕ) → Among n ns → P n) → AllByRecursion P ns
each_among P [] h = tt
each_among P (n ∷ ns) h = (h n (inl refl), each_among P ns (λ m at. h m (inr at)))

pub few_filtered : (test : ℕ → Bool) (ns : List ℕ) → length (filter test ns) ≤ length ns
few_filtered test [] = omega arith
few_filtered test (n ∷ ns) = by (test n) (few_filtered test ns)
  where
    by : (b : Bool) → length (filter test ns) ≤ length ns → length (cond b (n ∷ filter test ns) (filter test ns)) ≤ length (n ∷ ns)
    by true h = omega (arith, h)
    by false h = omega (arith, h)

-- a deck whose cells stand: of whatever cells, and of complements of the leaves that pass a test
module _ (old : CircuitData) (pins sinks : List (List ℕ)) (starts : List Bool) (plans : List GatePlan) (lc : ℕ)
    (bare : IsBareDeck old (length starts) pins sinks plans) (whole : IsCircuit old.ports old.nets old.devices) (few : lc ≤ 200000)
    (cells : List (NamedDevice (List ℕ))) (ends_are : (P : List ℕ → Type 0) → HoldsOfCells P → AllByRecursion (HasEnds P) cells)
    (few_cards : length cells ≤ 15249152) (test : ℕ → Bool) where
  abbrev pub tested : List ℕ
  tested = filter test (range_with_len 0 lc)

  pins_are : AllByRecursion IsPin pins
  pins_are = recursion_from_All IsPin pins bare.pins_are

  outs_are : AllByRecursion IsOutput bare.outs
  outs_are = recursion_from_All IsOutput bare.outs bare.outs_are

  bare_is : IsCircuit (new_circuit bare.name bare.phases bare.clocks pins bare.outs).ports (new_circuit bare.name bare.phases bare.clocks pins bare.outs).nets []
  bare_is = subst (λ (d : CircuitData). IsCircuit d.ports d.nets d.devices) bare.circuit_is whole

  none_yet : length old.devices ≡ 0
  none_yet = ap (λ (d : CircuitData). length d.devices) bare.circuit_is

  small : AllByRecursion (λ n. n < 2 ^ 64) tested
  small =
      let rows = rises_in_range test 0 lc in
      each_among (λ n. n < 2 ^ 64) tested (λ n at. let low = (rows.1 n at).1 in omega (arith, low, few))

  few_named : length tested ≤ lc
  few_named = let at_most = few_filtered test (range_with_len 0 lc) in omega (arith, at_most, length-range_with_len 0 lc)

  -- the circuit with its cells has room for the complements
  pub complements_have_room : (c : CircuitData) → c ≡ with_devices old cells
      → HasRoomForInverters c (map complement_net tested) × (length c.devices + 2 * length tested ≤ most_devices)
  complements_have_room c one = (
    room_for_complements bare.name bare.phases bare.clocks pins bare.outs bare_is pins_are outs_are cells (ends_are _) c tested
        (one ∙ ap (λ d. with_devices d cells) bare.circuit_is) (rises_in_range test 0 lc).0 small,
    omega (arith, ap (λ (d : CircuitData). length d.devices) one, count_with old cells, none_yet, few_cards, few_named, few),
  )

  abbrev pub opposites : List (NamedDevice (List ℕ))
  opposites = inverters (map (own_net pins) tested) (map complement_net tested)

  opposite_count : length opposites ≤ 400000
  opposite_count =
      let own = length-map tested (own_net pins) in
      let these = length-map tested complement_net in
      omega (arith, inverters_length (map (own_net pins) tested) (map complement_net tested) (own ∙ sym these), these, few_named, few)

  -- behind these it has room for the latches
  pub latches_have_room : (HoldsOfCells (IsBeforeLatch 0) → ((rest : List ℕ) → IsBeforeLatch 0 (codes "ck" ++ rest)) → AllByRecursion (HasNames (IsBeforeLatch 0)) cells)
      → (c d : CircuitData) → c ≡ with_devices old cells → d ≡ with_devices c opposites → length starts ≤ 8192
      → All (IsBeforeLatch 0) d.nets × (length d.devices + 9 * length starts ≤ most_devices)
  latches_have_room names_are c d one two few_starts = (
    latches_are_new bare.name bare.phases bare.clocks pins bare.outs bare_is pins_are outs_are cells names_are (map (own_net pins) tested) (map complement_net tested) d
        (two ∙ ap (λ e. with_devices e opposites) (one ∙ ap (λ e. with_devices e cells) bare.circuit_is))
        (own_are_before pins tested pins_are small) (complements_before tested),
    omega (
      arith,
      ap (λ (e : CircuitData). length e.devices) two,
      count_with c opposites,
      opposite_count,
      ap (λ (e : CircuitData). length e.devices) one,
      count_with old cells,
      none_yet,
      few_cards,
      few_starts,
    ),
  )

  -- how many devices there are before the sinks
  pub few_before_sinks : (c d e : CircuitData) → c ≡ with_devices old cells → d ≡ with_devices c opposites → e ≡ with_devices d (latches_from 0 starts)
      → length starts ≤ 8192 → length e.devices ≤ 15722880
  few_before_sinks c d e one two three few_starts =
      omega (
        arith,
        ap (λ (x : CircuitData). length x.devices) three,
        count_with d (latches_from 0 starts),
        latches_length 0 starts,
        ap (λ (x : CircuitData). length x.devices) two,
        count_with c opposites,
        opposite_count,
        ap (λ (x : CircuitData). length x.devices) one,
        count_with old cells,
        none_yet,
        few_cards,
        few_starts,
      )

  -- and behind the latches for the inverters of the sinks
  pub sinks_have_room : (c d e : CircuitData) → c ≡ with_devices old cells → d ≡ with_devices c opposites → e ≡ with_devices d (latches_from 0 starts)
      → length starts ≤ 8192 → HasRoomForInverters e sinks
  sinks_have_room c d e one two three few_starts =
      subst (HasRoomForInverters e) (sym bare.sinks_are)
      (room_for_sinks bare.name bare.phases bare.clocks pins bare.outs bare_is pins_are outs_are cells (ends_are _) (map (own_net pins) tested) tested starts (length starts) e
      (three ∙ ap (λ x. with_devices x (latches_from 0 starts)) (two ∙ ap (λ x. with_devices x opposites) (one ∙ ap (λ x. with_devices x cells) bare.circuit_is)))
      (omega (arith, few_starts)) bare.apart)

module _ (style : Style) (old : CircuitData) (pins sinks : List (List ℕ)) (starts : List Bool) (plans : List GatePlan) (ends : List End) (lc : ℕ) (lc_is : length pins + length starts ≡ lc)
    (bare : IsBareDeck old (length starts) pins sinks plans) (whole : IsCircuit old.ports old.nets old.devices) (are : ArePlans style lc plans) (few : lc ≤ 200000) where
  abbrev names : List (List ℕ)
  names = gate_nets pins lc (2 * lc + length plans)

  abbrev first : List (NamedDevice (List ℕ))
  first = cells_from style names 0 plans

  abbrev read : ℕ → Bool
  read leaf = are_read plans leaf || list_any (is_plus_end leaf) ends

  abbrev named : List ℕ
  named = named_leaves plans ends lc

  abbrev opposite : List (NamedDevice (List ℕ))
  opposite = inverters (map (own_net pins) named) (map complement_net named)

  first_ends : (P : List ℕ → Type 0) → HoldsOfCells P → AllByRecursion (HasEnds P) first
  first_ends P h = cells_end P h style names 0 plans

  few_first : length first ≤ 15249152
  few_first = omega (arith, cells_length style names 0 plans, are.cheap)

  pub complements_fit : (c : CircuitData) → c ≡ with_devices old first → HasRoomForInverters c (map complement_net named) × (length c.devices + 2 * length named ≤ most_devices)
  complements_fit = complements_have_room old pins sinks starts plans lc bare whole few first first_ends few_first read

  pub latches_fit : (c d : CircuitData) → c ≡ with_devices old first → d ≡ with_devices c opposite → length starts ≤ 8192
      → All (IsBeforeLatch 0) d.nets × (length d.devices + 9 * length starts ≤ most_devices)
  latches_fit =
      let gates = gates_before pins lc plans (omega (arith, few)) (omega (arith, are.few)) (recursion_from_All IsPin pins bare.pins_are) are.earlier in
      latches_have_room old pins sinks starts plans lc bare whole few first first_ends few_first read
      (λ h ck. cells_named (IsBeforeLatch 0) h ck style names 0 plans gates)

  pub sinks_fit : (c d e : CircuitData) → c ≡ with_devices old first → d ≡ with_devices c opposite → e ≡ with_devices d (latches_from 0 starts) → length starts ≤ 8192 → length sinks ≤ 8192
      → HasRoomForInverters e sinks × (length e.devices + 2 * length sinks ≤ most_devices)
  sinks_fit c d e one two three few_starts few_sinks = (
    sinks_have_room old pins sinks starts plans lc bare whole few first first_ends few_first read c d e one two three few_starts,
    omega (arith, few_before_sinks old pins sinks starts plans lc bare whole few first first_ends few_first read c d e one two three few_starts, few_sinks),
  )

  -- all groups are the devices of the deck
  pub deck_made : (c d e f : CircuitData) (cells : List ℕ) → c ≡ with_devices old first → d ≡ with_devices c opposite → e ≡ with_devices d (latches_from 0 starts)
      → f ≡ with_devices e (inverters (map (sink_gate pins) (map (end_in cells) ends)) sinks) → f ≡ with_devices old (made_devices style pins sinks starts plans ends cells)
  deck_made c d e f cells one two three four =
      let latches = latches_from 0 starts in
      let last = inverters (map (sink_gate pins) (map (end_in cells) ends)) sinks in
      two_parts old e f (first ++ opposite ++ latches) last (two_parts old d e (first ++ opposite) latches (two_parts old c d first opposite one two) three) four
      ∙ ap (λ n. with_devices old (cells_from style (gate_nets pins n (2 * n + length plans)) 0 plans
      ++ inverters (map (own_net pins) (named_leaves plans ends n)) (map complement_net (named_leaves plans ends n)) ++ latches ++ last)) (sym lc_is)
