-- A planned deck meets what the text by cells asks for.
use Rattle.std.proofs.Common.{◌≡◌, ◌≢◌, ℕ, zero, suc, ◌+◌, ◌<◌, ◌≤◌, ◌/◌, ◌%◌, ◌^◌, Bool, true, false, if◌then◌else◌, nat_eq, nat_lt, List}
use Rattle.std.proofs.Common.{[], ◌∷◌, ◌++◌, map, length, take, zip, slice_index_or, codes, refl, sym, ap, ◌∙◌, subst, arith, All}
use Rattle.std.specs.Prelude.{flat_map}
use Rattle.std.specs.List.{AllByRecursion, enumerate_from, range_with_len, starts_with}
use Rattle.std.specs.Cmp.Lexicographic.{bytes_decides}
use Rattle.std.specs.Fmt.{decimal}
use Rattle.std.proofs.lemmas.List.{length-map}
use Rattle.std.proofs.lemmas.List.Elements.{All-nil, All-cons, All-append, All-from_recursion, All-take, recursion_from_All}
use Rattle.dom_base.proofs.Lists.{AllByRecursion-append, AllByRecursion-weaker}
use Rattle.deck.specs.declared.device.Device.{Device}
use Rattle.deck.specs.CircuitData.{CircuitData}
use Rattle.deck.specs.CircuitGrowth.{Grew}
use Rattle.deck.specs.DeckText.{HasNoEquals}
use Rattle.deck.specs.Escapes.{escaped, escaped_byte, hexadecimal_digit, is_plain}
use Rattle.deck.specs.NamedDevices.{NamedDevice, with_devices}
use Rattle.deck.specs.NumberedDevices.{numbered_device}
use Rattle.deck.specs.Ports.{leading_ports}
use Rattle.deck.specs.Pushes.{new_circuit}
use Rattle.deck.proofs.CircuitGrowth.{with_devices-devices, with_devices-grew}
use Rattle.spice_text.specs.Cells.{HasCells, PlacesRise, group_cell, groups_from}
use Rattle.deck_law.proofs.GoodDecks.{leading_good, out_good, pin_good, ports_good}
use Rattle.network.specs.NetworkData.{NetworkData}
use Rattle.deck_form.specs.ChosenDecks.{end_at_cell, IsPlannedDeck}
use Rattle.deck_form.specs.DeckNets.{SinkEnd, data_net, named_complement, named_latch, named_sink, sink_nets, named_cell, named_devices}
use Rattle.deck_form.specs.DeckOptions.{DeckOptions}
use Rattle.deck_form.specs.DominoDecks.{cells_of, complements_of, outs_of, phases_of_sinks, pins_of, signal_name, starts_of}
use Rattle.deck_form.proofs.DeckGroups.{groups_are_cards}
use Rattle.deck_form.proofs.SmallTrees.{trees_are_small}
use Rattle.deck_law.proofs.RightDecks.{planned_good}
use Rattle.deck_form.specs.DeckGroups.{card_groups, ends_from, group_places}
use Rattle.cell_decks.proofs.GroupPlaces.{IsSmallGroup, cell_nets_few, ends_rise, groups_short, groups_small}
use Rattle.cell_decks.proofs.PlainNames.{HasGoodNets, cells_good, complements_good, decimal_good, devices_good, latches_good, sinks_good}
use Rattle.deck.proofs.WordTests.{no_equals_by_test}

-- an escape has no `-`
plain_no_dash : (b : ℕ) → is_plain b ≡ true → b ≢ 45
plain_no_dash b h e = let never : is_plain 45 ≡ true = subst (λ n. is_plain n ≡ true) e h in cc

digit_no_dash : (n : ℕ) → hexadecimal_digit n ≢ 45
digit_no_dash n = by (nat_lt n 10) refl
  where
    by : (t : Bool) → nat_lt n 10 ≡ t → (if t then 48 + n else 87 + n) ≢ 45
    by true lt = λ e. omega (arith, e)
    by false ge = λ e. omega (arith, e)

byte_no_dash : (b : ℕ) → All (λ c. c ≢ 45) (escaped_byte b)
byte_no_dash b = by (is_plain b) refl
  where
    by : (t : Bool) → is_plain b ≡ t → All (λ c. c ≢ 45) (if t then b ∷ [] else 95 ∷ hexadecimal_digit (b / 16) ∷ hexadecimal_digit
        (b % 16) ∷ [])
    by true h = All-cons (λ c. c ≢ 45) b [] (plain_no_dash b h) (All-nil (λ c. c ≢ 45))
    by false h =
        All-cons (λ c. c ≢ 45) 95 (hexadecimal_digit (b / 16) ∷ hexadecimal_digit (b % 16) ∷ []) (λ e. omega (arith, e))
        (All-cons (λ c. c ≢ 45) (hexadecimal_digit (b / 16)) (hexadecimal_digit (b % 16) ∷ []) (digit_no_dash (b / 16))
        (All-cons (λ c. c ≢ 45) (hexadecimal_digit (b % 16)) [] (digit_no_dash (b % 16)) (All-nil (λ c. c ≢ 45))))

no_dash : (name : List ℕ) → All (λ c. c ≢ 45) (escaped name)
no_dash [] = All-nil (λ c. c ≢ 45)
no_dash (b ∷ name) = All-append (λ c. c ≢ 45) (escaped_byte b) (escaped name) (byte_no_dash b) (no_dash name)

-- so no cell has the name of a deck
other_name : (name : List ℕ) → starts_with nat_eq (escaped name) (codes "cell-") ≡ false
other_name name = by (starts_with nat_eq (escaped name) (codes "cell-")) refl
  where
    by : (b : Bool) → starts_with nat_eq (escaped name) (codes "cell-") ≡ b → starts_with nat_eq (escaped name) (codes "cell-") ≡ false
    by true e =
        let same : codes "cell-" ≡ take 5 (escaped name) = (bytes_decides (codes "cell-") (take 5 (escaped name))).0 e in
        let all : All (λ c. c ≢ 45) (codes "cell-") = subst (All (λ c. c ≢ 45)) (sym same)
        (All-take (λ c. c ≢ 45) 5 (escaped name) (no_dash name)) in
        absurd (all 4 0 (omega arith) refl)
    by false e = e

-- what holds of all names holds of one by its place
at_place : (names : List (List ℕ)) → AllByRecursion HasNoEquals names → (i : ℕ) → HasNoEquals (slice_index_or names i [])
at_place [] h i = All-nil (λ b. b ≢ 61)
at_place (name ∷ names) h zero = h.0
at_place (name ∷ names) h (suc i) = at_place names h.1 i

datas_good : (ps : List (ℕ × Bool)) → AllByRecursion HasNoEquals (map (λ p. data_net p.0) ps)
datas_good [] = tt
datas_good (p ∷ ps) = (
  All-append (λ b. b ≢ 61) (codes "x") (decimal p.0) (no_equals_by_test (codes "x") refl) (decimal_good p.0),
  datas_good ps,
)

zipped : {Y : Type 0} (P : List ℕ → Type 0) (xs : List (List ℕ)) (ys : List Y) → AllByRecursion P xs
    → AllByRecursion (λ (p : List ℕ × Y). P p.0) (zip xs ys)
zipped P [] ys h = tt
zipped P (x ∷ xs) [] h = tt
zipped P (x ∷ xs) (y ∷ ys) h = (h.0, zipped P xs ys h.1)

module _ (network : NetworkData) (options : DeckOptions) (circuit : CircuitData) (is : IsPlannedDeck network options circuit)
    (wide : options.width ≤ 8) (high : options.height ≤ 6) (few : options.phases ≤ 4) where
  abbrev pins : List (List ℕ)
  pins = pins_of network

  abbrev outs : List (List ℕ)
  outs = outs_of network

  abbrev ends : List SinkEnd
  ends = map (end_at_cell is.kept) is.forest.ends

  abbrev complements : List ℕ
  complements = complements_of network (cells_of options.phases is.levels is.trees) ends

  abbrev groups : List (List (NamedDevice (List ℕ)))
  groups = card_groups options.style pins outs (starts_of network) (cells_of options.phases is.levels is.trees) complements ends

  abbrev cards : List (NamedDevice (List ℕ))
  cards = named_devices options.style pins outs (starts_of network) (cells_of options.phases is.levels is.trees) complements ends

  abbrev bare : CircuitData
  bare = new_circuit (escaped network.name) (phases_of_sinks network is.signs) options.phases pins outs

  grew : Grew bare circuit
  grew = subst (Grew bare) (sym is.circuit_is) (with_devices-grew bare cards)

  device_count : length circuit.devices ≡ length cards
  device_count =
      ap (λ (c : CircuitData). length c.devices) is.circuit_is
      ∙ ap length (with_devices-devices bare cards) ∙ length-map cards (numbered_device (with_devices bare cards).nets)

  small : AllByRecursion IsSmallGroup groups
  small = groups_small options.style pins outs (starts_of network) options.phases is.levels is.trees complements ends
      (trees_are_small options.width options.height is.trees wide high (is.is_plan).within)

  pins_good : AllByRecursion HasNoEquals pins
  pins_good = recursion_from_All HasNoEquals pins (ports_good (codes "i_") (signal_name network) (range_with_len 0 network.inputs) pin_good)

  outs_good : AllByRecursion HasNoEquals outs
  outs_good = recursion_from_All HasNoEquals outs (ports_good (codes "o_") (signal_name network) network.outputs out_good)

  nets_good : AllByRecursion HasNoEquals circuit.nets
  nets_good =
      let at = at_place pins pins_good in
      let leaf_count : ℕ = length pins + length (starts_of network) in
      let of_cells = flat_map (named_cell options.style pins leaf_count) (enumerate_from 0 (cells_of options.phases is.levels is.trees)) in
      let of_complements = flat_map (named_complement pins) complements in
      let of_latches = flat_map named_latch (enumerate_from 0 (starts_of network)) in
      let sinks = sink_nets outs (starts_of network) in
      let sinks_are : AllByRecursion HasNoEquals sinks = AllByRecursion-append HasNoEquals outs
      (map (λ p. data_net p.0) (enumerate_from 0 (starts_of network))) outs_good (datas_good (enumerate_from 0 (starts_of network))) in
      let all : AllByRecursion HasGoodNets cards =
      AllByRecursion-append HasGoodNets (of_cells ++ of_complements ++ of_latches) (flat_map (named_sink pins) (zip sinks ends))
      (AllByRecursion-append HasGoodNets (of_cells ++ of_complements) of_latches
      (AllByRecursion-append HasGoodNets of_cells of_complements
      (cells_good pins at options.style leaf_count (enumerate_from 0 (cells_of options.phases is.levels is.trees)))
      (complements_good pins at complements))
      (latches_good (enumerate_from 0 (starts_of network))))
      (sinks_good pins at (zip sinks ends) (zipped HasNoEquals sinks ends sinks_are)) in
      let ports : AllByRecursion HasNoEquals bare.nets =
      AllByRecursion-append HasNoEquals (leading_ports options.phases ++ pins) outs
      (AllByRecursion-append HasNoEquals (leading_ports options.phases) pins
      (recursion_from_All HasNoEquals (leading_ports options.phases) (leading_good options.phases few)) pins_good) outs_good in
      subst (λ (c : CircuitData). AllByRecursion HasNoEquals c.nets) (sym is.circuit_is) (devices_good bare cards ports all)

  pub has_cells : HasCells circuit (group_places is)
  has_cells = record {
    good = planned_good network options circuit is few;
    no_equals = All-from_recursion HasNoEquals circuit.nets nets_good;
    two_ports = omega (arith, grew.ports);
    supplies_first = ap (take 2) grew.nets;
    other_name = ap (λ n. starts_with nat_eq n (codes "cell-")) grew.name ∙ other_name network.name;
    rises = subst (PlacesRise 0 (ends_from 0 groups)) (ap (λ (l : List (NamedDevice (List ℕ))). 0 + length l)
        (groups_are_cards options.style pins outs (starts_of network) (cells_of options.phases is.levels is.trees) complements ends)
        ∙ zero_plus ∙ sym device_count)
        (ends_rise 0 groups (AllByRecursion-weaker IsSmallGroup (λ (group : List (NamedDevice (List ℕ))). 0 < length group) (λ group s. s.0)
        groups small));
    few_nets = All-from_recursion (λ group. length (group_cell circuit.nets group).nets ≤ 2 ^ 20)
        (groups_from 0 (ends_from 0 groups) circuit.devices)
        (AllByRecursion-weaker (λ (group : List Device). length group ≤ 200) (λ group. length (group_cell circuit.nets group).nets ≤ 2 ^ 20)
        (λ group le. cell_nets_few circuit.nets group le)
        (groups_from 0 (ends_from 0 groups) circuit.devices)
        (groups_short 200 0 groups circuit.devices (AllByRecursion-weaker IsSmallGroup
        (λ (group : List (NamedDevice (List ℕ))). length group ≤ 200) (λ group s. s.1) groups small)));
  }
    where
      zero_plus : 0 + length cards ≡ length cards
      zero_plus = omega arith
