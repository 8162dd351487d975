-- The text of a circuit to which devices were appended, by the names of the devices' nets.
use Rattle.std.proofs.Common.{◌≡◌, ℕ, ◌+◌, ◌≤◌, List, [], ◌∷◌, ◌++◌, map, length, take, All, nat_eq, refl, sym, ap, ◌∙◌, subst, arith}
use Rattle.std.specs.Prelude.{codes}
use Rattle.std.specs.Fmt.{decimal}
use Rattle.std.specs.List.{AllByRecursion, IsDistinct, flat_map, enumerate_from}
use Rattle.std.specs.Cmp.Lexicographic.{pointwise}
use Rattle.std.proofs.lemmas.List.{take_at}
use Rattle.std.proofs.lemmas.List.Elements.{All-from_recursion}
use Rattle.std.proofs.lemmas.Option.{get_or_from_slice_get}
use Rattle.dom_base.specs.Names.{IsNetName}
use Rattle.dom_base.proofs.Lists.{AllByRecursion-append, AllByRecursion-take}
use Rattle.dom_base.proofs.Names.{IsNetName-from_test}
use Rattle.deck.specs.CircuitData.{CircuitData}
use Rattle.deck.specs.DeckText.{model_word}
use Rattle.deck.specs.Limits.{most_devices, most_pins_and_outputs}
use Rattle.deck.specs.NamedDevices.{NamedDevice, with_devices}
use Rattle.deck.specs.Nets.{IsCircuit, net_number}
use Rattle.deck.specs.NumberedDevices.{IsNumberedDevice, numbered_device}
use Rattle.deck.specs.Ports.{IsOutput, IsPin, clock_ports, latch_ports, leading_ports}
use Rattle.deck.specs.Pushes.{new_circuit}
use Rattle.deck.specs.Whole.{IsWhole}
use Rattle.deck.specs.declared.phase.Phase.{Phase}
use Rattle.deck.proofs.CircuitGrowth.{with_devices-devices, with_devices-grew, with_devices-numbered}
use Rattle.deck.proofs.DeckNames.{HasPlainNets, with_devices-plain}
use Rattle.deck.proofs.DeviceNumbers.{IsCircuit-with_devices}
use Rattle.deck.proofs.PortLayout.{length-ports, ports_differ}
use Rattle.spice_text.specs.Parts.{ArePortGroups, IsSubckt}
use Rattle.spice_text.specs.Text.{IsWritten, bulk_of, deck_line, device_card, device_cards, phase_line}
use Rattle.spice_text.proofs.Whole.{subckt-cut, text-whole}
use Rattle.plan_text.specs.CardTexts.{named_card, named_cards}
use Rattle.plan_text.specs.DeckTexts.{deck_head, named_deck_text}

-- the card of a device by the numbers of its nets
numbered_card : (nets : List (List ℕ)) (n : ℕ) (d : NamedDevice (List ℕ)) → IsNumberedDevice nets d → device_card nets (n, numbered_device nets d) ≡ named_card (n, d)
numbered_card nets n d at =
    let drain = get_or_from_slice_get nets (net_number nets d.drain) d.drain [] at.0 in
    let gate = get_or_from_slice_get nets (net_number nets d.gate) d.gate [] at.1 in
    let source = get_or_from_slice_get nets (net_number nets d.source) d.source [] at.2 in
    λ i. deck_line (codes "m" ++ decimal n) (drain i ∷ gate i ∷ source i ∷ bulk_of d.kind ∷ model_word d.kind ∷ [])

numbered_cards : (nets : List (List ℕ)) (n : ℕ) (ds : List (NamedDevice (List ℕ))) → AllByRecursion (IsNumberedDevice nets) ds
    → flat_map (device_card nets) (enumerate_from n (map (numbered_device nets) ds)) ≡ named_cards n ds
numbered_cards nets n [] at = refl
numbered_cards nets n (d ∷ ds) at =
    let first = numbered_card nets n d at.0 in
    let rest = numbered_cards nets (n + 1) ds at.1 in
    λ i. first i ++ rest i

-- the cards of a circuit to which devices were appended are those of the devices by names
pub cards_by_names : (c : CircuitData) (ds : List (NamedDevice (List ℕ))) → c.devices ≡ []
    → device_cards (with_devices c ds).nets (with_devices c ds).devices ≡ named_cards 0 ds
cards_by_names c ds empty =
    let nets = (with_devices c ds).nets in
    ap (device_cards nets) (with_devices-devices c ds ∙ ap (λ l. l ++ map (numbered_device nets) ds) empty)
    ∙ numbered_cards nets 0 ds (with_devices-numbered c ds)

clocks_plain : AllByRecursion IsNetName clock_ports
clocks_plain = (IsNetName-from_test (codes "ck1") refl, (IsNetName-from_test (codes "ck2") refl, (IsNetName-from_test (codes "ck3") refl, (IsNetName-from_test (codes "ck4") refl, tt))))

latches_plain : AllByRecursion IsNetName latch_ports
latches_plain = (
  IsNetName-from_test (codes "lm") refl,
  (IsNetName-from_test (codes "lmb") refl, (IsNetName-from_test (codes "ls") refl, (IsNetName-from_test (codes "lsb") refl, (IsNetName-from_test (codes "rs") refl, (IsNetName-from_test (codes "rsb") refl, tt))))),
)

-- the ports before the first pin are names of nets
leading_plain : (clocks : ℕ) → AllByRecursion IsNetName (leading_ports clocks)
leading_plain clocks = (
  IsNetName-from_test (codes "vdd") refl,
  (IsNetName-from_test (codes "vss") refl, AllByRecursion-append IsNetName (take clocks clock_ports) latch_ports (AllByRecursion-take IsNetName clocks clock_ports clocks_plain) latches_plain),
)

module _ (name : List ℕ) (phases : List Phase) (clocks : ℕ) (pins outs : List (List ℕ)) (devices : List (NamedDevice (List ℕ)))
    (few_clocks : clocks ≤ 4) (pins_are : All IsPin pins) (outs_are : All IsOutput outs) where
  abbrev bare : CircuitData
  bare = new_circuit name phases clocks pins outs

  abbrev full : CircuitData
  full = with_devices bare devices

  abbrev ports : List (List ℕ)
  ports = leading_ports clocks ++ pins ++ outs

  ports_stay : take full.ports full.nets ≡ ports
  ports_stay =
      let grew = with_devices-grew bare devices in
      ap (λ (n : ℕ). take n full.nets) grew.ports ∙ ap (take (length ports)) grew.nets ∙ take_at ports grew.more_nets (length ports) refl

  -- its ports
  pub port_groups : 1 ≤ clocks → ArePortGroups (take full.ports full.nets) (leading_ports clocks) pins outs
  port_groups some = record {
    clocks = clocks;
    leading_are = refl;
    roles = record { some_clock = some; few_clocks = few_clocks; pins_are = pins_are; outs_are = outs_are; order = ports_stay };
  }

  -- the text of the circuit
  pub written_by_names : 1 ≤ clocks → IsWritten full (named_deck_text name phases clocks pins outs devices)
  written_by_names some =
      let grew = with_devices-grew bare devices in
      let before : List ℕ = codes "* domsyn deck 1" ++ 10 ∷ [] ++ flat_map phase_line phases in
      let middle : List ℕ = deck_head name phases clocks pins outs in
      let part : IsSubckt before full.name (take full.ports full.nets) middle =
      subst (λ (n : List ℕ). IsSubckt before n (take full.ports full.nets) middle) (sym grew.name)
      (subckt-cut before name middle (take full.ports full.nets) (leading_ports clocks) pins outs (port_groups some) refl) in
      let cards = cards_by_names bare devices refl in
      text-whole full before middle (named_deck_text name phases clocks pins outs devices)
      (ap (λ (l : List Phase). codes "* domsyn deck 1" ++ 10 ∷ [] ++ flat_map phase_line l) (sym grew.phases)) part
      (λ i. middle ++ sym cards i ++ deck_line (codes ".ends") (sym grew.name i ∷ []))

  -- and the circuit is whole
  pub whole_by_names : IsDistinct (pointwise nat_eq) (pins ++ outs) → length pins + length outs ≤ most_pins_and_outputs → length devices ≤ most_devices
      → IsNetName name → All (λ (p : Phase). IsNetName p.net) phases → AllByRecursion IsNetName pins → AllByRecursion IsNetName outs
      → AllByRecursion HasPlainNets devices → IsWhole full
  whole_by_names apart few_ports few_devices name_is phases_plain pins_plain outs_plain plain =
      let grew = with_devices-grew bare devices in
      let start : IsCircuit (length ports) ports [] = record {
        few_ports = omega (arith, length-ports clocks pins outs few_clocks, few_ports);
        few_devices = omega arith;
        distinct = ports_differ clocks pins outs few_clocks pins_are outs_are apart;
        in_order = tt;
        all_used = refl;
      } in
      let ports_plain : AllByRecursion IsNetName ports =
      AllByRecursion-append IsNetName (leading_ports clocks ++ pins) outs (AllByRecursion-append IsNetName (leading_ports clocks) pins (leading_plain clocks) pins_plain) outs_plain in
      record {
        numbered = IsCircuit-with_devices bare devices start (omega (arith, few_devices));
        names = record {
          name_is = subst IsNetName (sym grew.name) name_is;
          nets_are = All-from_recursion IsNetName full.nets (with_devices-plain bare devices ports_plain plain);
          phases_are = subst (λ (l : List Phase). All (λ (p : Phase). IsNetName p.net) l) (sym grew.phases) phases_plain;
        };
      }
