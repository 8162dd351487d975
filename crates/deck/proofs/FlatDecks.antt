-- The text of one subcircuit without calls is a deck.
use Rattle.std.proofs.Common.{◌≡◌, ℕ, ◌≤◌, ◌+◌, false, max, not, nat_eq, List, [], ◌∷◌, ◌++◌, map, filter, length, fold, codes, refl, sym, ap, ◌∙◌, arith, append-nil, All}
use Rattle.std.specs.List.{AllZip, IsDistinct, flat_map}
use Rattle.std.specs.Cmp.Lexicographic.{pointwise}
use Rattle.std.proofs.lemmas.List.Elements.{All-nil, All-from_recursion}
use Rattle.dom_base.specs.Lines.{is_control}
use Rattle.dom_base.proofs.Lists.{AllByRecursion-every, AllByRecursion-map}
use Rattle.deck.specs.CircuitData.{CircuitData}
use Rattle.deck.specs.DeckText.{BeginsACard, HasNoEquals, IsCallOver, IsDeckOf, IsDeviceCard, IsPartCard, bare_circuit, deck_card_lines, deck_cards, deck_phases, is_skipped}
use Rattle.deck.specs.Limits.{most_devices, most_ports}
use Rattle.deck.specs.NamedDevices.{NamedDevice, with_devices}
use Rattle.deck.specs.Subckts.{Expansion, Single, Size, Subckt, part_count, part_depth, part_devices, size}

-- devices alone stand for themselves
pub singles_expand : (above : List Expansion) (ds : List (NamedDevice (List ℕ))) → flat_map (part_devices above) (map Single ds) ≡ ds
singles_expand above [] = refl
singles_expand above (d ∷ ds) = ap (λ l. d ∷ l) (singles_expand above ds)

-- devices counted from any number on
pub singles_count : (above : List Size) (n : ℕ) (ds : List (NamedDevice (List ℕ))) → fold (λ a p. a + part_count above p) n (map Single ds) ≡ n + length ds
singles_count above n [] = omega arith
singles_count above n (d ∷ ds) = singles_count above (n + 1) ds ∙ omega arith

pub singles_depth : (above : List Size) (ds : List (NamedDevice (List ℕ))) → fold max 0 (map (part_depth above) (map Single ds)) ≡ 0
singles_depth above [] = refl
singles_depth above (d ∷ ds) = singles_depth above ds

-- cards of devices are cards of parts
pub singles_are : (cards : List (List (List ℕ))) (ds : List (NamedDevice (List ℕ))) → AllZip IsDeviceCard cards ds → AllZip IsPartCard cards (map Single ds)
singles_are [] [] h = tt
singles_are [] (d ∷ ds) h = absurd h
singles_are (card ∷ cards) [] h = absurd h
singles_are (card ∷ cards) (d ∷ ds) h = (h.0, singles_are cards ds h.1)

-- the text is that of one subcircuit without calls, and the circuit is its circuit
pub record IsFlatDeck (text : List ℕ) (circuit : CircuitData) : Type 0 where
  pub name : List ℕ
  pub ports : List (List ℕ)
  pub device_cards : List (List (List ℕ))
  pub devices : List (NamedDevice (List ℕ))
  -- the words behind `.ends`
  pub closing : List (List ℕ)
  pub begins : BeginsACard (deck_card_lines text)
  pub visible : All (All (All (λ b. is_control b ≡ false))) (deck_cards text)
  pub order : filter (λ card. not (is_skipped card)) (deck_cards text)
      ≡ (codes ".subckt" ∷ name ∷ ports) ∷ device_cards ++ (codes ".ends" ∷ closing) ∷ []
  pub few_closing : length closing ≤ 1
  pub no_equals : All HasNoEquals (name ∷ ports)
  pub ports_differ : IsDistinct (pointwise nat_eq) ports
  pub few_ports : length ports ≤ most_ports
  pub few_devices : length devices ≤ most_devices
  pub cards_are : AllZip IsDeviceCard device_cards devices
  pub circuit_is : circuit ≡ with_devices (bare_circuit name (deck_phases text) ports) devices

abbrev only_subckt : {text : List ℕ} {c : CircuitData} → IsFlatDeck text c → Subckt
only_subckt h = record { name = h.name; ports = h.ports; parts = map Single h.devices }

pub flat_is_deck : (text : List ℕ) (c : CircuitData) → IsFlatDeck text c → IsDeckOf text c
flat_is_deck text c h =
    let cards = (codes ".subckt" ∷ h.name ∷ h.ports) ∷ h.device_cards ++ (codes ".ends" ∷ h.closing) ∷ [] in
    let count : (size [] (only_subckt h)).devices ≡ length h.devices = singles_count [] 0 h.devices ∙ omega arith in
    let depth : (size [] (only_subckt h)).depth ≡ 0 = singles_depth [] h.devices in
    record {
      last = only_subckt h;
      above = [];
      groups = cards ∷ [];
      begins = h.begins;
      visible = h.visible;
      order = h.order ∙ sym (append-nil cards);
      groups_are = (
        record {
          part_cards = h.device_cards;
          closing = h.closing;
          cards_are = refl;
          parts_are = singles_are h.device_cards h.devices h.cards_are;
          few_closing = h.few_closing;
        },
        tt,
      );
      sound = (
        record {
          new_name = All-nil _;
          no_equals = h.no_equals;
          ports_differ = h.ports_differ;
          few_ports = h.few_ports;
          calls = All-from_recursion (IsCallOver []) (map Single h.devices)
              (AllByRecursion-map (IsCallOver []) Single h.devices (AllByRecursion-every (λ d. IsCallOver [] (Single d)) (λ d. tt) h.devices));
          few_devices = omega (arith, count, h.few_devices);
          shallow = omega (arith, depth);
        },
        tt,
      );
      circuit_is = h.circuit_is ∙ ap (with_devices (bare_circuit h.name (deck_phases text) h.ports)) (sym (singles_expand [] h.devices));
    }
