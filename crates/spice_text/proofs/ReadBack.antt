-- The text of a circuit is a deck, and its circuit is that one.
use Rattle.std.proofs.Common.{◌≡◌, ℕ, ◌≤◌, Bool, true, false, not, nat_eq, List, [], ◌∷◌, ◌++◌, map, filter, length, take, codes, refl, ap, sym, ◌∙◌, subst, arith, append-nil, append_assoc, Some, None, All, ◌⊎◌, inl, inr}
use Rattle.std.specs.Cmp.Lexicographic.{pointwise}
use Rattle.std.specs.List.{AllByRecursion, flat_map, filter_map}
use Rattle.std.proofs.lemmas.List.{take_all, length-take-le, length-map}
use Rattle.std.proofs.lemmas.List.Elements.{All-take, All-cons, All-weaker, All-from_recursion, recursion_from_All, filter_map-append}
use Rattle.dom_base.specs.Lines.{is_control}
use Rattle.dom_base.specs.Names.{IsNetName}
use Rattle.dom_base.proofs.Lists.{AllByRecursion-append, AllByRecursion-left, AllByRecursion-right, AllByRecursion-groups, AllByRecursion-every, AllByRecursion-map, filter_all, filter_map-none}
use Rattle.dom_base.proofs.Names.{IsNetName-from_test, no_control-name, no_control_in-name}
use Rattle.deck.specs.declared.device.Device.{Device}
use Rattle.deck.specs.declared.phase.Phase.{Phase}
use Rattle.deck.specs.CircuitData.{CircuitData}
use Rattle.deck.specs.DeckText.{deck_cards, deck_phases, deck_card_lines, cards_of, is_skipped, phase_of, bare_circuit, BeginsACard, HasNoEquals, IsDeckOf, IsGoodCircuit, HasNetNames}
use Rattle.deck.specs.NamedDevices.{with_devices, named_device}
use Rattle.deck.specs.Nets.{ends, numbers_used, IsCircuit}
use Rattle.deck.specs.Ports.{leading_ports, HasRoles, HasSomeRoles}
use Rattle.deck.proofs.DeckCircuits.{IsDeckOf-circuit, IsDeckOf-good}
use Rattle.deck.proofs.DeckNames.{IsDeckOf-names}
use Rattle.deck.proofs.FlatDecks.{IsFlatDeck, flat_is_deck}
use Rattle.spice_text.specs.Text.{sign_of, eights, text_with, IsWritten}
use Rattle.spice_text.proofs.DeviceRows.{all_cards, cards_plain, cards_are}
use Rattle.deck.proofs.DeviceNumbers.{numbers_used-ge, devices_in_range, with_devices-named}
use Rattle.deck.proofs.NetNumbers.{IsDistinct-take}
use Rattle.spice_text.proofs.ReadRows.{row_line, text_of_rows, IsPlainRow, IsNoEnd, IsComment, IsOfCard, Begins, plus_rows, deck_phases-rows, card_lines-rows, cards_of-rows}
use Rattle.deck.proofs.PortDecisions.{has_roles}
use Rattle.spice_text.proofs.WrittenRows.{header_row, phase_row, opening_row, card_row, card_rows, ending_row, comment_rows, rows_behind, rows_of_cards, text_with-rows, eights-groups}

-- a row without control bytes
pub plain_visible : (row : List (List ℕ)) → IsPlainRow row → All (All (λ b. is_control b ≡ false)) row
plain_visible [] h = absurd h
plain_visible (first ∷ others) h =
    All-weaker IsNetName (All (λ b. is_control b ≡ false)) no_control-name (first ∷ others) (All-from_recursion IsNetName (first ∷ others) h)

-- rows that are no phase
pub no_phase : (first : List ℕ) (others : List (List ℕ)) → pointwise nat_eq first (codes "*") ≡ false → phase_of (first ∷ others) ≡ None
no_phase first [] h = refl
no_phase first (a ∷ []) h = refl
no_phase first (a ∷ b ∷ []) h = refl
no_phase first (a ∷ b ∷ c ∷ []) h = rw h refl
no_phase first (a ∷ b ∷ c ∷ d ∷ more) h = refl

-- a row that gives a phase
one_phase : (net : List ℕ) (plus : Bool) → IsNetName net → phase_of (codes "*" ∷ codes "phase" ∷ net ∷ sign_of plus ∷ []) ≡ Some (record { net = net; plus = plus })
one_phase net true h = rw (no_control_in-name net h) refl
one_phase net false h = rw (no_control_in-name net h) refl

pub phases-rows : (phases : List Phase) → AllByRecursion (λ phase. IsNetName phase.net) phases → filter_map phase_of (map phase_row phases) ≡ phases
phases-rows [] h = refl
phases-rows (phase ∷ phases) h = rw (one_phase phase.net phase.plus h.0) (ap (λ l. phase ∷ l) (phases-rows phases h.1))

sign_plain : (plus : Bool) → IsNetName (sign_of plus)
sign_plain true = IsNetName-from_test (codes "+") refl
sign_plain false = IsNetName-from_test (codes "-") refl

pub phases_plain : (phases : List Phase) → AllByRecursion (λ phase. IsNetName phase.net) phases → AllByRecursion IsPlainRow (map phase_row phases)
phases_plain [] h = tt
phases_plain (phase ∷ phases) h =
    ((IsNetName-from_test (codes "*") refl, (IsNetName-from_test (codes "phase") refl, (h.0, (sign_plain phase.plus, tt)))), phases_plain phases h.1)

pub plus_plain : (groups : List (List (List ℕ))) → AllByRecursion (AllByRecursion IsNetName) groups → AllByRecursion IsPlainRow (plus_rows groups)
plus_plain [] h = tt
plus_plain (group ∷ groups) h = ((IsNetName-from_test (codes "+") refl, h.0), plus_plain groups h.1)

header_plain : IsPlainRow header_row
header_plain =
    (IsNetName-from_test (codes "*") refl, (IsNetName-from_test (codes "domsyn") refl, (IsNetName-from_test (codes "deck") refl, (IsNetName-from_test (codes "1") refl, tt))))

-- a fact of each row behind the first card
all_behind : (P : List (List ℕ) → Type 0) (c : CircuitData) → ((n : ℕ) (d : Device) → P (card_row c.nets (n, d))) → P (ending_row c.name) → AllByRecursion P (rows_behind c)
all_behind P c f e = AllByRecursion-append P (card_rows c.nets c.devices) (ending_row c.name ∷ []) (all_cards P c.nets f 0 c.devices) (e, tt)

-- a fact of each row of the cards
all_of_cards : (P : List (List ℕ) → Type 0) (c : CircuitData) (leading : List (List ℕ)) (groups : List (List (List ℕ)))
    → P (opening_row c.name leading) → ((group : List (List ℕ)) → P (codes "+" ∷ group)) → AllByRecursion P (rows_behind c)
    → AllByRecursion P (rows_of_cards c leading groups)
all_of_cards P c leading groups o g b =
    (o, AllByRecursion-append P (plus_rows (flat_map eights groups)) (rows_behind c) (AllByRecursion-map P (λ group. codes "+" ∷ group) (flat_map eights groups) (AllByRecursion-every (λ group. P (codes "+" ∷ group)) g (flat_map eights groups))) b)

-- what is known of a circuit that is written
pub record IsWritable (c : CircuitData) : Type 0 where
  pub is : IsCircuit c.ports c.nets c.devices
  pub names : HasNetNames c
  pub good : IsGoodCircuit c

-- the circuit of a deck can be written
pub IsDeckOf-writable : (text : List ℕ) (c : CircuitData) → IsDeckOf text c → IsWritable c
IsDeckOf-writable text c h = record { is = IsDeckOf-circuit text c h; names = IsDeckOf-names text c h; good = IsDeckOf-good text c h }

behind_plain : (c : CircuitData) → IsWritable c → AllByRecursion IsPlainRow (rows_behind c)
behind_plain c w =
    AllByRecursion-append IsPlainRow (card_rows c.nets c.devices) (ending_row c.name ∷ [])
    (cards_plain c.nets 0 c.devices w.names.nets_are (omega (arith, w.is.few_devices)) (devices_in_range (length c.nets) c.ports c.devices (omega (arith, w.is.all_used))))
    ((IsNetName-from_test (codes ".ends") refl, (w.names.name_is, tt)), tt)

-- the names of ports, as they are written
pub record AreWrittenPorts (c : CircuitData) (leading : List (List ℕ)) (groups : List (List (List ℕ))) : Type 0 where
  pub lead_plain : AllByRecursion IsNetName leading
  pub groups_plain : AllByRecursion (AllByRecursion IsNetName) (flat_map eights groups)
  pub are : leading ++ flat_map (λ group. group) (flat_map eights groups) ≡ take c.ports c.nets

pub written_ports : (c : CircuitData) → IsWritable c → (leading : List (List ℕ)) (groups : List (List (List ℕ)))
    → leading ++ flat_map (λ group. group) groups ≡ take c.ports c.nets → AreWrittenPorts c leading groups
written_ports c w leading groups e =
    let plain : AllByRecursion IsNetName (take c.ports c.nets) = recursion_from_All IsNetName (take c.ports c.nets) (All-take IsNetName c.ports c.nets w.names.nets_are) in
    let are : leading ++ flat_map (λ group. group) (flat_map eights groups) ≡ take c.ports c.nets = ap (λ l. leading ++ l) (eights-groups groups) ∙ e in
    let all : AllByRecursion IsNetName (leading ++ flat_map (λ group. group) (flat_map eights groups)) = subst (AllByRecursion IsNetName) (sym are) plain in
    record {
      lead_plain = AllByRecursion-left IsNetName leading (flat_map (λ group. group) (flat_map eights groups)) all;
      groups_plain = AllByRecursion-groups IsNetName (flat_map eights groups) (AllByRecursion-right IsNetName leading (flat_map (λ group. group) (flat_map eights groups)) all);
      are = are;
    }

pub opening_plain : (c : CircuitData) → IsWritable c → (ports : List (List ℕ)) → AllByRecursion IsNetName ports → IsPlainRow (opening_row c.name ports)
opening_plain c w ports h = (IsNetName-from_test (codes ".subckt") refl, (w.names.name_is, h))

-- what is known of all rows
record AreWrittenRows (c : CircuitData) (leading : List (List ℕ)) (groups : List (List (List ℕ))) : Type 0 where
  plain : AllByRecursion IsPlainRow (comment_rows c ++ rows_of_cards c leading groups)
  no_end : AllByRecursion IsNoEnd (comment_rows c ++ rows_of_cards c leading groups)
  comments : AllByRecursion IsComment (comment_rows c)
  of_cards : AllByRecursion IsOfCard (rows_of_cards c leading groups)

written_rows : (c : CircuitData) → IsWritable c → (leading : List (List ℕ)) (groups : List (List (List ℕ))) → AreWrittenPorts c leading groups → AreWrittenRows c leading groups
written_rows c w leading groups p = record {
  plain = AllByRecursion-append IsPlainRow (comment_rows c) (rows_of_cards c leading groups)
      (header_plain, phases_plain c.phases (recursion_from_All (λ phase. IsNetName phase.net) c.phases w.names.phases_are))
      (opening_plain c w leading p.lead_plain, AllByRecursion-append IsPlainRow (plus_rows (flat_map eights groups)) (rows_behind c) (plus_plain (flat_map eights groups) p.groups_plain) (behind_plain c w));
  no_end = AllByRecursion-append IsNoEnd (comment_rows c) (rows_of_cards c leading groups)
      (refl, AllByRecursion-map IsNoEnd phase_row c.phases (AllByRecursion-every (λ phase. IsNoEnd (phase_row phase)) (λ _. refl) c.phases))
      (all_of_cards IsNoEnd c leading groups refl (λ _. refl) (all_behind IsNoEnd c (λ _ _. refl) refl));
  comments = (refl, AllByRecursion-map IsComment phase_row c.phases (AllByRecursion-every (λ phase. IsComment (phase_row phase)) (λ _. refl) c.phases));
  of_cards = all_of_cards IsOfCard c leading groups refl (λ _. refl) (all_behind IsOfCard c (λ _ _. refl) refl);
}

-- the cards of the written text
written_cards : (c : CircuitData) → IsWritable c → (leading : List (List ℕ)) (groups : List (List (List ℕ))) (text : List ℕ)
    → AreWrittenPorts c leading groups → AreWrittenRows c leading groups → text ≡ text_of_rows (comment_rows c ++ rows_of_cards c leading groups)
    → deck_cards text ≡ opening_row c.name (take c.ports c.nets) ∷ rows_behind c
written_cards c w leading groups text p r e =
    ap deck_cards e
    ∙ ap cards_of (card_lines-rows (comment_rows c) (rows_of_cards c leading groups) r.plain r.no_end r.comments r.of_cards)
    ∙ cards_of-rows (opening_row c.name leading) (flat_map eights groups) (rows_behind c) (opening_plain c w leading p.lead_plain) refl p.groups_plain (behind_plain c w) (all_behind Begins c (λ _ _. refl) refl)
    ∙ ap (λ ports. opening_row c.name ports ∷ rows_behind c) p.are

-- the phases of the written text
written_phases : (c : CircuitData) → IsWritable c → (leading : List (List ℕ)) (groups : List (List (List ℕ))) (text : List ℕ)
    → AreWrittenRows c leading groups → text ≡ text_of_rows (comment_rows c ++ rows_of_cards c leading groups) → deck_phases text ≡ c.phases
written_phases c w leading groups text r e =
    let none : filter_map phase_of (rows_of_cards c leading groups) ≡ [] =
    filter_map-none phase_of (rows_of_cards c leading groups)
    (all_of_cards (λ row. phase_of row ≡ None) c leading groups
    (no_phase (codes ".subckt") (c.name ∷ leading) refl) (λ group. no_phase (codes "+") group refl)
    (all_behind (λ row. phase_of row ≡ None) c (λ _ _. refl) refl)) in
    ap deck_phases e
    ∙ deck_phases-rows (comment_rows c ++ rows_of_cards c leading groups) r.plain r.no_end
    ∙ filter_map-append phase_of (comment_rows c) (rows_of_cards c leading groups)
    ∙ ap (λ l. filter_map phase_of (comment_rows c) ++ l) none
    ∙ append-nil (filter_map phase_of (comment_rows c))
    ∙ phases-rows c.phases (recursion_from_All (λ phase. IsNetName phase.net) c.phases w.names.phases_are)

-- the line of the first card continues no card
written_begins : (c : CircuitData) (leading : List (List ℕ)) (groups : List (List (List ℕ))) (text : List ℕ)
    → AreWrittenRows c leading groups → text ≡ text_of_rows (comment_rows c ++ rows_of_cards c leading groups) → BeginsACard (deck_card_lines text)
written_begins c leading groups text r e =
    let same = ap deck_card_lines e ∙ card_lines-rows (comment_rows c) (rows_of_cards c leading groups) r.plain r.no_end r.comments r.of_cards in
    let first : BeginsACard (map row_line (rows_of_cards c leading groups)) = refl in
    subst BeginsACard (sym same) first

-- the circuit, from its name, its phases, its ports and its devices
pub same_circuit : (c : CircuitData) → IsCircuit c.ports c.nets c.devices → (phases : List Phase) → phases ≡ c.phases
    → c ≡ with_devices (bare_circuit c.name phases (take c.ports c.nets)) (map (named_device c.nets) c.devices)
same_circuit c is phases e =
    let within : c.ports ≤ length c.nets = omega (arith, is.all_used, numbers_used-ge c.ports (ends c.devices)) in
    let count : length (take c.ports c.nets) ≡ c.ports = length-take-le c.ports c.nets within in
    let all : take (numbers_used c.ports (ends c.devices)) c.nets ≡ c.nets = take_all (numbers_used c.ports (ends c.devices)) c.nets (omega (arith, is.all_used)) in
    let low = devices_in_range (length c.nets) c.ports c.devices (omega (arith, is.all_used)) in
    let bare : List Phase → ℕ → CircuitData = λ list n. record { name = c.name; phases = list; ports = n; nets = take c.ports c.nets; devices = [] } in
    sym (
    ap (λ (n : ℕ). with_devices (bare phases n) (map (named_device c.nets) c.devices)) count
    ∙ ap (λ l. with_devices (bare l c.ports) (map (named_device c.nets) c.devices)) e
    ∙ with_devices-named c c.ports [] c.devices is.distinct is.in_order low
    ∙ ap (λ l. record c { nets = l }) all
    )

-- the written text of a circuit, with its ports on these lines
pub read_back_with : (c : CircuitData) → IsWritable c → (leading : List (List ℕ)) (groups : List (List (List ℕ)))
    → leading ++ flat_map (λ group. group) groups ≡ take c.ports c.nets
    → (text : List ℕ) → text ≡ text_with c leading groups → IsFlatDeck text c
read_back_with c w leading groups e text t =
    let p = written_ports c w leading groups e in
    let r = written_rows c w leading groups p in
    let rows = t ∙ text_with-rows c leading groups in
    let cards = written_cards c w leading groups text p r rows in
    let within : c.ports ≤ length c.nets = omega (arith, w.is.all_used, numbers_used-ge c.ports (ends c.devices)) in
    let count : length (take c.ports c.nets) ≡ c.ports = length-take-le c.ports c.nets within in
    let ports_plain : AllByRecursion IsNetName (take c.ports c.nets) = recursion_from_All IsNetName (take c.ports c.nets) (All-take IsNetName c.ports c.nets w.names.nets_are) in
    let visible : All (All (All (λ b. is_control b ≡ false))) (opening_row c.name (take c.ports c.nets) ∷ rows_behind c) =
    All-weaker IsPlainRow (All (All (λ b. is_control b ≡ false))) plain_visible (opening_row c.name (take c.ports c.nets) ∷ rows_behind c)
    (All-from_recursion IsPlainRow (opening_row c.name (take c.ports c.nets) ∷ rows_behind c) (opening_plain c w (take c.ports c.nets) ports_plain, behind_plain c w)) in
    record {
      name = c.name;
      ports = take c.ports c.nets;
      device_cards = card_rows c.nets c.devices;
      devices = map (named_device c.nets) c.devices;
      closing = c.name ∷ [];
      begins = written_begins c leading groups text r rows;
      visible = subst (All (All (All (λ b. is_control b ≡ false)))) (sym cards) visible;
      order = ap (filter (λ card. not (is_skipped card))) cards
          ∙ filter_all (λ card. not (is_skipped card)) (opening_row c.name (take c.ports c.nets) ∷ rows_behind c)
          (refl, all_behind (λ card. not (is_skipped card) ≡ true) c (λ _ _. refl) refl);
      few_closing = omega arith;
      no_equals = All-cons HasNoEquals c.name (take c.ports c.nets) w.good.name_good w.good.ports_good;
      ports_differ = IsDistinct-take c.ports c.nets w.is.distinct;
      few_ports = omega (arith, count, w.is.few_ports);
      few_devices = omega (arith, length-map c.devices (named_device c.nets), w.is.few_devices);
      cards_are = cards_are c.nets 0 c.devices;
      circuit_is = same_circuit c w.is (deck_phases text) (written_phases c w leading groups text r rows);
    }

-- the written text of a circuit
pub read_back : (c : CircuitData) (text : List ℕ) → IsWritable c → IsWritten c text → IsDeckOf text c
read_back c text w t = by (has_roles (take c.ports c.nets))
  where
    by : HasSomeRoles (take c.ports c.nets) ⊎ ((clocks : ℕ) (pins outs : List (List ℕ)) → HasRoles (take c.ports c.nets) clocks pins outs → ⊥) → IsDeckOf text c
    by (inl h) = flat_is_deck text c (read_back_with c w (leading_ports h.clocks) (h.pins ∷ h.outs ∷ [])
        (ap (λ l. leading_ports h.clocks ++ (h.pins ++ l)) (append-nil h.outs) ∙ sym (append_assoc (leading_ports h.clocks) h.pins h.outs) ∙ sym h.roles.order)
        text (t.with_roles h.clocks h.pins h.outs h.roles))
    by (inr none) = flat_is_deck text c (read_back_with c w [] (take c.ports c.nets ∷ []) (append-nil (take c.ports c.nets)) text (t.without_roles none))
