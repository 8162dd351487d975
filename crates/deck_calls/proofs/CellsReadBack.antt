-- The text of a circuit by its cells is a deck, and its circuit is that one.
use Rattle.std.proofs.Common.{◌≡◌, ℕ, ◌<◌, ◌+◌, ◌^◌, true, false, not, List, [], ◌∷◌, ◌++◌, map, filter, length, take, reverse, codes, refl, ap, sym, ◌∙◌, subst, arith, append-nil, append_assoc, None, All, ◌⊎◌, inl, inr}
use Rattle.std.specs.Fmt.{decimal}
use Rattle.std.specs.List.{AllByRecursion, AllZip, flat_map, filter_map, enumerate_from}
use Rattle.std.proofs.lemmas.List.{reverse-reverse}
use Rattle.std.proofs.lemmas.List.Elements.{All-weaker, All-take, All-from_recursion, recursion_from_All, filter_map-append}
use Rattle.indexmap.proofs.ReorderLemmas.{map-reverse}
use Rattle.indexmap.proofs.SetLemmas.{AllZip-push}
use Rattle.dom_base.specs.Lines.{is_control}
use Rattle.dom_base.specs.Names.{IsNetName}
use Rattle.dom_base.proofs.Lists.{AllByRecursion-append, AllByRecursion-every, AllByRecursion-map, AllByRecursion-reverse, filter_all, filter_map-none, reverse-cons}
use Rattle.dom_base.proofs.Names.{IsNetName-from_test}
use Rattle.deck.specs.declared.device.Device.{Device}
use Rattle.deck.specs.CircuitData.{CircuitData}
use Rattle.deck.specs.DeckText.{deck_cards, deck_phases, deck_card_lines, cards_of, is_skipped, phase_of, bare_circuit, BeginsACard, HasNoEquals, IsCallCard, IsPartCard, AreSubcktCards, IsDeckOf}
use Rattle.deck.specs.NamedDevices.{with_devices}
use Rattle.deck.specs.Nets.{IsInRange}
use Rattle.deck.specs.Ports.{leading_ports, HasRoles, HasSomeRoles}
use Rattle.deck.proofs.PortDecisions.{has_roles}
use Rattle.spice_text.specs.Text.{eights}
use Rattle.spice_text.proofs.DeviceRows.{cards_are}
use Rattle.spice_text.proofs.ReadBack.{plain_visible, no_phase, phases-rows, phases_plain, plus_plain, IsWritable, AreWrittenPorts, written_ports, opening_plain, same_circuit}
use Rattle.spice_text.proofs.ReadRows.{row_line, text_of_rows, IsPlainRow, IsNoEnd, IsComment, IsOfCard, Begins, plus_rows, deck_phases-rows, card_lines-rows, cards_of-rows}
use Rattle.spice_text.proofs.WrittenRows.{phase_row, opening_row, card_rows, ending_row}
use Rattle.deck.specs.Subckts.{Called}
use Rattle.spice_text.specs.Cells.{group_cell, shape_number, cell_name, cell_ports, cell_text_with, HasCells, IsWrittenByCells}
use Rattle.deck.proofs.FlatDecks.{singles_are}
use Rattle.deck_calls.proofs.CellCalls.{call_of, IsCalled, number_low}
use Rattle.deck_calls.proofs.CellCircuits.{groups_in, shapes_in, main_subckt, cells_above, AreCells, are_cells, are_subckts, main_expands, cell_nets_all}
use Rattle.deck.proofs.WordTests.{no_equals_by_test}
use Rattle.spice_text.proofs.CellPorts.{numbered_name}
use Rattle.deck_calls.proofs.CellNames.{no_equals-numbered}
use Rattle.deck_calls.proofs.CellRows.{header_row, comment_rows, cell_rows, all_cell_rows, call_row, call_rows, rows_behind, rows_of_cards, cell_text-rows, cells_all, behind_all, cards_all, cards_of-front, cells_plain}
use Rattle.deck_calls.proofs.CellSubckts.{cell_devices, cell_subckt}
use Rattle.deck_calls.proofs.NumberedShapes.{numbers_few, name_no_equals, vdd_no_equals, vss_no_equals, IsCellShape}

-- the numbers of a call
record IsLowCall (nets : List (List ℕ)) (shapes : List (List Device)) (p : ℕ × List Device) : Type 0 where
  place : p.0 < 2 ^ 64
  shape : shape_number nets shapes p.1 < 2 ^ 64
  low : AllByRecursion (IsInRange (length nets)) p.1

low_calls : (c : CircuitData) (places : List ℕ) → AreCells c places → AllByRecursion (IsLowCall c.nets (shapes_in c places)) (enumerate_from 0 (groups_in c places))
low_calls c places are = by 0 (groups_in c places) (omega (arith, are.few_groups)) are.called are.low
  where
    by : (k : ℕ) (groups : List (List Device)) → k + length groups < 2 ^ 64 → AllByRecursion (IsCalled c.nets (shapes_in c places)) groups → AllByRecursion (AllByRecursion (IsInRange (length c.nets))) groups
        → AllByRecursion (IsLowCall c.nets (shapes_in c places)) (enumerate_from k groups)
    by k [] few called low = tt
    by k (group ∷ groups) few called low =
        (record { place = omega arith; shape = number_low c.nets (shapes_in c places) group are.few_shapes called.0; low = low.0 }, by (k + 1) groups (omega arith) called.1 low.1)

-- the rows of calls are plain
calls_plain : (c : CircuitData) (shapes : List (List Device)) (ps : List (ℕ × List Device)) → AllByRecursion IsNetName c.nets → AllByRecursion (IsLowCall c.nets shapes) ps
    → AllByRecursion IsPlainRow (map (call_row c.nets shapes) ps)
calls_plain c shapes [] names low = tt
calls_plain c shapes (p ∷ ps) names low = (
  (
    numbered_name 120 [] p.0 refl low.0.place,
    AllByRecursion-append IsNetName (group_cell c.nets p.1).nets (cell_name (shape_number c.nets shapes p.1) ∷ [])
        (cell_nets_all IsNetName c.nets p.1 (IsNetName-from_test (codes "vdd") refl) (IsNetName-from_test (codes "vss") refl) names low.0.low)
        (numbered_name 99 (codes "ell-") (shape_number c.nets shapes p.1) refl low.0.shape, tt),
  ),
  calls_plain c shapes ps names low.1,
)

-- the row of a call is its card
call_card : (c : CircuitData) (shapes : List (List Device)) (p : ℕ × List Device) → AllByRecursion HasNoEquals c.nets → IsLowCall c.nets shapes p → IsCallCard (call_row c.nets shapes p) (call_of c.nets shapes p)
call_card c shapes p none low = record {
  name = decimal p.0;
  name_is = refl;
  words_are = refl;
  no_equals = All-from_recursion HasNoEquals (call_row c.nets shapes p) (
    no_equals-numbered (codes "x") p.0 (no_equals_by_test (codes "x") refl) low.place,
    AllByRecursion-append HasNoEquals (group_cell c.nets p.1).nets (cell_name (shape_number c.nets shapes p.1) ∷ [])
        (cell_nets_all HasNoEquals c.nets p.1 vdd_no_equals vss_no_equals none low.low)
        (name_no_equals (shape_number c.nets shapes p.1) low.shape, tt),
  );
}

calls_are : (c : CircuitData) (shapes : List (List Device)) (ps : List (ℕ × List Device)) → AllByRecursion HasNoEquals c.nets → AllByRecursion (IsLowCall c.nets shapes) ps
    → AllZip IsPartCard (map (call_row c.nets shapes) ps) (map (λ p. Called (call_of c.nets shapes p)) ps)
calls_are c shapes [] none low = tt
calls_are c shapes (p ∷ ps) none low = (call_card c shapes p none low.0, calls_are c shapes ps none low.1)

-- the rows of a cell are its cards
cell_cards : (p : ℕ × List Device) → AreSubcktCards (cell_rows p) (cell_subckt p)
cell_cards p = record {
  part_cards = card_rows (cell_ports p.1) p.1;
  closing = cell_name p.0 ∷ [];
  cards_are = refl;
  parts_are = singles_are (card_rows (cell_ports p.1) p.1) (cell_devices p.1) (cards_are (cell_ports p.1) 0 p.1);
  few_closing = omega arith;
}

all_cell_cards : (ps : List (ℕ × List Device)) → AllZip AreSubcktCards (map cell_rows ps) (map cell_subckt ps)
all_cell_cards [] = tt
all_cell_cards (p ∷ ps) = (cell_cards p, all_cell_cards ps)

-- the cards of the circuit's own subcircuit
abbrev main_rows : CircuitData → List ℕ → List (List (List ℕ))
main_rows c places = opening_row c.name (take c.ports c.nets) ∷ rows_behind c (groups_in c places)

main_cards : (c : CircuitData) (places : List ℕ) → AllByRecursion HasNoEquals c.nets → AreCells c places → AreSubcktCards (main_rows c places) (main_subckt c places)
main_cards c places none are = record {
  part_cards = call_rows c.nets (shapes_in c places) 0 (groups_in c places);
  closing = c.name ∷ [];
  cards_are = refl;
  parts_are = calls_are c (shapes_in c places) (enumerate_from 0 (groups_in c places)) none (low_calls c places are);
  few_closing = omega arith;
}

-- the subcircuits in the order of the text
in_order : (c : CircuitData) (places : List ℕ) → reverse (main_subckt c places ∷ cells_above c places) ≡ map cell_subckt (enumerate_from 0 (shapes_in c places)) ++ main_subckt c places ∷ []
in_order c places =
    let all = enumerate_from 0 (shapes_in c places) in
    reverse-cons (main_subckt c places) (cells_above c places)
    ∙ ap (λ l. l ++ main_subckt c places ∷ []) (ap reverse (map-reverse cell_subckt all) ∙ reverse-reverse (map cell_subckt all))

-- the groups of cards in the order of the text
abbrev card_groups : CircuitData → List ℕ → List (List (List (List ℕ)))
card_groups c places = map cell_rows (enumerate_from 0 (shapes_in c places)) ++ main_rows c places ∷ []

groups_joined : (ps : List (ℕ × List Device)) (last : List (List (List ℕ))) → flat_map (λ group. group) (map cell_rows ps ++ last ∷ []) ≡ flat_map cell_rows ps ++ last
groups_joined [] last = append-nil last
groups_joined (p ∷ ps) last = ap (λ l. cell_rows p ++ l) (groups_joined ps last) ∙ sym (append_assoc (cell_rows p) (flat_map cell_rows ps) last)

-- what is known of all rows
record AreWrittenRows (c : CircuitData) (places : List ℕ) (leading : List (List ℕ)) (others : List (List (List ℕ))) : Type 0 where
  cells : AllByRecursion IsPlainRow (all_cell_rows (shapes_in c places))
  behind : AllByRecursion IsPlainRow (rows_behind c (groups_in c places))
  plain : AllByRecursion IsPlainRow (comment_rows c ++ rows_of_cards c (groups_in c places) leading others)
  no_end : AllByRecursion IsNoEnd (comment_rows c ++ rows_of_cards c (groups_in c places) leading others)
  comments : AllByRecursion IsComment (comment_rows c)
  of_cards : AllByRecursion IsOfCard (rows_of_cards c (groups_in c places) leading others)

written_rows : (c : CircuitData) (places : List ℕ) → IsWritable c → AreCells c places → (leading : List (List ℕ)) (others : List (List (List ℕ))) → AreWrittenPorts c leading others
    → AreWrittenRows c places leading others
written_rows c places w are leading others p =
    let groups = groups_in c places in
    let shapes = shapes_in c places in
    let names : AllByRecursion IsNetName c.nets = recursion_from_All IsNetName c.nets w.names.nets_are in
    let header : IsPlainRow header_row = (IsNetName-from_test (codes "*") refl, (IsNetName-from_test (codes "domsyn") refl, (IsNetName-from_test (codes "deck") refl, (IsNetName-from_test (codes "2") refl, tt)))) in
    let back = enumerate_from 0 shapes in
    let few : AllByRecursion (λ (p : ℕ × List Device). p.0 < 2 ^ 64) back = subst (AllByRecursion (λ (p : ℕ × List Device). p.0 < 2 ^ 64)) (reverse-reverse back) (AllByRecursion-reverse (λ (p : ℕ × List Device). p.0 < 2 ^ 64) (reverse back) (numbers_few shapes are.few_shapes)) in
    let is : AllByRecursion (λ (p : ℕ × List Device). IsCellShape p.1) back = subst (AllByRecursion (λ (p : ℕ × List Device). IsCellShape p.1)) (reverse-reverse back) (AllByRecursion-reverse (λ (p : ℕ × List Device). IsCellShape p.1) (reverse back) are.shapes_are) in
    let cells = cells_plain back few is in
    let behind : AllByRecursion IsPlainRow (rows_behind c groups) =
    AllByRecursion-append IsPlainRow (call_rows c.nets shapes 0 groups) (ending_row c.name ∷ [])
    (calls_plain c shapes (enumerate_from 0 groups) names (low_calls c places are))
    ((IsNetName-from_test (codes ".ends") refl, (w.names.name_is, tt)), tt) in
    record {
      cells = cells;
      behind = behind;
      plain = AllByRecursion-append IsPlainRow (comment_rows c) (rows_of_cards c groups leading others)
          (header, phases_plain c.phases (recursion_from_All (λ phase. IsNetName phase.net) c.phases w.names.phases_are))
          (AllByRecursion-append IsPlainRow (all_cell_rows shapes) (opening_row c.name leading ∷ plus_rows (flat_map eights others) ++ rows_behind c groups) cells
          (opening_plain c w leading p.lead_plain, AllByRecursion-append IsPlainRow (plus_rows (flat_map eights others)) (rows_behind c groups) (plus_plain (flat_map eights others) p.groups_plain) behind));
      no_end = AllByRecursion-append IsNoEnd (comment_rows c) (rows_of_cards c groups leading others)
          (refl, AllByRecursion-map IsNoEnd phase_row c.phases (AllByRecursion-every (λ phase. IsNoEnd (phase_row phase)) (λ _. refl) c.phases))
          (cards_all IsNoEnd c groups leading others (λ _ _. refl) (λ _ _ _. refl) (λ _. refl) (λ _. refl) (λ _ _. refl));
      comments = (refl, AllByRecursion-map IsComment phase_row c.phases (AllByRecursion-every (λ phase. IsComment (phase_row phase)) (λ _. refl) c.phases));
      of_cards = cards_all IsOfCard c groups leading others (λ _ _. refl) (λ _ _ _. refl) (λ _. refl) (λ _. refl) (λ _ _. refl);
    }

-- the cards of the written text
written_cards : (c : CircuitData) (places : List ℕ) → IsWritable c → (leading : List (List ℕ)) (others : List (List (List ℕ))) (text : List ℕ) → AreWrittenPorts c leading others
    → AreWrittenRows c places leading others → text ≡ text_of_rows (comment_rows c ++ rows_of_cards c (groups_in c places) leading others)
    → deck_cards text ≡ all_cell_rows (shapes_in c places) ++ main_rows c places
written_cards c places w leading others text p r e =
    let groups = groups_in c places in
    let front = all_cell_rows (shapes_in c places) in
    ap deck_cards e
    ∙ ap cards_of (card_lines-rows (comment_rows c) (rows_of_cards c groups leading others) r.plain r.no_end r.comments r.of_cards)
    ∙ cards_of-front front (opening_row c.name leading) (plus_rows (flat_map eights others) ++ rows_behind c groups) r.cells
    (cells_all Begins (λ _ _. refl) (λ _ _ _. refl) (λ _. refl) (enumerate_from 0 (shapes_in c places))) refl
    ∙ ap (λ l. front ++ l) (
    cards_of-rows (opening_row c.name leading) (flat_map eights others) (rows_behind c groups) (opening_plain c w leading p.lead_plain) refl p.groups_plain r.behind (behind_all Begins c groups (λ _ _. refl) refl)
    ∙ ap (λ ports. opening_row c.name ports ∷ rows_behind c groups) p.are
    )

-- the phases of the written text
written_phases : (c : CircuitData) (places : List ℕ) → IsWritable c → (leading : List (List ℕ)) (others : List (List (List ℕ))) (text : List ℕ)
    → AreWrittenRows c places leading others → text ≡ text_of_rows (comment_rows c ++ rows_of_cards c (groups_in c places) leading others) → deck_phases text ≡ c.phases
written_phases c places w leading others text r e =
    let rows = rows_of_cards c (groups_in c places) leading others in
    let none : filter_map phase_of rows ≡ [] =
    filter_map-none phase_of rows
    (cards_all (λ row. phase_of row ≡ None) c (groups_in c places) leading others
    (λ name ports. no_phase (codes ".subckt") (name ∷ ports) refl) (λ _ _ _. refl) (λ _. refl) (λ group. no_phase (codes "+") group refl) (λ n others. no_phase (codes "x" ++ decimal n) others refl)) in
    ap deck_phases e
    ∙ deck_phases-rows (comment_rows c ++ rows) r.plain r.no_end
    ∙ filter_map-append phase_of (comment_rows c) rows
    ∙ ap (λ l. filter_map phase_of (comment_rows c) ++ l) none
    ∙ append-nil (filter_map phase_of (comment_rows c))
    ∙ phases-rows c.phases (recursion_from_All (λ phase. IsNetName phase.net) c.phases w.names.phases_are)

-- the line of the first card continues no card
written_begins : (c : CircuitData) (places : List ℕ) (leading : List (List ℕ)) (others : List (List (List ℕ))) (text : List ℕ)
    → AreWrittenRows c places leading others → text ≡ text_of_rows (comment_rows c ++ rows_of_cards c (groups_in c places) leading others) → BeginsACard (deck_card_lines text)
written_begins c places leading others text r e =
    let same = ap deck_card_lines e ∙ card_lines-rows (comment_rows c) (rows_of_cards c (groups_in c places) leading others) r.plain r.no_end r.comments r.of_cards in
    subst BeginsACard (sym same) (first (enumerate_from 0 (shapes_in c places)))
  where
    first : (ps : List (ℕ × List Device)) → BeginsACard (map row_line (flat_map cell_rows ps ++ (opening_row c.name leading ∷ plus_rows (flat_map eights others) ++ rows_behind c (groups_in c places))))
    first [] = refl
    first (p ∷ ps) = refl

-- the written text of a circuit, with its ports on these lines
read_back_with : (c : CircuitData) (places : List ℕ) → IsWritable c → HasCells c places → AreCells c places → (leading : List (List ℕ)) (others : List (List (List ℕ)))
    → leading ++ flat_map (λ group. group) others ≡ take c.ports c.nets
    → (text : List ℕ) → text ≡ cell_text_with c (groups_in c places) leading others → IsDeckOf text c
read_back_with c places w has are leading others e text t =
    let p = written_ports c w leading others e in
    let r = written_rows c places w are leading others p in
    let rows = t ∙ cell_text-rows c (groups_in c places) leading others in
    let cards = written_cards c places w leading others text p r rows in
    let front = all_cell_rows (shapes_in c places) in
    let none : AllByRecursion HasNoEquals c.nets = recursion_from_All HasNoEquals c.nets has.no_equals in
    let ports_plain : AllByRecursion IsNetName (take c.ports c.nets) = recursion_from_All IsNetName (take c.ports c.nets) (All-take IsNetName c.ports c.nets w.names.nets_are) in
    let plain : AllByRecursion IsPlainRow (front ++ main_rows c places) = AllByRecursion-append IsPlainRow front (main_rows c places) r.cells (opening_plain c w (take c.ports c.nets) ports_plain, r.behind) in
    let visible : All (All (All (λ b. is_control b ≡ false))) (front ++ main_rows c places) =
    All-weaker IsPlainRow (All (All (λ b. is_control b ≡ false))) plain_visible (front ++ main_rows c places) (All-from_recursion IsPlainRow (front ++ main_rows c places) plain) in
    let kept : AllByRecursion (λ card. not (is_skipped card) ≡ true) (front ++ main_rows c places) =
    AllByRecursion-append (λ card. not (is_skipped card) ≡ true) front (main_rows c places)
    (cells_all (λ card. not (is_skipped card) ≡ true) (λ _ _. refl) (λ _ _ _. refl) (λ _. refl) (enumerate_from 0 (shapes_in c places)))
    (refl, behind_all (λ card. not (is_skipped card) ≡ true) c (groups_in c places) (λ _ _. refl) refl) in
    let phases = written_phases c places w leading others text r rows in
    record {
      last = main_subckt c places;
      above = cells_above c places;
      groups = card_groups c places;
      begins = written_begins c places leading others text r rows;
      visible = subst (All (All (All (λ b. is_control b ≡ false)))) (sym cards) visible;
      order = ap (filter (λ card. not (is_skipped card))) cards
          ∙ filter_all (λ card. not (is_skipped card)) (front ++ main_rows c places) kept
          ∙ sym (groups_joined (enumerate_from 0 (shapes_in c places)) (main_rows c places));
      groups_are = subst (AllZip AreSubcktCards (card_groups c places)) (sym (in_order c places))
          (AllZip-push AreSubcktCards (map cell_rows (enumerate_from 0 (shapes_in c places))) (map cell_subckt (enumerate_from 0 (shapes_in c places))) (main_rows c places) (main_subckt c places)
          (all_cell_cards (enumerate_from 0 (shapes_in c places))) (main_cards c places none are));
      sound = are_subckts c places w.is has are;
      circuit_is = same_circuit c w.is (deck_phases text) phases
          ∙ ap (with_devices (bare_circuit c.name (deck_phases text) (take c.ports c.nets))) (sym (main_expands c places are));
    }

-- the written text of a circuit
pub read_back : (c : CircuitData) (places : List ℕ) (text : List ℕ) → IsWritable c → HasCells c places → IsWrittenByCells c places text → IsDeckOf text c
read_back c places text w has t = by (has_roles (take c.ports c.nets))
  where
    by : HasSomeRoles (take c.ports c.nets) ⊎ ((clocks : ℕ) (pins outs : List (List ℕ)) → HasRoles (take c.ports c.nets) clocks pins outs → ⊥) → IsDeckOf text c
    by (inl h) = read_back_with c places w has (are_cells c places w.is has) (leading_ports h.clocks) (h.pins ∷ h.outs ∷ [])
        (ap (λ l. leading_ports h.clocks ++ (h.pins ++ l)) (append-nil h.outs) ∙ sym (append_assoc (leading_ports h.clocks) h.pins h.outs) ∙ sym h.roles.order)
        text (t.with_roles h.clocks h.pins h.outs h.roles)
    by (inr none) = read_back_with c places w has (are_cells c places w.is has) [] (take c.ports c.nets ∷ []) (append-nil (take c.ports c.nets)) text (t.without_roles none)
