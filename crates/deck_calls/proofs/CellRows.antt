-- The text of a circuit by its cells as rows of words.
use Rattle.std.proofs.Common.{◌≡◌, ℕ, ◌<◌, ◌^◌, List, [], ◌∷◌, ◌++◌, map, length, codes, refl, ap, sym, ◌∙◌, append_assoc, append-nil, arith}
use Rattle.std.specs.List.{AllByRecursion, flat_map, enumerate_from}
use Rattle.std.specs.Fmt.{decimal}
use Rattle.std.proofs.lemmas.List.Elements.{All-from_recursion}
use Rattle.dom_base.specs.Joined.{ended}
use Rattle.dom_base.specs.Lines.{words}
use Rattle.dom_base.specs.Names.{IsNetName}
use Rattle.dom_base.proofs.Lists.{AllByRecursion-append, AllByRecursion-every, AllByRecursion-map}
use Rattle.dom_base.proofs.Names.{IsNetName-from_test}
use Rattle.deck.specs.declared.device.Device.{Device}
use Rattle.deck.specs.CircuitData.{CircuitData}
use Rattle.deck.specs.DeckText.{cards_of, added_words}
use Rattle.deck.proofs.DeviceNumbers.{devices_in_range}
use Rattle.spice_text.specs.Text.{deck_line, phase_line, plus_lines, eights, device_card, device_cards}
use Rattle.spice_text.proofs.DeviceRows.{all_cards, cards_plain}
use Rattle.spice_text.proofs.ReadRows.{row_line, text_of_rows, IsPlainRow, Begins, plus_rows, words-row}
use Rattle.spice_text.proofs.WrittenRows.{phase_row, opening_row, card_row, card_rows, ending_row, flat_map-rows, text_of_rows-append, plus_lines-rows}
use Rattle.spice_text.specs.Cells.{group_cell, shapes_of, shape_number, cell_name, cell_ports, cell_lines, call_line, call_lines, cell_text_with}
use Rattle.spice_text.proofs.CellPorts.{numbered_name}
use Rattle.deck_calls.proofs.CellNames.{ports_plain}
use Rattle.deck_calls.proofs.NumberedShapes.{IsCellShape, port_count}

-- the words of the first line
abbrev pub header_row : List (List ℕ)
header_row = codes "*" ∷ codes "domsyn" ∷ codes "deck" ∷ codes "2" ∷ []

-- the comments that stand first
abbrev pub comment_rows : CircuitData → List (List (List ℕ))
comment_rows c = header_row ∷ map phase_row c.phases

-- the rows of a cell
abbrev pub cell_rows : ℕ × List Device → List (List (List ℕ))
cell_rows p = opening_row (cell_name p.0) (cell_ports p.1) ∷ card_rows (cell_ports p.1) p.1 ++ ending_row (cell_name p.0) ∷ []

abbrev pub all_cell_rows : List (List Device) → List (List (List ℕ))
all_cell_rows shapes = flat_map cell_rows (enumerate_from 0 shapes)

-- the row of a call
abbrev pub call_row : List (List ℕ) → List (List Device) → ℕ × List Device → List (List ℕ)
call_row nets shapes p = (codes "x" ++ decimal p.0) ∷ (group_cell nets p.1).nets ++ cell_name (shape_number nets shapes p.1) ∷ []

abbrev pub call_rows : List (List ℕ) → List (List Device) → ℕ → List (List Device) → List (List (List ℕ))
call_rows nets shapes k groups = map (call_row nets shapes) (enumerate_from k groups)

-- the rows behind the `.subckt` of the circuit
abbrev pub rows_behind : CircuitData → List (List Device) → List (List (List ℕ))
rows_behind c groups = call_rows c.nets (shapes_of c.nets groups) 0 groups ++ ending_row c.name ∷ []

-- the rows of the cards
abbrev pub rows_of_cards : CircuitData → List (List Device) → List (List ℕ) → List (List (List ℕ)) → List (List (List ℕ))
rows_of_cards c groups leading others =
    all_cell_rows (shapes_of c.nets groups) ++ (opening_row c.name leading ∷ plus_rows (flat_map eights others) ++ rows_behind c groups)

cell_lines-rows : (p : ℕ × List Device) → cell_lines p ≡ text_of_rows (cell_rows p)
cell_lines-rows p =
    let ports = cell_ports p.1 in
    let opening = deck_line (codes ".subckt") (cell_name p.0 ∷ ports) in
    let ending = deck_line (codes ".ends") (cell_name p.0 ∷ []) in
    let cards : device_cards ports p.1 ≡ text_of_rows (card_rows ports p.1) = flat_map-rows (device_card ports) (card_row ports) (λ _. refl) (enumerate_from 0 p.1) in
    let behind : text_of_rows (card_rows ports p.1 ++ ending_row (cell_name p.0) ∷ []) ≡ text_of_rows (card_rows ports p.1) ++ ending
    = text_of_rows-append (card_rows ports p.1) (ending_row (cell_name p.0) ∷ []) ∙ ap (λ t. text_of_rows (card_rows ports p.1) ++ t) (append-nil ending) in
    ap (λ t. opening ++ t ++ ending) cards ∙ append_assoc opening (text_of_rows (card_rows ports p.1)) ending ∙ ap (λ t. opening ++ t) (sym behind)

all_cell_lines-rows : (ps : List (ℕ × List Device)) → flat_map cell_lines ps ≡ text_of_rows (flat_map cell_rows ps)
all_cell_lines-rows [] = refl
all_cell_lines-rows (p ∷ ps) =
    ap (λ t. t ++ flat_map cell_lines ps) (cell_lines-rows p) ∙ ap (λ t. text_of_rows (cell_rows p) ++ t) (all_cell_lines-rows ps)
    ∙ sym (text_of_rows-append (cell_rows p) (flat_map cell_rows ps))

-- seven texts, one behind the other
seven_texts : (h p f o l c e : List ℕ) → h ++ p ++ f ++ o ++ l ++ c ++ e ≡ (h ++ p) ++ (f ++ (o ++ (l ++ (c ++ e))))
seven_texts h p f o l c e = simp append_assoc

-- the text of seven parts of rows
text_of_seven : (h : List (List ℕ)) (p f : List (List (List ℕ))) (o : List (List ℕ)) (l c : List (List (List ℕ))) (e : List (List ℕ))
    → text_of_rows ((h ∷ p) ++ (f ++ (o ∷ l ++ (c ++ e ∷ []))))
    ≡ (ended (row_line h) ++ text_of_rows p) ++ (text_of_rows f ++ (ended (row_line o) ++ (text_of_rows l ++ (text_of_rows c ++ ended (row_line e)))))
text_of_seven h p f o l c e =
    let end : text_of_rows (e ∷ []) ≡ ended (row_line e) = append-nil (ended (row_line e)) in
    text_of_rows-append (h ∷ p) (f ++ (o ∷ l ++ (c ++ e ∷ [])))
    ∙ ap (λ t. text_of_rows (h ∷ p) ++ t) (
    text_of_rows-append f (o ∷ l ++ (c ++ e ∷ []))
    ∙ ap (λ t. text_of_rows f ++ (ended (row_line o) ++ t)) (
    text_of_rows-append l (c ++ e ∷ [])
    ∙ ap (λ t. text_of_rows l ++ t) (text_of_rows-append c (e ∷ []) ∙ ap (λ t. text_of_rows c ++ t) end)
    )
    )

-- the written text is that of its rows
pub cell_text-rows : (c : CircuitData) (groups : List (List Device)) (leading : List (List ℕ)) (others : List (List (List ℕ)))
    → cell_text_with c groups leading others ≡ text_of_rows (comment_rows c ++ rows_of_cards c groups leading others)
cell_text-rows c groups leading others =
    let shapes = shapes_of c.nets groups in
    let phases : flat_map phase_line c.phases ≡ text_of_rows (map phase_row c.phases) = flat_map-rows phase_line phase_row (λ _. refl) c.phases in
    let cells = all_cell_lines-rows (enumerate_from 0 shapes) in
    let plus = plus_lines-rows others in
    let calls : call_lines c.nets groups ≡ text_of_rows (call_rows c.nets shapes 0 groups) = flat_map-rows (call_line c.nets shapes) (call_row c.nets shapes) (λ _. refl) (enumerate_from 0 groups) in
    let opening = deck_line (codes ".subckt") (c.name ∷ leading) in
    let ending = deck_line (codes ".ends") (c.name ∷ []) in
    let header : List ℕ = codes "* domsyn deck 2" ++ 10 ∷ [] in
    ap (λ t. header ++ t ++ flat_map cell_lines (enumerate_from 0 shapes) ++ opening ++ flat_map plus_lines others ++ call_lines c.nets groups ++ ending) phases
    ∙ ap (λ t. header ++ text_of_rows (map phase_row c.phases) ++ t ++ opening ++ flat_map plus_lines others ++ call_lines c.nets groups ++ ending) cells
    ∙ ap (λ t. header ++ text_of_rows (map phase_row c.phases) ++ text_of_rows (all_cell_rows shapes) ++ opening ++ t ++ call_lines c.nets groups ++ ending) plus
    ∙ ap (λ t. header ++ text_of_rows (map phase_row c.phases) ++ text_of_rows (all_cell_rows shapes) ++ opening ++ text_of_rows (plus_rows (flat_map eights others)) ++ t ++ ending) calls
    ∙ seven_texts header (text_of_rows (map phase_row c.phases)) (text_of_rows (all_cell_rows shapes)) opening (text_of_rows (plus_rows (flat_map eights others))) (text_of_rows (call_rows c.nets shapes 0 groups)) ending
    ∙ sym (text_of_seven header_row (map phase_row c.phases) (all_cell_rows shapes) (opening_row c.name leading) (plus_rows (flat_map eights others)) (call_rows c.nets shapes 0 groups) (ending_row c.name))

-- a property of the rows of cells
pub cells_all : (P : List (List ℕ) → Type 0) → ((name : List ℕ) (ports : List (List ℕ)) → P (opening_row name ports)) → ((nets : List (List ℕ)) (n : ℕ) (d : Device) → P (card_row nets (n, d)))
    → ((name : List ℕ) → P (ending_row name)) → (ps : List (ℕ × List Device)) → AllByRecursion P (flat_map cell_rows ps)
cells_all P o f e [] = tt
cells_all P o f e (p ∷ ps) =
    AllByRecursion-append P (cell_rows p) (flat_map cell_rows ps)
    (o (cell_name p.0) (cell_ports p.1), AllByRecursion-append P (card_rows (cell_ports p.1) p.1) (ending_row (cell_name p.0) ∷ []) (all_cards P (cell_ports p.1) (f (cell_ports p.1)) 0 p.1) (e (cell_name p.0), tt))
    (cells_all P o f e ps)

-- a property of the rows behind
pub behind_all : (P : List (List ℕ) → Type 0) (c : CircuitData) (groups : List (List Device)) → ((n : ℕ) (others : List (List ℕ)) → P ((codes "x" ++ decimal n) ∷ others)) → P (ending_row c.name)
    → AllByRecursion P (rows_behind c groups)
behind_all P c groups f e =
    AllByRecursion-append P (call_rows c.nets (shapes_of c.nets groups) 0 groups) (ending_row c.name ∷ [])
    (AllByRecursion-map P (call_row c.nets (shapes_of c.nets groups)) (enumerate_from 0 groups)
    (AllByRecursion-every (λ p. P (call_row c.nets (shapes_of c.nets groups) p)) (λ p. f p.0 ((group_cell c.nets p.1).nets ++ cell_name (shape_number c.nets (shapes_of c.nets groups) p.1) ∷ [])) (enumerate_from 0 groups)))
    (e, tt)

-- a property of all rows of cards
pub cards_all : (P : List (List ℕ) → Type 0) (c : CircuitData) (groups : List (List Device)) (leading : List (List ℕ)) (others : List (List (List ℕ)))
    → ((name : List ℕ) (ports : List (List ℕ)) → P (opening_row name ports)) → ((nets : List (List ℕ)) (n : ℕ) (d : Device) → P (card_row nets (n, d)))
    → ((name : List ℕ) → P (ending_row name)) → ((group : List (List ℕ)) → P (codes "+" ∷ group)) → ((n : ℕ) (others : List (List ℕ)) → P ((codes "x" ++ decimal n) ∷ others))
    → AllByRecursion P (rows_of_cards c groups leading others)
cards_all P c groups leading others o f e g x =
    AllByRecursion-append P (all_cell_rows (shapes_of c.nets groups)) (opening_row c.name leading ∷ plus_rows (flat_map eights others) ++ rows_behind c groups)
    (cells_all P o f e (enumerate_from 0 (shapes_of c.nets groups))) (
      o c.name leading,
      AllByRecursion-append P (plus_rows (flat_map eights others)) (rows_behind c groups)
          (AllByRecursion-map P (λ group. codes "+" ∷ group) (flat_map eights others) (AllByRecursion-every (λ group. P (codes "+" ∷ group)) g (flat_map eights others)))
          (behind_all P c groups x (e c.name)),
    )

-- cards of one line each, and then one that begins a card
pub cards_of-front : (front : List (List (List ℕ))) (opening : List (List ℕ)) (more : List (List (List ℕ)))
    → AllByRecursion IsPlainRow front → AllByRecursion Begins front → Begins opening
    → cards_of (map row_line (front ++ opening ∷ more)) ≡ front ++ cards_of (map row_line (opening ∷ more))
cards_of-front [] opening more h b o = refl
cards_of-front (row ∷ front) opening more h b o =
    let none : added_words (map row_line (front ++ opening ∷ more)) ≡ [] = next front b.1 in
    let first = ap (λ l. words_of row ++ l) none ∙ append-nil (words_of row) ∙ words-row row h.0 in
    let rest = cards_of-front front opening more h.1 b.1 o in
    rw b.0 (ap (λ l. l ∷ cards_of (map row_line (front ++ opening ∷ more))) first ∙ ap (λ l. row ∷ l) rest)
  where
    words_of : List (List ℕ) → List (List ℕ)
    words_of row = words (row_line row)

    next : (front : List (List (List ℕ))) → AllByRecursion Begins front → added_words (map row_line (front ++ opening ∷ more)) ≡ []
    next [] g = rw o refl
    next (r ∷ front) g = rw g.0 refl

-- the ports of a cell are plain
pub cell_ports_plain : (shape : List Device) → IsCellShape shape → AllByRecursion IsNetName (cell_ports shape)
cell_ports_plain shape is =
    (IsNetName-from_test (codes "vdd") refl, (IsNetName-from_test (codes "vss") refl, ports_plain 0 _ (omega (arith, is.few_nets))))

-- the rows of cells are plain
pub cells_plain : (ps : List (ℕ × List Device)) → AllByRecursion (λ (p : ℕ × List Device). p.0 < 2 ^ 64) ps → AllByRecursion (λ (p : ℕ × List Device). IsCellShape p.1) ps
    → AllByRecursion IsPlainRow (flat_map cell_rows ps)
cells_plain [] few is = tt
cells_plain (p ∷ ps) few is =
    let name = numbered_name 99 (codes "ell-") p.0 refl few.0 in
    let ports = cell_ports_plain p.1 is.0 in
    let low = devices_in_range (length (cell_ports p.1)) 2 p.1 (omega (arith, port_count p.1)) in
    AllByRecursion-append IsPlainRow (cell_rows p) (flat_map cell_rows ps) (
      (IsNetName-from_test (codes ".subckt") refl, (name, ports)),
      AllByRecursion-append IsPlainRow (card_rows (cell_ports p.1) p.1) (ending_row (cell_name p.0) ∷ [])
          (cards_plain (cell_ports p.1) 0 p.1 (All-from_recursion IsNetName (cell_ports p.1) ports) (omega (arith, is.0.few_devices)) low)
          ((IsNetName-from_test (codes ".ends") refl, (name, tt)), tt),
    )
    (cells_plain ps few.1 is.1)
