-- The cards of a deck by name are those of its nets.
use Rattle.std.specs.Prelude.{flat_map, slice_index_or}
use Rattle.std.specs.List.{AllByRecursion, enumerate_from}
use Rattle.std.proofs.Common.{◌≡◌, ℕ, suc, ◌+◌, ◌≤◌, Bool, true, false, List, [], ◌∷◌, ◌++◌, length, map, take, drop, refl, sym, ap, ap₂, ◌∙◌, arith, append_assoc, zip, zero-add, add-zero, length-take, length-drop}
use Rattle.std.proofs.lemmas.List.{map-append}
use Rattle.deck.specs.NamedDevices.{NamedDevice, map_device}
use Rattle.sp_network.specs.Tree.{Leaf, map_tree}
use Rattle.domino_cell.specs.Cell.{inverter, map_nets}
use Rattle.domino_cell.specs.Stage.{Top}
use Rattle.domino_law.specs.Nets.{At, Complement, Gate, Net, Next, Sink, Vdd, Vss, gate_net, left_side, own}
use Rattle.domino_law.specs.Shape.{DominoCell, Shape, gate_tree, left_stage}
use Rattle.domino_cell.specs.declared.style.Style.{Style}
use Rattle.domino_law.proofs.SimpleCells.{simple_gate}
use Rattle.network.proofs.Lists.{get_of_map}
use Rattle.domino_law.specs.Spelled.{net_cell, one_latch}
use Rattle.deck_form.specs.DeckNets.{CellPlan, SinkEnd, named_cell, named_complement, data_net, named_devices, named_latch, named_sink, sink_nets, vdd, vss, named_gate}
use Rattle.deck_law.specs.NetNames.{cell_shape, deck_shape, end_gate, latch_shape, deck_name, leaf_signal}
use Rattle.deck_law.proofs.CellDevices.{same_nets}
use Rattle.deck_law.proofs.GateNames.{complement_name, end_name, own_name, tree_name}
use Rattle.domino_law.specs.Spelled as law
use Rattle.domino_cell.specs.StyledCells.{styled_cell}
use Rattle.deck_law.proofs.StyledCells.{styled_cell-map_tree, styled_is}

flat_map-append : {X Y : Type 0} (f : X → List Y) (xs ys : List X) → flat_map f (xs ++ ys) ≡ flat_map f xs ++ flat_map f ys
flat_map-append f [] ys = refl
flat_map-append f (x ∷ xs) ys = ap (λ l. f x ++ l) (flat_map-append f xs ys) ∙ sym (append_assoc (f x) (flat_map f xs) (flat_map f ys))

zip-split : {X Y : Type 0} (xs ys : List X) (es : List Y) → length xs ≤ length es → zip (xs ++ ys) es ≡ zip xs (take (length xs) es) ++ zip ys (drop (length xs) es)
zip-split [] ys es le = refl
zip-split (x ∷ xs) ys [] le = absurd (omega arith)
zip-split (x ∷ xs) ys (e ∷ es) le = ap (λ l. (x, e) ∷ l) (zip-split xs ys es (omega arith))

-- cards over nets by name
abbrev named_by : List (List ℕ) → List (List ℕ) → List (NamedDevice Net) → List (NamedDevice (List ℕ))
named_by pins outs = map (map_device (deck_name pins outs))

module _ (pins outs : List (List ℕ)) where
  abbrev name : Net → List ℕ
  name = deck_name pins outs

  -- cards over nets by name
  abbrev pub by_name : List (NamedDevice Net) → List (NamedDevice (List ℕ))
  by_name = map (map_device (deck_name pins outs))

  complement_same : (leaf : ℕ) → named_complement pins leaf ≡ by_name (inverter Vdd Vss (own (leaf_signal (length pins) leaf)) (At (Complement (leaf_signal (length pins) leaf)) Top))
  complement_same leaf = ap₂ (λ g o. inverter vdd vss g o) (own_name pins outs leaf) (complement_name pins outs leaf)

  pub complements_same : (ls : List ℕ) → flat_map (named_complement pins) ls ≡ by_name (law.complement_cards (map (leaf_signal (length pins)) ls))
  complements_same [] = refl
  complements_same (leaf ∷ ls) = ap₂ (λ a b. a ++ b) (complement_same leaf) (complements_same ls)

  latch_same : (j : ℕ) (start : Bool) → named_latch (j, start) ≡ by_name (one_latch j start)
  latch_same j false = refl
  latch_same j true = refl

  pub latches_same : (j : ℕ) (starts : List Bool) (es : List SinkEnd) → length starts ≡ length es
      → flat_map named_latch (enumerate_from j starts) ≡ by_name (law.latch_cards j (map (latch_shape (length pins)) (zip starts es)))
  latches_same j [] es same = refl
  latches_same j (b ∷ starts) [] same = absurd (omega arith)
  latches_same j (b ∷ starts) (e ∷ es) same =
      ap₂ (λ a b. a ++ b) (latch_same j b) (latches_same (j + 1) starts es (omega arith))
      ∙ sym (map-append (map_device (deck_name pins outs)) (one_latch j b) (law.latch_cards (j + 1) (map (latch_shape (length pins)) (zip starts es))))

  shift : (i j : ℕ) → i + 1 + j ≡ i + suc j
  shift i j = omega arith

  -- in a deck whose gates are single nets
  module _ (s : Shape) (single : (g : Gate) → gate_tree s g ≡ Leaf (gate_net g)) where
    outputs_same : (i : ℕ) (os : List (List ℕ)) (es : List SinkEnd) → length os ≡ length es → ((j : ℕ) → slice_index_or outs (i + j) [] ≡ slice_index_or os j [])
        → flat_map (named_sink pins) (zip os es) ≡ by_name (law.output_cards s i (map (end_gate (length pins)) es))
    outputs_same i [] [] same at = refl
    outputs_same i [] (e ∷ es) same at = absurd (omega arith)
    outputs_same i (o ∷ os) [] same at = absurd (omega arith)
    outputs_same i (o ∷ os) (e ∷ es) same at =
        let here : o ≡ slice_index_or outs i [] = sym (at 0) ∙ ap (λ n. slice_index_or outs n []) (add-zero i) in
        let g = end_gate (length pins) e in
        ap₂ (λ a b. a ++ b) (ap₂ (λ g n. inverter vdd vss g n) (end_name pins outs e) here ∙ ap (λ t. by_name (law.static_cards (Sink i) t)) (sym (single g)))
        (outputs_same (i + 1) os es (omega arith) (λ j. ap (λ n. slice_index_or outs n []) (shift i j) ∙ at (suc j)))
        ∙ sym (map-append (map_device (deck_name pins outs)) (law.static_cards (Sink i) (gate_tree s g)) (law.output_cards s (i + 1) (map (end_gate (length pins)) es)))

    nexts_same : (j : ℕ) (starts : List Bool) (es : List SinkEnd) → length starts ≡ length es
        → flat_map (named_sink pins) (zip (map (λ p. data_net p.0) (enumerate_from j starts)) es) ≡ by_name (law.next_cards s j (map (latch_shape (length pins)) (zip starts es)))
    nexts_same j [] es same = refl
    nexts_same j (b ∷ starts) [] same = absurd (omega arith)
    nexts_same j (b ∷ starts) (e ∷ es) same =
        let g = end_gate (length pins) e in
        ap₂ (λ a b. a ++ b) (ap (λ g. inverter vdd vss g (data_net j)) (end_name pins outs e) ∙ ap (λ t. by_name (law.static_cards (Next j) t)) (sym (single g))) (nexts_same (j + 1) starts es (omega arith))
        ∙ sym (map-append (map_device (deck_name pins outs)) (law.static_cards (Next j) (gate_tree s g)) (law.next_cards s (j + 1) (map (latch_shape (length pins)) (zip starts es))))

    pub sinks_same : (starts : List Bool) (es : List SinkEnd) → length es ≡ length outs + length starts
        → flat_map (named_sink pins) (zip (sink_nets outs starts) es)
        ≡ by_name (law.output_cards s 0 (map (end_gate (length pins)) (take (length outs) es)) ++ law.next_cards s 0 (map (latch_shape (length pins)) (zip starts (drop (length outs) es))))
    sinks_same starts es same =
        let front = zip outs (take (length outs) es) in
        let back = zip (map (λ p. data_net p.0) (enumerate_from 0 starts)) (drop (length outs) es) in
        ap (λ l. flat_map (named_sink pins) l) (zip-split outs (map (λ p. data_net p.0) (enumerate_from 0 starts)) es (omega arith))
        ∙ flat_map-append (named_sink pins) front back
        ∙ ap₂ (λ a b. a ++ b)
        (outputs_same 0 outs (take (length outs) es) (omega (arith, length-take (length outs) es)) (λ j. ap (λ n. slice_index_or outs n []) (zero-add j)))
        (nexts_same 0 starts (drop (length outs) es) (omega (arith, length-drop (length outs) es)))
        ∙ sym (map-append (map_device (deck_name pins outs)) (law.output_cards s 0 (map (end_gate (length pins)) (take (length outs) es))) (law.next_cards s 0 (map (latch_shape (length pins)) (zip starts (drop (length outs) es)))))

-- the cards of a deck, in either style
module _ (style : Style) (pins outs : List (List ℕ)) where
  cell_same : (leaf_count k : ℕ) (c : CellPlan) → 1 ≤ c.clock
      → named_cell style pins leaf_count (k, c)
      ≡ named_by pins outs (law.one_cell style k (cell_shape (length pins) leaf_count c))
  cell_same leaf_count k c some =
      let nets = net_cell (left_side k) (left_stage (cell_shape (length pins) leaf_count c)) in
      let tree = map_tree gate_net (cell_shape (length pins) leaf_count c).tree in
      ap (λ n. styled_cell style n (map_tree (named_gate pins leaf_count) c.tree)) (same_nets pins outs leaf_count k c some)
      ∙ ap (styled_cell style (map_nets (deck_name pins outs) nets)) (tree_name pins outs leaf_count c.tree)
      ∙ sym (styled_cell-map_tree (deck_name pins outs) style nets tree)
      ∙ ap (named_by pins outs) (styled_is style k (cell_shape (length pins) leaf_count c) refl)

  cells_same : (leaf_count k : ℕ) (cs : List CellPlan) → AllByRecursion (λ (c : CellPlan). 1 ≤ c.clock) cs
      → flat_map (named_cell style pins leaf_count) (enumerate_from k cs) ≡ named_by pins outs (law.cell_cards style k (map (cell_shape (length pins) leaf_count) cs))
  cells_same leaf_count k [] some = refl
  cells_same leaf_count k (c ∷ cs) some =
      let d : DominoCell = cell_shape (length pins) leaf_count c in
      ap₂ (λ a b. a ++ b) (cell_same leaf_count k c some.0) (cells_same leaf_count (k + 1) cs some.1)
      ∙ sym (map-append (map_device (deck_name pins outs)) (law.one_cell style k d) (law.cell_cards style (k + 1) (map (cell_shape (length pins) leaf_count) cs)))

  pub deck_same : (clocks : ℕ) (starts : List Bool) (cells : List CellPlan) (complements : List ℕ) (es : List SinkEnd) → AllByRecursion (λ (c : CellPlan). 1 ≤ c.clock) cells
      → length es ≡ length outs + length starts
      → named_devices style pins outs starts cells complements es ≡ named_by pins outs (law.shape_cards (deck_shape style clocks pins outs starts cells complements es))
  deck_same clocks starts cells complements es some same =
      let leaf_count : ℕ = length pins + length starts in
      let of_cells = flat_map (named_cell style pins leaf_count) (enumerate_from 0 cells) in
      let of_complements = flat_map (named_complement pins) complements in
      let of_latches = flat_map named_latch (enumerate_from 0 starts) in
      let of_sinks = flat_map (named_sink pins) (zip (sink_nets outs starts) es) in
      let s : Shape = deck_shape style clocks pins outs starts cells complements es in
      let to_cells = law.cell_cards s.style 0 s.cells in
      let to_complements = law.complement_cards s.complements in
      let to_latches = law.latch_cards 0 s.latches in
      let to_sinks = law.output_cards s 0 s.outputs ++ law.next_cards s 0 s.latches in
      let single : (g : Gate) → gate_tree s g ≡ Leaf (gate_net g) =
      simple_gate s (λ k c e. let m = get_of_map (cell_shape (length pins) leaf_count) cells k c e in ap (λ (x : DominoCell). x.right) (sym m.2)) in
      let latch_ends : length starts ≡ length (drop (length outs) es) = omega (arith, length-drop (length outs) es) in
      ap (λ l. l ++ of_sinks) (append_assoc of_cells of_complements of_latches)
      ∙ append_assoc of_cells (of_complements ++ of_latches) of_sinks
      ∙ ap (λ l. of_cells ++ l) (append_assoc of_complements of_latches of_sinks)
      ∙ ap₂ (λ a b. a ++ b) (cells_same leaf_count 0 cells some)
      (ap₂ (λ a b. a ++ b) (complements_same pins outs complements)
      (ap₂ (λ a b. a ++ b) (latches_same pins outs 0 starts (drop (length outs) es) latch_ends) (sinks_same pins outs s single starts es same) ∙ sym (map-append (map_device (deck_name pins outs)) to_latches to_sinks))
      ∙ sym (map-append (map_device (deck_name pins outs)) to_complements (to_latches ++ to_sinks)))
      ∙ sym (map-append (map_device (deck_name pins outs)) to_cells (to_complements ++ (to_latches ++ to_sinks)))
