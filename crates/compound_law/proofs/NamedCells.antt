-- The cards of a deck by name are those of its nets.
use Rattle.std.specs.Prelude.{flat_map, slice_index_or}
use Rattle.std.specs.List.{AllByRecursion, enumerate_from}
use Rattle.std.proofs.Common.{◌≡◌, ℕ, zero, suc, ◌+◌, ◌-◌, ◌≤◌, Bool, true, false, List, [], ◌∷◌, ◌++◌, length, map, take, drop, refl, slice_get, sym, ap, ap₂, ◌∙◌, arith, append_assoc, zip, zero-add, add-zero, length-drop, codes}
use Rattle.std.specs.Fmt.{decimal}
use Rattle.std.proofs.lemmas.List.{map-append}
use Rattle.dom_base.specs.declared.kind.Kind.TheVariants.{N as nch, P as pch}
use Rattle.deck.specs.Escapes.{escaped}
use Rattle.deck.specs.NamedDevices.{NamedDevice, map_device, with_devices}
use Rattle.deck.specs.Pushes.{new_circuit}
use Rattle.sp_network.specs.Tree.{Leaf, Series, Tree, dual, map_tree}
use Rattle.network.specs.NetworkData.{NetworkData}
use Rattle.domino_cell.specs.Cell.{map_nets}
use Rattle.domino_cell.specs.NamedTrees.{inner_net}
use Rattle.domino_cell.specs.PushedNames.{lower_front, numbered_cell, static_gate, upper_front}
use Rattle.domino_cell.specs.Spelling.{spell}
use Rattle.domino_cell.specs.Stage.{Inside, Spot, Top}
use Rattle.domino_cell.specs.StyledCells.{styled_stage}
use Rattle.domino_cell.specs.declared.style.Style.TheVariants.{Precharge as WithPrecharge}
use Rattle.domino_cell.proofs.PushedTrees.{dual-map_tree}
use Rattle.domino_cell.proofs.Spellings.{spell-map_tree}
use Rattle.domino_cell.proofs.StyledCells.{styled_stage-map_tree}
use Rattle.domino_law.specs.Nets.{At, CellSide, Dynamic, Gate, Net, Next, Output, Part, Sink, Vdd, Vss, gate_net, left_side, right_side}
use Rattle.domino_law.specs.Shape.{DynamicStage, Shape, cell_nets, dynamic_nets, gate_tree, left_stage}
use Rattle.domino_law.specs.Spelled as law
use Rattle.clock_phase.specs.Levels.{clock_of, greatest}
use Rattle.compound_plan.specs.Plans.{CellTrees, Compound, Simple}
use Rattle.compound_cell.specs.CompoundCells.{dynamic_names, named_cell, right_cell}
use Rattle.deck_form.specs.DeckNets.{SinkEnd, Fixed, OfDynamic, OfLeaf, OfOutput, data_net, named_complement, named_gate, named_latch, output_net, sink_nets, vdd, vss, clock_net}
use Rattle.deck_form.specs.DominoDecks.{complements_of, outs_of, phases_of_sinks, pins_of, starts_of}
use Rattle.deck_law.specs.NetNames.{deck_name, end_gate, latch_shape, static_name}
use Rattle.deck_law.proofs.CellDevices.{same_nets}
use Rattle.deck_law.proofs.DeckDevices.{complements_same, latches_same}
use Rattle.deck_law.proofs.GateNames.{end_name, tree_name}
use Rattle.compound_law.specs.CompoundDecks.{cell_shape, cell_shapes, clocked, network_shape, whole_cells}
use Rattle.compound_law.specs.PushedDecks.{DecksArePushed, cell_names, named_devices, sink_tree}

side_is : (k : CellSide) (c : DynamicStage) → styled_stage WithPrecharge (law.net_cell k c) (map_tree gate_net c.tree) ≡ law.side_cards WithPrecharge k c
side_is k c = refl

next : (n : ℕ) → 1 + n ≡ suc n
next n = omega arith

module _ (pins outs : List (List ℕ)) where
  abbrev name : Net → List ℕ
  name = deck_name pins outs

  abbrev by_name : List (NamedDevice Net) → List (NamedDevice (List ℕ))
  by_name = map (map_device (deck_name pins outs))

  right_nets : (k clock : ℕ) (t : Tree Gate) → 1 ≤ clock → right_cell clock k ≡ map_nets name (law.net_cell (right_side k) (record { clock = clock - 1; tree = t }))
  right_nets k clock t some =
      let same : clock ≡ 1 + (clock - 1) = less clock some in
      λ i. record {
        vdd = vdd;
        vss = vss;
        clock = clock_net (same i);
        dynamic = codes "e" ++ decimal k;
        output = output_net k;
        foot = codes "g" ++ decimal k;
        inner = λ j. deck_name pins outs (At (Dynamic (right_side k)) (Inside 0 (sym (next j) i)));
      }
    where
      less : (n : ℕ) → 1 ≤ n → n ≡ 1 + (n - 1)
      less n le = omega arith

  -- a static gate whose net and inner nets are called so
  static_named : (part : Part) (out : List ℕ) → ((spot : Spot) → name (At part spot) ≡ static_name out spot) → (t : Tree Net)
      → static_gate out (map_tree name t) ≡ by_name (law.static_cards part t)
  static_named part out is t =
      sym (
      map-append (map_device name) (spell pch (λ j. At part (Inside 0 j)) (dual t) (At part Top) Vdd 0) (spell nch (λ j. At part (Inside 1 j)) t (At part Top) Vss 0)
      ∙ ap₂ (λ a b. a ++ b)
      (spell-map_tree name pch (λ j. At part (Inside 0 j)) (dual t) (At part Top) Vdd 0 ∙ (λ i. spell pch (λ j. upper j i) (dual-map_tree name t i) (is Top i) vdd 0))
      (spell-map_tree name nch (λ j. At part (Inside 1 j)) t (At part Top) Vss 0 ∙ (λ i. spell nch (λ j. lower j i) (map_tree name t) (is Top i) vss 0))
      )
    where
      upper : (j : ℕ) → name (At part (Inside 0 j)) ≡ inner_net (upper_front out) j
      upper j = is (Inside 0 j) ∙ sym (append_assoc out (codes "_p") (decimal j))

      lower : (j : ℕ) → name (At part (Inside 1 j)) ≡ inner_net (lower_front out) j
      lower j = is (Inside 1 j) ∙ sym (append_assoc out (codes "_n") (decimal j))

  left_named : (leaf_count k clock : ℕ) (t : Tree ℕ) → 1 ≤ clock
      → styled_stage WithPrecharge (numbered_cell clock k) (map_tree (named_gate pins leaf_count) t) ≡ by_name (law.side_cards WithPrecharge (left_side k) (left_stage (cell_shape (length pins) leaf_count clock (Simple t))))
  left_named leaf_count k clock t some =
      let c = left_stage (cell_shape (length pins) leaf_count clock (Simple t)) in
      ap₂ (styled_stage WithPrecharge) (same_nets pins outs leaf_count k (record { tree = t; clock = clock }) some) (tree_name pins outs leaf_count t)
      ∙ sym (styled_stage-map_tree name WithPrecharge (law.net_cell (left_side k) c) (map_tree gate_net c.tree))
      ∙ ap by_name (side_is (left_side k) c)

  right_named : (leaf_count k clock : ℕ) (t : Tree ℕ) → 1 ≤ clock
      → styled_stage WithPrecharge (right_cell clock k) (map_tree (named_gate pins leaf_count) t) ≡ by_name (law.side_cards WithPrecharge (right_side k) (left_stage (cell_shape (length pins) leaf_count clock (Simple t))))
  right_named leaf_count k clock t some =
      let c = left_stage (cell_shape (length pins) leaf_count clock (Simple t)) in
      ap₂ (styled_stage WithPrecharge) (right_nets k clock c.tree some) (tree_name pins outs leaf_count t)
      ∙ sym (styled_stage-map_tree name WithPrecharge (law.net_cell (right_side k) c) (map_tree gate_net c.tree))
      ∙ ap by_name (side_is (right_side k) c)

  cell_named : (leaf_count k clock : ℕ) (c : CellTrees) → 1 ≤ clock
      → named_cell (named_gate pins leaf_count) clock k c ≡ by_name (law.one_cell WithPrecharge k (cell_shape (length pins) leaf_count clock c))
  cell_named leaf_count k clock (Simple t) some =
      let x = cell_shape (length pins) leaf_count clock (Simple t) in
      ap₂ (λ a b. a ++ b) (left_named leaf_count k clock t some) (static_named (Output k) (output_net k) (λ spot. refl) (Leaf (At (Dynamic (left_side k)) Top)))
      ∙ sym (map-append (map_device name) (law.side_cards WithPrecharge (left_side k) (left_stage x)) (law.static_cards (Output k) (Leaf (At (Dynamic (left_side k)) Top))))
  cell_named leaf_count k clock (Compound l r) some =
      let left = law.side_cards WithPrecharge (left_side k) (left_stage (cell_shape (length pins) leaf_count clock (Simple l))) in
      let right = law.side_cards WithPrecharge (right_side k) (left_stage (cell_shape (length pins) leaf_count clock (Simple r))) in
      let both : Tree Net = Series (Leaf (At (Dynamic (left_side k)) Top)) (Leaf (At (Dynamic (right_side k)) Top)) in
      ap₂ (λ a b. a ++ b) (left_named leaf_count k clock l some)
      (ap₂ (λ a b. a ++ b) (right_named leaf_count k clock r some) (static_named (Output k) (output_net k) (λ spot. refl) both)
      ∙ sym (map-append (map_device name) right (law.static_cards (Output k) both)))
      ∙ sym (map-append (map_device name) left (right ++ law.static_cards (Output k) both))

  cells_named : (leaf_count k : ℕ) (cells : List (CellTrees × ℕ)) → AllByRecursion (λ p. 1 ≤ p.1) cells
      → flat_map (λ (p : ℕ × (CellTrees × ℕ)). named_cell (named_gate pins leaf_count) p.1.1 p.0 p.1.0) (enumerate_from k cells)
      ≡ by_name (law.cell_cards WithPrecharge k (cell_shapes (length pins) leaf_count cells))
  cells_named leaf_count k [] some = refl
  cells_named leaf_count k (p ∷ cells) some =
      ap₂ (λ a b. a ++ b) (cell_named leaf_count k p.1 p.0 some.0) (cells_named leaf_count (k + 1) cells some.1)
      ∙ sym (map-append (map_device name) (law.one_cell WithPrecharge k (cell_shape (length pins) leaf_count p.1 p.0)) (law.cell_cards WithPrecharge (k + 1) (cell_shapes (length pins) leaf_count cells)))

  shift : (i j : ℕ) → i + 1 + j ≡ i + suc j
  shift i j = omega arith

  -- the sinks of a deck with these cells
  module _ (s : Shape) (leaf_count : ℕ) (cells : List (CellTrees × ℕ)) (same : s.cells ≡ cell_shapes (length pins) leaf_count cells) where
    dynamic_named : (k clock : ℕ) (c : CellTrees) → map_tree name (dynamic_nets k (cell_shape (length pins) leaf_count clock c).right) ≡ dynamic_names k c
    dynamic_named k clock (Simple t) = refl
    dynamic_named k clock (Compound l r) = refl

    nets_named : (ps : List (CellTrees × ℕ)) (j k : ℕ) → map_tree name (cell_nets k (slice_get (cell_shapes (length pins) leaf_count ps) j)) ≡ cell_names k (slice_get ps j)
    nets_named [] j k = refl
    nets_named (p ∷ ps) zero k = dynamic_named k p.1 p.0
    nets_named (p ∷ ps) (suc j) k = nets_named ps j k

    end_named : (e : SinkEnd) → sink_tree pins cells e ≡ map_tree name (gate_tree s (end_gate (length pins) e))
    end_named (Fixed false) = refl
    end_named (Fixed true) = refl
    end_named (OfLeaf leaf true) = ap Leaf (end_name pins outs (OfLeaf leaf true))
    end_named (OfLeaf leaf false) = ap Leaf (end_name pins outs (OfLeaf leaf false))
    end_named (OfOutput k) = refl
    end_named (OfDynamic k) = sym (ap (λ cs. map_tree name (cell_nets k (slice_get cs k))) same ∙ nets_named cells k k)

    nexts_named : (j : ℕ) (starts : List Bool) (es : List SinkEnd) → length starts ≡ length es
        → flat_map (λ (p : List ℕ × SinkEnd). static_gate p.0 (sink_tree pins cells p.1)) (zip (map (λ p. data_net p.0) (enumerate_from j starts)) es)
        ≡ by_name (law.next_cards s j (map (latch_shape (length pins)) (zip starts es)))
    nexts_named j [] es fit = refl
    nexts_named j (b ∷ starts) [] fit = absurd (omega arith)
    nexts_named j (b ∷ starts) (e ∷ es) fit =
        let t = gate_tree s (end_gate (length pins) e) in
        ap₂ (λ a b. a ++ b) (ap (static_gate (data_net j)) (end_named e) ∙ static_named (Next j) (data_net j) (λ spot. refl) t) (nexts_named (j + 1) starts es (omega arith))
        ∙ sym (map-append (map_device name) (law.static_cards (Next j) t) (law.next_cards s (j + 1) (map (latch_shape (length pins)) (zip starts es))))

    -- the sinks of the outputs from number i on, and those of the latches
    sinks_from : (starts : List Bool) (i : ℕ) (os : List (List ℕ)) (es : List SinkEnd) → length es ≡ length os + length starts
        → ((j : ℕ) → slice_index_or outs (i + j) [] ≡ slice_index_or os j [])
        → flat_map (λ (p : List ℕ × SinkEnd). static_gate p.0 (sink_tree pins cells p.1)) (zip (sink_nets os starts) es)
        ≡ by_name (law.output_cards s i (map (end_gate (length pins)) (take (length os) es)) ++ law.next_cards s 0 (map (latch_shape (length pins)) (zip starts (drop (length os) es))))
    sinks_from starts i [] es fit at = nexts_named 0 starts es (omega arith)
    sinks_from starts i (o ∷ os) [] fit at = absurd (omega arith)
    sinks_from starts i (o ∷ os) (e ∷ es) fit at =
        let here : o ≡ slice_index_or outs i [] = sym (at 0) ∙ ap (λ n. slice_index_or outs n []) (add-zero i) in
        let t = gate_tree s (end_gate (length pins) e) in
        let first = law.static_cards (Sink i) t in
        let rest = law.output_cards s (i + 1) (map (end_gate (length pins)) (take (length os) es)) in
        let nexts = law.next_cards s 0 (map (latch_shape (length pins)) (zip starts (drop (length os) es))) in
        ap₂ (λ a b. a ++ b) (ap₂ static_gate here (end_named e) ∙ static_named (Sink i) (slice_index_or outs i []) (λ spot. refl) t)
        (sinks_from starts (i + 1) os es (omega arith) (λ j. ap (λ n. slice_index_or outs n []) (shift i j) ∙ at (suc j)))
        ∙ sym (map-append (map_device name) first (rest ++ nexts))
        ∙ ap by_name (sym (append_assoc first rest nexts))

    sinks_named : (starts : List Bool) (es : List SinkEnd) → length es ≡ length outs + length starts
        → flat_map (λ (p : List ℕ × SinkEnd). static_gate p.0 (sink_tree pins cells p.1)) (zip (sink_nets outs starts) es)
        ≡ by_name (law.output_cards s 0 (map (end_gate (length pins)) (take (length outs) es)) ++ law.next_cards s 0 (map (latch_shape (length pins)) (zip starts (drop (length outs) es))))
    sinks_named starts es fit = sinks_from starts 0 outs es fit (λ j. ap (λ n. slice_index_or outs n []) (zero-add j))

clocks_some : (phases high : ℕ) (ps : List (CellTrees × ℕ)) → AllByRecursion (λ (p : CellTrees × ℕ). 1 ≤ p.1) (map (λ (p : CellTrees × ℕ). (p.0, clock_of phases high p.1)) ps)
clocks_some phases high [] = tt
clocks_some phases high (p ∷ ps) = (omega arith, clocks_some phases high ps)

cards_same : (network : NetworkData) (phases : ℕ) (plan : List CellTrees) (levels : List ℕ) (es : List SinkEnd) → length es ≡ length (outs_of network) + length (starts_of network)
    → named_devices (pins_of network) (outs_of network) (starts_of network) (clocked phases levels plan) (complements_of network (whole_cells phases levels plan) es) es
    ≡ map (map_device (deck_name (pins_of network) (outs_of network))) (law.shape_cards (network_shape network phases plan levels es))
cards_same network phases plan levels es fit =
    let pins = pins_of network in
    let outs = outs_of network in
    let starts = starts_of network in
    let leaf_count : ℕ = length pins + length starts in
    let cells = clocked phases levels plan in
    let complements = complements_of network (whole_cells phases levels plan) es in
    let s : Shape = network_shape network phases plan levels es in
    let name = deck_name pins outs in
    let of_cells = flat_map (λ (p : ℕ × (CellTrees × ℕ)). named_cell (named_gate pins leaf_count) p.1.1 p.0 p.1.0) (enumerate_from 0 cells) in
    let of_complements = flat_map (named_complement pins) complements in
    let of_latches = flat_map named_latch (enumerate_from 0 starts) in
    let of_sinks = flat_map (λ (p : List ℕ × SinkEnd). static_gate p.0 (sink_tree pins cells p.1)) (zip (sink_nets outs starts) es) in
    let to_cells = law.cell_cards WithPrecharge 0 s.cells in
    let to_complements = law.complement_cards s.complements in
    let to_latches = law.latch_cards 0 s.latches in
    let to_sinks = law.output_cards s 0 s.outputs ++ law.next_cards s 0 s.latches in
    let latch_ends : length starts ≡ length (drop (length outs) es) = omega (arith, length-drop (length outs) es, fit) in
    ap (λ l. l ++ of_sinks) (append_assoc of_cells of_complements of_latches)
    ∙ append_assoc of_cells (of_complements ++ of_latches) of_sinks
    ∙ ap (λ l. of_cells ++ l) (append_assoc of_complements of_latches of_sinks)
    ∙ ap₂ (λ a b. a ++ b) (cells_named pins outs leaf_count 0 cells (clocks_some phases (greatest levels) (zip plan levels)))
    (ap₂ (λ a b. a ++ b) (complements_same pins outs complements)
    (ap₂ (λ a b. a ++ b) (latches_same pins outs 0 starts (drop (length outs) es) latch_ends) (sinks_named pins outs s leaf_count cells refl starts es fit) ∙ sym (map-append (map_device name) to_latches to_sinks))
    ∙ sym (map-append (map_device name) to_complements (to_latches ++ to_sinks)))
    ∙ sym (map-append (map_device name) to_cells (to_complements ++ (to_latches ++ to_sinks)))

pub decks_are_pushed : DecksArePushed
decks_are_pushed = λ network phases cells levels signs ends fit.
    ap (with_devices (new_circuit (escaped network.name) (phases_of_sinks network signs) phases (pins_of network) (outs_of network))) (sym (cards_same network phases cells levels ends fit))
