-- The own run of a planned deck of a network is the network's run.
use Rattle.std.specs.Prelude.{None, ◌==◌, slice_index_or}
use Rattle.std.specs.List.{range_with_len, zip}
use Rattle.std.proofs.Common.{Bool, List, [], ap, ap₂, arith, cond, false, true, length, map, not, refl, subst, suc, sym, take, drop, zero, ℕ, ◌*◌, ◌/◌, ◌%◌, ◌++◌, ◌+◌, ◌-◌, ◌<◌, ◌≤◌, ◌∙◌, ◌∷◌, ◌≡◌, Some, slice_get, nat_lt, ltb-true, ltb-false, eq-eqb, length-append, length-take, length-drop}
use Rattle.std.proofs.lemmas.Option.{get_or_from_slice_get, slice_get_within}
use Rattle.std.proofs.Math.Bool.{not-not}
use Rattle.dom_base.proofs.Lists.{All-at, slice_get-append, slice_get-behind, slice_get-there}
use Rattle.deck.specs.CircuitData.{CircuitData}
use Rattle.sp_network.specs.Tree.{EachLeaf, Leaf, Parallel, Series, Tree, joins, map_tree}
use Rattle.network.specs.declared.network.NetLatch.{NetLatch}
use Rattle.network.specs.NetworkData.{NetworkData}
use Rattle.network.specs.Networks.{IsNetwork}
use Rattle.net_run.specs.Runs.{value_at}
use Rattle.gate_decompose.specs.Needed.{signed}
use Rattle.gate_decompose.specs.NetworkOrder.{IsOrderedNetwork}
use Rattle.gate_decompose.specs.Sinks.{sink_signals}
use Rattle.gate_decompose.specs.Values.{AreNodeValues, AreSignalValues}
use Rattle.gate_decompose.proofs.GateValues.{sinks_have_values}
use Rattle.dual_rail.specs.declared.forest.End.{End}
use Rattle.dual_rail.specs.declared.forest.End.TheVariants.{Const, FromDynamic as end_dynamic, FromOutput as end_output, Literal}
use Rattle.dual_rail.specs.ForestData.{ForestData}
use Rattle.dual_rail.specs.ForestValues.{ArePairValues, end_bit}
use Rattle.dual_rail.specs.Forests.{IsPairOf, end_uses, is_end_from}
use Rattle.dual_rail.proofs.Zips.{all_zip_back}
use Rattle.dual_rail.proofs.PairValues.{ends_have_values, pairs_have_values}
use Rattle.tree_map.specs.Plans.{IsTreeOf, cell_of, roots}
use Rattle.tree_map.proofs.PlanValues.{trees_have_values}
use Rattle.clock_phase.specs.Levels.{clock_of, greatest}
use Rattle.domino_law.specs.Nets.{Gate, Minus, Plus, DeckSignal}
use Rattle.domino_law.specs.OwnRun.{bit_at, cell_bit, cell_bits, gate_bit, next_state, outputs_of, own_bit, signal_bit, sink_bit}
use Rattle.domino_law.specs.Shape.{DominoCell, Latch, Shape}
use Rattle.domino_law.proofs.SimpleCells.{simple_bit}
use Rattle.deck_form.specs.ChosenDecks.{IsPlannedDeck, end_at_cell}
use Rattle.deck_form.specs.DeckNets.{CellPlan, SinkEnd}
use Rattle.deck_form.specs.DeckOptions.{DeckOptions}
use Rattle.deck_form.specs.DominoDecks.{cells_of, outs_of, pins_of, starts_of}
use Rattle.deck_form.proofs.CellOrder.{root_of_cell, tree_reads}
use Rattle.deck_form.proofs.DeckForms.{cell_within, counted, leaves_are, root_end, zipped_get, length_map, zip_length, forest_in_place}
use Rattle.deck_law.specs.NetNames.{cell_shape, deck_shape, end_gate, gate_of, latch_shape, rail_of, leaf_signal}
use Rattle.deck_law.proofs.ForestBits.{gate_value, gate_values, nodes_there, pairs_there, root_back, root_of}
use Rattle.deck_law.proofs.BitsInTurn.{filled, filled-at}
use Rattle.deck_law.proofs.SpelledDecks.{taken_get}
use Rattle.network.proofs.Lists.{get_of_map, get_map}
use Rattle.gate_decompose.specs.GatesOrder.{AreInPlace, AreOrderedGates}
use Rattle.gate_decompose.proofs.GatesOrder.{gates_are_ordered, network_gates_are_in_place}
use Rattle.gate_decompose.proofs.NetworkOrder.{networks_are_ordered}
use Rattle.dual_rail.specs.ForestOrder.{IsEndOfForest, IsForestInPlace}
use Rattle.net_run.specs.Runs as run

joins_same : (f : ℕ → Gate) (test : Gate → Bool) (test' : ℕ → Bool) (t : Tree ℕ) → EachLeaf (λ g. test (f g) ≡ test' g) t → joins test (map_tree f t) ≡ joins test' t
joins_same f test test' (Leaf g) h = h
joins_same f test test' (Series l r) h = ap₂ (λ a b. cond a b false) (joins_same f test test' l h.0) (joins_same f test test' r h.1)
joins_same f test test' (Parallel l r) h = ap₂ (λ a b. cond a true b) (joins_same f test test' l h.0) (joins_same f test test' r h.1)

joins_alike : (f : ℕ → Gate) (test test' : Gate → Bool) (t : Tree ℕ) → EachLeaf (λ g. test (f g) ≡ test' (f g)) t → joins test (map_tree f t) ≡ joins test' (map_tree f t)
joins_alike f test test' (Leaf g) h = h
joins_alike f test test' (Series l r) h = ap₂ (λ a b. cond a b false) (joins_alike f test test' l h.0) (joins_alike f test test' r h.1)
joins_alike f test test' (Parallel l r) h = ap₂ (λ a b. cond a true b) (joins_alike f test test' l h.0) (joins_alike f test test' r h.1)

each_more : (P Q : ℕ → Type 0) (t : Tree ℕ) → ((g : ℕ) → P g → Q g) → EachLeaf P t → EachLeaf Q t
each_more P Q (Leaf g) h e = h g e
each_more P Q (Series l r) h e = (each_more P Q l h e.0, each_more P Q r h e.1)
each_more P Q (Parallel l r) h e = (each_more P Q l h e.0, each_more P Q r h e.1)

cell_filled : (signal : DeckSignal → Bool) (cs : List DominoCell) (before : List Bool) → cell_bits signal cs before ≡ filled (λ l (c : DominoCell). cell_bit (gate_bit signal l) c.tree c.right) cs before
cell_filled signal [] before = refl
cell_filled signal (c ∷ cs) before = cell_filled signal cs (before ++ cell_bit (gate_bit signal before) c.tree c.right ∷ [])

pub map_ext : {X Y Z : Type 0} (f : X → Z) (g : Y → Z) (xs : List X) (ys : List Y) → length xs ≡ length ys
    → ((k : ℕ) (x : X) (y : Y) → slice_get xs k ≡ Some x → slice_get ys k ≡ Some y → f x ≡ g y) → map f xs ≡ map g ys
map_ext f g [] [] same h = refl
map_ext f g [] (y ∷ ys) same h = absurd (omega arith)
map_ext f g (x ∷ xs) [] same h = absurd (omega arith)
map_ext f g (x ∷ xs) (y ∷ ys) same h = ap₂ (λ a b. a ∷ b) (h 0 x y refl refl) (map_ext f g xs ys (omega arith) (λ k a b e e'. h (suc k) a b e e'))

pub range_length : (a n : ℕ) → length (range_with_len a n) ≡ n
range_length a zero = refl
range_length a (suc n) = ap suc (range_length (a + 1) n)

drop_get : {X : Type 0} (n : ℕ) (xs : List X) (i : ℕ) (x : X) → slice_get (drop n xs) i ≡ Some x → slice_get xs (n + i) ≡ Some x
drop_get zero xs i x e = subst (λ m. slice_get xs m ≡ Some x) (more i) e
  where
    more : (i : ℕ) → i ≡ 0 + i
    more i = omega arith
drop_get (suc n) [] i x e = absurd (cc)
drop_get (suc n) (y ∷ xs) i x e = subst (λ m. slice_get (y ∷ xs) m ≡ Some x) (more n i) (drop_get n xs i x e)
  where
    more : (n i : ℕ) → suc (n + i) ≡ suc n + i
    more n i = omega arith

taken_at : (n : ℕ) (xs : List Bool) (i : ℕ) → i < n → slice_index_or (take n xs) i false ≡ slice_index_or xs i false
taken_at zero xs i lt = absurd (omega arith)
taken_at (suc n) [] i lt = refl
taken_at (suc n) (x ∷ xs) zero lt = refl
taken_at (suc n) (x ∷ xs) (suc i) lt = taken_at n xs i (omega arith)

dropped_at : (n : ℕ) (xs : List Bool) (i : ℕ) → slice_index_or (drop n xs) i false ≡ slice_index_or xs (n + i) false
dropped_at zero xs i = ap (λ m. slice_index_or xs m false) (more i)
  where
    more : (i : ℕ) → i ≡ 0 + i
    more i = omega arith
dropped_at (suc n) [] i = refl
dropped_at (suc n) (x ∷ xs) i = dropped_at n xs i ∙ ap (λ m. slice_index_or (x ∷ xs) m false) (more n i)
  where
    more : (n i : ℕ) → suc (n + i) ≡ suc n + i
    more n i = omega arith

-- one end for each sink
pub planned_end_count : {network : NetworkData} {options : DeckOptions} {circuit : CircuitData} (is : IsPlannedDeck network options circuit)
    → length (map (end_at_cell is.kept) is.forest.ends) ≡ length network.outputs + length network.latches
planned_end_count {network = network} is =
    omega (arith, length_map (end_at_cell is.kept) is.forest.ends, is.is_forest.ends_count, ap length is.are_gates.sinks_are ∙ length_map _ (sink_signals network), length-append network.outputs (map (λ (l : NetLatch). l.input) network.latches), length_map (λ (l : NetLatch). l.input) network.latches)

module _ {network : NetworkData} {options : DeckOptions} {circuit : CircuitData} (is : IsPlannedDeck network options circuit)
    (net_is : IsNetwork network)
    (complements : List ℕ) (pins state : List Bool) (cycle : run.Cycle) (is_cycle : run.IsNetworkCycle network pins state cycle) where
  ordered : IsOrderedNetwork network
  ordered = networks_are_ordered network net_is

  in_place : AreInPlace is.gates
  in_place = network_gates_are_in_place network is.gates ordered is.are_gates

  gate_order : AreOrderedGates is.gates
  gate_order = gates_are_ordered is.gates in_place

  forest_is : IsForestInPlace is.forest
  forest_is = forest_in_place network options circuit is ordered

  abbrev P : ℕ
  P = length (pins_of network)

  abbrev value : ℕ → Bool
  value = value_at is_cycle.values

  abbrev forest : ForestData
  forest = is.forest

  abbrev kept : List Bool
  kept = is.kept

  abbrev s : Shape
  s = deck_shape options.style options.phases (pins_of network) (outs_of network) (starts_of network) (cells_of options.phases is.levels is.trees) complements (map (end_at_cell is.kept) is.forest.ends)

  pin_count : P ≡ network.inputs
  pin_count = length_map _ (range_with_len 0 network.inputs) ∙ range_length 0 network.inputs

  start_count : length (starts_of network) ≡ length network.latches
  start_count = length_map _ network.latches

  leaf_total : length (pins_of network) + length (starts_of network) ≡ forest.leaves
  leaf_total = ap₂ (λ m n. m + n) pin_count start_count ∙ sym (leaves_are network options circuit is forest_is.in_order forest_is.has_leaves forest_is.has_ends)

  valuation : AreSignalValues network value
  valuation = λ k t e. is_cycle.valuation.tables k t e

  node : (node : ℕ → Bool) × AreNodeValues is.gates value node
  node = nodes_there is.gates value gate_order

  pair : (pair : ℕ → Bool) × ArePairValues is.forest value pair × ((n : ℕ) → length is.forest.pairs ≤ n → pair n ≡ false)
  pair = pairs_there is.forest value forest_is.in_order

  abbrev signal : DeckSignal → Bool
  signal = signal_bit (bit_at pins) (bit_at state)

  signal_value : (leaf : ℕ) → leaf < forest.leaves → signal (leaf_signal P leaf) ≡ value leaf
  signal_value leaf low = by (nat_lt leaf P) refl
    where
      by : (b : Bool) → nat_lt leaf P ≡ b → signal (leaf_signal P leaf) ≡ value leaf
      by true e =
          let lt : leaf < network.inputs = omega (arith, ltb-true leaf P e, pin_count) in
          rw e (ap (λ l. bit_at l leaf) (sym is_cycle.valuation.inputs) ∙ taken_at network.inputs is_cycle.values leaf lt)
      by false e =
          let le : P ≤ leaf = ltb-false leaf P e in
          let lt : leaf - P < length network.latches = omega (arith, le, low, leaf_total, start_count) in
          let back : network.inputs + (leaf - P) ≡ leaf = omega (arith, le, pin_count) in
          rw e
          (ap (λ l. bit_at l (leaf - P)) (sym is_cycle.valuation.latches)
          ∙ taken_at (length network.latches) (drop network.inputs is_cycle.values) (leaf - P) lt
          ∙ dropped_at network.inputs is_cycle.values (leaf - P)
          ∙ ap value back)

  one_each : length is.kept ≡ length is.forest.pairs
  one_each = is.is_plan.one_each

  abbrev root : ℕ → ℕ
  root k = root_of is.forest is.kept value pair.0 one_each pair.2 k

  abbrev gate : ℕ → Bool
  gate g = gate_value is.forest is.kept value pair.0 one_each pair.2 g

  -- a gate of a tree has its value, where the cells before have theirs
  gate_same : (bits : List Bool) (k : ℕ) → ((j : ℕ) → j < k → bit_at bits j ≡ pair.0 (root j)) → (g : ℕ) → g < 2 * forest.leaves + k → gate_bit signal bits (gate_of P forest.leaves g) ≡ gate g
  gate_same bits k known g low = by (nat_lt g (2 * forest.leaves)) refl
    where
      rail : (leaf : ℕ) (b : Bool) → leaf < forest.leaves → gate_bit signal bits (rail_of P leaf b) ≡ signed b (value leaf)
      rail leaf true lt = signal_value leaf lt
      rail leaf false lt = ap not (signal_value leaf lt)

      by : (b : Bool) → nat_lt g (2 * forest.leaves) ≡ b → gate_bit signal bits (gate_of P forest.leaves g) ≡ gate g
      by true e = let lt = ltb-true g (2 * forest.leaves) e in rw e (rail (g / 2) (g % 2 == 0) (omega (arith, lt)))
      by false e = let le = ltb-false g (2 * forest.leaves) e in rw e (known (g - 2 * forest.leaves) (omega (arith, le, low)))

  gate_alike : (a b : List Bool) (k : ℕ) → ((j : ℕ) → j < 0 + k → bit_at a j ≡ bit_at b j) → (g : ℕ) → g < 2 * forest.leaves + k
      → gate_bit signal a (gate_of P forest.leaves g) ≡ gate_bit signal b (gate_of P forest.leaves g)
  gate_alike a b k same g low = by (nat_lt g (2 * forest.leaves)) refl
    where
      rail : (leaf : ℕ) (t : Bool) → gate_bit signal a (rail_of P leaf t) ≡ gate_bit signal b (rail_of P leaf t)
      rail leaf true = refl
      rail leaf false = refl

      by : (t : Bool) → nat_lt g (2 * forest.leaves) ≡ t → gate_bit signal a (gate_of P forest.leaves g) ≡ gate_bit signal b (gate_of P forest.leaves g)
      by true e = rw e (rail (g / 2) (g % 2 == 0))
      by false e = let le = ltb-false g (2 * forest.leaves) e in rw e (same (g - 2 * forest.leaves) (omega (arith, le, low)))

  -- the cells, with the forest's count of leaves
  abbrev cells : List DominoCell
  cells = map (cell_shape P forest.leaves) (cells_of options.phases is.levels is.trees)

  cells_same : s.cells ≡ cells
  cells_same = ap (λ n. map (cell_shape P n) (cells_of options.phases is.levels is.trees)) leaf_total

  record IsCellOf (k : ℕ) (c : DominoCell) : Type 0 where
    tree : Tree ℕ
    tree_is : c.tree ≡ map_tree (gate_of P forest.leaves) tree
    simple : c.right ≡ None
    place : ℕ
    root_is : root k ≡ place
    of_place : IsTreeOf is.forest is.kept place tree
    low : EachLeaf (λ g. g < 2 * forest.leaves + k) tree

  cell_of_at : (k : ℕ) (c : DominoCell) → slice_get cells k ≡ Some c → IsCellOf k c
  cell_of_at k c e =
      let m = get_of_map (cell_shape P forest.leaves) (cells_of options.phases is.levels is.trees) k c e in
      let n = get_of_map (λ (p : Tree ℕ × ℕ). record { tree = p.0; clock = clock_of options.phases (greatest is.levels) p.1 }) (zip is.trees is.levels) k m.0 m.1 in
      let z = zipped_get is.trees is.levels k n.0 n.1 in
      let r = all_zip_back (IsTreeOf is.forest is.kept) (roots is.kept) is.trees k (n.0).0 is.is_plan.trees_are z.0 in
      let at = root_of_cell is.kept k r.0 r.1 in
      record {
        tree = (n.0).0;
        tree_is = ap (λ (x : DominoCell). x.tree) (sym m.2) ∙ ap (λ (x : CellPlan). map_tree (gate_of P forest.leaves) x.tree) (sym n.2);
        simple = ap (λ (x : DominoCell). x.right) (sym m.2);
        place = r.0;
        root_is = get_or_from_slice_get (roots is.kept) k r.0 (length is.kept) r.1;
        of_place = r.2;
        low = subst (λ i. EachLeaf (λ g. g < 2 * forest.leaves + i) (n.0).0) at.0 (tree_reads is.forest is.kept forest_is.in_order forest_is.has_leaves r.0 (omega (arith, at.2)) (n.0).0 r.2);
      }

  abbrev bits : List Bool
  bits = cell_bits signal cells []

  abbrev cell_test : List Bool → DominoCell → Bool
  cell_test l c = cell_bit (gate_bit signal l) c.tree c.right

  cell_at : (k : ℕ) (c : DominoCell) → slice_get cells k ≡ Some c → bit_at bits k ≡ joins (gate_bit signal bits) c.tree
  cell_at k c e =
      subst (λ l. bit_at l k ≡ cell_bit (gate_bit signal l) c.tree c.right) (sym (cell_filled signal cells []))
      (filled-at cell_test cells reads k c e)
      ∙ simple_bit (gate_bit signal bits) c (cell_of_at k c e).simple
    where
      reads : (n : ℕ) (x : DominoCell) → slice_get cells n ≡ Some x → (a b : List Bool) → ((m : ℕ) → m < 0 + n → bit_at a m ≡ bit_at b m) → cell_test a x ≡ cell_test b x
      reads n x f a b same =
          let t = cell_of_at n x f in
          simple_bit (gate_bit signal a) x t.simple
          ∙ ap (joins (gate_bit signal a)) t.tree_is
          ∙ joins_alike (gate_of P forest.leaves) (gate_bit signal a) (gate_bit signal b) t.tree
          (each_more (λ g. g < 2 * forest.leaves + n) (λ g. gate_bit signal a (gate_of P forest.leaves g) ≡ gate_bit signal b (gate_of P forest.leaves g)) t.tree (λ g lt. gate_alike a b n same g lt) t.low)
          ∙ ap (joins (gate_bit signal b)) (sym t.tree_is)
          ∙ sym (simple_bit (gate_bit signal b) x t.simple)

  cells_count : length cells ≡ length is.trees
  cells_count = length_map (cell_shape P forest.leaves) (cells_of options.phases is.levels is.trees) ∙ length_map _ (zip is.trees is.levels) ∙ zip_length is.trees is.levels (sym is.levels_are.one_each)

  cell_value : (n k : ℕ) → k < n → k < length is.trees → bit_at bits k ≡ pair.0 (root k)
  cell_value zero k lt low = absurd (omega arith)
  cell_value (suc n) k lt low =
      let c = slice_get-there cells k (omega (arith, low, cells_count)) in
      let t = cell_of_at k c.0 c.1 in
      cell_at k c.0 c.1
      ∙ ap (joins (gate_bit signal bits)) t.tree_is
      ∙ joins_same (gate_of P forest.leaves) (gate_bit signal bits) gate t.tree
      (each_more (λ g. g < 2 * forest.leaves + k) (λ g. gate_bit signal bits (gate_of P forest.leaves g) ≡ gate g) t.tree
      (λ g under. gate_same bits k (λ j less. cell_value n j (omega (arith, less, lt)) (omega (arith, less, low))) g under) t.low)
      ∙ trees_have_values is.forest is.kept value pair.0 gate forest_is.has_leaves pair.1 (gate_values is.forest is.kept value pair.0 one_each pair.2) t.place t.tree t.of_place
      ∙ ap pair.0 (sym t.root_is)

  -- nodes have values in the cycle, and each cell has a root pair and the bit of the pair's node, with the pair's sign
  pub root_values : (of : ℕ → Bool) × AreNodeValues is.gates value of
      × ((k : ℕ) → k < length is.trees → (place : ℕ) × (p : ℕ × Bool) × (slice_get (roots is.kept) k ≡ Some place)
      × (slice_get is.forest.origin place ≡ Some p) × (own_bit s (bit_at pins) (bit_at state) k ≡ signed p.1 (of p.0)))
  root_values = (
    node.0,
    node.1,
    λ k low.
        let t = slice_get-there is.trees k low in
        let r = all_zip_back (IsTreeOf is.forest is.kept) (roots is.kept) is.trees k t.0 is.is_plan.trees_are t.1 in
        let x = slice_get-there is.forest.pairs r.0 (omega (arith, (root_of_cell is.kept k r.0 r.1).2, one_each)) in
        let o = all_zip_back (IsPairOf is.gates.nodes is.forest.origin) is.forest.origin is.forest.pairs r.0 x.0 is.is_forest.pairs_are x.1 in (
          r.0,
          o.0,
          r.1,
          o.1,
          ap (λ cs. bit_at (cell_bits signal cs []) k) cells_same
              ∙ (cell_value (suc k) k (omega arith) low
              ∙ (ap pair.0 (get_or_from_slice_get (roots is.kept) k r.0 (length is.kept) r.1)
              ∙ pairs_have_values is.gates is.signs is.forest value node.0 pair.0 in_place is.is_forest node.1 pair.1 r.0 o.0 o.1)),
        ),
  )

  -- what a sink's inverter makes is the value of its end
  output_bit : (k place : ℕ) → slice_get is.forest.ends k ≡ Some (end_output place) → bit_at bits (cell_of is.kept place) ≡ pair.0 place
  output_bit k place e = reach (All-at (IsEndOfForest is.forest) is.forest.ends k (end_output place) forest_is.has_ends e) (counted (is_end_from place) is.forest.ends k (end_output place) e (eq-eqb place place refl))
    where
      reach : place < length is.forest.pairs → 1 ≤ end_uses is.forest place → bit_at bits (cell_of is.kept place) ≡ pair.0 place
      reach low some =
          cell_value (suc (cell_of is.kept place)) (cell_of is.kept place) (omega arith) (cell_within network options circuit is forest_is.in_order forest_is.has_leaves forest_is.has_ends place low some)
          ∙ ap pair.0 (root_back is.kept place (omega (arith, low, one_each)) (root_end network options circuit is forest_is.in_order forest_is.has_leaves forest_is.has_ends place some))

  dynamic_bit : (k place : ℕ) → slice_get is.forest.ends k ≡ Some (end_dynamic place) → bit_at bits (cell_of is.kept place) ≡ pair.0 place
  dynamic_bit k place e = reach (All-at (IsEndOfForest is.forest) is.forest.ends k (end_dynamic place) forest_is.has_ends e) (counted (is_end_from place) is.forest.ends k (end_dynamic place) e (eq-eqb place place refl))
    where
      reach : place < length is.forest.pairs → 1 ≤ end_uses is.forest place → bit_at bits (cell_of is.kept place) ≡ pair.0 place
      reach low some =
          cell_value (suc (cell_of is.kept place)) (cell_of is.kept place) (omega arith) (cell_within network options circuit is forest_is.in_order forest_is.has_leaves forest_is.has_ends place low some)
          ∙ ap pair.0 (root_back is.kept place (omega (arith, low, one_each)) (root_end network options circuit is forest_is.in_order forest_is.has_leaves forest_is.has_ends place some))

  end_value : (k : ℕ) (e : End) → slice_get is.forest.ends k ≡ Some e → not (gate_bit signal bits (end_gate P (end_at_cell is.kept e))) ≡ end_bit value pair.0 e
  end_value k (Const false) at = refl
  end_value k (Const true) at = refl
  end_value k (Literal rail) at = by rail.plus
    where
      low : rail.leaf < forest.leaves
      low = All-at (IsEndOfForest is.forest) is.forest.ends k (Literal rail) forest_is.has_ends at

      by : (b : Bool) → not (gate_bit signal bits (cond b (Minus (leaf_signal P rail.leaf)) (Plus (leaf_signal P rail.leaf)))) ≡ signed b (value rail.leaf)
      by true = not-not (signal (leaf_signal P rail.leaf)) ∙ signal_value rail.leaf low
      by false = ap not (signal_value rail.leaf low)
  end_value k (end_dynamic place) at = not-not (bit_at bits (cell_of is.kept place)) ∙ dynamic_bit k place at
  end_value k (end_output place) at = ap not (output_bit k place at)

  sink_count : length is.gates.sinks ≡ length (sink_signals network)
  sink_count = ap length is.are_gates.sinks_are ∙ length_map _ (sink_signals network)

  -- and that of its signal
  sink_value : (k : ℕ) (e : End) (number : ℕ) → slice_get is.forest.ends k ≡ Some e → slice_get (sink_signals network) k ≡ Some number
      → sink_bit s (bit_at pins) (bit_at state) (end_gate P (end_at_cell is.kept e)) ≡ value number
  sink_value k e number at sink =
      let lt = slice_get_within (sink_signals network) k number sink in
      let r = slice_get-there is.gates.sinks k (omega (arith, lt, sink_count)) in
      let sign = slice_get-there is.signs k (omega (arith, lt, sink_count, is.is_forest.signs_are)) in
      ap (λ cs. not (gate_bit signal (cell_bits signal cs []) (end_gate P (end_at_cell is.kept e)))) cells_same
      ∙ end_value k e at
      ∙ ends_have_values is.gates is.signs is.forest value node.0 pair.0 in_place is.is_forest node.1 pair.1 k r.0 sign.0 e r.1 sign.1 at
      ∙ sinks_have_values network is.gates value node.0 ordered is.are_gates valuation node.1 k r.0 number r.1 sink

  abbrev at_cells : List SinkEnd
  at_cells = map (end_at_cell is.kept) is.forest.ends

  out_count : length (outs_of network) ≡ length network.outputs
  out_count = length_map _ network.outputs

  end_count : length at_cells ≡ length network.outputs + length network.latches
  end_count =
      omega (arith, length_map (end_at_cell is.kept) is.forest.ends, is.is_forest.ends_count, sink_count, length-append network.outputs (map (λ (l : NetLatch). l.input) network.latches), length_map (λ (l : NetLatch). l.input) network.latches)

  pub outputs_are : outputs_of s state pins ≡ cycle.outputs
  outputs_are =
      map_ext (sink_bit s (bit_at pins) (bit_at state)) value (map (end_gate P) (take (length (outs_of network)) at_cells)) network.outputs
      (omega (arith, length_map (end_gate P) (take (length (outs_of network)) at_cells), length-take (length (outs_of network)) at_cells, end_count, out_count))
      (λ k x y e f.
      let m = get_of_map (end_gate P) (take (length (outs_of network)) at_cells) k x e in
      let t = taken_get (length (outs_of network)) at_cells k m.0 m.1 in
      let o = get_of_map (end_at_cell is.kept) is.forest.ends k m.0 t in
      ap (sink_bit s (bit_at pins) (bit_at state)) (sym m.2 ∙ ap (end_gate P) (sym o.2))
      ∙ sink_value k o.0 y o.1 (slice_get-append network.outputs (map (λ (l : NetLatch). l.input) network.latches) k y f))
      ∙ sym is_cycle.outputs_are

  pub next_are : next_state s state pins ≡ cycle.next
  next_are =
      map_ext (λ (b : Latch). sink_bit s (bit_at pins) (bit_at state) b.next) (λ (l : NetLatch). value l.input) (map (latch_shape P) (zip (starts_of network) (drop (length (outs_of network)) at_cells))) network.latches
      (omega (arith, length_map (latch_shape P) (zip (starts_of network) (drop (length (outs_of network)) at_cells)), zip_length (starts_of network) (drop (length (outs_of network)) at_cells) fit, start_count))
      (λ k x y e f.
      let m = get_of_map (latch_shape P) (zip (starts_of network) (drop (length (outs_of network)) at_cells)) k x e in
      let z = zipped_get (starts_of network) (drop (length (outs_of network)) at_cells) k m.0 m.1 in
      let t = drop_get (length (outs_of network)) at_cells k (m.0).1 z.1 in
      let o = get_of_map (end_at_cell is.kept) is.forest.ends (length (outs_of network) + k) (m.0).1 t in
      ap (λ (b : Latch). sink_bit s (bit_at pins) (bit_at state) b.next) (sym m.2)
      ∙ ap (λ g. sink_bit s (bit_at pins) (bit_at state) (end_gate P g)) (sym o.2)
      ∙ sink_value (length (outs_of network) + k) o.0 y.input o.1
      (ap (λ n. slice_get (sink_signals network) (n + k)) out_count ∙ slice_get-behind network.outputs (map (λ (l : NetLatch). l.input) network.latches) k ∙ get_map (λ (l : NetLatch). l.input) network.latches k y f))
      ∙ sym is_cycle.next_is
    where
      fit : length (starts_of network) ≡ length (drop (length (outs_of network)) at_cells)
      fit = omega (arith, length-drop (length (outs_of network)) at_cells, end_count, out_count, start_count)
