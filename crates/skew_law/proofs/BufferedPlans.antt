-- The plan of a deck with chains of buffers has the shape with chains of buffers.
use Rattle.domino_cell.specs.declared.style.Style.TheVariants.{Keeper as WithKeeper}
use Rattle.std.specs.Prelude.{Some, drop, if◌then◌else◌, nat_eq, nat_lt, slice_get, take, ◌*◌, ◌/◌, ◌==◌, ◌%◌, ◌||◌}
use Rattle.std.specs.List.{zip}
use Rattle.std.proofs.Common.{Bool, List, None, [], ap, ap₂, arith, false, length, length-drop, map, refl, suc, sym, true, zero, ℕ, ◌++◌, ◌+◌, ◌-◌, ◌∙◌, ◌∷◌, ◌≡◌, ◌≤◌}
use Rattle.std.proofs.lemmas.Bool.{ltb-true}
use Rattle.std.proofs.lemmas.List.Folds.{list_any-append}
use Rattle.dom_base.proofs.Bools.{or_false}
use Rattle.std.proofs.lemmas.List.{drop-map, map-append, take-append-drop, take-map}
use Rattle.sp_network.specs.Tree.{Leaf, Parallel, Series, Tree, map_tree}
use Rattle.clock_phase.specs.Levels.{cells_read, greatest}
use Rattle.deck_form.specs.DeckNets.{CellPlan, Fixed, OfDynamic, OfLeaf, OfOutput, SinkEnd}
use Rattle.port_runs.specs.declared.clocking.Clocking.TheVariants.{Overlapping}
use Rattle.domino_law.specs.Nets.{FromDynamic, FromOutput}
use Rattle.domino_law.specs.Shape.{DominoCell, Latch, Shape, overlapping}
use Rattle.deck_law.specs.NetNames.{cell_shape, deck_shape, end_gate, gate_of, latch_shape, leaf_signal, rail_of}
use Rattle.phase_buffer.specs.Buffers.{buffered, ended, ended_latch, is_of, reads, shape_cells, sinks, taken, takes}
use Rattle.phase_buffer.specs.BufferedPlans.{DeckPlan, is_among, new_gate, plan_cells}
use Rattle.phase_buffer.specs.Chains.{Cells, chain, chain_last, chain_length, clock_at, moved, place, reader_clocks, taken_at, with_chains}
use Rattle.synth_flow.specs.BufferedDecks.{cells_taken, new_end}

-- gates as the numbers of a plan and as those of a shape
module _ (pins leaves : ℕ) where
  pub behind : (n : ℕ) → gate_of pins leaves (2 * leaves + n) ≡ FromOutput n
  behind n = by (nat_lt (2 * leaves + n) (2 * leaves)) refl
    where
      sum : (a n : ℕ) → a + n - a ≡ n
      sum a n = omega arith

      by : (b : Bool) → nat_lt (2 * leaves + n) (2 * leaves) ≡ b → gate_of pins leaves (2 * leaves + n) ≡ FromOutput n
      by true e = absurd (let lt = ltb-true (2 * leaves + n) (2 * leaves) e in omega (arith, lt))
      by false e = rw e (ap FromOutput (sum (2 * leaves) n))

  of_no_rail : (k leaf : ℕ) (plus : Bool) → is_of k (rail_of pins leaf plus) ≡ false
  of_no_rail k leaf true = refl
  of_no_rail k leaf false = refl

  pub reads_same : (k : ℕ) (t : Tree ℕ) → reads k (map_tree (gate_of pins leaves) t) ≡ is_among k (cells_read leaves t)
  reads_same k (Leaf gate) = by (nat_lt gate (2 * leaves)) refl
    where
      by : (b : Bool) → nat_lt gate (2 * leaves) ≡ b → is_of k (gate_of pins leaves gate) ≡ is_among k (cells_read leaves (Leaf gate))
      by true e = rw e (of_no_rail k (gate / 2) (gate % 2 == 0))
      by false e = rw e (sym (or_false (gate - 2 * leaves == k)))
  reads_same k (Series l r) = rw (reads_same k l, reads_same k r) (sym (list_any-append (λ j. j == k) (cells_read leaves l) (cells_read leaves r)))
  reads_same k (Parallel l r) = rw (reads_same k l, reads_same k r) (sym (list_any-append (λ j. j == k) (cells_read leaves l) (cells_read leaves r)))

  pub takes_same : (k : ℕ) (ends : List SinkEnd) → takes k (map (end_gate pins) ends) ≡ is_among k (cells_taken ends)
  takes_same k [] = refl
  takes_same k (Fixed true ∷ ends) = takes_same k ends
  takes_same k (Fixed false ∷ ends) = takes_same k ends
  takes_same k (OfLeaf leaf true ∷ ends) = takes_same k ends
  takes_same k (OfLeaf leaf false ∷ ends) = takes_same k ends
  takes_same k (OfDynamic j ∷ ends) = ap (λ b. nat_eq j k || b) (takes_same k ends)
  takes_same k (OfOutput j ∷ ends) = ap (λ b. nat_eq j k || b) (takes_same k ends)

greatest_pred : (ns : List ℕ) → greatest (map (λ n. n - 1) ns) ≡ greatest ns - 1
greatest_pred [] = refl
greatest_pred (n ∷ ns) = let e = greatest_pred ns in omega (arith, e)

-- a shape of the plan
pub record IsShapeOf (pins : ℕ) (p : DeckPlan) (ends : List SinkEnd) (s : Shape) : Type 0 where
  pub clocks_are : s.clocks ≡ p.clocks
  pub cells_are : s.cells ≡ map (cell_shape pins p.leaves) p.cells
  pub sinks_are : sinks s ≡ map (end_gate pins) ends
  pub taken_are : p.sinks ≡ cells_taken ends
  pub clocked : (k : ℕ) (c : CellPlan) → slice_get p.cells k ≡ Some c → 1 ≤ c.clock

module _ (pins : ℕ) (p : DeckPlan) (ends : List SinkEnd) (s : Shape) (is : IsShapeOf pins p ends s) where
  -- both are decks of cells with chains; the clocks of the shape are one less
  abbrev old : Cells DominoCell
  old = shape_cells s

  abbrev plan : Cells CellPlan
  plan = plan_cells p

  readers_same : (k : ℕ) (cs : List CellPlan) → reader_clocks old k (map (cell_shape pins p.leaves) cs) ≡ map (λ n. n - 1) (reader_clocks plan k cs)
  readers_same k [] = refl
  readers_same k (c ∷ cs) = by (is_among k (cells_read p.leaves c.tree)) refl (readers_same k cs)
    where
      by : (b : Bool) → is_among k (cells_read p.leaves c.tree) ≡ b
          → reader_clocks old k (map (cell_shape pins p.leaves) cs) ≡ map (λ n. n - 1) (reader_clocks plan k cs)
          → reader_clocks old k (map (cell_shape pins p.leaves) (c ∷ cs)) ≡ map (λ n. n - 1) (reader_clocks plan k (c ∷ cs))
      by true e more = rw (reads_same pins p.leaves k c.tree, e) (ap (λ xs. (c.clock - 1) ∷ xs) more)
      by false e more = rw (reads_same pins p.leaves k c.tree, e) more

  clock_same : (cs : List CellPlan) (k : ℕ) → clock_at old (slice_get (map (cell_shape pins p.leaves) cs) k) ≡ clock_at plan (slice_get cs k) - 1
  clock_same [] k = refl
  clock_same (c ∷ cs) zero = refl
  clock_same (c ∷ cs) (suc k) = clock_same cs k

  some_clock : (cs : List CellPlan) → ((k : ℕ) (c : CellPlan) → slice_get cs k ≡ Some c → 1 ≤ c.clock) → (k : ℕ) → 1 ≤ clock_at plan (slice_get cs k)
  some_clock [] h k = omega arith
  some_clock (c ∷ cs) h zero = h 0 c refl
  some_clock (c ∷ cs) h (suc k) = some_clock cs (λ j d e. h (suc j) d e) k

  pub clock_is : (k : ℕ) → clock_at old (slice_get s.cells k) ≡ clock_at plan (slice_get p.cells k) - 1
  clock_is k = ap (λ cs. clock_at old (slice_get cs k)) is.cells_are ∙ clock_same p.cells k

  last_is : (k : ℕ) → chain_last old k ≡ chain_last plan k - 1
  last_is k = rw (is.sinks_are, takes_same pins p.leaves k ends, sym is.taken_are) (by (is_among k p.sinks) refl)
    where
      greatest_is : greatest (reader_clocks old k s.cells) ≡ greatest (reader_clocks plan k p.cells) - 1
      greatest_is = ap (λ cs. greatest (reader_clocks old k cs)) is.cells_are ∙ (ap greatest (readers_same k p.cells) ∙ greatest_pred (reader_clocks plan k p.cells))

      by : (b : Bool) → is_among k p.sinks ≡ b
          → (if is_among k p.sinks then s.clocks - 1 else greatest (reader_clocks old k s.cells) - 1) ≡ chain_last plan k - 1
      by true e = rw e (ap (λ n. n - 1) is.clocks_are)
      by false e = rw e (ap (λ n. n - 1) greatest_is)

  pub length_is : (k : ℕ) → chain_length old k ≡ chain_length plan k
  length_is k =
      let l = last_is k in
      let c = clock_is k in
      let some = some_clock p.cells is.clocked k in
      ap₂ (λ a b. a - b) l c ∙ less (chain_last plan k) (clock_at plan (slice_get p.cells k)) some
    where
      less : (a b : ℕ) → 1 ≤ b → a - 1 - (b - 1) ≡ a - b
      less a b some = omega (arith, some)

  pub place_is : (k : ℕ) → place old k ≡ place plan k
  place_is zero = refl
  place_is (suc k) = ap₂ (λ a b. a + 1 + b) (place_is k) (length_is k)

  taken_is : (clock j : ℕ) → taken_at old (clock - 1) j ≡ taken_at plan clock j
  taken_is clock j =
      ap₂ (λ a b. a + (clock - 1 - 1 - b)) (place_is j) (clock_is j)
      ∙ ap (λ n. place plan j + n) (less clock (clock_at plan (slice_get p.cells j)) (some_clock p.cells is.clocked j))
    where
      less : (a b : ℕ) → 1 ≤ b → a - 1 - 1 - (b - 1) ≡ a - 1 - b
      less a b some = omega (arith, some)

  pub gate_is : (clock gate : ℕ) → gate_of pins p.leaves (new_gate p.leaves (taken_at plan clock) gate) ≡ taken (taken_at old (clock - 1)) (gate_of pins p.leaves gate)
  gate_is clock gate = by (nat_lt gate (2 * p.leaves)) refl
    where
      rail : (leaf : ℕ) (plus : Bool) → rail_of pins leaf plus ≡ taken (taken_at old (clock - 1)) (rail_of pins leaf plus)
      rail leaf true = refl
      rail leaf false = refl

      by : (b : Bool) → nat_lt gate (2 * p.leaves) ≡ b → gate_of pins p.leaves (new_gate p.leaves (taken_at plan clock) gate) ≡ taken (taken_at old (clock - 1)) (gate_of pins p.leaves gate)
      by true e = rw (e, e) (rail (gate / 2) (gate % 2 == 0))
      by false e =
          rw e (behind pins p.leaves (taken_at plan clock (gate - 2 * p.leaves))
          ∙ ap FromOutput (sym (taken_is clock (gate - 2 * p.leaves))))

  tree_is : (clock : ℕ) (t : Tree ℕ) → map_tree (gate_of pins p.leaves) (map_tree (new_gate p.leaves (taken_at plan clock)) t) ≡ map_tree (taken (taken_at old (clock - 1))) (map_tree (gate_of pins p.leaves) t)
  tree_is clock (Leaf gate) = ap Leaf (gate_is clock gate)
  tree_is clock (Series l r) = ap₂ Series (tree_is clock l) (tree_is clock r)
  tree_is clock (Parallel l r) = ap₂ Parallel (tree_is clock l) (tree_is clock r)

  pub cell_is : (c : CellPlan) → cell_shape pins p.leaves (moved plan c) ≡ moved old (cell_shape pins p.leaves c)
  cell_is c = ap (λ t. record { clock = c.clock - 1; tree = t; right = None }) (tree_is c.clock c.tree)

  pub buffers_are : (at clock n : ℕ) → 1 ≤ clock → map (cell_shape pins p.leaves) (chain plan at clock n) ≡ chain old at (clock - 1) n
  buffers_are at clock zero some = refl
  buffers_are at clock (suc n) some =
      ap₂ (λ c more. c ∷ more) (ap₂ (λ a g. record { clock = a; tree = Leaf g; right = None }) (next clock some) (behind pins p.leaves at))
      (buffers_are (at + 1) (clock + 1) n (omega arith) ∙ ap (λ a. chain old (at + 1) a n) (next clock some))
    where
      next : (c : ℕ) → 1 ≤ c → c + 1 - 1 ≡ c - 1 + 1
      next c some = omega (arith, some)

  pub cells_are : (k : ℕ) (cs : List CellPlan) → ((j : ℕ) (c : CellPlan) → slice_get cs j ≡ Some c → 1 ≤ c.clock)
      → map (cell_shape pins p.leaves) (with_chains plan k cs) ≡ with_chains old k (map (cell_shape pins p.leaves) cs)
  cells_are k [] h = refl
  cells_are k (c ∷ cs) h =
      ap₂ (λ d more. d ∷ more) (cell_is c)
      (map-append (cell_shape pins p.leaves) (chain plan (place plan k) c.clock (chain_length plan k)) (with_chains plan (suc k) cs)
      ∙ ap₂ (λ a b. a ++ b)
      (buffers_are (place plan k) c.clock (chain_length plan k) (h 0 c refl)
      ∙ ap₂ (λ a n. chain old a (c.clock - 1) n) (sym (place_is k)) (sym (length_is k)))
      (cells_are (suc k) cs (λ j d e. h (suc j) d e)))

  pub end_is : (end : SinkEnd) → end_gate pins (new_end p end) ≡ ended s (end_gate pins end)
  end_is (Fixed true) = refl
  end_is (Fixed false) = refl
  end_is (OfLeaf leaf true) = refl
  end_is (OfLeaf leaf false) = refl
  end_is (OfDynamic k) = ap (λ n. FromDynamic n) (ap₂ (λ a b. a + b) (sym (place_is k)) (sym (length_is k)))
  end_is (OfOutput k) = ap (λ n. FromOutput n) (ap₂ (λ a b. a + b) (sym (place_is k)) (sym (length_is k)))

  pub ends_are : (es : List SinkEnd) → map (end_gate pins) (map (new_end p) es) ≡ map (ended s) (map (end_gate pins) es)
  ends_are [] = refl
  ends_are (end ∷ es) = ap₂ (λ g more. g ∷ more) (end_is end) (ends_are es)

  pub latches_are : (starts : List Bool) (es : List SinkEnd)
      → map (latch_shape pins) (zip starts (map (new_end p) es)) ≡ map (ended_latch s) (map (latch_shape pins) (zip starts es))
  latches_are [] es = refl
  latches_are (start ∷ starts) [] = refl
  latches_are (start ∷ starts) (end ∷ es) =
      ap₂ (λ g more. record { init = start; next = g } ∷ more) (end_is end) (latches_are starts es)

-- the inputs of latches with as many ends
nexts_are : (pins : ℕ) (starts : List Bool) (ends : List SinkEnd) → length ends ≡ length starts
    → map (λ (b : Latch). b.next) (map (latch_shape pins) (zip starts ends)) ≡ map (end_gate pins) ends
nexts_are pins [] [] e = refl
nexts_are pins [] (end ∷ ends) e = absurd (omega (arith, e))
nexts_are pins (start ∷ starts) [] e = absurd (omega (arith, e))
nexts_are pins (start ∷ starts) (end ∷ ends) e = ap (λ more. end_gate pins end ∷ more) (nexts_are pins starts ends (omega (arith, e)))

-- a deck by names, its plan, and the plan with buffers
module _ (pins outs : List (List ℕ)) (starts : List Bool) (complements : List ℕ) (ends : List SinkEnd) (p : DeckPlan) (leaves_are : p.leaves ≡ length pins + length starts)
    (taken_are : p.sinks ≡ cells_taken ends) (one_end : length ends ≡ length outs + length starts) (clocked : (k : ℕ) (c : CellPlan) → slice_get p.cells k ≡ Some c → 1 ≤ c.clock) where
  abbrev pub old_shape : Shape
  old_shape = deck_shape WithKeeper p.clocks pins outs starts p.cells complements ends

  abbrev pub new_shape : Shape
  new_shape = deck_shape WithKeeper p.clocks pins outs starts (with_chains (plan_cells p) 0 p.cells) complements (map (new_end p) ends)

  pub shape_of : IsShapeOf (length pins) p ends old_shape
  shape_of = record {
    clocks_are = refl;
    cells_are = ap (λ n. map (cell_shape (length pins) n) p.cells) (sym leaves_are);
    sinks_are =
        ap (λ gates. map (end_gate (length pins)) (take (length outs) ends) ++ gates)
        (nexts_are (length pins) starts (drop (length outs) ends) (omega (arith, length-drop (length outs) ends, one_end)))
        ∙ (sym (map-append (end_gate (length pins)) (take (length outs) ends) (drop (length outs) ends))
        ∙ ap (map (end_gate (length pins))) (take-append-drop (length outs) ends));
    taken_are = taken_are;
    clocked = clocked;
  }

  cells_same : new_shape.cells ≡ (buffered old_shape).cells
  cells_same =
      ap (λ n. map (cell_shape (length pins) n) (with_chains (plan_cells p) 0 p.cells)) (sym leaves_are)
      ∙ (cells_are (length pins) p ends old_shape shape_of 0 p.cells clocked
      ∙ ap (λ n. with_chains (shape_cells old_shape) 0 (map (cell_shape (length pins) n) p.cells)) leaves_are)

  latches_same : new_shape.latches ≡ (buffered old_shape).latches
  latches_same =
      ap (λ es. map (latch_shape (length pins)) (zip starts es)) (drop-map (new_end p) (length outs) ends)
      ∙ latches_are (length pins) p ends old_shape shape_of starts (drop (length outs) ends)

  outputs_same : new_shape.outputs ≡ (buffered old_shape).outputs
  outputs_same =
      ap (map (end_gate (length pins))) (take-map (new_end p) (length outs) ends)
      ∙ ends_are (length pins) p ends old_shape shape_of (take (length outs) ends)

  pub shape_same : overlapping new_shape ≡ buffered old_shape
  shape_same = λ i. record {
    style = WithKeeper;
    clocking = Overlapping;
    pins = length pins;
    clocks = p.clocks;
    complements = map (leaf_signal (length pins)) complements;
    cells = cells_same i;
    latches = latches_same i;
    outputs = outputs_same i;
  }
