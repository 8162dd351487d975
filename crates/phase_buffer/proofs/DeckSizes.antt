-- The devices of a deck with chains of buffers, counted.
use Rattle.std.specs.Prelude.{None, Some, count_by, slice_get, sum_by, ◌||◌}
use Rattle.std.specs.List.{list_any, range_with_len}
use Rattle.std.proofs.Common.{List, [], ap, arith, length, length-append, refl, subst, suc, sym, true, ℕ, ◌*◌, ◌++◌, ◌+◌, ◌∙◌, ◌∷◌, ◌≡◌, ◌≤◌}
use Rattle.std.proofs.lemmas.Bool.{eqb-true}
use Rattle.std.proofs.lemmas.List.{length-map}
use Rattle.std.proofs.lemmas.List.Sums.{sum_by-cons}
use Rattle.sp_network.specs.Tree.{leaves}
use Rattle.sp_network.proofs.TreeImages.{leaves-map_tree}
use Rattle.domino_law.specs.Nets.{FromDynamic, FromOutput, Gate, High, Low, Minus, Next, Part, Plus, Sink, left_side}
use Rattle.domino_cell.specs.declared.style.Style.TheVariants.{Keeper as WithKeeper}
use Rattle.domino_law.specs.Shape.{DominoCell, Latch, Shape, gate_tree}
use Rattle.domino_law.specs.Spelled.{cell_cards, complement_cards, latch_cards, next_cards, one_cell, one_latch, output_cards, shape_cards, static_cards}
use Rattle.domino_law.proofs.CellCards.{cells_have_cards}
use Rattle.domino_law.proofs.SimpleCells.{AreSimple, simple_gate}
use Rattle.domino_law.proofs.Statics.{left_is}
use Rattle.phase_buffer.specs.Buffers.{buffered, ended, ended_latch, is_of, shape_cells, sinks, taken, takes}
use Rattle.phase_buffer.specs.Chains.{taken_at}
use Rattle.phase_buffer.specs.Laws.{MayBeBuffered}
use Rattle.phase_buffer.specs.Sizes.{BufferedDecksAreSmall, BufferedDecksFit, HasFewClocks}
use Rattle.phase_buffer.proofs.BufferedShapes.{new_simple}
use Rattle.phase_buffer.proofs.ChainSizes.{buffer_count, buffers_most, devices_with_chains, numbers_few}

-- the devices of a simple cell with a keeper
abbrev cell_count : DominoCell → ℕ
cell_count c = leaves c.tree + 5

cells_count : (k : ℕ) (cs : List DominoCell) → ((i : ℕ) (c : DominoCell) → slice_get cs i ≡ Some c → c.right ≡ None)
    → length (cell_cards WithKeeper k cs) ≡ sum_by cell_count cs
cells_count k [] simple = refl
cells_count k (c ∷ cs) simple =
    let both = length-append (one_cell WithKeeper k c) (cell_cards WithKeeper (k + 1) cs) in
    let own = cells_have_cards.with_keeper k c (simple 0 c refl) in
    let more = cells_count (k + 1) cs (λ i d e. simple (suc i) d e) in
    let sum = sum_by-cons cell_count c cs in
    omega (arith, both, own, more, sum)

latches_count : (j : ℕ) (bs : List Latch) → length (latch_cards j bs) ≡ 9 * length bs
latches_count j [] = refl
latches_count j (b ∷ bs) =
    let both = length-append (one_latch j b.init) (latch_cards (j + 1) bs) in
    let more = latches_count (j + 1) bs in
    omega (arith, both, more)

module _ (s : Shape) (simple : AreSimple s) where
  sink_count : (part : Part) (g : Gate) → length (static_cards part (gate_tree s g)) ≡ 2
  sink_count part g = subst (λ t. length (static_cards part t) ≡ 2) (sym (simple_gate s simple g)) refl

  outputs_count : (i : ℕ) (gs : List Gate) → length (output_cards s i gs) ≡ 2 * length gs
  outputs_count i [] = refl
  outputs_count i (g ∷ gs) =
      let both = length-append (static_cards (Sink i) (gate_tree s g)) (output_cards s (i + 1) gs) in
      omega (arith, both, sink_count (Sink i) g, outputs_count (i + 1) gs)

  nexts_count : (j : ℕ) (bs : List Latch) → length (next_cards s j bs) ≡ 2 * length bs
  nexts_count j [] = refl
  nexts_count j (b ∷ bs) =
      let both = length-append (static_cards (Next j) (gate_tree s b.next)) (next_cards s (j + 1) bs) in
      omega (arith, both, sink_count (Next j) b.next, nexts_count (j + 1) bs)

  deck_count : s.style ≡ WithKeeper → length (shape_cards s)
      ≡ sum_by cell_count s.cells + length (complement_cards s.complements) + 11 * length s.latches + 2 * length s.outputs
  deck_count keepers =
      let outs = output_cards s 0 s.outputs in
      let nexts = next_cards s 0 s.latches in
      let latches = latch_cards 0 s.latches in
      let complements = complement_cards s.complements in
      let cells = subst (λ style. length (cell_cards style 0 s.cells) ≡ sum_by cell_count s.cells) (sym keepers)
      (cells_count 0 s.cells simple) in
      omega (
        arith,
        length-append (cell_cards s.style 0 s.cells) (complements ++ (latches ++ (outs ++ nexts))),
        length-append complements (latches ++ (outs ++ nexts)),
        length-append latches (outs ++ nexts),
        length-append outs nexts,
        cells,
        latches_count 0 s.latches,
        outputs_count 0 s.outputs,
        nexts_count 0 s.latches,
      )

-- a gate is of one cell at most
one_of : (g : Gate) (j k : ℕ) → is_of j g ≡ true → is_of k g ≡ true → j ≡ k
one_of (Plus l) j k e f = absurd (cc)
one_of (Minus l) j k e f = absurd (cc)
one_of (FromOutput i) j k e f = sym (eqb-true i j e) ∙ eqb-true i k f
one_of (FromDynamic i) j k e f = sym (eqb-true i j e) ∙ eqb-true i k f
one_of High j k e f = absurd (cc)
one_of Low j k e f = absurd (cc)

takes_some : (k : ℕ) (gates : List Gate) → takes k gates ≡ list_any (is_of k) gates
takes_some k [] = refl
takes_some k (g ∷ gates) = ap (λ b. is_of k g || b) (takes_some k gates)

module _ (s : Shape) (may : MayBeBuffered s) (few : s.clocks ≤ 4) where
  clocks_few : HasFewClocks (shape_cells s)
  clocks_few = record {
    few = omega (arith, few);
    clocks_are = λ k c e. let l = may.shape.clocks_are (left_side k) _ (left_is s k c e) in (omega arith, omega (arith, l));
  }

  buffers_few : buffer_count (shape_cells s) 0 s.cells ≤ 2 * length s.cells + length (sinks s)
  buffers_few =
      let most = buffers_most (shape_cells s) clocks_few in
      let same = ap (λ test. count_by test (range_with_len 0 (length s.cells))) (λ i k. takes_some k (sinks s) i) in
      let taken = numbers_few is_of one_of (sinks s) 0 (length s.cells) in
      omega (arith, most, same, taken)

  devices_few : length (shape_cards (buffered s)) ≤ length (shape_cards s) + 6 * (2 * length s.cells + length (sinks s))
  devices_few =
      let old = deck_count s (may.shape.simple may.keepers) may.keepers in
      let new = deck_count (buffered s) (new_simple s may) may.keepers in
      let cells = devices_with_chains (shape_cells s) cell_count (λ at clock. refl)
      (λ c. ap (λ n. n + 5) (leaves-map_tree (taken (taken_at (shape_cells s) c.clock)) c.tree)) 0 s.cells in
      omega (arith, old, new, cells, buffers_few, length-map s.latches (ended_latch s), length-map s.outputs (ended s))

pub decks_small : BufferedDecksAreSmall
decks_small s may few = devices_few s may few

pub decks_fit : BufferedDecksFit
decks_fit s may few cells sinks devices = let l = devices_few s may few in omega (arith, cells, sinks, devices, l)
