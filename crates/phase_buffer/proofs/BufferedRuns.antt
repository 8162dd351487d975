-- The own run of a buffered shape is that of the shape.
use Rattle.std.specs.Prelude.{None, Some, not, slice_get}
use Rattle.std.proofs.Common.{Bool, List, [], add-zero, ap, ap₂, arith, cond, map, refl, suc, sym, zero, ℕ, ◌+◌, ◌-◌, ◌<◌, ◌∙◌, ◌∷◌, ◌≡◌, ◌≤◌, false, true}
use Rattle.sp_network.specs.Tree.{EachLeaf, Leaf, Parallel, Series, Tree, joins, map_tree}
use Rattle.domino_law.specs.Nets.{FromDynamic, FromOutput, Gate, High, Low, Minus, Plus, left_side}
use Rattle.domino_law.specs.OwnRun.{bit_at, cell_bits, gate_bit, own_bit, signal_bit, sink_bit}
use Rattle.domino_law.specs.Shape.{DominoCell, IsCellAt, IsGate, IsLeafOf, IsShape, Latch, Shape}
use Rattle.domino_law.proofs.Leaves.{EachLeaf-both, EachLeaf-weaker}
use Rattle.domino_law.proofs.OwnRuns.{own_is_trees}
use Rattle.domino_law.proofs.SimpleCells.{AreSimple, simple_bit}
use Rattle.domino_law.proofs.Statics.{left_is}
use Rattle.phase_buffer.specs.Buffers.{buffered, ended, ended_latch, reads, shape_cells, taken}
use Rattle.phase_buffer.specs.Chains.{chain_length, clock_at, moved, place, taken_at}
use Rattle.phase_buffer.specs.Laws.{BufferedRunsAlike, MayBeBuffered}
use Rattle.phase_buffer.proofs.BufferedCells.{buffer_cell, new_buffer, new_cell}
use Rattle.phase_buffer.proofs.BufferedShapes.{buffered_is_shape, leaves_read, new_simple, reader_chain}

joins_taken : (f : Gate → Gate) (a b : Gate → Bool) (t : Tree Gate) → EachLeaf (λ g. a (f g) ≡ b g) t → joins a (map_tree f t) ≡ joins b t
joins_taken f a b (Leaf g) h = h
joins_taken f a b (Series l r) h = ap₂ (λ x y. cond x y false) (joins_taken f a b l h.0) (joins_taken f a b r h.1)
joins_taken f a b (Parallel l r) h = ap₂ (λ x y. cond x true y) (joins_taken f a b l h.0) (joins_taken f a b r h.1)

map_map : {X Y Z : Type 0} (f : X → Y) (g : Y → Z) (h : X → Z) (xs : List X) → ((k : ℕ) (x : X) → slice_get xs k ≡ Some x → g (f x) ≡ h x) → map g (map f xs) ≡ map h xs
map_map f g h [] e = refl
map_map f g h (x ∷ xs) e = ap₂ (λ a b. a ∷ b) (e 0 x refl) (map_map f g h xs (λ k y at. e (suc k) y at))

module _ (s : Shape) (may : MayBeBuffered s) (pins state : ℕ → Bool) where
  -- the bit of a simple cell is that of its tree
  own_is_tree : (u : Shape) → IsShape u → AreSimple u → (k : ℕ) (c : DominoCell) → IsCellAt u k c
      → own_bit u pins state k ≡ joins (gate_bit (signal_bit pins state) (cell_bits (signal_bit pins state) u.cells [])) c.tree
  own_is_tree u is simple k c e =
      own_is_trees u pins state k c e (is.leaves (left_side k) _ (left_is u k c e), (λ t z. absurd (no (sym (simple k c e) ∙ z))))
      ∙ simple_bit (gate_bit (signal_bit pins state) (cell_bits (signal_bit pins state) u.cells [])) c (simple k c e)
    where
      no : {t : Tree Gate} → None ≡ Some t → ⊥
      no z = cc

  old_simple : AreSimple s
  old_simple = may.shape.simple may.keepers

  abbrev old_gate : Gate → Bool
  old_gate g = gate_bit (signal_bit pins state) (cell_bits (signal_bit pins state) s.cells []) g

  abbrev new_gate : Gate → Bool
  new_gate g = gate_bit (signal_bit pins state) (cell_bits (signal_bit pins state) (buffered s).cells []) g

  -- a cell has its old bit, by those of the cells that it reads
  moved_bit : (k : ℕ) (c : DominoCell) → IsCellAt s k c
      → ((j h : ℕ) (d : DominoCell) → j < k → IsCellAt s j d → h ≤ chain_length (shape_cells s) j → own_bit (buffered s) pins state (place (shape_cells s) j + h) ≡ own_bit s pins state j)
      → own_bit (buffered s) pins state (place (shape_cells s) k) ≡ own_bit s pins state k
  moved_bit k c e below =
      own_is_tree (buffered s) (buffered_is_shape s may) (new_simple s may) (place (shape_cells s) k) (moved (shape_cells s) c) (new_cell (shape_cells s) k c e)
      ∙ (joins_taken (taken (taken_at (shape_cells s) c.clock)) new_gate old_gate c.tree
      (EachLeaf-weaker _ (λ g. new_gate (taken (taken_at (shape_cells s) c.clock) g) ≡ old_gate g) by c.tree
      (EachLeaf-both (IsLeafOf s k) (λ g. (j : ℕ) → g ≡ FromOutput j → reads j c.tree ≡ true) c.tree (may.shape.leaves (left_side k) _ (left_is s k c e)) (leaves_read c.tree)))
      ∙ sym (own_is_tree s may.shape old_simple k c e))
    where
      by : (g : Gate) → IsLeafOf s k g × ((j : ℕ) → g ≡ FromOutput j → reads j c.tree ≡ true) → new_gate (taken (taken_at (shape_cells s) c.clock) g) ≡ old_gate g
      by (Plus l) a = refl
      by (Minus l) a = refl
      by (FromOutput j) a = below j (c.clock - 1 - clock_at (shape_cells s) (slice_get s.cells j)) (a.0).1.0 (a.0).0 (a.0).1.1 (reader_chain s may j (a.0).1.0 (a.0).1.1 k c e (a.1 j refl))
      by (FromDynamic j) a = absurd a.0
      by High a = absurd a.0
      by Low a = absurd a.0

  -- and so has its chain
  chain_bit : (k : ℕ) (c : DominoCell) → IsCellAt s k c → own_bit (buffered s) pins state (place (shape_cells s) k) ≡ own_bit s pins state k
      → (h : ℕ) → h ≤ chain_length (shape_cells s) k → own_bit (buffered s) pins state (place (shape_cells s) k + h) ≡ own_bit s pins state k
  chain_bit k c e first zero l = ap (own_bit (buffered s) pins state) (add-zero (place (shape_cells s) k)) ∙ first
  chain_bit k c e first (suc j) l =
      let n = new_buffer (shape_cells s) k j c e (omega arith) in
      own_is_tree (buffered s) (buffered_is_shape s may) (new_simple s may) (place (shape_cells s) k + suc j) (buffer_cell (shape_cells s) (place (shape_cells s) k) c.clock j) n
      ∙ chain_bit k c e first j (omega arith)

  bits_alike : (n k h : ℕ) (c : DominoCell) → k < n → IsCellAt s k c → h ≤ chain_length (shape_cells s) k → own_bit (buffered s) pins state (place (shape_cells s) k + h) ≡ own_bit s pins state k
  bits_alike zero k h c l e m = absurd (omega arith)
  bits_alike (suc n) k h c l e m = chain_bit k c e (moved_bit k c e (λ j i d low f g. bits_alike n j i d (omega arith) f g)) h m

  pub ended_bit : (g : Gate) → IsGate s g → sink_bit (buffered s) pins state (ended s g) ≡ sink_bit s pins state g
  ended_bit (Plus l) a = refl
  ended_bit (Minus l) a = refl
  ended_bit (FromOutput k) a = ap not (bits_alike (k + 1) k (chain_length (shape_cells s) k) a.0 (omega arith) a.1 (omega arith))
  ended_bit (FromDynamic k) a = ap (λ b. not (not b)) (bits_alike (k + 1) k (chain_length (shape_cells s) k) a.0 (omega arith) a.1 (omega arith))
  ended_bit High a = refl
  ended_bit Low a = refl

pub buffered_runs_alike : BufferedRunsAlike
buffered_runs_alike s may =
    record {
      starts = map_map (ended_latch s) (λ (b : Latch). b.init) (λ (b : Latch). b.init) s.latches (λ k b e. refl);
      outputs = λ state pins. map_map (ended s) (sink_bit (buffered s) (bit_at pins) (bit_at state)) (sink_bit s (bit_at pins) (bit_at state)) s.outputs
          (λ i g e. ended_bit s may (bit_at pins) (bit_at state) g (may.shape.outputs_are i g e));
      nexts = λ state pins. map_map (ended_latch s) (λ (b : Latch). sink_bit (buffered s) (bit_at pins) (bit_at state) b.next) (λ (b : Latch). sink_bit s (bit_at pins) (bit_at state) b.next) s.latches
          (λ j b e. ended_bit s may (bit_at pins) (bit_at state) b.next (may.shape.nexts j b e));
    }
