-- A buffered shape is a shape whose clocks may overlap.
use Rattle.std.specs.Prelude.{Some, if◌then◌else◌, option_map, slice_get, ◌||◌, ◌⊎◌}
use Rattle.std.proofs.Common.{Bool, List, [], ap, arith, false, inl, inr, map, refl, subst, suc, sym, true, zero, ℕ, ◌++◌, ◌+◌, ◌-◌, ◌<◌, ◌∙◌, ◌∷◌, ◌≡◌, ◌≤◌}
use Rattle.std.proofs.lemmas.Bool.{eq-eqb}
use Rattle.std.proofs.lemmas.Option.{slice_get-map}
use Rattle.dom_base.proofs.Bools.{or_true}
use Rattle.sp_network.specs.Tree.{EachLeaf, Leaf, Parallel, Series, Tree, map_tree}
use Rattle.clock_phase.specs.Levels.{greatest}
use Rattle.domino_law.specs.Nets.{DeckSignal, FromDynamic, FromLatch, FromOutput, FromPin, Gate, High, Low, Minus, Plus, left_side}
use Rattle.domino_law.specs.Shape.{DominoCell, IsCellAt, IsGate, IsLatchAt, IsLeafOf, IsOfClocks, IsOfLastClock, IsOutputAt, IsShape, IsSignal, Latch, Shape, DynamicStage}
use Rattle.domino_law.proofs.Leaves.{EachLeaf-both, EachLeaf-map, EachLeaf-weaker}
use Rattle.domino_law.proofs.SimpleCells.{AreSimple, simple_side}
use Rattle.domino_law.proofs.Statics.{left_is}
use Rattle.phase_buffer.specs.Buffers.{buffered, ended, ended_latch, is_of, reads, shape_cells, sinks, taken, takes}
use Rattle.phase_buffer.specs.Chains.{chain_length, clock_at, end_at, place, reader_clocks, taken_at}
use Rattle.phase_buffer.specs.Laws.{BufferedMayOverlap, IsNoLater, MayBeBuffered}
use Rattle.phase_buffer.proofs.BufferedCells.{IsNewCell, any_new, chain_at, one_new, place_below, reader_within, readers_below}
use Rattle.dom_base.proofs.Decided.{lt_or_ge}

-- what stands at a place of a mapped list
pub map_back : {X Y : Type 0} (f : X → Y) (xs : List X) (k : ℕ) (y : Y) → slice_get (map f xs) k ≡ Some y → (x : X) × (slice_get xs k ≡ Some x) × (y ≡ f x)
map_back f [] k y e = absurd (cc)
map_back f (x ∷ xs) zero y e = let z : f x ≡ y = cc in (x, refl, sym z)
map_back f (x ∷ xs) (suc k) y e = map_back f xs k y e

-- a gate of the sinks that is taken from cell k
takes_at : (k : ℕ) (gates : List Gate) (i : ℕ) (g : Gate) → slice_get gates i ≡ Some g → is_of k g ≡ true → takes k gates ≡ true
takes_at k [] i g e o = absurd (cc)
takes_at k (h ∷ gates) zero g e o = let z : h ≡ g = cc in rw (z, o) refl
takes_at k (h ∷ gates) (suc i) g e o = rw (takes_at k gates i g e o) (or_true (is_of k h))

takes_left : (k : ℕ) (a b : List Gate) → takes k a ≡ true → takes k (a ++ b) ≡ true
takes_left k [] b e = absurd (cc)
takes_left k (g ∷ a) b e = go (is_of k g) refl e (takes_left k a b)
  where
    go : (v : Bool) → is_of k g ≡ v → (is_of k g || takes k a) ≡ true → (takes k a ≡ true → takes k (a ++ b) ≡ true) → (is_of k g || takes k (a ++ b)) ≡ true
    go true w e more = rw w refl
    go false w e more = rw w (more (rw w at e))

takes_right : (k : ℕ) (a b : List Gate) → takes k b ≡ true → takes k (a ++ b) ≡ true
takes_right k [] b e = e
takes_right k (g ∷ a) b e = rw (takes_right k a b e) (or_true (is_of k g))

-- a leaf that is taken from a cell makes the tree read it
pub leaves_read : (t : Tree Gate) → EachLeaf (λ g. (j : ℕ) → g ≡ FromOutput j → reads j t ≡ true) t
leaves_read (Leaf g) = λ j e. rw e (eq-eqb j j refl)
leaves_read (Series l r) = (
  EachLeaf-weaker _ (λ g. (j : ℕ) → g ≡ FromOutput j → (reads j l || reads j r) ≡ true) (λ g h j e. rw (h j e) refl) l (leaves_read l),
  EachLeaf-weaker _ (λ g. (j : ℕ) → g ≡ FromOutput j → (reads j l || reads j r) ≡ true) (λ g h j e. rw (h j e) (or_true (reads j l))) r (leaves_read r),
)
leaves_read (Parallel l r) = (
  EachLeaf-weaker _ (λ g. (j : ℕ) → g ≡ FromOutput j → (reads j l || reads j r) ≡ true) (λ g h j e. rw (h j e) refl) l (leaves_read l),
  EachLeaf-weaker _ (λ g. (j : ℕ) → g ≡ FromOutput j → (reads j l || reads j r) ≡ true) (λ g h j e. rw (h j e) (or_true (reads j l))) r (leaves_read r),
)

-- the h-th of a cell and its chain, with its clock
pub shape_chain : (s : Shape) (k : ℕ) (c : DominoCell) → IsCellAt s k c → (h : ℕ) → h ≤ chain_length (shape_cells s) k
    → (d : DominoCell) × IsCellAt (buffered s) (place (shape_cells s) k + h) d × (d.clock ≡ c.clock + h)
shape_chain s = chain_at (shape_cells s) (λ at clock. refl) (λ number c. refl)

module _ (s : Shape) (may : MayBeBuffered s) where
  -- the clock of a cell
  clock_is : (k : ℕ) (c : DominoCell) → IsCellAt s k c → clock_at (shape_cells s) (slice_get s.cells k) ≡ c.clock
  clock_is k c e = rw e refl

  -- the chain of a cell that a reader of this clock reads is long enough
  pub reader_chain : (j : ℕ) (d : DominoCell) → IsCellAt s j d → (m : ℕ) (c : DominoCell) → IsCellAt s m c → reads j c.tree ≡ true
      → c.clock - 1 - clock_at (shape_cells s) (slice_get s.cells j) ≤ chain_length (shape_cells s) j
  reader_chain j d e m c f r = go (takes j (sinks s)) refl
    where
      l : c.clock ≤ greatest (reader_clocks (shape_cells s) j s.cells)
      l = reader_within (shape_cells s) j s.cells m c f r

      b : c.clock < s.clocks
      b = may.shape.clocks_are (left_side m) _ (left_is s m c f)

      go : (v : Bool) → takes j (sinks s) ≡ v → c.clock - 1 - clock_at (shape_cells s) (slice_get s.cells j) ≤ (if takes j (sinks s) then s.clocks - 1 else greatest (reader_clocks (shape_cells s) j s.cells) - 1) - clock_at (shape_cells s) (slice_get s.cells j)
      go true w = rw w (omega (arith, b))
      go false w = rw w (omega (arith, l))

  -- and that of a cell that a sink takes from ends at the last clock
  sink_chain : (j : ℕ) (d : DominoCell) → IsCellAt s j d → takes j (sinks s) ≡ true → d.clock + chain_length (shape_cells s) j + 1 ≡ s.clocks
  sink_chain j d e t = rw (t, e) (sum d.clock s.clocks (may.shape.clocks_are (left_side j) _ (left_is s j d e)))
    where
      sum : (a b : ℕ) → a < b → a + (b - 1 - a) + 1 ≡ b
      sum a b l = omega arith

  -- no clock of a chain is beyond the last
  chain_within : (k : ℕ) (c : DominoCell) → IsCellAt s k c → c.clock + chain_length (shape_cells s) k < s.clocks
  chain_within k c e = go (takes k (sinks s)) refl
    where
      l : greatest (reader_clocks (shape_cells s) k s.cells) ≤ s.clocks - 1
      l = readers_below (shape_cells s) k (s.clocks - 1) s.cells (λ m d f. let b = may.shape.clocks_are (left_side m) _ (left_is s m d f) in omega arith)

      b : c.clock < s.clocks
      b = may.shape.clocks_are (left_side k) _ (left_is s k c e)

      some : 1 ≤ s.clocks
      some = may.some_clock

      go : (v : Bool) → takes k (sinks s) ≡ v → c.clock + ((if takes k (sinks s) then s.clocks - 1 else greatest (reader_clocks (shape_cells s) k s.cells) - 1) - clock_at (shape_cells s) (slice_get s.cells k)) < s.clocks
      go true w = rw (w, e) (omega (arith, b))
      go false w = rw (w, e) (omega (arith, b, l, some))

  -- the latch of the same number
  signal_there : (l : DeckSignal) → IsSignal s l → IsSignal (buffered s) l
  signal_there (FromPin p) a = a
  signal_there (FromLatch j) a = (ended_latch s a.0, slice_get-map (ended_latch s) s.latches j ∙ ap (option_map (ended_latch s)) a.1)

  -- a reader of this clock takes a cell of its own clock or of the one before
  taken_is : (m : ℕ) (c : DominoCell) → IsCellAt s m c → (j : ℕ) → j < m → (d : DominoCell) → IsCellAt s j d → reads j c.tree ≡ true → d.clock ≤ c.clock
      → (taken_at (shape_cells s) c.clock j < place (shape_cells s) m) × (b : DominoCell) × IsCellAt (buffered s) (taken_at (shape_cells s) c.clock j) b × ((b.clock ≡ c.clock) ⊎ (b.clock + 1 ≡ c.clock))
  taken_is m c f j low d e r le =
      let h = reader_chain j d e m c f r in
      let b = shape_chain s j d e (c.clock - 1 - clock_at (shape_cells s) (slice_get s.cells j)) h in
      let p = place_below (shape_cells s) j m low in
      (omega (arith, h, p), b.0, b.1, apart d.clock c.clock (b.0).clock le (b.2 ∙ ap (λ n. d.clock + (c.clock - 1 - n)) (clock_is j d e)))
    where
      apart : (a c b : ℕ) → a ≤ c → b ≡ a + (c - 1 - a) → (b ≡ c) ⊎ (b + 1 ≡ c)
      apart a zero b l z = inl (omega arith)
      apart a (suc c) b l z = elim (lt_or_ge a (suc c)) [ inl q ↦ inr (omega arith) | inr q ↦ inl (omega arith) ]

  -- the leaves of a moved cell
  IsTaken : ℕ → ℕ → Gate → Type 0
  IsTaken m clock g = IsLeafOf (buffered s) (place (shape_cells s) m) g × IsOfClocks (buffered s) clock g

  moved_leaves : (m : ℕ) (c : DominoCell) → IsCellAt s m c → EachLeaf (IsTaken m c.clock) (map_tree (taken (taken_at (shape_cells s) c.clock)) c.tree)
  unfolding IsTaken
  moved_leaves m c f =
      EachLeaf-map (IsTaken m c.clock) (taken (taken_at (shape_cells s) c.clock)) c.tree
      (EachLeaf-weaker _ (λ g. IsTaken m c.clock (taken (taken_at (shape_cells s) c.clock) g)) by c.tree
      (EachLeaf-both (IsLeafOf s m) (λ g. IsNoLater s c.clock g × ((j : ℕ) → g ≡ FromOutput j → reads j c.tree ≡ true)) c.tree (may.shape.leaves (left_side m) _ (left_is s m c f))
      (EachLeaf-both (IsNoLater s c.clock) (λ g. (j : ℕ) → g ≡ FromOutput j → reads j c.tree ≡ true) c.tree (may.no_later m c f) (leaves_read c.tree))))
    where
      by : (g : Gate) → IsLeafOf s m g × (IsNoLater s c.clock g × ((j : ℕ) → g ≡ FromOutput j → reads j c.tree ≡ true)) → IsTaken m c.clock (taken (taken_at (shape_cells s) c.clock) g)
      by (Plus l) a = (signal_there l a.0, tt)
      by (Minus l) a = (a.0, tt)
      by (FromOutput j) a =
          let t = taken_is m c f j (a.0).0 (a.0).1.0 (a.0).1.1 (a.1.1 j refl) (a.1.0 (a.0).1.0 (a.0).1.1) in
          ((t.0, (t.1, t.2)), (λ d e. subst (λ (x : DominoCell). (x.clock ≡ c.clock) ⊎ (x.clock + 1 ≡ c.clock)) (one_new (shape_cells s) (taken_at (shape_cells s) c.clock j) t.1 d t.2 e) t.3))
      by (FromDynamic j) a = absurd a.0
      by High a = absurd a.0
      by Low a = absurd a.0

  -- the leaf of a buffer
  buffer_leaf : (k : ℕ) (c : DominoCell) → IsCellAt s k c → (j : ℕ) → j < chain_length (shape_cells s) k
      → IsLeafOf (buffered s) (place (shape_cells s) k + suc j) (FromOutput (place (shape_cells s) k + j)) × IsOfClocks (buffered s) (c.clock + 1 + j) (FromOutput (place (shape_cells s) k + j))
  buffer_leaf k c e j l =
      let b = shape_chain s k c e j (omega arith) in
      ((omega arith, (b.0, b.1)), (λ d f. inr (ap (λ (x : DominoCell). x.clock + 1) (sym (one_new (shape_cells s) (place (shape_cells s) k + j) b.0 d b.1 f)) ∙ (ap (λ n. n + 1) b.2 ∙ sum c.clock j))))
    where
      sum : (a j : ℕ) → a + j + 1 ≡ a + 1 + j
      sum a j = omega arith

  -- the gate of a sink
  ended_is : (g : Gate) → IsGate s g → ((k : ℕ) → is_of k g ≡ true → takes k (sinks s) ≡ true) → IsGate (buffered s) (ended s g) × IsOfLastClock (buffered s) (ended s g)
  ended_is (Plus l) a t = (signal_there l a, tt)
  ended_is (Minus l) a t = (a, tt)
  ended_is (FromOutput k) a t =
      let b = shape_chain s k a.0 a.1 (chain_length (shape_cells s) k) (omega arith) in
      ((b.0, b.1), (λ d f. ap (λ (x : DominoCell). x.clock + 1) (sym (one_new (shape_cells s) (end_at (shape_cells s) k) b.0 d b.1 f)) ∙ (ap (λ n. n + 1) b.2 ∙ sink_chain k a.0 a.1 (t k (eq-eqb k k refl)))))
  ended_is (FromDynamic k) a t =
      let b = shape_chain s k a.0 a.1 (chain_length (shape_cells s) k) (omega arith) in
      ((b.0, b.1), (λ d f. ap (λ (x : DominoCell). x.clock + 1) (sym (one_new (shape_cells s) (end_at (shape_cells s) k) b.0 d b.1 f)) ∙ (ap (λ n. n + 1) b.2 ∙ sink_chain k a.0 a.1 (t k (eq-eqb k k refl)))))
  ended_is High a t = (tt, tt)
  ended_is Low a t = (tt, tt)

  ended_output : (i : ℕ) (g : Gate) → IsOutputAt s i g → IsGate (buffered s) (ended s g) × IsOfLastClock (buffered s) (ended s g)
  ended_output i g e = ended_is g (may.shape.outputs_are i g e) (λ k o. takes_left k s.outputs (map (λ (b : Latch). b.next) s.latches) (takes_at k s.outputs i g e o))

  ended_next : (j : ℕ) (b : Latch) → IsLatchAt s j b → IsGate (buffered s) (ended s b.next) × IsOfLastClock (buffered s) (ended s b.next)
  ended_next j b e =
      ended_is b.next (may.shape.nexts j b e)
      (λ k o. takes_right k s.outputs (map (λ (b : Latch). b.next) s.latches) (takes_at k (map (λ (b : Latch). b.next) s.latches) j b.next (slice_get-map (λ (b : Latch). b.next) s.latches j ∙ ap (option_map (λ (b : Latch). b.next)) e) o))

  -- the cells of the buffered shape
  new_leaves : (m : ℕ) (d : DominoCell) → IsCellAt (buffered s) m d → EachLeaf (λ g. IsLeafOf (buffered s) m g × IsOfClocks (buffered s) d.clock g) d.tree
  unfolding IsTaken
  new_leaves m d e = by (any_new (shape_cells s) m d e)
    where
      by : IsNewCell (shape_cells s) m d → EachLeaf (λ g. IsLeafOf (buffered s) m g × IsOfClocks (buffered s) d.clock g) d.tree
      by n = elim n.of [
        | inl p ↦ rw (p.0, p.1) (moved_leaves n.old n.cell n.cell_is)
        | inr p ↦ rw (p.2, p.3) (buffer_leaf n.old n.cell n.cell_is p.0 p.1)
      ]

  new_clock : (m : ℕ) (d : DominoCell) → IsCellAt (buffered s) m d → d.clock < s.clocks
  new_clock m d e =
      let n = any_new (shape_cells s) m d e in
      elim n.of [
        | inl p ↦ rw p.1 (may.shape.clocks_are (left_side n.old) _ (left_is s n.old n.cell n.cell_is))
        | inr p ↦ let l = chain_within n.old n.cell n.cell_is in rw p.3 (below n.cell.clock (chain_length (shape_cells s) n.old) p.0 s.clocks l p.1)
      ]
    where
      below : (a l j c : ℕ) → a + l < c → j < l → a + 1 + j < c
      below a l j c x y = omega arith

  -- buffered cells are simple
  pub new_simple : AreSimple (buffered s)
  new_simple m d e =
      let n = any_new (shape_cells s) m d e in
      elim n.of [
        | inl p ↦ ap (λ (x : DominoCell). x.right) p.1
        | inr p ↦ ap (λ (x : DominoCell). x.right) p.3
      ]

  pub buffered_is_shape : IsShape (buffered s)
  buffered_is_shape =
      record {
        clocks_are = λ m d e. let x = simple_side (buffered s) new_simple m d e in subst (λ (y : DynamicStage). y.clock < s.clocks) x.3 (new_clock m.cell x.0 x.1);
        leaves = λ m d e.
            let x = simple_side (buffered s) new_simple m d e in
            subst (λ (y : DynamicStage). EachLeaf (IsLeafOf (buffered s) m.cell) y.tree) x.3
            (EachLeaf-weaker _ (IsLeafOf (buffered s) m.cell) (λ g q. q.0) (x.0).tree (new_leaves m.cell x.0 x.1));
        simple = λ z. new_simple;
        complements_are = λ l h. signal_there l (may.shape.complements_are l h);
        complements_ordered = may.shape.complements_ordered;
        nexts = λ j b e. let m = map_back (ended_latch s) s.latches j b e in subst (λ (x : Latch). IsGate (buffered s) x.next) (sym m.2) (ended_next j m.0 m.1).0;
        outputs_are = λ i g e. let m = map_back (ended s) s.outputs i g e in subst (IsGate (buffered s)) (sym m.2) (ended_output i m.0 m.1).0;
        overlap = λ o. record {
          keepers = may.keepers;
          reads = λ m d e. EachLeaf-weaker _ (IsOfClocks (buffered s) d.clock) (λ g q. q.1) d.tree (new_leaves m d e);
          nexts_last = λ j b e. let m = map_back (ended_latch s) s.latches j b e in subst (λ (x : Latch). IsOfLastClock (buffered s) x.next) (sym m.2) (ended_next j m.0 m.1).1;
          outputs_last = λ i g e. let m = map_back (ended s) s.outputs i g e in subst (IsOfLastClock (buffered s)) (sym m.2) (ended_output i m.0 m.1).1;
        };
      }

pub buffered_may_overlap : BufferedMayOverlap
buffered_may_overlap s may = buffered_is_shape s may
