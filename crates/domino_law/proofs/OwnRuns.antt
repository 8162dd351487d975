-- At an honest rest of evaluation each cell whose clock is up has its bit of the own run, and where all clocks have risen so have the
-- outputs and the latch inputs.
use Rattle.std.specs.Prelude.{Some, not, slice_get, ◌≢◌, ◌⊎◌, None, Option, cond}
use Rattle.std.proofs.Common.{Bool, List, [], add-zero, ap, arith, false, inl, inr, length, length-append, map, refl, suc, sym, true, zero, zero-add, ℕ, ◌++◌, ◌+◌, ◌<◌, ◌∙◌, ◌∷◌, ◌≡◌, subst}
use Rattle.dom_base.specs.Tri.{opposite}
use Rattle.dom_base.specs.declared.tri.Tri.{Tri}
use Rattle.dom_base.specs.declared.tri.Tri.TheVariants.{One, Zero}
use Rattle.deck.specs.Switches.{value_of}
use Rattle.deck.specs.declared.device.Device.{Device}
use Rattle.sp_network.specs.Known.{IsKnown}
use Rattle.sp_network.specs.Tree.{joins, EachLeaf, Leaf, Parallel, Series, Tree, inner_count, both}
use Rattle.domino_cell.specs.Stage.{Spot, Top, Branch, Inside, IsSpot}
use Rattle.switch_model.specs.Targets.{IsAtRest}
use Rattle.port_runs.specs.Environment.{Evaluation, bit}
use Rattle.port_runs.specs.declared.clocking.Clocking.TheVariants.{Overlapping}
use Rattle.domino_law.specs.Honest.{IsHonest, HasPreviousFallen, IsHeldCell, cell_conduction, gate_value, static_value}
use Rattle.domino_law.specs.LooseDeck.{HoldsDeck, IsSpotOf}
use Rattle.domino_law.specs.Nets.{At, Clock, Complement, Dynamic, FromDynamic, FromLatch, FromOutput, FromPin, Gate, High, Low, Minus, Net, Next, Output, Part, Pin, Plus, DeckSignal, Sink, Vdd, Vss, gate_net, own, CellSide, left_side, right_side}
use Rattle.domino_law.specs.OwnRun.{bit_at, cell_bits, gate_bit, signal_bit, sink_bit, own_bit, cell_bit}
use Rattle.domino_law.specs.Shape.{DominoCell, HasComplement, IsCellAt, IsGate, IsLatchAt, IsLeafOf, IsOutputAt, IsSignal, Latch, Shape, IsOfClocks, IsOfLastClock, MayOverlap, DynamicStage, IsSideAt, dynamic_nets, left_stage}
use Rattle.domino_cell.specs.declared.style.Style.TheVariants.{Keeper as WithKeeper}
use Rattle.domino_law.proofs.DeckParts.{AreKnownGates, gate-known, opposite_twice, dynamic_is, known_leaves, known_tree, leaf_not_fallen, near_leaves, cell_value-known, are_simple}
use Rattle.domino_law.proofs.Leaves.{EachLeaf-weaker, tree_bit}
use Rattle.domino_law.proofs.Rests.{rest_complement, rest_dynamic, rest_next, rest_output, rest_sink}
use Rattle.domino_law.specs.Places.{up_at, BeforeRise, Raised}
use Rattle.dom_base.specs.declared.kind.Kind.TheVariants.{Keep, N as nch, P as pch}
use Rattle.domino_law.specs.Branches.{dynamic, numbered}
use Rattle.sp_network.proofs.TreeImages.{inner_count-map_tree}
use Rattle.domino_cell.specs.Tapped.{IsTapped}
use Rattle.domino_law.proofs.ClockOrder.{before_raised, dec_previous, open_below, raised_where}
use Rattle.domino_law.proofs.KeptCells.{rest_discharged}
use Rattle.domino_law.proofs.Statics.{cell_gate, left_is, right_is}

pub opposite_bit : (b : Bool) → opposite (bit b) ≡ bit (not b)
opposite_bit true = refl
opposite_bit false = refl

pub bit_at-front : (xs ys : List Bool) (k : ℕ) → k < length xs → bit_at (xs ++ ys) k ≡ bit_at xs k
bit_at-front [] ys k l = absurd (omega arith)
bit_at-front (x ∷ xs) ys zero l = refl
bit_at-front (x ∷ xs) ys (suc k) l = bit_at-front xs ys k (omega arith)

pub bit_at-last : (xs : List Bool) (x : Bool) → bit_at (xs ++ x ∷ []) (length xs) ≡ x
bit_at-last [] x = refl
bit_at-last (y ∷ ys) x = bit_at-last ys x

pub bit_at-map : {X : Type 0} (f : X → Bool) (xs : List X) (k : ℕ) (x : X) → slice_get xs k ≡ Some x → bit_at (map f xs) k ≡ f x
bit_at-map f [] k x e = absurd (cc)
bit_at-map f (y ∷ ys) zero x e = let z : y ≡ x = cc in ap f z
bit_at-map f (y ∷ ys) (suc k) x e = bit_at-map f ys k x e

-- the bits of the first cells stay
bits-front : (signal : DeckSignal → Bool) (cs : List DominoCell) (before : List Bool) (k : ℕ) → k < length before → bit_at (cell_bits signal cs before) k ≡ bit_at before k
bits-front signal [] before k l = refl
bits-front signal (c ∷ cs) before k l =
    bits-front signal cs (before ++ b ∷ []) k (wider (length (before ++ b ∷ [])) (length before) (length-append before (b ∷ [])) l)
    ∙ bit_at-front before (b ∷ []) k l
  where
    b : Bool
    b = cell_bit (gate_bit signal before) c.tree c.right

    wider : (n m : ℕ) → n ≡ m + 1 → k < m → k < n
    wider n m z l = omega arith

joins_same : {X : Type 0} (f g : X → Bool) (t : Tree X) → EachLeaf (λ x. f x ≡ g x) t → joins f t ≡ joins g t
joins_same f g (Leaf x) h = h
joins_same f g (Series l r) h = rw (joins_same f g l h.0, joins_same f g r h.1) refl
joins_same f g (Parallel l r) h = rw (joins_same f g l h.0, joins_same f g r h.1) refl

-- what holds of the leaves of a cell's trees
abbrev EachCellLeaf : (Gate → Type 0) → DominoCell → Type 0
EachCellLeaf F c = EachLeaf F c.tree × ((t : Tree Gate) → c.right ≡ Some t → EachLeaf F t)

cell_bit-same : (f g : Gate → Bool) (c : DominoCell) → EachCellLeaf (λ x. f x ≡ g x) c → cell_bit f c.tree c.right ≡ cell_bit g c.tree c.right
cell_bit-same f g c h = by c.right refl
  where
    by : (r : Option (Tree Gate)) → c.right ≡ r → cell_bit f c.tree r ≡ cell_bit g c.tree r
    by None z = joins_same f g c.tree h.0
    by (Some t) z = rw (joins_same f g c.tree h.0, joins_same f g t (h.1 t z)) refl

-- each cell has the bit of its trees, by the bits of all cells
cell_is_trees : (s : Shape) (signal : DeckSignal → Bool) (cs : List DominoCell) (before : List Bool) (i : ℕ) (c : DominoCell) → slice_get cs i ≡ Some c
    → EachCellLeaf (IsLeafOf s (length before + i)) c
    → bit_at (cell_bits signal cs before) (length before + i) ≡ cell_bit (gate_bit signal (cell_bits signal cs before)) c.tree c.right
cell_is_trees s signal [] before i c e leaves = absurd (cc)
cell_is_trees s signal (d ∷ cs) before zero c e leaves =
    let z : d ≡ c = cc in
    rw (add-zero, z) (bits-front signal cs (before ++ cell_bit (gate_bit signal before) c.tree c.right ∷ []) (length before)
    (longer (length (before ++ cell_bit (gate_bit signal before) c.tree c.right ∷ [])) (length before) (length-append before (cell_bit (gate_bit signal before) c.tree c.right ∷ [])))
    ∙ (bit_at-last before (cell_bit (gate_bit signal before) c.tree c.right)
    ∙ cell_bit-same (gate_bit signal before) (gate_bit signal (cell_bits signal cs (before ++ cell_bit (gate_bit signal before) c.tree c.right ∷ []))) c
    (EachLeaf-weaker (IsLeafOf s (length before)) _ same c.tree (rw add-zero at (leaves.0)), (λ t r. EachLeaf-weaker (IsLeafOf s (length before)) _ same t (rw add-zero at (leaves.1 t r))))))
  where
    longer : (n m : ℕ) → n ≡ m + 1 → m < n
    longer n m z = omega arith

    same : (g : Gate) → IsLeafOf s (length before) g
        → gate_bit signal before g ≡ gate_bit signal (cell_bits signal cs (before ++ cell_bit (gate_bit signal before) c.tree c.right ∷ [])) g
    same (Plus l) a = refl
    same (Minus l) a = refl
    same (FromOutput j) a = sym (bits-front signal (c ∷ cs) before j a.0)
    same (FromDynamic j) a = absurd a
    same High a = absurd a
    same Low a = absurd a
cell_is_trees s signal (d ∷ cs) before (suc i) c e leaves =
    rw (← shift) (cell_is_trees s signal cs (before ++ b ∷ []) i c e (rw (← shift) at (leaves.0), (λ t r. rw (← shift) at (leaves.1 t r))))
  where
    b : Bool
    b = cell_bit (gate_bit signal before) d.tree d.right

    shift : length (before ++ b ∷ []) + i ≡ length before + suc i
    shift = rw (length-append before (b ∷ [])) (next (length before) i)
      where
        next : (n i : ℕ) → n + 1 + i ≡ n + suc i
        next n i = omega arith

pub own_is_trees : (s : Shape) (pins state : ℕ → Bool) (k : ℕ) (c : DominoCell) → IsCellAt s k c → EachCellLeaf (IsLeafOf s k) c
    → own_bit s pins state k ≡ cell_bit (gate_bit (signal_bit pins state) (cell_bits (signal_bit pins state) s.cells [])) c.tree c.right
own_is_trees s pins state k c e leaves =
    subst (λ m. bit_at (cell_bits (signal_bit pins state) s.cells []) m ≡ cell_bit (gate_bit (signal_bit pins state) (cell_bits (signal_bit pins state) s.cells [])) c.tree c.right) (zero-add k)
    (cell_is_trees s (signal_bit pins state) s.cells [] k c e (subst (λ m. EachCellLeaf (IsLeafOf s m) c) (sym (zero-add k)) leaves))

-- At a rest of evaluation: either clocks may overlap, or all have risen.
module _ {devices : List Device} {is_source : ℕ → Bool} {net : Net → ℕ} {s : Shape} (deck : HoldsDeck devices is_source net s)
    (risen : ℕ) (fallen : ℕ → Bool) (old new pins : ℕ → Bool) (kept : ℕ → Tri) (before : List Tri) (h : IsHonest devices is_source net s Evaluation (up_at Evaluation risen fallen) old new pins kept before)
    (rest : IsAtRest devices is_source before) (range : (part : Part) (a : Spot) → IsSpotOf s part a → net (At part a) < length before)
    (ready : (s.clocking ≡ Overlapping) ⊎ (risen ≡ s.clocks)) where
  gates : AreKnownGates net s before
  gates = gate-known deck h

  signal_is : (l : DeckSignal) → IsSignal s l → value_of before (net (own l)) ≡ bit (signal_bit pins old l)
  signal_is (FromPin p) a = h.frame.sources (Pin p) a
  signal_is (FromLatch j) a = h.frame.slaves j a.0 a.1

  minus_is : (l : DeckSignal) → HasComplement s l → value_of before (net (At (Complement l) Top)) ≡ bit (not (signal_bit pins old l))
  minus_is l a =
      rest_complement deck h.frame rest range l a
      ∙ (rw (signal_is l ((deck.shape).complements_are l a)) (opposite_bit (signal_bit pins old l)))

  clock_on : (i : ℕ) → i < s.clocks → up_at Evaluation risen fallen i ≡ Raised → value_of before (net (Clock i)) ≡ One
  clock_on i l r = h.frame.sources (Clock i) l ∙ rw r refl

  -- a cell that a cell of an up clock reads is up, unless the reader holds
  reads_up : (i : ℕ) → up_at Evaluation risen fallen i ≡ Raised → (HasPreviousFallen (up_at Evaluation risen fallen) i → ⊥)
      → (j : ℕ) (d : DominoCell) → IsCellAt s j d → i < s.clocks → (s.clocking ≡ Overlapping → IsOfClocks s i (FromOutput j)) → up_at Evaluation risen fallen d.clock ≡ Raised
  reads_up i r free j d f il near =
      raised_where (up_at Evaluation risen fallen d.clock) begun (leaf_not_fallen deck h.frame i r free j d f near)
    where
      begun : up_at Evaluation risen fallen d.clock ≢ BeforeRise
      begun z = elim ready [
        | inr all ↦ open_below risen fallen d.clock (let l = (deck.shape).clocks_are (left_side j) _ (left_is s j d f) in omega arith) z
        | inl o ↦ elim (near o d f) [
          | inl same ↦ before_raised (sym z ∙ (rw same r))
          | inr next ↦ (h.frame.clocks).in_order d.clock (next_up next) z
        ]
      ]
        where
          next_up : d.clock + 1 ≡ i → up_at Evaluation risen fallen (suc d.clock) ≢ BeforeRise
          next_up next w = before_raised (sym w ∙ subst (λ m. up_at Evaluation risen fallen m ≡ Raised) (sym (plus_one d.clock i next)) r)
            where
              plus_one : (a b : ℕ) → a + 1 ≡ b → suc a ≡ b
              plus_one a b z = omega arith

  abbrev own_gates : Gate → Bool
  own_gates = gate_bit (signal_bit pins old) (cell_bits (signal_bit pins old) s.cells [])

  -- the up cells before this one have their bits
  abbrev AreOwnBelow : ℕ → Type 0
  AreOwnBelow m = (j : ℕ) (d : DominoCell) → j < m → IsCellAt s j d → up_at Evaluation risen fallen d.clock ≡ Raised → value_of before (net (At (Output j) Top)) ≡ bit (own_bit s pins old j)

  -- so an up side that doesn't hold has the opposite of its tree's bit
  side_is : (m : ℕ) → AreOwnBelow m → (k : CellSide) (d : DynamicStage) → k.cell < suc m → IsSideAt s k d → up_at Evaluation risen fallen d.clock ≡ Raised
      → (HasPreviousFallen (up_at Evaluation risen fallen) d.clock → ⊥) → value_of before (net (At (Dynamic k) Top)) ≡ opposite (bit (joins own_gates d.tree))
  side_is m below k d lt i r free =
      rest_dynamic deck h rest range k d i (clock_on d.clock ((deck.shape).clocks_are k d i) r) free
      ∙ ap opposite (tree_bit (λ g. value_of before (net (gate_net g))) own_gates d.tree
      (EachLeaf-weaker _ (λ g. value_of before (net (gate_net g)) ≡ bit (own_gates g)) leaf_is d.tree (near_leaves deck h.frame k d i)))
    where
      leaf_is : (g : Gate) → IsLeafOf s k.cell g × (s.clocking ≡ Overlapping → IsOfClocks s d.clock g) → value_of before (net (gate_net g)) ≡ bit (own_gates g)
      leaf_is (Plus p) a = signal_is p a.0
      leaf_is (Minus p) a = minus_is p a.0
      leaf_is (FromOutput j) a =
          below j (a.0).1.0 (let q = (a.0).0 in omega arith) (a.0).1.1
          (reads_up d.clock r free j (a.0).1.0 (a.0).1.1 ((deck.shape).clocks_are k d i) a.1)
      leaf_is (FromDynamic j) a = absurd a.0
      leaf_is High a = absurd a.0
      leaf_is Low a = absurd a.0

  -- an up cell has its bit of the own run
  up_is_own : (m k : ℕ) (c : DominoCell) → k < m → IsCellAt s k c → up_at Evaluation risen fallen c.clock ≡ Raised → value_of before (net (At (Output k) Top)) ≡ bit (own_bit s pins old k)
  up_is_own zero k c l e r = absurd (omega arith)
  up_is_own (suc m) k c l e r = elim (dec_previous (up_at Evaluation risen fallen) c.clock) [
    | inl early ↦ (h.cells.held k c e (clock_on c.clock ((deck.shape).clocks_are (left_side k) _ (left_is s k c e)) r) early).pair.1
    | inr free ↦ (
        rest_output deck h.frame rest range gates k c e
        ∙ by (λ j d lt f q. up_is_own m j d lt f q) free c.right refl
        ∙ sym (ap bit (own_is_trees s pins old k c e ((deck.shape).leaves (left_side k) _ (left_is s k c e), (λ t z. (deck.shape).leaves (right_side k) _ (right_is s k c t e z)))))
        )
  ]
    where
      pair : (l r : Bool) → opposite (both (opposite (bit l)) (opposite (bit r))) ≡ bit (cond l true r)
      pair true r = refl
      pair false true = refl
      pair false false = refl

      by : AreOwnBelow m → (HasPreviousFallen (up_at Evaluation risen fallen) c.clock → ⊥) → (o : Option (Tree Gate)) → c.right ≡ o
          → opposite (static_value net before (dynamic_nets k o)) ≡ bit (cell_bit own_gates c.tree o)
      by below free None z = rw (side_is m below (left_side k) _ l (left_is s k c e) r free) (opposite_twice _)
      by below free (Some t) z = rw (side_is m below (left_side k) _ l (left_is s k c e) r free, side_is m below (right_side k) _ l (right_is s k c t e z) r free) (pair _ _)

  pub output_is_own : (k : ℕ) (c : DominoCell) → IsCellAt s k c → up_at Evaluation risen fallen c.clock ≡ Raised → value_of before (net (At (Output k) Top)) ≡ bit (own_bit s pins old k)
  output_is_own k c e r = up_is_own (k + 1) k c (omega arith) e r

  -- and its dynamic nets in series have the opposite
  pub dynamic_is_own : (k : ℕ) (c : DominoCell) → IsCellAt s k c → up_at Evaluation risen fallen c.clock ≡ Raised → static_value net before (dynamic_nets k c.right) ≡ opposite (bit (own_bit s pins old k))
  dynamic_is_own k c e r =
      turned (static_value net before (dynamic_nets k c.right)) (value_of before (net (At (Output k) Top))) (own_bit s pins old k) (cell_value-known net s before gates k c e)
      (rest_output deck h.frame rest range gates k c e) (output_is_own k c e r)
    where
      turned : (d z : Tri) (b : Bool) → IsKnown d → z ≡ opposite d → z ≡ bit b → d ≡ opposite (bit b)
      turned d z true (inl e) f g = e
      turned d z false (inl e) f g = let y : One ≡ Zero = sym (f ∙ rw e refl) ∙ g in absurd (cc)
      turned d z true (inr e) f g = let y : Zero ≡ One = sym (f ∙ rw e refl) ∙ g in absurd (cc)
      turned d z false (inr e) f g = e

  -- so at its rest it may hold
  pub rest_held : MayOverlap s → (k : ℕ) (c : DominoCell) → IsCellAt s k c → up_at Evaluation risen fallen c.clock ≡ Raised → (HasPreviousFallen (up_at Evaluation risen fallen) c.clock → ⊥)
      → IsHeldCell devices is_source net (own_bit s pins old k) before k c
  rest_held may k c e r free =
      record {
        pair = (here, output_is_own k c e r);
        shut = λ z. turned (cell_conduction net before (left_stage c)) (known_tree deck h (left_side k) _ (left_is s k c e))
            (sym (rest_dynamic deck h rest range (left_side k) _ (left_is s k c e) on free) ∙ (here ∙ rw z refl));
        discharged = λ z. rest_discharged devices is_source net (λ a. net (At (Dynamic (left_side k)) a)) (left_side k) (left_stage c) is before on (output_is_own k c e r ∙ rw z refl)
            (known_leaves deck h (left_side k) _ (left_is s k c e)) (h.frame.sources Vss tt) ((h.cells.sides (left_side k) _ (left_is s k c e)).pulled on free Top tt (here ∙ rw z refl)) rest spots;
      }
    where
      on : value_of before (net (Clock c.clock)) ≡ One
      on = clock_on c.clock ((deck.shape).clocks_are (left_side k) _ (left_is s k c e)) r

      here : value_of before (net (At (Dynamic (left_side k)) Top)) ≡ opposite (bit (own_bit s pins old k))
      here = one_net k c (are_simple deck may k c e) ∙ dynamic_is_own k c e r
        where
          one_net : (k : ℕ) (c : DominoCell) → c.right ≡ None → value_of before (net (At (Dynamic (left_side k)) Top)) ≡ static_value net before (dynamic_nets k c.right)
          one_net k c z = rw z refl

      is : IsTapped devices is_source (λ a. net (At (Dynamic (left_side k)) a)) (dynamic WithKeeper net (left_side k) (left_stage c)) []
      is = rw may.keepers at (dynamic_is deck (left_side k) _ (left_is s k c e))

      turned : (v : Tri) → IsKnown v → opposite v ≡ One → v ≡ Zero
      turned v (inl e) f = e
      turned v (inr e) f = let y : Zero ≡ One = sym (rw e refl) ∙ f in absurd (cc)

      spots : (a : Spot) → IsSpot (dynamic WithKeeper net (left_side k) (left_stage c)) a → net (At (Dynamic (left_side k)) a) < length before
      spots Top i = range (Dynamic (left_side k)) Top (left_stage c, left_is s k c e)
      spots (Inside zero j) (b, z, l) = range (Dynamic (left_side k)) (Inside 0 j) (left_stage c, left_is s k c e, refl, inner b z l)
        where
          count : inner_count (numbered net c.tree) ≡ inner_count c.tree
          count = inner_count-map_tree (λ g. net (gate_net g)) c.tree

          inner : (b : Branch) → Some (record { kind = nch; tree = Series (numbered net c.tree) (Leaf (net (Clock c.clock))); supply = net Vss }) ≡ Some b → j < inner_count b.tree → j < 1 + inner_count c.tree
          inner b z l =
              let y : b ≡ record { kind = nch; tree = Series (numbered net c.tree) (Leaf (net (Clock c.clock))); supply = net Vss } = cc in
              let m : j < inner_count (Series (numbered net c.tree) (Leaf (net (Clock c.clock)))) = rw y at l in
              fits (inner_count (numbered net c.tree)) (inner_count c.tree) count m
            where
              fits : (m n : ℕ) → m ≡ n → j < 1 + (m + 0) → j < 1 + n
              fits m n z l = omega arith
      spots (Inside (suc zero) j) (b, z, l) =
          let y : b ≡ record { kind = pch; tree = Leaf (net (Clock c.clock)); supply = net Vdd } = cc in
          let m : j < inner_count (Leaf (net (Clock c.clock))) = rw y at l in
          absurd (omega arith)
      spots (Inside (suc (suc zero)) j) (b, z, l) =
          let y : b ≡ record { kind = Keep; tree = Leaf (net (At (Output k) Top)); supply = net Vdd } = cc in
          let m : j < inner_count (Leaf (net (At (Output k) Top))) = rw y at l in
          absurd (omega arith)
      spots (Inside (suc (suc (suc i))) j) (b, z, l) = absurd (cc)

  -- where all clocks have risen, a cell that a sink reads is up
  module _ (all : risen ≡ s.clocks) where
    IsUpGate : Gate → Type 0
    IsUpGate (FromOutput k) = (c : DominoCell) → IsCellAt s k c → up_at Evaluation risen fallen c.clock ≡ Raised
    IsUpGate (FromDynamic k) = (c : DominoCell) → IsCellAt s k c → up_at Evaluation risen fallen c.clock ≡ Raised
    IsUpGate _ = Unit {0}

    last_up : (k : ℕ) (c : DominoCell) → IsCellAt s k c → (s.clocking ≡ Overlapping → c.clock + 1 ≡ s.clocks) → up_at Evaluation risen fallen c.clock ≡ Raised
    last_up k c e last =
        raised_where (up_at Evaluation risen fallen c.clock) (open_below risen fallen c.clock (let l = (deck.shape).clocks_are (left_side k) _ (left_is s k c e) in omega arith))
        (λ z. elim ((h.frame.clocks).early c.clock z) [ inl w ↦ cc | inr o ↦ late (last o.0) o.1 ])
      where
        late : c.clock + 1 ≡ s.clocks → c.clock + 1 < s.clocks → ⊥
        late z l = omega arith

    sink_up : (g : Gate) → (s.clocking ≡ Overlapping → IsOfLastClock s g) → IsUpGate g
    unfolding IsUpGate
    sink_up (Plus l) last = tt
    sink_up (Minus l) last = tt
    sink_up (FromOutput k) last = λ c e. last_up k c e (λ o. last o c e)
    sink_up (FromDynamic k) last = λ c e. last_up k c e (λ o. last o c e)
    sink_up High last = tt
    sink_up Low last = tt

    -- it has its bit of the own run
    gate_is_own : (g : Gate) → IsGate s g → IsUpGate g → gate_value net s before g ≡ bit (gate_bit (signal_bit pins old) (cell_bits (signal_bit pins old) s.cells []) g)
    unfolding IsUpGate
    gate_is_own (Plus l) a u = signal_is l a
    gate_is_own (Minus l) a u = minus_is l a
    gate_is_own (FromOutput k) a u = output_is_own k a.0 a.1 (u a.0 a.1)
    gate_is_own (FromDynamic k) a u = rw (cell_gate s k a.0 a.1) (dynamic_is_own k a.0 a.1 (u a.0 a.1) ∙ opposite_bit (own_bit s pins old k))
    gate_is_own High a u = h.frame.sources Vdd tt
    gate_is_own Low a u = h.frame.sources Vss tt

    -- so have the outputs and the latch inputs
    pub sink_is_own : (i : ℕ) (g : Gate) → IsOutputAt s i g → value_of before (net (At (Sink i) Top)) ≡ bit (sink_bit s pins old g)
    sink_is_own i g e =
        rest_sink deck h.frame rest range gates i g e
        ∙ (rw (gate_is_own g ((deck.shape).outputs_are i g e) (sink_up g (λ o. ((deck.shape).overlap o).outputs_last i g e))) (opposite_bit (gate_bit (signal_bit pins old) (cell_bits (signal_bit pins old) s.cells []) g)))

    pub next_is_own : (j : ℕ) (b : Latch) → IsLatchAt s j b → value_of before (net (At (Next j) Top)) ≡ bit (sink_bit s pins old b.next)
    next_is_own j b e =
        rest_next deck h.frame rest range gates j b e
        ∙ (rw (gate_is_own b.next ((deck.shape).nexts j b e) (sink_up b.next (λ o. ((deck.shape).overlap o).nexts_last j b e))) (opposite_bit (gate_bit (signal_bit pins old) (cell_bits (signal_bit pins old) s.cells []) b.next)))
