-- Where the cards of each part stand in a deck with keepers.
use Rattle.std.specs.List.{AllByRecursion}
use Rattle.std.specs.Prelude.{Bool, Some, false, slice_get, true, ◌≢◌, ◌⊎◌}
use Rattle.std.proofs.Common.{List, None, [], ap, ap₂, arith, inl, inr, refl, subst, suc, sym, zero, ℕ, ◌++◌, ◌+◌, ◌∙◌, ◌∷◌, ◌≡◌}
use Rattle.std.proofs.lemmas.Option.{same_Some}
use Rattle.dom_base.proofs.Lists.{AllByRecursion-append, AllByRecursion-weaker}
use Rattle.dom_base.specs.declared.kind.Kind.TheVariants.{Keep, N as nch, P as pch}
use Rattle.deck.specs.NamedDevices.{NamedDevice}
use Rattle.sp_network.specs.Tree.{Leaf, Parallel, Series, Tree, inner_count, map_tree}
use Rattle.domino_cell.specs.Cell.{inverter as inverter_cards}
use Rattle.domino_cell.specs.Spelling.{spell}
use Rattle.domino_cell.specs.Stage.{Inside, Top}
use Rattle.domino_law.proofs.SimpleCells.{AreSimple, simple_gate}
use Rattle.domino_law.specs.Nets.{At, Clock, Complement, DeckSignal, Dynamic, Gate, Master, Net, Next, Output, Sink, Slave, Vdd, Vss, gate_net, own, left_side}
use Rattle.domino_law.specs.Shape.{DominoCell, IsCellAt, IsLatchAt, IsOutputAt, Latch, Shape}
use Rattle.domino_cell.specs.declared.style.Style.TheVariants.{Keeper as WithKeeper}
use Rattle.domino_law.specs.Spelled.{cell_cards, complement_cards, latch_cards, next_cards, one_cell, one_latch, output_cards, reset_card, shape_cards, static_cards}
use Rattle.deck_audit.proofs.Blocks.{block_offset, blocks, blocks_all}
use Rattle.deck_audit.proofs.Offsets.{Offset, offset_behind, offset_front, offset_whole}

-- the net is one of the cell, of the latch, of the complement, of the output, of the latch input
abbrev pub OfCell : ℕ → Net → Type 0
OfCell k (At (Dynamic j) spot) = k ≡ j.cell
OfCell k (At (Output j) spot) = k ≡ j
OfCell k _ = ⊥

abbrev pub OfLatch : ℕ → Net → Type 0
OfLatch k (At (Master j) spot) = k ≡ j
OfLatch k (At (Slave j) spot) = k ≡ j
OfLatch k _ = ⊥

abbrev pub OfComplement : DeckSignal → Net → Type 0
OfComplement l (At (Complement m) spot) = l ≡ m
OfComplement l _ = ⊥

abbrev pub OfSink : ℕ → Net → Type 0
OfSink k (At (Sink j) spot) = k ≡ j
OfSink k _ = ⊥

abbrev pub OfNext : ℕ → Net → Type 0
OfNext k (At (Next j) spot) = k ≡ j
OfNext k _ = ⊥

-- the cards of a cell: its precharge device and its keeper, its tree, its foot, and its output's inverter
abbrev pub precharge_card : ℕ → DominoCell → NamedDevice Net
precharge_card k c = record { kind = pch; drain = At (Dynamic (left_side k)) Top; gate = Clock c.clock; source = Vdd }

abbrev pub keeper_card : ℕ → NamedDevice Net
keeper_card k = record { kind = Keep; drain = At (Dynamic (left_side k)) Top; gate = At (Output k) Top; source = Vdd }

abbrev pub tree_list : ℕ → DominoCell → List (NamedDevice Net)
tree_list k c =
    spell nch (λ j. At (Dynamic (left_side k)) (Inside 0 (1 + j))) (map_tree gate_net c.tree) (At (Dynamic (left_side k)) Top)
    (At (Dynamic (left_side k)) (Inside 0 0)) 0

abbrev pub foot_card : ℕ → DominoCell → NamedDevice Net
foot_card k c = record { kind = nch; drain = At (Dynamic (left_side k)) (Inside 0 0); gate = Clock c.clock; source = Vss }

abbrev pub up_card : ℕ → NamedDevice Net
up_card k = record { kind = pch; drain = At (Output k) Top; gate = At (Dynamic (left_side k)) Top; source = Vdd }

abbrev pub down_card : ℕ → NamedDevice Net
down_card k = record { kind = nch; drain = At (Output k) Top; gate = At (Dynamic (left_side k)) Top; source = Vss }

-- the cards of one cell, of one latch, of the inverter of one output and of one latch input
abbrev pub cell_block : ℕ → DominoCell → List (NamedDevice Net)
cell_block k c = precharge_card k c ∷ keeper_card k ∷ ((tree_list k c ++ foot_card k c ∷ []) ++ up_card k ∷ down_card k ∷ [])

abbrev pub latch_block : ℕ → Latch → List (NamedDevice Net)
latch_block j b = one_latch j b.init

abbrev pub sink_block : ℕ → Gate → List (NamedDevice Net)
sink_block i g = inverter_cards Vdd Vss (gate_net g) (At (Sink i) Top)

abbrev pub next_block : ℕ → Latch → List (NamedDevice Net)
next_block j b = inverter_cards Vdd Vss (gate_net b.next) (At (Next j) Top)

abbrev pub complement_block : DeckSignal → List (NamedDevice Net)
complement_block l = inverter_cards Vdd Vss (own l) (At (Complement l) Top)

-- the cards of a deck with keepers
abbrev pub keeper_cards : Shape → List (NamedDevice Net)
keeper_cards s =
    blocks cell_block 0 s.cells
    ++ (complement_cards s.complements ++ (blocks latch_block 0 s.latches ++ (blocks sink_block 0 s.outputs ++ blocks next_block 0 s.latches)))

-- a simple cell with a keeper has these cards
block_is : (k : ℕ) (c : DominoCell) → c.right ≡ None → one_cell WithKeeper k c ≡ cell_block k c
block_is k c z = rw z refl

cells_same : (k : ℕ) (cs : List DominoCell) → ((m : ℕ) (c : DominoCell) → slice_get cs m ≡ Some c → c.right ≡ None) → cell_cards WithKeeper k cs ≡ blocks cell_block k cs
cells_same k [] h = refl
cells_same k (c ∷ cs) h = ap₂ (λ a b. a ++ b) (block_is k c (h 0 c refl)) (cells_same (k + 1) cs (λ m d e. h (suc m) d e))

latches_same : (j : ℕ) (bs : List Latch) → latch_cards j bs ≡ blocks latch_block j bs
latches_same j [] = refl
latches_same j (b ∷ bs) = ap (λ xs. latch_block j b ++ xs) (latches_same (j + 1) bs)

-- static gates of one net are inverters
sinks_same : (s : Shape) → AreSimple s → (i : ℕ) (gs : List Gate) → output_cards s i gs ≡ blocks sink_block i gs
sinks_same s simple i [] = refl
sinks_same s simple i (g ∷ gs) = ap₂ (λ a b. a ++ b) (ap (λ t. static_cards (Sink i) t) (simple_gate s simple g)) (sinks_same s simple (i + 1) gs)

nexts_same : (s : Shape) → AreSimple s → (j : ℕ) (bs : List Latch) → next_cards s j bs ≡ blocks next_block j bs
nexts_same s simple j [] = refl
nexts_same s simple j (b ∷ bs) = ap₂ (λ a b. a ++ b) (ap (λ t. static_cards (Next j) t) (simple_gate s simple b.next)) (nexts_same s simple (j + 1) bs)

pub cards_are : (s : Shape) → s.style ≡ WithKeeper → AreSimple s → shape_cards s ≡ keeper_cards s
cards_are s e simple =
    ap (λ style. cell_cards style 0 s.cells ++ (complement_cards s.complements ++ (latch_cards 0 s.latches ++ (output_cards s 0 s.outputs ++ next_cards s 0 s.latches)))) e
    ∙ (λ i. cells_same 0 s.cells (λ m c z. simple m c z) i ++ (complement_cards s.complements ++ (latches_same 0 s.latches i ++ (sinks_same s simple 0 s.outputs i ++ nexts_same s simple 0 s.latches i))))

-- the drains of a spelling are its top and its inner nets
spell_drains : (P : Net → Type 0) (inner : ℕ → Net) → ((j : ℕ) → P (inner j)) → (t : Tree Net) (top bottom : Net) (k : ℕ) → P top → AllByRecursion (λ x. P x.drain) (spell nch inner t top bottom k)
spell_drains P inner h (Leaf g) top bottom k p = (p, tt)
spell_drains P inner h (Series l r) top bottom k p =
    AllByRecursion-append (λ x. P x.drain) (spell nch inner l top (inner k) (k + 1)) (spell nch inner r (inner k) bottom (k + 1 + inner_count l)) (spell_drains P inner h l top (inner k) (k + 1) p) (spell_drains P inner h r (inner k) bottom (k + 1 + inner_count l) (h k))
spell_drains P inner h (Parallel l r) top bottom k p =
    AllByRecursion-append (λ x. P x.drain) (spell nch inner l top bottom k) (spell nch inner r top bottom (k + inner_count l)) (spell_drains P inner h l top bottom k p) (spell_drains P inner h r top bottom (k + inner_count l) p)

-- all cards of a cell are of it, and all of a latch
pub cell_own : (k : ℕ) (c : DominoCell) → AllByRecursion (λ x. OfCell k x.drain) (cell_block k c)
cell_own k c = (
  refl,
  (
    refl,
    AllByRecursion-append (λ x. OfCell k x.drain) (tree_list k c ++ foot_card k c ∷ []) (up_card k ∷ down_card k ∷ [])
        (AllByRecursion-append (λ x. OfCell k x.drain) (tree_list k c) (foot_card k c ∷ [])
        (spell_drains (OfCell k) (λ j. At (Dynamic (left_side k)) (Inside 0 (1 + j))) (λ j. refl) (map_tree gate_net c.tree) (At (Dynamic (left_side k)) Top)
        (At (Dynamic (left_side k)) (Inside 0 0)) 0 refl) (refl, tt)) (refl, (refl, tt)),
  ),
)

pub latch_own : (j : ℕ) (b : Latch) → AllByRecursion (λ x. OfLatch j x.drain) (latch_block j b)
latch_own j b = (refl, (refl, (refl, (refl, (refl, (refl, (refl, (refl, (reset b.init, tt)))))))))
  where
    reset : (v : Bool) → OfLatch j (reset_card j v).drain
    reset false = refl
    reset true = refl

pub one_cell_of : (k j : ℕ) (a : Net) → OfCell k a → OfCell j a → k ≡ j
one_cell_of k j (At (Dynamic m) spot) a b = a ∙ sym b
one_cell_of k j (At (Output m) spot) a b = a ∙ sym b
one_cell_of k j a x y = absurd x

pub one_latch_of : (k j : ℕ) (a : Net) → OfLatch k a → OfLatch j a → k ≡ j
one_latch_of k j (At (Master m) spot) a b = a ∙ sym b
one_latch_of k j (At (Slave m) spot) a b = a ∙ sym b
one_latch_of k j a x y = absurd x

one_sink : (k j : ℕ) (a : Net) → OfSink k a → OfSink j a → k ≡ j
one_sink k j (At (Sink m) spot) a b = a ∙ sym b
one_sink k j a x y = absurd x

one_next : (k j : ℕ) (a : Net) → OfNext k a → OfNext j a → k ≡ j
one_next k j (At (Next m) spot) a b = a ∙ sym b
one_next k j a x y = absurd x

-- what a net is of, as a number
abbrev pub sort : Net → ℕ
sort (At (Dynamic k) spot) = 1
sort (At (Output k) spot) = 1
sort (At (Complement l) spot) = 2
sort (At (Master j) spot) = 3
sort (At (Slave j) spot) = 3
sort (At (Sink i) spot) = 4
sort (At (Next j) spot) = 5
sort _ = 0

cell_sort : (k : ℕ) (a : Net) → OfCell k a → sort a ≡ 1
cell_sort k (At (Dynamic j) spot) h = refl
cell_sort k (At (Output j) spot) h = refl
cell_sort k a h = absurd h

latch_sort : (j : ℕ) (a : Net) → OfLatch j a → sort a ≡ 3
latch_sort j (At (Master k) spot) h = refl
latch_sort j (At (Slave k) spot) h = refl
latch_sort j a h = absurd h

-- no net is of a cell and of a latch, and no supply is of either
pub cell_no_latch : (k j : ℕ) (a : Net) → OfCell k a → OfLatch j a → ⊥
cell_no_latch k j a c l = apart (sort a) (cell_sort k a c) (latch_sort j a l)
  where
    apart : (n : ℕ) → n ≡ 1 → n ≡ 3 → ⊥
    apart n e f = omega (arith, e, f)

pub supply_no_cell : (k : ℕ) (a : Net) → (a ≡ Vdd) ⊎ (a ≡ Vss) → OfCell k a → ⊥
supply_no_cell k a (inl z) c = rw z at c
supply_no_cell k a (inr z) c = rw z at c

pub supply_no_latch : (j : ℕ) (a : Net) → (a ≡ Vdd) ⊎ (a ≡ Vss) → OfLatch j a → ⊥
supply_no_latch j a (inl z) l = rw z at l
supply_no_latch j a (inr z) l = rw z at l

complement_sort : (l : DeckSignal) (a : Net) → OfComplement l a → sort a ≡ 2
complement_sort l (At (Complement m) spot) h = refl
complement_sort l a h = absurd h

sink_sort : (i : ℕ) (a : Net) → OfSink i a → sort a ≡ 4
sink_sort i (At (Sink k) spot) h = refl
sink_sort i a h = absurd h

next_sort : (j : ℕ) (a : Net) → OfNext j a → sort a ≡ 5
next_sort j (At (Next k) spot) h = refl
next_sort j a h = absurd h

-- the cards of each list are of one sort
cells_sorted : (cs : List DominoCell) → AllByRecursion (λ x. sort x.drain ≡ 1) (blocks cell_block 0 cs)
cells_sorted cs =
    blocks_all cell_block (λ x. sort x.drain ≡ 1) 0 cs (λ m c e. AllByRecursion-weaker (λ x. OfCell (0 + m) x.drain) (λ x. sort x.drain ≡ 1) (λ x h. cell_sort (0 + m) x.drain h) (cell_block (0 + m) c) (cell_own (0 + m) c))

complements_sorted : (ls : List DeckSignal) → AllByRecursion (λ x. sort x.drain ≡ 2) (complement_cards ls)
complements_sorted [] = tt
complements_sorted (l ∷ ls) = (refl, (refl, complements_sorted ls))

latches_sorted : (bs : List Latch) → AllByRecursion (λ x. sort x.drain ≡ 3) (blocks latch_block 0 bs)
latches_sorted bs =
    blocks_all latch_block (λ x. sort x.drain ≡ 3) 0 bs (λ m b e. AllByRecursion-weaker (λ x. OfLatch (0 + m) x.drain) (λ x. sort x.drain ≡ 3) (λ x h. latch_sort (0 + m) x.drain h) (latch_block (0 + m) b) (latch_own (0 + m) b))

sinks_sorted : (gs : List Gate) → AllByRecursion (λ x. sort x.drain ≡ 4) (blocks sink_block 0 gs)
sinks_sorted gs = blocks_all sink_block (λ x. sort x.drain ≡ 4) 0 gs (λ m g e. (refl, (refl, tt)))

nexts_sorted : (bs : List Latch) → AllByRecursion (λ x. sort x.drain ≡ 5) (blocks next_block 0 bs)
nexts_sorted bs = blocks_all next_block (λ x. sort x.drain ≡ 5) 0 bs (λ m b e. (refl, (refl, tt)))

-- cards of one sort are none of another
away : (Of : NamedDevice Net → Type 0) (n m : ℕ) → n ≢ m → ((x : NamedDevice Net) → Of x → sort x.drain ≡ m) → (xs : List (NamedDevice Net))
    → AllByRecursion (λ x. sort x.drain ≡ n) xs → AllByRecursion (λ x. Of x → ⊥) xs
away Of n m clash of xs h = AllByRecursion-weaker (λ x. sort x.drain ≡ n) (λ x. Of x → ⊥) (λ x e o. clash (sym e ∙ of x o)) xs h

-- a complement that is listed once
no_complement : (l : DeckSignal) (ls : List DeckSignal) → ((i : ℕ) → slice_get ls i ≡ Some l → ⊥) → AllByRecursion (λ x. OfComplement l x.drain → ⊥) (complement_cards ls)
no_complement l [] h = tt
no_complement l (m ∷ ls) h =
    let away : l ≡ m → ⊥ = λ z. h 0 (ap (λ x. Some x) (sym z)) in
    (away, (away, no_complement l ls (λ i e. h (suc i) e)))

complement_among : (l : DeckSignal) (ls : List DeckSignal) (m : ℕ) → slice_get ls m ≡ Some l → ((i : ℕ) → slice_get ls i ≡ Some l → i ≡ m)
    → Offset (λ x. OfComplement l x.drain) (complement_cards ls) (complement_block l)
complement_among l [] m e once = absurd (cc)
complement_among l (k ∷ ls) zero e once =
    subst (λ j. Offset (λ x. OfComplement l x.drain) (complement_block j ++ complement_cards ls) (complement_block l)) (sym (same_Some _ _ e))
    (offset_front (λ x. OfComplement l x.drain) (complement_block l) (complement_cards ls) (complement_block l)
    (offset_whole (λ x. OfComplement l x.drain) (complement_block l)) (no_complement l ls (λ i f. suc_zero i (once (suc i) f))))
  where
    suc_zero : (i : ℕ) → suc i ≡ 0 → ⊥
    suc_zero i e = omega (arith, e)
complement_among l (k ∷ ls) (suc m) e once =
    let away : l ≡ k → ⊥ = λ z. zero_suc (once 0 (ap (λ x. Some x) (sym z))) in
    offset_behind (λ x. OfComplement l x.drain) (complement_block k) (complement_cards ls) (complement_block l)
    (away, (away, tt)) (complement_among l ls m e (λ i f. suc_same i (once (suc i) f)))
  where
    zero_suc : 0 ≡ suc m → ⊥
    zero_suc e = omega (arith, e)

    suc_same : (i : ℕ) → suc i ≡ suc m → i ≡ m
    suc_same i e = omega (arith, e)

module _ (s : Shape) where
  -- the four lists behind the cells, the three behind the complements, and so on
  abbrev behind_4 : List (NamedDevice Net)
  behind_4 = blocks sink_block 0 s.outputs ++ blocks next_block 0 s.latches

  abbrev behind_3 : List (NamedDevice Net)
  behind_3 = blocks latch_block 0 s.latches ++ behind_4

  abbrev behind_2 : List (NamedDevice Net)
  behind_2 = complement_cards s.complements ++ behind_3

  module _ (Of : NamedDevice Net → Type 0) (m : ℕ) (of : (x : NamedDevice Net) → Of x → sort x.drain ≡ m) where
    no_cells : 1 ≢ m → AllByRecursion (λ x. Of x → ⊥) (blocks cell_block 0 s.cells)
    no_cells n = away Of 1 m n of (blocks cell_block 0 s.cells) (cells_sorted s.cells)

    no_complements : 2 ≢ m → AllByRecursion (λ x. Of x → ⊥) (complement_cards s.complements)
    no_complements n = away Of 2 m n of (complement_cards s.complements) (complements_sorted s.complements)

    no_latches : 3 ≢ m → AllByRecursion (λ x. Of x → ⊥) (blocks latch_block 0 s.latches)
    no_latches n = away Of 3 m n of (blocks latch_block 0 s.latches) (latches_sorted s.latches)

    no_sinks : 4 ≢ m → AllByRecursion (λ x. Of x → ⊥) (blocks sink_block 0 s.outputs)
    no_sinks n = away Of 4 m n of (blocks sink_block 0 s.outputs) (sinks_sorted s.outputs)

    no_nexts : 5 ≢ m → AllByRecursion (λ x. Of x → ⊥) (blocks next_block 0 s.latches)
    no_nexts n = away Of 5 m n of (blocks next_block 0 s.latches) (nexts_sorted s.latches)

    none_4 : 4 ≢ m → 5 ≢ m → AllByRecursion (λ x. Of x → ⊥) behind_4
    none_4 a b = AllByRecursion-append (λ x. Of x → ⊥) (blocks sink_block 0 s.outputs) (blocks next_block 0 s.latches) (no_sinks a) (no_nexts b)

    none_3 : 3 ≢ m → 4 ≢ m → 5 ≢ m → AllByRecursion (λ x. Of x → ⊥) behind_3
    none_3 c a b = AllByRecursion-append (λ x. Of x → ⊥) (blocks latch_block 0 s.latches) behind_4 (no_latches c) (none_4 a b)

    none_2 : 2 ≢ m → 3 ≢ m → 4 ≢ m → 5 ≢ m → AllByRecursion (λ x. Of x → ⊥) behind_2
    none_2 d c a b = AllByRecursion-append (λ x. Of x → ⊥) (complement_cards s.complements) behind_3 (no_complements d) (none_3 c a b)

  pub cell_offset : (k : ℕ) (c : DominoCell) → IsCellAt s k c → Offset (λ x. OfCell k x.drain) (keeper_cards s) (cell_block k c)
  cell_offset k c e =
      offset_front (λ x. OfCell k x.drain) (blocks cell_block 0 s.cells) behind_2 (cell_block k c) (block_offset cell_block (λ k x. OfCell k x.drain) cell_own (λ k j x. one_cell_of k j x.drain) s.cells k c e)
      (none_2 (λ x. OfCell k x.drain) 1 (λ x h. cell_sort k x.drain h) (λ z. omega (arith, z)) (λ z. omega (arith, z)) (λ z. omega (arith, z)) (λ z. omega (arith, z)))

  pub complement_offset : (l : DeckSignal) (m : ℕ) → slice_get s.complements m ≡ Some l → ((i : ℕ) → slice_get s.complements i ≡ Some l → i ≡ m)
      → Offset (λ x. OfComplement l x.drain) (keeper_cards s) (complement_block l)
  complement_offset l m e once =
      offset_behind (λ x. OfComplement l x.drain) (blocks cell_block 0 s.cells) behind_2 (complement_block l) (no_cells (λ x. OfComplement l x.drain) 2 (λ x h. complement_sort l x.drain h) (λ z. omega (arith, z)))
      (offset_front (λ x. OfComplement l x.drain) (complement_cards s.complements) behind_3 (complement_block l) (complement_among l s.complements m e once)
      (none_3 (λ x. OfComplement l x.drain) 2 (λ x h. complement_sort l x.drain h) (λ z. omega (arith, z)) (λ z. omega (arith, z)) (λ z. omega (arith, z))))

  pub latch_offset : (j : ℕ) (b : Latch) → IsLatchAt s j b → Offset (λ x. OfLatch j x.drain) (keeper_cards s) (latch_block j b)
  latch_offset j b e =
      offset_behind (λ x. OfLatch j x.drain) (blocks cell_block 0 s.cells) behind_2 (latch_block j b) (no_cells (λ x. OfLatch j x.drain) 3 (λ x h. latch_sort j x.drain h) (λ z. omega (arith, z)))
      (offset_behind (λ x. OfLatch j x.drain) (complement_cards s.complements) behind_3 (latch_block j b) (no_complements (λ x. OfLatch j x.drain) 3 (λ x h. latch_sort j x.drain h) (λ z. omega (arith, z)))
      (offset_front (λ x. OfLatch j x.drain) (blocks latch_block 0 s.latches) behind_4 (latch_block j b) (block_offset latch_block (λ k x. OfLatch k x.drain) latch_own (λ k j x. one_latch_of k j x.drain) s.latches j b e)
      (none_4 (λ x. OfLatch j x.drain) 3 (λ x h. latch_sort j x.drain h) (λ z. omega (arith, z)) (λ z. omega (arith, z)))))

  pub sink_offset : (i : ℕ) (g : Gate) → IsOutputAt s i g → Offset (λ x. OfSink i x.drain) (keeper_cards s) (sink_block i g)
  sink_offset i g e =
      offset_behind (λ x. OfSink i x.drain) (blocks cell_block 0 s.cells) behind_2 (sink_block i g) (no_cells (λ x. OfSink i x.drain) 4 (λ x h. sink_sort i x.drain h) (λ z. omega (arith, z)))
      (offset_behind (λ x. OfSink i x.drain) (complement_cards s.complements) behind_3 (sink_block i g) (no_complements (λ x. OfSink i x.drain) 4 (λ x h. sink_sort i x.drain h) (λ z. omega (arith, z)))
      (offset_behind (λ x. OfSink i x.drain) (blocks latch_block 0 s.latches) behind_4 (sink_block i g) (no_latches (λ x. OfSink i x.drain) 4 (λ x h. sink_sort i x.drain h) (λ z. omega (arith, z)))
      (offset_front (λ x. OfSink i x.drain) (blocks sink_block 0 s.outputs) (blocks next_block 0 s.latches) (sink_block i g) (block_offset sink_block (λ k x. OfSink k x.drain) (λ k g. (refl, (refl, tt))) (λ k j x. one_sink k j x.drain) s.outputs i g e)
      (no_nexts (λ x. OfSink i x.drain) 4 (λ x h. sink_sort i x.drain h) (λ z. omega (arith, z))))))

  pub next_offset : (j : ℕ) (b : Latch) → IsLatchAt s j b → Offset (λ x. OfNext j x.drain) (keeper_cards s) (next_block j b)
  next_offset j b e =
      offset_behind (λ x. OfNext j x.drain) (blocks cell_block 0 s.cells) behind_2 (next_block j b) (no_cells (λ x. OfNext j x.drain) 5 (λ x h. next_sort j x.drain h) (λ z. omega (arith, z)))
      (offset_behind (λ x. OfNext j x.drain) (complement_cards s.complements) behind_3 (next_block j b) (no_complements (λ x. OfNext j x.drain) 5 (λ x h. next_sort j x.drain h) (λ z. omega (arith, z)))
      (offset_behind (λ x. OfNext j x.drain) (blocks latch_block 0 s.latches) behind_4 (next_block j b) (no_latches (λ x. OfNext j x.drain) 5 (λ x h. next_sort j x.drain h) (λ z. omega (arith, z)))
      (offset_behind (λ x. OfNext j x.drain) (blocks sink_block 0 s.outputs) (blocks next_block 0 s.latches) (next_block j b) (no_sinks (λ x. OfNext j x.drain) 5 (λ x h. next_sort j x.drain h) (λ z. omega (arith, z)))
      (block_offset next_block (λ k x. OfNext k x.drain) (λ k b. (refl, (refl, tt))) (λ k j x. one_next k j x.drain) s.latches j b e))))
