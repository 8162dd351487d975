-- The parts of a deck are its cells and latches, device by device.
use Rattle.domino_cell.specs.StyledCells.{behind_precharge, inner_precharges, pull_down_cards}
use Rattle.std.specs.Prelude.{Contains, None, Option, Some}
use Rattle.std.proofs.Common.{Bool, List, [], ap, append_assoc, false, inl, inr, map, refl, suc, sym, true, zero, zero-add, ℕ, ◌++◌, ◌+◌, ◌∙◌, ◌∷◌, ◌≡◌}
use Rattle.std.proofs.lemmas.List.{append-nil, map-append}
use Rattle.std.proofs.lemmas.List.Elements.{Contains-append_cases, Contains-append_left, Contains-append_right}
use Rattle.dom_base.specs.declared.kind.Kind.TheVariants.{N as nch, P as pch}
use Rattle.deck.specs.Nets.{net_number}
use Rattle.deck.specs.declared.device.Device.{Device}
use Rattle.deck.specs.NamedDevices.{NamedDevice, device_of, map_device}
use Rattle.deck.proofs.CircuitGrowth.{with_devices-devices}
use Rattle.sp_network.specs.Tree.{Leaf, Parallel, Series, Tree, dual, inner_count, map_tree}
use Rattle.sp_network.proofs.TreeImages.{inner_count-map_tree}
use Rattle.domino_cell.specs.Stage.{Inside, Top, stage}
use Rattle.domino_cell.specs.Spelling.{spell}
use Rattle.domino_cell.proofs.Spellings.{spell-map_tree, spell-same}
use Rattle.stage_law.specs.Precharged.{taps_from}
use Rattle.domino_cell.specs.Tapped.{tap_card}
use Rattle.domino_law.specs.Branches.{clocked, dynamic, dynamic_taps, keepers, master, numbered, reset_branch, slave, static_branches}
use Rattle.domino_law.specs.Nets.{At, Clock, Complement, Dynamic, Gate, Ls, Lsb, Master, Net, Next, Output, DeckSignal, Sink, Slave, Vdd, Vss, gate_net, own, CellSide, Part, Right, left_side, right_side}
use Rattle.domino_law.specs.Shape.{DominoCell, DynamicStage, Latch, Shape, dynamic_nets, gate_tree, left_stage, side_of}
use Rattle.domino_cell.specs.declared.style.Style.{Style}
use Rattle.domino_cell.specs.declared.style.Style.TheVariants.{Keeper as WithKeeper, Precharge as WithPrecharge}
use Rattle.domino_law.specs.Spelled.{NamedIsSpelled, cell_cards, complement_cards, shape_cards, named_circuit, deck_devices, latch_cards, net_cell, next_cards, one_cell, one_latch, output_cards, right_cards, side_cards, static_cards}
use Rattle.domino_law.proofs.DeckLists.{LatchIsSpelled, StagePart, cell_parts, complement_parts, deck_parts, group_parts, latch_devices, latch_parts, next_parts, output_parts, part_devices, parts_devices, right_parts, side_part, static_part}

latch_is : LatchIsSpelled
latch_is net j b = by net j b.init
  where
    by : (net : Net → ℕ) (j : ℕ) (init : Bool)
        → part_devices net (record { part = Master j; branches = master net j; taps = [] }) ++ part_devices net (record { part = Slave j; branches = clocked net Lsb Ls (At (Master j) Top) (reset_branch net init ∷ []); taps = [] })
        ≡ latch_devices net j init
    by net j false = refl
    by net j true = refl

-- a tree over nets, and over their numbers
map_tree-map_tree : {A B C : Type 0} (f : A → B) (g : B → C) (t : Tree A) → map_tree g (map_tree f t) ≡ map_tree (λ a. g (f a)) t
map_tree-map_tree f g (Leaf gate) = refl
map_tree-map_tree f g (Series l r) = rw (map_tree-map_tree f g l, map_tree-map_tree f g r) refl
map_tree-map_tree f g (Parallel l r) = rw (map_tree-map_tree f g l, map_tree-map_tree f g r) refl

-- the devices of cards over nets
devices : (Net → ℕ) → List (NamedDevice Net) → List Device
devices net cards = map device_of (map (map_device net) cards)

devices-append : (net : Net → ℕ) (a b : List (NamedDevice Net)) → devices net (a ++ b) ≡ devices net a ++ devices net b
unfolding devices
devices-append net a b = ap (map device_of) (map-append (map_device net) a b) ∙ map-append device_of (map (map_device net) a) (map (map_device net) b)

-- lists with the same devices
pub record Same (xs ys : List Device) : Type 0 where
  pub to : (d : Device) → Contains xs d → Contains ys d
  pub from : (d : Device) → Contains ys d → Contains xs d

same_as : (xs ys : List Device) → xs ≡ ys → Same xs ys
same_as xs ys e = record { to = λ d c. rw e at c; from = λ d c. rw (← e) at c }

pub Same-append : (a b c d : List Device) → Same a c → Same b d → Same (a ++ b) (c ++ d)
Same-append a b c d s t = record {
  to = λ x m. elim (Contains-append_cases a b x m) [ inl w ↦ Contains-append_left c d x (s.to x w) | inr w ↦ Contains-append_right c d x (t.to x w) ];
  from = λ x m. elim (Contains-append_cases c d x m) [ inl w ↦ Contains-append_left a b x (s.from x w) | inr w ↦ Contains-append_right a b x (t.from x w) ];
}

Same-swap : (a b : List Device) → Same (a ++ b) (b ++ a)
Same-swap a b = record {
  to = λ x m. elim (Contains-append_cases a b x m) [ inl w ↦ Contains-append_right b a x w | inr w ↦ Contains-append_left b a x w ];
  from = λ x m. elim (Contains-append_cases b a x m) [ inl w ↦ Contains-append_right a b x w | inr w ↦ Contains-append_left a b x w ];
}

Same-refl : (a : List Device) → Same a a
Same-refl a = record { to = λ d c. c; from = λ d c. c }

Same-trans : (a b c : List Device) → Same a b → Same b c → Same a c
Same-trans a b c s t = record { to = λ d m. t.to d (s.to d m); from = λ d m. s.from d (t.from d m) }

-- the tree and the foot
pull_down_devices : (net : Net → ℕ) (k : CellSide) (c : DynamicStage) → devices net (pull_down_cards (net_cell k c) (map_tree gate_net c.tree))
    ≡ map device_of (spell nch (λ j. net (At (Dynamic k) (Inside 0 j))) (Series (numbered net c.tree) (Leaf (net (Clock c.clock)))) (net (At (Dynamic k) Top)) (net Vss) 0)
unfolding devices
pull_down_devices net k c =
    ap (map device_of) (map-append (map_device net) (spell nch (net_cell k c).inner (map_tree gate_net c.tree) (At (Dynamic k) Top) (At (Dynamic k) (Inside 0 0)) 0) _
    ∙ ap (λ cs. cs ++ record { kind = nch; drain = net (At (Dynamic k) (Inside 0 0)); gate = net (Clock c.clock); source = net Vss } ∷ [])
    (spell-map_tree net nch (net_cell k c).inner (map_tree gate_net c.tree) (At (Dynamic k) Top) (At (Dynamic k) (Inside 0 0)) 0
    ∙ (ap (λ t. spell nch (λ j. net (At (Dynamic k) (Inside 0 (1 + j)))) t (net (At (Dynamic k) Top)) (net (At (Dynamic k) (Inside 0 0))) 0) (map_tree-map_tree gate_net net c.tree)
    ∙ spell-same nch (λ j. net (At (Dynamic k) (Inside 0 (1 + j)))) (λ j. net (At (Dynamic k) (Inside 0 j))) (numbered net c.tree) (net (At (Dynamic k) Top)) (net (At (Dynamic k) (Inside 0 0))) 0 1 (λ j lt. rw zero-add refl))))

inner_devices : (net : Net → ℕ) (k : CellSide) (c : DynamicStage) (i n : ℕ) → devices net (inner_precharges (net_cell k c) i n)
    ≡ map device_of (map (tap_card (λ a. net (At (Dynamic k) a))) (taps_from (net Vdd) (net (Clock c.clock)) i n))
unfolding devices
inner_devices net k c i zero = refl
inner_devices net k c i (suc n) = ap (λ ds. record { kind = pch; drain = net (At (Dynamic k) (Inside 0 (1 + i))); gate = net (Clock c.clock); source = net Vdd } ∷ ds) (inner_devices net k c (i + 1) n)

-- the precharge and what follows it
head_devices : (style : Style) (net : Net → ℕ) (k : CellSide) (c : DynamicStage) → devices net (behind_precharge style (net_cell k c) (inner_count (map_tree gate_net c.tree)))
    ≡ map device_of (stage (λ a. net (At (Dynamic k) a)) 2 (keepers style net k) ++ map (tap_card (λ a. net (At (Dynamic k) a))) (dynamic_taps style net c))
unfolding devices
head_devices WithKeeper net k c = refl
head_devices WithPrecharge net k c =
    inner_devices net k c 0 (inner_count (map_tree gate_net c.tree))
    ∙ ap (λ n. map device_of (map (tap_card (λ a. net (At (Dynamic k) a))) (taps_from (net Vdd) (net (Clock c.clock)) 0 n))) (inner_count-map_tree gate_net c.tree ∙ sym (inner_count-map_tree (λ g. net (gate_net g)) c.tree))

module _ (style : Style) (net : Net → ℕ) (k : CellSide) (c : DynamicStage) where
  abbrev A : List Device
  A = record { kind = pch; drain = net (At (Dynamic k) Top); gate = net (Clock c.clock); source = net Vdd }
      ∷ map device_of (stage (λ a. net (At (Dynamic k) a)) 2 (keepers style net k) ++ map (tap_card (λ a. net (At (Dynamic k) a))) (dynamic_taps style net c))

  abbrev T : List Device
  T = map device_of (spell nch (λ j. net (At (Dynamic k) (Inside 0 j))) (Series (numbered net c.tree) (Leaf (net (Clock c.clock)))) (net (At (Dynamic k) Top)) (net Vss) 0)

  abbrev P : List Device
  P = part_devices net (record { part = Dynamic k; branches = dynamic style net k c; taps = dynamic_taps style net c })

  whole : devices net (side_cards style k c) ≡ A ++ T
  unfolding devices
  whole =
      devices-append net (record { kind = pch; drain = At (Dynamic k) Top; gate = Clock c.clock; source = Vdd } ∷ behind_precharge style (net_cell k c) (inner_count (map_tree gate_net c.tree))) (pull_down_cards (net_cell k c) (map_tree gate_net c.tree))
      ∙ (ap (λ l. l ++ devices net (pull_down_cards (net_cell k c) (map_tree gate_net c.tree)))
      (ap (λ l. record { kind = pch; drain = net (At (Dynamic k) Top); gate = net (Clock c.clock); source = net Vdd } ∷ l) (head_devices style net k c))
      ∙ ap (λ l. A ++ l) (pull_down_devices net k c))

  split : T ++ A ≡ P
  split =
      sym (ap (map device_of) (append_assoc
      (spell nch (λ j. net (At (Dynamic k) (Inside 0 j))) (Series (numbered net c.tree) (Leaf (net (Clock c.clock)))) (net (At (Dynamic k) Top)) (net Vss) 0)
      (record { kind = pch; drain = net (At (Dynamic k) Top); gate = net (Clock c.clock); source = net Vdd } ∷ stage (λ a. net (At (Dynamic k) a)) 2 (keepers style net k))
      (map (tap_card (λ a. net (At (Dynamic k) a))) (dynamic_taps style net c)))
      ∙ map-append device_of (spell nch (λ j. net (At (Dynamic k) (Inside 0 j))) (Series (numbered net c.tree) (Leaf (net (Clock c.clock)))) (net (At (Dynamic k) Top)) (net Vss) 0) _)

  side_devices : Same (devices net (side_cards style k c)) (part_devices net (side_part style net k c))
  side_devices = Same-trans _ (A ++ T) P (same_as _ (A ++ T) whole) (Same-trans (A ++ T) (T ++ A) P (Same-swap A T) (same_as (T ++ A) P split))

-- the cards of a static gate
static_devices : (net : Net → ℕ) (part : Part) (t : Tree Net) → devices net (static_cards part t) ≡ part_devices net (static_part net part t)
unfolding devices
static_devices net part t =
    ap (map device_of) (map-append (map_device net) (spell pch (λ j. At part (Inside 0 j)) (dual t) (At part Top) Vdd 0) (spell nch (λ j. At part (Inside 1 j)) t (At part Top) Vss 0)
    ∙ (rw (spell-map_tree net pch (λ j. At part (Inside 0 j)) (dual t) (At part Top) Vdd 0, spell-map_tree net nch (λ j. At part (Inside 1 j)) t (At part Top) Vss 0) refl
    ∙ (ap (λ l. spell pch (λ j. net (At part (Inside 0 j))) (map_tree net (dual t)) (net (At part Top)) (net Vdd) 0 ++ l)
    (sym (append-nil (spell nch (λ j. net (At part (Inside 1 j))) (map_tree net t) (net (At part Top)) (net Vss) 0)))
    ∙ sym (append-nil (stage (λ a. net (At part a)) 0 (static_branches net t))))))

latch_part_devices : (net : Net → ℕ) (j : ℕ) (b : Latch) → devices net (one_latch j b.init)
    ≡ part_devices net (record { part = Master j; branches = master net j; taps = [] }) ++ part_devices net (record { part = Slave j; branches = slave net j b; taps = [] })
unfolding devices
latch_part_devices net j b = by b.init ∙ sym (latch_is net j b)
  where
    by : (init : Bool) → map device_of (map (map_device net) (one_latch j init)) ≡ latch_devices net j init
    by false = refl
    by true = refl

complements_same : (net : Net → ℕ) (ls : List DeckSignal) → devices net (complement_cards ls) ≡ parts_devices net (complement_parts net ls)
unfolding devices
complements_same net [] = refl
complements_same net (l ∷ ls) = ap (λ ds. part_devices net (static_part net (Complement l) (Leaf (own l))) ++ ds) (complements_same net ls)

latches_same : (net : Net → ℕ) (j : ℕ) (bs : List Latch) → devices net (latch_cards j bs) ≡ parts_devices net (latch_parts net j bs)
unfolding devices
latches_same net j [] = refl
latches_same net j (b ∷ bs) =
    devices-append net (one_latch j b.init) (latch_cards (j + 1) bs)
    ∙ (ap (λ l. l ++ devices net (latch_cards (j + 1) bs)) (latch_part_devices net j b)
    ∙ (append_assoc (part_devices net (record { part = Master j; branches = master net j; taps = [] })) (part_devices net (record { part = Slave j; branches = slave net j b; taps = [] })) (devices net (latch_cards (j + 1) bs))
    ∙ ap (λ l. part_devices net (record { part = Master j; branches = master net j; taps = [] }) ++ (part_devices net (record { part = Slave j; branches = slave net j b; taps = [] }) ++ l)) (latches_same net (j + 1) bs)))

outputs_same : (net : Net → ℕ) (s : Shape) (i : ℕ) (gs : List Gate) → devices net (output_cards s i gs) ≡ parts_devices net (output_parts net s i gs)
unfolding devices
outputs_same net s i [] = refl
outputs_same net s i (g ∷ gs) =
    devices-append net (static_cards (Sink i) (gate_tree s g)) (output_cards s (i + 1) gs)
    ∙ (ap (λ ds. ds ++ devices net (output_cards s (i + 1) gs)) (static_devices net (Sink i) (gate_tree s g))
    ∙ ap (λ ds. part_devices net (static_part net (Sink i) (gate_tree s g)) ++ ds) (outputs_same net s (i + 1) gs))

nexts_same : (net : Net → ℕ) (s : Shape) (j : ℕ) (bs : List Latch) → devices net (next_cards s j bs) ≡ parts_devices net (next_parts net s j bs)
unfolding devices
nexts_same net s j [] = refl
nexts_same net s j (b ∷ bs) =
    devices-append net (static_cards (Next j) (gate_tree s b.next)) (next_cards s (j + 1) bs)
    ∙ (ap (λ ds. ds ++ devices net (next_cards s (j + 1) bs)) (static_devices net (Next j) (gate_tree s b.next))
    ∙ ap (λ ds. part_devices net (static_part net (Next j) (gate_tree s b.next)) ++ ds) (nexts_same net s (j + 1) bs))

parts_devices-append : (net : Net → ℕ) (a b : List StagePart) → parts_devices net (a ++ b) ≡ parts_devices net a ++ parts_devices net b
parts_devices-append net [] b = refl
parts_devices-append net (p ∷ a) b =
    ap (λ l. part_devices net p ++ l) (parts_devices-append net a b) ∙ sym (append_assoc (part_devices net p) (parts_devices net a) (parts_devices net b))

both_append : (net : Net → ℕ) (a b : List (NamedDevice Net)) (p q : List StagePart) → Same (devices net a) (parts_devices net p) → Same (devices net b) (parts_devices net q)
    → Same (devices net (a ++ b)) (parts_devices net (p ++ q))
both_append net a b p q e f =
    Same-trans _ (devices net a ++ devices net b) _ (same_as _ _ (devices-append net a b))
    (Same-trans _ (parts_devices net p ++ parts_devices net q) _ (Same-append _ _ _ _ e f) (same_as _ _ (sym (parts_devices-append net p q))))

one_part : (net : Net → ℕ) (a : List (NamedDevice Net)) (p : StagePart) → Same (devices net a) (part_devices net p) → Same (devices net a) (parts_devices net (p ∷ []))
one_part net a p e = Same-trans _ (part_devices net p) _ e (same_as _ _ (sym (append-nil (part_devices net p))))

right_same : (style : Style) (net : Net → ℕ) (k : ℕ) (o : Option DynamicStage) → Same (devices net (right_cards style k o)) (parts_devices net (right_parts style net k o))
unfolding devices
right_same style net k None = Same-refl []
right_same style net k (Some c) = one_part net (side_cards style (right_side k) c) (side_part style net (right_side k) c) (side_devices style net (right_side k) c)

cells_same : (style : Style) (net : Net → ℕ) (k : ℕ) (cs : List DominoCell) → Same (devices net (cell_cards style k cs)) (parts_devices net (cell_parts style net k cs))
unfolding devices
cells_same style net k [] = Same-refl []
cells_same style net k (c ∷ cs) =
    both_append net (one_cell style k c) (cell_cards style (k + 1) cs) (group_parts style net k c) (cell_parts style net (k + 1) cs)
    (both_append net (side_cards style (left_side k) (left_stage c)) (right_cards style k (side_of c Right) ++ static_cards (Output k) (dynamic_nets k c.right)) (side_part style net (left_side k) (left_stage c) ∷ [])
    (right_parts style net k (side_of c Right) ++ static_part net (Output k) (dynamic_nets k c.right) ∷ []) (one_part net (side_cards style (left_side k) (left_stage c)) (side_part style net (left_side k) (left_stage c)) (side_devices style net (left_side k) (left_stage c)))
    (both_append net (right_cards style k (side_of c Right)) (static_cards (Output k) (dynamic_nets k c.right)) (right_parts style net k (side_of c Right)) (static_part net (Output k) (dynamic_nets k c.right) ∷ []) (right_same style net k (side_of c Right))
    (one_part net (static_cards (Output k) (dynamic_nets k c.right)) (static_part net (Output k) (dynamic_nets k c.right)) (same_as _ _ (static_devices net (Output k) (dynamic_nets k c.right))))))
    (cells_same style net (k + 1) cs)

-- the devices of the deck's cards are those of its parts
pub deck_devices_are : (net : Net → ℕ) (s : Shape) → Same (deck_devices net s) (parts_devices net (deck_parts net s))
unfolding devices
deck_devices_are net s =
    both_append net (cell_cards s.style 0 s.cells) _ (cell_parts s.style net 0 s.cells) _ (cells_same s.style net 0 s.cells)
    (both_append net (complement_cards s.complements) _ (complement_parts net s.complements) _ (same_as _ _ (complements_same net s.complements))
    (both_append net (latch_cards 0 s.latches) _ (latch_parts net 0 s.latches) _ (same_as _ _ (latches_same net 0 s.latches))
    (both_append net (output_cards s 0 s.outputs) _ (output_parts net s 0 s.outputs) _ (same_as _ _ (outputs_same net s 0 s.outputs)) (same_as _ _ (nexts_same net s 0 s.latches)))))

pub named_is_spelled : NamedIsSpelled
named_is_spelled ports name s none =
    with_devices-devices ports (map (map_device name) (shape_cards s))
    ∙ (ap (λ ds. ds ++ map (λ c. device_of (map_device (net_number nets) c)) (map (map_device name) (shape_cards s))) none ∙ by (shape_cards s))
  where
    nets : List (List ℕ)
    nets = (named_circuit ports name s).nets

    by : (cards : List (NamedDevice Net)) → map (λ c. device_of (map_device (net_number nets) c)) (map (map_device name) cards) ≡ map device_of (map (map_device (λ a. net_number nets (name a))) cards)
    by [] = refl
    by (c ∷ cards) = ap (λ ds. device_of (map_device (λ a. net_number nets (name a)) c) ∷ ds) (by cards)
