-- What each card of a deck with keepers is: its ends, its gate, and the part that it is of.
use Rattle.std.specs.List.{AllByRecursion}
use Rattle.std.specs.Prelude.{Bool, Some, false, slice_get, true, ◌⊎◌}
use Rattle.std.proofs.Common.{List, [], arith, inl, inr, refl, subst, sym, ℕ, ◌++◌, ◌+◌, ◌<◌, ◌∷◌, ◌≡◌, ◌≤◌}
use Rattle.std.proofs.lemmas.List.Elements.{All-contains_itself, recursion_from_All}
use Rattle.dom_base.proofs.Lists.{AllByRecursion-append, AllByRecursion-contains, AllByRecursion-weaker, Contains-slice_get}
use Rattle.dom_base.specs.declared.kind.Kind.TheVariants.{N as nch, P as pch}
use Rattle.deck.specs.NamedDevices.{NamedDevice}
use Rattle.deck.specs.declared.device.Device.{Device}
use Rattle.sp_network.specs.Tree.{EachLeaf, Leaf, Parallel, Series, Tree, inner_count, map_tree}
use Rattle.sp_network.proofs.TreeImages.{inner_count-map_tree}
use Rattle.domino_cell.specs.Cell.{inverter as inverter_cards}
use Rattle.domino_cell.specs.Spelling.{spell}
use Rattle.domino_cell.specs.Stage.{Inside, Top}
use Rattle.switch_model.specs.Laws.{EndsAt}
use Rattle.domino_law.proofs.Statics.{left_is}
use Rattle.domino_law.specs.LooseDeck.{IsNet}
use Rattle.domino_law.specs.Nets.{At, Clock, Complement, DeckSignal, Dynamic, FromDynamic, FromLatch, FromOutput, FromPin, Gate, High, Lm, Lmb, Low, Ls, Lsb, Master, Minus, Net, Next, Output, Part, Pin, Plus, Rs, Rsb, Sink, Slave, Vdd, Vss, gate_net, own, left_side}
use Rattle.domino_law.specs.Shape.{DominoCell, HasComplement, IsCellAt, IsGate, IsLatchAt, IsLeafOf, IsOutputAt, IsSignal, Latch, left_stage}
use Rattle.domino_law.specs.Spelled.{complement_cards, reset_card}
use Rattle.deck_audit.specs.Words.{IsControl}
use Rattle.deck_audit.proofs.Blocks.{blocks, blocks_all}
use Rattle.deck_audit.proofs.OwnBlocks.{OfCell, OfLatch, cell_block, complement_block, down_card, foot_card, keeper_cards, latch_block, next_block, sink_block, tree_list, up_card}
use Rattle.deck_audit.proofs.OwnCards.{Carded, OwnDeck, apart, dev_of, part_free}
use Rattle.deck_audit.proofs.RuleFacts.{end_of, twin_ends}

-- the cards of a spelling: their kind, their ends among the nets of the cell, and their gates at leaves
spell_info : (In Leaves : Net → Type 0) (inner : ℕ → Net) (n : ℕ) → ((j : ℕ) → j < n → In (inner j)) → (t : Tree Net) → EachLeaf Leaves t → (top bottom : Net) (k : ℕ) → In top → In bottom → k + inner_count t ≤ n
    → AllByRecursion (λ x. (x.kind ≡ nch) × In x.drain × In x.source × Leaves x.gate) (spell nch inner t top bottom k)
spell_info In Leaves inner n h (Leaf g) l top bottom k a b lt = ((refl, a, b, l), tt)
spell_info In Leaves inner n h (Series x y) l top bottom k a b lt =
    AllByRecursion-append (λ x. (x.kind ≡ nch) × In x.drain × In x.source × Leaves x.gate) (spell nch inner x top (inner k) (k + 1)) (spell nch inner y (inner k) bottom (k + 1 + inner_count x))
    (spell_info In Leaves inner n h x l.0 top (inner k) (k + 1) a (h k (omega (arith, lt))) (omega (arith, lt))) (spell_info In Leaves inner n h y l.1 (inner k) bottom (k + 1 + inner_count x) (h k (omega (arith, lt))) b (omega (arith, lt)))
spell_info In Leaves inner n h (Parallel x y) l top bottom k a b lt =
    AllByRecursion-append (λ x. (x.kind ≡ nch) × In x.drain × In x.source × Leaves x.gate) (spell nch inner x top bottom k) (spell nch inner y top bottom (k + inner_count x))
    (spell_info In Leaves inner n h x l.0 top bottom k a b (omega (arith, lt))) (spell_info In Leaves inner n h y l.1 top bottom (k + inner_count x) a b (omega (arith, lt)))

each_leaf_map : (P : Gate → Type 0) (Q : Net → Type 0) → ((g : Gate) → P g → Q (gate_net g)) → (t : Tree Gate) → EachLeaf P t → EachLeaf Q (map_tree gate_net t)
each_leaf_map P Q f (Leaf g) l = f g l
each_leaf_map P Q f (Series x y) l = (each_leaf_map P Q f x l.0, each_leaf_map P Q f y l.1)
each_leaf_map P Q f (Parallel x y) l = (each_leaf_map P Q f x l.0, each_leaf_map P Q f y l.1)

-- the nets of a cell's dynamic stage
abbrev pub CellNet : ℕ → ℕ → Net → Type 0
CellNet k n a = (a ≡ At (Dynamic (left_side k)) Top) ⊎ ((j : ℕ) × (j < 1 + n) × (a ≡ At (Dynamic (left_side k)) (Inside 0 j)))

pub cell_net_of : (k n : ℕ) (a : Net) → CellNet k n a → OfCell k a
cell_net_of k n a (inl z) = rw z refl
cell_net_of k n a (inr z) = rw z.2 refl

-- the net may gate devices outside of latches
abbrev pub PlainGate : Net → Type 0
PlainGate (At (Master j) spot) = ⊥
PlainGate (At (Next j) spot) = ⊥
PlainGate (At (Sink i) spot) = ⊥
PlainGate (At part (Inside i j)) = ⊥
PlainGate Lm = ⊥
PlainGate Lmb = ⊥
PlainGate Ls = ⊥
PlainGate Lsb = ⊥
PlainGate Rs = ⊥
PlainGate Rsb = ⊥
PlainGate _ = Unit {0}

-- which card of latch j is gated by the net
abbrev pub ByGate : ℕ → Latch → Net → NamedDevice Net → Type 0
ByGate j b Lmb x = x ≡ record { kind = pch; drain = At (Master j) Top; gate = Lmb; source = At (Master j) (Inside 0 0) }
ByGate j b Lm x = x ≡ record { kind = nch; drain = At (Master j) Top; gate = Lm; source = At (Master j) (Inside 1 0) }
ByGate j b Lsb x = x ≡ record { kind = pch; drain = At (Slave j) Top; gate = Lsb; source = At (Slave j) (Inside 0 0) }
ByGate j b Ls x = x ≡ record { kind = nch; drain = At (Slave j) Top; gate = Ls; source = At (Slave j) (Inside 1 0) }
ByGate j b Rs x = (b.init ≡ false) × (x ≡ reset_card j false)
ByGate j b Rsb x = (b.init ≡ true) × (x ≡ reset_card j true)
ByGate j b (At (Next i) Top) x =
    (i ≡ j) × ((x ≡ record { kind = pch; drain = At (Master j) (Inside 0 0); gate = At (Next j) Top; source = Vdd }) ⊎ (x ≡ record { kind = nch; drain = At (Master j) (Inside 1 0); gate = At (Next j) Top; source = Vss }))
ByGate j b (At (Master i) Top) x =
    (i ≡ j) × ((x ≡ record { kind = pch; drain = At (Slave j) (Inside 0 0); gate = At (Master j) Top; source = Vdd }) ⊎ (x ≡ record { kind = nch; drain = At (Slave j) (Inside 1 0); gate = At (Master j) Top; source = Vss }))
ByGate j b _ x = ⊥

-- the two cards of an inverter
abbrev pub inv_up : Net → Net → NamedDevice Net
inv_up out gate = record { kind = pch; drain = out; gate = gate; source = Vdd }

abbrev pub inv_down : Net → Net → NamedDevice Net
inv_down out gate = record { kind = nch; drain = out; gate = gate; source = Vss }

abbrev pub IsInv : Net → Net → NamedDevice Net → Type 0
IsInv out gate x = (x ≡ inv_up out gate) ⊎ (x ≡ inv_down out gate)

module _ (w : OwnDeck) where
  -- a gate of a cell's tree
  abbrev pub LeafNet : ℕ → Net → Type 0
  LeafNet k a = (g : Gate) × (a ≡ gate_net g) × IsLeafOf w.shape k g

  abbrev pub TreeCard : ℕ → DominoCell → NamedDevice Net → Type 0
  TreeCard k cell x = (x.kind ≡ nch) × CellNet k (inner_count cell.tree) x.drain × CellNet k (inner_count cell.tree) x.source × LeafNet k x.gate

  pub tree_info : (k : ℕ) (cell : DominoCell) → IsCellAt w.shape k cell → AllByRecursion (TreeCard k cell) (tree_list k cell)
  tree_info k cell i =
      spell_info (CellNet k (inner_count cell.tree)) (LeafNet k) (λ j. At (Dynamic (left_side k)) (Inside 0 (1 + j))) (inner_count cell.tree) (λ j lt. inr (1 + j, omega (arith, lt), refl))
      (map_tree gate_net cell.tree) (each_leaf_map (IsLeafOf w.shape k) (LeafNet k) (λ g l. (g, refl, l)) cell.tree ((((w.deck).spelled).shape).leaves (left_side k) (left_stage cell) (left_is w.shape k cell i)))
      (At (Dynamic (left_side k)) Top) (At (Dynamic (left_side k)) (Inside 0 0)) 0 (inl refl) (inr (0, omega arith, refl)) (omega (arith, inner_count-map_tree gate_net cell.tree))

  pub cell_net_is : (k : ℕ) (cell : DominoCell) → IsCellAt w.shape k cell → (a : Net) → CellNet k (inner_count cell.tree) a → IsNet w.shape a
  cell_net_is k cell i a (inl z) = rw z (left_stage cell, left_is w.shape k cell i)
  cell_net_is k cell i a (inr z) = rw z.2 (left_stage cell, left_is w.shape k cell i, refl, z.1)

  abbrev pub IsLatchCard : NamedDevice Net → Type 0
  IsLatchCard x = (j : ℕ) × (b : Latch) × IsLatchAt w.shape j b × OfLatch j x.drain × ByGate j b x.gate x

  -- a card is a cell's, a latch's, or of the inverter of a complement, of an output or of a latch input
  pub data Class (x : NamedDevice Net) : Type 0 where
    of_cell : (k : ℕ) (cell : DominoCell) → IsCellAt w.shape k cell → OfCell k x.drain → Class x
    of_complement : (l : DeckSignal) → HasComplement w.shape l → IsInv (At (Complement l) Top) (own l) x → Class x
    of_latch : IsLatchCard x → Class x
    of_sink : (m : ℕ) (g : Gate) → IsOutputAt w.shape m g → IsInv (At (Sink m) Top) (gate_net g) x → Class x
    of_next : (j : ℕ) (b : Latch) → IsLatchAt w.shape j b → IsInv (At (Next j) Top) (gate_net b.next) x → Class x

  -- the source of a card is a supply, or of the cell or the latch that the drain is of
  abbrev pub Joined : NamedDevice Net → Type 0
  Joined x =
      ((x.source ≡ Vdd) ⊎ (x.source ≡ Vss))
      ⊎ (((k : ℕ) × OfCell k x.drain × OfCell k x.source) ⊎ ((j : ℕ) × OfLatch j x.drain × OfLatch j x.source))

  pub record Facts (x : NamedDevice Net) : Type 0 where
    pub drain_is : IsNet w.shape x.drain
    pub source_is : IsNet w.shape x.source
    pub joined : Joined x
    pub gate_is : IsNet w.shape x.gate
    pub gating : PlainGate x.gate ⊎ IsLatchCard x
    pub class : Class x

  -- what gates outside of latches
  pub own_is_net : (l : DeckSignal) → IsSignal w.shape l → IsNet w.shape (own l) × PlainGate (own l)
  own_is_net (FromPin p) i = (i, tt)
  own_is_net (FromLatch j) i = (i, tt)

  pub gate_ok : (g : Gate) → IsGate w.shape g → IsNet w.shape (gate_net g) × PlainGate (gate_net g)
  gate_ok (Plus l) i = own_is_net l i
  gate_ok (Minus l) i = (i, tt)
  gate_ok (FromOutput k) i = (i, tt)
  gate_ok (FromDynamic k) i = ((left_stage i.0, left_is w.shape k i.0 i.1), tt)
  gate_ok High i = (tt, tt)
  gate_ok Low i = (tt, tt)

  pub leaf_ok : (k : ℕ) (g : Gate) → IsLeafOf w.shape k g → IsNet w.shape (gate_net g) × PlainGate (gate_net g)
  leaf_ok k (Plus l) i = own_is_net l i
  leaf_ok k (Minus l) i = (i, tt)
  leaf_ok k (FromOutput j) i = (i.1, tt)
  leaf_ok k (FromDynamic j) i = absurd i
  leaf_ok k High i = absurd i
  leaf_ok k Low i = absurd i

  -- a card of a cell
  cell_card : (k : ℕ) (cell : DominoCell) → IsCellAt w.shape k cell → (x : NamedDevice Net) → OfCell k x.drain → IsNet w.shape x.drain → IsNet w.shape x.source
      → ((x.source ≡ Vdd) ⊎ (x.source ≡ Vss)) ⊎ OfCell k x.source → IsNet w.shape x.gate × PlainGate x.gate → Facts x
  cell_card k cell i x of d o j g = record {
    drain_is = d;
    source_is = o;
    joined = elim j [ inl z ↦ inl z | inr z ↦ inr (inl (k, of, z)) ];
    gate_is = g.0;
    gating = inl g.1;
    class = of_cell k cell i of;
  }

  cell_facts : (k : ℕ) (cell : DominoCell) → IsCellAt w.shape k cell → AllByRecursion Facts (cell_block k cell)
  cell_facts k cell i =
      let clock : IsNet w.shape (Clock cell.clock) × PlainGate (Clock cell.clock) = ((((w.deck).spelled).shape).clocks_are (left_side k) (left_stage cell) (left_is w.shape k cell i), tt) in
      let side : IsNet w.shape (At (Dynamic (left_side k)) Top) = (left_stage cell, left_is w.shape k cell i) in (
        cell_card k cell i _ refl side tt (inl (inl refl)) clock,
        (
          cell_card k cell i _ refl side tt (inl (inl refl)) ((cell, i), tt),
          AllByRecursion-append Facts (tree_list k cell ++ foot_card k cell ∷ []) (up_card k ∷ down_card k ∷ [])
              (AllByRecursion-append Facts (tree_list k cell) (foot_card k cell ∷ [])
              (AllByRecursion-weaker (TreeCard k cell) Facts
              (λ x h. cell_card k cell i x (cell_net_of k (inner_count cell.tree) x.drain h.1) (cell_net_is k cell i x.drain h.1) (cell_net_is k cell i x.source h.2) (inr (cell_net_of k (inner_count cell.tree) x.source h.2)) (leaf h.3.0 x.gate h.3.1 h.3.2))
              (tree_list k cell) (tree_info k cell i))
              (cell_card k cell i _ refl (left_stage cell, left_is w.shape k cell i, refl, omega arith) tt (inl (inr refl)) clock, tt))
              (cell_card k cell i _ refl (cell, i) tt (inl (inl refl)) (side, tt), (cell_card k cell i _ refl (cell, i) tt (inl (inr refl)) (side, tt), tt)),
        ),
      )
    where
      leaf : (g : Gate) (a : Net) → a ≡ gate_net g → IsLeafOf w.shape k g → IsNet w.shape a × PlainGate a
      leaf g a e l = subst (λ b. IsNet w.shape b × PlainGate b) (sym e) (leaf_ok k g l)

  -- the cards of an inverter that is no cell's
  inverter_facts : (out gate : Net) → IsNet w.shape out → IsNet w.shape gate × PlainGate gate → ((x : NamedDevice Net) → IsInv out gate x → Class x)
      → AllByRecursion Facts (inverter_cards Vdd Vss gate out)
  inverter_facts out gate o g c = (
    record { drain_is = o; source_is = tt; joined = inl (inl refl); gate_is = g.0; gating = inl g.1; class = c (inv_up out gate) (inl refl) },
    (record { drain_is = o; source_is = tt; joined = inl (inr refl); gate_is = g.0; gating = inl g.1; class = c (inv_down out gate) (inr refl) }, tt),
  )

  complements_facts : (ls : List DeckSignal) → AllByRecursion (HasComplement w.shape) ls → AllByRecursion Facts (complement_cards ls)
  complements_facts [] h = tt
  complements_facts (l ∷ ls) h =
      AllByRecursion-append Facts (complement_block l) (complement_cards ls)
      (inverter_facts (At (Complement l) Top) (own l) h.0 (own_is_net l ((((w.deck).spelled).shape).complements_are l h.0)) (λ x e. of_complement l h.0 e)) (complements_facts ls h.1)

  -- a card of a latch
  latch_card : (j : ℕ) (b : Latch) → IsLatchAt w.shape j b → (x : NamedDevice Net) → OfLatch j x.drain → IsNet w.shape x.drain → IsNet w.shape x.source
      → ((x.source ≡ Vdd) ⊎ (x.source ≡ Vss)) ⊎ OfLatch j x.source → IsNet w.shape x.gate → ByGate j b x.gate x → Facts x
  latch_card j b i x of d o k g y = record {
    drain_is = d;
    source_is = o;
    joined = elim k [ inl z ↦ inl z | inr z ↦ inr (inr (j, of, z)) ];
    gate_is = g;
    gating = inr (j, b, i, of, y);
    class = of_latch (j, b, i, of, y);
  }

  latch_facts : (j : ℕ) (b : Latch) → IsLatchAt w.shape j b → AllByRecursion Facts (latch_block j b)
  latch_facts j b i = (
    latch_card j b i _ refl (b, i) ((b, i), omega arith, refl) (inr refl) tt refl,
    (
      latch_card j b i _ refl ((b, i), omega arith, refl) tt (inl (inl refl)) (b, i) (refl, inl refl),
      (
        latch_card j b i _ refl (b, i) ((b, i), omega arith, refl) (inr refl) tt refl,
        (
          latch_card j b i _ refl ((b, i), omega arith, refl) tt (inl (inr refl)) (b, i) (refl, inr refl),
          (
            latch_card j b i _ refl (b, i) ((b, i), omega arith, refl) (inr refl) tt refl,
            (
              latch_card j b i _ refl ((b, i), omega arith, refl) tt (inl (inl refl)) (b, i) (refl, inl refl),
              (
                latch_card j b i _ refl (b, i) ((b, i), omega arith, refl) (inr refl) tt refl,
                (latch_card j b i _ refl ((b, i), omega arith, refl) tt (inl (inr refl)) (b, i) (refl, inr refl), (reset b.init refl, tt)),
              ),
            ),
          ),
        ),
      ),
    ),
  )
    where
      reset : (v : Bool) → b.init ≡ v → Facts (reset_card j v)
      reset false e = latch_card j b i _ refl (b, i) tt (inl (inr refl)) tt (e, refl)
      reset true e = latch_card j b i _ refl (b, i) tt (inl (inl refl)) tt (e, refl)

  all_facts : AllByRecursion Facts (keeper_cards w.shape)
  all_facts =
      AllByRecursion-append Facts (blocks cell_block 0 w.shape.cells) (complement_cards w.shape.complements ++ (blocks latch_block 0 w.shape.latches ++ (blocks sink_block 0 w.shape.outputs ++ blocks next_block 0 w.shape.latches)))
      (blocks_all cell_block Facts 0 w.shape.cells (λ m c e. cell_facts (0 + m) c (subst (λ k. IsCellAt w.shape k c) (plus m) e)))
      (AllByRecursion-append Facts (complement_cards w.shape.complements) (blocks latch_block 0 w.shape.latches ++ (blocks sink_block 0 w.shape.outputs ++ blocks next_block 0 w.shape.latches))
      (complements_facts w.shape.complements (recursion_from_All (HasComplement w.shape) w.shape.complements (All-contains_itself w.shape.complements)))
      (AllByRecursion-append Facts (blocks latch_block 0 w.shape.latches) (blocks sink_block 0 w.shape.outputs ++ blocks next_block 0 w.shape.latches)
      (blocks_all latch_block Facts 0 w.shape.latches (λ m b e. latch_facts (0 + m) b (subst (λ k. IsLatchAt w.shape k b) (plus m) e)))
      (AllByRecursion-append Facts (blocks sink_block 0 w.shape.outputs) (blocks next_block 0 w.shape.latches)
      (blocks_all sink_block Facts 0 w.shape.outputs (λ m g e. sink (0 + m) g (subst (λ k. IsOutputAt w.shape k g) (plus m) e)))
      (blocks_all next_block Facts 0 w.shape.latches (λ m b e. next (0 + m) b (subst (λ k. IsLatchAt w.shape k b) (plus m) e))))))
    where
      plus : (m : ℕ) → m ≡ 0 + m
      plus m = omega arith

      sink : (m : ℕ) (g : Gate) → IsOutputAt w.shape m g → AllByRecursion Facts (sink_block m g)
      sink m g i = inverter_facts (At (Sink m) Top) (gate_net g) (g, i) (gate_ok g ((((w.deck).spelled).shape).outputs_are m g i)) (λ x e. of_sink m g i e)

      next : (j : ℕ) (b : Latch) → IsLatchAt w.shape j b → AllByRecursion Facts (next_block j b)
      next j b i = inverter_facts (At (Next j) Top) (gate_net b.next) (b, i) (gate_ok b.next ((((w.deck).spelled).shape).nexts j b i)) (λ x e. of_next j b i e)

  pub facts : (i : ℕ) (x : NamedDevice Net) → slice_get (keeper_cards w.shape) i ≡ Some x → Facts x
  facts i x e = AllByRecursion-contains Facts (keeper_cards w.shape) x all_facts (Contains-slice_get (keeper_cards w.shape) i x e)

  -- a device that ends at a net of the deck has it as the drain or the source of its card
  pub ends_of_card : (p : ℕ) (d : Device) (h : Carded w p d) (a : Net) → IsNet w.shape a → EndsAt d (w.net a) → (h.card.drain ≡ a) ⊎ (h.card.source ≡ a)
  ends_of_card p d h a i t =
      let f = facts h.index h.card h.at in
      elim (end_of d (w.net h.card.drain) (w.net h.card.source) (w.net a) (twin_ends d (dev_of w.net h.card) h.twin) t) [
        | inl z ↦ inl (apart w h.card.drain a f.drain_is i (sym z))
        | inr z ↦ inr (apart w h.card.source a f.source_is i (sym z))
      ]

  -- an inner net of a part gates nothing
  no_inside : (part : Part) (i j : ℕ) → PlainGate (At part (Inside i j)) → ⊥
  no_inside (Dynamic k) i j p = p
  no_inside (Output k) i j p = p
  no_inside (Complement l) i j p = p
  no_inside (Master k) i j p = p
  no_inside (Slave k) i j p = p
  no_inside (Next k) i j p = p
  no_inside (Sink k) i j p = p

  no_inside_card : (part : Part) (i j m : ℕ) (b : Latch) (x : NamedDevice Net) → ByGate m b (At part (Inside i j)) x → ⊥
  no_inside_card (Dynamic k) i j m b x p = p
  no_inside_card (Output k) i j m b x p = p
  no_inside_card (Complement l) i j m b x p = p
  no_inside_card (Master k) i j m b x p = p
  no_inside_card (Slave k) i j m b x p = p
  no_inside_card (Next k) i j m b x p = p
  no_inside_card (Sink k) i j m b x p = p

  pub inside_gates_none : (x : NamedDevice Net) → Facts x → (part : Part) (i j : ℕ) → x.gate ≡ At part (Inside i j) → ⊥
  inside_gates_none x f part i j e = elim f.gating [
    | inl p ↦ no_inside part i j (subst PlainGate e p)
    | inr c ↦ no_inside_card part i j c.0 c.1 x (subst (λ a. ByGate c.0 c.1 a x) e c.4)
  ]

  -- no plain gate is a control
  pub plain_no_control : (a : Net) → IsNet w.shape a → PlainGate a → IsControl w.roles (w.net a) → ⊥
  plain_no_control (At part Top) h p z = omega (arith, part_free w part Top h, ((w.deck).ports).sources_are, z.1)
  plain_no_control (At part (Inside i j)) h p z = no_inside part i j p
  plain_no_control (Pin m) h p z = omega (arith, ((w.deck).ports).numbers (Pin m) h, z.1)
  plain_no_control (Clock m) h p z = omega (arith, ((w.deck).ports).numbers (Clock m) h, h, ((w.deck).ports).clocks_are, z.0)
  plain_no_control Vdd h p z = omega (arith, ((w.deck).ports).numbers Vdd tt, z.0)
  plain_no_control Vss h p z = low (((w.deck).ports).numbers Vss tt) z.0
    where
      low : w.net Vss ≡ 1 → w.roles.clocks + 2 ≤ w.net Vss → ⊥
      low e l = omega (arith, e, l)
  plain_no_control Lm h p z = absurd p
  plain_no_control Lmb h p z = absurd p
  plain_no_control Ls h p z = absurd p
  plain_no_control Lsb h p z = absurd p
  plain_no_control Rs h p z = absurd p
  plain_no_control Rsb h p z = absurd p
