-- A circuit of a deck's cards under names is a loose domino deck.
use Rattle.domino_cell.specs.StyledCells.{behind_precharge, pull_down_cards}
use Rattle.std.specs.List.{AllByRecursion}
use Rattle.std.specs.Prelude.{Some, slice_get, ◌≢◌}
use Rattle.std.proofs.Common.{List, [], ap, arith, inl, inr, length, length-append, map, refl, subst, suc, sym, zero, zero-add, ℕ, ◌++◌, ◌+◌, ◌<◌, ◌∙◌, ◌∷◌, ◌≡◌, ◌≤◌, take, ap₂}
use Rattle.std.proofs.lemmas.Option.{slice_get_within}
use Rattle.dom_base.specs.declared.kind.Kind.{Kind}
use Rattle.dom_base.specs.declared.kind.Kind.TheVariants.{N as nch, P as pch}
use Rattle.dom_base.proofs.Lists.{AllByRecursion-contains, AllByRecursion-left, AllByRecursion-right, AllByRecursion-weaker, slice_get-left}
use Rattle.deck.specs.CircuitData.{CircuitData}
use Rattle.deck.specs.Nets.{net_number}
use Rattle.deck.specs.declared.role.Roles.{Roles}
use Rattle.deck.specs.NamedDevices.{NamedDevice, map_device}
use Rattle.deck.specs.PortLayout.{source_count, first_output}
use Rattle.deck.specs.NumberedDevices.{HasNumber, IsNumberedDevice}
use Rattle.deck.proofs.NetNumbers.{HasNumber-append, HasNumber-from, net_number-append, same_number}
use Rattle.deck.proofs.CircuitGrowth.{with_devices-grew, with_devices-numbered}
use Rattle.sp_network.specs.Tree.{Leaf, Parallel, Series, Tree, dual, inner_count, map_tree}
use Rattle.sp_network.proofs.TreeImages.{inner_count-map_tree}
use Rattle.domino_cell.specs.Stage.{Inside, Spot, Top}
use Rattle.domino_cell.specs.Spelling.{spell}
use Rattle.switch_model.specs.LinksData.{links_of}
use Rattle.dom_base.proofs.Decided.{dec_nat, lt_or_ge}
use Rattle.domino_law.specs.LooseDeck.{IsNet, IsSourceNet, IsSpotOf}
use Rattle.domino_law.specs.NamedDeck.{HasDeckNames, NamedIsLoose}
use Rattle.domino_law.specs.Nets.{At, Clock, Complement, Dynamic, Gate, Lm, Lmb, Ls, Lsb, Master, Net, Next, Output, Part, Pin, Rs, Rsb, DeckSignal, Sink, Slave, Vdd, Vss, gate_net, CellSide, Left, Right, Side, left_side}
use Rattle.domino_law.specs.Settings.{HasPorts, port_number}
use Rattle.domino_law.specs.Shape.{DominoCell, DynamicStage, IsCellAt, IsSideAt, IsLatchAt, Latch, Shape, IsOutputAt, dynamic_nets, gate_tree, left_stage, side_of}
use Rattle.domino_law.specs.Spelled.{IsSpelledDeck, cell_cards, complement_cards, shape_cards, named_circuit, latch_cards, net_cell, next_cards, one_cell, one_latch, output_cards, right_cards, side_cards, static_cards}
use Rattle.domino_law.proofs.SpelledParts.{named_is_spelled}
use Rattle.domino_law.specs.DominoDeck.{IsLooseDominoDeck}
use Rattle.deck.specs.Roles.{AreRoles, ports_of}
use Rattle.std.proofs.Math.Seq.{take-append_seam}

-- what holds of the sources of the cards of a tree holds of its bottom and of its inner nets
spell_nets : (P : Net → Type 0) (kind : Kind) (inner : ℕ → Net) (t : Tree Net) (top bottom : Net) (k : ℕ) → AllByRecursion (λ c. P c.source) (spell kind inner t top bottom k)
    → P bottom × ((j : ℕ) → k ≤ j → j < k + inner_count t → P (inner j))
spell_nets P kind inner (Leaf gate) top bottom k h = (h.0, (λ j a b. absurd (none j a b)))
  where
    none : (j : ℕ) → k ≤ j → j < k + 0 → ⊥
    none j a b = omega arith
spell_nets P kind inner (Series l r) top bottom k h =
    let a = spell_nets P kind inner l top (inner k) (k + 1) (AllByRecursion-left (λ c. P c.source) (spell kind inner l top (inner k) (k + 1)) (spell kind inner r (inner k) bottom (k + 1 + inner_count l)) h) in
    let b = spell_nets P kind inner r (inner k) bottom (k + 1 + inner_count l) (AllByRecursion-right (λ c. P c.source) (spell kind inner l top (inner k) (k + 1)) (spell kind inner r (inner k) bottom (k + 1 + inner_count l)) h) in (
      b.0,
      (λ j low high. elim (dec_nat k j) [
        | inl e ↦ subst (λ m. P (inner m)) e a.0
        | inr ne ↦ elim (lt_or_ge j (k + 1 + inner_count l)) [
          | inl lt ↦ a.1 j (above j low ne) (omega arith)
          | inr ge ↦ b.1 j ge (omega arith)
        ]
      ]),
    )
  where
    above : (j : ℕ) → k ≤ j → k ≢ j → k + 1 ≤ j
    above j l ne = elim (lt_or_ge k j) [ inl lt ↦ omega arith | inr ge ↦ absurd (ne (omega arith)) ]
spell_nets P kind inner (Parallel l r) top bottom k h =
    let a = spell_nets P kind inner l top bottom k (AllByRecursion-left (λ c. P c.source) (spell kind inner l top bottom k) (spell kind inner r top bottom (k + inner_count l)) h) in
    let b = spell_nets P kind inner r top bottom (k + inner_count l) (AllByRecursion-right (λ c. P c.source) (spell kind inner l top bottom k) (spell kind inner r top bottom (k + inner_count l)) h) in (
      a.0,
      (λ j low high. elim (lt_or_ge j (k + inner_count l)) [
        | inl lt ↦ a.1 j low (omega arith)
        | inr ge ↦ b.1 j ge (omega arith)
      ]),
    )

-- and what holds of their drains holds of its top
spell_top : (P : Net → Type 0) (kind : Kind) (inner : ℕ → Net) (t : Tree Net) (top bottom : Net) (k : ℕ) → AllByRecursion (λ c. P c.drain) (spell kind inner t top bottom k) → P top
spell_top P kind inner (Leaf gate) top bottom k h = h.0
spell_top P kind inner (Series l r) top bottom k h =
    spell_top P kind inner l top (inner k) (k + 1) (AllByRecursion-left (λ c. P c.drain) (spell kind inner l top (inner k) (k + 1)) (spell kind inner r (inner k) bottom (k + 1 + inner_count l)) h)
spell_top P kind inner (Parallel l r) top bottom k h =
    spell_top P kind inner l top bottom k (AllByRecursion-left (λ c. P c.drain) (spell kind inner l top bottom k) (spell kind inner r top bottom (k + inner_count l)) h)

inner_count-gates : (t : Tree Gate) → inner_count (map_tree gate_net t) ≡ inner_count t
inner_count-gates t = inner_count-map_tree gate_net t

-- what holds of the ends of all cards holds of all nets of the parts
module _ (P : Net → Type 0) (s : Shape) where
  abbrev pub EndsHave : NamedDevice Net → Type 0
  EndsHave c = P c.drain × P c.source

  cell_nets_have : (k i : ℕ) (cs : List DominoCell) (c : DominoCell) → slice_get cs i ≡ Some c → AllByRecursion EndsHave (cell_cards s.style k cs) → AllByRecursion EndsHave (one_cell s.style (k + i) c)
  cell_nets_have k i [] c e h = absurd (cc)
  cell_nets_have k zero (d ∷ cs) c e h =
      let z : d ≡ c = cc in
      subst (λ x. AllByRecursion EndsHave (one_cell s.style (k + 0) x)) z
      (subst (λ m. AllByRecursion EndsHave (one_cell s.style m d)) (none_more k) (AllByRecursion-left EndsHave (one_cell s.style k d) (cell_cards s.style (k + 1) cs) h))
    where
      none_more : (k : ℕ) → k ≡ k + 0
      none_more k = omega arith
  cell_nets_have k (suc i) (d ∷ cs) c e h =
      subst (λ m. AllByRecursion EndsHave (one_cell s.style m c)) (sym (shift k i)) (cell_nets_have (k + 1) i cs c e (AllByRecursion-right EndsHave (one_cell s.style k d) (cell_cards s.style (k + 1) cs) h))
    where
      shift : (k i : ℕ) → k + suc i ≡ k + 1 + i
      shift k i = omega arith

  -- the nets of a static gate: its top, and the inner nets of its tree
  static_top : (part : Part) (t : Tree Net) → AllByRecursion EndsHave (static_cards part t) → P (At part Top)
  static_top part t h =
      spell_top P pch (λ j. At part (Inside 0 j)) (dual t) (At part Top) Vdd 0
      (AllByRecursion-weaker EndsHave (λ c. P c.drain) (λ c h. h.0) (spell pch (λ j. At part (Inside 0 j)) (dual t) (At part Top) Vdd 0)
      (AllByRecursion-left EndsHave (spell pch (λ j. At part (Inside 0 j)) (dual t) (At part Top) Vdd 0) (spell nch (λ j. At part (Inside 1 j)) t (At part Top) Vss 0) h))

  static_inner : (part : Part) (t : Tree Net) → AllByRecursion EndsHave (static_cards part t) → (i j : ℕ) → i ≡ 1 → j < inner_count t → P (At part (Inside i j))
  static_inner part t h i j z l =
      subst (λ i. P (At part (Inside i j))) (sym z)
      ((spell_nets P nch (λ j. At part (Inside 1 j)) t (At part Top) Vss 0
      (AllByRecursion-weaker EndsHave (λ c. P c.source) (λ c h. h.1) (spell nch (λ j. At part (Inside 1 j)) t (At part Top) Vss 0)
      (AllByRecursion-right EndsHave (spell pch (λ j. At part (Inside 0 j)) (dual t) (At part Top) Vdd 0) (spell nch (λ j. At part (Inside 1 j)) t (At part Top) Vss 0) h))).1 j (omega arith) (omega arith))

  latch_nets_have : (k i : ℕ) (bs : List Latch) (b : Latch) → slice_get bs i ≡ Some b → AllByRecursion EndsHave (latch_cards k bs) → AllByRecursion EndsHave (one_latch (k + i) b.init)
  latch_nets_have k i [] b e h = absurd (cc)
  latch_nets_have k zero (d ∷ bs) b e h = let z : d ≡ b = cc in
      subst (λ x. AllByRecursion EndsHave (one_latch (k + 0) x.init)) z
      (subst (λ m. AllByRecursion EndsHave (one_latch m d.init)) (none_more k) (AllByRecursion-left EndsHave (one_latch k d.init) (latch_cards (k + 1) bs) h))
    where
      none_more : (k : ℕ) → k ≡ k + 0
      none_more k = omega arith
  latch_nets_have k (suc i) (d ∷ bs) b e h = subst (λ m. AllByRecursion EndsHave (one_latch m b.init)) (sym (shift k i)) (latch_nets_have (k + 1) i bs b e (AllByRecursion-right EndsHave (one_latch k d.init) (latch_cards (k + 1) bs) h))
    where
      shift : (k i : ℕ) → k + suc i ≡ k + 1 + i
      shift k i = omega arith

  output_nets_have : (k i : ℕ) (gs : List Gate) (g : Gate) → slice_get gs i ≡ Some g → AllByRecursion EndsHave (output_cards s k gs) → AllByRecursion EndsHave (static_cards (Sink (k + i)) (gate_tree s g))
  output_nets_have k i [] g e h = absurd (cc)
  output_nets_have k zero (d ∷ gs) g e h =
      let z : d ≡ g = cc in
      subst (λ x. AllByRecursion EndsHave (static_cards (Sink (k + 0)) (gate_tree s x))) z
      (subst (λ m. AllByRecursion EndsHave (static_cards (Sink m) (gate_tree s d))) (none_more k) (AllByRecursion-left EndsHave (static_cards (Sink k) (gate_tree s d)) (output_cards s (k + 1) gs) h))
    where
      none_more : (k : ℕ) → k ≡ k + 0
      none_more k = omega arith
  output_nets_have k (suc i) (d ∷ gs) g e h =
      subst (λ m. AllByRecursion EndsHave (static_cards (Sink m) (gate_tree s g))) (sym (shift k i)) (output_nets_have (k + 1) i gs g e (AllByRecursion-right EndsHave (static_cards (Sink k) (gate_tree s d)) (output_cards s (k + 1) gs) h))
    where
      shift : (k i : ℕ) → k + suc i ≡ k + 1 + i
      shift k i = omega arith

  next_nets_have : (k i : ℕ) (bs : List Latch) (b : Latch) → slice_get bs i ≡ Some b → AllByRecursion EndsHave (next_cards s k bs) → AllByRecursion EndsHave (static_cards (Next (k + i)) (gate_tree s b.next))
  next_nets_have k i [] b e h = absurd (cc)
  next_nets_have k zero (d ∷ bs) b e h =
      let z : d ≡ b = cc in
      subst (λ x. AllByRecursion EndsHave (static_cards (Next (k + 0)) (gate_tree s x.next))) z
      (subst (λ m. AllByRecursion EndsHave (static_cards (Next m) (gate_tree s d.next))) (none_more k) (AllByRecursion-left EndsHave (static_cards (Next k) (gate_tree s d.next)) (next_cards s (k + 1) bs) h))
    where
      none_more : (k : ℕ) → k ≡ k + 0
      none_more k = omega arith
  next_nets_have k (suc i) (d ∷ bs) b e h =
      subst (λ m. AllByRecursion EndsHave (static_cards (Next m) (gate_tree s b.next))) (sym (shift k i)) (next_nets_have (k + 1) i bs b e (AllByRecursion-right EndsHave (static_cards (Next k) (gate_tree s d.next)) (next_cards s (k + 1) bs) h))
    where
      shift : (k i : ℕ) → k + suc i ≡ k + 1 + i
      shift k i = omega arith

  complement_nets_have : (ls : List DeckSignal) → AllByRecursion EndsHave (complement_cards ls) → AllByRecursion (λ l. P (At (Complement l) Top)) ls
  complement_nets_have [] h = tt
  complement_nets_have (l ∷ ls) h = (h.0.0, complement_nets_have ls h.1.1)

  pub part_nets_have : AllByRecursion EndsHave (shape_cards s) → (part : Part) (spot : Spot) → IsSpotOf s part spot → P (At part spot)
  part_nets_have h = by
    where
      after_cells : List (NamedDevice Net)
      after_cells = complement_cards s.complements ++ (latch_cards 0 s.latches ++ (output_cards s 0 s.outputs ++ next_cards s 0 s.latches))

      after_complements : List (NamedDevice Net)
      after_complements = latch_cards 0 s.latches ++ (output_cards s 0 s.outputs ++ next_cards s 0 s.latches)

      sinks : List (NamedDevice Net)
      sinks = output_cards s 0 s.outputs ++ next_cards s 0 s.latches

      cells : AllByRecursion EndsHave (cell_cards s.style 0 s.cells)
      cells = AllByRecursion-left EndsHave (cell_cards s.style 0 s.cells) after_cells h

      rest : AllByRecursion EndsHave after_cells
      rest = AllByRecursion-right EndsHave (cell_cards s.style 0 s.cells) after_cells h

      rest_2 : AllByRecursion EndsHave after_complements
      rest_2 = AllByRecursion-right EndsHave (complement_cards s.complements) after_complements rest

      rest_3 : AllByRecursion EndsHave sinks
      rest_3 = AllByRecursion-right EndsHave (latch_cards 0 s.latches) sinks rest_2

      from_zero : (k : ℕ) → 0 + k ≡ k
      from_zero k = omega arith

      cell_of : (k : ℕ) (c : DominoCell) → IsCellAt s k c → AllByRecursion EndsHave (one_cell s.style k c)
      cell_of k c e = subst (λ m. AllByRecursion EndsHave (one_cell s.style m c)) (from_zero k) (cell_nets_have 0 k s.cells c e cells)

      after_left : (k : ℕ) (c : DominoCell) → IsCellAt s k c → AllByRecursion EndsHave (right_cards s.style k (side_of c Right) ++ static_cards (Output k) (dynamic_nets k c.right))
      after_left k c e = AllByRecursion-right EndsHave (side_cards s.style (left_side k) (left_stage c)) _ (cell_of k c e)

      side_is : (k : ℕ) (cell : DominoCell) → IsCellAt s k cell → (side : Side) (c : DynamicStage) → side_of cell side ≡ Some c → AllByRecursion EndsHave (side_cards s.style (record { cell = k; side = side }) c)
      side_is k cell e Left c z =
          let y : left_stage cell ≡ c = cc in
          subst (λ x. AllByRecursion EndsHave (side_cards s.style (left_side k) x)) y
          (AllByRecursion-left EndsHave (side_cards s.style (left_side k) (left_stage cell)) (right_cards s.style k (side_of cell Right) ++ static_cards (Output k) (dynamic_nets k cell.right)) (cell_of k cell e))
      side_is k cell e Right c z =
          subst (λ o. AllByRecursion EndsHave (right_cards s.style k o)) z
          (AllByRecursion-left EndsHave (right_cards s.style k (side_of cell Right)) (static_cards (Output k) (dynamic_nets k cell.right)) (after_left k cell e))

      one_side : (k : CellSide) (c : DynamicStage) → IsSideAt s k c → AllByRecursion EndsHave (side_cards s.style k c)
      one_side k c e = side_is k.cell e.0 e.1 k.side c e.2

      output_of : (k : ℕ) (c : DominoCell) → IsCellAt s k c → AllByRecursion EndsHave (static_cards (Output k) (dynamic_nets k c.right))
      output_of k c e = AllByRecursion-right EndsHave (right_cards s.style k (side_of c Right)) (static_cards (Output k) (dynamic_nets k c.right)) (after_left k c e)

      next_of : (j : ℕ) (b : Latch) → IsLatchAt s j b → AllByRecursion EndsHave (static_cards (Next j) (gate_tree s b.next))
      next_of j b e = rw zero-add at (next_nets_have 0 j s.latches b e (AllByRecursion-right EndsHave (output_cards s 0 s.outputs) (next_cards s 0 s.latches) rest_3))

      sink_of : (i : ℕ) (g : Gate) → IsOutputAt s i g → AllByRecursion EndsHave (static_cards (Sink i) (gate_tree s g))
      sink_of i g e = rw zero-add at (output_nets_have 0 i s.outputs g e (AllByRecursion-left EndsHave (output_cards s 0 s.outputs) (next_cards s 0 s.latches) rest_3))

      latch_of : (j : ℕ) (b : Latch) → IsLatchAt s j b → AllByRecursion EndsHave (one_latch j b.init)
      latch_of j b e = subst (λ m. AllByRecursion EndsHave (one_latch m b.init)) (from_zero j) (latch_nets_have 0 j s.latches b e (AllByRecursion-left EndsHave (latch_cards 0 s.latches) sinks rest_2))

      half : (j i n : ℕ) (b : Latch) → IsLatchAt s j b → i < 2 → n ≡ 0 → P (At (Master j) (Inside i n)) × P (At (Slave j) (Inside i n))
      half j zero n b e l z = let h = latch_of j b e in rw z (h.0.1, h.1.1.1.1.0.1)
      half j (suc zero) n b e l z = let h = latch_of j b e in rw z (h.1.1.0.1, h.1.1.1.1.1.1.0.1)
      half j (suc (suc i)) n b e l z = absurd (beyond i l)
        where
          beyond : (i : ℕ) → suc (suc i) < 2 → ⊥
          beyond i l = omega arith

      by : (part : Part) (spot : Spot) → IsSpotOf s part spot → P (At part spot)
      by (Dynamic k) Top (c, e) = (one_side k c e).0.0
      by (Dynamic k) (Inside i j) (c, e, z, l) = rw z (inner j l)
        where
          tree_cards : List (NamedDevice Net)
          tree_cards = spell nch (net_cell k c).inner (map_tree gate_net c.tree) (At (Dynamic k) Top) (At (Dynamic k) (Inside 0 0)) 0

          nets : P (At (Dynamic k) (Inside 0 0)) × ((j : ℕ) → 0 ≤ j → j < 0 + inner_count (map_tree gate_net c.tree) → P (At (Dynamic k) (Inside 0 (1 + j))))
          nets = spell_nets P nch (net_cell k c).inner (map_tree gate_net c.tree) (At (Dynamic k) Top) (At (Dynamic k) (Inside 0 0)) 0
              (AllByRecursion-weaker EndsHave (λ c. P c.source) (λ c h. h.1) tree_cards (AllByRecursion-left EndsHave tree_cards _
              (AllByRecursion-right EndsHave (record { kind = pch; drain = At (Dynamic k) Top; gate = Clock c.clock; source = Vdd } ∷ behind_precharge s.style (net_cell k c) (inner_count (map_tree gate_net c.tree))) (pull_down_cards (net_cell k c) (map_tree gate_net c.tree)) (one_side k c e))))

          inner : (j : ℕ) → j < 1 + inner_count c.tree → P (At (Dynamic k) (Inside 0 j))
          inner zero l = nets.0
          inner (suc j) l = subst (λ m. P (At (Dynamic k) (Inside 0 m))) (next j) (nets.1 j (omega arith) (within j (inner_count (map_tree gate_net c.tree)) (inner_count-gates c.tree) l))
            where
              next : (j : ℕ) → 1 + j ≡ suc j
              next j = omega arith

              within : (j n : ℕ) → n ≡ inner_count c.tree → suc j < 1 + inner_count c.tree → j < 0 + n
              within j n e l = omega arith
      by (Output k) Top (c, e) = static_top (Output k) (dynamic_nets k c.right) (output_of k c e)
      by (Output k) (Inside i j) (c, e, z, l) = static_inner (Output k) (dynamic_nets k c.right) (output_of k c e) i j z l
      by (Complement l) Top e =
          AllByRecursion-contains (λ l. P (At (Complement l) Top)) s.complements l (complement_nets_have s.complements (AllByRecursion-left EndsHave (complement_cards s.complements) after_complements rest)) e
      by (Complement l) (Inside i j) h = absurd h
      by (Master j) Top (b, e) = (latch_of j b e).0.0
      by (Master j) (Inside i n) ((b, e), l, z) = (half j i n b e l z).0
      by (Slave j) Top (b, e) = (latch_of j b e).1.1.1.1.0.0
      by (Slave j) (Inside i n) ((b, e), l, z) = (half j i n b e l z).1
      by (Next j) Top (b, e) = static_top (Next j) (gate_tree s b.next) (next_of j b e)
      by (Next j) (Inside i n) (b, e, z, l) = static_inner (Next j) (gate_tree s b.next) (next_of j b e) i n z l
      by (Sink i) Top (g, e) = static_top (Sink i) (gate_tree s g) (sink_of i g e)
      by (Sink i) (Inside j n) (g, e, z, l) = static_inner (Sink i) (gate_tree s g) (sink_of i g e) j n z l

module _ (ports : CircuitData) (roles : Roles) (name : Net → List ℕ) (s : Shape) (h : HasDeckNames ports roles name s) where
  more : List (List ℕ)
  more = (with_devices-grew ports (map (map_device name) (shape_cards s))).more_nets

  nets_are : (named_circuit ports name s).nets ≡ ports.nets ++ more
  unfolding more
  nets_are = (with_devices-grew ports (map (map_device name) (shape_cards s))).nets

  below_sources : (a : Net) → IsSourceNet s a → port_number roles a < source_count roles
  below_sources Vdd i = omega arith
  below_sources Vss i = omega arith
  below_sources (Clock c) i = omega (arith, h.clocks_are)
  below_sources Lm i = omega arith
  below_sources Lmb i = omega arith
  below_sources Ls i = omega arith
  below_sources Lsb i = omega arith
  below_sources Rs i = omega arith
  below_sources Rsb i = omega arith
  below_sources (Pin p) i = omega (arith, h.pins_are)
  below_sources (At part spot) i = absurd i

  source_stands : (a : Net) → IsSourceNet s a → HasNumber ports.nets (name a)
  source_stands a i = HasNumber-from ports.nets (port_number roles a) (name a) (h.stands a i)

  part_stands : (part : Part) (spot : Spot) → IsSpotOf s part spot → HasNumber (named_circuit ports name s).nets (name (At part spot))
  part_stands =
      part_nets_have (λ a. HasNumber (named_circuit ports name s).nets (name a)) s
      (ends (shape_cards s) (with_devices-numbered ports (map (map_device name) (shape_cards s))))
    where
      ends : (cards : List (NamedDevice Net)) → AllByRecursion (IsNumberedDevice (named_circuit ports name s).nets) (map (map_device name) cards)
          → AllByRecursion (λ c. HasNumber (named_circuit ports name s).nets (name c.drain) × HasNumber (named_circuit ports name s).nets (name c.source)) cards
      ends [] k = tt
      ends (c ∷ cards) k = ((k.0.0, k.0.2), ends cards k.1)

  net_stands : (a : Net) → IsNet s a → HasNumber (named_circuit ports name s).nets (name a)
  net_stands (At part spot) i = part_stands part spot i
  net_stands Vdd i = rw nets_are (HasNumber-append ports.nets more (name Vdd) (source_stands Vdd i))
  net_stands Vss i = rw nets_are (HasNumber-append ports.nets more (name Vss) (source_stands Vss i))
  net_stands (Clock c) i = rw nets_are (HasNumber-append ports.nets more (name (Clock c)) (source_stands (Clock c) i))
  net_stands Lm i = rw nets_are (HasNumber-append ports.nets more (name Lm) (source_stands Lm i))
  net_stands Lmb i = rw nets_are (HasNumber-append ports.nets more (name Lmb) (source_stands Lmb i))
  net_stands Ls i = rw nets_are (HasNumber-append ports.nets more (name Ls) (source_stands Ls i))
  net_stands Lsb i = rw nets_are (HasNumber-append ports.nets more (name Lsb) (source_stands Lsb i))
  net_stands Rs i = rw nets_are (HasNumber-append ports.nets more (name Rs) (source_stands Rs i))
  net_stands Rsb i = rw nets_are (HasNumber-append ports.nets more (name Rsb) (source_stands Rsb i))
  net_stands (Pin p) i = rw nets_are (HasNumber-append ports.nets more (name (Pin p)) (source_stands (Pin p) i))

  source_number : (a : Net) → IsSourceNet s a → net_number (named_circuit ports name s).nets (name a) ≡ port_number roles a
  source_number a i = ap (λ l. net_number l (name a)) nets_are ∙ (net_number-append ports.nets more (name a) (source_stands a i) ∙ h.numbers a i)

  longer : length ports.nets ≤ length (named_circuit ports name s).nets
  longer = rw nets_are (simp length-append (omega arith))

  other_number : (part : Part) (spot : Spot) → IsSpotOf s part spot
      → (source_count roles ≤ net_number (named_circuit ports name s).nets (name (At part spot))) × (net_number (named_circuit ports name s).nets (name (At part spot)) < length (named_circuit ports name s).nets)
  other_number part spot i = (
    elim (lt_or_ge (net_number (named_circuit ports name s).nets (name (At part spot))) (source_count roles)) [
      | inr g ↦ g
      | inl l ↦ absurd (h.others part spot i _ l (sym (slice_get-left ports.nets more _ (before l h.few)) ∙ (ap (λ ns. slice_get ns (net_number (named_circuit ports name s).nets (name (At part spot)))) (sym nets_are) ∙ part_stands part spot i)))
    ],
    slice_get_within (named_circuit ports name s).nets _ (name (At part spot)) (part_stands part spot i),
  )
    where
      before : {a b c : ℕ} → a < b → b ≤ c → a < c
      before l m = omega arith

  pub named_spelled : IsSpelledDeck (links_of (named_circuit ports name s) roles) (λ a. net_number (named_circuit ports name s).nets (name a)) s
  named_spelled =
      record {
        shape = h.shape;
        apart = λ a b i j e. h.apart a b i j (same_number (named_circuit ports name s).nets (name a) (name b) (net_stands a i) (net_stands b j) e);
        sources = λ a i. rw (source_number a i) (below_sources a i);
        others = other_number;
        devices_are = named_is_spelled ports name s h.no_devices;
      }

  pub named_ports : HasPorts roles (links_of (named_circuit ports name s) roles) (λ a. net_number (named_circuit ports name s).nets (name a)) s
  named_ports =
      record {
        some_clock = h.some_clock;
        clocks_are = h.clocks_are;
        pins_are = h.pins_are;
        sources_are = refl;
        few = at_most h.few longer;
        numbers = source_number;
      }
    where
      at_most : {a b c : ℕ} → a ≤ b → b ≤ c → a ≤ c
      at_most l m = omega arith

  -- the outputs are the output ports, in order
  sink_number : (i : ℕ) (g : Gate) → IsOutputAt s i g → net_number (named_circuit ports name s).nets (name (At (Sink i) Top)) ≡ first_output roles + i
  sink_number i g e =
      ap (λ l. net_number l (name (At (Sink i) Top))) nets_are
      ∙ (net_number-append ports.nets more (name (At (Sink i) Top)) (HasNumber-from ports.nets (first_output roles + i) (name (At (Sink i) Top)) (h.sinks_stand i g e)) ∙ h.sink_numbers i g e)

  pub named_loose : IsLooseDominoDeck roles (links_of (named_circuit ports name s) roles) (λ a. net_number (named_circuit ports name s).nets (name a)) s
  named_loose = record { spelled = named_spelled; ports = named_ports; outs_are = h.outs_are; outputs = sink_number }

  -- the ports have their roles
  pub named_roles : AreRoles (ports_of (named_circuit ports name s)) roles
  named_roles = subst (λ l. AreRoles l roles) (sym same) h.roles_are
    where
      same : ports_of (named_circuit ports name s) ≡ ports.nets
      same = ap₂ (λ n l. take n l) ((with_devices-grew ports (map (map_device name) (shape_cards s))).ports ∙ h.all_ports) nets_are ∙ take-append_seam ports.nets more

pub named_is_loose : NamedIsLoose
named_is_loose ports roles name s h = (named_loose ports roles name s h, named_roles ports roles name s h)
