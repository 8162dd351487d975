-- Different nets of a numbering have different numbers.
use Rattle.domino_law.proofs.SimpleCells.{simple_inner, simple_output_inner}
use Rattle.std.specs.Prelude.{Contains, Some, slice_get, ◌≢◌}
use Rattle.std.proofs.Common.{List, ap, arith, inl, inr, length, refl, subst, suc, sym, zero, ℕ, ◌+◌, ◌<◌, ◌∙◌, ◌≡◌, ◌≤◌}
use Rattle.std.proofs.lemmas.Option.{same_Some, slice_get_within}
use Rattle.dom_base.proofs.Decided.{dec_nat}
use Rattle.dom_base.proofs.Lists.{AllByRecursion-contains, Contains-slice_get}
use Rattle.dom_base.specs.declared.kind.Kind.TheVariants.{Keep}
use Rattle.deck.specs.CircuitData.{CircuitData}
use Rattle.deck.specs.PortLayout.{first_output, first_pin, source_count}
use Rattle.deck.specs.declared.device.Device.{Device}
use Rattle.deck.specs.declared.role.Roles.{Roles}
use Rattle.sp_network.specs.Tree.{inner_count}
use Rattle.domino_cell.specs.Stage.{Inside, Spot, Top}
use Rattle.port_runs.specs.Periods.{vdd_port}
use Rattle.domino_law.specs.LooseDeck.{IsSpotOf}
use Rattle.domino_law.specs.Nets.{At, Complement, DeckSignal, Dynamic, FromLatch, FromPin, Gate, Master, Net, Next, Output, Part, Pin, Sink, Slave, own, left_side, CellSide}
use Rattle.domino_law.specs.Shape.{DominoCell, HasComplement, IsCellAt, IsLatchAt, IsOutputAt, IsSignal, Latch, Shape, DynamicStage}
use Rattle.sp_reduction.proofs.Mids.{mid_is, mids_differ}
use Rattle.deck_audit.specs.Numbered.{IsNumbered, group_of}
use Rattle.deck_audit.specs.Rules.{KeepsRules}
use Rattle.deck_audit.specs.Words.{Group, IsFree, IsInner, IsInverterOutput, IsLatchData, IsOutPort, Reached, group_cards, own_nets}
use Rattle.deck_audit.proofs.NumberedNets.{group_at, inside_is, inside_reached, output_inverts, top_dynamic, cells_simple, side_cell}
use Rattle.deck_audit.proofs.RuleFacts.{at_place, cards_at, end_of, own_drain, twin_ends, twin_gate, dynamic_no_inside, dynamic_no_latch, latch_of, no_keeper_card, one_group, one_input, reached_back, twin_kind}
use Rattle.deck_audit.proofs.Lists.{distinct_at}
use Rattle.switch_model.proofs.Searches.{ends_at}
use Rattle.deck_audit.proofs.NumberedSorts.{Differ, Fact, Inv, clash_at, fact_of, latch_part, master_at, position, slave_at, slave_part, sort_of}

module _ (c : CircuitData) (roles : Roles) (net : Net → ℕ) (s : Shape) (rules : KeepsRules c.devices roles (length c.nets)) (n : IsNumbered c roles net s) where
  abbrev ds : List Device
  ds = c.devices

  -- nets of two latches with one number are of one latch, at one position
  one_latch : (i j : ℕ) (b b' : Latch) → IsLatchAt s i b → IsLatchAt s j b' → (p q x : ℕ) → slice_get (own_nets (group_of net i b)) p ≡ Some x → slice_get (own_nets (group_of net j b')) q ≡ Some x → (i ≡ j) × (p ≡ q)
  one_latch i j b b' h h' p q x e f =
      let g = group_of net i b in
      let g' = group_of net j b' in
      let u = group_at c roles net s rules n i b h in
      let v = group_at c roles net s rules n j b' h' in
      let same = one_group ds roles (length c.nets) rules g g' u.0 v.0 u.1 v.1 x (Contains-slice_get (own_nets g) p x e) (Contains-slice_get (own_nets g') q x f) in (
        n.latches_once i j b b' h h' (ap (λ (k : Group). k.master) same.0),
        distinct_at (own_nets g) (u.1).differ.1 p q x e (subst (λ k. slice_get (own_nets k) q ≡ Some x) (sym same.0) f),
      )

  -- nets inside two cells with one number are of one cell, at one place
  inside_apart : (k k' : ℕ) (cell cell' : DominoCell) (i : IsCellAt s k cell) (i' : IsCellAt s k' cell') (b b' : ℕ) → b < 1 + inner_count cell.tree → b' < 1 + inner_count cell'.tree
      → net (At (Dynamic (left_side k)) (Inside 0 b)) ≡ net (At (Dynamic (left_side k')) (Inside 0 b')) → k ≡ k'
  inside_apart k k' cell cell' i i' b b' lt lt' e =
      let r = inside_reached c roles net s rules n k cell i b lt in
      let r' = inside_reached c roles net s rules n k' cell' i' b' lt' in
      let dyn = top_dynamic c roles net s rules n k' cell' i' in
      elim (dec_nat (net (At (Dynamic (left_side k')) Top)) (net (At (Dynamic (left_side k)) Top))) [
        | inl same ↦ n.cells_once k k' cell cell' i i' (sym same)
        | inr other ↦ absurd (dynamic_no_inside ds roles (length c.nets) rules (net (At (Dynamic (left_side k')) Top)) dyn
            (inside_is c roles net s rules n k cell i (net (At (Dynamic (left_side k')) Top))
            (reached_back ds roles (length c.nets) rules (net (At (Dynamic (left_side k)) Top)) (net (At (Dynamic (left_side k')) Top)) (net (At (Dynamic (left_side k)) (Inside 0 b))) dyn.0 r.0
            (subst (λ m. Reached ds roles (net (At (Dynamic (left_side k')) Top)) m) (sym e) r'.0)) other))
      ]

  one_inside : (k : ℕ) (cell : DominoCell) (i : IsCellAt s k cell) (b b' : ℕ) → b < 1 + inner_count cell.tree → b' < 1 + inner_count cell.tree
      → net (At (Dynamic (left_side k)) (Inside 0 b)) ≡ net (At (Dynamic (left_side k)) (Inside 0 b')) → b ≡ b'
  one_inside k cell i zero zero lt lt' e = refl
  one_inside k cell i zero (suc b) lt lt' e = absurd (mid k cell i b lt' (sym e))
    where
      mid : (k : ℕ) (cell : DominoCell) (i : IsCellAt s k cell) (j : ℕ) → suc j < 1 + inner_count cell.tree → net (At (Dynamic (left_side k)) (Inside 0 (suc j))) ≡ net (At (Dynamic (left_side k)) (Inside 0 0)) → ⊥
      mid k cell i j lt e =
          let x = n.cells k cell i in
          (mid_is x.tree (net (At (Dynamic (left_side k)) Top)) (net (At (Dynamic (left_side k)) (Inside 0 0))) (x.has_tree).between j (net (At (Dynamic (left_side k)) (Inside 0 (suc j)))) (x.inner_are j (omega (arith, lt)))).2 e
  one_inside k cell i (suc b) zero lt lt' e = absurd (mid k cell i b lt e)
    where
      mid : (k : ℕ) (cell : DominoCell) (i : IsCellAt s k cell) (j : ℕ) → suc j < 1 + inner_count cell.tree → net (At (Dynamic (left_side k)) (Inside 0 (suc j))) ≡ net (At (Dynamic (left_side k)) (Inside 0 0)) → ⊥
      mid k cell i j lt e =
          let x = n.cells k cell i in
          (mid_is x.tree (net (At (Dynamic (left_side k)) Top)) (net (At (Dynamic (left_side k)) (Inside 0 0))) (x.has_tree).between j (net (At (Dynamic (left_side k)) (Inside 0 (suc j)))) (x.inner_are j (omega (arith, lt)))).2 e
  one_inside k cell i (suc b) (suc b') lt lt' e =
      let x = n.cells k cell i in
      ap (λ m. suc m)
      (mids_differ x.tree (net (At (Dynamic (left_side k)) Top)) (net (At (Dynamic (left_side k)) (Inside 0 0))) (x.has_tree).between b b' (net (At (Dynamic (left_side k)) (Inside 0 (suc b))))
      (x.inner_are b (omega (arith, lt))) (rw e (x.inner_are b' (omega (arith, lt')))))

  -- a data net gates its latch alone, so it is no cell's output and no other latch's data
  pub data_of : (j : ℕ) (b : Latch) → IsLatchAt s j b → IsLatchData ds roles (net (At (Next j) Top))
  data_of j b i = let g = group_at c roles net s rules n j b i in (group_of net j b, g.0, g.1, refl)

  output_no_data : (k : ℕ) (cell : DominoCell) → IsCellAt s k cell → (j : ℕ) (b : Latch) → IsLatchAt s j b → net (At (Output k) Top) ≡ net (At (Next j) Top) → ⊥
  output_no_data k cell i j b h e =
      let f = (n.cells k cell i).front in
      let g = group_at c roles net s rules n j b h in
      let m = (rules.use_of (net (At (Next j) Top)) (inr (inl (data_of j b h)))).data_gates_own (group_of net j b) g.0 g.1 refl f.keeper f.keeper_device f.keeper_there (f.keeper_is.1 ∙ e) in
      let a = at_place ds g.0 (group_cards roles (group_of net j b)) (g.1).cards f.keeper m f.keeper_device f.keeper_there in
      AllByRecursion-contains (λ e. e.kind ≢ Keep) (group_cards roles (group_of net j b)) a.card (no_keeper_card roles (group_of net j b)) a.listed (sym (twin_kind f.keeper_device a.card a.twin) ∙ f.keeper_is.0)

  one_data : (i j : ℕ) (b b' : Latch) → IsLatchAt s i b → IsLatchAt s j b' → net (At (Next i) Top) ≡ net (At (Next j) Top) → i ≡ j
  one_data i j b b' h h' e =
      let g = group_of net i b in
      let g' = group_of net j b' in
      let u = group_at c roles net s rules n i b h in
      let v = group_at c roles net s rules n j b' h' in
      let d = (cards_at ds roles g u.0 u.1).1.0 in
      let m = (rules.use_of (net (At (Next j) Top)) (inr (inl (data_of j b' h')))).data_gates_own g' v.0 v.1 refl d.place d.device d.there (twin_gate d.device _ d.twin ∙ e) in
      let a = at_place ds v.0 (group_cards roles g') (v.1).cards d.place m d.device d.there in
      let own : Contains (own_nets g') (a.card).drain = AllByRecursion-contains (λ e. Contains (own_nets g') e.drain) (group_cards roles g') a.card (own_drain roles g') a.listed in
      let free : IsFree roles (a.card).drain = AllByRecursion-contains (IsFree roles) (own_nets g') (a.card).drain (v.1).free.1 own in
      let at_end = end_of d.device g.master_up vdd_port (a.card).drain (twin_ends d.device _ d.twin) (ends_at d.device (a.card).drain (a.card).source (twin_ends d.device a.card a.twin)) in
      elim at_end [
        | inl z ↦ n.latches_once i j b b' h h' (ap (λ (k : Group). k.master)
            (one_group ds roles (length c.nets) rules g g' u.0 v.0 u.1 v.1 g.master_up (Contains-slice_get (own_nets g) 2 g.master_up refl) (subst (Contains (own_nets g')) z own)).0)
        | inr z ↦ absurd (low z free)
      ]
    where
      low : {x : ℕ} → x ≡ vdd_port → source_count roles ≤ x → ⊥
      low z l = omega (arith, z, l)

  -- the nets of signals differ
  signals_apart : (l l' : DeckSignal) → IsSignal s l → IsSignal s l' → net (own l) ≡ net (own l') → l ≡ l'
  signals_apart (FromPin p) (FromPin q) i i' e = ap FromPin (same (n.numbers (Pin p) i) (n.numbers (Pin q) i') e)
    where
      same : net (Pin p) ≡ first_pin roles + p → net (Pin q) ≡ first_pin roles + q → net (Pin p) ≡ net (Pin q) → p ≡ q
      same a b e = omega arith
  signals_apart (FromPin p) (FromLatch j) i i' e = absurd (pin_low (n.numbers (Pin p) i) i (group_at c roles net s rules n j i'.0 i'.1).1.free.1.1.0 e)
    where
      pin_low : net (Pin p) ≡ first_pin roles + p → p < s.pins → source_count roles ≤ net (At (Slave j) Top) → net (Pin p) ≡ net (At (Slave j) Top) → ⊥
      pin_low a l f e = omega (arith, a, l, f, e, n.pins_are)
  signals_apart (FromLatch j) (FromPin p) i i' e = absurd (pin_low (n.numbers (Pin p) i') i' (group_at c roles net s rules n j i.0 i.1).1.free.1.1.0 e)
    where
      pin_low : net (Pin p) ≡ first_pin roles + p → p < s.pins → source_count roles ≤ net (At (Slave j) Top) → net (At (Slave j) Top) ≡ net (Pin p) → ⊥
      pin_low a l f e = omega (arith, a, l, f, e, n.pins_are)
  signals_apart (FromLatch i) (FromLatch j) h h' e =
      ap FromLatch (one_latch i j h.0 h'.0 h.1 h'.1 1 1 (net (At (Slave i) Top)) refl (rw e refl)).0

  output_no_complement : (k : ℕ) (cell : DominoCell) → IsCellAt s k cell → (l : DeckSignal) → HasComplement s l → net (At (Output k) Top) ≡ net (At (Complement l) Top) → ⊥
  output_no_complement k cell i l h e =
      let dyn = top_dynamic c roles net s rules n k cell i in
      let same : net (At (Dynamic (left_side k)) Top) ≡ net (own l) =
      one_input ds roles (length c.nets) rules (net (At (Complement l) Top)) (net (At (Dynamic (left_side k)) Top)) (net (own l))
      (subst (λ m. IsInverterOutput ds m (net (At (Dynamic (left_side k)) Top))) e (output_inverts c roles net s rules n k cell i).1) (n.complements l h).0.inverts in
      no_signal l ((n.shape).complements_are l h) same
    where
      no_signal : (l : DeckSignal) → IsSignal s l → net (At (Dynamic (left_side k)) Top) ≡ net (own l) → ⊥
      no_signal (FromPin p) h e = omega (arith, n.numbers (Pin p) h, h, e, n.pins_are, (top_dynamic c roles net s rules n k cell i).0)
      no_signal (FromLatch j) h e =
          let g = group_at c roles net s rules n j h.0 h.1 in
          dynamic_no_latch ds roles (length c.nets) rules (net (At (Dynamic (left_side k)) Top)) (top_dynamic c roles net s rules n k cell i) (group_of net j h.0) g.0 g.1
          (Contains-slice_get (own_nets (group_of net j h.0)) 1 (net (At (Dynamic (left_side k)) Top)) (ap (λ m. Some m) (sym e)))

  -- an output port is no other net with an inverter
  pub out_port : (k : ℕ) (g : Gate) → IsOutputAt s k g → IsOutPort roles (net (At (Sink k) Top))
  out_port k g i = by (n.outputs k g i) (slice_get_within s.outputs k g i) n.outs_are
    where
      by : {x l : ℕ} → x ≡ first_output roles + k → k < l → l ≡ roles.outs → IsOutPort roles x
      by e lt o = (omega (arith, e), omega (arith, e, lt, o))

  no_out_port : (x y : ℕ) → IsInner roles x → IsOutPort roles y → x ≡ y → ⊥
  no_out_port x y i o e = omega (arith, i, o.1, e)

  next_inner : (j : ℕ) (b : Latch) → IsLatchAt s j b → IsInner roles (net (At (Next j) Top))
  next_inner j b i =
      let g = group_at c roles net s rules n j b i in
      let h = latch_of ds roles (length c.nets) rules (group_of net j b) g.0 g.1 (net (At (Master j) Top)) (Contains-slice_get (own_nets (group_of net j b)) 0 (net (At (Master j) Top)) refl) in
      let same = (h.one_group (group_of net j b) g.0 g.1 (Contains-slice_get (own_nets (group_of net j b)) 0 (net (At (Master j) Top)) refl)).0 in
      subst (λ (k : Group). IsInner roles k.data_net) (sym same) h.no_ports.0

  abbrev pub SameNet : Part → Spot → Part → Spot → Type 0
  SameNet part spot part' spot' = At part spot ≡ At part' spot'

  inverters_apart : (part part' : Part) → IsSpotOf s part Top → IsSpotOf s part' Top → sort_of part Top ≡ Inv → sort_of part' Top ≡ Inv → net (At part Top) ≡ net (At part' Top) → SameNet part Top part' Top
  unfolding sort_of
  inverters_apart (Output k) (Output k') i i' x y e =
      let same = n.cells_once k k' i.0 i'.0 i.1 i'.1
      (one_input ds roles (length c.nets) rules (net (At (Output k') Top)) (net (At (Dynamic (left_side k)) Top)) (net (At (Dynamic (left_side k')) Top))
      (subst (λ m. IsInverterOutput ds m (net (At (Dynamic (left_side k)) Top))) e (output_inverts c roles net s rules n k i.0 i.1).1) (output_inverts c roles net s rules n k' i'.0 i'.1).1) in
      ap (λ k. At (Output k) Top) same
  inverters_apart (Output k) (Complement l) i i' x y e = absurd (output_no_complement k i.0 i.1 l i' e)
  inverters_apart (Output k) (Next j) i i' x y e = absurd (output_no_data k i.0 i.1 j i'.0 i'.1 e)
  inverters_apart (Output k) (Sink m) i i' x y e = absurd (no_out_port _ _ (output_inverts c roles net s rules n k i.0 i.1).0 (out_port m i'.0 i'.1) e)
  inverters_apart (Complement l) (Output k) i i' x y e = absurd (output_no_complement k i'.0 i'.1 l i (sym e))
  inverters_apart (Complement l) (Complement l') i i' x y e =
      let same = signals_apart l l' ((n.shape).complements_are l i) ((n.shape).complements_are l' i')
      (one_input ds roles (length c.nets) rules (net (At (Complement l') Top)) (net (own l)) (net (own l'))
      (subst (λ m. IsInverterOutput ds m (net (own l))) e (n.complements l i).0.inverts) (n.complements l' i').0.inverts) in
      ap (λ l. At (Complement l) Top) same
  inverters_apart (Complement l) (Next j) i i' x y e = absurd ((n.complements l i).0.no_data (subst (IsLatchData ds roles) (sym e) (data_of j i'.0 i'.1)))
  inverters_apart (Complement l) (Sink m) i i' x y e = absurd ((n.complements l i).0.no_out (subst (IsOutPort roles) (sym e) (out_port m i'.0 i'.1)))
  inverters_apart (Next j) (Output k) i i' x y e = absurd (output_no_data k i'.0 i'.1 j i.0 i.1 (sym e))
  inverters_apart (Next j) (Complement l) i i' x y e = absurd ((n.complements l i').0.no_data (subst (IsLatchData ds roles) e (data_of j i.0 i.1)))
  inverters_apart (Next j) (Next j') i i' x y e = ap (λ j. At (Next j) Top) (one_data j j' i.0 i'.0 i.1 i'.1 e)
  inverters_apart (Next j) (Sink m) i i' x y e = absurd (no_out_port _ _ (next_inner j i.0 i.1) (out_port m i'.0 i'.1) e)
  inverters_apart (Sink m) (Output k) i i' x y e = absurd (no_out_port _ _ (output_inverts c roles net s rules n k i'.0 i'.1).0 (out_port m i.0 i.1) (sym e))
  inverters_apart (Sink m) (Complement l) i i' x y e = absurd ((n.complements l i').0.no_out (subst (IsOutPort roles) e (out_port m i.0 i.1)))
  inverters_apart (Sink m) (Next j) i i' x y e = absurd (no_out_port _ _ (next_inner j i'.0 i'.1) (out_port m i.0 i.1) (sym e))
  inverters_apart (Sink m) (Sink m') i i' x y e = ap (λ m. At (Sink m) Top) (same (n.outputs m i.0 i.1) (n.outputs m' i'.0 i'.1) e)
    where
      same : net (At (Sink m) Top) ≡ first_output roles + m → net (At (Sink m') Top) ≡ first_output roles + m' → net (At (Sink m) Top) ≡ net (At (Sink m') Top) → m ≡ m'
      same a b e = omega arith
  inverters_apart part part' i i' x y e = absurd (no_inverter x y)
    where
      no_inverter : sort_of part Top ≡ Inv → sort_of part' Top ≡ Inv → ⊥
      no_inverter x y = cc

  inside_same : (k k' a a' b b' : ℕ) (cell cell' : DominoCell) → IsCellAt s k cell → IsCellAt s k' cell' → a ≡ 0 → a' ≡ 0 → b < 1 + inner_count cell.tree → b' < 1 + inner_count cell'.tree
      → net (At (Dynamic (left_side k)) (Inside a b)) ≡ net (At (Dynamic (left_side k')) (Inside a' b')) → SameNet (Dynamic (left_side k)) (Inside a b) (Dynamic (left_side k')) (Inside a' b')
  inside_same k k' a a' b b' cell cell' i i' z z' lt lt' e =
      let e' : net (At (Dynamic (left_side k)) (Inside 0 b)) ≡ net (At (Dynamic (left_side k')) (Inside 0 b')) = sym (ap (λ x. net (At (Dynamic (left_side k)) (Inside x b))) z) ∙ e ∙ ap (λ x. net (At (Dynamic (left_side k')) (Inside x b'))) z' in
      let same : k ≡ k' = inside_apart k k' cell cell' i i' b b' lt lt' e' in
      let cells : cell' ≡ cell = same_Some _ _ (sym i' ∙ rw (← same) i) in
      let place : b ≡ b' = one_inside k cell i b b' lt (subst (λ (x : DominoCell). b' < 1 + inner_count x.tree) cells lt') (e' ∙ ap (λ k. net (At (Dynamic (left_side k)) (Inside 0 b'))) (sym same)) in
      (λ d. At (Dynamic (left_side (same d))) (Inside ((z ∙ sym z') d) (place d)))

  -- nets of masters and slaves with one number are of one latch, at one position
  masters_one : (j j' : ℕ) (spot spot' : Spot) → IsSpotOf s (Master j) spot → IsSpotOf s (Master j') spot' → net (At (Master j) spot) ≡ net (At (Master j') spot')
      → (j ≡ j') × (position (Master j) spot ≡ position (Master j') spot')
  masters_one j j' spot spot' i i' e =
      let b = latch_part c roles net s rules n j spot i in
      let b' = latch_part c roles net s rules n j' spot' i' in
      one_latch j j' b.0 b'.0 b.1 b'.1 (position (Master j) spot) (position (Master j') spot') (net (At (Master j) spot)) (master_at c roles net s rules n j b.0 spot i) (master_at c roles net s rules n j' b'.0 spot' i' ∙ ap (λ m. Some m) (sym e))

  slaves_one : (j j' : ℕ) (spot spot' : Spot) → IsSpotOf s (Slave j) spot → IsSpotOf s (Slave j') spot' → net (At (Slave j) spot) ≡ net (At (Slave j') spot')
      → (j ≡ j') × (position (Slave j) spot ≡ position (Slave j') spot')
  slaves_one j j' spot spot' i i' e =
      let b = slave_part c roles net s rules n j spot i in
      let b' = slave_part c roles net s rules n j' spot' i' in
      one_latch j j' b.0 b'.0 b.1 b'.1 (position (Slave j) spot) (position (Slave j') spot') (net (At (Slave j) spot)) (slave_at c roles net s rules n j b.0 spot i) (slave_at c roles net s rules n j' b'.0 spot' i' ∙ ap (λ m. Some m) (sym e))

  master_slave : (j j' : ℕ) (spot spot' : Spot) → IsSpotOf s (Master j) spot → IsSpotOf s (Slave j') spot' → net (At (Master j) spot) ≡ net (At (Slave j') spot') → ⊥
  unfolding position
  master_slave j j' spot spot' i i' e =
      let b = latch_part c roles net s rules n j spot i in
      let b' = slave_part c roles net s rules n j' spot' i' in
      apart spot spot' i i' (one_latch j j' b.0 b'.0 b.1 b'.1 (position (Master j) spot) (position (Slave j') spot') (net (At (Master j) spot)) (master_at c roles net s rules n j b.0 spot i) (slave_at c roles net s rules n j' b'.0 spot' i' ∙ ap (λ m. Some m) (sym e))).1
    where
      apart : (spot spot' : Spot) → IsSpotOf s (Master j) spot → IsSpotOf s (Slave j') spot' → position (Master j) spot ≡ position (Slave j') spot' → ⊥
      apart Top Top i i' e = omega (arith, e)
      apart Top (Inside a b) i i' e = omega (arith, e)
      apart (Inside a b) Top i i' e = omega (arith, e)
      apart (Inside a b) (Inside a' b') i i' e = omega (arith, e, i.1)

  one_master_spot : (j j' : ℕ) (spot spot' : Spot) → IsSpotOf s (Master j) spot → IsSpotOf s (Master j') spot' → position (Master j) spot ≡ position (Master j') spot' → spot ≡ spot'
  unfolding position
  one_master_spot j j' Top Top i i' e = refl
  one_master_spot j j' Top (Inside a b) i i' e = absurd (omega (arith, e))
  one_master_spot j j' (Inside a b) Top i i' e = absurd (omega (arith, e))
  one_master_spot j j' (Inside a b) (Inside a' b') i i' e = let z : a ≡ a' = omega (arith, e) in (λ d. Inside (z d) ((i.2 ∙ sym i'.2) d))

  one_slave_spot : (j j' : ℕ) (spot spot' : Spot) → IsSpotOf s (Slave j) spot → IsSpotOf s (Slave j') spot' → position (Slave j) spot ≡ position (Slave j') spot' → spot ≡ spot'
  unfolding position
  one_slave_spot j j' Top Top i i' e = refl
  one_slave_spot j j' Top (Inside a b) i i' e = absurd (omega (arith, e))
  one_slave_spot j j' (Inside a b) Top i i' e = absurd (omega (arith, e))
  one_slave_spot j j' (Inside a b) (Inside a' b') i i' e = let z : a ≡ a' = omega (arith, e) in (λ d. Inside (z d) ((i.2 ∙ sym i'.2) d))

  by_sort : {X : Type 0} (part : Part) (spot : Spot) (part' : Part) (spot' : Spot) → Differ (sort_of part spot) (sort_of part' spot') → IsSpotOf s part spot → IsSpotOf s part' spot' → net (At part spot) ≡ net (At part' spot') → X
  by_sort part spot part' spot' d i i' e =
      absurd (clash_at c roles net s rules n (sort_of part spot) (sort_of part' spot') d (net (At part spot)) (fact_of c roles net s rules n part spot i) (subst (Fact c roles net s rules n (sort_of part' spot')) (sym e) (fact_of c roles net s rules n part' spot' i')))

  -- nets of parts with one number are one
  pub parts_apart : (part : Part) (spot : Spot) (part' : Part) (spot' : Spot) → IsSpotOf s part spot → IsSpotOf s part' spot' → net (At part spot) ≡ net (At part' spot') → SameNet part spot part' spot'
  unfolding sort_of Differ position
  parts_apart (Dynamic k) Top (Dynamic k') Top i i' e =
      let x = side_cell c roles net s rules n k i.0 i.1 in
      let y = side_cell c roles net s rules n k' i'.0 i'.1 in
      let same : k.cell ≡ k'.cell = n.cells_once k.cell k'.cell x.0 y.0 x.1 y.1 (sym (ap (λ (q : CellSide). net (At (Dynamic q) Top)) x.2) ∙ e ∙ ap (λ (q : CellSide). net (At (Dynamic q) Top)) y.2) in
      ap (λ (q : CellSide). At (Dynamic q) Top) (x.2 ∙ ap left_side same ∙ sym y.2)
  parts_apart (Dynamic k) (Inside a b) (Dynamic k') (Inside a' b') i i' e =
      let x = side_cell c roles net s rules n k i.0 i.1 in
      let y = side_cell c roles net s rules n k' i'.0 i'.1 in
      ap (λ (q : CellSide). At (Dynamic q) (Inside a b)) x.2
      ∙ inside_same k.cell k'.cell a a' b b' x.0 y.0 x.1 y.1 i.2 i'.2 (subst (λ (z : DynamicStage). b < 1 + inner_count z.tree) (sym x.3) i.3) (subst (λ (z : DynamicStage). b' < 1 + inner_count z.tree) (sym y.3) i'.3)
      (sym (ap (λ (q : CellSide). net (At (Dynamic q) (Inside a b))) x.2) ∙ e ∙ ap (λ (q : CellSide). net (At (Dynamic q) (Inside a' b'))) y.2)
      ∙ sym (ap (λ (q : CellSide). At (Dynamic q) (Inside a' b')) y.2)
  parts_apart (Output k) (Inside a b) part' spot' i i' e = absurd (simple_output_inner k i.0 b (cells_simple c roles net s rules n k i.0 i.1) i.3)
  parts_apart (Complement l) (Inside a b) part' spot' i i' e = absurd i
  parts_apart (Next j) (Inside a b) part' spot' i i' e = absurd (simple_inner s (cells_simple c roles net s rules n) (i.0).next b i.3)
  parts_apart (Sink m) (Inside a b) part' spot' i i' e = absurd (simple_inner s (cells_simple c roles net s rules n) i.0 b i.3)
  parts_apart part spot (Output k) (Inside a b) i i' e = absurd (simple_output_inner k i'.0 b (cells_simple c roles net s rules n k i'.0 i'.1) i'.3)
  parts_apart part spot (Complement l) (Inside a b) i i' e = absurd i'
  parts_apart part spot (Next j) (Inside a b) i i' e = absurd (simple_inner s (cells_simple c roles net s rules n) (i'.0).next b i'.3)
  parts_apart part spot (Sink m) (Inside a b) i i' e = absurd (simple_inner s (cells_simple c roles net s rules n) i'.0 b i'.3)
  parts_apart (Master j) spot (Master j') spot' i i' e = let o = masters_one j j' spot spot' i i' e in (λ d. At (Master (o.0 d)) (one_master_spot j j' spot spot' i i' o.1 d))
  parts_apart (Master j) spot (Slave j') spot' i i' e = absurd (master_slave j j' spot spot' i i' e)
  parts_apart (Slave j) spot (Master j') spot' i i' e = absurd (master_slave j' j spot' spot i' i (sym e))
  parts_apart (Slave j) spot (Slave j') spot' i i' e = let o = slaves_one j j' spot spot' i i' e in (λ d. At (Slave (o.0 d)) (one_slave_spot j j' spot spot' i i' o.1 d))
  parts_apart (Output k) Top (Output k') Top i i' e = inverters_apart (Output k) (Output k') i i' refl refl e
  parts_apart (Output k) Top (Complement l) Top i i' e = inverters_apart (Output k) (Complement l) i i' refl refl e
  parts_apart (Output k) Top (Next j) Top i i' e = inverters_apart (Output k) (Next j) i i' refl refl e
  parts_apart (Output k) Top (Sink m) Top i i' e = inverters_apart (Output k) (Sink m) i i' refl refl e
  parts_apart (Complement l) Top (Output k') Top i i' e = inverters_apart (Complement l) (Output k') i i' refl refl e
  parts_apart (Complement l) Top (Complement l') Top i i' e = inverters_apart (Complement l) (Complement l') i i' refl refl e
  parts_apart (Complement l) Top (Next j) Top i i' e = inverters_apart (Complement l) (Next j) i i' refl refl e
  parts_apart (Complement l) Top (Sink m) Top i i' e = inverters_apart (Complement l) (Sink m) i i' refl refl e
  parts_apart (Next j) Top (Output k') Top i i' e = inverters_apart (Next j) (Output k') i i' refl refl e
  parts_apart (Next j) Top (Complement l') Top i i' e = inverters_apart (Next j) (Complement l') i i' refl refl e
  parts_apart (Next j) Top (Next j') Top i i' e = inverters_apart (Next j) (Next j') i i' refl refl e
  parts_apart (Next j) Top (Sink m) Top i i' e = inverters_apart (Next j) (Sink m) i i' refl refl e
  parts_apart (Sink m) Top (Output k') Top i i' e = inverters_apart (Sink m) (Output k') i i' refl refl e
  parts_apart (Sink m) Top (Complement l') Top i i' e = inverters_apart (Sink m) (Complement l') i i' refl refl e
  parts_apart (Sink m) Top (Next j') Top i i' e = inverters_apart (Sink m) (Next j') i i' refl refl e
  parts_apart (Sink m) Top (Sink m') Top i i' e = inverters_apart (Sink m) (Sink m') i i' refl refl e
  parts_apart part spot (Dynamic k') Top i i' e = by_sort part spot (Dynamic k') Top tt i i' e
  parts_apart part spot (Dynamic k') (Inside a' b') i i' e = by_sort part spot (Dynamic k') (Inside a' b') tt i i' e
  parts_apart part spot part' spot' i i' e = by_sort part spot part' spot' tt i i' e
