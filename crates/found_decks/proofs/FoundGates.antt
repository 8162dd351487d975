-- The gates of what an audit finds: of each cell's tree, of each latch input and of each output.
use Rattle.std.specs.Prelude.{Some, slice_get, ◌⊎◌}
use Rattle.std.proofs.Common.{List, None, ap, arith, inl, inr, refl, subst, suc, sym, zero, ℕ, ◌+◌, ◌<◌, ◌∙◌, ◌≡◌, ◌≤◌}
use Rattle.std.proofs.lemmas.Option.{same_Some, slice_get_within}
use Rattle.dom_base.proofs.Decided.{lt_or_ge}
use Rattle.dom_base.proofs.Lists.{slice_get-there}
use Rattle.deck.specs.PortLayout.{first_output, source_count}
use Rattle.deck.specs.declared.device.Device.{Device}
use Rattle.sp_network.specs.Tree.{EachLeaf, Leaf, Parallel, Series, Tree}
use Rattle.switch_model.specs.Laws.{EndsAt}
use Rattle.domino_law.specs.Branches.{numbered}
use Rattle.domino_law.specs.Nets.{DeckSignal, FromDynamic, FromOutput, Gate, High, Low, Minus, Plus, gate_net}
use Rattle.domino_law.specs.Shape.{DominoCell, Latch}
use Rattle.sp_reduction.specs.Networks.{Has, Link}
use Rattle.deck_audit.specs.Numbered.{Spells}
use Rattle.deck_audit.specs.Rules.{IsSinkInput, IsSinkNet, IsTreeDevice, IsUsed}
use Rattle.deck_audit.specs.Words.{IsComplement, IsFree, IsInverterOutput, IsLatchOutput, IsOutputOf, IsPin, StandsAt}
use Rattle.deck_audit.proofs.CellTrees.{one_device}
use Rattle.deck_audit.proofs.RuleFacts.{one_input}
use Rattle.found_decks.specs.FoundDecks.{FoundLatch, numbers_from}
use Rattle.found_decks.proofs.Choices.{Chosen, choose}
use Rattle.found_decks.proofs.FoundNets.{Found, IsFoundSignal, cell_at, cell_is, complement_at, devices, net, own_is, signal_of, signals}

pub numbers_at : (a k i n : ℕ) → slice_get (numbers_from a k) i ≡ Some n → (i < k) × (n ≡ a + i)
numbers_at a zero i n e = absurd (cc)
numbers_at a (suc k) zero n e = let same : a ≡ n = same_Some _ _ e in (omega arith, omega (arith, same))
numbers_at a (suc k) (suc i) n e = let z = numbers_at (a + 1) k i n e in (omega (arith, z.0), omega (arith, z.1))

module _ (w : Found) where
  abbrev pub HasFoundComplement : DeckSignal → Type 0
  HasFoundComplement l = (k : ℕ) × (slice_get (signals w).list k ≡ Some l)

  abbrev pub HasTop : ℕ → Type 0
  HasTop k = (x : ℕ) × (slice_get (w.parts).tops k ≡ Some x)

  -- the gate is one of those found, and may stand at a leaf of cell k
  abbrev pub IsFoundGate : Gate → Type 0
  IsFoundGate (Plus l) = IsFoundSignal w.roles w.parts l
  IsFoundGate (Minus l) = HasFoundComplement l
  IsFoundGate (FromOutput k) = HasTop k
  IsFoundGate (FromDynamic k) = HasTop k
  IsFoundGate High = Unit {0}
  IsFoundGate Low = Unit {0}

  abbrev pub IsFoundLeaf : ℕ → Gate → Type 0
  IsFoundLeaf k (Plus l) = IsFoundSignal w.roles w.parts l
  IsFoundLeaf k (Minus l) = HasFoundComplement l
  IsFoundLeaf k (FromOutput j) = (j < k) × HasTop j
  IsFoundLeaf k (FromDynamic j) = ⊥
  IsFoundLeaf k High = ⊥
  IsFoundLeaf k Low = ⊥

  -- a gate with the property whose net is this one
  abbrev pub GateOf : (Gate → Type 0) → ℕ → Type 0
  GateOf P n = (g : Gate) × P g × (net w (gate_net g) ≡ n)

  signal_gate : (P : Gate → Type 0) → ((l : DeckSignal) → IsFoundSignal w.roles w.parts l → P (Plus l)) → (n : ℕ) → IsPin w.roles n ⊎ IsLatchOutput (devices w) w.roles n → GateOf P n
  signal_gate P h n z = let l = signal_of w n z in (Plus l.0, h l.0 l.1, own_is w l.0 ∙ l.2)

  complement_gate : (P : Gate → Type 0) → ((l : DeckSignal) → HasFoundComplement l → P (Minus l)) → (n j : ℕ) → IsComplement (devices w) w.roles n j → GateOf P n
  complement_gate P h n j c =
      let k = (w.found).complements_full n j c in
      let s = (signals w).at k.0 n k.1 in
      (Minus s.0, h s.0 (k.0, s.1), complement_at w k.0 n s.0 k.1 s.1)

  output_is : (k x n : ℕ) → slice_get (w.parts).tops k ≡ Some x → IsOutputOf (devices w) x n → (cell_at w k).output ≡ n
  output_is k x n e o =
      let c = (cell_is w k x e).0 in
      let f = (c.cell).front in
      let y = f.one_keeper o.0 o.1 o.2 (subst (λ m. EndsAt o.1 m) (sym c.top_is) o.4) o.3 in
      let same : o.1 ≡ f.keeper_device = one_device (devices w) o.0 o.1 f.keeper_device o.2 (subst (λ p. StandsAt (devices w) p f.keeper_device) (sym y) f.keeper_there) in
      sym f.keeper_is.1 ∙ ap (λ (d : Device). d.gate) (sym same) ∙ o.5

  -- the gate of a device of a tree
  leaf_gate : (k x : ℕ) → slice_get (w.parts).tops k ≡ Some x → (p : ℕ) (d : Device) → StandsAt (devices w) p d → IsTreeDevice (devices w) w.roles x d → GateOf (IsFoundLeaf k) d.gate
  leaf_gate k x e p d at t = elim ((w.rules).leaves x p d ((w.found).tops_sound k x e) at t) [
    | inl z ↦ signal_gate (IsFoundLeaf k) (λ l i. i) d.gate (inl z)
    | inr (inl z) ↦ signal_gate (IsFoundLeaf k) (λ l i. i) d.gate (inr z)
    | inr (inr (inl z)) ↦ complement_gate (IsFoundLeaf k) (λ l i. i) d.gate z.0 z.1
    | inr (inr (inr z)) ↦
        let j = (w.found).in_order k x z.0 e (p, d, at, t, z.1, z.2) in
        (FromOutput j.0, (j.1, (z.0, j.2)), output_is j.0 z.0 d.gate j.2 z.2)
  ]

  tree_gates : (k : ℕ) (t : Tree Link) → ((e : Link) → Has t e → (d : Device) × StandsAt (devices w) e.number d × GateOf (IsFoundLeaf k) d.gate)
      → (g : Tree Gate) × EachLeaf (IsFoundLeaf k) g × Spells (devices w) t (numbered (net w) g)
  tree_gates k (Leaf e) h = let z = h e refl in (Leaf z.2.0, z.2.1, (z.0, z.1, sym z.2.2))
  tree_gates k (Series l r) h =
      let a = tree_gates k l (λ e z. h e (inl z)) in
      let b = tree_gates k r (λ e z. h e (inr z)) in
      (Series a.0 b.0, (a.1, b.1), (a.2, b.2))
  tree_gates k (Parallel l r) h =
      let a = tree_gates k l (λ e z. h e (inl z)) in
      let b = tree_gates k r (λ e z. h e (inr z)) in
      (Parallel a.0 b.0, (a.1, b.1), (a.2, b.2))

  link_gate : (k x : ℕ) → slice_get (w.parts).tops k ≡ Some x → (e : Link) → Has (cell_at w k).tree e → (d : Device) × StandsAt (devices w) e.number d × GateOf (IsFoundLeaf k) d.gate
  link_gate k x at e m =
      let c = (cell_is w k x at).0 in
      let t = (c.cell).has_tree in
      let l = (t.links_are e).0 m in
      let free : (n : ℕ) → EndsAt l.1 n → IsFree w.roles n = λ n z. elim (lt_or_ge n (source_count w.roles)) [
        | inl low ↦ absurd (l.4 (t.one_foot l.0 l.1 n l.2 l.3 z (λ f. omega (arith, low, f))))
        | inr high ↦ high
      ] in
      let reached = subst (λ y. IsTreeDevice (devices w) w.roles y l.1) c.top_is (l.3, free (l.1).drain (inl refl), free (l.1).source (inr refl)) in
      (l.1, subst (λ p. StandsAt (devices w) p l.1) (sym (ap (λ (y : Link). y.number) l.5)) l.2, leaf_gate k x at l.0 l.1 l.2 reached)

  -- the cells
  abbrev pub IsDominoOf : ℕ → ℕ → DominoCell → Type 0
  IsDominoOf k x cell =
      (g : Tree Gate) × (cell ≡ record { clock = (cell_at w k).clock; tree = g; right = None })
      × EachLeaf (IsFoundLeaf k) g × Spells (devices w) (cell_at w k).tree (numbered (net w) g)

  pub dominoes : Chosen IsDominoOf (w.parts).tops
  dominoes = choose IsDominoOf (w.parts).tops (λ k x e.
      let z = tree_gates k (cell_at w k).tree (link_gate k x e) in
      (record { clock = (cell_at w k).clock; tree = z.0; right = None }, (z.0, refl, z.1, z.2)))

  -- what a sink inverts
  input_gate : (n : ℕ) → IsSinkInput (devices w) w.roles n → GateOf IsFoundGate n
  input_gate n z = elim z [
    | inl d ↦ let k = (w.found).tops_full n d in (FromDynamic k.0, (n, k.1), (cell_is w k.0 n k.1).0.top_is)
    | inr (inl o) ↦ let k = (w.found).tops_full o.0 o.1 in (FromOutput k.0, (o.0, k.1), output_is k.0 o.0 n k.1 o.2)
    | inr (inr (inl p)) ↦ signal_gate IsFoundGate (λ l i. i) n (inl p)
    | inr (inr (inr (inl p))) ↦ signal_gate IsFoundGate (λ l i. i) n (inr p)
    | inr (inr (inr (inr (inl c)))) ↦ complement_gate IsFoundGate (λ l i. i) n c.0 c.1
    | inr (inr (inr (inr (inr (inl e))))) ↦ (High, tt, sym e)
    | inr (inr (inr (inr (inr (inr e))))) ↦ (Low, tt, sym e)
  ]

  pub sink_gate : (n i : ℕ) → IsSinkNet (devices w) w.roles n → IsInverterOutput (devices w) n i → GateOf IsFoundGate i
  sink_gate n i s v = by ((w.rules).use_of n (inr s)).used
    where
      by : IsUsed (devices w) w.roles n → GateOf IsFoundGate i
      by (inl z) = absurd (z.1 s)
      by (inr (inl z)) =
          let same = one_input (devices w) w.roles _ w.rules n (z.1.0) i z.1.1 v in
          subst (GateOf IsFoundGate) same (input_gate z.1.0 z.1.2)
      by (inr (inr z)) = elim s [
        | inl d ↦ absurd ((z.1.0).no_data d)
        | inr o ↦ absurd ((z.1.0).no_out o)
      ]

  -- the latches, and the gates of outputs
  abbrev pub IsLatchOf : ℕ → FoundLatch → Latch → Type 0
  IsLatchOf j l b = (b.init ≡ (l.group).start) × IsFoundGate b.next × IsInverterOutput (devices w) (l.group).data_net (net w (gate_net b.next))

  pub latches : Chosen IsLatchOf (w.parts).latches
  latches = choose IsLatchOf (w.parts).latches the_latch
    where
      the_latch : (j : ℕ) (l : FoundLatch) → slice_get (w.parts).latches j ≡ Some l → (b : Latch) × IsLatchOf j l b
      the_latch j l e =
          let block = slice_get-there (w.places).nexts j (omega (arith, slice_get_within (w.parts).latches j l e, ((w.places).nexts_are).count)) in
          let z = ((w.places).nexts_are).each j l block.0 e block.1 in
          let g = sink_gate (l.group).data_net z.input (inl (l.group, l.places, (w.found).latches_sound j l e, refl)) z.inverter in
          (record { init = (l.group).start; next = g.0 }, (refl, g.1, subst (IsInverterOutput (devices w) (l.group).data_net) (sym g.2) z.inverter))

  abbrev pub IsOutputGate : ℕ → ℕ → Gate → Type 0
  IsOutputGate i n g = IsFoundGate g × IsInverterOutput (devices w) n (net w (gate_net g))

  abbrev pub out_ports : List ℕ
  out_ports = numbers_from (first_output w.roles) w.roles.outs

  pub outputs : Chosen IsOutputGate out_ports
  outputs = choose IsOutputGate out_ports the_output
    where
      the_output : (i n : ℕ) → slice_get out_ports i ≡ Some n → (g : Gate) × IsOutputGate i n g
      the_output i n e =
          let block = slice_get-there (w.places).outputs i (omega (arith, slice_get_within out_ports i n e, ((w.places).outputs_are).count)) in
          let z = ((w.places).outputs_are).each i n block.0 e block.1 in
          let m = numbers_at (first_output w.roles) w.roles.outs i n e in
          let g = sink_gate n z.input (inr (out_port n i (first_output w.roles) w.roles.outs m.0 m.1)) z.inverter in
          (g.0, (g.1, subst (IsInverterOutput (devices w) n) (sym g.2) z.inverter))
        where
          out_port : (n i a k : ℕ) → i < k → n ≡ a + i → (a ≤ n) × (n < a + k)
          out_port n i a k l e = (omega (arith, l, e), omega (arith, l, e))
