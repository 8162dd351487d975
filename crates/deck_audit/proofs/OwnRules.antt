-- The rules hold in a circuit with the cards of a deck with keepers, and the deck numbers what they find.
use Rattle.std.specs.Prelude.{Contains, ◌⊎◌}
use Rattle.std.proofs.Common.{List, ap, arith, inl, inr, length, refl, subst, sym, ℕ, ◌+◌, ◌<◌, ◌∙◌, ◌≡◌}
use Rattle.std.proofs.lemmas.Option.{slice_get_within}
use Rattle.dom_base.proofs.Decided.{dec_any, dec_nat, dec_or, lt_or_ge}
use Rattle.dom_base.proofs.Lists.{Contains-slice_get, slice_get-contained}
use Rattle.deck.specs.PortLayout.{first_output}
use Rattle.deck.specs.declared.device.Device.{Device}
use Rattle.sp_network.specs.Tree.{inner_count}
use Rattle.domino_cell.specs.Stage.{Inside, Top}
use Rattle.switch_model.specs.Laws.{EndsAt}
use Rattle.port_runs.specs.Periods.{vdd_port}
use Rattle.domino_law.proofs.SimpleCells.{simple_inner, simple_output_inner, simple_side}
use Rattle.domino_law.proofs.Statics.{left_is}
use Rattle.domino_law.specs.LooseDeck.{IsNet}
use Rattle.domino_law.specs.Nets.{At, Clock, Complement, Dynamic, FromDynamic, FromLatch, FromOutput, FromPin, Gate, High, Lm, Lmb, Low, Ls, Lsb, Master, Minus, Net, Next, Output, Pin, Plus, Rs, Rsb, Sink, Slave, Vdd, Vss, gate_net, own, left_side, CellSide}
use Rattle.domino_law.specs.Shape.{DominoCell, DynamicStage, IsCellAt, IsLatchAt, IsLeafOf, Latch, left_stage}
use Rattle.deck_audit.specs.Numbered.{IsNumbered, group_of}
use Rattle.deck_audit.specs.Rules.{DependsOn, HasFront, HasOutput, HasTree, IsLeafNet, IsLoose, IsSinkNet, IsTreeDevice, IsUsed, KeepsRules, KeepsUse, Reads, further, reads}
use Rattle.deck_audit.specs.Words.{Group, IsCellOutput, IsComplement, IsDynamic, IsFree, IsGroup, IsInverterOutput, IsLatchNet, IsOutPort, Reached, StandsAt, here, own_nets}
use Rattle.deck_audit.proofs.CellTrees.{one_device}
use Rattle.deck_audit.proofs.OwnBlocks.{OfLatch, foot_card}
use Rattle.deck_audit.proofs.OwnCards.{OwnDeck, apart, carded, dev_of, devices, low_source, out_net, simple}
use Rattle.deck_audit.proofs.OwnCells.{front, output, tree_kind}
use Rattle.deck_audit.proofs.OwnFacts.{ByGate, PlainGate, facts, leaf_ok}
use Rattle.deck_audit.proofs.OwnGroups.{group_is, latch_rule, one_group}
use Rattle.deck_audit.proofs.OwnInverters.{next_inverts, sink_inverts}
use Rattle.deck_audit.proofs.OwnLatches.{gated_own, nine, own_group, own_of}
use Rattle.deck_audit.proofs.OwnSignals.{cell_output, dynamic_is, is_complement, is_data, latch_data, may_be, no_two_sources, own_input, sink_input, top_dynamic}
use Rattle.deck_audit.proofs.OwnTrees.{cell_reached, inner_mids, links, nch_at, reach_set, spells_tree, tree}
use Rattle.deck_audit.proofs.RuleFacts.{end_of, twin_ends, twin_gate}
use Rattle.switch_model.proofs.Searches.{ends_at, other_at}

module _ (w : OwnDeck) where
  -- no latch is gated as an output is
  no_sink_gate : (m j : ℕ) (b : Latch) (a : Net) → (x : _) → ByGate j b a x → a ≡ At (Sink m) Top → ⊥
  no_sink_gate m j b a x h e = by (subst (λ a. ByGate j b a x) e h)
    where
      by : ByGate j b (At (Sink m) Top) x → ⊥
      by z = z

  use_with : (n : ℕ) → IsUsed (devices w) w.roles n → KeepsUse (devices w) w.roles n
  use_with n u = record {
    used = u;
    out_gates_none = λ z p d at e.
        let h = carded w p d at in
        let f = facts w h.index h.card h.at in
        let v = out_net w n z in
        let same = apart w (h.card).gate (At (Sink v.0) Top) f.gate_is (v.1, v.2) (sym (twin_gate d (dev_of w.net h.card) h.twin) ∙ e ∙ v.3) in
        elim f.gating [ inl y ↦ plain v.0 (subst PlainGate same y) | inr c ↦ no_sink_gate v.0 c.0 c.1 (h.card).gate h.card c.4 same ];
    data_gates_own = λ g places is same p d at e.
        let k = group_is w g places is in
        let out : Contains (own_nets g) (w.net (At (Slave k.0) Top)) = subst (λ g. Contains (own_nets g) (w.net (At (Slave k.0) Top))) (sym k.3) (own_of w k.0 k.1 k.2 (At (Slave k.0) Top) (k.1, k.2) refl) in
        let one = one_group w k.0 k.1 k.2 (At (Slave k.0) Top) (k.1, k.2) refl g places is out in
        subst (λ ps. Contains ps p) (sym one.1) (gated_own w k.0 k.1 k.2 (At (Next k.0) Top) (k.1, k.2) (λ z. z) (λ m c x h. h.0) p d at (e ∙ sym same ∙ ap (λ (g : Group). g.data_net) k.3));
  }
    where
      plain : (m : ℕ) → PlainGate (At (Sink m) Top) → ⊥
      plain m z = z

  use_out : (n : ℕ) → IsOutPort w.roles n → KeepsUse (devices w) w.roles n
  use_out n z =
      let v = out_net w n z in
      use_with n (inr (inl (inr z, (w.net (gate_net v.1), subst (λ m. IsInverterOutput (devices w) m (w.net (gate_net v.1))) (sym v.3) (sink_inverts w v.0 v.1 v.2), sink_input w v.1 ((((w.deck).spelled).shape).outputs_are v.0 v.1 v.2)))))

  data_used : (n : ℕ) (j : ℕ) (b : Latch) → IsLatchAt w.shape j b → n ≡ w.net (At (Next j) Top) → IsUsed (devices w) w.roles n
  data_used n j b i e =
      inr (inl (
        inl (subst (λ m. (g : Group) × (places : List ℕ) × IsGroup (devices w) w.roles g places × (g.data_net ≡ m)) (sym e) (is_data w j b i)),
        (w.net (gate_net b.next), subst (λ m. IsInverterOutput (devices w) m (w.net (gate_net b.next))) (sym e) (next_inverts w j b i), sink_input w b.next ((((w.deck).spelled).shape).nexts j b i)),
      ))

  latch_net : (j : ℕ) (b : Latch) (i : IsLatchAt w.shape j b) (a : Net) → IsNet w.shape a → OfLatch j a → IsLatchNet (devices w) w.roles (w.net a)
  latch_net j b i a n o = (group_of w.net j b, (nine w j b i).places, own_group w j b i, own_of w j b i a n o)

  -- a loose net that is one of the deck's is a complement, latch data, or an output port
  named_use : (n : ℕ) → IsLoose (devices w) w.roles (length (w.circuit).nets) n → (IsOutPort w.roles n → ⊥) → (a : Net) → IsNet w.shape a → n ≡ w.net a → IsUsed (devices w) w.roles n
  named_use n l away (At (Dynamic k) Top) i e =
      let x = simple_side w.shape (simple w) k i.0 i.1 in
      let e' : n ≡ w.net (At (Dynamic (left_side k.cell)) Top) = e ∙ ap (λ (q : CellSide). w.net (At (Dynamic q) Top)) x.2 in
      absurd (l.no_cell (w.net (At (Dynamic (left_side k.cell)) Top)) (top_dynamic w k.cell x.0 x.1) (subst (Reached (devices w) w.roles (w.net (At (Dynamic (left_side k.cell)) Top))) (sym e') here))
  named_use n l away (At (Dynamic k) (Inside a b)) i e =
      let x = simple_side w.shape (simple w) k i.0 i.1 in
      let e' : n ≡ w.net (At (Dynamic (left_side k.cell)) (Inside 0 b)) =
      e ∙ ap (λ (q : CellSide). w.net (At (Dynamic q) (Inside a b))) x.2 ∙ ap (λ a. w.net (At (Dynamic (left_side k.cell)) (Inside a b))) i.2 in
      let lt : b < 1 + inner_count (x.0).tree = subst (λ (y : DynamicStage). b < 1 + inner_count y.tree) (sym x.3) i.3 in
      absurd (l.no_cell (w.net (At (Dynamic (left_side k.cell)) Top)) (top_dynamic w k.cell x.0 x.1)
      (subst (Reached (devices w) w.roles (w.net (At (Dynamic (left_side k.cell)) Top))) (sym e') (cell_reached w k.cell x.0 x.1 (At (Dynamic (left_side k.cell)) (Inside 0 b)) (inr (b, lt, refl)))))
  named_use n l away (At (Output k) Top) i e = absurd (l.no_output (subst (IsCellOutput (devices w) w.roles) (sym e) (cell_output w k i.0 i.1)))
  named_use n l away (At (Output k) (Inside a b)) i e = absurd (simple_output_inner k i.0 b (simple w k i.0 i.1) i.3)
  named_use n l away (At (Complement m) Top) i e = inr (inr (w.net (own m), subst (λ x. IsComplement (devices w) w.roles x (w.net (own m))) (sym e) (is_complement w m i)))
  named_use n l away (At (Complement m) (Inside a b)) i e = absurd i
  named_use n l away (At (Sink m) Top) i e =
      absurd (away (subst (IsOutPort w.roles) (sym e) (omega (arith, (w.deck).outputs m i.0 i.1), omega (arith, (w.deck).outputs m i.0 i.1, slice_get_within w.shape.outputs m i.0 i.1, (w.deck).outs_are))))
  named_use n l away (At (Sink m) (Inside a b)) i e = absurd (simple_inner w.shape (simple w) i.0 b i.3)
  named_use n l away (At (Master j) Top) i e = absurd (l.no_latch (subst (IsLatchNet (devices w) w.roles) (sym e) (latch_net j i.0 i.1 (At (Master j) Top) i refl)))
  named_use n l away (At (Master j) (Inside a b)) i e = absurd (l.no_latch (subst (IsLatchNet (devices w) w.roles) (sym e) (latch_net j i.0.0 i.0.1 (At (Master j) (Inside a b)) i refl)))
  named_use n l away (At (Slave j) Top) i e = absurd (l.no_latch (subst (IsLatchNet (devices w) w.roles) (sym e) (latch_net j i.0 i.1 (At (Slave j) Top) i refl)))
  named_use n l away (At (Slave j) (Inside a b)) i e = absurd (l.no_latch (subst (IsLatchNet (devices w) w.roles) (sym e) (latch_net j i.0.0 i.0.1 (At (Slave j) (Inside a b)) i refl)))
  named_use n l away (At (Next j) Top) i e = data_used n j i.0 i.1 e
  named_use n l away (At (Next j) (Inside a b)) i e = absurd (simple_inner w.shape (simple w) (i.0).next b i.3)
  named_use n l away Vdd i e = absurd (low_source w Vdd i (subst (IsFree w.roles) e l.free))
  named_use n l away Vss i e = absurd (low_source w Vss i (subst (IsFree w.roles) e l.free))
  named_use n l away (Clock k) i e = absurd (low_source w (Clock k) i (subst (IsFree w.roles) e l.free))
  named_use n l away Lm i e = absurd (low_source w Lm i (subst (IsFree w.roles) e l.free))
  named_use n l away Lmb i e = absurd (low_source w Lmb i (subst (IsFree w.roles) e l.free))
  named_use n l away Ls i e = absurd (low_source w Ls i (subst (IsFree w.roles) e l.free))
  named_use n l away Lsb i e = absurd (low_source w Lsb i (subst (IsFree w.roles) e l.free))
  named_use n l away Rs i e = absurd (low_source w Rs i (subst (IsFree w.roles) e l.free))
  named_use n l away Rsb i e = absurd (low_source w Rsb i (subst (IsFree w.roles) e l.free))
  named_use n l away (Pin m) i e = absurd (low_source w (Pin m) i (subst (IsFree w.roles) e l.free))

  use_loose : (n : ℕ) → IsLoose (devices w) w.roles (length (w.circuit).nets) n → (IsOutPort w.roles n → ⊥) → IsUsed (devices w) w.roles n
  use_loose n l away =
      elim (dec_any (λ d. ((d.drain ≡ n) ⊎ (d.source ≡ n)) ⊎ (d.gate ≡ n)) (λ d. dec_or (dec_or (dec_nat d.drain n) (dec_nat d.source n)) (dec_nat d.gate n)) (devices w)) [
        | inl z ↦
            let q = slice_get-contained (devices w) z.0 z.1 in
            let h = carded w q.0 z.0 q.1 in
            let f = facts w h.index h.card h.at in
            elim z.2 [
              | inl t ↦ elim (end_of z.0 (w.net (h.card).drain) (w.net (h.card).source) n (twin_ends z.0 (dev_of w.net h.card) h.twin) t) [
                | inl y ↦ named_use n l away (h.card).drain f.drain_is y
                | inr y ↦ named_use n l away (h.card).source f.source_is y
              ]
              | inr e ↦ named_use n l away (h.card).gate f.gate_is (sym e ∙ twin_gate z.0 (dev_of w.net h.card) h.twin)
            ]
        | inr none ↦ inl ((λ p d at. ((λ t. none (d, Contains-slice_get (devices w) p d at, inl t)), (λ e. none (d, Contains-slice_get (devices w) p d at, inr e)))), (λ k. elim k [ inl z ↦ bare (latch_data w n z) (λ d p at t. none (d, Contains-slice_get (devices w) p d at, inl t)) | inr z ↦ away z ]))
      ]
    where
      bare : ((j : ℕ) × (b : Latch) × IsLatchAt w.shape j b × (n ≡ w.net (At (Next j) Top))) → ((d : Device) (p : ℕ) → StandsAt (devices w) p d → EndsAt d n → ⊥) → ⊥
      bare k none =
          let v = next_inverts w k.0 k.1 k.2 in
          none v.pull_up v.up v.up_there (rw k.3 (ends_at v.pull_up (w.net (At (Next k.0) Top)) vdd_port v.up_is.2))

  use_of : (n : ℕ) → IsLoose (devices w) w.roles (length (w.circuit).nets) n ⊎ IsSinkNet (devices w) w.roles n → KeepsUse (devices w) w.roles n
  use_of n (inr (inl z)) = let k = latch_data w n z in use_with n (data_used n k.0 k.1 k.2 k.3)
  use_of n (inr (inr z)) = use_out n z
  use_of n (inl l) = elim (lt_or_ge n (first_output w.roles + w.roles.outs)) [
    | inl lt ↦ use_out n (omega (arith, l.free, ((w.deck).ports).sources_are), lt)
    | inr ge ↦ use_with n (use_loose n l (λ z. omega (arith, ge, z.1)))
  ]

  -- the gates of a cell's tree
  tree_gate : (k : ℕ) (cell : DominoCell) (i : IsCellAt w.shape k cell) (p : ℕ) (d : Device) → StandsAt (devices w) p d → IsTreeDevice (devices w) w.roles (w.net (At (Dynamic (left_side k)) Top)) d → (g : Gate) × IsLeafOf w.shape k g × (d.gate ≡ w.net (gate_net g))
  tree_gate k cell i p d at t =
      let r = t.0 in
      let a = reach_set w k cell i r.1 r.2 in
      elim (nch_at w k cell i a.0 a.1 p d at r.0 (rw (← a.2) r.3)) [
        | inl z ↦ let g = tree_kind w k cell i z.0 z.1 z.2 in (g.3.0, g.3.2, twin_gate d (dev_of w.net z.1) z.4 ∙ ap w.net g.3.1)
        | inr z ↦ absurd (foot (other_at d (w.net (At (Dynamic (left_side k)) (Inside 0 0))) (w.net Vss) (twin_ends d (dev_of w.net (foot_card k cell)) z.1)))
      ]
    where
      foot : EndsAt d (w.net Vss) → ⊥
      foot (inl e) = low_source w Vss tt (rw (← e) t.1)
      foot (inr e) = low_source w Vss tt (rw (← e) t.2)

  leaf_net : (k : ℕ) (g : Gate) → IsLeafOf w.shape k g → IsLeafNet (devices w) w.roles (w.net (gate_net g))
  leaf_net k (Plus l) i = elim (own_input w l i) [ inl z ↦ inl z | inr z ↦ inr (inl z) ]
  leaf_net k (Minus l) i = inr (inr (inl (w.net (own l), is_complement w l i)))
  leaf_net k (FromOutput j) i = inr (inr (inr (cell_output w j i.1.0 i.1.1)))
  leaf_net k (FromDynamic j) i = absurd i
  leaf_net k High i = absurd i
  leaf_net k Low i = absurd i

  leaves_are : (x p : ℕ) (d : Device) → IsDynamic (devices w) w.roles x → StandsAt (devices w) p d → IsTreeDevice (devices w) w.roles x d → IsLeafNet (devices w) w.roles d.gate
  leaves_are x p d h at t =
      let k = dynamic_is w x h in
      let g = tree_gate k.0 k.1 k.2 p d at (rw k.3 at t) in
      subst (IsLeafNet (devices w) w.roles) (sym g.2) (leaf_net k.0 g.0 g.1)

  -- a cell reads earlier ones alone
  reads_lower : (k : ℕ) (cell : DominoCell) → IsCellAt w.shape k cell → (y : ℕ) → Reads (devices w) w.roles (w.net (At (Dynamic (left_side k)) Top)) y → (j : ℕ) × (j < k) × (cell' : DominoCell) × IsCellAt w.shape j cell' × (y ≡ w.net (At (Dynamic (left_side j)) Top))
  reads_lower k cell i y r =
      let g = tree_gate k cell i r.0 r.1 r.2 r.3 in
      let z = dynamic_is w y r.4 in
      let f = front w z.0 z.1 z.2 in
      let same = one_device (devices w) r.5.0 r.5.1 f.keeper_device r.5.2 (rw (f.one_keeper r.5.0 r.5.1 r.5.2 (rw z.3 at r.5.4) r.5.3) f.keeper_there) in
      let e : w.net (gate_net g.0) ≡ w.net (At (Output z.0) Top) = sym g.2 ∙ sym r.5.5 ∙ ap (λ (d : Device). d.gate) same ∙ f.keeper_is.1 in
      (z.0, lower g.0 g.1 z.0 (apart w (gate_net g.0) (At (Output z.0) Top) (leaf_ok w k g.0 g.1).0 (z.1, z.2) e), z.1, z.2, z.3)
    where
      lower : (g : Gate) → IsLeafOf w.shape k g → (j : ℕ) → gate_net g ≡ At (Output j) Top → j < k
      lower (Plus (FromPin m)) l j e = absurd (cc)
      lower (Plus (FromLatch m)) l j e = absurd (cc)
      lower (Minus m) l j e = absurd (cc)
      lower (FromOutput m) l j e = let same : m ≡ j = cc in omega (arith, same, l.0)
      lower (FromDynamic m) l j e = absurd l
      lower High l j e = absurd l
      lower Low l j e = absurd l

  depends_lower : (k : ℕ) (cell : DominoCell) → IsCellAt w.shape k cell → (y : ℕ) → DependsOn (devices w) w.roles (w.net (At (Dynamic (left_side k)) Top)) y → (j : ℕ) × (j < k) × (cell' : DominoCell) × IsCellAt w.shape j cell' × (y ≡ w.net (At (Dynamic (left_side j)) Top))
  depends_lower k cell i y (reads r) = reads_lower k cell i y r
  depends_lower k cell i y (further {y = m} d r) =
      let a = depends_lower k cell i m d in
      let b = reads_lower a.0 a.2 a.3 y (rw a.4 at r) in
      (b.0, omega (arith, a.1, b.1), b.2, b.3, b.4)

  no_loop : (x : ℕ) → IsDynamic (devices w) w.roles x → DependsOn (devices w) w.roles x x → ⊥
  no_loop x h d =
      let k = dynamic_is w x h in
      let a = depends_lower k.0 k.1 k.2 (w.net (At (Dynamic (left_side k.0)) Top)) (rw k.3 at d) in
      other k.0 a.0 a.1 (apart w (At (Dynamic (left_side k.0)) Top) (At (Dynamic (left_side a.0)) Top) (left_stage k.1, left_is w.shape k.0 k.1 k.2) (left_stage a.2, left_is w.shape a.0 a.2 a.3) a.4)
    where
      other : (k j : ℕ) → j < k → At (Dynamic (left_side k)) Top ≡ At (Dynamic (left_side j)) Top → ⊥
      other k j l e =
          let z : left_side k ≡ left_side j = cc in
          let same : k ≡ j = ap (λ (q : CellSide). q.cell) z in omega (arith, same, l)

  -- a cell has one clock and one output
  pub front_one : (k : ℕ) (cell : DominoCell) (i : IsCellAt w.shape k cell) (clock out : ℕ) → HasFront (devices w) w.roles (w.net (At (Dynamic (left_side k)) Top)) clock out → (clock ≡ w.net (Clock cell.clock)) × (out ≡ w.net (At (Output k) Top))
  front_one k cell i clock out f =
      let g = front w k cell i in
      let a = g.one_precharge f.precharge f.precharge_device f.precharge_there (ends_at f.precharge_device (w.net (At (Dynamic (left_side k)) Top)) vdd_port f.precharge_is.2) f.precharge_is.0 in
      let b = g.one_keeper f.keeper f.keeper_device f.keeper_there (ends_at f.keeper_device (w.net (At (Dynamic (left_side k)) Top)) vdd_port f.keeper_is.2) f.keeper_is.0 in (
        sym f.precharge_is.1 ∙ ap (λ (d : Device). d.gate) (one_device (devices w) g.precharge f.precharge_device g.precharge_device (rw (← a) f.precharge_there) g.precharge_there) ∙ g.precharge_is.1,
        sym f.keeper_is.1 ∙ ap (λ (d : Device). d.gate) (one_device (devices w) g.keeper f.keeper_device g.keeper_device (rw (← b) f.keeper_there) g.keeper_there) ∙ g.keeper_is.1,
      )

  pub keeps_rules : KeepsRules (devices w) w.roles (length (w.circuit).nets)
  keeps_rules = record {
    front = λ x h. let k = dynamic_is w x h in (w.net (Clock (k.1).clock), w.net (At (Output k.0) Top), subst (λ m. HasFront (devices w) w.roles m (w.net (Clock (k.1).clock)) (w.net (At (Output k.0) Top))) (sym k.3) (front w k.0 k.1 k.2));
    output = λ x clock out h f.
        let k = dynamic_is w x h in
        let e = front_one k.0 k.1 k.2 clock out (subst (λ m. HasFront (devices w) w.roles m clock out) k.3 f) in
        subst (λ m. HasOutput (devices w) w.roles m out) (sym k.3) (subst (λ m. HasOutput (devices w) w.roles (w.net (At (Dynamic (left_side k.0)) Top)) m) (sym e.1) (output w k.0 k.1 k.2));
    tree = λ x clock out h f.
        let k = dynamic_is w x h in
        let e = front_one k.0 k.1 k.2 clock out (subst (λ m. HasFront (devices w) w.roles m clock out) k.3 f) in (
          w.net (At (Dynamic (left_side k.0)) (Inside 0 0)),
          links w k.0 k.1 k.2,
          subst (λ m. HasTree (devices w) w.roles m clock (w.net (At (Dynamic (left_side k.0)) (Inside 0 0))) (links w k.0 k.1 k.2)) (sym k.3)
              (subst (λ m. HasTree (devices w) w.roles (w.net (At (Dynamic (left_side k.0)) Top)) m (w.net (At (Dynamic (left_side k.0)) (Inside 0 0))) (links w k.0 k.1 k.2)) (sym e.0) (tree w k.0 k.1 k.2)),
        );
    latch = latch_rule w;
    use_of = use_of;
    no_bridge = no_two_sources w;
    leaves = leaves_are;
    no_loop = no_loop;
  }

  pub numbered_deck : IsNumbered w.circuit w.roles w.net w.shape
  numbered_deck = record {
    keepers = w.keepers;
    shape = ((w.deck).spelled).shape;
    some_clock = ((w.deck).ports).some_clock;
    clocks_are = ((w.deck).ports).clocks_are;
    pins_are = ((w.deck).ports).pins_are;
    outs_are = (w.deck).outs_are;
    few = ((w.deck).ports).few;
    numbers = ((w.deck).ports).numbers;
    outputs = (w.deck).outputs;
    cells = λ k cell i. record { front = front w k cell i; tree = links w k cell i; has_tree = tree w k cell i; spells = spells_tree w k cell i; inner_are = inner_mids w k cell i };
    all_cells = dynamic_is w;
    cells_once = λ j k a b i i' e. same j k (apart w (At (Dynamic (left_side j)) Top) (At (Dynamic (left_side k)) Top) (left_stage a, left_is w.shape j a i) (left_stage b, left_is w.shape k b i') e);
    latches = λ j b i. ((nine w j b i).places, own_group w j b i);
    all_latches = group_is w;
    latches_once = λ i j b b' h h' e. same_latch i j (apart w (At (Master i) Top) (At (Master j) Top) (b, h) (b', h') e);
    complements = is_complement w;
    all_complements = λ n i h. let z = may_be w n i h.0 in (z.0, z.1, z.2);
    nexts = next_inverts w;
    sinks = sink_inverts w;
  }
    where
      same : (j k : ℕ) → At (Dynamic (left_side j)) Top ≡ At (Dynamic (left_side k)) Top → j ≡ k
      same j k e = let z : left_side j ≡ left_side k = cc in ap (λ (q : CellSide). q.cell) z

      same_latch : (j k : ℕ) → At (Master j) Top ≡ At (Master k) Top → j ≡ k
      same_latch j k e = cc
