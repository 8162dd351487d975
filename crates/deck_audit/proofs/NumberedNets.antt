-- The nets that a numbering names: of what sort each is, and that none is a source.
use Rattle.domino_law.proofs.SimpleCells.{AreSimple, simple_side}
use Rattle.std.specs.Prelude.{◌≢◌, ◌⊎◌}
use Rattle.std.proofs.Common.{List, ap, arith, inl, inr, length, refl, suc, sym, zero, ℕ, ◌+◌, ◌<◌, ◌∙◌, ◌≡◌, ◌≤◌}
use Rattle.dom_base.proofs.Decided.{lt_or_ge}
use Rattle.dom_base.specs.declared.kind.Kind.TheVariants.{N as nch}
use Rattle.deck.specs.CircuitData.{CircuitData}
use Rattle.deck.specs.PortLayout.{first_pin, source_count}
use Rattle.deck.specs.declared.device.Device.{Device}
use Rattle.deck.specs.declared.role.Roles.{Roles}
use Rattle.sp_network.specs.Tree.{Tree, inner_count}
use Rattle.domino_cell.specs.Stage.{Inside, Top}
use Rattle.switch_model.specs.Laws.{EndsAt}
use Rattle.port_runs.specs.Periods.{vdd_port}
use Rattle.domino_law.specs.Nets.{At, Clock, Complement, DeckSignal, Dynamic, FromDynamic, FromLatch, FromOutput, FromPin, Gate, High, Low, Minus, Net, Output, Pin, Plus, Vdd, Vss, gate_net, own, left_side, CellSide}
use Rattle.domino_law.specs.Shape.{DominoCell, IsCellAt, IsGate, IsLatchAt, IsSignal, Latch, Shape, DynamicStage, IsSideAt, left_stage}
use Rattle.sp_reduction.specs.Networks.{Link, Touches}
use Rattle.sp_reduction.proofs.Mids.{mid_is}
use Rattle.deck_audit.specs.Numbered.{IsNumbered, group_of}
use Rattle.deck_audit.specs.Rules.{HasTree, IsInside, KeepsRules}
use Rattle.deck_audit.specs.Words.{IsControl, IsDynamic, IsFree, IsGroup, IsInner, IsInverterOutput, Reached, StandsAt, link_at, step}
use Rattle.deck_audit.proofs.RuleFacts.{end_of}
use Rattle.switch_model.proofs.Searches.{ends_at}

-- the ends of a link are reached from the cell's dynamic net
pub touched_reached : (ds : List Device) (roles : Roles) (nets : ℕ) (rules : KeepsRules ds roles nets) (x clock bottom : ℕ) (t : Tree Link) → HasTree ds roles x clock bottom t → (n : ℕ) → Touches t n → Reached ds roles x n
touched_reached ds roles nets rules x clock bottom t h n (e, c, z) =
    let l = (h.links_are e).0 c in
    by l.0 l.1 l.2 l.3.0 l.3.1 l.3.2 l.3.3 l.4 (at l.1 l.0 l.5 z) (lt_or_ge n (source_count roles))
  where
    at : (d : Device) (p : ℕ) → e ≡ link_at p d → (e.from ≡ n) ⊎ (e.to ≡ n) → EndsAt d n
    at d p y (inl w) = inl (sym (ap (λ (x : Link). x.from) y) ∙ w)
    at d p y (inr w) = inr (sym (ap (λ (x : Link). x.to) y) ∙ w)

    by : (p : ℕ) (d : Device) → StandsAt ds p d → d.kind ≡ nch → (m : ℕ) → Reached ds roles x m → EndsAt d m → p ≢ h.foot → EndsAt d n → (n < source_count roles) ⊎ (source_count roles ≤ n) → Reached ds roles x n
    by p d st k m r y away w (inl low) = absurd (away (h.one_foot p d n st (k, m, r, y) w (λ f. omega (arith, low, f))))
    by p d st k m r (inl y) away (inl w) (inr f) = rw (← w, y) r
    by p d st k m r (inr y) away (inr w) (inr f) = rw (← w, y) r
    by p d st k m r (inl y) away (inr w) (inr f) = step p d r st k (inl (y, w)) f
    by p d st k m r (inr y) away (inl w) (inr f) = step p d r st k (inr (y, w)) f

module _ (c : CircuitData) (roles : Roles) (net : Net → ℕ) (s : Shape) (rules : KeepsRules c.devices roles (length c.nets)) (n : IsNumbered c roles net s) where
  -- its cells have keepers, so they are simple
  pub cells_simple : AreSimple s
  cells_simple = (n.shape).simple n.keepers

  -- and a side is a cell's left one
  pub side_cell : (k : CellSide) (d : DynamicStage) → IsSideAt s k d → (cell : DominoCell) × IsCellAt s k.cell cell × (k ≡ left_side k.cell) × (left_stage cell ≡ d)
  side_cell = simple_side s cells_simple

  pub top_dynamic : (k : ℕ) (cell : DominoCell) → IsCellAt s k cell → IsDynamic c.devices roles (net (At (Dynamic (left_side k)) Top))
  top_dynamic k cell i =
      let f = (n.cells k cell i).front in
      (omega (arith, f.no_port), f.keeper, f.keeper_device, f.keeper_there, inl (f.keeper_is.0, ends_at f.keeper_device (net (At (Dynamic (left_side k)) Top)) vdd_port f.keeper_is.2))

  pub output_inverts : (k : ℕ) (cell : DominoCell) → IsCellAt s k cell → IsInner roles (net (At (Output k) Top)) × IsInverterOutput c.devices (net (At (Output k) Top)) (net (At (Dynamic (left_side k)) Top))
  output_inverts k cell i = rules.output (net (At (Dynamic (left_side k)) Top)) (net (Clock cell.clock)) (net (At (Output k) Top)) (top_dynamic k cell i) (n.cells k cell i).front

  -- the foot and the inner nets of a cell are reached
  pub inside_reached : (k : ℕ) (cell : DominoCell) (i : IsCellAt s k cell) → (j : ℕ) → j < 1 + inner_count cell.tree
      → Reached c.devices roles (net (At (Dynamic (left_side k)) Top)) (net (At (Dynamic (left_side k)) (Inside 0 j))) × (net (At (Dynamic (left_side k)) (Inside 0 j)) ≢ net (At (Dynamic (left_side k)) Top))
  inside_reached k cell i zero lt = let t = (n.cells k cell i).has_tree in (t.bottom_reached, t.apart)
  inside_reached k cell i (suc j) lt =
      let x = n.cells k cell i in
      let t = x.has_tree in
      let m = mid_is x.tree (net (At (Dynamic (left_side k)) Top)) (net (At (Dynamic (left_side k)) (Inside 0 0))) t.between j (net (At (Dynamic (left_side k)) (Inside 0 (suc j)))) (x.inner_are j (omega (arith, lt))) in
      (touched_reached c.devices roles (length c.nets) rules (net (At (Dynamic (left_side k)) Top)) (net (Clock cell.clock)) (net (At (Dynamic (left_side k)) (Inside 0 0))) x.tree t (net (At (Dynamic (left_side k)) (Inside 0 (suc j)))) m.0, m.1)

  pub inside_is : (k : ℕ) (cell : DominoCell) (i : IsCellAt s k cell) → (m : ℕ) → Reached c.devices roles (net (At (Dynamic (left_side k)) Top)) m → m ≢ net (At (Dynamic (left_side k)) Top) → IsInside c.devices roles m
  inside_is k cell i = (n.cells k cell i).has_tree.inside

  -- a net with an inverter is no source, or a device would have two sources as ends
  pub inverter_free : (m i : ℕ) → IsInverterOutput c.devices m i → IsFree roles m
  inverter_free m i v = elim (lt_or_ge m (source_count roles)) [
    | inl low ↦ absurd (rules.no_bridge v.up v.pull_up v.up_there (source_end low (inl refl), source_end low (inr refl)))
    | inr high ↦ high
  ]
    where
      source_end : m < source_count roles → {e : ℕ} → ((v.pull_up).drain ≡ e) ⊎ ((v.pull_up).source ≡ e) → IsFree roles e → ⊥
      source_end low {e} t f = elim (end_of v.pull_up m vdd_port e v.up_is.2 t) [ inl z ↦ omega (arith, low, f, z) | inr z ↦ vdd_low z f ]
        where
          vdd_low : e ≡ vdd_port → source_count roles ≤ e → ⊥
          vdd_low z f = omega (arith, z, f)

  pub group_at : (j : ℕ) (b : Latch) → IsLatchAt s j b → (places : List ℕ) × IsGroup c.devices roles (group_of net j b) places
  group_at j b i = n.latches j b i

  -- the net of a signal is a pin or no source
  pub own_high : (l : DeckSignal) → IsSignal s l → first_pin roles ≤ net (own l)
  own_high (FromPin p) i = rw (n.numbers (Pin p) i) (omega arith)
  own_high (FromLatch j) i = omega (arith, ((group_at j i.0 i.1).1.free.1.1.0))

  -- what a sink inverts is no control
  pub gate_no_control : (g : Gate) → IsGate s g → IsControl roles (net (gate_net g)) → ⊥
  gate_no_control (Plus l) i z = omega (arith, own_high l i, z.1)
  gate_no_control (Minus l) i z = omega (arith, inverter_free (net (At (Complement l) Top)) (net (own l)) (n.complements l i).0.inverts, z.1)
  gate_no_control (FromOutput k) i z = omega (arith, (output_inverts k i.0 i.1).0, z.1)
  gate_no_control (FromDynamic k) i z = omega (arith, (top_dynamic k i.0 i.1).0, z.1)
  gate_no_control High i z = low (n.numbers Vdd tt) z.0
    where
      low : net Vdd ≡ 0 → roles.clocks + 2 ≤ net Vdd → ⊥
      low e l = omega arith
  gate_no_control Low i z = low (n.numbers Vss tt) z.0
    where
      low : net Vss ≡ 1 → roles.clocks + 2 ≤ net Vss → ⊥
      low e l = omega arith
