-- What holds of each net of a numbering, by its sort.
use Rattle.domino_law.proofs.SimpleCells.{simple_inner, simple_output_inner}
use Rattle.std.specs.Prelude.{Contains, Some, slice_get, ◌≢◌}
use Rattle.std.proofs.Common.{List, ap, arith, length, refl, subst, suc, sym, zero, ℕ, ◌+◌, ◌<◌, ◌≡◌}
use Rattle.dom_base.proofs.Lists.{AllByRecursion-contains, Contains-slice_get}
use Rattle.deck.specs.CircuitData.{CircuitData}
use Rattle.deck.specs.declared.device.Device.{Device}
use Rattle.deck.specs.declared.role.Roles.{Roles}
use Rattle.sp_network.specs.Tree.{inner_count}
use Rattle.domino_cell.specs.Stage.{Inside, Spot, Top}
use Rattle.switch_model.specs.Laws.{EndsAt}
use Rattle.port_runs.specs.Periods.{vdd_port}
use Rattle.domino_law.specs.LooseDeck.{IsSpotOf}
use Rattle.domino_law.specs.Nets.{At, Complement, Dynamic, Master, Net, Next, Output, Part, Sink, Slave, gate_net, own, left_side, CellSide}
use Rattle.domino_law.specs.Shape.{DominoCell, IsCellAt, IsLatchAt, Latch, Shape, DynamicStage}
use Rattle.deck_audit.specs.Numbered.{IsNumbered, group_of}
use Rattle.deck_audit.specs.Rules.{IsInside, KeepsRules}
use Rattle.deck_audit.specs.Words.{Group, IsControl, IsDynamic, IsFree, IsGroup, IsInverterOutput, Reached, StandsAt, here, own_nets, step}
use Rattle.deck_audit.proofs.NumberedNets.{gate_no_control, group_at, inside_is, inside_reached, inverter_free, output_inverts, own_high, top_dynamic, cells_simple, side_cell}
use Rattle.deck_audit.proofs.RuleFacts.{keeper_at, own_at_control, dynamic_no_inside, dynamic_no_inverter, dynamic_no_latch, inside_no_inverter, inside_no_latch, inverter_no_latch}
use Rattle.switch_model.proofs.Searches.{ends_at, other_at}

-- the sorts of nets: dynamic, inside a cell, inverted, a latch's own, none
pub data Sort : Type 0 where
  Dyn : Sort
  Ins : Sort
  Inv : Sort
  Lat : Sort
  Nil : Sort

unfoldable pub Differ : Sort → Sort → Type 0
Differ Dyn Dyn = ⊥
Differ Ins Ins = ⊥
Differ Inv Inv = ⊥
Differ Lat Lat = ⊥
Differ _ _ = Unit {0}

unfoldable pub sort_of : Part → Spot → Sort
sort_of (Dynamic k) Top = Dyn
sort_of (Dynamic k) (Inside a b) = Ins
sort_of (Output k) Top = Inv
sort_of (Complement l) Top = Inv
sort_of (Next j) Top = Inv
sort_of (Sink i) Top = Inv
sort_of (Master j) spot = Lat
sort_of (Slave j) spot = Lat
sort_of _ _ = Nil

-- the last device on the way to a net that is reached
last_device : (ds : List Device) (roles : Roles) (t x : ℕ) → Reached ds roles t x → x ≢ t → (p : ℕ) × (d : Device) × StandsAt ds p d × EndsAt d x
last_device ds roles t x here away = absurd (away refl)
last_device ds roles t x (step {m = m} p d r at k e h) away = (p, d, at, other_at d m x e)

-- where a latch's net stands among its group's own
unfoldable pub position : Part → Spot → ℕ
position (Master j) Top = 0
position (Slave j) Top = 1
position (Master j) (Inside a b) = 2 + a
position (Slave j) (Inside a b) = 4 + a
position _ _ = 0

module _ (c : CircuitData) (roles : Roles) (net : Net → ℕ) (s : Shape) (rules : KeepsRules c.devices roles (length c.nets)) (n : IsNumbered c roles net s) where
  abbrev ds : List Device
  ds = c.devices

  pub Fact : Sort → ℕ → Type 0
  Fact Dyn x = IsDynamic ds roles x
  Fact Ins x = (t : ℕ) × IsDynamic ds roles t × Reached ds roles t x × (x ≢ t) × ((m : ℕ) → Reached ds roles t m → m ≢ t → IsInside ds roles m)
  Fact Inv x = (i : ℕ) × IsInverterOutput ds x i × (IsControl roles i → ⊥)
  Fact Lat x = (g : Group) × (places : List ℕ) × IsGroup ds roles g places × Contains (own_nets g) x
  Fact Nil x = ⊥

  pub clash_at : (a b : Sort) → Differ a b → (x : ℕ) → Fact a x → Fact b x → ⊥
  unfolding Fact Differ
  clash_at Dyn Dyn d x p q = d
  clash_at Ins Ins d x p q = d
  clash_at Inv Inv d x p q = d
  clash_at Lat Lat d x p q = d
  clash_at Nil b d x p q = p
  clash_at Dyn Nil d x p q = q
  clash_at Ins Nil d x p q = q
  clash_at Inv Nil d x p q = q
  clash_at Lat Nil d x p q = q
  clash_at Dyn Ins d x p q = dynamic_no_inside ds roles (length c.nets) rules x p (q.4 x q.2 q.3)
  clash_at Ins Dyn d x q p = dynamic_no_inside ds roles (length c.nets) rules x p (q.4 x q.2 q.3)
  clash_at Dyn Inv d x p q = dynamic_no_inverter ds roles (length c.nets) rules x q.0 p q.1
  clash_at Inv Dyn d x q p = dynamic_no_inverter ds roles (length c.nets) rules x q.0 p q.1
  clash_at Dyn Lat d x p q = dynamic_no_latch ds roles (length c.nets) rules x p q.0 q.1 q.2 q.3
  clash_at Lat Dyn d x q p = dynamic_no_latch ds roles (length c.nets) rules x p q.0 q.1 q.2 q.3
  clash_at Ins Inv d x p q = inside_no_inverter ds roles (length c.nets) rules x q.0 (p.4 x p.2 p.3) q.1
  clash_at Inv Ins d x q p = inside_no_inverter ds roles (length c.nets) rules x q.0 (p.4 x p.2 p.3) q.1
  clash_at Ins Lat d x p q = inside_no_latch ds roles (length c.nets) rules p.0 p.1 p.4 x p.2 p.3 q.0 q.1 q.2 q.3
  clash_at Lat Ins d x q p = inside_no_latch ds roles (length c.nets) rules p.0 p.1 p.4 x p.2 p.3 q.0 q.1 q.2 q.3
  clash_at Inv Lat d x p q = inverter_no_latch ds roles (length c.nets) rules x p.0 p.1 p.2 q.0 q.1 q.2 q.3
  clash_at Lat Inv d x q p = inverter_no_latch ds roles (length c.nets) rules x p.0 p.1 p.2 q.0 q.1 q.2 q.3

  pub master_at : (j : ℕ) (b : Latch) (spot : Spot) → IsSpotOf s (Master j) spot → slice_get (own_nets (group_of net j b)) (position (Master j) spot) ≡ Some (net (At (Master j) spot))
  unfolding position
  master_at j b Top i = refl
  master_at j b (Inside zero d) i = ap (λ e. Some (net (At (Master j) (Inside 0 e)))) (sym i.2)
  master_at j b (Inside (suc zero) d) i = ap (λ e. Some (net (At (Master j) (Inside 1 e)))) (sym i.2)
  master_at j b (Inside (suc (suc a)) d) i = absurd (omega (arith, i.1))

  pub slave_at : (j : ℕ) (b : Latch) (spot : Spot) → IsSpotOf s (Slave j) spot → slice_get (own_nets (group_of net j b)) (position (Slave j) spot) ≡ Some (net (At (Slave j) spot))
  unfolding position
  slave_at j b Top i = refl
  slave_at j b (Inside zero d) i = ap (λ e. Some (net (At (Slave j) (Inside 0 e)))) (sym i.2)
  slave_at j b (Inside (suc zero) d) i = ap (λ e. Some (net (At (Slave j) (Inside 1 e)))) (sym i.2)
  slave_at j b (Inside (suc (suc a)) d) i = absurd (omega (arith, i.1))

  pub latch_part : (j : ℕ) (spot : Spot) → IsSpotOf s (Master j) spot → (b : Latch) × IsLatchAt s j b
  latch_part j Top i = i
  latch_part j (Inside a b) i = i.0

  pub slave_part : (j : ℕ) (spot : Spot) → IsSpotOf s (Slave j) spot → (b : Latch) × IsLatchAt s j b
  slave_part j Top i = i
  slave_part j (Inside a b) i = i.0

  inside_fact : (k : ℕ) (cell : DominoCell) → IsCellAt s k cell → (a b : ℕ) → a ≡ 0 → b < 1 + inner_count cell.tree → Fact Ins (net (At (Dynamic (left_side k)) (Inside a b)))
  unfolding Fact
  inside_fact k cell i a b z lt =
      let r = inside_reached c roles net s rules n k cell i b lt in
      (net (At (Dynamic (left_side k)) Top), top_dynamic c roles net s rules n k cell i, rw z r.0, rw z r.1, inside_is c roles net s rules n k cell i)

  pub fact_of : (part : Part) (spot : Spot) → IsSpotOf s part spot → Fact (sort_of part spot) (net (At part spot))
  unfolding Fact sort_of
  fact_of (Dynamic k) Top i =
      let x = side_cell c roles net s rules n k i.0 i.1 in
      subst (λ (q : CellSide). IsDynamic ds roles (net (At (Dynamic q) Top))) (sym x.2) (top_dynamic c roles net s rules n k.cell x.0 x.1)
  fact_of (Dynamic k) (Inside a b) i =
      let x = side_cell c roles net s rules n k i.0 i.1 in
      subst (λ (q : CellSide). Fact Ins (net (At (Dynamic q) (Inside a b)))) (sym x.2)
      (inside_fact k.cell x.0 x.1 a b i.2 (subst (λ (y : DynamicStage). b < 1 + inner_count y.tree) (sym x.3) i.3))
  fact_of (Output k) Top i =
      (net (At (Dynamic (left_side k)) Top), (output_inverts c roles net s rules n k i.0 i.1).1, (λ z. omega (arith, z.1, (top_dynamic c roles net s rules n k i.0 i.1).0)))
  fact_of (Complement l) Top i =
      (net (own l), (n.complements l i).0.inverts, (λ z. omega (arith, z.1, own_high c roles net s rules n l ((n.shape).complements_are l i))))
  fact_of (Next j) Top i = (net (gate_net (i.0).next), n.nexts j i.0 i.1, gate_no_control c roles net s rules n (i.0).next ((n.shape).nexts j i.0 i.1))
  fact_of (Sink k) Top i = (net (gate_net i.0), n.sinks k i.0 i.1, gate_no_control c roles net s rules n i.0 ((n.shape).outputs_are k i.0 i.1))
  fact_of (Master j) spot i =
      let b = latch_part j spot i in
      (group_of net j b.0, (group_at c roles net s rules n j b.0 b.1).0, (group_at c roles net s rules n j b.0 b.1).1, Contains-slice_get (own_nets (group_of net j b.0)) (position (Master j) spot) (net (At (Master j) spot)) (master_at j b.0 spot i))
  fact_of (Slave j) spot i =
      let b = slave_part j spot i in
      (group_of net j b.0, (group_at c roles net s rules n j b.0 b.1).0, (group_at c roles net s rules n j b.0 b.1).1, Contains-slice_get (own_nets (group_of net j b.0)) (position (Slave j) spot) (net (At (Slave j) spot)) (slave_at j b.0 spot i))
  fact_of (Output k) (Inside a b) i = simple_output_inner k i.0 b (cells_simple c roles net s rules n k i.0 i.1) i.3
  fact_of (Complement l) (Inside a b) i = i
  fact_of (Next j) (Inside a b) i = simple_inner s (cells_simple c roles net s rules n) (i.0).next b i.3
  fact_of (Sink k) (Inside a b) i = simple_inner s (cells_simple c roles net s rules n) i.0 b i.3

  -- a net of a part is no source
  pub fact_free : (a : Sort) (x : ℕ) → Fact a x → IsFree roles x
  unfolding Fact
  fact_free Dyn x f = f.0
  fact_free Ins x f = omega (arith, (f.4 x f.2 f.3).no_port)
  fact_free Inv x f = inverter_free c roles net s rules n x f.0 f.1
  fact_free Lat x f = AllByRecursion-contains (IsFree roles) (own_nets f.0) x (f.2).free.1 f.3
  fact_free Nil x f = absurd f

  -- and a device ends there
  pub fact_touched : (a : Sort) (x : ℕ) → Fact a x → (p : ℕ) × (d : Device) × StandsAt ds p d × EndsAt d x
  unfolding Fact
  fact_touched Dyn x f = let k = keeper_at ds roles (length c.nets) rules x f in (k.0, k.1, k.2, k.3)
  fact_touched Ins x f = last_device ds roles f.0 x f.2 f.3
  fact_touched Inv x f = ((f.1).up, (f.1).pull_up, (f.1).up_there, ends_at (f.1).pull_up x vdd_port (f.1).up_is.2)
  fact_touched Lat x f =
      let a = AllByRecursion-contains (λ n. (p : ℕ) × (d : Device) × StandsAt ds p d × EndsAt d n × IsControl roles d.gate) (own_nets f.0) x (own_at_control ds roles f.0 f.1 f.2) f.3 in
      (a.0, a.1, a.2, a.3)
  fact_touched Nil x f = absurd f
