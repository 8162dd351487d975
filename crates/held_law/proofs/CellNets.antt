-- The nets of a cell with a keeper, and its devices: where they lead, and which of them are on.
use Rattle.std.specs.Prelude.{Contains, ◌≢◌, ◌⊎◌}
use Rattle.std.proofs.Common.{Bool, List, [], false, inl, inr, map, refl, subst, sym, true, ℕ, ◌∙◌, ◌≡◌}
use Rattle.dom_base.specs.Conduction.{conduction}
use Rattle.dom_base.specs.declared.kind.Kind.{Kind}
use Rattle.dom_base.specs.declared.kind.Kind.TheVariants.{Keep, N as nch, P as pch}
use Rattle.dom_base.specs.declared.tri.Tri.{Tri}
use Rattle.dom_base.specs.declared.tri.Tri.TheVariants.{One, Zero}
use Rattle.dom_base.proofs.Bools.{never}
use Rattle.deck.specs.NamedDevices.{device_of}
use Rattle.deck.specs.Paths.{Ends, Possible}
use Rattle.deck.specs.Reach.{Reach, last, step}
use Rattle.deck.specs.Switches.{IsNotOff, IsOn, value_of}
use Rattle.deck.specs.declared.device.Device.{Device}
use Rattle.deck.proofs.Reach.{Reach-trans}
use Rattle.sp_network.specs.Known.{IsKnown, is_not_zero, is_one}
use Rattle.sp_network.specs.Tree.{EachLeaf, Leaf, Parallel, Series, Tree}
use Rattle.sp_network.proofs.TreeTests.{is_not_zero-true, is_one-from}
use Rattle.domino_cell.specs.Stage.{Spot, Top}
use Rattle.domino_cell.specs.Steps.{IsStep, IsStrongStep}
use Rattle.domino_cell.specs.Tapped.{IsTapped, tapped}
use Rattle.domino_cell.specs.declared.style.Style.TheVariants.{Keeper as WithKeeper}
use Rattle.domino_cell.proofs.Paths.{Reach-from_any, definite_from_Reach}
use Rattle.stage_law.proofs.Between.{Reach-reverse}
use Rattle.domino_law.specs.Branches.{dynamic}
use Rattle.domino_law.specs.Honest.{cell_conduction}
use Rattle.domino_law.specs.Nets.{At, CellSide, Clock, Gate, Net, Output, Vdd, Vss, gate_net}
use Rattle.domino_law.specs.Shape.{DynamicStage}
use Rattle.domino_law.proofs.DeckParts.{zero_or_one}
use Rattle.domino_law.proofs.DynamicDevices.{dynamic_devices}
use Rattle.domino_law.proofs.KeptCells.{IsCellNet, within}
use Rattle.domino_law.proofs.Parts.{pulled_conducts}

-- what holds of each gate holds at each leaf
each_leaf : (F : Gate → Type 0) → ((g : Gate) → F g) → (t : Tree Gate) → EachLeaf F t
each_leaf F f (Leaf g) = f g
each_leaf F f (Series l r) = (each_leaf F f l, each_leaf F f r)
each_leaf F f (Parallel l r) = (each_leaf F f l, each_leaf F f r)

-- a known gate that may be on is
known_on : (kind : Kind) (v : Tri) → IsKnown v → conduction kind v ≢ Zero → conduction kind v ≡ One
known_on nch v (inl e) f = absurd (f e)
known_on nch v (inr e) f = e
known_on pch v (inl e) f = rw e refl
known_on pch v (inr e) f = absurd (f (rw e refl))
known_on Keep v (inl e) f = rw e refl
known_on Keep v (inr e) f = absurd (f (rw e refl))

module _ (devices : List Device) (is_source : ℕ → Bool) (net : Net → ℕ) (at : Spot → ℕ) (k : CellSide) (c : DynamicStage)
    (is : IsTapped devices is_source at (dynamic WithKeeper net k c) [])
    (high_source : is_source (net Vdd) ≡ true) (low_source : is_source (net Vss) ≡ true) where
  -- the net is one of the side: its top, the foot or an inner net of its tree
  abbrev pub IsSideNet : ℕ → Type 0
  IsSideNet x = IsCellNet devices is_source net at k c is x

  abbrev IsEnd : ℕ → Type 0
  IsEnd x = IsSideNet x ⊎ (x ≡ net Vss)

  -- a device of the tree or the foot, whose gate has G; the precharge; the keeper
  abbrev pub IsSideDevice : (ℕ → Type 0) → Device → Type 0
  IsSideDevice G d =
      ((d.kind ≡ nch) × G d.gate × IsEnd d.drain × IsEnd d.source)
      ⊎ ((((d.kind ≡ pch) × (d.gate ≡ net (Clock c.clock))) ⊎ ((d.kind ≡ Keep) × (d.gate ≡ net (At (Output k.cell) Top))))
      × IsSideNet d.drain × (d.source ≡ net Vdd))

  -- a device that ends at a net of the side is one of these, where the gates of the tree and of the foot have G
  pub side_device : (G : ℕ → Type 0) → EachLeaf (λ g. G (net (gate_net g))) c.tree → G (net (Clock c.clock)) → (d : Device) (x y : ℕ)
      → IsSideNet x → Contains devices d → Ends d x y → IsSideDevice G d
  side_device G leaves foot d x y n m e =
      go (within devices is_source net at k c is G leaves foot (λ b. (b ≡ d) × Contains devices b) (λ b q. q.1) n (last (refl, m) e))
    where
      go : {y : ℕ} → Reach (λ b. ((b ≡ d) × Contains devices b) × IsSideDevice G b) is_source x y → IsSideDevice G d
      go (last q e) = subst (IsSideDevice G) q.0.0 q.1
      go (step q e f r) = subst (IsSideDevice G) q.0.0 q.1

  pub side_free : (x : ℕ) → IsSideNet x → is_source x ≡ false
  side_free x n = rw n.2 (is.free n.0 n.1)

  -- the other end of such a device is a net of the side or a source
  pub side_closed : (d : Device) (x y : ℕ) → IsSideNet x → Contains devices d → Ends d x y → is_source y ≡ false → IsSideNet y
  side_closed d x y n m e f = go (side_device (λ g. Unit {0}) (each_leaf (λ g. Unit {0}) (λ g. tt) c.tree) tt d x y n m e) e
    where
      end : (z : ℕ) → z ≡ y → IsEnd z → IsSideNet y
      end z w (inl q) = rw (← w) q
      end z w (inr q) = absurd (never {b = is_source y} (rw (sym w ∙ q) low_source) f)

      go : IsSideDevice (λ g. Unit {0}) d → Ends d x y → IsSideNet y
      go (inl q) (inl w) = end d.source w.1 q.3
      go (inl q) (inr w) = end d.drain w.1 q.2
      go (inr q) (inl w) = absurd (never {b = is_source y} (rw (sym w.1 ∙ q.2) high_source) f)
      go (inr q) (inr w) = end d.drain w.1 (inl q.1)

  -- the keeper is at the top, and the output gates it
  pub side_keeper : (d : Device) (x y : ℕ) → IsSideNet x → Contains devices d → Ends d x y → d.kind ≡ Keep
      → (d.drain ≡ at Top) × (d.gate ≡ net (At (Output k.cell) Top))
  side_keeper d x y n m e =
      dynamic_devices net (λ b. b.kind ≡ Keep → (b.drain ≡ at Top) × (b.gate ≡ net (At (Output k.cell) Top))) WithKeeper at k c
      (λ b z w. absurd (nch_no_keep (sym z ∙ w))) (λ a i w. absurd (pch_no_keep w)) (λ z w. (refl, refl)) d (of_side e)
    where
      nch_no_keep : nch ≡ Keep → ⊥
      nch_no_keep z = cc

      pch_no_keep : pch ≡ Keep → ⊥
      pch_no_keep z = cc

      of_side : Ends d x y → Contains (map device_of (tapped at (dynamic WithKeeper net k c) [])) d
      of_side (inl w) = is.alone d n.0 n.1 m (inl (w.0 ∙ n.2))
      of_side (inr w) = is.alone d n.0 n.1 m (inr (w.0 ∙ n.2))

  -- a side that holds: its clock is 1, its output and its leaves are known, and where the output is 0 its tree doesn't conduct
  pub record IsHolding (values : List Tri) : Type 0 where
    pub high : value_of values (net Vdd) ≡ One
    pub low : value_of values (net Vss) ≡ Zero
    pub on : value_of values (net (Clock c.clock)) ≡ One
    pub out : IsKnown (value_of values (net (At (Output k.cell) Top)))
    pub leaves : EachLeaf (λ g. IsKnown (value_of values (net (gate_net g)))) c.tree
    pub shut : value_of values (net (At (Output k.cell) Top)) ≡ Zero → cell_conduction net values c ≡ Zero

  module _ (values : List Tri) (h : IsHolding values) where
    abbrev IsKnownDevice : Device → Type 0
    IsKnownDevice d = IsSideDevice (λ g. IsKnown (value_of values g)) d

    known_device : (d : Device) (x y : ℕ) → IsSideNet x → Contains devices d → Ends d x y → IsKnownDevice d
    known_device = side_device (λ g. IsKnown (value_of values g)) h.leaves (inr h.on)

    -- each of its devices is on or off
    pub side_on : (d : Device) (x y : ℕ) → IsSideNet x → Contains devices d → Ends d x y → IsNotOff values d → IsOn values d
    side_on d x y n m e = known_on d.kind (value_of values d.gate) (gate (known_device d x y n m e))
      where
        gate : IsKnownDevice d → IsKnown (value_of values d.gate)
        gate (inl q) = q.1
        gate (inr (inl q, r, w)) = inr (rw q.1 h.on)
        gate (inr (inr q, r, w)) = rw q.1 h.out

    -- the precharge is off, and so is the keeper where the output is not 0
    no_precharge : (d : Device) → IsStep devices is_not_zero values d → d.kind ≡ pch → d.gate ≡ net (Clock c.clock) → ⊥
    no_precharge d q e g = is_not_zero-true (conduction d.kind (value_of values d.gate)) q.pass (rw (e, g, h.on) refl)

    output_zero : (d : Device) → IsStep devices is_not_zero values d → d.kind ≡ Keep → d.gate ≡ net (At (Output k.cell) Top)
        → value_of values (net (At (Output k.cell) Top)) ≡ Zero
    output_zero d q e g = elim h.out [
      | inl z ↦ z
      | inr z ↦ absurd (is_not_zero-true (conduction d.kind (value_of values d.gate)) q.pass (rw (e, g, z) refl))
    ]

    not_source : (x : ℕ) → IsSideNet x → (y : ℕ) → y ≡ x → is_source y ≡ true → ⊥
    not_source x n y e s = never {b = is_source y} s (rw e (side_free x n))

    -- paths lead from the side to ground, or through the keeper, where the output is 0, to the high supply
    abbrev Leaves : ℕ → ℕ → Type 0
    Leaves x y =
        (y ≡ net Vss)
        ⊎ ((y ≡ net Vdd) × (value_of values (net (At (Output k.cell) Top)) ≡ Zero)
        × ((x ≡ at Top) ⊎ Reach (IsStep devices is_not_zero values) is_source x (at Top)))

    leaves_by : (d : Device) (x y : ℕ) → IsSideNet x → IsStep devices is_not_zero values d → Ends d x y → is_source y ≡ true → Leaves x y
    leaves_by d x y n q e s = go (known_device d x y n q.of e) e
      where
        end : (z : ℕ) → z ≡ y → IsEnd z → Leaves x y
        end z w (inl m) = absurd (not_source z m y (sym w) s)
        end z w (inr m) = inl (sym w ∙ m)

        go : IsKnownDevice d → Ends d x y → Leaves x y
        go (inl p) (inl w) = end d.source w.1 p.3
        go (inl p) (inr w) = end d.drain w.1 p.2
        go (inr (inl p, r, z)) w = absurd (no_precharge d q p.0 p.1)
        go (inr (inr p, r, z)) (inl w) =
            inr (sym w.1 ∙ z, output_zero d q p.0 p.1, inl (sym w.0 ∙ (side_keeper d x y n q.of (inl w) p.0).0))
        go (inr (inr p, r, z)) (inr w) = absurd (not_source x n (net Vdd) (sym z ∙ w.0) high_source)

    leaves_at : {x y : ℕ} → IsSideNet x → Reach (IsStep devices is_not_zero values) is_source x y → is_source y ≡ true → Leaves x y
    leaves_at {x} {y} n (last {d = d} q e) s = leaves_by d x y n q e s
    leaves_at {x} {y} n (step {d = d} {m = m} q e f r) s = elim (leaves_at (side_closed d x m n q.of e f) r s) [
      | inl z ↦ inl z
      | inr (z, o, inl t) ↦ inr (z, o, inr (last q (subst (Ends d x) t e)))
      | inr (z, o, inr t) ↦ inr (z, o, inr (step q e f t))
    ]

    -- a path to ground has no keeper
    strong_down : (d : Device) (x y : ℕ) → IsSideNet x → IsStep devices is_not_zero values d → Ends d x y → y ≢ net Vdd
        → IsStrongStep devices is_one values d
    strong_down d x y n q e ne = record {
      of = q.of;
      pass = is_one-from _ (side_on d x y n q.of e (is_not_zero-true _ q.pass));
      strong = λ z. go (known_device d x y n q.of e) e z;
    }
      where
        go : IsKnownDevice d → Ends d x y → d.kind ≡ Keep → ⊥
        go (inl p) w z = let t : nch ≡ Keep = sym p.0 ∙ z in cc
        go (inr r) (inl w) z = ne (sym w.1 ∙ r.2)
        go (inr r) (inr w) z = not_source x n (net Vdd) (sym r.2 ∙ w.0) high_source

    goes_down : {x y : ℕ} → IsSideNet x → Reach (IsStep devices is_not_zero values) is_source x y → y ≢ net Vdd
        → Reach (IsStrongStep devices is_one values) is_source x y
    goes_down {x} {y} n (last {d = d} q e) ne = last (strong_down d x y n q e ne) e
    goes_down {x} {y} n (step {d = d} {m = m} q e f r) ne =
        step (strong_down d x m n q e (λ z. never {b = is_source m} (rw z high_source) f)) e f (goes_down (side_closed d x m n q.of e f) r ne)

    not_both : (x : ℕ) → IsSideNet x → Reach (IsStep devices is_not_zero values) is_source x (net Vss)
        → value_of values (net (At (Output k.cell) Top)) ≡ Zero
        → (x ≡ at Top) ⊎ Reach (IsStep devices is_not_zero values) is_source x (at Top) → ⊥
    not_both x n r o t =
        zero_or_one (sym (h.shut o) ∙ pulled_conducts devices is_source net values h.high h.low WithKeeper at k c is low_source
        (definite_from_Reach devices is_source values (at Top) (net Vss) (goes_down (Top, tt, refl) (from_top t) apart)))
      where
        apart : net Vss ≢ net Vdd
        apart z = zero_or_one (sym h.low ∙ (rw z h.high))

        from_top : (x ≡ at Top) ⊎ Reach (IsStep devices is_not_zero values) is_source x (at Top)
            → Reach (IsStep devices is_not_zero values) is_source (at Top) (net Vss)
        from_top (inl z) = rw (← z) r
        from_top (inr u) = Reach-trans (Reach-reverse u) (side_free x n) r

    -- so the sources that it is joined to have one value
    pub same_sources : (x s t : ℕ) → IsSideNet x → Possible devices is_source values x s → Possible devices is_source values x t
        → is_source s ≡ true → is_source t ≡ true → value_of values s ≡ value_of values t
    same_sources x s t n p q a b = go (leaves_at n r a) (leaves_at n u b)
      where
        r : Reach (IsStep devices is_not_zero values) is_source x s
        r = Reach-from_any devices is_source values x s p

        u : Reach (IsStep devices is_not_zero values) is_source x t
        u = Reach-from_any devices is_source values x t q

        go : Leaves x s → Leaves x t → value_of values s ≡ value_of values t
        go (inl e) (inl f) = rw (e, f) refl
        go (inl e) (inr (f, o, z)) = absurd (not_both x n (rw e at r) o z)
        go (inr (e, o, z)) (inl f) = absurd (not_both x n (rw f at u) o z)
        go (inr (e, o, z)) (inr (f, w, y)) = rw (e, f) refl

    -- and it is joined to the supplies alone
    pub to_supply : (x s : ℕ) → IsSideNet x → Possible devices is_source values x s → is_source s ≡ true → (s ≡ net Vss) ⊎ (s ≡ net Vdd)
    to_supply x s n p a = elim (leaves_at n (Reach-from_any devices is_source values x s p) a) [ inl e ↦ inl e | inr (e, o, z) ↦ inr e ]

  -- where its leaves at 0 stay at 0, and so do its clock and its output, no device that was off is on
  pub side_fewer : (before after : List Tri) → value_of after (net (Clock c.clock)) ≡ value_of before (net (Clock c.clock))
      → value_of after (net (At (Output k.cell) Top)) ≡ value_of before (net (At (Output k.cell) Top))
      → EachLeaf (λ g. value_of before (net (gate_net g)) ≡ Zero → value_of after (net (gate_net g)) ≡ Zero) c.tree
      → (d : Device) (x y : ℕ) → IsSideNet x → Contains devices d → Ends d x y → IsNotOff after d → IsNotOff before d
  side_fewer before after clock out leaves d x y n m e open' =
      go (side_device (λ g. value_of before g ≡ Zero → value_of after g ≡ Zero) leaves (λ z. clock ∙ z) d x y n m e)
    where
      go : IsSideDevice (λ g. value_of before g ≡ Zero → value_of after g ≡ Zero) d → IsNotOff before d
      go (inl q) z = open' (rw q.0 (q.1 (rw q.0 at z)))
      go (inr (inl q, r, w)) z = open' (rw (q.1, clock) (rw q.1 at z))
      go (inr (inr q, r, w)) z = open' (rw (q.1, out) (rw q.1 at z))
