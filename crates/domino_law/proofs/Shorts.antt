-- A state whose frame is honest and whose gates are known has no short.
use Rattle.std.specs.List.{AllByRecursion}
use Rattle.std.specs.Prelude.{Contains, ◌≢◌, ◌⊎◌}
use Rattle.std.proofs.Common.{Bool, List, [], false, inl, inr, map, refl, sym, true, ℕ, ◌∙◌, ◌∷◌, ◌≡◌}
use Rattle.dom_base.specs.Tri.{opposite}
use Rattle.dom_base.specs.declared.kind.Kind.TheVariants.{Keep, N as nch}
use Rattle.dom_base.specs.declared.tri.Tri.{Tri}
use Rattle.dom_base.specs.declared.tri.Tri.TheVariants.{One, Zero}
use Rattle.dom_base.proofs.Lists.{AllByRecursion-contains}
use Rattle.deck.specs.Paths.{Ends, PossibleStrong}
use Rattle.deck.specs.Switches.{value_of}
use Rattle.deck.specs.declared.device.Device.{Device}
use Rattle.deck.specs.NamedDevices.{device_of}
use Rattle.deck.specs.Reach.{Reach, last, step}
use Rattle.deck.proofs.Reach.{Reach-weaker}
use Rattle.sp_network.specs.Known.{IsKnown, is_not_zero}
use Rattle.sp_network.specs.Tree.{tree_conduction, Leaf, Tree}
use Rattle.domino_cell.specs.Stage.{Branch, IsStage, Top}
use Rattle.domino_cell.specs.Steps.{IsStep, IsStrongStep}
use Rattle.domino_cell.proofs.Paths.{Reach-from_possible, possible_from_Reach}
use Rattle.domino_cell.specs.Tapped.{IsTapped, Tap, tapped}
use Rattle.stage_law.proofs.Between.{between}
use Rattle.stage_law.proofs.CellTargets.{one_source}
use Rattle.domino_cell.proofs.Untapped.{untapped}
use Rattle.stage_law.proofs.StageTargets.{strong_through}
use Rattle.port_runs.specs.Environment.{Captured, Launch, Launched, Place, Precharge, bit}
use Rattle.domino_law.specs.Branches.{HasBranches, clocked, dynamic, dynamic_taps, numbered, reset_branch, slave, static_branches}
use Rattle.domino_law.specs.Honest.{IsHonestFrame, IsMasterAt, static_value}
use Rattle.domino_law.specs.LooseDeck.{HoldsDeck}
use Rattle.domino_law.specs.Nets.{At, Clock, Complement, Dynamic, Lm, Lmb, Ls, Lsb, Master, Net, Next, Output, Part, Plus, Rs, Rsb, Sink, Slave, Vdd, Vss, own, CellSide}
use Rattle.domino_law.specs.Places.{ls_at, rs_at, ClockState}
use Rattle.domino_law.specs.Shape.{IsLatchAt, Latch, Shape, DynamicStage, IsSideAt, dynamic_nets, gate_tree}
use Rattle.domino_cell.specs.declared.style.Style.{Style}
use Rattle.domino_cell.specs.declared.style.Style.TheVariants.{Keeper as WithKeeper, Precharge as WithPrecharge}
use Rattle.domino_law.proofs.DeckParts.{AreKnownGates, clock-known, complement_is, dynamic_is, master_is, next_is, opposite-known, output_is, sink_is, slave_is, cell_value-known, value-known}
use Rattle.domino_law.proofs.DynamicDevices.{untap}
use Rattle.domino_law.proofs.Places.{bit-known}
use Rattle.domino_law.proofs.Statics.{both-right_zero, pull_down, pull_up}

-- the strong branches that are not off lead to supplies of one value
abbrev Agreeing : List Tri → Tri → List Branch → Type 0
Agreeing values w bs = AllByRecursion (λ b. (b.kind ≡ Keep) ⊎ ((tree_conduction b.kind (value_of values) b.tree ≡ Zero) ⊎ (value_of values b.supply ≡ w))) bs

module _ {devices : List Device} {is_source : ℕ → Bool} {net : Net → ℕ} {s : Shape} (deck : HoldsDeck devices is_source net s)
    {place : Place} {up : ℕ → ClockState} {old new pins : ℕ → Bool} {kept : ℕ → Tri} {values : List Tri} (frame : IsHonestFrame net s place up old new pins kept values)
    (gates : AreKnownGates net s values) where
  agree_static : (t : Tree Net) → IsKnown (static_value net values t) → (w : Tri) × Agreeing values w (static_branches net t)
  agree_static t (inl z) = (One, (inr (inr (frame.sources Vdd tt)), (inr (inl (pull_down net values t ∙ z)), tt)))
  agree_static t (inr z) = (Zero, (inr (inl (pull_up net values t ∙ rw z refl)), (inr (inr (frame.sources Vss tt)), tt)))

  -- a clocked inverter that is shut, or whose gate is known
  agree_shut : (up down gate : Net) (more : List Branch) (w : Tri) → value_of values (net up) ≡ One → value_of values (net down) ≡ Zero → Agreeing values w more → Agreeing values w (clocked net up down gate more)
  agree_shut up down gate more w u d m = (inr (inl (rw u refl)), (inr (inl (rw d refl)), m))

  agree_open : (up down gate : Net) (more : List Branch) → IsKnown (value_of values (net gate)) → ((w : Tri) → Agreeing values w more) → (w : Tri) × Agreeing values w (clocked net up down gate more)
  agree_open up down gate more (inl z) m = (One, (inr (inr (frame.sources Vdd tt)), (inr (inl (rw z (both-right_zero (value_of values (net down))))), m One)))
  agree_open up down gate more (inr z) m = (Zero, (inr (inl (rw z (both-right_zero (opposite (value_of values (net up)))))), (inr (inr (frame.sources Vss tt)), m Zero)))

  reset_off : (b : Bool) (w : Tri) → rs_at place ≡ Zero → Agreeing values w (reset_branch net b ∷ [])
  reset_off false w r = (inr (inl (frame.sources Rs tt ∙ r)), tt)
  reset_off true w r = let q : value_of values (net Rsb) ≡ One = frame.sources Rsb tt ∙ rw r refl in (inr (inl (rw q refl)), tt)

  reset_one : (b : Bool) → (w : Tri) × Agreeing values w (reset_branch net b ∷ [])
  reset_one false = (Zero, (inr (inr (frame.sources Vss tt)), tt))
  reset_one true = (One, (inr (inr (frame.sources Vdd tt)), tt))

  agree_master : (gate : Net) → IsKnown (value_of values (net gate)) → (w : Tri) × Agreeing values w (clocked net Lmb Lm gate [])
  agree_master gate k = agree_open Lmb Lm gate [] k (λ w. tt)

  agree_slave : (j : ℕ) (b : Latch) → IsLatchAt s j b → (w : Tri) × Agreeing values w (slave net j b)
  agree_slave j b e = go place refl
    where
      shut : ls_at place ≡ Zero → (w : Tri) × Agreeing values w (slave net j b)
      shut z = let t = reset_one b.init in (t.0, agree_shut Lsb Ls (At (Master j) Top) (reset_branch net b.init ∷ []) t.0 (frame.sources Lsb tt ∙ rw z refl) (frame.sources Ls tt ∙ z) t.1)

      go : (pl : Place) → place ≡ pl → (w : Tri) × Agreeing values w (slave net j b)
      go Launch z =
          agree_open Lsb Ls (At (Master j) Top) (reset_branch net b.init ∷ []) (known z) (λ w. reset_off b.init w (rw z refl))
        where
          at_launch : (pl : Place) (w : Tri) → pl ≡ Launch → IsMasterAt pl (kept j) (bit (new j)) w → w ≡ opposite (bit (new j))
          at_launch Launch w z f = f
          at_launch Launched w z f = f
          at_launch Captured w z f = f
          at_launch Precharge w z f = f
          at_launch _ w z f = absurd (cc)

          known : place ≡ Launch → IsKnown (value_of values (net (At (Master j) Top)))
          known z = rw (at_launch place _ z (frame.masters j b e)) (opposite-known _ (bit-known (new j)))
      go _ z = shut (rw z refl)

  agree_dynamic : (k : CellSide) (c : DynamicStage) → IsSideAt s k c → (w : Tri) × Agreeing values w (dynamic WithKeeper net k c)
  agree_dynamic k c e =
      elim (clock-known deck frame k c e) [
        | inl z ↦ (One, (inr (inl (rw z (both-right_zero (tree_conduction nch (value_of values) (numbered net c.tree))))), (inr (inr (frame.sources Vdd tt)), (inl refl, tt))))
        | inr z ↦ (Zero, (inr (inr (frame.sources Vss tt)), (inr (inl (rw z refl)), (inl refl, tt))))
      ]

  part_stage : (part : Part) (bs : List Branch) (taps : List Tap) → HasBranches s net part bs taps → (style : Style) → s.style ≡ style → (style ≡ WithPrecharge → (k : CellSide) → part ≢ Dynamic k)
      → (taps ≡ []) × (IsStage devices is_source (λ a. net (At part a)) bs × ((w : Tri) × Agreeing values w bs))
  part_stage (Dynamic k) bs taps (c, e, z, y) WithPrecharge u f = absurd (f refl k refl)
  part_stage (Dynamic k) bs taps (c, e, z, y) WithKeeper u f =
      let is : IsTapped devices is_source (λ a. net (At (Dynamic k) a)) (dynamic WithKeeper net k c) [] = rw u at (dynamic_is deck k c e) in
      (y ∙ rw u refl, rw (z, u) (untapped devices is_source (λ a. net (At (Dynamic k) a)) (dynamic WithKeeper net k c) is, agree_dynamic k c e))
  part_stage (Output k) bs taps (c, e, z, y) style u f = (y, rw z (output_is deck k c e, agree_static (dynamic_nets k c.right) (cell_value-known net s values gates k c e)))
  part_stage (Complement l) bs taps (e, z, y) style u f = (y, rw z (complement_is deck l e, agree_static (Leaf (own l)) (gates (Plus l) ((deck.shape).complements_are l e))))
  part_stage (Master j) bs taps (b, e, z, y) style u f = (y, rw z (master_is deck j b e, agree_master (At (Next j) Top) (frame.nexts j b e)))
  part_stage (Slave j) bs taps (b, e, z, y) style u f = (y, rw z (slave_is deck j b e, agree_slave j b e))
  part_stage (Next j) bs taps (b, e, z, y) style u f = (y, rw z (next_is deck j b e, agree_static (gate_tree s b.next) (value-known net s values gates b.next ((deck.shape).nexts j b e))))
  part_stage (Sink i) bs taps (g, e, z, y) style u f = (y, rw z (sink_is deck i g e, agree_static (gate_tree s g) (value-known net s values gates g ((deck.shape).outputs_are i g e))))

  -- a net is the end of a path, or the path goes on from it
  abbrev IsRest : ℕ → ℕ → Type 0
  IsRest b m = (m ≡ b) ⊎ ((is_source m ≡ false) × Reach (IsStrongStep devices is_not_zero values) is_source m b)

  -- a possible strong path joins sources of one value
  pub one_value : (a b : ℕ) → is_source a ≡ true → is_source b ≡ true → PossibleStrong devices is_source values a b → value_of values a ≡ value_of values b
  one_value a b sa sb p = first (Reach-from_possible devices is_source values a b p)
    where
      says : (w : Tri) (c : Branch) (n : ℕ) → n ≡ c.supply → c.kind ≢ Keep → tree_conduction c.kind (value_of values) c.tree ≢ Zero
          → (c.kind ≡ Keep) ⊎ ((tree_conduction c.kind (value_of values) c.tree ≡ Zero) ⊎ (value_of values c.supply ≡ w)) → value_of values n ≡ w
      says w c n e k o (inl z) = absurd (k z)
      says w c n e k o (inr (inl z)) = absurd (o z)
      says w c n e k o (inr (inr z)) = rw e z

      -- through the top of a stage
      at_top : (part : Part) (bs : List Branch) → IsStage devices is_source (λ a. net (At part a)) bs × ((w : Tri) × Agreeing values w bs)
          → (a ≡ b) ⊎ (Reach (IsStrongStep devices is_not_zero values) is_source (net (At part Top)) a × Reach (IsStrongStep devices is_not_zero values) is_source (net (At part Top)) b) → value_of values a ≡ value_of values b
      at_top part bs u (inl z) = rw z refl
      at_top part bs u (inr z) =
          let x = strong_through devices is_source (λ a. net (At part a)) bs u.0 values a (possible_from_Reach devices is_source values (net (At part Top)) a z.0) sa in
          let y = strong_through devices is_source (λ a. net (At part a)) bs u.0 values b (possible_from_Reach devices is_source values (net (At part Top)) b z.1) sb in
          says u.1.0 x.0 a x.2 x.3 x.4 (AllByRecursion-contains _ bs x.0 u.1.1 x.1) ∙ sym (says u.1.0 y.0 b y.2 y.3 y.4 (AllByRecursion-contains _ bs y.0 u.1.1 y.1))

      by_stage : (d : Device) (m : ℕ) (part : Part) (bs : List Branch) (taps : List Tap) → (taps ≡ []) × (IsStage devices is_source (λ a. net (At part a)) bs × ((w : Tri) × Agreeing values w bs))
          → IsStrongStep devices is_not_zero values d → Contains (map device_of (tapped (λ a. net (At part a)) bs taps)) d → Ends d a m → IsRest b m → value_of values a ≡ value_of values b
      by_stage d m part bs taps u q c e r =
          at_top part bs u.1 (between devices is_source (λ a. net (At part a)) bs u.1.0 (IsStrongStep devices is_not_zero values) (λ d q. q.of) d m sa sb q (untap (λ a. net (At part a)) bs d (rw u.0 at c)) e r)

      step_of : (d : Device) → IsStrongStep devices is_not_zero values d → IsStep devices is_not_zero values d
      step_of d q = record { of = q.of; pass = q.pass }

      by_cell : (d : Device) (m : ℕ) (k : CellSide) (c : DynamicStage) → IsSideAt s k c → s.style ≡ WithPrecharge → IsStrongStep devices is_not_zero values d
          → Contains (map device_of (tapped (λ a. net (At (Dynamic k) a)) (dynamic s.style net k c) (dynamic_taps s.style net c))) d → Ends d a m → IsRest b m → value_of values a ≡ value_of values b
      by_cell d m k c g u q n e r =
          let is : IsTapped devices is_source (λ a. net (At (Dynamic k) a)) (dynamic WithPrecharge net k c) (dynamic_taps WithPrecharge net c) = rw u at (dynamic_is deck k c g) in
          let z : a ≡ b = one_source devices is_source (λ a. net (At (Dynamic k) a)) (net Vdd) (net Vss) (net (Clock c.clock)) (numbered net c.tree) is values
          (clock-known deck frame k c g) d m sa sb (step_of d q) (rw u at n) e
          (elim r [ inl z ↦ inl z | inr z ↦ inr (z.0, Reach-weaker step_of z.1) ]) in
          rw z refl

      at_part : (d : Device) (m : ℕ) (part : Part) (bs : List Branch) (taps : List Tap) → HasBranches s net part bs taps → (style : Style) → s.style ≡ style
          → IsStrongStep devices is_not_zero values d → Contains (map device_of (tapped (λ a. net (At part a)) bs taps)) d → Ends d a m → IsRest b m → value_of values a ≡ value_of values b
      at_part d m (Dynamic k) bs taps (c, g, z, y) WithPrecharge u q n e r = by_cell d m k c g u q (rw (z, y) at n) e r
      at_part d m part bs taps w WithKeeper u q n e r = by_stage d m part bs taps (part_stage part bs taps w WithKeeper u (λ z. cc)) q n e r
      at_part d m (Output k) bs taps w style u q n e r = by_stage d m (Output k) bs taps (part_stage (Output k) bs taps w style u (λ z j. λ x. cc)) q n e r
      at_part d m (Complement l) bs taps w style u q n e r = by_stage d m (Complement l) bs taps (part_stage (Complement l) bs taps w style u (λ z j. λ x. cc)) q n e r
      at_part d m (Master j) bs taps w style u q n e r = by_stage d m (Master j) bs taps (part_stage (Master j) bs taps w style u (λ z j. λ x. cc)) q n e r
      at_part d m (Slave j) bs taps w style u q n e r = by_stage d m (Slave j) bs taps (part_stage (Slave j) bs taps w style u (λ z j. λ x. cc)) q n e r
      at_part d m (Next j) bs taps w style u q n e r = by_stage d m (Next j) bs taps (part_stage (Next j) bs taps w style u (λ z j. λ x. cc)) q n e r
      at_part d m (Sink i) bs taps w style u q n e r = by_stage d m (Sink i) bs taps (part_stage (Sink i) bs taps w style u (λ z j. λ x. cc)) q n e r

      first : Reach (IsStrongStep devices is_not_zero values) is_source a b → value_of values a ≡ value_of values b
      first (last {d = d} q e) = let t = deck.whole d q.of in at_part d b t.0 t.1 t.2 t.3 s.style refl q t.4 e (inl refl)
      first (step {d = d} {m = m} q e n r) = let t = deck.whole d q.of in at_part d m t.0 t.1 t.2 t.3 s.style refl q t.4 e (inr (n, r))
