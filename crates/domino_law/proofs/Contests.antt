-- In an honest state each contest is overpowered, and at rest there is none.
use Rattle.std.specs.List.{AllByRecursion}
use Rattle.std.specs.Prelude.{Contains, ◌≢◌}
use Rattle.std.proofs.Common.{Bool, List, [], false, inl, inr, length, map, refl, sym, true, ℕ, ◌+◌, ◌<◌, ◌∙◌, ◌∷◌, ◌≡◌, ap}
use Rattle.dom_base.specs.Conduction.{conduction}
use Rattle.dom_base.specs.declared.kind.Kind.TheVariants.{Keep, N as nch, P as pch}
use Rattle.dom_base.specs.declared.tri.Tri.{Tri}
use Rattle.dom_base.specs.declared.tri.Tri.TheVariants.{One, Unknown, Zero}
use Rattle.dom_base.proofs.Lists.{AllByRecursion-contains, AllByRecursion-map, AllByRecursion-weaker, Contains-slice_get}
use Rattle.deck.specs.Paths.{DefiniteStrong, Ends, IsStrong, IsWeak, Path, more, one}
use Rattle.deck.specs.Switches.{IsNotOff, value_of}
use Rattle.deck.specs.declared.device.Device.{Device}
use Rattle.deck.specs.NamedDevices.{device_of}
use Rattle.deck.proofs.Reach.{strong_each}
use Rattle.sp_network.specs.Known.{IsKnown}
use Rattle.sp_network.specs.Tree.{both, tree_conduction, Leaf, Tree}
use Rattle.sp_network.proofs.TreeImages.{tree_conduction-map_tree}
use Rattle.domino_cell.specs.Stage.{Branch, Inside, Spot, Top, stage}
use Rattle.domino_cell.proofs.Stages.{each_branch}
use Rattle.domino_cell.proofs.Trees.{spell-kind}
use Rattle.switch_model.specs.Targets.{IsAtRest}
use Rattle.stage_law.proofs.Backwards.{AllByRecursion-backwards, AllByRecursion-forwards, IsWeak-backwards, Path-reverse}
use Rattle.domino_cell.specs.Tapped.{Tap, tapped, ways}
use Rattle.stage_law.proofs.TappedTargets.{any_through as tapped_any}
use Rattle.port_runs.specs.Environment.{Place}
use Rattle.domino_law.specs.Branches.{HasBranches, clocked, dynamic, dynamic_taps, master, numbered, reset_branch, slave, static_branches}
use Rattle.domino_law.specs.Honest.{IsHonest}
use Rattle.domino_law.specs.Joins.{IsContest, IsOverpowered}
use Rattle.domino_law.specs.LooseDeck.{HoldsDeck, IsSourceNet, IsSpotOf}
use Rattle.domino_law.specs.Nets.{At, Clock, Complement, Dynamic, Ls, Lsb, Master, Net, Next, Output, Part, Sink, Slave, Vdd, Vss, gate_net, own, CellSide}
use Rattle.domino_law.specs.Shape.{Shape, DynamicStage, IsSideAt, dynamic_nets, gate_tree}
use Rattle.domino_cell.specs.declared.style.Style.{Style}
use Rattle.domino_cell.specs.declared.style.Style.TheVariants.{Keeper as WithKeeper, Precharge as WithPrecharge}
use Rattle.domino_law.proofs.DynamicDevices.{dynamic_devices, untap_as}
use Rattle.domino_law.proofs.Ways.{other_ways}
use Rattle.domino_law.proofs.DeckParts.{clock-known, dynamic_is, gate-known, known_tree, output-known, part-free, zero_or_one}
use Rattle.domino_law.proofs.Parts.{pulled_clock, pulled_conducts, pulls, evaluates}
use Rattle.domino_law.proofs.Rests.{rest_output, rest_at}
use Rattle.domino_law.specs.Places.{ClockState}
use Rattle.dom_base.specs.Tri.{opposite}
use Rattle.domino_law.proofs.Statics.{side_zero}

abbrev keeper_of : (Net → ℕ) → CellSide → Device
keeper_of net k = record { kind = Keep; drain = net (At (Dynamic k) Top); gate = net (At (Output k.cell) Top); source = net Vdd }

no_keeper : (at : Spot → ℕ) (bs : List Branch) → AllByRecursion (λ b. b.kind ≢ Keep) bs → (d : Device) → Contains (map device_of (stage at 0 bs)) d → d.kind ≡ Keep → ⊥
no_keeper at bs h d c k =
    AllByRecursion-contains (λ d. d.kind ≢ Keep) (map device_of (stage at 0 bs)) d
    (AllByRecursion-map (λ d. d.kind ≢ Keep) device_of (stage at 0 bs)
    (each_branch (λ d. d.kind ≢ Keep) at 0 bs (λ i b e. AllByRecursion-weaker _ (λ d. d.kind ≢ Keep) (λ f z y. other b (Contains-slice_get bs i b e) (sym z ∙ y)) _
    (spell-kind b.kind (λ j. at (Inside (0 + i) j)) b.tree (at Top) b.supply 0)))) c k
  where
    other : (b : Branch) → Contains bs b → b.kind ≡ Keep → ⊥
    other b m z = AllByRecursion-contains (λ b. b.kind ≢ Keep) bs b h m z

dynamic_keeper : (net : Net → ℕ) (style : Style) (k : CellSide) (c : DynamicStage) (d : Device) → Contains (map device_of (tapped (λ a. net (At (Dynamic k) a)) (dynamic style net k c) (dynamic_taps style net c))) d → d.kind ≡ Keep → (d ≡ keeper_of net k) × (style ≡ WithKeeper)
dynamic_keeper net style k c d m z =
    dynamic_devices net (λ d. d.kind ≡ Keep → (d ≡ keeper_of net k) × (style ≡ WithKeeper)) style (λ a. net (At (Dynamic k) a)) k c
    (λ d y w. absurd (nch_keep (sym y ∙ w))) (λ a i w. absurd (pch_keep w)) (λ y w. (refl, y)) d m z
  where
    pch_keep : pch ≡ Keep → ⊥
    pch_keep y = cc

    nch_keep : nch ≡ Keep → ⊥
    nch_keep y = cc

-- a keeper is a cell's
IsKeeper : (Net → ℕ) → Shape → Device → Type 0
IsKeeper net s d = (k : CellSide) × (c : DynamicStage) × (IsSideAt s k c) × (d ≡ keeper_of net k) × (s.style ≡ WithKeeper)

keeper_is : {devices : List Device} {is_source : ℕ → Bool} {net : Net → ℕ} {s : Shape} → HoldsDeck devices is_source net s → (d : Device) → Contains devices d → d.kind ≡ Keep → IsKeeper net s d
unfolding IsKeeper
keeper_is {devices} {is_source} {net} {s} deck d m z = go (deck.whole d m)
  where
    inv : (part : Part) (t : Tree Net) → Contains (map device_of (stage (λ a. net (At part a)) 0 (static_branches net t))) d → IsKeeper net s d
    inv part t c = absurd (no_keeper (λ a. net (At part a)) (static_branches net t) ((λ e. cc), ((λ e. cc), tt)) d c z)

    slv : (j : ℕ) (b : Bool) → Contains (map device_of (stage (λ a. net (At (Slave j) a)) 0 (clocked net Lsb Ls (At (Master j) Top) (reset_branch net b ∷ [])))) d → IsKeeper net s d
    slv j false m = absurd (no_keeper (λ a. net (At (Slave j) a)) (clocked net Lsb Ls (At (Master j) Top) (reset_branch net false ∷ [])) ((λ e. cc), ((λ e. cc), ((λ e. cc), tt))) d m z)
    slv j true m = absurd (no_keeper (λ a. net (At (Slave j) a)) (clocked net Lsb Ls (At (Master j) Top) (reset_branch net true ∷ [])) ((λ e. cc), ((λ e. cc), ((λ e. cc), tt))) d m z)

    go : (part : Part) × (bs : List Branch) × (taps : List Tap) × HasBranches s net part bs taps × Contains (map device_of (tapped (λ a. net (At part a)) bs taps)) d → IsKeeper net s d
    go (Dynamic k, bs, taps, (c, e, y, w), m) = let x = dynamic_keeper net s.style k c d (rw (y, w) at m) z in (k, c, e, x.0, x.1)
    go (Output k, bs, taps, (c, e, y, w), m) = inv (Output k) (dynamic_nets k c.right) (untap_as (λ a. net (At (Output k) a)) bs (static_branches net (dynamic_nets k c.right)) taps d y w m)
    go (Complement l, bs, taps, (e, y, w), m) = inv (Complement l) (Leaf (own l)) (untap_as (λ a. net (At (Complement l) a)) bs (static_branches net (Leaf (own l))) taps d y w m)
    go (Master j, bs, taps, (b, e, y, w), m) = absurd (no_keeper (λ a. net (At (Master j) a)) (master net j) ((λ e. cc), ((λ e. cc), tt)) d (untap_as (λ a. net (At (Master j) a)) bs (master net j) taps d y w m) z)
    go (Slave j, bs, taps, (b, e, y, w), m) = slv j b.init (untap_as (λ a. net (At (Slave j) a)) bs (slave net j b) taps d y w m)
    go (Next j, bs, taps, (b, e, y, w), m) = inv (Next j) (gate_tree s b.next) (untap_as (λ a. net (At (Next j) a)) bs (static_branches net (gate_tree s b.next)) taps d y w m)
    go (Sink i, bs, taps, (g, e, y, w), m) = inv (Sink i) (gate_tree s g) (untap_as (λ a. net (At (Sink i) a)) bs (static_branches net (gate_tree s g)) taps d y w m)

both_open : (a b : Tri) → both a b ≢ Zero → (a ≢ Zero) × (b ≢ Zero)
both_open Zero b h = absurd (h refl)
both_open One b h = ((λ e. cc), h)
both_open Unknown Zero h = absurd (h refl)
both_open Unknown One h = ((λ e. cc), (λ e. cc))
both_open Unknown Unknown h = ((λ e. cc), (λ e. cc))

known_one : (v : Tri) → IsKnown v → v ≢ Zero → v ≡ One
known_one v (inl e) h = absurd (h e)
known_one v (inr e) h = e

-- in a deck
module _ {devices : List Device} {is_source : ℕ → Bool} {net : Net → ℕ} {s : Shape} (deck : HoldsDeck devices is_source net s) where
  -- a path with a keeper from a net that is no source ends at vdd
  ends_high : {x y : ℕ} {p : List Device} → is_source x ≡ false → Path is_source x p y → AllByRecursion (Contains devices) p → IsWeak p → y ≡ net Vdd
  unfolding IsKeeper
  ends_high {x} {y} f (one {d = d} e) c (inl k) = at_keeper (keeper_is deck d c.0 k) e
    where
      at_keeper : IsKeeper net s d → Ends d x y → y ≡ net Vdd
      at_keeper t (inl w) = sym w.1 ∙ (rw t.3 refl)
      at_keeper t (inr w) =
          let z : net Vdd ≡ x = sym (rw t.3 refl) ∙ w.0 in
          let g : is_source x ≡ true = rw (← z) (deck.sources Vdd tt) in absurd (cc)
  ends_high f (one e) c (inr k) = absurd k
  ends_high {x} {y} f (more {d = d} {m = m} e n r) c (inl k) = absurd (at_keeper (keeper_is deck d c.0 k) e)
    where
      no : (u : ℕ) → is_source u ≡ false → net Vdd ≡ u → ⊥
      no u a z = let g : is_source u ≡ true = rw (← z) (deck.sources Vdd tt) in cc

      source_of : (t : IsKeeper net s d) → d.source ≡ net Vdd
      source_of t = rw t.3 refl

      at_keeper : IsKeeper net s d → Ends d x m → ⊥
      at_keeper t (inl w) = no m n (sym (source_of t) ∙ w.1)
      at_keeper t (inr w) = no x f (sym (source_of t) ∙ w.0)
  ends_high f (more e n r) c (inr k) = ends_high n r c.1 k

  supplies_differ : net Vdd ≡ net Vss → ⊥
  supplies_differ z = let y : Vdd ≡ Vss = deck.apart Vdd Vss tt tt z in cc

  no_dynamic : (a : Net) → IsSourceNet s a → (k : CellSide) (c : DynamicStage) → IsSideAt s k c → net (At (Dynamic k) Top) ≡ net a → ⊥
  no_dynamic a i k c e z = no (is_source (net a)) (deck.sources a i) (rw z at (part-free deck (Dynamic k) (c, e)))
    where
      no : (b : Bool) → b ≡ true → b ≡ false → ⊥
      no b x y = cc

module _ {devices : List Device} {is_source : ℕ → Bool} {net : Net → ℕ} {s : Shape} (deck : HoldsDeck devices is_source net s)
    {place : Place} {up : ℕ → ClockState} {old new pins : ℕ → Bool} {kept : ℕ → Tri} {values : List Tri} (h : IsHonest devices is_source net s place up old new pins kept values) where
  -- the keeper of cell k is overpowered
  pub record IsPulled (k : CellSide) : Type 0 where
    pub low_gate : value_of values (net (At (Output k.cell) Top)) ≡ Zero
    pub pulled : DefiniteStrong devices is_source values (net (At (Dynamic k) Top)) (net Vss)

  pulled_where_open : (k : CellSide) (c : DynamicStage) → IsSideAt s k c → conduction Keep (value_of values (net (At (Output k.cell) Top))) ≢ Zero
      → (p : List Device) → Path is_source (net (At (Dynamic k) Top)) p (net Vss) → AllByRecursion (Contains devices) p → AllByRecursion (IsNotOff values) p → IsPulled k
  pulled_where_open k c e o p r m n =
      record {
        low_gate = elim (output-known deck h k.cell e.0 e.1) [ inl z ↦ z | inr z ↦ absurd (o (rw z refl)) ];
        pulled = pulls devices is_source net values (h.frame.sources Vdd tt) (h.frame.sources Vss tt) s.style (λ a. net (At (Dynamic k) a)) k c (dynamic_is deck k c e)
            (known_one _ (clock-known deck h.frame k c e) opened.1)
            (known_one _ (known_tree deck h k c e) (λ z. opened.0 (tree_conduction-map_tree nch (value_of values) (λ g. net (gate_net g)) c.tree ∙ z)));
      }
    where
      opened : (tree_conduction nch (value_of values) (numbered net c.tree) ≢ Zero) × (value_of values (net (Clock c.clock)) ≢ Zero)
      opened =
          let t = tapped_any devices is_source (λ a. net (At (Dynamic k) a)) (dynamic s.style net k c) (dynamic_taps s.style net c) (dynamic_is deck k c e) values (net Vss) p r m n (deck.sources Vss tt) in
          AllByRecursion-contains (λ b. net Vss ≡ b.supply → tree_conduction b.kind (value_of values) b.tree ≢ Zero → (tree_conduction nch (value_of values) (numbered net c.tree) ≢ Zero) × (value_of values (net (Clock c.clock)) ≢ Zero)) (ways (dynamic s.style net k c) (dynamic_taps s.style net c)) t.0
          ((λ z y. both_open _ _ y), ((λ z y. absurd (supplies_differ deck (sym z))), other_ways net _ s.style k c (λ z y. absurd (supplies_differ deck (sym z))) (λ z y. absurd (supplies_differ deck (sym z))))) t.1 t.2 t.3

  -- a possible weak path from vdd to vss begins with a keeper that is overpowered, and has no other
  Overpowered : Device → Type 0
  Overpowered d = d.kind ≡ Keep → (value_of values d.gate ≡ Zero) × DefiniteStrong devices is_source values d.drain (net Vss)

  from_vdd : {x y : ℕ} {p : List Device} → x ≡ net Vdd → y ≡ net Vss → Path is_source x p y → AllByRecursion (Contains devices) p → AllByRecursion (IsNotOff values) p → IsWeak p
      → ((k : CellSide) × (c : DynamicStage) × IsSideAt s k c × IsPulled k) × AllByRecursion Overpowered p
  unfolding IsKeeper Overpowered
  from_vdd {x} {y} a b (one {d = d} e) m n (inl k) = absurd (at_keeper (keeper_is deck d m.0 k) e)
    where
      drain_of : (t : IsKeeper net s d) → d.drain ≡ net (At (Dynamic t.0) Top)
      drain_of t = rw t.3 refl

      at_keeper : IsKeeper net s d → Ends d x y → ⊥
      at_keeper t (inl w) = no_dynamic deck Vdd tt t.0 t.1 t.2 (sym (drain_of t) ∙ (w.0 ∙ a))
      at_keeper t (inr w) = no_dynamic deck Vss tt t.0 t.1 t.2 (sym (drain_of t) ∙ (w.1 ∙ b))
  from_vdd a b (one e) m n (inr k) = absurd k
  from_vdd {x} {y} a b (more {d = d} {ds = ds} {m = mid} e nn r) m n (inl k) = at_keeper (keeper_is deck d m.0 k) e
    where
      drain_of : (t : IsKeeper net s d) → d.drain ≡ net (At (Dynamic t.0) Top)
      drain_of t = rw t.3 refl

      gate_of : (t : IsKeeper net s d) → d.gate ≡ net (At (Output (t.0).cell) Top)
      gate_of t = rw t.3 refl

      open_of : (t : IsKeeper net s d) → conduction Keep (value_of values (net (At (Output (t.0).cell) Top))) ≢ Zero
      open_of t = rw t.3 at n.0

      strong : IsStrong ds
      strong w = supplies_differ deck (sym (ends_high deck nn r m.1 w) ∙ b)

      at_keeper : IsKeeper net s d → Ends d x mid → ((k : CellSide) × (c : DynamicStage) × IsSideAt s k c × IsPulled k) × AllByRecursion Overpowered (d ∷ ds)
      at_keeper t (inl w) = absurd (no_dynamic deck Vdd tt t.0 t.1 t.2 (sym (drain_of t) ∙ (w.0 ∙ a)))
      at_keeper t (inr w) =
          let z : mid ≡ net (At (Dynamic t.0) Top) = sym w.1 ∙ drain_of t in
          let q : Path is_source (net (At (Dynamic t.0) Top)) ds (net Vss) = rw (← z, ← b) r in
          let u = pulled_where_open t.0 t.1 t.2 (open_of t) ds q m.1 n.1 in (
            (t.0, t.1, t.2, u),
            (
              (λ y. (rw (gate_of t) u.low_gate, rw (drain_of t) u.pulled)),
              AllByRecursion-weaker _ Overpowered (λ f ne y. absurd (ne y)) ds (strong_each ds strong),
            ),
          )
  from_vdd a b (more e nn r) m n (inr k) = absurd (supplies_differ deck (sym (ends_high deck nn r m.1 k) ∙ b))

  -- a contest, in either direction
  pub contest : (p : List Device) → IsContest devices is_source values (net Vdd) (net Vss) p
      → ((k : CellSide) × (c : DynamicStage) × IsSideAt s k c × IsPulled k) × IsOverpowered devices is_source values (net Vss) p
  unfolding Overpowered
  contest p t = elim t.0 [
    | inl r ↦ from_vdd refl refl r t.1 t.2 t.3
    | inr r ↦
        let k = from_vdd refl refl (Path-reverse r) (AllByRecursion-backwards (Contains devices) p t.1) (AllByRecursion-backwards (IsNotOff values) p t.2) (IsWeak-backwards p t.3) in
        (k.0, AllByRecursion-forwards (λ d. d.kind ≡ Keep → (value_of values d.gate ≡ Zero) × DefiniteStrong devices is_source values d.drain (net Vss)) p k.1)
  ]

  -- at rest an output is the opposite of its dynamic net, and so there is none
  pub no_contest : IsAtRest devices is_source values → ((part : Part) (a : Spot) → IsSpotOf s part a → net (At part a) < length values)
      → (p : List Device) → IsContest devices is_source values (net Vdd) (net Vss) p → ⊥
  no_contest rest range p t =
      let u = contest p t in by u.0.0 u.0.1 u.0.2 u.0.3
    where
      by : (k : CellSide) (c : DynamicStage) → IsSideAt s k c → IsPulled k → ⊥
      by k c e u =
          let conducts = pulled_conducts devices is_source net values (h.frame.sources Vdd tt) (h.frame.sources Vss tt) s.style (λ a. net (At (Dynamic k) a)) k c (dynamic_is deck k c e) (deck.sources Vss tt) u.pulled in
          let on = pulled_clock devices is_source net values (h.frame.sources Vdd tt) (h.frame.sources Vss tt) s.style (λ a. net (At (Dynamic k) a)) k c (dynamic_is deck k c e) (deck.sources Vss tt) u.pulled in
          let low : value_of values (net (At (Dynamic k) Top)) ≡ Zero = rest_at deck values rest range (Dynamic k) (c, e) Zero
          (evaluates devices is_source net values (h.frame.sources Vdd tt) (h.frame.sources Vss tt) s.style (λ a. net (At (Dynamic k) a)) k c (dynamic_is deck k c e) on conducts) in
          let series = side_zero (λ a. value_of values (net a)) k.cell e.0 k.side c e.2 low in
          let high : value_of values (net (At (Output k.cell) Top)) ≡ One = rest_output deck h.frame rest range (gate-known deck h) k.cell e.0 e.1 ∙ ap opposite series in
          zero_or_one (sym u.low_gate ∙ high)

-- in the style with precharge there is no keeper, and so no contest
pub never_contest : {devices : List Device} {is_source : ℕ → Bool} {net : Net → ℕ} {s : Shape} → HoldsDeck devices is_source net s → (values : List Tri) → s.style ≡ WithPrecharge
    → (p : List Device) → IsContest devices is_source values (net Vdd) (net Vss) p → ⊥
unfolding IsKeeper
never_contest {devices} {is_source} {net} {s} deck values u p t = weak p t.1 t.3
  where
    no : (style : Style) → style ≡ WithPrecharge → style ≡ WithKeeper → ⊥
    no WithKeeper a b = cc
    no WithPrecharge a b = cc

    weak : (p : List Device) → AllByRecursion (Contains devices) p → IsWeak p → ⊥
    weak [] m w = w
    weak (d ∷ ds) m (inl k) = no s.style u (keeper_is deck d m.0 k).4
    weak (d ∷ ds) m (inr w) = weak ds m.1 w
