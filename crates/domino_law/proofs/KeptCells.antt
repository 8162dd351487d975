-- What a cell with a keeper keeps while its leaves fall: its discharged dynamic net shares its charge with nets at 0 alone.
use Rattle.std.specs.List.{AllByRecursion}
use Rattle.std.specs.Prelude.{Contains, ◌⊎◌}
use Rattle.std.proofs.Common.{Bool, List, [], arith, false, inl, inr, length, map, refl, sym, true, ℕ, ◌<◌, ◌∙◌, ◌≡◌}
use Rattle.std.proofs.lemmas.List.Elements.{recursion_from_All}
use Rattle.dom_base.specs.Conduction.{conduction}
use Rattle.dom_base.specs.declared.kind.Kind.TheVariants.{Keep, N as nch, P as pch}
use Rattle.dom_base.specs.declared.tri.Tri.{Tri}
use Rattle.dom_base.specs.declared.tri.Tri.TheVariants.{One, Zero}
use Rattle.dom_base.proofs.Decided.{dec_tri}
use Rattle.dom_base.proofs.Lists.{AllByRecursion-append, AllByRecursion-both, AllByRecursion-contains, AllByRecursion-map, AllByRecursion-weaker}
use Rattle.deck.specs.NamedDevices.{device_of}
use Rattle.deck.specs.Paths.{DefiniteStrong, Ends, Possible, PossibleStrong}
use Rattle.deck.specs.Reach.{Reach, last, step}
use Rattle.deck.specs.Switches.{IsNotOff, value_of}
use Rattle.deck.specs.declared.device.Device.{Device}
use Rattle.deck.proofs.Reach.{Reach-trans, Reach-weaker, path_from_Reach}
use Rattle.sp_network.specs.Known.{IsKnown, is_not_zero, is_one}
use Rattle.sp_network.specs.Tree.{EachLeaf, Leaf, Series, inner_count, Parallel, Tree}
use Rattle.sp_network.proofs.TreeTests.{is_not_zero-true}
use Rattle.domino_cell.specs.Spelling.{spell}
use Rattle.domino_cell.specs.Stage.{Inside, IsSpot, Spot, Top, stage}
use Rattle.domino_cell.specs.Steps.{IsStep, IsStrongStep}
use Rattle.domino_cell.specs.TreeColours.{IsIn}
use Rattle.domino_cell.proofs.Paths.{Reach-from_any, Reach-from_definite, Reach-from_possible, definite_from_Reach}
use Rattle.domino_cell.proofs.Trees.{spell-ends, spell-kind}
use Rattle.switch_model.specs.Targets.{IsAtRest, IsTarget, Pulls}
use Rattle.switch_model.proofs.Targets.{definite-possible_strong, definite-possible_weak}
use Rattle.domino_cell.specs.Tapped.{IsTapped, tap_card, tapped, ways}
use Rattle.stage_law.proofs.Between.{Reach-reverse}
use Rattle.stage_law.proofs.GateCards.{spell-gates}
use Rattle.domino_law.specs.Branches.{dynamic, numbered}
use Rattle.domino_law.specs.Nets.{At, CellSide, Clock, Net, Output, Vdd, Vss, gate_net, Gate}
use Rattle.domino_law.specs.Shape.{DynamicStage}
use Rattle.domino_cell.specs.declared.style.Style.TheVariants.{Keeper as WithKeeper}
use Rattle.domino_law.proofs.Leaves.{EachLeaf-map}

-- a path of devices that aren't off, with its list
pub any_from_Reach : (devices : List Device) (is_source : ℕ → Bool) (values : List Tri) (a b : ℕ)
    → Reach (IsStep devices is_not_zero values) is_source a b → Possible devices is_source values a b
any_from_Reach devices is_source values a b r =
    let h = path_from_Reach _ is_source r in (
      h.0,
      h.1,
      AllByRecursion-weaker _ (Contains devices) (λ d k. k.of) h.0 h.2,
      AllByRecursion-weaker _ (IsNotOff values) (λ d k. is_not_zero-true _ k.pass) h.0 h.2,
    )

nch_no_keep : nch ≡ Keep → ⊥
nch_no_keep e = cc

-- a net at 0 all of whose possible paths are definite and strong, and lead to nets at 0, goes to 0
module _ (devices : List Device) (is_source : ℕ → Bool) (values : List Tri) (x : ℕ) (here : value_of values x ≡ Zero)
    (zero : (y : ℕ) → Reach (IsStep devices is_not_zero values) is_source x y → value_of values y ≡ Zero)
    (sure : (y : ℕ) → Reach (IsStep devices is_not_zero values) is_source x y → Reach (IsStrongStep devices is_one values) is_source x y) where
  strong_step : (d : Device) → IsStrongStep devices is_not_zero values d → IsStep devices is_not_zero values d
  strong_step d q = record { of = q.of; pass = q.pass }

  pulls : (y : ℕ) → Reach (IsStep devices is_not_zero values) is_source x y → is_source y ≡ true
      → Pulls (DefiniteStrong devices is_source values x) (PossibleStrong devices is_source values x) is_source values Zero
  pulls y r s = (
    (y, definite_from_Reach devices is_source values x y (sure y r), s, zero y r),
    (λ z p q. zero z (Reach-weaker strong_step (Reach-from_possible devices is_source values x z p))),
  )

  pub stays_zero : (v : Tri) → IsTarget devices is_source values x v → v ≡ Zero
  stays_zero v (inl ((s, d, q, e), all)) =
      sym e ∙ zero s (Reach-weaker strong_step (Reach-from_possible devices is_source values x s (definite-possible_strong devices is_source values x s d)))
  stays_zero v (inr (not1, inl ((s, d, q), e))) =
      absurd (not1 Zero (pulls s (Reach-weaker strong_step (Reach-from_possible devices is_source values x s d)) q))
  stays_zero v (inr (not1, inr (not2, inl ((s, d, q, e), all)))) =
      let w = definite-possible_weak devices is_source values x s d in
      sym e ∙ zero s (Reach-from_any devices is_source values x s (w.0, w.1, w.2, w.3))
  stays_zero v (inr (not1, inr (not2, inr (not3, inl ((s, d, q), e))))) =
      absurd (not1 Zero (pulls s (Reach-from_any devices is_source values x s (d.0, d.1, d.2, d.3)) q))
  stays_zero v (inr (not1, inr (not2, inr (not3, inr (not4, inl h))))) = h.1 ∙ here
  stays_zero v (inr (not1, inr (not2, inr (not3, inr (not4, inr (not5, u)))))) =
      absurd (not5 (value_of values x) ((λ m h. zero m (Reach-from_any devices is_source values x m h) ∙ sym here), refl))

module _ (devices : List Device) (is_source : ℕ → Bool) (net : Net → ℕ) (at : Spot → ℕ) (k : CellSide) (c : DynamicStage)
    (is : IsTapped devices is_source at (dynamic WithKeeper net k c) []) where
  abbrev pub IsCellNet : ℕ → Type 0
  IsCellNet x = (a : Spot) × IsSpot (dynamic WithKeeper net k c) a × (x ≡ at a)

  abbrev IsEnd : ℕ → Type 0
  IsEnd x = IsCellNet x ⊎ (x ≡ net Vss)

  -- a device of the tree or the foot, whose gate has G; the precharge; the keeper
  abbrev IsPull : (ℕ → Type 0) → Device → Type 0
  IsPull G d = (d.kind ≡ nch) × G d.gate × IsEnd d.drain × IsEnd d.source

  abbrev IsUp : Device → Type 0
  IsUp d = ((d.kind ≡ pch) × (d.gate ≡ net (Clock c.clock))) ⊎ ((d.kind ≡ Keep) × (d.gate ≡ net (At (Output k.cell) Top)))

  abbrev IsOf : (ℕ → Type 0) → Device → Type 0
  IsOf G d = IsPull G d ⊎ (IsUp d × IsCellNet d.drain × (d.source ≡ net Vdd))

  vss_source : is_source (net Vss) ≡ true
  vss_source = (recursion_from_All (λ b. is_source b.supply ≡ true) (ways (dynamic WithKeeper net k c) []) is.supplies).0

  vdd_source : is_source (net Vdd) ≡ true
  vdd_source = (recursion_from_All (λ b. is_source b.supply ≡ true) (ways (dynamic WithKeeper net k c) []) is.supplies).1.0

  -- the gates of the tree and of the foot have G
  module _ (G : ℕ → Type 0) (leaves : EachLeaf (λ g. G (net (gate_net g))) c.tree) (foot : G (net (Clock c.clock))) where
    device_is : (d : Device) → Contains (map device_of (tapped at (dynamic WithKeeper net k c) [])) d → IsOf G d
    device_is d m =
        AllByRecursion-contains (IsOf G) (map device_of (tapped at (dynamic WithKeeper net k c) [])) d
        (AllByRecursion-map (IsOf G) device_of (tapped at (dynamic WithKeeper net k c) [])
        (AllByRecursion-append (λ c. IsOf G (device_of c)) (stage at 0 (dynamic WithKeeper net k c)) (map (tap_card at) [])
        (AllByRecursion-append (λ c. IsOf G (device_of c)) (spell nch (λ j. at (Inside 0 j)) (Series (numbered net c.tree) (Leaf (net (Clock c.clock)))) (at Top) (net Vss) 0) _
        tree (inr (inl (refl, refl), (Top, tt, refl), refl), (inr (inr (refl, refl), (Top, tt, refl), refl), tt))) tt)) m
      where
        end : (x : ℕ) → IsIn (λ j. at (Inside 0 j)) (at Top) (net Vss) 0 (inner_count (Series (numbered net c.tree) (Leaf (net (Clock c.clock))))) x → IsEnd x
        end x (inl e) = inl (Top, tt, e)
        end x (inr (inl e)) = inr e
        end x (inr (inr (j, a, b, e))) =
            inl (Inside 0 j, (record { kind = nch; tree = Series (numbered net c.tree) (Leaf (net (Clock c.clock))); supply = net Vss }, refl, omega (arith, b)), e)

        tree : AllByRecursion (λ c. IsOf G (device_of c)) (spell nch (λ j. at (Inside 0 j)) (Series (numbered net c.tree) (Leaf (net (Clock c.clock)))) (at Top) (net Vss) 0)
        tree =
            AllByRecursion-weaker _ (λ c. IsOf G (device_of c)) (λ c q. inl (q.0.0, q.0.1, end c.drain q.1.0, end c.source q.1.1)) _
            (AllByRecursion-both _ _ _ (AllByRecursion-both _ _ _ (spell-kind nch (λ j. at (Inside 0 j)) (Series (numbered net c.tree) (Leaf (net (Clock c.clock)))) (at Top) (net Vss) 0)
            (spell-gates G nch (λ j. at (Inside 0 j)) (Series (numbered net c.tree) (Leaf (net (Clock c.clock)))) (at Top) (net Vss) 0 (EachLeaf-map G (λ g. net (gate_net g)) c.tree leaves, foot)))
            (spell-ends nch (λ j. at (Inside 0 j)) (Series (numbered net c.tree) (Leaf (net (Clock c.clock)))) (at Top) (net Vss) 0))

    mine : (d : Device) (x y : ℕ) → IsCellNet x → Contains devices d → Ends d x y → IsOf G d
    mine d x y n m (inl w) = device_is d (is.alone d n.0 n.1 m (inl (w.0 ∙ n.2)))
    mine d x y n m (inr w) = device_is d (is.alone d n.0 n.1 m (inr (w.0 ∙ n.2)))

    no_source : (x : ℕ) → IsCellNet x → is_source x ≡ true → ⊥
    no_source x n s = let f : is_source x ≡ false = rw n.2 (is.free n.0 n.1) in cc

    -- the other end is a net of the cell or a source
    other_end : (d : Device) (x y : ℕ) → IsOf G d → Ends d x y → is_source y ≡ false → IsCellNet y
    other_end d x y p e f = go p e
      where
        end : (m : ℕ) → m ≡ y → IsEnd m → IsCellNet y
        end m w (inl n) = rw (← w) n
        end m w (inr z) = let s : is_source y ≡ true = rw (sym w ∙ z) vss_source in absurd (cc)

        go : IsOf G d → Ends d x y → IsCellNet y
        go (inl q) (inl w) = end d.source w.1 q.3
        go (inl q) (inr w) = end d.drain w.1 q.2
        go (inr q) (inl w) = let s : is_source y ≡ true = rw (sym w.1 ∙ q.2) vdd_source in absurd (cc)
        go (inr q) (inr w) = end d.drain w.1 (inl q.1)

    -- a path that begins in the cell stays in it up to a source
    pub within : (Q : Device → Type 0) → ((d : Device) → Q d → Contains devices d) → {x y : ℕ} → IsCellNet x → Reach Q is_source x y
        → Reach (λ d. Q d × IsOf G d) is_source x y
    within Q of {x} {y} n (last {d = d} q e) = last (q, mine d x y n (of d q) e) e
    within Q of {x} {y} n (step {d = d} {m = m} q e f r) =
        let o = mine d x m n (of d q) e in
        step (q, o) e f (within Q of (other_end d x m o e f) r)

    -- where it ends
    lands : (Q : Device → Type 0) {x y : ℕ} → Reach (λ d. Q d × IsOf G d) is_source x y → is_source y ≡ false → IsCellNet y
    lands Q {x} {y} (last {d = d} q e) f = other_end d x y q.1 e f
    lands Q (step q e g r) f = lands Q r f

  pub top_net : IsCellNet (at Top)
  top_net = (Top, tt, refl)

  -- With the clock and the output at 1 and known leaves each path is definite, and without the keeper.
  module _ (values : List Tri) (on : value_of values (net (Clock c.clock)) ≡ One) (out : value_of values (net (At (Output k.cell) Top)) ≡ One)
      (known : EachLeaf (λ g. IsKnown (value_of values (net (gate_net g)))) c.tree) where
    abbrev Is : Device → Type 0
    Is d = IsOf (λ g. IsKnown (value_of values g)) d

    on_device : (d : Device) → IsStep devices is_not_zero values d × Is d → IsStrongStep devices is_one values d
    on_device d (q, inl (e, inl z, m, n)) = absurd (is_not_zero-true (conduction d.kind (value_of values d.gate)) q.pass (rw (e, z) refl))
    on_device d (q, inl (e, inr z, m, n)) = record { of = q.of; pass = rw (e, z) refl; strong = rw e nch_no_keep }
    on_device d (q, inr (inl (e, g), n, w)) = absurd (is_not_zero-true (conduction d.kind (value_of values d.gate)) q.pass (rw (e, g, on) refl))
    on_device d (q, inr (inr (e, g), n, w)) = absurd (is_not_zero-true (conduction d.kind (value_of values d.gate)) q.pass (rw (e, g, out) refl))

    inside : {x y : ℕ} → IsCellNet x → Reach (IsStep devices is_not_zero values) is_source x y → Reach (λ d. IsStep devices is_not_zero values d × Is d) is_source x y
    inside n r = within (λ g. IsKnown (value_of values g)) known (inr on) (IsStep devices is_not_zero values) (λ d q. q.of) n r

    certain : {x y : ℕ} → IsCellNet x → Reach (IsStep devices is_not_zero values) is_source x y → Reach (IsStrongStep devices is_one values) is_source x y
    certain n r = Reach-weaker on_device (inside n r)

    -- and it leaves the cell at vss alone
    pub leaves_low : {x y : ℕ} → IsCellNet x → Reach (IsStep devices is_not_zero values) is_source x y → is_source y ≡ true → y ≡ net Vss
    leaves_low n r s = go (inside n r) s
      where
        end : (m y : ℕ) → m ≡ y → IsEnd m → is_source y ≡ true → y ≡ net Vss
        end m y w (inl u) s = absurd (no_source (λ g. IsKnown (value_of values g)) known (inr on) m u (rw w s))
        end m y w (inr z) s = sym w ∙ z

        at_end : (d : Device) (x y : ℕ) → IsStep devices is_not_zero values d → Is d → Ends d x y → is_source y ≡ true → y ≡ net Vss
        at_end d x y q (inl p) (inl w) s = end d.source y w.1 p.3 s
        at_end d x y q (inl p) (inr w) s = end d.drain y w.1 p.2 s
        at_end d x y q (inr (inl (e, g), n, z)) w s = absurd (is_not_zero-true (conduction d.kind (value_of values d.gate)) q.pass (rw (e, g, on) refl))
        at_end d x y q (inr (inr (e, g), n, z)) w s = absurd (is_not_zero-true (conduction d.kind (value_of values d.gate)) q.pass (rw (e, g, out) refl))

        go : {x y : ℕ} → Reach (λ d. IsStep devices is_not_zero values d × Is d) is_source x y → is_source y ≡ true → y ≡ net Vss
        go {x} {y} (last {d = d} q e) s = at_end d x y q.0 q.1 e s
        go (step q e f r) s = go r s

    -- a net of the cell that is the dynamic net or joined to it
    abbrev IsJoined : ℕ → Type 0
    IsJoined x = (x ≡ at Top) ⊎ ((is_source x ≡ false) × Reach (IsStep devices is_not_zero values) is_source (at Top) x)

    joined_net : (x : ℕ) → IsJoined x → IsCellNet x
    joined_net x (inl e) = rw e top_net
    joined_net x (inr r) = lands (λ g. IsKnown (value_of values g)) known (inr on) (IsStep devices is_not_zero values) (inside top_net r.1) r.0

    joined_on : (x y : ℕ) → IsJoined x → Reach (IsStep devices is_not_zero values) is_source x y → Reach (IsStep devices is_not_zero values) is_source (at Top) y
    joined_on x y (inl e) r = rw (← e) r
    joined_on x y (inr q) r = Reach-trans q.1 q.0 r

    -- where all that is joined to the dynamic net is at 0, it has no target but 0
    pub keeps_zero : value_of values (at Top) ≡ Zero → ((y : ℕ) → Possible devices is_source values (at Top) y → value_of values y ≡ Zero)
        → (x : ℕ) → IsJoined x → (v : Tri) → IsTarget devices is_source values x v → v ≡ Zero
    keeps_zero here zero x j v t =
        stays_zero devices is_source values x (at_zero j) (λ y r. zero y (any_from_Reach devices is_source values (at Top) y (joined_on x y j r)))
        (λ y r. certain (joined_net x j) r) v t
      where
        at_zero : IsJoined x → value_of values x ≡ Zero
        at_zero (inl e) = rw e here
        at_zero (inr r) = zero x (any_from_Reach devices is_source values (at Top) x r.1)

    -- at rest that is so where a definite path leads from it to ground
    pub rest_discharged : value_of values (net Vss) ≡ Zero → DefiniteStrong devices is_source values (at Top) (net Vss) → IsAtRest devices is_source values
        → ((a : Spot) → IsSpot (dynamic WithKeeper net k c) a → at a < length values)
        → (y : ℕ) → Possible devices is_source values (at Top) y → value_of values y ≡ Zero
    rest_discharged low pulled rest range y p = go (is_source y) refl
      where
        r : Reach (IsStep devices is_not_zero values) is_source (at Top) y
        r = Reach-from_any devices is_source values (at Top) y p

        -- a net that is joined to the dynamic net goes to ground through it
        ground : is_source y ≡ false → Reach (IsStrongStep devices is_one values) is_source y (net Vss)
        ground f = Reach-trans (Reach-reverse (certain top_net r)) (is.free Top tt) (Reach-from_definite devices is_source values (at Top) (net Vss) pulled)

        target : is_source y ≡ false → IsTarget devices is_source values y Zero
        target f =
            inl (
              (net Vss, definite_from_Reach devices is_source values y (net Vss) (ground f), vss_source, low),
              (λ s q e. rw (leaves_low (joined_net y (inr (f, r))) (Reach-weaker (λ d q. record { of = q.of; pass = q.pass }) (Reach-from_possible devices is_source values y s q)) e) low),
            )

        go : (b : Bool) → is_source y ≡ b → value_of values y ≡ Zero
        go true s = rw (leaves_low top_net r s) low
        go false f = elim (dec_tri (value_of values y) Zero) [
          | inl e ↦ e
          | inr ne ↦ let n = joined_net y (inr (f, r)) in absurd (rest y Zero (rw n.2 (range n.0 n.1)) (f, target f, ne))
        ]

  -- where the leaves at 0 stay at 0, and so do the clock and the output, there are no more paths than before
  pub fewer_paths : (before after : List Tri) → (value_of after (net (Clock c.clock)) ≡ value_of before (net (Clock c.clock)))
      → (value_of after (net (At (Output k.cell) Top)) ≡ value_of before (net (At (Output k.cell) Top)))
      → EachLeaf (λ g. value_of before (net (gate_net g)) ≡ Zero → value_of after (net (gate_net g)) ≡ Zero) c.tree
      → EachLeaf (λ g. IsKnown (value_of before (net (gate_net g)))) c.tree → IsKnown (value_of before (net (Clock c.clock)))
      → (y : ℕ) → Possible devices is_source after (at Top) y → Possible devices is_source before (at Top) y
  fewer_paths before after clock out leaves known clock-known y p =
      any_from_Reach devices is_source before (at Top) y
      (Reach-weaker keep (within G (both c.tree leaves known) (inl clock) (IsStep devices is_not_zero after) (λ d q. q.of) top_net (Reach-from_any devices is_source after (at Top) y p)))
    where
      G : ℕ → Type 0
      G g = (value_of after g ≡ value_of before g) ⊎ ((value_of before g ≡ Zero → value_of after g ≡ Zero) × IsKnown (value_of before g))

      both : (t : Tree Gate) → EachLeaf (λ g. value_of before (net (gate_net g)) ≡ Zero → value_of after (net (gate_net g)) ≡ Zero) t
          → EachLeaf (λ g. IsKnown (value_of before (net (gate_net g)))) t → EachLeaf (λ g. G (net (gate_net g))) t
      both (Leaf g) a b = inr (a, b)
      both (Series l r) a b = (both l a.0 b.0, both r a.1 b.1)
      both (Parallel l r) a b = (both l a.0 b.0, both r a.1 b.1)

      keep : (d : Device) → IsStep devices is_not_zero after d × IsOf G d → IsStep devices is_not_zero before d
      keep d (q, inl (e, inl z, m, n)) = record { of = q.of; pass = rw (← z) q.pass }
      keep d (q, inl (e, inr (z, inl u), m, n)) = absurd (is_not_zero-true (conduction d.kind (value_of after d.gate)) q.pass (rw (e, z u) refl))
      keep d (q, inl (e, inr (z, inr u), m, n)) = record { of = q.of; pass = rw (e, u) refl }
      keep d (q, inr (inl (e, g), n, w)) = record { of = q.of; pass = rw (g, ← clock) (rw g at q.pass) }
      keep d (q, inr (inr (e, g), n, w)) = record { of = q.of; pass = rw (g, ← out) (rw g at q.pass) }
