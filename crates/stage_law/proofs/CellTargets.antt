-- Targets of the nets of a cell that precharges its inner nets.
use Rattle.std.specs.List.{AllByRecursion}
use Rattle.std.specs.Prelude.{Contains, ◌≢◌, ◌⊎◌}
use Rattle.std.proofs.Common.{Bool, List, arith, false, inl, inr, map, refl, suc, sym, true, zero, ℕ, ◌+◌, ◌<◌, ◌∙◌, ◌≡◌}
use Rattle.std.proofs.lemmas.List.Elements.{recursion_from_All}
use Rattle.dom_base.specs.Conduction.{conduction}
use Rattle.dom_base.specs.declared.kind.Kind.TheVariants.{Keep, N as nch, P as pch}
use Rattle.dom_base.specs.declared.tri.Tri.{Tri}
use Rattle.dom_base.specs.declared.tri.Tri.TheVariants.{One, Unknown, Zero}
use Rattle.dom_base.proofs.Lists.{AllByRecursion-left, AllByRecursion-right}
use Rattle.deck.specs.Paths.{DefiniteStrong, Ends, PossibleStrong}
use Rattle.deck.specs.Switches.{value_of}
use Rattle.deck.specs.declared.device.Device.{Device}
use Rattle.deck.specs.NamedDevices.{device_of}
use Rattle.deck.specs.Reach.{Reach, last, step}
use Rattle.deck.proofs.Reach.{Reach-trans, Reach-weaker}
use Rattle.sp_network.specs.Known.{IsKnown, is_not_zero, is_one}
use Rattle.sp_network.specs.Tree.{EachLeaf, Leaf, Parallel, Series, Tree, inner_count}
use Rattle.domino_cell.specs.Stage.{Inside, IsSpot, Spot, Top, stage}
use Rattle.domino_cell.specs.Spelling.{spell}
use Rattle.domino_cell.specs.Steps.{IsStep, IsStrongStep}
use Rattle.domino_cell.proofs.Paths.{Reach-from_any, Reach-from_definite, Reach-from_possible, definite_from_Reach}
use Rattle.switch_model.specs.Targets.{IsTarget, Pulls}
use Rattle.switch_model.proofs.Targets.{definite-possible_strong, definite-possible_weak}
use Rattle.stage_law.specs.Precharged.{IsPrecharged, inner_taps, precharged, taps_from}
use Rattle.domino_cell.specs.Tapped.{IsTapped, tap_card}
use Rattle.stage_law.proofs.CellDevices.{Among, IsCellDevice, IsCellNet, device_is, inside_spot, net-free, no_source, other_end, vdd_source, vss_source, within}
use Rattle.stage_law.proofs.Between.{Ends-swap}

no_leaf : (t : Tree ℕ) → EachLeaf (λ g. Unit {0}) t
no_leaf (Leaf gate) = tt
no_leaf (Series l r) = (no_leaf l, no_leaf r)
no_leaf (Parallel l r) = (no_leaf l, no_leaf r)

passes : (v : Tri) → is_not_zero v ≡ true → v ≡ Zero → ⊥
passes Zero p z = cc
passes One p z = cc
passes Unknown p z = cc

nch_no_keep : nch ≡ Keep → ⊥
nch_no_keep e = cc

pch_no_keep : pch ≡ Keep → ⊥
pch_no_keep e = cc

module _ (devices : List Device) (is_source : ℕ → Bool) (at : Spot → ℕ) (vdd vss clock : ℕ) (t : Tree ℕ)
    (is : IsTapped devices is_source at (precharged vdd vss clock t) (inner_taps vdd clock t)) where
  abbrev IsOf : Device → Type 0
  IsOf d = Among devices is_source at vdd vss clock t is d

  abbrev IsNet : ℕ → Type 0
  IsNet x = IsCellNet devices is_source at vdd vss clock t is x

  -- where the path ends
  lands : (Q : Device → Type 0) → {x y : ℕ} → Reach (λ d. Q d × IsOf d) is_source x y → IsNet y ⊎ ((y ≡ vdd) ⊎ (y ≡ vss))
  lands Q {x} {y} (last {d = d} q e) = other_end devices is_source at vdd vss clock t is d x y q.1 e
  lands Q (step q e k r) = lands Q r

  leaves_by : (Q T : ℕ → Type 0) (R : Device → Type 0) → ((d : Device) (x y : ℕ) → R d → IsOf d → Ends d x y → is_source y ≡ true → T y)
      → {x y : ℕ} → Reach (λ d. R d × IsOf d) is_source x y → is_source y ≡ true → T y
  leaves_by Q T R f {x} {y} (last {d = d} q e) s = f d x y q.0 q.1 e s
  leaves_by Q T R f (step q e k r) s = leaves_by Q T R f r s

  -- the precharged nets and the foot net
  pub spot_cases : (a : Spot) → IsSpot (precharged vdd vss clock t) a → IsPrecharged t a ⊎ (a ≡ Inside 0 0)
  spot_cases Top i = inl tt
  spot_cases (Inside zero zero) i = inr refl
  spot_cases (Inside zero (suc j)) (b, e, l) =
      let z : b ≡ record { kind = nch; tree = Series t (Leaf clock); supply = vss } = cc in
      let l' : suc j < inner_count (Series t (Leaf clock)) = rw z at l in
      inl (refl, omega arith, omega arith)
  spot_cases (Inside (suc zero) j) (b, e, l) =
      let z : b ≡ record { kind = pch; tree = Leaf clock; supply = vdd } = cc in
      let l' : j < inner_count (Leaf clock) = rw z at l in
      absurd (omega arith)
  spot_cases (Inside (suc (suc i)) j) (b, e, l) = absurd (cc)

  pub precharged_spot : (a : Spot) → IsPrecharged t a → IsSpot (precharged vdd vss clock t) a
  precharged_spot Top p = tt
  precharged_spot (Inside i j) p = rw p.0 (inside_spot devices is_source at vdd vss clock t is j p.2)

  -- the foot, the precharge of the dynamic net and that of an inner net are there
  foot_there : Contains devices (record { kind = nch; drain = at (Inside 0 0); gate = clock; source = vss })
  foot_there =
      (AllByRecursion-right (λ c. Contains devices (device_of c)) (spell nch (λ j. at (Inside 0 j)) t (at Top) (at (Inside 0 0)) 1) _
      (AllByRecursion-left (λ c. Contains devices (device_of c)) (spell nch (λ j. at (Inside 0 j)) (Series t (Leaf clock)) (at Top) vss 0) _
      (AllByRecursion-left (λ c. Contains devices (device_of c)) (stage at 0 (precharged vdd vss clock t)) _ (recursion_from_All (λ c. Contains devices (device_of c)) _ is.there)))).0

  top_there : Contains devices (record { kind = pch; drain = at Top; gate = clock; source = vdd })
  top_there =
      (AllByRecursion-right (λ c. Contains devices (device_of c)) (spell nch (λ j. at (Inside 0 j)) (Series t (Leaf clock)) (at Top) vss 0) _
      (AllByRecursion-left (λ c. Contains devices (device_of c)) (stage at 0 (precharged vdd vss clock t)) _ (recursion_from_All (λ c. Contains devices (device_of c)) _ is.there))).0

  tap_there : (i n : ℕ) → AllByRecursion (λ c. Contains devices (device_of c)) (map (tap_card at) (taps_from vdd clock i n))
      → (j : ℕ) → i < j → j < 1 + i + n → Contains devices (record { kind = pch; drain = at (Inside 0 j); gate = clock; source = vdd })
  tap_there i zero h j a b = absurd (omega arith)
  tap_there i (suc n) h j a b = elim (first j (1 + i)) [ inl e ↦ rw e h.0 | inr e ↦ tap_there (i + 1) n h.1 j (omega arith) (omega arith) ]
    where
      first : (m k : ℕ) → (m ≡ k) ⊎ (m ≢ k)
      first zero zero = inl refl
      first zero (suc k) = inr (λ e. cc)
      first (suc m) zero = inr (λ e. cc)
      first (suc m) (suc k) = elim (first m k) [ inl e ↦ inl (rw e refl) | inr e ↦ inr (λ z. e (cc)) ]

  pub pull_there : (a : Spot) → IsPrecharged t a → Contains devices (record { kind = pch; drain = at a; gate = clock; source = vdd })
  pull_there Top p = top_there
  pull_there (Inside i j) p =
      rw p.0 (tap_there 0 (inner_count t) (AllByRecursion-right (λ c. Contains devices (device_of c)) (stage at 0 (precharged vdd vss clock t)) _ (recursion_from_All (λ c. Contains devices (device_of c)) _ is.there)) j (let q = p.1 in omega arith) (let q = p.2 in omega arith))

  module _ (values : List Tri) where
    -- with the clock at Zero a path leaves the cell at vdd alone
    pub leaves_high : value_of values clock ≡ Zero → {x y : ℕ} → IsNet x → Reach (IsStep devices is_not_zero values) is_source x y → is_source y ≡ true → y ≡ vdd
    leaves_high off n r s =
        leaves_by (λ y. y ≡ vdd) (λ y. y ≡ vdd) (IsStep devices is_not_zero values) by (within devices is_source at vdd vss clock t is (IsStep devices is_not_zero values) (λ d q. q.of) n r) s
      where
        by : (d : Device) (x y : ℕ) → IsStep devices is_not_zero values d → IsOf d → Ends d x y → is_source y ≡ true → y ≡ vdd
        by d x y q c e s = go (device_is devices is_source at vdd vss clock t is (λ g. Unit {0}) (no_leaf t) d c) e
          where
            ends : (m : ℕ) → IsNet m → m ≡ y → y ≡ vdd
            ends m k w = absurd (no_source devices is_source at vdd vss clock t is m k (rw w s))

            go : IsCellDevice devices is_source at vdd vss clock t is (λ g. Unit {0}) d → Ends d x y → y ≡ vdd
            go (inl k) (inl w) = ends d.source k.3 w.1
            go (inl k) (inr w) = ends d.drain k.2 w.1
            go (inr (inl k)) w = absurd (passes (conduction d.kind (value_of values d.gate)) q.pass (rw (k.0, k.1, off) refl))
            go (inr (inr k)) (inl w) = sym w.1 ∙ k.3
            go (inr (inr k)) (inr w) = ends d.drain k.2 w.1

    -- and with the clock at One at vss alone
    pub leaves_low : value_of values clock ≡ One → {x y : ℕ} → IsNet x → Reach (IsStep devices is_not_zero values) is_source x y → is_source y ≡ true → y ≡ vss
    leaves_low on n r s =
        leaves_by (λ y. y ≡ vss) (λ y. y ≡ vss) (IsStep devices is_not_zero values) by (within devices is_source at vdd vss clock t is (IsStep devices is_not_zero values) (λ d q. q.of) n r) s
      where
        by : (d : Device) (x y : ℕ) → IsStep devices is_not_zero values d → IsOf d → Ends d x y → is_source y ≡ true → y ≡ vss
        by d x y q c e s = go (device_is devices is_source at vdd vss clock t is (λ g. Unit {0}) (no_leaf t) d c) e
          where
            ends : (m : ℕ) → IsNet m → m ≡ y → y ≡ vss
            ends m k w = absurd (no_source devices is_source at vdd vss clock t is m k (rw w s))

            go : IsCellDevice devices is_source at vdd vss clock t is (λ g. Unit {0}) d → Ends d x y → y ≡ vss
            go (inl k) (inl w) = ends d.source k.3 w.1
            go (inl k) (inr w) = ends d.drain k.2 w.1
            go (inr (inl k)) (inl w) = sym w.1 ∙ k.3
            go (inr (inl k)) (inr w) = ends d.drain k.2 w.1
            go (inr (inr k)) w = absurd (passes (conduction d.kind (value_of values d.gate)) q.pass (rw (k.0, k.1, on) refl))

    module _ (high : value_of values vdd ≡ One) (low : value_of values vss ≡ Zero) where
      strong_step : (d : Device) → IsStrongStep devices is_not_zero values d → IsStep devices is_not_zero values d
      strong_step d q = record { of = q.of; pass = q.pass }

      -- with the clock at Zero each precharged net goes to One
      pub precharges : value_of values clock ≡ Zero → (a : Spot) → IsPrecharged t a → IsTarget devices is_source values (at a) One
      precharges off a p =
          inl (
            (
              vdd,
              definite_from_Reach devices is_source values (at a) vdd (last {d = record { kind = pch; drain = at a; gate = clock; source = vdd }} (record { of = pull_there a p; pass = rw off refl; strong = pch_no_keep }) (inl (refl, refl))),
              vdd_source devices is_source at vdd vss clock t is,
              high,
            ),
            (λ s r q. rw (leaves_high off (a, precharged_spot a p, refl) (Reach-weaker strong_step (Reach-from_possible devices is_source values (at a) s r)) q) high),
          )

      -- With the clock at One and known leaves each path is definite.
      module _ (on : value_of values clock ≡ One) (known : EachLeaf (λ g. IsKnown (value_of values g)) t) where
        abbrev pub IsPulled : ℕ → Type 0
        IsPulled x = DefiniteStrong devices is_source values x vss

        on_device : (d : Device) → IsStep devices is_not_zero values d × IsOf d → IsStrongStep devices is_one values d
        on_device d q = go (device_is devices is_source at vdd vss clock t is (λ g. IsKnown (value_of values g)) known d q.1)
          where
            go : IsCellDevice devices is_source at vdd vss clock t is (λ g. IsKnown (value_of values g)) d → IsStrongStep devices is_one values d
            go (inl (k, inl z, m, m')) = absurd (passes (conduction d.kind (value_of values d.gate)) q.0.pass (rw (k, z) refl))
            go (inl (k, inr z, m, m')) = record { of = q.0.of; pass = rw (k, z) refl; strong = rw k nch_no_keep }
            go (inr (inl (k, g, m, m'))) = record { of = q.0.of; pass = rw (k, g, on) refl; strong = rw k nch_no_keep }
            go (inr (inr (k, g, m, m'))) = absurd (passes (conduction d.kind (value_of values d.gate)) q.0.pass (rw (k, g, on) refl))

        certain : {x y : ℕ} → IsNet x → Reach (IsStep devices is_not_zero values) is_source x y → Reach (IsStrongStep devices is_one values) is_source x y
        certain n r = Reach-weaker on_device (within devices is_source at vdd vss clock t is (IsStep devices is_not_zero values) (λ d q. q.of) n r)

        -- a possible path to a source pulls the net down
        pulled_by : {x : ℕ} (s : ℕ) → IsNet x → Reach (IsStep devices is_not_zero values) is_source x s → is_source s ≡ true → IsPulled x
        pulled_by {x} s n r q = let z = leaves_low on n r q in definite_from_Reach devices is_source values x vss (certain n (rw z at r))

        pulls_down : {x : ℕ} → IsNet x → IsPulled x → Pulls (DefiniteStrong devices is_source values x) (PossibleStrong devices is_source values x) is_source values Zero
        pulls_down {x} n g = (
          (vss, g, vss_source devices is_source at vdd vss clock t is, low),
          (λ s r q. rw (leaves_low on n (Reach-weaker strong_step (Reach-from_possible devices is_source values x s r)) q) low),
        )

        pub pulled_target : (a : Spot) → IsSpot (precharged vdd vss clock t) a → IsPulled (at a) → IsTarget devices is_source values (at a) Zero
        pulled_target a i g = inl (pulls_down (a, i, refl) g)

        -- A precharged net is One, or Zero by a definite strong path to ground.
        abbrev pub IsHeld : Spot → Type 0
        IsHeld a = (value_of values (at a) ≡ One) ⊎ ((value_of values (at a) ≡ Zero) × IsPulled (at a))

        module _ (held : (a : Spot) → IsPrecharged t a → IsHeld a) where
          foot_pulled : IsPulled (at (Inside 0 0))
          foot_pulled =
              definite_from_Reach devices is_source values (at (Inside 0 0)) vss
              (last {d = record { kind = nch; drain = at (Inside 0 0); gate = clock; source = vss }} (record { of = foot_there; pass = rw on refl; strong = nch_no_keep }) (inl (refl, refl)))

          -- what a net that is not pulled down reaches is One
          reaches_one : {x : ℕ} → IsNet x → (IsPulled x → ⊥) → (y : ℕ) → Reach (IsStep devices is_not_zero values) is_source x y → value_of values y ≡ One
          reaches_one {x} n unpulled y r = go (lands (IsStep devices is_not_zero values) (within devices is_source at vdd vss clock t is (IsStep devices is_not_zero values) (λ d q. q.of) n r))
            where
              through : (b : Spot) → IsSpot (precharged vdd vss clock t) b → y ≡ at b → IsPulled (at b) → ⊥
              through b i e g =
                  unpulled (definite_from_Reach devices is_source values x vss
                  (Reach-trans (certain n r) (net-free devices is_source at vdd vss clock t is y (b, i, e)) (rw (← e) at (Reach-from_definite devices is_source values (at b) vss g))))

              at_spot : (b : Spot) → IsSpot (precharged vdd vss clock t) b → y ≡ at b → IsPrecharged t b ⊎ (b ≡ Inside 0 0) → value_of values y ≡ One
              at_spot b i e (inl p) = elim (held b p) [ inl z ↦ rw e z | inr z ↦ absurd (through b i e z.1) ]
              at_spot b i e (inr f) = absurd (through b i e (rw f foot_pulled))

              go : IsNet y ⊎ ((y ≡ vdd) ⊎ (y ≡ vss)) → value_of values y ≡ One
              go (inl (b, i, e)) = at_spot b i e (spot_cases b i)
              go (inr (inl e)) = absurd (unpulled (pulled_by y n r (rw e (vdd_source devices is_source at vdd vss clock t is))))
              go (inr (inr e)) = absurd (unpulled (pulled_by y n r (rw e (vss_source devices is_source at vdd vss clock t is))))

          -- a precharged net that isn't at its target is One, and falls by a definite strong path to ground
          pub falls : (a : Spot) → IsPrecharged t a → (v : Tri) → IsTarget devices is_source values (at a) v → value_of values (at a) ≢ v
              → (value_of values (at a) ≡ One) × (v ≡ Zero) × IsPulled (at a)
          falls a p v target differ = go target
            where
              n : IsNet (at a)
              n = (a, precharged_spot a p, refl)

              falling : IsPulled (at a) → v ≡ Zero → (value_of values (at a) ≡ One) × (v ≡ Zero) × IsPulled (at a)
              falling g z = elim (held a p) [ inl o ↦ (o, z, g) | inr o ↦ absurd (differ (o.0 ∙ sym z)) ]

              go : IsTarget devices is_source values (at a) v → (value_of values (at a) ≡ One) × (v ≡ Zero) × IsPulled (at a)
              go (inl ((s, d, q, e), all)) =
                  let r = Reach-weaker strong_step (Reach-from_possible devices is_source values (at a) s (definite-possible_strong devices is_source values (at a) s d)) in
                  let z = leaves_low on n r q in
                  falling (pulled_by s n r q) (sym e ∙ rw z low)
              go (inr (not1, inl ((s, d, q), e))) =
                  absurd (not1 Zero (pulls_down n (pulled_by s n (Reach-weaker strong_step (Reach-from_possible devices is_source values (at a) s d)) q)))
              go (inr (not1, inr (not2, inl ((s, d, q, e), all)))) =
                  let w = definite-possible_weak devices is_source values (at a) s d in
                  absurd (not1 Zero (pulls_down n (pulled_by s n (Reach-from_any devices is_source values (at a) s (w.0, w.1, w.2, w.3)) q)))
              go (inr (not1, inr (not2, inr (not3, inl ((s, d, q), e))))) =
                  absurd (not1 Zero (pulls_down n (pulled_by s n (Reach-from_any devices is_source values (at a) s (d.0, d.1, d.2, d.3)) q)))
              go (inr (not1, inr (not2, inr (not3, inr (not4, inl h))))) = absurd (differ (sym h.1))
              go (inr (not1, inr (not2, inr (not3, inr (not4, inr (not5, u)))))) =
                  absurd (not5 (value_of values (at a)) ((λ m h. reaches_one n unpulled m (Reach-from_any devices is_source values (at a) m h) ∙ sym one), refl))
                where
                  unpulled : IsPulled (at a) → ⊥
                  unpulled g = not1 Zero (pulls_down n g)

                  one : value_of values (at a) ≡ One
                  one = elim (held a p) [ inl o ↦ o | inr o ↦ absurd (unpulled o.1) ]

  -- a definite path to ground stays while leaves rise
  module _ (before after : List Tri) (on : value_of before clock ≡ One) (on' : value_of after clock ≡ One)
      (rise : EachLeaf (λ g. value_of before g ≡ One → value_of after g ≡ One) t) where
    pub stays_pulled : (a : Spot) → IsSpot (precharged vdd vss clock t) a → DefiniteStrong devices is_source before (at a) vss → DefiniteStrong devices is_source after (at a) vss
    stays_pulled a i g =
        definite_from_Reach devices is_source after (at a) vss
        (Reach-weaker keep (within devices is_source at vdd vss clock t is (IsStrongStep devices is_one before) (λ d q. q.of) (a, i, refl) (Reach-from_definite devices is_source before (at a) vss g)))
      where
        one : (v : Tri) → is_one v ≡ true → v ≡ One
        one Zero h = cc
        one One h = refl
        one Unknown h = cc

        keep : (d : Device) → IsStrongStep devices is_one before d × IsOf d → IsStrongStep devices is_one after d
        keep d q = go (device_is devices is_source at vdd vss clock t is (λ g. value_of before g ≡ One → value_of after g ≡ One) rise d q.1)
          where
            go : IsCellDevice devices is_source at vdd vss clock t is (λ g. value_of before g ≡ One → value_of after g ≡ One) d → IsStrongStep devices is_one after d
            go (inl (k, f, m, m')) =
                let z : value_of before d.gate ≡ One = one (value_of before d.gate) (rw k at q.0.pass) in
                record { of = q.0.of; pass = rw (k, f z) refl; strong = q.0.strong }
            go (inr (inl (k, g, m, m'))) = record { of = q.0.of; pass = rw (k, g, on') refl; strong = q.0.strong }
            go (inr (inr (k, g, m, m'))) =
                let z : is_one (conduction pch One) ≡ true = rw (k, g, on) at q.0.pass in absurd (cc)

  -- the sources that paths through the cell join are one
  module _ (values : List Tri) (clock-known : IsKnown (value_of values clock)) where
    both_leave : {x a b : ℕ} → IsNet x → Reach (IsStep devices is_not_zero values) is_source x a → is_source a ≡ true
        → Reach (IsStep devices is_not_zero values) is_source x b → is_source b ≡ true → a ≡ b
    both_leave {a = a} {b = b} n r s q e = go clock-known
      where
        go : IsKnown (value_of values clock) → a ≡ b
        go (inl off) = leaves_high values off n r s ∙ sym (leaves_high values off n q e)
        go (inr on) = leaves_low values on n r s ∙ sym (leaves_low values on n q e)

    -- a path between two sources whose first device is of the cell
    pub one_source : {a b : ℕ} (d : Device) (m : ℕ) → is_source a ≡ true → is_source b ≡ true → IsStep devices is_not_zero values d → IsOf d → Ends d a m
        → (m ≡ b) ⊎ ((is_source m ≡ false) × Reach (IsStep devices is_not_zero values) is_source m b) → a ≡ b
    one_source {a} {b} d m sa sb q c e r =
        elim r [
          | inl z ↦ absurd (no_source devices is_source at vdd vss clock t is m inside (rw z sb))
          | inr z ↦ both_leave inside (last {d = d} q (Ends-swap d a m e)) sa z.1 sb
        ]
      where
        from_source : (n : ℕ) → IsNet n → n ≡ a → IsNet m
        from_source n k w = absurd (no_source devices is_source at vdd vss clock t is n k (rw w sa))

        inside : IsNet m
        inside = go (device_is devices is_source at vdd vss clock t is (λ g. Unit {0}) (no_leaf t) d c) e
          where
            go : IsCellDevice devices is_source at vdd vss clock t is (λ g. Unit {0}) d → Ends d a m → IsNet m
            go (inl k) (inl w) = rw (← w.1) k.3
            go (inl k) (inr w) = rw (← w.1) k.2
            go (inr (inl k)) (inl w) = from_source d.drain k.2 w.0
            go (inr (inl k)) (inr w) = rw (← w.1) k.2
            go (inr (inr k)) (inl w) = from_source d.drain k.2 w.0
            go (inr (inr k)) (inr w) = rw (← w.1) k.2
