-- The devices of a cell that precharges its inner nets, and the paths that begin in it.
use Rattle.std.specs.List.{AllByRecursion}
use Rattle.std.specs.Prelude.{Contains, ◌⊎◌}
use Rattle.std.proofs.Common.{Bool, List, [], arith, false, inl, inr, map, refl, suc, sym, true, zero, ℕ, ◌+◌, ◌<◌, ◌∙◌, ◌∷◌, ◌≡◌}
use Rattle.std.proofs.lemmas.List.Elements.{recursion_from_All}
use Rattle.dom_base.specs.declared.kind.Kind.TheVariants.{N as nch, P as pch}
use Rattle.dom_base.proofs.Lists.{AllByRecursion-append, AllByRecursion-both, AllByRecursion-contains, AllByRecursion-map, AllByRecursion-weaker}
use Rattle.deck.specs.Paths.{Ends}
use Rattle.deck.specs.declared.device.Device.{Device}
use Rattle.deck.specs.NamedDevices.{device_of}
use Rattle.deck.specs.Reach.{Reach, last, step}
use Rattle.sp_network.specs.Tree.{EachLeaf, Leaf, Parallel, Series, Tree, inner_count}
use Rattle.domino_cell.specs.Stage.{Inside, IsSpot, Spot, Top, stage}
use Rattle.domino_cell.specs.Spelling.{spell}
use Rattle.domino_cell.specs.TreeColours.{IsIn}
use Rattle.domino_cell.proofs.Trees.{spell-ends, spell-kind}
use Rattle.stage_law.specs.Precharged.{inner_taps, precharged, taps_from}
use Rattle.domino_cell.specs.Tapped.{IsTapped, Tap, tap_card, tapped, ways}
use Rattle.stage_law.proofs.GateCards.{spell-gates}

module _ (devices : List Device) (is_source : ℕ → Bool) (at : Spot → ℕ) (vdd vss clock : ℕ) (t : Tree ℕ)
    (is : IsTapped devices is_source at (precharged vdd vss clock t) (inner_taps vdd clock t)) where
  abbrev pub IsCellNet : ℕ → Type 0
  IsCellNet x = (a : Spot) × IsSpot (precharged vdd vss clock t) a × (x ≡ at a)

  -- a device of the tree, whose gate has F; the foot; and the precharge of a net
  abbrev pub InTree : (ℕ → Type 0) → Device → Type 0
  InTree F d = (d.kind ≡ nch) × F d.gate × IsCellNet d.drain × IsCellNet d.source

  abbrev pub IsFoot : Device → Type 0
  IsFoot d = (d.kind ≡ nch) × (d.gate ≡ clock) × IsCellNet d.drain × (d.source ≡ vss)

  abbrev pub IsPull : Device → Type 0
  IsPull d = (d.kind ≡ pch) × (d.gate ≡ clock) × IsCellNet d.drain × (d.source ≡ vdd)

  abbrev pub IsCellDevice : (ℕ → Type 0) → Device → Type 0
  IsCellDevice F d = InTree F d ⊎ (IsFoot d ⊎ IsPull d)

  abbrev pub Among : Device → Type 0
  Among d = Contains (map device_of (tapped at (precharged vdd vss clock t) (inner_taps vdd clock t))) d

  pub inside_spot : (j : ℕ) → j < 1 + inner_count t → IsSpot (precharged vdd vss clock t) (Inside 0 j)
  inside_spot j l = (record { kind = nch; tree = Series t (Leaf clock); supply = vss }, refl, omega arith)

  tap_devices : (F : ℕ → Type 0) (ts : List Tap) → AllByRecursion (λ p. IsSpot (precharged vdd vss clock t) p.spot) ts
      → AllByRecursion (λ p. (p.kind ≡ pch) × (p.gate ≡ clock) × (p.supply ≡ vdd)) ts
      → AllByRecursion (λ p. IsCellDevice F (device_of (tap_card at p))) ts
  tap_devices F [] h k = tt
  tap_devices F (p ∷ ps) h k = (inr (inr (k.0.0, k.0.1, (p.spot, h.0, refl), k.0.2)), tap_devices F ps h.1 k.1)

  taps_are : (j n : ℕ) → AllByRecursion (λ p. (p.kind ≡ pch) × (p.gate ≡ clock) × (p.supply ≡ vdd)) (taps_from vdd clock j n)
  taps_are j zero = tt
  taps_are j (suc n) = ((refl, refl, refl), taps_are (j + 1) n)

  pub device_is : (F : ℕ → Type 0) → EachLeaf F t → (d : Device) → Among d → IsCellDevice F d
  device_is F leaves d c =
      AllByRecursion-contains (IsCellDevice F) (map device_of (tapped at (precharged vdd vss clock t) (inner_taps vdd clock t))) d
      (AllByRecursion-map (IsCellDevice F) device_of (tapped at (precharged vdd vss clock t) (inner_taps vdd clock t))
      (AllByRecursion-append (λ c. IsCellDevice F (device_of c)) (stage at 0 (precharged vdd vss clock t)) (map (tap_card at) (inner_taps vdd clock t))
      (AllByRecursion-append (λ c. IsCellDevice F (device_of c)) (spell nch (λ j. at (Inside 0 j)) (Series t (Leaf clock)) (at Top) vss 0) _
      (AllByRecursion-append (λ c. IsCellDevice F (device_of c)) (spell nch (λ j. at (Inside 0 j)) t (at Top) (at (Inside 0 0)) 1) _ tree (inr (inl (refl, refl, (Inside 0 0, inside_spot 0 (omega arith), refl), refl)), tt))
      (inr (inr (refl, refl, (Top, tt, refl), refl)), tt))
      (AllByRecursion-map (λ c. IsCellDevice F (device_of c)) (tap_card at) (inner_taps vdd clock t) (tap_devices F (inner_taps vdd clock t) (recursion_from_All (λ p. IsSpot (precharged vdd vss clock t) p.spot) (inner_taps vdd clock t) is.spots) (taps_are 0 (inner_count t)))))) c
    where
      net : (x : ℕ) → IsIn (λ j. at (Inside 0 j)) (at Top) (at (Inside 0 0)) 1 (inner_count t) x → IsCellNet x
      net x (inl e) = (Top, tt, e)
      net x (inr (inl e)) = (Inside 0 0, inside_spot 0 (omega arith), e)
      net x (inr (inr (j, a, b, e))) = (Inside 0 j, inside_spot j b, e)

      tree : AllByRecursion (λ c. IsCellDevice F (device_of c)) (spell nch (λ j. at (Inside 0 j)) t (at Top) (at (Inside 0 0)) 1)
      tree =
          AllByRecursion-weaker _ (λ c. IsCellDevice F (device_of c)) (λ c k. inl (k.0.0, k.0.1, net c.drain k.1.0, net c.source k.1.1)) (spell nch (λ j. at (Inside 0 j)) t (at Top) (at (Inside 0 0)) 1)
          (AllByRecursion-both _ _ _ (AllByRecursion-both _ _ _ (spell-kind nch (λ j. at (Inside 0 j)) t (at Top) (at (Inside 0 0)) 1) (spell-gates F nch (λ j. at (Inside 0 j)) t (at Top) (at (Inside 0 0)) 1 leaves))
          (spell-ends nch (λ j. at (Inside 0 j)) t (at Top) (at (Inside 0 0)) 1))

  -- no net of the cell is a source
  pub net-free : (x : ℕ) → IsCellNet x → is_source x ≡ false
  net-free x n = rw n.2 (is.free n.0 n.1)

  pub no_source : (x : ℕ) → IsCellNet x → is_source x ≡ true → ⊥
  no_source x n s = let f = net-free x n in cc

  -- the other end of a device of the cell is a net of the cell or a source
  pub other_end : (d : Device) (x y : ℕ) → Among d → Ends d x y → IsCellNet y ⊎ ((y ≡ vdd) ⊎ (y ≡ vss))
  other_end d x y c e = go (device_is (λ g. Unit {0}) (all t) d c) e
    where
      all : (t : Tree ℕ) → EachLeaf (λ g. Unit {0}) t
      all (Leaf gate) = tt
      all (Series l r) = (all l, all r)
      all (Parallel l r) = (all l, all r)

      go : IsCellDevice (λ g. Unit {0}) d → Ends d x y → IsCellNet y ⊎ ((y ≡ vdd) ⊎ (y ≡ vss))
      go (inl k) (inl w) = inl (rw (← w.1) k.3)
      go (inl k) (inr w) = inl (rw (← w.1) k.2)
      go (inr (inl k)) (inl w) = inr (inr (sym w.1 ∙ k.3))
      go (inr (inl k)) (inr w) = inl (rw (← w.1) k.2)
      go (inr (inr k)) (inl w) = inr (inl (sym w.1 ∙ k.3))
      go (inr (inr k)) (inr w) = inl (rw (← w.1) k.2)

  pub vdd_source : is_source vdd ≡ true
  vdd_source = (recursion_from_All (λ b. is_source b.supply ≡ true) (ways (precharged vdd vss clock t) (inner_taps vdd clock t)) is.supplies).1.0

  pub vss_source : is_source vss ≡ true
  vss_source = (recursion_from_All (λ b. is_source b.supply ≡ true) (ways (precharged vdd vss clock t) (inner_taps vdd clock t)) is.supplies).0

  -- A path that begins at a net of the cell stays in it up to a source: its devices are the cell's.
  pub within : (Q : Device → Type 0) → ((d : Device) → Q d → Contains devices d) → {x y : ℕ} → IsCellNet x → Reach Q is_source x y
      → Reach (λ d. Q d × Among d) is_source x y
  within Q of {x} {y} n (last {d = d} q e) = last (q, mine d x y n (of d q) e) e
    where
      mine : (d : Device) (x y : ℕ) → IsCellNet x → Contains devices d → Ends d x y → Among d
      mine d x y n c (inl w) = is.alone d n.0 n.1 c (inl (w.0 ∙ n.2))
      mine d x y n c (inr w) = is.alone d n.0 n.1 c (inr (w.0 ∙ n.2))
  within Q of {x} {y} n (step {d = d} {m = m} q e k r) =
      step (q, mine d x m n (of d q) e) e k (within Q of (middle (other_end d x m (mine d x m n (of d q) e) e)) r)
    where
      mine : (d : Device) (x y : ℕ) → IsCellNet x → Contains devices d → Ends d x y → Among d
      mine d x y n c (inl w) = is.alone d n.0 n.1 c (inl (w.0 ∙ n.2))
      mine d x y n c (inr w) = is.alone d n.0 n.1 c (inr (w.0 ∙ n.2))

      middle : IsCellNet m ⊎ ((m ≡ vdd) ⊎ (m ≡ vss)) → IsCellNet m
      middle (inl w) = w
      middle (inr (inl w)) = let s = vdd_source in let f : is_source vdd ≡ false = rw (← w) k in absurd (cc)
      middle (inr (inr w)) = let s = vss_source in let f : is_source vss ≡ false = rw (← w) k in absurd (cc)
