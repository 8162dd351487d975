-- A path between two sources that begins in a stage goes from one supply to the same one, or through the top of the stage.
use Rattle.std.specs.Prelude.{Contains, Some, slice_get, ◌⊎◌}
use Rattle.std.proofs.Common.{Bool, List, arith, false, inl, inr, map, refl, sym, true, zero-add, ℕ, ◌<◌, ◌∙◌, ◌≡◌}
use Rattle.std.proofs.lemmas.List.Elements.{recursion_from_All}
use Rattle.dom_base.proofs.Lists.{AllByRecursion-contains, AllByRecursion-map, AllByRecursion-weaker, Contains-slice_get}
use Rattle.deck.specs.Paths.{Ends}
use Rattle.deck.specs.declared.device.Device.{Device}
use Rattle.deck.specs.NamedDevices.{device_of}
use Rattle.deck.specs.Reach.{Reach, last, step}
use Rattle.deck.proofs.Reach.{Reach-trans}
use Rattle.sp_network.specs.Tree.{inner_count}
use Rattle.domino_cell.specs.Stage.{Branch, Inside, IsSpot, IsStage, Spot, Top, stage}
use Rattle.domino_cell.proofs.Stages.{each_branch}
use Rattle.domino_cell.specs.TreeColours.{IsIn}
use Rattle.domino_cell.proofs.Trees.{spell-ends}

some_same : {u v : Branch} → Some u ≡ Some v → u ≡ v
some_same h = cc

pub Ends-swap : (d : Device) (a b : ℕ) → Ends d a b → Ends d b a
Ends-swap d a b (inl e) = inr (e.1, e.0)
Ends-swap d a b (inr e) = inl (e.1, e.0)

pub Reach-reverse : {Q : Device → Type 0} {is_source : ℕ → Bool} {a b : ℕ} → Reach Q is_source a b → Reach Q is_source b a
Reach-reverse {a} {b} (last {d = d} q e) = last q (Ends-swap d a b e)
Reach-reverse {a} (step {d = d} {m = m} q e n r) = Reach-trans (Reach-reverse r) n (last q (Ends-swap d a m e))

module _ (devices : List Device) (is_source : ℕ → Bool) (at : Spot → ℕ) (bs : List Branch) (is : IsStage devices is_source at bs)
    (Q : Device → Type 0) (of : (d : Device) → Q d → Contains devices d) where
  -- an end of a device of branch i
  IsBranchNet : ℕ → Branch → ℕ → Type 0
  IsBranchNet i b x = (x ≡ at Top) ⊎ ((x ≡ b.supply) ⊎ ((j : ℕ) × (j < inner_count b.tree) × (x ≡ at (Inside i j))))

  -- the branch that a device of the stage is of
  OfBranch : Device → Type 0
  OfBranch d = (i : ℕ) × (b : Branch) × (slice_get bs i ≡ Some b) × IsBranchNet i b d.drain × IsBranchNet i b d.source

  of_branch : (d : Device) → Contains (map device_of (stage at 0 bs)) d → OfBranch d
  unfolding OfBranch IsBranchNet
  of_branch d c =
      AllByRecursion-contains OfBranch (map device_of (stage at 0 bs)) d
      (AllByRecursion-map OfBranch device_of (stage at 0 bs)
      (each_branch (λ c. OfBranch (device_of c)) at 0 bs (λ i b e. rw zero-add
      (AllByRecursion-weaker _ (λ c. OfBranch (device_of c)) (λ d k. (i, b, e, net i b d.drain k.0, net i b d.source k.1)) _ (spell-ends b.kind (λ j. at (Inside i j)) b.tree (at Top) b.supply 0))))) c
    where
      net : (i : ℕ) (b : Branch) (x : ℕ) → IsIn (λ j. at (Inside i j)) (at Top) b.supply 0 (inner_count b.tree) x → IsBranchNet i b x
      net i b x (inl e) = inl e
      net i b x (inr (inl e)) = inr (inl e)
      net i b x (inr (inr (j, l, m, e))) = inr (inr (j, omega arith, e))

  supply_is : (i : ℕ) (b : Branch) → slice_get bs i ≡ Some b → is_source b.supply ≡ true
  supply_is i b e = AllByRecursion-contains (λ b. is_source b.supply ≡ true) bs b (recursion_from_All (λ b. is_source b.supply ≡ true) bs is.supplies) (Contains-slice_get bs i b e)

  spot_no_source : (x : ℕ) (a : Spot) → IsSpot bs a → x ≡ at a → is_source x ≡ true → ⊥
  spot_no_source x a i e s = let f : is_source x ≡ false = rw e (is.free a i) in cc

  -- from an inner net of branch i to a source: its supply, or through the top
  from_inner : (i : ℕ) (b : Branch) → slice_get bs i ≡ Some b → {x y : ℕ} → (j : ℕ) → IsSpot bs (Inside i j) → x ≡ at (Inside i j) → Reach Q is_source x y → is_source y ≡ true
      → (y ≡ b.supply) ⊎ (Reach Q is_source x (at Top) × Reach Q is_source (at Top) y)
  unfolding OfBranch IsBranchNet
  from_inner i b e {x} {y} j sp z (last {d = d} q f) s = end (of_branch d (is.alone d (Inside i j) sp (of d q) (touch f))) f
    where
      touch : Ends d x y → (d.drain ≡ at (Inside i j)) ⊎ (d.source ≡ at (Inside i j))
      touch (inl w) = inl (w.0 ∙ z)
      touch (inr w) = inr (w.0 ∙ z)

      at_end : (k : ℕ) (c : Branch) → slice_get bs k ≡ Some c → (k ≡ i) → (n : ℕ) → n ≡ y → IsBranchNet k c n → (y ≡ b.supply) ⊎ (Reach Q is_source x (at Top) × Reach Q is_source (at Top) y)
      at_end k c g same n w (inl h) = absurd (spot_no_source y Top tt (sym w ∙ h) s)
      at_end k c g same n w (inr (inl h)) = let t : c ≡ b = some_same (sym g ∙ rw same e) in inl (sym w ∙ (h ∙ rw t refl))
      at_end k c g same n w (inr (inr h)) = absurd (spot_no_source y (Inside k h.0) (c, g, h.1) (sym w ∙ h.2) s)

      own_branch : (k : ℕ) (c : Branch) → slice_get bs k ≡ Some c → (n : ℕ) → n ≡ x → IsBranchNet k c n → k ≡ i
      own_branch k c g n w (inl h) = let t : Top ≡ Inside i j = is.apart Top (Inside i j) tt sp (sym h ∙ (w ∙ z)) in absurd (cc)
      own_branch k c g n w (inr (inl h)) = absurd (spot_no_source c.supply (Inside i j) sp (sym h ∙ (w ∙ z)) (supply_is k c g))
      own_branch k c g n w (inr (inr h)) = let t : Inside k h.0 ≡ Inside i j = is.apart (Inside k h.0) (Inside i j) (c, g, h.1) sp (sym h.2 ∙ (w ∙ z)) in cc

      end : OfBranch d → Ends d x y → (y ≡ b.supply) ⊎ (Reach Q is_source x (at Top) × Reach Q is_source (at Top) y)
      end t (inl w) = at_end t.0 t.1 t.2 (own_branch t.0 t.1 t.2 d.drain w.0 t.3) d.source w.1 t.4
      end t (inr w) = at_end t.0 t.1 t.2 (own_branch t.0 t.1 t.2 d.source w.0 t.4) d.drain w.1 t.3
  from_inner i b e {x} {y} j sp z (step {d = d} {m = m} q f n r) s =
      go (mid (of_branch d (is.alone d (Inside i j) sp (of d q) (touch f))) f)
      (λ k u w. from_inner i b e k u w r s)
    where
      touch : Ends d x m → (d.drain ≡ at (Inside i j)) ⊎ (d.source ≡ at (Inside i j))
      touch (inl w) = inl (w.0 ∙ z)
      touch (inr w) = inr (w.0 ∙ z)

      own_branch : (k : ℕ) (c : Branch) → slice_get bs k ≡ Some c → (u : ℕ) → u ≡ x → IsBranchNet k c u → k ≡ i
      own_branch k c g u w (inl h) = let t : Top ≡ Inside i j = is.apart Top (Inside i j) tt sp (sym h ∙ (w ∙ z)) in absurd (cc)
      own_branch k c g u w (inr (inl h)) = absurd (spot_no_source c.supply (Inside i j) sp (sym h ∙ (w ∙ z)) (supply_is k c g))
      own_branch k c g u w (inr (inr h)) = let t : Inside k h.0 ≡ Inside i j = is.apart (Inside k h.0) (Inside i j) (c, g, h.1) sp (sym h.2 ∙ (w ∙ z)) in cc

      at_mid : (k : ℕ) (c : Branch) → slice_get bs k ≡ Some c → (k ≡ i) → (u : ℕ) → u ≡ m → IsBranchNet k c u → (m ≡ at Top) ⊎ ((l : ℕ) × IsSpot bs (Inside i l) × (m ≡ at (Inside i l)))
      at_mid k c g same u w (inl h) = inl (sym w ∙ h)
      at_mid k c g same u w (inr (inl h)) = let t = supply_is k c g in let v : is_source c.supply ≡ false = rw (sym h ∙ w) n in absurd (cc)
      at_mid k c g same u w (inr (inr h)) = inr (h.0, rw (← same) (c, g, h.1), sym w ∙ (h.2 ∙ rw same refl))

      mid : OfBranch d → Ends d x m → (m ≡ at Top) ⊎ ((l : ℕ) × IsSpot bs (Inside i l) × (m ≡ at (Inside i l)))
      mid t (inl w) = at_mid t.0 t.1 t.2 (own_branch t.0 t.1 t.2 d.drain w.0 t.3) d.source w.1 t.4
      mid t (inr w) = at_mid t.0 t.1 t.2 (own_branch t.0 t.1 t.2 d.source w.0 t.4) d.drain w.1 t.3

      go : (m ≡ at Top) ⊎ ((l : ℕ) × IsSpot bs (Inside i l) × (m ≡ at (Inside i l))) → ((k : ℕ) → IsSpot bs (Inside i k) → m ≡ at (Inside i k) → (y ≡ b.supply) ⊎ (Reach Q is_source m (at Top) × Reach Q is_source (at Top) y))
          → (y ≡ b.supply) ⊎ (Reach Q is_source x (at Top) × Reach Q is_source (at Top) y)
      go (inl w) ih = inr (last q (rw w at f), rw w at r)
      go (inr w) ih = elim (ih w.0 w.1 w.2) [ inl h ↦ inl h | inr h ↦ inr (step q f n h.0, h.1) ]

  -- a path between two sources whose first device is of this stage
  pub between : {a y : ℕ} (d : Device) (m : ℕ) → is_source a ≡ true → is_source y ≡ true → Q d → Contains (map device_of (stage at 0 bs)) d → Ends d a m
      → (m ≡ y) ⊎ ((is_source m ≡ false) × Reach Q is_source m y)
      → (a ≡ y) ⊎ (Reach Q is_source (at Top) a × Reach Q is_source (at Top) y)
  unfolding OfBranch IsBranchNet
  between {a} {y} d m sa sy q c f r = go (of_branch d c) f
    where
      first_end : (i : ℕ) (b : Branch) → slice_get bs i ≡ Some b → (n k : ℕ) → n ≡ a → k ≡ m → IsBranchNet i b n → IsBranchNet i b k
          → (a ≡ y) ⊎ (Reach Q is_source (at Top) a × Reach Q is_source (at Top) y)
      first_end i b e n k w u (inl h) g = absurd (spot_no_source a Top tt (sym w ∙ h) sa)
      first_end i b e n k w u (inr (inr h)) g = absurd (spot_no_source a (Inside i h.0) (b, e, h.1) (sym w ∙ h.2) sa)
      first_end i b e n k w u (inr (inl h)) (inl g) =
          let top : m ≡ at Top = sym u ∙ g in
          elim r [
            | inl z ↦ absurd (spot_no_source y Top tt (sym z ∙ top) sy)
            | inr z ↦ inr (last q (Ends-swap d a (at Top) (rw top at f)), rw top at z.1)
          ]
      first_end i b e n k w u (inr (inl h)) (inr (inl g)) =
          elim r [
            | inl z ↦ inl (sym w ∙ (h ∙ (sym g ∙ (u ∙ z))))
            | inr z ↦ let t = supply_is i b e in let v : is_source b.supply ≡ false = rw (sym g ∙ u) z.0 in absurd (cc)
          ]
      first_end i b e n k w u (inr (inl h)) (inr (inr g)) =
          let inside : m ≡ at (Inside i g.0) = sym u ∙ g.2 in
          elim r [
            | inl z ↦ absurd (spot_no_source y (Inside i g.0) (b, e, g.1) (sym z ∙ inside) sy)
            | inr z ↦ elim (from_inner i b e g.0 (b, e, g.1) inside z.1 sy) [
              | inl t ↦ inl (sym w ∙ (h ∙ sym t))
              | inr t ↦ inr (Reach-reverse (step q f z.0 t.0), t.1)
            ]
          ]

      go : OfBranch d → Ends d a m → (a ≡ y) ⊎ (Reach Q is_source (at Top) a × Reach Q is_source (at Top) y)
      go t (inl w) = first_end t.0 t.1 t.2 d.drain d.source w.0 w.1 t.3 t.4
      go t (inr w) = first_end t.0 t.1 t.2 d.source d.drain w.0 w.1 t.4 t.3
