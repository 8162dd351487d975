-- The targets of the parts of a deck.
use Rattle.std.specs.List.{AllByRecursion}
use Rattle.std.specs.Prelude.{◌⊎◌}
use Rattle.std.proofs.Common.{Bool, List, [], false, inl, inr, refl, sym, true, ℕ, ◌∙◌, ◌∷◌, ◌≡◌}
use Rattle.std.proofs.lemmas.List.Elements.{recursion_from_All}
use Rattle.dom_base.specs.Tri.{opposite}
use Rattle.dom_base.specs.declared.kind.Kind.TheVariants.{Keep, N as nch, P as pch}
use Rattle.dom_base.specs.declared.tri.Tri.{Tri}
use Rattle.dom_base.specs.declared.tri.Tri.TheVariants.{One, Unknown, Zero}
use Rattle.dom_base.proofs.Lists.{AllByRecursion-contains}
use Rattle.deck.specs.Paths.{DefiniteStrong}
use Rattle.deck.specs.Switches.{value_of}
use Rattle.deck.specs.declared.device.Device.{Device}
use Rattle.sp_network.specs.Known.{IsKnown}
use Rattle.sp_network.specs.Tree.{Leaf, Series, Tree, both, dual, map_tree, tree_conduction}
use Rattle.sp_network.proofs.TreeImages.{tree_conduction-map_tree}
use Rattle.domino_cell.specs.Stage.{Branch, IsStage, Spot, Top}
use Rattle.switch_model.specs.Targets.{IsTarget}
use Rattle.domino_cell.specs.Tapped.{IsTapped, ways}
use Rattle.stage_law.proofs.TappedTargets.{definite_through as tapped_through, drives as tapped_drives, keeps as tapped_keeps, strong_goes as tapped_goes}
use Rattle.stage_law.proofs.Held.{held}
use Rattle.stage_law.proofs.StageTargets.{definite_through, drives, strong_may}
use Rattle.port_runs.specs.Environment.{bit}
use Rattle.domino_law.specs.Branches.{clocked, dynamic, dynamic_taps, numbered, reset_branch, static_branches}
use Rattle.domino_law.specs.Honest.{cell_conduction, static_value}
use Rattle.domino_law.specs.Nets.{At, Clock, Lm, Lmb, Ls, Lsb, Net, Output, Rs, Rsb, Vdd, Vss, gate_net, CellSide}
use Rattle.domino_law.specs.Shape.{DynamicStage}
use Rattle.domino_cell.specs.declared.style.Style.{Style}
use Rattle.domino_cell.specs.declared.style.Style.TheVariants.{Keeper as WithKeeper}
use Rattle.domino_law.proofs.Statics.{both-right_zero, pull_down, pull_up}
use Rattle.domino_law.proofs.Ways.{other_ways, pre_branch}

both_one : (a b : Tri) → both a b ≡ One → a ≡ One
both_one Zero b h = absurd (cc)
both_one One b h = refl
both_one Unknown Zero h = absurd (cc)
both_one Unknown One h = absurd (cc)
both_one Unknown Unknown h = absurd (cc)

both_end : (a b : Tri) → both a b ≡ One → b ≡ One
both_end Zero b h = absurd (cc)
both_end One b h = h
both_end Unknown Zero h = absurd (cc)
both_end Unknown One h = refl
both_end Unknown Unknown h = absurd (cc)

module _ (devices : List Device) (is_source : ℕ → Bool) (net : Net → ℕ) (values : List Tri)
    (high : value_of values (net Vdd) ≡ One) (low : value_of values (net Vss) ≡ Zero) where
  target_as : (n : ℕ) (v w : Tri) → v ≡ w → IsTarget devices is_source values n v → IsTarget devices is_source values n w
  target_as n v w e t = rw (← e) t

  -- a static gate of known nets goes to the opposite of their value
  pub static_target : (at : Spot → ℕ) (t : Tree Net) → IsStage devices is_source at (static_branches net t) → IsKnown (static_value net values t)
      → IsTarget devices is_source values (at Top) (opposite (static_value net values t))
  static_target at t is (inl z) =
      target_as (at Top) (value_of values (net Vdd)) (opposite (static_value net values t)) (high ∙ sym (rw z refl))
      (drives devices is_source at (static_branches net t) is values 0 (record { kind = pch; tree = map_tree net (dual t); supply = net Vdd }) refl (λ e. cc) (pull_up net values t ∙ rw z refl)
      (inr (inr refl), (inr (inl (pull_down net values t ∙ z)), tt)))
  static_target at t is (inr z) =
      target_as (at Top) (value_of values (net Vss)) (opposite (static_value net values t)) (low ∙ sym (rw z refl))
      (drives devices is_source at (static_branches net t) is values 1 (record { kind = nch; tree = map_tree net t; supply = net Vss }) refl (λ e. cc) (pull_down net values t ∙ z)
      (inr (inl (pull_up net values t ∙ rw z refl)), (inr (inr refl), tt)))

  -- a static gate of an unknown value
  pub static_unknown : (at : Spot → ℕ) (t : Tree Net) → IsStage devices is_source at (static_branches net t) → static_value net values t ≡ Unknown
      → IsTarget devices is_source values (at Top) Unknown
  static_unknown at t is z =
      inr (
        (λ w p. let u = definite_through devices is_source at (static_branches net t) is values p.0.0 p.0.1 p.0.2 in
            AllByRecursion-contains (λ b. tree_conduction b.kind (value_of values) b.tree ≡ One → ⊥) (static_branches net t) u.0
            ((λ o. no (sym (pull_up net values t ∙ rw z refl) ∙ o)), ((λ o. no (sym (pull_down net values t ∙ z) ∙ o)), tt)) u.1 u.4),
        inl ((net Vdd, strong_may devices is_source at (static_branches net t) is values 0 (record { kind = pch; tree = map_tree net (dual t); supply = net Vdd }) refl (λ e. cc) (λ o. never (sym (pull_up net values t ∙ rw z refl) ∙ o)), (recursion_from_All (λ b. is_source b.supply ≡ true) (static_branches net t) is.supplies).0), refl),
      )
    where
      no : Unknown ≡ One → ⊥
      no o = cc

      never : Unknown ≡ Zero → ⊥
      never o = cc

  -- the tree of a side over numbers
  tree_is : (c : DynamicStage) (v : Tri) → cell_conduction net values c ≡ v → tree_conduction nch (value_of values) (numbered net c.tree) ≡ v
  tree_is c v h = tree_conduction-map_tree nch (value_of values) (λ g. net (gate_net g)) c.tree ∙ h

  pub precharges : (style : Style) (at : Spot → ℕ) (k : CellSide) (c : DynamicStage) → IsTapped devices is_source at (dynamic style net k c) (dynamic_taps style net c) → value_of values (net (Clock c.clock)) ≡ Zero
      → IsTarget devices is_source values (at Top) One
  precharges style at k c is z =
      target_as (at Top) (value_of values (net Vdd)) One high
      (tapped_drives devices is_source at (dynamic style net k c) (dynamic_taps style net c) is values 1 (pre_branch net c) refl (λ e. cc) (rw z refl)
      (inr (inl (rw z (both-right_zero (tree_conduction nch (value_of values) (numbered net c.tree))))), (inr (inr refl), other_ways net _ style k c (inr (inr refl)) (inl refl))))

  pub evaluates : (style : Style) (at : Spot → ℕ) (k : CellSide) (c : DynamicStage) → IsTapped devices is_source at (dynamic style net k c) (dynamic_taps style net c) → value_of values (net (Clock c.clock)) ≡ One → cell_conduction net values c ≡ One
      → IsTarget devices is_source values (at Top) Zero
  evaluates style at k c is z h =
      target_as (at Top) (value_of values (net Vss)) Zero low
      (tapped_drives devices is_source at (dynamic style net k c) (dynamic_taps style net c) is values 0 (record { kind = nch; tree = Series (numbered net c.tree) (Leaf (net (Clock c.clock))); supply = net Vss }) refl (λ e. cc) (rw (tree_is c One h, z) refl)
      (inr (inr refl), (inr (inl (rw z refl)), other_ways net _ style k c (inr (inl (rw z refl))) (inl refl))))

  pub keeper_holds : (at : Spot → ℕ) (k : CellSide) (c : DynamicStage) → IsTapped devices is_source at (dynamic WithKeeper net k c) [] → value_of values (net (Clock c.clock)) ≡ One → cell_conduction net values c ≡ Zero
      → value_of values (net (At (Output k.cell) Top)) ≡ Zero → IsTarget devices is_source values (at Top) One
  keeper_holds at k c is z h o =
      target_as (at Top) (value_of values (net Vdd)) One high
      (tapped_keeps devices is_source at (dynamic WithKeeper net k c) [] is values 2 (record { kind = Keep; tree = Leaf (net (At (Output k.cell) Top)); supply = net Vdd }) refl refl (rw o refl)
      (inl (rw (tree_is c Zero h) refl), (inl (rw z refl), (inr (refl, refl), tt))))

  -- the definite path to ground is there where the clock is 1 and the tree conducts
  pub pulls : (style : Style) (at : Spot → ℕ) (k : CellSide) (c : DynamicStage) → IsTapped devices is_source at (dynamic style net k c) (dynamic_taps style net c) → value_of values (net (Clock c.clock)) ≡ One → cell_conduction net values c ≡ One
      → DefiniteStrong devices is_source values (at Top) (net Vss)
  pulls style at k c is z h =
      tapped_goes devices is_source at (dynamic style net k c) (dynamic_taps style net c) is values 0 (record { kind = nch; tree = Series (numbered net c.tree) (Leaf (net (Clock c.clock))); supply = net Vss }) refl (λ e. cc) (rw (tree_is c One h, z) refl)

  pub pulled_conducts : (style : Style) (at : Spot → ℕ) (k : CellSide) (c : DynamicStage) → IsTapped devices is_source at (dynamic style net k c) (dynamic_taps style net c) → is_source (net Vss) ≡ true
      → DefiniteStrong devices is_source values (at Top) (net Vss) → cell_conduction net values c ≡ One
  pulled_conducts style at k c is s h =
      let t = tapped_through devices is_source at (dynamic style net k c) (dynamic_taps style net c) is values (net Vss) h s in
      sym (tree_conduction-map_tree nch (value_of values) (λ g. net (gate_net g)) c.tree)
      ∙ AllByRecursion-contains (λ b. net Vss ≡ b.supply → tree_conduction b.kind (value_of values) b.tree ≡ One → tree_conduction nch (value_of values) (numbered net c.tree) ≡ One) (ways (dynamic style net k c) (dynamic_taps style net c)) t.0
      ((λ e o. both_one _ _ o), ((λ e o. absurd (supplies e)), other_ways net _ style k c (λ e o. absurd (supplies e)) (λ e o. absurd (supplies e)))) t.1 t.2 t.4
    where
      supplies : net Vss ≡ net Vdd → ⊥
      supplies e = let a : value_of values (net Vss) ≡ One = rw e high in cc

  -- and the clock is up
  pub pulled_clock : (style : Style) (at : Spot → ℕ) (k : CellSide) (c : DynamicStage) → IsTapped devices is_source at (dynamic style net k c) (dynamic_taps style net c) → is_source (net Vss) ≡ true
      → DefiniteStrong devices is_source values (at Top) (net Vss) → value_of values (net (Clock c.clock)) ≡ One
  pulled_clock style at k c is s h =
      let t = tapped_through devices is_source at (dynamic style net k c) (dynamic_taps style net c) is values (net Vss) h s in
      AllByRecursion-contains (λ b. net Vss ≡ b.supply → tree_conduction b.kind (value_of values) b.tree ≡ One → value_of values (net (Clock c.clock)) ≡ One) (ways (dynamic style net k c) (dynamic_taps style net c)) t.0
      ((λ e o. both_end _ _ o), ((λ e o. absurd (supplies e)), other_ways net _ style k c (λ e o. absurd (supplies e)) (λ e o. absurd (supplies e)))) t.1 t.2 t.4
    where
      supplies : net Vss ≡ net Vdd → ⊥
      supplies e = let a : value_of values (net Vss) ≡ One = rw e high in cc

  -- an open clocked inverter
  pub clocked_target : (at : Spot → ℕ) (up down gate : Net) (more : List Branch) → IsStage devices is_source at (clocked net up down gate more)
      → value_of values (net up) ≡ Zero → value_of values (net down) ≡ One → AllByRecursion (λ b. tree_conduction b.kind (value_of values) b.tree ≡ Zero) more
      → IsKnown (value_of values (net gate)) → IsTarget devices is_source values (at Top) (opposite (value_of values (net gate)))
  clocked_target at up down gate more is u d m (inl z) =
      target_as (at Top) (value_of values (net Vdd)) (opposite (value_of values (net gate))) (high ∙ sym (rw z refl))
      (drives devices is_source at (clocked net up down gate more) is values 0 (record { kind = pch; tree = Series (Leaf (net up)) (Leaf (net gate)); supply = net Vdd }) refl (λ e. cc) (rw (u, z) refl)
      (inr (inr refl), (inr (inl (rw (d, z) refl)), rest_off (net Vdd) more m)))
    where
      rest_off : (s : ℕ) (bs : List Branch) → AllByRecursion (λ b. tree_conduction b.kind (value_of values) b.tree ≡ Zero) bs → AllByRecursion (λ b. (b.kind ≡ Keep) ⊎ ((tree_conduction b.kind (value_of values) b.tree ≡ Zero) ⊎ (value_of values b.supply ≡ value_of values s))) bs
      rest_off s [] h = tt
      rest_off s (b ∷ bs) h = (inr (inl h.0), rest_off s bs h.1)
  clocked_target at up down gate more is u d m (inr z) =
      target_as (at Top) (value_of values (net Vss)) (opposite (value_of values (net gate))) (low ∙ sym (rw z refl))
      (drives devices is_source at (clocked net up down gate more) is values 1 (record { kind = nch; tree = Series (Leaf (net down)) (Leaf (net gate)); supply = net Vss }) refl (λ e. cc) (rw (d, z) refl)
      (inr (inl (rw (u, z) refl)), (inr (inr refl), rest_off (net Vss) more m)))
    where
      rest_off : (s : ℕ) (bs : List Branch) → AllByRecursion (λ b. tree_conduction b.kind (value_of values) b.tree ≡ Zero) bs → AllByRecursion (λ b. (b.kind ≡ Keep) ⊎ ((tree_conduction b.kind (value_of values) b.tree ≡ Zero) ⊎ (value_of values b.supply ≡ value_of values s))) bs
      rest_off s [] h = tt
      rest_off s (b ∷ bs) h = (inr (inl h.0), rest_off s bs h.1)

  -- a shut master, and a shut slave that isn't reset, keep their values
  pub master_held : (at : Spot → ℕ) (gate : Net) → IsStage devices is_source at (clocked net Lmb Lm gate []) → value_of values (net Lmb) ≡ One → value_of values (net Lm) ≡ Zero
      → IsTarget devices is_source values (at Top) (value_of values (at Top))
  master_held at gate is u d = held devices is_source at (clocked net Lmb Lm gate []) is values (rw u refl, (d, tt))

  pub slave_held : (at : Spot → ℕ) (gate : Net) (b : Bool) → IsStage devices is_source at (clocked net Lsb Ls gate (reset_branch net b ∷ [])) → value_of values (net Lsb) ≡ One → value_of values (net Ls) ≡ Zero
      → value_of values (net Rs) ≡ Zero → value_of values (net Rsb) ≡ One → IsTarget devices is_source values (at Top) (value_of values (at Top))
  slave_held at gate false is u d r q = held devices is_source at (clocked net Lsb Ls gate (reset_branch net false ∷ [])) is values (rw u refl, (d, (r, tt)))
  slave_held at gate true is u d r q = held devices is_source at (clocked net Lsb Ls gate (reset_branch net true ∷ [])) is values (rw u refl, (d, (rw q refl, tt)))

  -- a slave that is reset has its start value
  pub slave_reset : (at : Spot → ℕ) (gate : Net) (b : Bool) → IsStage devices is_source at (clocked net Lsb Ls gate (reset_branch net b ∷ [])) → value_of values (net Lsb) ≡ One → value_of values (net Ls) ≡ Zero
      → value_of values (net Rs) ≡ One → value_of values (net Rsb) ≡ Zero → IsTarget devices is_source values (at Top) (bit b)
  slave_reset at gate false is u d r q =
      target_as (at Top) (value_of values (net Vss)) Zero low
      (drives devices is_source at (clocked net Lsb Ls gate (reset_branch net false ∷ [])) is values 2 (reset_branch net false) refl (λ e. cc) r
      (inr (inl (rw u refl)), (inr (inl (rw d refl)), (inr (inr refl), tt))))
  slave_reset at gate true is u d r q =
      target_as (at Top) (value_of values (net Vdd)) One high
      (drives devices is_source at (clocked net Lsb Ls gate (reset_branch net true ∷ [])) is values 2 (reset_branch net true) refl (λ e. cc) (rw q refl)
      (inr (inl (rw u refl)), (inr (inl (rw d refl)), (inr (inr refl), tt))))

  -- a slave that is open takes the opposite of its master
  pub slave_open : (at : Spot → ℕ) (gate : Net) (b : Bool) → IsStage devices is_source at (clocked net Lsb Ls gate (reset_branch net b ∷ [])) → value_of values (net Lsb) ≡ Zero → value_of values (net Ls) ≡ One
      → value_of values (net Rs) ≡ Zero → value_of values (net Rsb) ≡ One → IsKnown (value_of values (net gate)) → IsTarget devices is_source values (at Top) (opposite (value_of values (net gate)))
  slave_open at gate false is u d r q g = clocked_target at Lsb Ls gate (reset_branch net false ∷ []) is u d (r, tt) g
  slave_open at gate true is u d r q g = clocked_target at Lsb Ls gate (reset_branch net true ∷ []) is u d (rw q refl, tt) g
