-- What the dynamic nets of a cell do, in either style.
use Rattle.std.specs.Prelude.{◌≢◌, ◌⊎◌}
use Rattle.std.proofs.Common.{Bool, List, arith, inl, inr, refl, sym, true, ℕ, ◌+◌, ◌<◌, ◌∙◌, ◌≡◌}
use Rattle.dom_base.specs.declared.kind.Kind.TheVariants.{N as nch}
use Rattle.dom_base.specs.declared.tri.Tri.{Tri}
use Rattle.dom_base.specs.declared.tri.Tri.TheVariants.{One, Zero}
use Rattle.deck.specs.Paths.{DefiniteStrong}
use Rattle.deck.specs.Switches.{value_of}
use Rattle.deck.specs.declared.device.Device.{Device}
use Rattle.sp_network.specs.Known.{IsKnown}
use Rattle.sp_network.specs.Tree.{EachLeaf, inner_count}
use Rattle.sp_network.proofs.Known.{IsKnown-tree_conduction}
use Rattle.sp_network.proofs.TreeImages.{inner_count-map_tree}
use Rattle.domino_cell.specs.Stage.{Inside, Spot, Top}
use Rattle.switch_model.specs.Targets.{IsTarget}
use Rattle.dom_base.proofs.Decided.{dec_tri}
use Rattle.switch_model.proofs.Targets.{target_exists, target_unique}
use Rattle.stage_law.specs.Precharged.{IsPrecharged}
use Rattle.domino_cell.specs.Tapped.{IsTapped}
use Rattle.stage_law.proofs.CellTargets as cell
use Rattle.domino_law.specs.Branches.{dynamic, dynamic_taps, numbered}
use Rattle.domino_law.specs.Honest.{IsDynamicSpot, cell_conduction}
use Rattle.domino_law.specs.Nets.{At, Clock, Net, Output, Vdd, Vss, gate_net, CellSide}
use Rattle.domino_law.specs.Shape.{DynamicStage}
use Rattle.domino_cell.specs.declared.style.Style.{Style}
use Rattle.domino_cell.specs.declared.style.Style.TheVariants.{Keeper as WithKeeper, Precharge as WithPrecharge}
use Rattle.domino_law.proofs.Leaves.{EachLeaf-map, tree_rises}
use Rattle.domino_law.proofs.Parts.{evaluates, keeper_holds, precharges, pulled_conducts, pulls}

as_precharged : (net : Net → ℕ) (c : DynamicStage) (a : Spot) → IsDynamicSpot WithPrecharge c a → IsPrecharged (numbered net c.tree) a
as_precharged net c Top i = tt
as_precharged net c (Inside i j) p =
    let z = inner_count-map_tree (λ g. net (gate_net g)) c.tree in
    (p.0, p.1, within j (inner_count (numbered net c.tree)) (inner_count c.tree) z p.2)
  where
    within : (j m n : ℕ) → m ≡ n → j < 1 + n → j < 1 + m
    within j m n z l = omega arith

as_dynamic : (net : Net → ℕ) (c : DynamicStage) (a : Spot) → IsPrecharged (numbered net c.tree) a → IsDynamicSpot WithPrecharge c a
as_dynamic net c Top i = tt
as_dynamic net c (Inside i j) p =
    let z = inner_count-map_tree (λ g. net (gate_net g)) c.tree in
    (p.0, p.1, within j (inner_count (numbered net c.tree)) (inner_count c.tree) z p.2)
  where
    within : (j m n : ℕ) → m ≡ n → j < 1 + m → j < 1 + n
    within j m n z l = omega arith

module _ (devices : List Device) (is_source : ℕ → Bool) (net : Net → ℕ) (values : List Tri)
    (high : value_of values (net Vdd) ≡ One) (low : value_of values (net Vss) ≡ Zero) where
  -- with the clock at Zero each dynamic net goes to One
  pub spot_precharges : (style : Style) (at : Spot → ℕ) (k : CellSide) (c : DynamicStage) → IsTapped devices is_source at (dynamic style net k c) (dynamic_taps style net c)
      → value_of values (net (Clock c.clock)) ≡ Zero → (a : Spot) → IsDynamicSpot style c a → IsTarget devices is_source values (at a) One
  spot_precharges style at k c is z Top i = precharges devices is_source net values high low style at k c is z
  spot_precharges WithKeeper at k c is z (Inside i j) p = absurd p
  spot_precharges WithPrecharge at k c is z (Inside i j) p =
      cell.precharges devices is_source at (net Vdd) (net Vss) (net (Clock c.clock)) (numbered net c.tree) is values high low z (Inside i j) (as_precharged net c (Inside i j) p)

  -- One, or Zero by a definite strong path to ground
  abbrev pub IsHeldAt : ℕ → Type 0
  IsHeldAt x = (value_of values x ≡ One) ⊎ ((value_of values x ≡ Zero) × DefiniteStrong devices is_source values x (net Vss))

  -- with the clock at One a dynamic net that isn't at its target is One, and falls by a definite strong path to ground
  pub spot_falls : (style : Style) (at : Spot → ℕ) (k : CellSide) (c : DynamicStage) → IsTapped devices is_source at (dynamic style net k c) (dynamic_taps style net c)
      → is_source (net Vss) ≡ true → value_of values (net (Clock c.clock)) ≡ One → EachLeaf (λ g. IsKnown (value_of values (net (gate_net g)))) c.tree
      → ((a : Spot) → IsDynamicSpot style c a → IsHeldAt (at a))
      → (style ≡ WithKeeper → value_of values (at Top) ≡ One → value_of values (net (At (Output k.cell) Top)) ≡ Zero)
      → (a : Spot) → IsDynamicSpot style c a → (v : Tri) → IsTarget devices is_source values (at a) v → value_of values (at a) ≢ v
      → (value_of values (at a) ≡ One) × (v ≡ Zero) × DefiniteStrong devices is_source values (at a) (net Vss)
  spot_falls WithPrecharge at k c is src on leaves held out a i v t ne =
      cell.falls devices is_source at (net Vdd) (net Vss) (net (Clock c.clock)) (numbered net c.tree) is values high low on
      (EachLeaf-map (λ n. IsKnown (value_of values n)) (λ g. net (gate_net g)) c.tree leaves) (λ b j. held b (as_dynamic net c b j)) a (as_precharged net c a i) v t ne
  spot_falls WithKeeper at k c is src on leaves held out (Inside i j) p v t ne = absurd p
  spot_falls WithKeeper at k c is src on leaves held out Top i v t ne =
      by (IsKnown-tree_conduction nch (λ g. value_of values (net (gate_net g))) c.tree leaves) (held Top tt)
    where
      by : IsKnown (cell_conduction net values c) → IsHeldAt (at Top) → (value_of values (at Top) ≡ One) × (v ≡ Zero) × DefiniteStrong devices is_source values (at Top) (net Vss)
      by (inl z) (inl one) =
          let k = target_unique devices is_source values (at Top) v One t (keeper_holds devices is_source net values high low at k c is on z (out refl one)) in
          absurd (ne (one ∙ sym k))
      by (inl z) (inr h) = let o = pulled_conducts devices is_source net values high low WithKeeper at k c is src h.1 in let y : Zero ≡ One = sym z ∙ o in absurd (cc)
      by (inr z) (inl one) =
          (one, target_unique devices is_source values (at Top) v Zero t (evaluates devices is_source net values high low WithKeeper at k c is on z), pulls devices is_source net values high low WithKeeper at k c is on z)
      by (inr z) (inr h) =
          let w = target_unique devices is_source values (at Top) v Zero t (evaluates devices is_source net values high low WithKeeper at k c is on z) in
          absurd (ne (h.0 ∙ sym w))

  -- a cell whose tree doesn't conduct holds its dynamic net at One
  pub spot_holds : (style : Style) (at : Spot → ℕ) (k : CellSide) (c : DynamicStage) → IsTapped devices is_source at (dynamic style net k c) (dynamic_taps style net c)
      → is_source (net Vss) ≡ true → value_of values (net (Clock c.clock)) ≡ One → EachLeaf (λ g. IsKnown (value_of values (net (gate_net g)))) c.tree
      → ((a : Spot) → IsDynamicSpot style c a → IsHeldAt (at a))
      → (style ≡ WithKeeper → value_of values (at Top) ≡ One → value_of values (net (At (Output k.cell) Top)) ≡ Zero)
      → value_of values (at Top) ≡ One → cell_conduction net values c ≡ Zero → IsTarget devices is_source values (at Top) One
  spot_holds style at k c is src on leaves held out one z =
      let e = target_exists devices is_source values (at Top) (is.free Top tt) in
      elim (dec_tri One e.0) [
        | inl y ↦ rw y e.1
        | inr ne ↦
            let f = spot_falls style at k c is src on leaves held out Top tt e.0 e.1 (λ w. ne (sym one ∙ w)) in
            let o = pulled_conducts devices is_source net values high low style at k c is src f.2 in
            let y : Zero ≡ One = sym z ∙ o in absurd (cc)
      ]

-- a definite strong path to ground stays while leaves rise
module _ (devices : List Device) (is_source : ℕ → Bool) (net : Net → ℕ) (before after : List Tri)
    (high : value_of before (net Vdd) ≡ One) (low : value_of before (net Vss) ≡ Zero) (high' : value_of after (net Vdd) ≡ One) (low' : value_of after (net Vss) ≡ Zero) where
  pub spot_pulled : (style : Style) (at : Spot → ℕ) (k : CellSide) (c : DynamicStage) → IsTapped devices is_source at (dynamic style net k c) (dynamic_taps style net c)
      → is_source (net Vss) ≡ true → value_of before (net (Clock c.clock)) ≡ One → value_of after (net (Clock c.clock)) ≡ One
      → EachLeaf (λ g. value_of before (net (gate_net g)) ≡ One → value_of after (net (gate_net g)) ≡ One) c.tree
      → (a : Spot) → IsDynamicSpot style c a → DefiniteStrong devices is_source before (at a) (net Vss) → DefiniteStrong devices is_source after (at a) (net Vss)
  spot_pulled WithPrecharge at k c is src on on' rise a i g =
      cell.stays_pulled devices is_source at (net Vdd) (net Vss) (net (Clock c.clock)) (numbered net c.tree) is before after on on'
      (EachLeaf-map (λ n. value_of before n ≡ One → value_of after n ≡ One) (λ g. net (gate_net g)) c.tree rise) a
      (cell.precharged_spot devices is_source at (net Vdd) (net Vss) (net (Clock c.clock)) (numbered net c.tree) is a (as_precharged net c a i)) g
  spot_pulled WithKeeper at k c is src on on' rise (Inside i j) p g = absurd p
  spot_pulled WithKeeper at k c is src on on' rise Top i g =
      pulls devices is_source net after high' low' WithKeeper at k c is on'
      (tree_rises (λ g. value_of before (net (gate_net g))) (λ g. value_of after (net (gate_net g))) c.tree rise
      (pulled_conducts devices is_source net before high low WithKeeper at k c is src g))
