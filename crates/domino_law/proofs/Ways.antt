-- The ways out of a cell, in either style; and the gates of a stage with taps.
use Rattle.std.specs.List.{AllByRecursion}
use Rattle.std.specs.Prelude.{Contains}
use Rattle.std.proofs.Common.{List, [], map, suc, zero, ℕ, ◌++◌, ◌+◌, ◌∷◌}
use Rattle.dom_base.specs.declared.kind.Kind.TheVariants.{Keep, P as pch}
use Rattle.dom_base.proofs.Lists.{AllByRecursion-append, AllByRecursion-contains, AllByRecursion-left, AllByRecursion-map, AllByRecursion-right}
use Rattle.deck.specs.declared.device.Device.{Device}
use Rattle.deck.specs.NamedDevices.{device_of}
use Rattle.sp_network.specs.Tree.{EachLeaf, Leaf, inner_count}
use Rattle.domino_cell.specs.Stage.{Branch, Spot, Top, stage}
use Rattle.stage_law.specs.Precharged.{taps_from}
use Rattle.domino_cell.specs.Tapped.{Tap, tap_branch, tap_card, tapped, ways}
use Rattle.stage_law.proofs.GateCards.{stage-card_gates}
use Rattle.domino_law.specs.Branches.{dynamic_taps, keepers, numbered}
use Rattle.domino_law.specs.Nets.{At, Clock, Net, Output, Vdd, CellSide}
use Rattle.domino_law.specs.Shape.{DynamicStage}
use Rattle.domino_cell.specs.declared.style.Style.{Style}
use Rattle.domino_cell.specs.declared.style.Style.TheVariants.{Keeper as WithKeeper, Precharge as WithPrecharge}

abbrev pub pre_branch : (Net → ℕ) → DynamicStage → Branch
pre_branch net c = record { kind = pch; tree = Leaf (net (Clock c.clock)); supply = net Vdd }

-- but for the tree and the precharge they are a keeper, or do what the precharge does
pub other_ways : (net : Net → ℕ) (F : Branch → Type 0) (style : Style) (k : CellSide) (c : DynamicStage) → F (pre_branch net c)
    → F (record { kind = Keep; tree = Leaf (net (At (Output k.cell) Top)); supply = net Vdd }) → AllByRecursion F (keepers style net k ++ map tap_branch (dynamic_taps style net c))
other_ways net F WithKeeper k c p h = (h, tt)
other_ways net F WithPrecharge k c p h = each 0 (inner_count (numbered net c.tree))
  where
    each : (i n : ℕ) → AllByRecursion F (map tap_branch (taps_from (net Vdd) (net (Clock c.clock)) i n))
    each i zero = tt
    each i (suc n) = (p, each (i + 1) n)

-- the gates of the devices of a stage are the leaves of its ways
pub tapped-gates : (F : ℕ → Type 0) (at : Spot → ℕ) (bs : List Branch) (taps : List Tap) → AllByRecursion (λ b. EachLeaf F b.tree) (ways bs taps)
    → (d : Device) → Contains (map device_of (tapped at bs taps)) d → F d.gate
tapped-gates F at bs taps h d c =
    AllByRecursion-contains (λ d. F d.gate) (map device_of (tapped at bs taps)) d
    (AllByRecursion-map (λ d. F d.gate) device_of (tapped at bs taps)
    (AllByRecursion-append (λ c. F c.gate) (stage at 0 bs) (map (tap_card at) taps)
    (stage-card_gates F at bs (AllByRecursion-left _ bs (map tap_branch taps) h))
    (AllByRecursion-map (λ c. F c.gate) (tap_card at) taps (each taps (AllByRecursion-right (λ b. EachLeaf F b.tree) bs (map tap_branch taps) h))))) c
  where
    each : (ts : List Tap) → AllByRecursion (λ b. EachLeaf F b.tree) (map tap_branch ts) → AllByRecursion (λ t. F t.gate) ts
    each [] k = tt
    each (t ∷ ts) k = (k.0, each ts k.1)
