-- The devices of a cell's dynamic stage, in either style; and those of a stage without taps.
use Rattle.std.specs.List.{AllByRecursion}
use Rattle.std.specs.Prelude.{Contains}
use Rattle.std.proofs.Common.{List, [], arith, map, suc, zero, ℕ, ◌+◌, ◌<◌, ◌≡◌, refl}
use Rattle.std.proofs.lemmas.List.{append-nil}
use Rattle.dom_base.specs.declared.kind.Kind.TheVariants.{Keep, N as nch, P as pch}
use Rattle.dom_base.proofs.Lists.{AllByRecursion-append, AllByRecursion-contains, AllByRecursion-map, AllByRecursion-weaker}
use Rattle.deck.specs.declared.device.Device.{Device}
use Rattle.deck.specs.NamedDevices.{device_of}
use Rattle.sp_network.specs.Tree.{EachLeaf, Leaf, Parallel, Series, Tree, dual, inner_count, map_tree}
use Rattle.sp_network.proofs.TreeImages.{inner_count-map_tree}
use Rattle.domino_cell.specs.Stage.{Branch, Inside, Spot, Top, stage}
use Rattle.domino_cell.specs.Spelling.{spell}
use Rattle.domino_cell.proofs.Trees.{spell-kind}
use Rattle.stage_law.specs.Precharged.{taps_from}
use Rattle.domino_cell.specs.Tapped.{Tap, tap_card, tapped}
use Rattle.domino_law.specs.Branches.{dynamic, dynamic_taps, keepers, numbered, static_branches}
use Rattle.domino_law.specs.Honest.{IsDynamicSpot}
use Rattle.domino_law.specs.Nets.{At, Clock, Net, Output, Vdd, Vss, gate_net, CellSide}
use Rattle.domino_law.specs.Shape.{DynamicStage}
use Rattle.domino_cell.specs.declared.style.Style.{Style}
use Rattle.domino_cell.specs.declared.style.Style.TheVariants.{Keeper as WithKeeper, Precharge as WithPrecharge}
use Rattle.domino_law.proofs.Statics.{IsSeries}

pub untap : (at : Spot → ℕ) (bs : List Branch) (d : Device) → Contains (map device_of (tapped at bs [])) d → Contains (map device_of (stage at 0 bs)) d
untap at bs d m = rw append-nil at m

pub untap_as : (at : Spot → ℕ) (bs bs' : List Branch) (taps : List Tap) (d : Device) → bs ≡ bs' → taps ≡ [] → Contains (map device_of (tapped at bs taps)) d → Contains (map device_of (stage at 0 bs')) d
untap_as at bs bs' taps d e y m = rw e at (untap at bs d (rw y at m))

-- the tree and the foot are nch; each dynamic net has a precharge, and the top may have a keeper
pub dynamic_devices : (net : Net → ℕ) (F : Device → Type 0) (style : Style) (at : Spot → ℕ) (k : CellSide) (c : DynamicStage)
    → ((d : Device) → d.kind ≡ nch → F d)
    → ((a : Spot) → IsDynamicSpot style c a → F (record { kind = pch; drain = at a; gate = net (Clock c.clock); source = net Vdd }))
    → (style ≡ WithKeeper → F (record { kind = Keep; drain = at Top; gate = net (At (Output k.cell) Top); source = net Vdd }))
    → (d : Device) → Contains (map device_of (tapped at (dynamic style net k c) (dynamic_taps style net c))) d → F d
dynamic_devices net F style at k c nchs pulls keep d m =
    AllByRecursion-contains F (map device_of (tapped at (dynamic style net k c) (dynamic_taps style net c))) d
    (AllByRecursion-map F device_of (tapped at (dynamic style net k c) (dynamic_taps style net c))
    (AllByRecursion-append (λ c. F (device_of c)) (stage at 0 (dynamic style net k c)) (map (tap_card at) (dynamic_taps style net c))
    (AllByRecursion-append (λ c. F (device_of c)) (spell nch (λ j. at (Inside 0 j)) (Series (numbered net c.tree) (Leaf (net (Clock c.clock)))) (at Top) (net Vss) 0) _
    (AllByRecursion-weaker _ (λ c. F (device_of c)) (λ f t. nchs (device_of f) t) _ (spell-kind nch (λ j. at (Inside 0 j)) (Series (numbered net c.tree) (Leaf (net (Clock c.clock)))) (at Top) (net Vss) 0))
    (pulls Top tt, kept style keep))
    (AllByRecursion-map (λ c. F (device_of c)) (tap_card at) (dynamic_taps style net c) (taps style pulls)))) m
  where
    kept : (style : Style) → (style ≡ WithKeeper → F (record { kind = Keep; drain = at Top; gate = net (At (Output k.cell) Top); source = net Vdd }))
        → AllByRecursion (λ c. F (device_of c)) (stage at 2 (keepers style net k))
    kept WithKeeper f = (f refl, tt)
    kept WithPrecharge f = tt

    each : (i n : ℕ) → ((j : ℕ) → i < j → j < 1 + i + n → F (record { kind = pch; drain = at (Inside 0 j); gate = net (Clock c.clock); source = net Vdd }))
        → AllByRecursion (λ t. F (device_of (tap_card at t))) (taps_from (net Vdd) (net (Clock c.clock)) i n)
    each i zero f = tt
    each i (suc n) f = (f (1 + i) (omega arith) (omega arith), each (i + 1) n (λ j a b. f j (omega arith) (omega arith)))

    taps : (style : Style) → ((a : Spot) → IsDynamicSpot style c a → F (record { kind = pch; drain = at a; gate = net (Clock c.clock); source = net Vdd }))
        → AllByRecursion (λ t. F (device_of (tap_card at t))) (dynamic_taps style net c)
    taps WithKeeper f = tt
    taps WithPrecharge f =
        let z = inner_count-map_tree (λ g. net (gate_net g)) c.tree in
        each 0 (inner_count (numbered net c.tree)) (λ j a b. f (Inside 0 j) (refl, a, within j (inner_count (numbered net c.tree)) (inner_count c.tree) z b))
      where
        within : (j m n : ℕ) → m ≡ n → j < 1 + 0 + m → j < 1 + n
        within j m n z l = omega arith

-- the pull-up devices of a static gate whose nets stand in series, from its top to the high supply, one for each net; the others are nch
pub static_devices : (net : Net → ℕ) (F : Device → Type 0) (at : Spot → ℕ) (t : Tree Net) → IsSeries t → ((d : Device) → d.kind ≡ nch → F d)
    → EachLeaf (λ a. F (record { kind = pch; drain = at Top; gate = net a; source = net Vdd })) t
    → (d : Device) → Contains (map device_of (stage at 0 (static_branches net t))) d → F d
static_devices net F at t series nchs pulls d m =
    AllByRecursion-contains F (map device_of (stage at 0 (static_branches net t))) d
    (AllByRecursion-map F device_of (stage at 0 (static_branches net t))
    (AllByRecursion-append (λ c. F (device_of c)) (spell pch (λ j. at (Inside 0 j)) (map_tree net (dual t)) (at Top) (net Vdd) 0) _
    (up t series 0 pulls)
    (AllByRecursion-append (λ c. F (device_of c)) (spell nch (λ j. at (Inside 1 j)) (map_tree net t) (at Top) (net Vss) 0) []
    (AllByRecursion-weaker _ (λ c. F (device_of c)) (λ f z. nchs (device_of f) z) _ (spell-kind nch (λ j. at (Inside 1 j)) (map_tree net t) (at Top) (net Vss) 0)) tt))) m
  where
    up : (t : Tree Net) → IsSeries t → (k : ℕ) → EachLeaf (λ a. F (record { kind = pch; drain = at Top; gate = net a; source = net Vdd })) t
        → AllByRecursion (λ c. F (device_of c)) (spell pch (λ j. at (Inside 0 j)) (map_tree net (dual t)) (at Top) (net Vdd) k)
    up (Leaf gate) i k h = (h, tt)
    up (Series l r) i k h = AllByRecursion-append (λ c. F (device_of c)) _ _ (up l i.0 k h.0) (up r i.1 (k + inner_count (map_tree net (dual l))) h.1)
    up (Parallel l r) i k h = absurd i
