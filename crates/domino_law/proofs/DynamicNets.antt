-- The nets of cells are dynamic nets and domino outputs.
use Rattle.std.specs.List.{AllByRecursion}
use Rattle.std.specs.Prelude.{Contains, None, Option, Some}
use Rattle.std.proofs.Common.{[], arith, inl, inr, map, refl, suc, zero, ℕ, ◌+◌, ◌<◌, ◌∙◌, ◌≡◌}
use Rattle.std.proofs.lemmas.List.Elements.{recursion_from_All}
use Rattle.dom_base.specs.declared.kind.Kind.TheVariants.{N as nch, P as pch}
use Rattle.dom_base.proofs.Decided.{dec_nat}
use Rattle.dom_base.proofs.Lists.{AllByRecursion-left, AllByRecursion-right}
use Rattle.deck.specs.NamedDevices.{device_of}
use Rattle.deck.specs.declared.device.Device.{Device}
use Rattle.deck.specs.declared.role.Roles.{Roles}
use Rattle.domino_cell.specs.Spelling.{spell}
use Rattle.domino_cell.specs.Stage.{Inside, Spot, Top, stage}
use Rattle.sp_network.specs.Tree.{Leaf, Series, Tree, inner_count}
use Rattle.sp_network.proofs.TreeImages.{inner_count-map_tree}
use Rattle.switch_model.specs.LinksData.{LinksData, links_of}
use Rattle.stage_law.specs.Precharged.{taps_from}
use Rattle.domino_cell.specs.Tapped.{tap_card, tapped}
use Rattle.port_runs.specs.Periods.{IsClockPort, vdd_port}
use Rattle.port_runs.proofs.DynamicNets.{dynamic_as, output_as}
use Rattle.domino_law.specs.Branches.{dynamic, dynamic_taps, numbered, static_branches}
use Rattle.domino_law.specs.DynamicNets.{CellsAreDynamic, CellsAreDynamicByPorts, InvertersAreDomino, OutputsAreDominoByPorts}
use Rattle.domino_law.specs.Honest.{IsDynamicSpot}
use Rattle.domino_law.specs.Nets.{At, Clock, Dynamic, Net, Output, Vdd, Vss, gate_net, CellSide, Gate, left_side}
use Rattle.domino_law.specs.Periods.{IsDeckClock}
use Rattle.domino_law.specs.Settings.{HasPorts}
use Rattle.domino_law.specs.Shape.{DynamicStage, Shape, dynamic_nets}
use Rattle.domino_cell.specs.declared.style.Style.{Style}
use Rattle.domino_cell.specs.declared.style.Style.TheVariants.{Keeper as WithKeeper, Precharge as WithPrecharge}
use Rattle.domino_law.proofs.DeckParts.{dynamic_is}
use Rattle.domino_law.proofs.Statics.{left_is}

-- the precharge of a spot
abbrev precharge_of : ℕ → ℕ → ℕ → Device
precharge_of at clock vdd = record { kind = pch; drain = at; gate = clock; source = vdd }

-- what holds of the taps from number i on holds of the precharge of inner net j
tap_there : (F : Device → Type 0) (at : Spot → ℕ) (vdd clock i n : ℕ) → AllByRecursion (λ d. F (device_of d)) (map (tap_card at) (taps_from vdd clock i n))
    → (j : ℕ) → i < j → j < 1 + i + n → F (precharge_of (at (Inside 0 j)) clock vdd)
tap_there F at vdd clock i zero h j a b = absurd (omega arith)
tap_there F at vdd clock i (suc n) h j a b =
    elim (dec_nat j (1 + i)) [
      | inl z ↦ rw z h.0
      | inr ne ↦ tap_there F at vdd clock (i + 1) n h.1 j (omega arith) (omega arith)
    ]

-- each dynamic spot of a cell has its precharge
precharge_there : (F : Device → Type 0) (net : Net → ℕ) (style : Style) (at : Spot → ℕ) (k : CellSide) (c : DynamicStage)
    → AllByRecursion (λ d. F (device_of d)) (tapped at (dynamic style net k c) (dynamic_taps style net c))
    → (a : Spot) → IsDynamicSpot style c a → F (precharge_of (at a) (net (Clock c.clock)) (net Vdd))
precharge_there F net style at k c h Top i =
    (AllByRecursion-right (λ d. F (device_of d)) (spell nch (λ j. at (Inside 0 j)) (Series (numbered net c.tree) (Leaf (net (Clock c.clock)))) (at Top) (net Vss) 0) _
    (AllByRecursion-left (λ d. F (device_of d)) (stage at 0 (dynamic style net k c)) (map (tap_card at) (dynamic_taps style net c)) h)).0
precharge_there F net WithKeeper at k c h (Inside i j) p = absurd p
precharge_there F net WithPrecharge at k c h (Inside i j) p =
    let z = inner_count-map_tree (λ g. net (gate_net g)) c.tree in
    rw p.0 (tap_there F at (net Vdd) (net (Clock c.clock)) 0 (inner_count (numbered net c.tree))
    (AllByRecursion-right (λ d. F (device_of d)) (stage at 0 (dynamic WithPrecharge net k c)) (map (tap_card at) (dynamic_taps WithPrecharge net c)) h)
    j p.1 (within j (inner_count (numbered net c.tree)) (inner_count c.tree) z p.2))
  where
    within : (j m n : ℕ) → m ≡ n → j < 1 + n → j < 1 + 0 + m
    within j m n z l = omega arith

pub cells_are_dynamic : CellsAreDynamic
cells_are_dynamic links net s loose k c e a i =
    record {
      precharge = precharge_of (net (At (Dynamic k) a)) (net (Clock c.clock)) (net Vdd);
      there = precharge_there (Contains links.devices) net s.style (λ x. net (At (Dynamic k) x)) k c
          (recursion_from_All _ _ (dynamic_is loose.deck k c e).there) a i;
      kind_is = refl;
      gated = (c.clock, (loose.deck.shape).clocks_are k c e, refl);
      joined = inl (refl, refl);
    }

-- the pull-up device of a cell's left dynamic net
first_card : (F : Device → Type 0) (net : Net → ℕ) (at : Spot → ℕ) (k : ℕ) (r : Option (Tree Gate))
    → AllByRecursion (λ d. F (device_of d)) (tapped at (static_branches net (dynamic_nets k r)) []) → F (precharge_of (at Top) (net (At (Dynamic (left_side k)) Top)) (net Vdd))
first_card F net at k None h = h.0
first_card F net at k (Some t) h = h.0

pub inverters_are_domino : InvertersAreDomino
inverters_are_domino links net s loose k c e part b =
    let cards =
    recursion_from_All (λ d. Contains links.devices (device_of d)) (tapped (λ a. net (At part a)) (static_branches net (dynamic_nets k c.right)) [])
    (loose.deck.stages part (static_branches net (dynamic_nets k c.right)) [] b).there in
    record {
      pull_up = precharge_of (net (At part Top)) (net (At (Dynamic (left_side k)) Top)) (net Vdd);
      there = first_card (Contains links.devices) net (λ a. net (At part a)) k c.right cards;
      kind_is = refl;
      gated = cells_are_dynamic links net s loose (left_side k) _ (left_is s k c e) Top tt;
      joined = inl (refl, refl);
    }

-- by the ports of a circuit
clock_port : (roles : Roles) (links : LinksData) (net : Net → ℕ) (s : Shape) → HasPorts roles links net s → (g : ℕ) → IsDeckClock net s g → IsClockPort roles g
clock_port roles links net s ports g (clock, here, is) = (omega (arith, at), omega (arith, at, here, ports.clocks_are))
  where
    at : g ≡ 2 + clock
    at = is ∙ ports.numbers (Clock clock) here

pub cells_are_dynamic_by_ports : CellsAreDynamicByPorts
cells_are_dynamic_by_ports c roles net s loose ports k cell e a i =
    dynamic_as c.devices (IsDeckClock net s) (IsClockPort roles) (net Vdd) vdd_port (clock_port roles (links_of c roles) net s ports)
    (ports.numbers Vdd tt) (net (At (Dynamic k) a)) (cells_are_dynamic (links_of c roles) net s loose k cell e a i)

pub outputs_are_domino_by_ports : OutputsAreDominoByPorts
outputs_are_domino_by_ports c roles net s loose ports k cell e =
    output_as c.devices (IsDeckClock net s) (IsClockPort roles) (net Vdd) vdd_port (clock_port roles (links_of c roles) net s ports)
    (ports.numbers Vdd tt) (net (At (Output k) Top)) (inverters_are_domino (links_of c roles) net s loose k cell e (Output k) (cell, e, refl, refl))
