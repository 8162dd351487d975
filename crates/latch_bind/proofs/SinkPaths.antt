-- The inverter of a sink that is appended to a circuit is a stage of it, and one supply alone drives its output.
use Rattle.std.proofs.Common.{◌≡◌, ℕ, zero, suc, ◌<◌, ◌≤◌, false, List, ◌++◌, length, map, refl, sym, ◌∙◌, subst, inl, inr, arith, nat_eq, All, true}
use Rattle.std.specs.Prelude.{◌⊎◌, ◌≢◌, Contains, codes}
use Rattle.std.specs.Cmp.Lexicographic.{pointwise}
use Rattle.std.proofs.lemmas.List.Elements.{All-from_recursion, Contains-append_cases}
use Rattle.dom_base.specs.declared.kind.Kind.TheVariants.{N as nch, P as pch, Keep}
use Rattle.deck.specs.CircuitData.{CircuitData}
use Rattle.deck.specs.NamedDevices.{NamedDevice, device_of, with_devices}
use Rattle.deck.specs.Nets.{IsCircuit, net_number}
use Rattle.deck.specs.NumberedDevices.{HasNumber}
use Rattle.deck.specs.Sources.{is_source}
use Rattle.deck.specs.declared.device.Device.{Device}
use Rattle.deck.proofs.NetNumbers.{HasNumber-below, number_cases, same_number}
use Rattle.sp_network.specs.Tree.{Tree, Leaf, inner_count}
use Rattle.sp_network.proofs.Duals.{one_conducts, tree_conduction-dual}
use Rattle.domino_cell.specs.PushedNames.{IsNewNet}
use Rattle.domino_cell.specs.PushedPaths.{IsDrivenByTree, named_value}
use Rattle.domino_cell.specs.Stage.{Branch, IsSpot, IsStage, Spot, Inside, Top, stage}
use Rattle.domino_cell.proofs.AppendedNets.{HasNumber-old, HasNumber-port, behind_no_source, devices_behind, new_behind, old_in_range, old_number, old_source, port_is_source}
use Rattle.domino_cell.proofs.CellNetNames.{supplies_apart}
use Rattle.domino_cell.proofs.PushedCells.{each_behind}
use Rattle.domino_cell.proofs.PushedGates.{apart_from, gate_branches, joined_through}
use Rattle.latch_bind.specs.Sinks.{HasRoomForSink, sink_inverter}

module _ (c : CircuitData) (gate out : List ℕ) (circuit : IsCircuit c.ports c.nets c.devices) (room : HasRoomForSink c out) where
  abbrev cards : List (NamedDevice (List ℕ))
  cards = sink_inverter gate out

  abbrev e : CircuitData
  e = with_devices c cards

  abbrev number : List ℕ → ℕ
  number = net_number e.nets

  -- the one net of the inverter's stage is its output
  abbrev at : Spot → ℕ
  at a = number out

  abbrev leaf : Tree ℕ
  leaf = Leaf (number gate)

  abbrev bs : List Branch
  bs = gate_branches (number (codes "vdd")) (number (codes "vss")) leaf leaf

  -- the devices: the old ones, and then those of the inverter by the numbers of its nets
  devices_are : e.devices ≡ c.devices ++ map device_of (stage at 0 bs)
  devices_are = devices_behind c cards circuit

  vdd_at : HasNumber e.nets (codes "vdd")
  vdd_at = HasNumber-old c cards circuit (codes "vdd") (HasNumber-port c cards circuit (codes "vdd") room.vdd)

  vss_at : HasNumber e.nets (codes "vss")
  vss_at = HasNumber-old c cards circuit (codes "vss") (HasNumber-port c cards circuit (codes "vss") room.vss)

  -- a leaf has no inner nets
  none_inside : (i j : ℕ) → IsSpot bs (Inside i j) → ⊥
  none_inside zero j (b, is, lt) =
      let same : record { kind = pch; tree = leaf; supply = number (codes "vdd") } ≡ b = cc in
      let none : j < 0 = subst (λ (x : Branch). j < inner_count x.tree) (sym same) lt in
      omega (arith, none)
  none_inside (suc zero) j (b, is, lt) =
      let same : record { kind = nch; tree = leaf; supply = number (codes "vss") } ≡ b = cc in
      let none : j < 0 = subst (λ (x : Branch). j < inner_count x.tree) (sym same) lt in
      omega (arith, none)
  none_inside (suc (suc i)) j (b, is, lt) = absurd (cc)

  names_apart : (a b : Spot) → IsSpot bs a → IsSpot bs b → a ≡ b
  names_apart Top Top ha hb = refl
  names_apart Top (Inside i j) ha hb = absurd (none_inside i j hb)
  names_apart (Inside i j) b ha hb = absurd (none_inside i j ha)

  -- the output is a net of before, or new
  abbrev IsKeptOrNew : Type 0
  IsKeptOrNew = HasNumber c.nets out ⊎ IsNewNet c out

  kept_or_new : IsKeptOrNew
  kept_or_new = elim (number_cases (pointwise nat_eq out) c.nets) [ inl h ↦ inl (HasNumber-below c.nets out h.1) | inr h ↦ inr h.0 ]

  free : is_source e (number out) ≡ false
  free =
      elim kept_or_new [
        | inl kept ↦ old_source c cards circuit out kept ∙ room.no_source
        | inr new ↦ behind_no_source c cards circuit (number out) (new_behind c cards circuit out new)
      ]

  out_of_range : (d : Device) → Contains c.devices d → (n : ℕ) → length c.nets ≤ n → (d.drain ≡ n) ⊎ (d.source ≡ n) → ⊥
  out_of_range d old n behind (inl z) = omega (arith, z, behind, (old_in_range c cards circuit d old).drain)
  out_of_range d old n behind (inr z) = omega (arith, z, behind, (old_in_range c cards circuit d old).source)

  -- no device of before ends at it
  old_away : (d : Device) → Contains c.devices d → (d.drain ≡ number out) ⊎ (d.source ≡ number out) → ⊥
  old_away d old ends =
      elim kept_or_new [
        | inl kept ↦
            let same = old_number c cards circuit out kept in
            let none = room.none_ends d old in
            elim ends [ inl z ↦ none.0 (z ∙ same) | inr z ↦ none.1 (z ∙ same) ]
        | inr new ↦ out_of_range d old (number out) (new_behind c cards circuit out new) ends
      ]

  -- the inverter is a stage of the circuit
  IsStage-sink : IsStage e.devices (is_source e) at bs
  IsStage-sink = record {
    apart = λ a b ha hb z. names_apart a b ha hb;
    free = λ a h. free;
    supplies = All-from_recursion (λ b. is_source e b.supply ≡ true) bs (port_is_source c cards circuit (codes "vdd") room.vdd refl, (port_is_source c cards circuit (codes "vss") room.vss refl, tt));
    there =
        subst (λ ds. All (λ d. Contains ds (device_of d)) (stage at 0 bs)) (sym devices_are)
        (All-from_recursion (λ d. Contains (c.devices ++ map device_of (stage at 0 bs)) (device_of d)) (stage at 0 bs) (each_behind c.devices (stage at 0 bs)));
    alone = λ d a h has ends.
        elim (Contains-append_cases c.devices (map device_of (stage at 0 bs)) d (subst (λ ds. Contains ds d) devices_are has)) [
          | inl old ↦ absurd (old_away d old ends)
          | inr own ↦ own
        ];
  }

  supplies_differ : number (codes "vdd") ≢ number (codes "vss")
  supplies_differ z = supplies_apart (same_number e.nets (codes "vdd") (codes "vss") vdd_at vss_at z)

  no_keeper_above : pch ≢ Keep
  no_keeper_above z = cc

  no_keeper_below : nch ≢ Keep
  no_keeper_below z = cc

  -- one supply alone drives its output
  pub IsDrivenByTree-pushed : IsDrivenByTree e out (Leaf gate)
  IsDrivenByTree-pushed values known =
      elim (one_conducts nch pch (Leaf gate) (Leaf gate) (tree_conduction-dual nch pch (λ v. refl) (Leaf gate)) (named_value e values) known) [
        | inl h ↦ inl (
          h.0,
          record {
            joined = joined_through e.devices (is_source e) at bs IsStage-sink values 1 _ refl no_keeper_below h.0;
            apart = apart_from e.devices (is_source e) at bs IsStage-sink values (number (codes "vdd")) (port_is_source c cards circuit (codes "vdd") room.vdd refl)
                ((λ z. h.1), ((λ z. absurd (supplies_differ z)), tt));
          },
        )
        | inr h ↦ inr (
          h.0,
          record {
            joined = joined_through e.devices (is_source e) at bs IsStage-sink values 0 _ refl no_keeper_above h.1;
            apart = apart_from e.devices (is_source e) at bs IsStage-sink values (number (codes "vss")) (port_is_source c cards circuit (codes "vss") room.vss refl)
                ((λ z. absurd (supplies_differ (sym z))), ((λ z. h.0), tt));
          },
        )
      ]

-- a circuit to which the inverter of a sink was appended has its output driven by the sink's gate
pub IsDrivenByTree-sink : (old new : CircuitData) (gate out : List ℕ)
    → IsCircuit old.ports old.nets old.devices → HasRoomForSink old out → new ≡ with_devices old (sink_inverter gate out) → IsDrivenByTree new out (Leaf gate)
IsDrivenByTree-sink old new gate out circuit room is =
    subst (λ (c : CircuitData). IsDrivenByTree c out (Leaf gate)) (sym is) (IsDrivenByTree-pushed old gate out circuit room)
