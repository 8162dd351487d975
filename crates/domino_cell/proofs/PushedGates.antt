-- A static gate that is appended to a circuit is a stage of it, and one supply alone drives its output.
use Rattle.std.proofs.Common.{◌≡◌, ℕ, zero, suc, ◌<◌, ◌≤◌, ◌^◌, Bool, true, false, List, [], ◌∷◌, ◌++◌, length, map, refl, sym, ap, ◌∙◌, subst, inl, inr, arith, append-nil, append_assoc, length-append, ap₂, All, Some, slice_get}
use Rattle.std.specs.Prelude.{◌⊎◌, ◌≢◌, Contains, codes}
use Rattle.std.specs.Fmt.{decimal}
use Rattle.std.specs.List.{AllByRecursion}
use Rattle.std.proofs.lemmas.Fmt.{decimal_injective, decimal_nonempty}
use Rattle.std.proofs.lemmas.List.{append_cancel_left, map-append}
use Rattle.std.proofs.lemmas.List.Elements.{All-from_recursion, Contains-append_cases}
use Rattle.dom_base.specs.declared.kind.Kind.TheVariants.{N as nch, P as pch, Keep}
use Rattle.dom_base.specs.declared.tri.Tri.{Tri}
use Rattle.dom_base.specs.declared.tri.Tri.TheVariants.{Zero, One}
use Rattle.dom_base.specs.Conduction.{conduction}
use Rattle.dom_base.proofs.Lists.{AllByRecursion-contains, AllByRecursion-left, AllByRecursion-right, AllByRecursion-weaker, tail_same}
use Rattle.deck.specs.CircuitData.{CircuitData}
use Rattle.deck.specs.NamedDevices.{NamedDevice, device_of, map_device, with_devices}
use Rattle.deck.specs.Nets.{IsCircuit, net_name, net_number}
use Rattle.deck.specs.NumberedDevices.{HasNumber, IsNumberedDevice}
use Rattle.deck.specs.Paths.{DefiniteStrong, Possible}
use Rattle.deck.specs.Sources.{is_source}
use Rattle.deck.specs.Switches.{value_of}
use Rattle.deck.specs.declared.device.Device.{Device}
use Rattle.deck.proofs.CircuitGrowth.{with_devices-append, with_devices-numbered}
use Rattle.deck.proofs.NetNumbers.{same_number}
use Rattle.sp_network.specs.Known.{is_not_zero, is_one}
use Rattle.sp_network.specs.Tree.{Tree, dual, inner_count, leaves, map_tree, tree_conduction}
use Rattle.sp_network.proofs.Duals.{one_conducts, tree_conduction-dual}
use Rattle.sp_network.proofs.TreeImages.{inner_count-map_tree, leaves-map_tree, tree_conduction-map_tree}
use Rattle.sp_network.proofs.TreeTests.{IsTest-is_not_zero, IsTest-is_one, is_not_zero-true, joins-conduction}
use Rattle.domino_cell.specs.NamedTrees.{inner_net, named_tree}
use Rattle.domino_cell.specs.PushedNames.{HasRoomForGate, IsUndriven, lower_front, static_gate, upper_front}
use Rattle.domino_cell.specs.PushedPaths.{IsDrivenByTree, named_value}
use Rattle.domino_cell.specs.Spelling.{spell}
use Rattle.domino_cell.specs.Stage.{Branch, IsSpot, IsStage, Spot, Inside, Top, stage}
use Rattle.domino_cell.specs.Steps.{IsStep, IsStrongStep}
use Rattle.domino_cell.specs.Tapped.{IsTapped, ways}
use Rattle.domino_cell.proofs.AppendedNets.{HasNumber-old, HasNumber-port, behind_no_source, devices_behind, kept_or_new, new_behind, old_in_range, old_number, old_source, port_is_source}
use Rattle.domino_cell.proofs.CellNetNames.{first_apart, supplies_apart}
use Rattle.domino_cell.proofs.NamedCells.{spell-inner, spell-top}
use Rattle.domino_cell.proofs.Paths.{Reach-from_any, definite_from_Reach}
use Rattle.domino_cell.proofs.PushedCells.{each_behind}
use Rattle.domino_cell.proofs.PushedTrees.{dual-map_tree, inner_count-below, leaves-dual}
use Rattle.domino_cell.proofs.Spellings.{spell-map_tree}
use Rattle.domino_cell.proofs.Stages.{goes, through}
use Rattle.domino_cell.proofs.Untapped.{as_tapped}

-- the branches of a static gate: from its output to vdd, and to vss
abbrev pub gate_branches : ℕ → ℕ → Tree ℕ → Tree ℕ → List Branch
gate_branches vdd vss upper lower = record { kind = pch; tree = upper; supply = vdd } ∷ record { kind = nch; tree = lower; supply = vss } ∷ []

module _ (devices : List Device) (is_source : ℕ → Bool) (at : Spot → ℕ) (bs : List Branch) (is : IsStage devices is_source at bs) (values : List Tri) where
  is_tapped : IsTapped devices is_source at bs []
  is_tapped = as_tapped devices is_source at bs is

  -- a branch that conducts joins the top of its stage to its supply
  pub joined_through : (i : ℕ) (b : Branch) → slice_get bs i ≡ Some b → b.kind ≢ Keep → tree_conduction b.kind (value_of values) b.tree ≡ One
      → DefiniteStrong devices is_source values (at Top) b.supply
  joined_through i b e strong one =
      definite_from_Reach devices is_source values (at Top) b.supply
      (goes devices is_source at bs [] is_tapped (IsStrongStep devices is_one values) (λ kind gate. is_one (conduction kind (value_of values gate))) i b e
      (λ d has k on. record { of = has; pass = on; strong = λ z. strong (sym k ∙ z) })
      (sym (joins-conduction is_one IsTest-is_one b.kind (value_of values) b.tree) ∙ ap is_one one))

  -- where no branch to a supply conducts no path joins the top to it
  pub apart_from : (s : ℕ) → is_source s ≡ true → AllByRecursion (λ b. s ≡ b.supply → tree_conduction b.kind (value_of values) b.tree ≡ Zero) bs
      → Possible devices is_source values (at Top) s → ⊥
  apart_from s source none p =
      let w = through devices is_source at bs [] is_tapped (IsStep devices is_not_zero values) (λ kind gate. is_not_zero (conduction kind (value_of values gate))) (λ d q. q.of) (λ d q. q.pass) s (Reach-from_any devices is_source values (at Top) s p) source in
      let same = joins-conduction is_not_zero IsTest-is_not_zero w.branch.kind (value_of values) w.branch.tree in
      is_not_zero-true _ (same ∙ w.conducts)
      (AllByRecursion-contains (λ b. s ≡ b.supply → tree_conduction b.kind (value_of values) b.tree ≡ Zero) (ways bs []) w.branch (rw append-nil none) w.among w.ends)

-- a name with more behind it is another name
longer_apart : (out front more : List ℕ) → 0 < length more → out ≢ (out ++ front) ++ more
longer_apart out front more some e = omega (arith, ap length e, length-append (out ++ front) more, length-append out front, some)

module _ (c : CircuitData) (out : List ℕ) (tree : Tree (List ℕ)) (circuit : IsCircuit c.ports c.nets c.devices) (room : HasRoomForGate c out)
    (few : leaves tree ≤ 2 ^ 24) where
  abbrev cards : List (NamedDevice (List ℕ))
  cards = static_gate out tree

  abbrev e : CircuitData
  e = with_devices c cards

  abbrev number : List ℕ → ℕ
  number = net_number e.nets

  -- the names of the gate's nets
  abbrev spot_name : Spot → List ℕ
  spot_name Top = out
  spot_name (Inside zero j) = inner_net (upper_front out) j
  spot_name (Inside (suc i) j) = inner_net (lower_front out) j

  abbrev at : Spot → ℕ
  at a = number (spot_name a)

  abbrev upper : Tree ℕ
  upper = map_tree number (dual tree)

  abbrev lower : Tree ℕ
  lower = map_tree number tree

  abbrev bs : List Branch
  bs = gate_branches (number (codes "vdd")) (number (codes "vss")) upper lower

  -- the devices: the old ones, and then those of the gate by the numbers of its nets
  cards_are : map (map_device number) cards ≡ stage at 0 bs
  cards_are =
      map-append (map_device number) (spell pch (inner_net (upper_front out)) (dual tree) out (codes "vdd") 0) (spell nch (inner_net (lower_front out)) tree out (codes "vss") 0)
      ∙ ap₂ ◌++◌ (spell-map_tree number pch (inner_net (upper_front out)) (dual tree) out (codes "vdd") 0)
      (spell-map_tree number nch (inner_net (lower_front out)) tree out (codes "vss") 0 ∙ sym (append-nil _))

  devices_are : e.devices ≡ c.devices ++ map device_of (stage at 0 bs)
  devices_are = devices_behind c cards circuit ∙ ap (λ cs. c.devices ++ map device_of cs) cards_are

  few_upper : inner_count (dual tree) ≤ 2 ^ 24
  few_upper = omega (arith, few, inner_count-below (dual tree), leaves-dual tree)

  few_lower : inner_count tree ≤ 2 ^ 24
  few_lower = omega (arith, few, inner_count-below tree)

  -- each net of the gate has a number
  vdd_at : HasNumber e.nets (codes "vdd")
  vdd_at = HasNumber-old c cards circuit (codes "vdd") (HasNumber-port c cards circuit (codes "vdd") room.vdd)

  vss_at : HasNumber e.nets (codes "vss")
  vss_at = HasNumber-old c cards circuit (codes "vss") (HasNumber-port c cards circuit (codes "vss") room.vss)

  upper_stand : AllByRecursion (IsNumberedDevice e.nets) (spell pch (inner_net (upper_front out)) (dual tree) out (codes "vdd") 0)
  upper_stand = AllByRecursion-left (IsNumberedDevice e.nets) _ (spell nch (inner_net (lower_front out)) tree out (codes "vss") 0) (with_devices-numbered c cards)

  lower_stand : AllByRecursion (IsNumberedDevice e.nets) (spell nch (inner_net (lower_front out)) tree out (codes "vss") 0)
  lower_stand = AllByRecursion-right (IsNumberedDevice e.nets) (spell pch (inner_net (upper_front out)) (dual tree) out (codes "vdd") 0) _ (with_devices-numbered c cards)

  out_at : HasNumber e.nets out
  out_at =
      spell-top (HasNumber e.nets) nch (inner_net (lower_front out)) tree out (codes "vss") 0
      (AllByRecursion-weaker (IsNumberedDevice e.nets) (λ d. HasNumber e.nets d.drain) (λ d h. h.0) _ lower_stand)

  upper_at : (j : ℕ) → j < inner_count (dual tree) → HasNumber e.nets (inner_net (upper_front out) j)
  upper_at j lt =
      spell-inner (HasNumber e.nets) pch (inner_net (upper_front out)) (dual tree) out (codes "vdd") 0 j
      (AllByRecursion-weaker (IsNumberedDevice e.nets) (λ d. HasNumber e.nets d.source) (λ d h. h.2) _ upper_stand) (omega arith) (omega arith)

  lower_at : (j : ℕ) → j < inner_count tree → HasNumber e.nets (inner_net (lower_front out) j)
  lower_at j lt =
      spell-inner (HasNumber e.nets) nch (inner_net (lower_front out)) tree out (codes "vss") 0 j
      (AllByRecursion-weaker (IsNumberedDevice e.nets) (λ d. HasNumber e.nets d.source) (λ d h. h.2) _ lower_stand) (omega arith) (omega arith)

  -- the inner nets of its branches
  below_upper : (j : ℕ) → IsSpot bs (Inside 0 j) → j < inner_count (dual tree)
  below_upper j (b, is, lt) =
      let same : record { kind = pch; tree = upper; supply = number (codes "vdd") } ≡ b = cc in
      omega (arith, lt, ap (λ (x : Branch). inner_count x.tree) same, inner_count-map_tree number (dual tree))

  below_lower : (j : ℕ) → IsSpot bs (Inside 1 j) → j < inner_count tree
  below_lower j (b, is, lt) =
      let same : record { kind = nch; tree = lower; supply = number (codes "vss") } ≡ b = cc in
      omega (arith, lt, ap (λ (x : Branch). inner_count x.tree) same, inner_count-map_tree number tree)

  no_more : (i j : ℕ) → IsSpot bs (Inside (suc (suc i)) j) → ⊥
  no_more i j (b, is, lt) = absurd (cc)

  spot_at : (a : Spot) → IsSpot bs a → HasNumber e.nets (spot_name a)
  spot_at Top h = out_at
  spot_at (Inside zero j) h = upper_at j (below_upper j h)
  spot_at (Inside (suc zero) j) h = lower_at j (below_lower j h)
  spot_at (Inside (suc (suc i)) j) h = absurd (no_more i j h)

  -- an inner net towards vdd is none towards vss
  fronts_apart : (j k : ℕ) → inner_net (upper_front out) j ≢ inner_net (lower_front out) k
  fronts_apart j k z =
      let same : codes "_p" ++ decimal j ≡ codes "_n" ++ decimal k
      = append_cancel_left out (codes "_p" ++ decimal j) (codes "_n" ++ decimal k) (sym (append_assoc out (codes "_p") (decimal j)) ∙ z ∙ append_assoc out (codes "_n") (decimal k)) in
      first_apart 112 110 (decimal j) (decimal k) (λ y. omega arith) (tail_same same)

  names_apart : (a b : Spot) → IsSpot bs a → IsSpot bs b → spot_name a ≡ spot_name b → a ≡ b
  names_apart Top Top ha hb z = refl
  names_apart Top (Inside zero k) ha hb z = absurd (longer_apart out (codes "_p") (decimal k) (decimal_nonempty k (omega (arith, below_upper k hb, few_upper))) z)
  names_apart Top (Inside (suc zero) k) ha hb z = absurd (longer_apart out (codes "_n") (decimal k) (decimal_nonempty k (omega (arith, below_lower k hb, few_lower))) z)
  names_apart Top (Inside (suc (suc i)) k) ha hb z = absurd (no_more i k hb)
  names_apart (Inside zero j) Top ha hb z = absurd (longer_apart out (codes "_p") (decimal j) (decimal_nonempty j (omega (arith, below_upper j ha, few_upper))) (sym z))
  names_apart (Inside (suc zero) j) Top ha hb z = absurd (longer_apart out (codes "_n") (decimal j) (decimal_nonempty j (omega (arith, below_lower j ha, few_lower))) (sym z))
  names_apart (Inside (suc (suc i)) j) b ha hb z = absurd (no_more i j ha)
  names_apart (Inside zero j) (Inside zero k) ha hb z =
      ap (Inside 0) (decimal_injective j k (omega (arith, below_upper j ha, few_upper)) (omega (arith, below_upper k hb, few_upper)) (append_cancel_left (upper_front out) (decimal j) (decimal k) z))
  names_apart (Inside (suc zero) j) (Inside (suc zero) k) ha hb z =
      ap (Inside 1) (decimal_injective j k (omega (arith, below_lower j ha, few_lower)) (omega (arith, below_lower k hb, few_lower)) (append_cancel_left (lower_front out) (decimal j) (decimal k) z))
  names_apart (Inside zero j) (Inside (suc zero) k) ha hb z = absurd (fronts_apart j k z)
  names_apart (Inside (suc zero) j) (Inside zero k) ha hb z = absurd (fronts_apart k j (sym z))
  names_apart (Inside zero j) (Inside (suc (suc i)) k) ha hb z = absurd (no_more i k hb)
  names_apart (Inside (suc zero) j) (Inside (suc (suc i)) k) ha hb z = absurd (no_more i k hb)

  -- nothing drove any of them
  undriven : (a : Spot) → IsUndriven c (spot_name a)
  undriven Top = room.output
  undriven (Inside zero j) = room.upper j
  undriven (Inside (suc i) j) = room.lower j

  free : (a : Spot) → is_source e (at a) ≡ false
  free a =
      elim (kept_or_new c (spot_name a)) [
        | inl kept ↦ old_source c cards circuit (spot_name a) kept ∙ (undriven a).0
        | inr new ↦ behind_no_source c cards circuit (at a) (new_behind c cards circuit (spot_name a) new)
      ]

  out_of_range : (d : Device) → Contains c.devices d → (n : ℕ) → length c.nets ≤ n → (d.drain ≡ n) ⊎ (d.source ≡ n) → ⊥
  out_of_range d old n behind (inl z) = omega (arith, z, behind, (old_in_range c cards circuit d old).drain)
  out_of_range d old n behind (inr z) = omega (arith, z, behind, (old_in_range c cards circuit d old).source)

  -- no device of before ends at one of them
  old_away : (d : Device) → Contains c.devices d → (a : Spot) → (d.drain ≡ at a) ⊎ (d.source ≡ at a) → ⊥
  old_away d old a ends =
      elim (kept_or_new c (spot_name a)) [
        | inl kept ↦
            let same = old_number c cards circuit (spot_name a) kept in
            let none = (undriven a).1 d old in
            elim ends [ inl z ↦ none.0 (z ∙ same) | inr z ↦ none.1 (z ∙ same) ]
        | inr new ↦ out_of_range d old (at a) (new_behind c cards circuit (spot_name a) new) ends
      ]

  -- the gate is a stage of the circuit
  IsStage-gate : IsStage e.devices (is_source e) at bs
  IsStage-gate = record {
    apart = λ a b ha hb z. names_apart a b ha hb (same_number e.nets (spot_name a) (spot_name b) (spot_at a ha) (spot_at b hb) z);
    free = λ a h. free a;
    supplies = All-from_recursion (λ b. is_source e b.supply ≡ true) bs (port_is_source c cards circuit (codes "vdd") room.vdd refl, (port_is_source c cards circuit (codes "vss") room.vss refl, tt));
    there =
        subst (λ ds. All (λ d. Contains ds (device_of d)) (stage at 0 bs)) (sym devices_are)
        (All-from_recursion (λ d. Contains (c.devices ++ map device_of (stage at 0 bs)) (device_of d)) (stage at 0 bs) (each_behind c.devices (stage at 0 bs)));
    alone = λ d a h has ends.
        elim (Contains-append_cases c.devices (map device_of (stage at 0 bs)) d (subst (λ ds. Contains ds d) devices_are has)) [
          | inl old ↦ absurd (old_away d old a ends)
          | inr own ↦ own
        ];
  }

  supplies_differ : number (codes "vdd") ≢ number (codes "vss")
  supplies_differ z = supplies_apart (same_number e.nets (codes "vdd") (codes "vss") vdd_at vss_at z)

  no_keeper_above : pch ≢ Keep
  no_keeper_above z = cc

  no_keeper_below : nch ≢ Keep
  no_keeper_below z = cc

  -- one supply alone drives its output
  pub IsDrivenByTree-pushed : IsDrivenByTree e out tree
  IsDrivenByTree-pushed values known =
      elim (one_conducts nch pch tree (dual tree) (tree_conduction-dual nch pch (λ v. refl) tree) (named_value e values) known) [
        | inl h ↦ inl (
          h.0,
          record {
            joined = joined_through e.devices (is_source e) at bs IsStage-gate values 1 _ refl no_keeper_below (below ∙ h.0);
            apart = apart_from e.devices (is_source e) at bs IsStage-gate values (number (codes "vdd")) (port_is_source c cards circuit (codes "vdd") room.vdd refl)
                ((λ z. above ∙ h.1), ((λ z. absurd (supplies_differ z)), tt));
          },
        )
        | inr h ↦ inr (
          h.0,
          record {
            joined = joined_through e.devices (is_source e) at bs IsStage-gate values 0 _ refl no_keeper_above (above ∙ h.1);
            apart = apart_from e.devices (is_source e) at bs IsStage-gate values (number (codes "vss")) (port_is_source c cards circuit (codes "vss") room.vss refl)
                ((λ z. absurd (supplies_differ (sym z))), ((λ z. below ∙ h.0), tt));
          },
        )
      ]
    where
      above : tree_conduction pch (value_of values) upper ≡ tree_conduction pch (named_value e values) (dual tree)
      above = tree_conduction-map_tree pch (value_of values) number (dual tree)

      below : tree_conduction nch (value_of values) lower ≡ tree_conduction nch (named_value e values) tree
      below = tree_conduction-map_tree nch (value_of values) number tree

-- a circuit to which the devices of a static gate were appended has its output driven by its tree
pub IsDrivenByTree-gate : (old new : CircuitData) (out : List ℕ) (gates : List (List ℕ)) (tree : Tree ℕ)
    → IsCircuit old.ports old.nets old.devices → HasRoomForGate old out → leaves tree ≤ 2 ^ 24
    → new ≡ with_devices old (static_gate out (named_tree gates tree)) → IsDrivenByTree new out (named_tree gates tree)
IsDrivenByTree-gate old new out gates tree circuit room few is =
    subst (λ (c : CircuitData). IsDrivenByTree c out (named_tree gates tree)) (sym is)
    (IsDrivenByTree-pushed old out (named_tree gates tree) circuit room (omega (arith, few, leaves-map_tree (net_name gates) tree)))

-- the devices of a static gate, appended part by part
pub gate_devices_pushed : (old between new : CircuitData) (out : List ℕ) (gates : List (List ℕ)) (tree : Tree ℕ)
    → between ≡ with_devices old (spell pch (inner_net (upper_front out)) (named_tree gates (dual tree)) out (codes "vdd") 0)
    → new ≡ with_devices between (spell nch (inner_net (lower_front out)) (named_tree gates tree) out (codes "vss") 0)
    → new ≡ with_devices old (static_gate out (named_tree gates tree))
gate_devices_pushed old between new out gates tree one two =
    let low = spell nch (inner_net (lower_front out)) (named_tree gates tree) out (codes "vss") 0 in
    two
    ∙ ap (λ c. with_devices c low) one
    ∙ sym (with_devices-append old (spell pch (inner_net (upper_front out)) (named_tree gates (dual tree)) out (codes "vdd") 0) low)
    ∙ ap (λ t. with_devices old (spell pch (inner_net (upper_front out)) t out (codes "vdd") 0 ++ low)) (dual-map_tree (net_name gates) tree)
