-- A domino cell that is appended to a circuit stands in it, and so does each stage; its tree joins the dynamic net to the foot net.
use Rattle.std.proofs.Common.{◌≡◌, ℕ, ◌<◌, ◌≤◌, ◌^◌, false, List, [], ◌∷◌, ◌++◌, length, map, refl, sym, ap, ◌∙◌, subst, inl, inr, arith, nat_eq, append-nil, All}
use Rattle.std.specs.Prelude.{◌⊎◌, ◌≢◌, Contains, codes}
use Rattle.std.specs.Fmt.{decimal}
use Rattle.std.specs.List.{starts_with, AllByRecursion}
use Rattle.std.proofs.lemmas.Fmt.{decimal_injective}
use Rattle.std.proofs.lemmas.List.{append_cancel_left, map-append}
use Rattle.std.proofs.lemmas.List.Elements.{All-from_recursion, Contains-append_cases, Contains-append_right}
use Rattle.dom_base.specs.declared.kind.Kind.TheVariants.{N as nch, P as pch}
use Rattle.dom_base.proofs.Lists.{AllByRecursion-both, AllByRecursion-contains, AllByRecursion-left, AllByRecursion-map, AllByRecursion-right, AllByRecursion-weaker}
use Rattle.deck.specs.CircuitData.{CircuitData}
use Rattle.deck.specs.NamedDevices.{NamedDevice, device_of, map_device, with_devices}
use Rattle.deck.specs.Nets.{IsCircuit, IsInRange, net_name, net_number}
use Rattle.deck.specs.NumberedDevices.{HasNumber, IsNumberedDevice}
use Rattle.deck.specs.Sources.{is_source}
use Rattle.deck.specs.Switches.{value_of}
use Rattle.deck.specs.declared.device.Device.{Device}
use Rattle.deck.proofs.CircuitGrowth.{with_devices-numbered}
use Rattle.deck.proofs.NetNumbers.{same_number}
use Rattle.sp_network.specs.Tree.{Tree, inner_count, leaves, map_tree}
use Rattle.sp_network.proofs.TreeImages.{inner_count-map_tree, tree_conduction-map_tree}
use Rattle.domino_cell.specs.Cell.{CellNets, IsStageNet, inverter, map_nets}
use Rattle.domino_cell.specs.HeldNames.{AreNamesOfCell, held_nets}
use Rattle.domino_cell.specs.NamedTrees.{inner_net, named_tree}
use Rattle.domino_cell.specs.PushedNames.{HasRoomForCell, IsNewNet, IsPort, numbered_cell}
use Rattle.domino_cell.specs.PushedPaths.{HoldsCell, HoldsStage, JoinsWhereOne, MayJoinWhereNotZero}
use Rattle.domino_cell.specs.Spelling.{spell}
use Rattle.domino_cell.specs.declared.style.Style.{Style}
use Rattle.domino_cell.specs.StyledCells.{behind_precharge, pull_down_cards, styled_cell, styled_stage}
use Rattle.domino_cell.specs.declared.names.CellNames.{CellNames}
use Rattle.domino_cell.proofs.AppendedNets.{HasNumber-old, HasNumber-port, behind_no_source, devices_behind, new_behind, old_below, old_in_range, port_is_source}
use Rattle.domino_cell.proofs.CellLaws.{joins_foot_where_one, may_join_foot_where_not_zero}
use Rattle.domino_cell.proofs.CellNetNames.{first_apart, supplies_apart}
use Rattle.domino_cell.proofs.NamedCells.{each_there, spell-inner}
use Rattle.domino_cell.proofs.PushedTrees.{inner_count-below}
use Rattle.domino_cell.proofs.StyledCells.{styled_cell-parts, styled_stage-map_tree}

-- the devices of a list stand in it, behind others
pub each_behind : (front : List Device) (xs : List (NamedDevice ℕ)) → AllByRecursion (λ d. Contains (front ++ map device_of xs) (device_of d)) xs
each_behind front xs =
    AllByRecursion-weaker (λ d. Contains (map device_of xs ++ []) (device_of d)) (λ d. Contains (front ++ map device_of xs) (device_of d))
    (λ d h. Contains-append_right front (map device_of xs) (device_of d) (subst (λ ds. Contains ds (device_of d)) (append-nil (map device_of xs)) h)) xs (each_there xs [])

-- the names of a stage's nets differ, and its supplies are no outputs
pub record AreStageNames (nets : CellNets (List ℕ)) (tree : Tree (List ℕ)) : Type 0 where
  pub vdd_in : starts_with nat_eq nets.vdd (codes "o_") ≡ false
  pub vss_in : starts_with nat_eq nets.vss (codes "o_") ≡ false
  pub supplies : nets.vdd ≢ nets.vss
  pub foot_apart : nets.dynamic ≢ nets.foot
  pub inner_apart : (j : ℕ) → j < inner_count tree → (nets.inner j ≢ nets.dynamic) × (nets.inner j ≢ nets.foot)
  pub inners_apart : (i j : ℕ) → i < inner_count tree → j < inner_count tree → nets.inner i ≡ nets.inner j → i ≡ j

-- the card ends at no net of the stage
abbrev pub IsAwayCard : CellNets (List ℕ) → Tree (List ℕ) → NamedDevice (List ℕ) → Type 0
IsAwayCard nets tree d = (name : List ℕ) → IsStageNet nets tree name → (d.drain ≢ name) × (d.source ≢ name)

-- a net of a stage is new
pub stage_new : (c : CircuitData) (nets : CellNets (List ℕ)) (tree : Tree (List ℕ)) → HasRoomForCell c nets → (name : List ℕ) → IsStageNet nets tree name → IsNewNet c name
stage_new c nets tree room name (inl z) = subst (IsNewNet c) (sym z) room.dynamic
stage_new c nets tree room name (inr (inl z)) = subst (IsNewNet c) (sym z) room.foot
stage_new c nets tree room name (inr (inr (j, lt, z))) = subst (IsNewNet c) (sym z) (room.inner j)

-- a port has no name of a new net
pub port_not_new : (c : CircuitData) → IsCircuit c.ports c.nets c.devices → (port name : List ℕ) → IsPort c port → IsNewNet c name → port ≢ name
port_not_new c circuit port name is new z =
    omega (arith, ap (net_number c.nets) z, new_behind c [] circuit name new, old_below c [] circuit port (HasNumber-port c [] circuit port is))

module _ (style : Style) (c : CircuitData) (before behind : List (NamedDevice (List ℕ))) (nets : CellNets (List ℕ)) (tree : Tree (List ℕ))
    (circuit : IsCircuit c.ports c.nets c.devices) (room : HasRoomForCell c nets) (names : AreStageNames nets tree)
    (before_away : AllByRecursion (IsAwayCard nets tree) before) (behind_away : AllByRecursion (IsAwayCard nets tree) behind) where
  abbrev own : List (NamedDevice (List ℕ))
  own = styled_stage style nets tree

  abbrev cards : List (NamedDevice (List ℕ))
  cards = before ++ (own ++ behind)

  abbrev e : CircuitData
  e = with_devices c cards

  abbrev number : List ℕ → ℕ
  number = net_number e.nets

  abbrev image_nets : CellNets ℕ
  image_nets = map_nets number nets

  abbrev image_tree : Tree ℕ
  image_tree = map_tree number tree

  abbrev devices_of : List (NamedDevice (List ℕ)) → List Device
  devices_of ds = map device_of (map (map_device number) ds)

  -- the devices: the old ones, those before, those of the stage by the numbers of its nets, and those behind
  own_devices : devices_of own ≡ map device_of (styled_stage style image_nets image_tree)
  own_devices = ap (map device_of) (styled_stage-map_tree number style nets tree)

  devices_are : e.devices ≡ c.devices ++ (devices_of before ++ (map device_of (styled_stage style image_nets image_tree) ++ devices_of behind))
  devices_are =
      devices_behind c cards circuit
      ∙ ap (λ ds. c.devices ++ ds)
      (parts before (own ++ behind) ∙ ap (λ ds. devices_of before ++ ds) (parts own behind ∙ ap (λ ds. ds ++ devices_of behind) own_devices))
    where
      parts : (xs ys : List (NamedDevice (List ℕ))) → devices_of (xs ++ ys) ≡ devices_of xs ++ devices_of ys
      parts xs ys = ap (map device_of) (map-append (map_device number) xs ys) ∙ map-append device_of (map (map_device number) xs) (map (map_device number) ys)

  -- each card has numbers
  stand : AllByRecursion (IsNumberedDevice e.nets) cards
  stand = with_devices-numbered c cards

  own_stand : AllByRecursion (IsNumberedDevice e.nets) own
  own_stand = AllByRecursion-left (IsNumberedDevice e.nets) own behind (AllByRecursion-right (IsNumberedDevice e.nets) before (own ++ behind) stand)

  -- and so has each net of the stage
  record HasNumbers : Type 0 where
    dynamic : HasNumber e.nets nets.dynamic
    foot : HasNumber e.nets nets.foot
    inner : (j : ℕ) → j < inner_count tree → HasNumber e.nets (nets.inner j)

  have : HasNumbers
  have =
      let P = IsNumberedDevice e.nets in
      let spelled = spell nch nets.inner tree nets.dynamic nets.foot 0 in
      let foot_device : NamedDevice (List ℕ) = record { kind = nch; drain = nets.foot; gate = nets.clock; source = nets.vss } in
      let first : NamedDevice (List ℕ) = record { kind = pch; drain = nets.dynamic; gate = nets.clock; source = nets.vdd } in
      let of_rest = AllByRecursion-right P (first ∷ behind_precharge style nets (inner_count tree)) (pull_down_cards nets tree) own_stand in
      let of_tree = AllByRecursion-left P spelled (foot_device ∷ []) of_rest in
      let of_foot = AllByRecursion-right P spelled (foot_device ∷ []) of_rest in
      record {
        dynamic = own_stand.0.0;
        foot = of_foot.0.0;
        inner = λ j lt.
            spell-inner (HasNumber e.nets) nch nets.inner tree nets.dynamic nets.foot 0 j
            (AllByRecursion-weaker P (λ d. HasNumber e.nets d.source) (λ d h. h.2) spelled of_tree) (omega arith) (omega arith);
      }

  vdd_at : HasNumber e.nets nets.vdd
  vdd_at = HasNumber-old c cards circuit nets.vdd (HasNumber-port c cards circuit nets.vdd room.vdd)

  vss_at : HasNumber e.nets nets.vss
  vss_at = HasNumber-old c cards circuit nets.vss (HasNumber-port c cards circuit nets.vss room.vss)

  below_count : (j : ℕ) → j < inner_count image_tree → j < inner_count tree
  below_count j lt = omega (arith, lt, inner_count-map_tree number tree)

  -- a net of the dynamic stage is the number of one of its names
  record OfStage (n : ℕ) : Type 0 where
    name : List ℕ
    is : IsStageNet nets tree name
    at : HasNumber e.nets name
    number_is : n ≡ number name

  of_stage : (n : ℕ) → IsStageNet image_nets image_tree n → OfStage n
  of_stage n (inl z) = record { name = nets.dynamic; is = inl refl; at = have.dynamic; number_is = z }
  of_stage n (inr (inl z)) = record { name = nets.foot; is = inr (inl refl); at = have.foot; number_is = z }
  of_stage n (inr (inr (j, lt, z))) =
      let lt' : j < inner_count tree = below_count j lt in
      record { name = nets.inner j; is = inr (inr (j, lt', refl)); at = have.inner j lt'; number_is = z }

  -- and it is behind the nets of before
  stage_behind : (n : ℕ) → IsStageNet image_nets image_tree n → length c.nets ≤ n
  stage_behind n is = let s = of_stage n is in omega (arith, s.number_is, new_behind c cards circuit s.name (stage_new c nets tree room s.name s.is))

  -- a device that does not end at a net of the dynamic stage
  IsAway : Device → Type 0
  IsAway d = (n : ℕ) → IsStageNet image_nets image_tree n → (d.drain ≡ n) ⊎ (d.source ≡ n) → ⊥

  old_away : (d : Device) → IsInRange (length c.nets) d → IsAway d
  unfolding IsAway
  old_away d low n is (inl z) = let high = stage_behind n is in omega (arith, z, high, low.drain)
  old_away d low n is (inr z) = let high = stage_behind n is in omega (arith, z, high, low.source)

  -- the device of another card
  other_away : (d : NamedDevice (List ℕ)) → IsNumberedDevice e.nets d × IsAwayCard nets tree d → IsAway (device_of (map_device number d))
  unfolding IsAway
  other_away d h n is (inl z) =
      let s = of_stage n is in (h.1 s.name s.is).0 (same_number e.nets d.drain s.name h.0.0 s.at (z ∙ s.number_is))
  other_away d h n is (inr z) =
      let s = of_stage n is in (h.1 s.name s.is).1 (same_number e.nets d.source s.name h.0.2 s.at (z ∙ s.number_is))

  others_away : (ds : List (NamedDevice (List ℕ))) → AllByRecursion (IsNumberedDevice e.nets) ds → AllByRecursion (IsAwayCard nets tree) ds → AllByRecursion IsAway (devices_of ds)
  others_away ds numbers away =
      AllByRecursion-map IsAway device_of (map (map_device number) ds)
      (AllByRecursion-map (λ x. IsAway (device_of x)) (map_device number) ds
      (AllByRecursion-weaker (λ d. IsNumberedDevice e.nets d × IsAwayCard nets tree d) (λ d. IsAway (device_of (map_device number d))) other_away ds
      (AllByRecursion-both (IsNumberedDevice e.nets) (IsAwayCard nets tree) ds numbers away)))

  alone : (d : Device) (n : ℕ) → Contains e.devices d → IsStageNet image_nets image_tree n → (d.drain ≡ n) ⊎ (d.source ≡ n)
      → Contains (map device_of (styled_stage style image_nets image_tree)) d
  unfolding IsAway
  alone d n has is ends =
      let stage = map device_of (styled_stage style image_nets image_tree) in
      let P = IsNumberedDevice e.nets in
      elim (Contains-append_cases c.devices (devices_of before ++ (stage ++ devices_of behind)) d (subst (λ ds. Contains ds d) devices_are has)) [
        | inl old ↦ absurd (old_away d (old_in_range c cards circuit d old) n is ends)
        | inr new ↦ elim (Contains-append_cases (devices_of before) (stage ++ devices_of behind) d new) [
          | inl first ↦ absurd (AllByRecursion-contains IsAway (devices_of before) d (others_away before (AllByRecursion-left P before (own ++ behind) stand) before_away) first n is ends)
          | inr rest ↦ elim (Contains-append_cases stage (devices_of behind) d rest) [
            | inl own ↦ own
            | inr last ↦
                absurd (AllByRecursion-contains IsAway (devices_of behind) d
                (others_away behind (AllByRecursion-right P own behind (AllByRecursion-right P before (own ++ behind) stand)) behind_away) last n is ends)
          ]
        ]
      ]

  there : All (λ d. Contains e.devices (device_of d)) (styled_stage style image_nets image_tree)
  there =
      let stage = styled_stage style image_nets image_tree in
      subst (λ ds. All (λ d. Contains ds (device_of d)) stage) (sym devices_are)
      (All-from_recursion (λ d. Contains (c.devices ++ (devices_of before ++ (map device_of stage ++ devices_of behind))) (device_of d)) stage
      (AllByRecursion-weaker (λ d. Contains (map device_of stage ++ devices_of behind) (device_of d))
      (λ d. Contains (c.devices ++ (devices_of before ++ (map device_of stage ++ devices_of behind))) (device_of d))
      (λ d h.
      Contains-append_right c.devices (devices_of before ++ (map device_of stage ++ devices_of behind)) (device_of d)
      (Contains-append_right (devices_of before) (map device_of stage ++ devices_of behind) (device_of d) h)) stage
      (each_there stage (devices_of behind))))

  -- the stage stands in the circuit
  pub HoldsStage-pushed : HoldsStage style e nets tree
  HoldsStage-pushed = record {
    vdd_is = port_is_source c cards circuit nets.vdd room.vdd names.vdd_in;
    vss_is = port_is_source c cards circuit nets.vss room.vss names.vss_in;
    supplies = λ z. names.supplies (same_number e.nets nets.vdd nets.vss vdd_at vss_at z);
    free = λ n is. behind_no_source c cards circuit n (stage_behind n is);
    foot_apart = λ z. names.foot_apart (same_number e.nets nets.dynamic nets.foot have.dynamic have.foot z);
    inner_apart = λ j lt.
        let lt' = below_count j lt in (
          (λ z. (names.inner_apart j lt').0 (same_number e.nets (nets.inner j) nets.dynamic (have.inner j lt') have.dynamic z)),
          (λ z. (names.inner_apart j lt').1 (same_number e.nets (nets.inner j) nets.foot (have.inner j lt') have.foot z)),
        );
    inners_apart = λ i j lt lt' z.
        let a = below_count i lt in
        let b = below_count j lt' in
        names.inners_apart i j a b (same_number e.nets (nets.inner i) (nets.inner j) (have.inner i a) (have.inner j b) z);
    there = there;
    alone = alone;
  }

-- in a circuit that holds a stage its tree joins the dynamic net to the foot net
pub JoinsWhereOne-stage : (style : Style) (c : CircuitData) (nets : CellNets (List ℕ)) (tree : Tree (List ℕ)) → HoldsStage style c nets tree
    → JoinsWhereOne c nets.dynamic nets.foot tree
JoinsWhereOne-stage style c nets tree is values =
    rw (tree_conduction-map_tree nch (value_of values) (net_number c.nets) tree) at
    (joins_foot_where_one style c.devices (is_source c) values (map_nets (net_number c.nets) nets) (map_tree (net_number c.nets) tree) is)

pub MayJoinWhereNotZero-stage : (style : Style) (c : CircuitData) (nets : CellNets (List ℕ)) (tree : Tree (List ℕ)) → HoldsStage style c nets tree
    → MayJoinWhereNotZero c nets.dynamic nets.foot tree
MayJoinWhereNotZero-stage style c nets tree is values =
    rw (tree_conduction-map_tree nch (value_of values) (net_number c.nets) tree) at
    (may_join_foot_where_not_zero style c.devices (is_source c) values (map_nets (net_number c.nets) nets) (map_tree (net_number c.nets) tree) is)

-- the names of a stage whose nets begin with three letters differ
pub AreStageNames-letters : (clock output : List ℕ) (d f t : ℕ) (digits front : List ℕ) (tree : Tree (List ℕ)) → d ≢ f → t ≢ d → t ≢ f → inner_count tree ≤ 2 ^ 24
    → AreStageNames (record {
      vdd = codes "vdd";
      vss = codes "vss";
      clock = clock;
      dynamic = d ∷ digits;
      output = output;
      foot = f ∷ digits;
      inner = inner_net (t ∷ front);
    }) tree
AreStageNames-letters clock output d f t digits front tree df td tf few = record {
  vdd_in = refl;
  vss_in = refl;
  supplies = supplies_apart;
  foot_apart = first_apart d f digits digits df;
  inner_apart = λ j lt. (first_apart t d (front ++ decimal j) digits td, first_apart t f (front ++ decimal j) digits tf);
  inners_apart = λ i j lt lt' z. decimal_injective i j (omega arith) (omega arith) (append_cancel_left (t ∷ front) (decimal i) (decimal j) z);
}

-- a circuit to which the devices of a cell were appended holds the cell
module _ (style : Style) (c : CircuitData) (nets : CellNets (List ℕ)) (tree : Tree (List ℕ)) (circuit : IsCircuit c.ports c.nets c.devices) (room : HasRoomForCell c nets)
    (names : AreStageNames nets tree) (driven : (name : List ℕ) → IsStageNet nets tree name → nets.output ≢ name) where
  abbrev inv : List (NamedDevice (List ℕ))
  inv = inverter nets.vdd nets.vss nets.dynamic nets.output

  abbrev whole : CircuitData
  whole = with_devices c (styled_stage style nets tree ++ inv)

  inverter_away : AllByRecursion (IsAwayCard nets tree) inv
  inverter_away = (
    (λ name is. (driven name is, port_not_new c circuit nets.vdd name room.vdd (stage_new c nets tree room name is))),
    ((λ name is. (driven name is, port_not_new c circuit nets.vss name room.vss (stage_new c nets tree room name is))), tt),
  )

  pub HoldsCell-pushed : HoldsCell style whole nets tree
  HoldsCell-pushed =
      let numbers = map_nets (net_number whole.nets) nets in
      let image = inverter numbers.vdd numbers.vss numbers.dynamic numbers.output in
      let stage = map device_of (styled_stage style numbers (map_tree (net_number whole.nets) tree)) in
      record {
        stage = HoldsStage-pushed style c [] inv nets tree circuit room names tt inverter_away;
        inverter_there =
            subst (λ ds. All (λ d. Contains ds (device_of d)) image) (sym (devices_are style c [] inv nets tree circuit room names tt inverter_away))
            (All-from_recursion (λ d. Contains (c.devices ++ (stage ++ map device_of image)) (device_of d)) image
            (AllByRecursion-weaker (λ d. Contains (stage ++ map device_of image) (device_of d)) (λ d. Contains (c.devices ++ (stage ++ map device_of image)) (device_of d))
            (λ d h. Contains-append_right c.devices (stage ++ map device_of image) (device_of d) h) image (each_behind stage image)));
      }

-- the nets of cell k have the names that they should
pub AreStageNames-numbered : (clock k : ℕ) (tree : Tree (List ℕ)) → inner_count tree ≤ 2 ^ 24 → AreStageNames (numbered_cell clock k) tree
AreStageNames-numbered clock k tree few =
    AreStageNames-letters (codes "ck" ++ decimal clock) (codes "z" ++ decimal k) 100 102 116 (decimal k) (decimal k ++ codes "_") tree
    (λ z. omega arith) (λ z. omega arith) (λ z. omega arith) few

driven_apart : (clock k : ℕ) (tree : Tree (List ℕ)) (name : List ℕ) → IsStageNet (numbered_cell clock k) tree name → codes "z" ++ decimal k ≢ name
driven_apart clock k tree name (inl same) z = first_apart 122 100 (decimal k) (decimal k) (λ y. omega arith) (z ∙ same)
driven_apart clock k tree name (inr (inl same)) z = first_apart 122 102 (decimal k) (decimal k) (λ y. omega arith) (z ∙ same)
driven_apart clock k tree name (inr (inr (j, lt, same))) z = first_apart 122 116 (decimal k) _ (λ y. omega arith) (z ∙ same)

-- a circuit to which the devices of cell k were appended holds the cell
pub HoldsCell-numbered : (style : Style) (old new : CircuitData) (clock k : ℕ) (gates : List (List ℕ)) (tree : Tree ℕ)
    → IsCircuit old.ports old.nets old.devices → HasRoomForCell old (numbered_cell clock k) → leaves tree ≤ 2 ^ 24
    → new ≡ with_devices old (styled_cell style (numbered_cell clock k) (named_tree gates tree))
    → HoldsCell style new (numbered_cell clock k) (named_tree gates tree)
HoldsCell-numbered style old new clock k gates tree circuit room few is =
    let named = named_tree gates tree in
    let few_inner : inner_count named ≤ 2 ^ 24 = omega (arith, few, inner_count-below tree, inner_count-map_tree (net_name gates) tree) in
    subst (λ (c : CircuitData). HoldsCell style c (numbered_cell clock k) named) (sym (is ∙ ap (with_devices old) (styled_cell-parts style (numbered_cell clock k) named)))
    (HoldsCell-pushed style old (numbered_cell clock k) named circuit room (AreStageNames-numbered clock k named few_inner) (driven_apart clock k named))

-- the names that are held for cell k are those of its nets
pub held_nets_are : (clock k : ℕ) (names : CellNames) → AreNamesOfCell clock k names → held_nets names ≡ numbered_cell clock k
held_nets_are clock k names is = λ i. record {
  vdd = is.vdd i;
  vss = is.vss i;
  clock = is.clock_is i;
  dynamic = is.dynamic i;
  output = is.output i;
  foot = is.foot i;
  inner = inner_net (is.front i);
}
