-- The devices of the parts that a numbering names are there.
use Rattle.std.specs.List.{AllByRecursion}
use Rattle.std.specs.Prelude.{Contains, Some, ◌⊎◌}
use Rattle.std.proofs.Common.{List, [], ap, arith, inl, inr, length, map, refl, subst, suc, sym, ℕ, ◌++◌, ◌+◌, ◌∙◌, ◌∷◌, ◌≡◌}
use Rattle.dom_base.proofs.Decided.{dec_nat}
use Rattle.dom_base.proofs.Lists.{AllByRecursion-append, AllByRecursion-contains, AllByRecursion-left, AllByRecursion-map, AllByRecursion-right, AllByRecursion-unmap, AllByRecursion-weaker, Contains-first, Contains-later}
use Rattle.dom_base.specs.declared.kind.Kind.{Kind}
use Rattle.dom_base.specs.declared.kind.Kind.TheVariants.{Keep, N as nch, P as pch}
use Rattle.deck.specs.CircuitData.{CircuitData}
use Rattle.deck.specs.NamedDevices.{NamedDevice, device_of}
use Rattle.deck.specs.declared.device.Device.{Device}
use Rattle.deck.specs.declared.role.Roles.{Roles}
use Rattle.sp_network.specs.Tree.{Leaf, Series, inner_count}
use Rattle.sp_network.proofs.TreeImages.{inner_count-map_tree}
use Rattle.domino_cell.specs.Spelling.{spell}
use Rattle.domino_cell.specs.Stage.{Inside, Top, stage}
use Rattle.switch_model.specs.Laws.{EndsAt}
use Rattle.circuit_law.specs.Exchanged.{exchange}
use Rattle.domino_cell.specs.Tapped.{tapped}
use Rattle.port_runs.specs.Periods.{vdd_port, vss_port}
use Rattle.domino_law.specs.Branches.{dynamic, numbered}
use Rattle.domino_law.specs.Nets.{At, Clock, Dynamic, Net, Output, Vdd, Vss, gate_net, left_side}
use Rattle.domino_law.specs.Shape.{DominoCell, IsCellAt, Shape, left_stage}
use Rattle.domino_cell.specs.declared.style.Style.TheVariants.{Keeper as WithKeeper}
use Rattle.sp_reduction.specs.Networks.{Link, mids}
use Rattle.deck_audit.specs.Numbered.{IsCellAs, IsNumbered}
use Rattle.deck_audit.specs.Reading.{IsOneOf, part_cards}
use Rattle.deck_audit.specs.Rules.{KeepsRules}
use Rattle.deck_audit.specs.Words.{IsDevice, IsInverterOutput, IsReachedDevice, StandsAt, here, link_at}
use Rattle.deck_audit.proofs.CellTrees.{FromDevices, Inners, among, card_of, link_spelled, one_device, spelling_there, there_of}

-- each card of a list is among its devices
each_card : (xs : List (NamedDevice ℕ)) → AllByRecursion (λ c. Contains (map device_of xs) (device_of c)) xs
each_card [] = tt
each_card (x ∷ xs) = (
  Contains-first (device_of x) (map device_of xs),
  AllByRecursion-weaker (λ c. Contains (map device_of xs) (device_of c)) (λ c. Contains (device_of x ∷ map device_of xs) (device_of c)) (λ c m. Contains-later (device_of x) (map device_of xs) (device_of c) m) xs (each_card xs),
)

kinds : (k : Kind) → (k ≡ nch) ⊎ ((k ≡ pch) ⊎ (k ≡ Keep))
kinds nch = inl refl
kinds pch = inr (inl refl)
kinds Keep = inr (inr refl)

module _ (c : CircuitData) (roles : Roles) (net : Net → ℕ) (s : Shape) (rules : KeepsRules c.devices roles (length c.nets)) (n : IsNumbered c roles net s) where
  abbrev ds : List Device
  ds = c.devices

  vdd_is : net Vdd ≡ vdd_port
  vdd_is = n.numbers Vdd tt

  vss_is : net Vss ≡ vss_port
  vss_is = n.numbers Vss tt

  -- a device with this kind, gate and ends is this card, or it exchanged
  pub as_card : (d : Device) (e : Device) (a b : ℕ) → IsDevice d e.kind e.gate a b → e.drain ≡ a → e.source ≡ b → (d ≡ e) ⊎ (d ≡ exchange e)
  as_card d e a b i x y = card_of d e i.0 i.1 (rw (x, y) i.2)

  -- the cards of a stage whose dynamic net has a precharge and a keeper beside its tree and foot
  abbrev pub cell_list : ℕ → DominoCell → List Device
  cell_list k cell = part_cards net (Dynamic (left_side k)) (dynamic WithKeeper net (left_side k) (left_stage cell)) []

  module _ (k : ℕ) (cell : DominoCell) (i : IsCellAt s k cell) where
    abbrev x : IsCellAs ds roles net k cell
    x = n.cells k cell i

    abbrev top : ℕ
    top = net (At (Dynamic (left_side k)) Top)

    abbrev bottom : ℕ
    bottom = net (At (Dynamic (left_side k)) (Inside 0 0))

    abbrev inner : ℕ → ℕ
    inner j = net (At (Dynamic (left_side k)) (Inside 0 j))

    abbrev precharge_card : Device
    precharge_card = record { kind = pch; drain = top; gate = net (Clock cell.clock); source = net Vdd }

    abbrev keeper_card : Device
    keeper_card = record { kind = Keep; drain = top; gate = net (At (Output k) Top); source = net Vdd }

    abbrev foot_card : Device
    foot_card = record { kind = nch; drain = bottom; gate = net (Clock cell.clock); source = net Vss }

    from_devices : FromDevices ds x.tree
    from_devices e c =
        let l = ((x.has_tree).links_are e).0 c in
        (l.1, subst (λ p. StandsAt ds p l.1) (sym (number_same l.0 l.1 l.5)) l.2, l.3.0, (l.5 ∙ ap (λ p. link_at p l.1) (sym (number_same l.0 l.1 l.5))))
      where
        number_same : (p : ℕ) (d : Device) → e ≡ link_at p d → e.number ≡ p
        number_same p d z = ap (λ (y : Link). y.number) z

    inners : Inners (mids x.tree top bottom (x.has_tree).between) inner 1 (inner_count (numbered net cell.tree))
    inners j lt = x.inner_are j (rw (inner_count-map_tree (λ g. net (gate_net g)) cell.tree) at lt) ∙ ap (λ m. Some (net (At (Dynamic (left_side k)) (Inside 0 m)))) (one_more j)
      where
        one_more : (j : ℕ) → suc j ≡ 1 + j
        one_more j = omega arith

    precharge_twin : ((x.front).precharge_device ≡ precharge_card) ⊎ ((x.front).precharge_device ≡ exchange precharge_card)
    precharge_twin = as_card (x.front).precharge_device precharge_card top vdd_port (x.front).precharge_is refl vdd_is

    keeper_twin : ((x.front).keeper_device ≡ keeper_card) ⊎ ((x.front).keeper_device ≡ exchange keeper_card)
    keeper_twin = as_card (x.front).keeper_device keeper_card top vdd_port (x.front).keeper_is refl vdd_is

    foot_twin : ((x.has_tree).foot_device ≡ foot_card) ⊎ ((x.has_tree).foot_device ≡ exchange foot_card)
    foot_twin = as_card (x.has_tree).foot_device foot_card bottom vss_port (x.has_tree).foot_is refl vss_is

    tree_cards : List (NamedDevice ℕ)
    tree_cards = spell nch inner (numbered net cell.tree) top bottom 1

    pub cell_there : AllByRecursion (IsOneOf ds) (cell_list k cell)
    unfolding tree_cards
    cell_there =
        let f = x.front in
        let t = x.has_tree in
        let tree : AllByRecursion (λ e. IsOneOf ds (device_of e)) tree_cards =
        AllByRecursion-unmap (IsOneOf ds) device_of tree_cards
        (spelling_there ds inner x.tree (numbered net cell.tree) top bottom 1 t.between x.spells from_devices inners) in
        AllByRecursion-map (IsOneOf ds) device_of (tapped (λ a. net (At (Dynamic (left_side k)) a)) (dynamic WithKeeper net (left_side k) (left_stage cell)) [])
        (AllByRecursion-append (λ e. IsOneOf ds (device_of e)) (stage (λ a. net (At (Dynamic (left_side k)) a)) 0 (dynamic WithKeeper net (left_side k) (left_stage cell))) []
        (AllByRecursion-append (λ e. IsOneOf ds (device_of e)) (spell nch (λ j. net (At (Dynamic (left_side k)) (Inside 0 j))) (Series (numbered net cell.tree) (Leaf (net (Clock cell.clock)))) top (net Vss) 0)
        (stage (λ a. net (At (Dynamic (left_side k)) a)) 1 (record { kind = pch; tree = Leaf (net (Clock cell.clock)); supply = net Vdd } ∷ record { kind = Keep; tree = Leaf (net (At (Output k) Top)); supply = net Vdd } ∷ []))
        (AllByRecursion-append (λ e. IsOneOf ds (device_of e)) tree_cards (record { kind = nch; drain = bottom; gate = net (Clock cell.clock); source = net Vss } ∷ [])
        tree (there_of ds t.foot t.foot_device foot_card t.foot_there foot_twin, tt)) (
          there_of ds f.precharge f.precharge_device precharge_card f.precharge_there precharge_twin,
          (there_of ds f.keeper f.keeper_device keeper_card f.keeper_there keeper_twin, tt),
        )) tt)

    in_tree : (d : Device) → IsOneOf (map device_of tree_cards) d → IsOneOf (cell_list k cell) d
    unfolding tree_cards
    in_tree d z = by z
      where
        rest : List (NamedDevice ℕ)
        rest = record { kind = nch; drain = bottom; gate = net (Clock cell.clock); source = net Vss } ∷ []

        each : (e : Device) → Contains (map device_of tree_cards) e → Contains (cell_list k cell) e
        each e m =
            AllByRecursion-contains (Contains (cell_list k cell)) (map device_of tree_cards) e
            (AllByRecursion-map (Contains (cell_list k cell)) device_of tree_cards
            (AllByRecursion-left (λ c. Contains (cell_list k cell) (device_of c)) tree_cards rest
            (AllByRecursion-left (λ c. Contains (cell_list k cell) (device_of c)) (tree_cards ++ rest) (stage (λ a. net (At (Dynamic (left_side k)) a)) 1 (record { kind = pch; tree = Leaf (net (Clock cell.clock)); supply = net Vdd } ∷ record { kind = Keep; tree = Leaf (net (At (Output k) Top)); supply = net Vdd } ∷ []))
            (AllByRecursion-left (λ c. Contains (cell_list k cell) (device_of c)) (stage (λ a. net (At (Dynamic (left_side k)) a)) 0 (dynamic WithKeeper net (left_side k) (left_stage cell))) []
            (each_card (tapped (λ a. net (At (Dynamic (left_side k)) a)) (dynamic WithKeeper net (left_side k) (left_stage cell)) [])))))) m

        by : IsOneOf (map device_of tree_cards) d → IsOneOf (cell_list k cell) d
        by (inl m) = inl (each d m)
        by (inr m) = inr (each (exchange d) m)

    other_cards : AllByRecursion (λ c. Contains (cell_list k cell) (device_of c)) (record { kind = nch; drain = bottom; gate = net (Clock cell.clock); source = net Vss } ∷ [])
        × AllByRecursion (λ c. Contains (cell_list k cell) (device_of c)) (record { kind = pch; drain = top; gate = net (Clock cell.clock); source = net Vdd } ∷ record { kind = Keep; drain = top; gate = net (At (Output k) Top); source = net Vdd } ∷ [])
    unfolding tree_cards
    other_cards =
        let rest = record { kind = nch; drain = bottom; gate = net (Clock cell.clock); source = net Vss } ∷ [] in
        let ups = stage (λ a. net (At (Dynamic (left_side k)) a)) 1 (record { kind = pch; tree = Leaf (net (Clock cell.clock)); supply = net Vdd } ∷ record { kind = Keep; tree = Leaf (net (At (Output k) Top)); supply = net Vdd } ∷ []) in
        let all = AllByRecursion-left (λ c. Contains (cell_list k cell) (device_of c)) (stage (λ a. net (At (Dynamic (left_side k)) a)) 0 (dynamic WithKeeper net (left_side k) (left_stage cell))) [] (each_card (tapped (λ a. net (At (Dynamic (left_side k)) a)) (dynamic WithKeeper net (left_side k) (left_stage cell)) [])) in (
          AllByRecursion-right (λ c. Contains (cell_list k cell) (device_of c)) tree_cards rest (AllByRecursion-left (λ c. Contains (cell_list k cell) (device_of c)) (tree_cards ++ rest) ups all),
          AllByRecursion-right (λ c. Contains (cell_list k cell) (device_of c)) (tree_cards ++ rest) ups all,
        )

    -- a reached device is the foot or one of the tree
    pub reached_owned : (p : ℕ) (d : Device) → StandsAt ds p d → IsReachedDevice ds roles top d → IsOneOf (cell_list k cell) d
    unfolding tree_cards
    reached_owned p d at r =
        let t = x.has_tree in
        elim (dec_nat p t.foot) [
          | inl same ↦ among (cell_list k cell) d foot_card other_cards.0.0 (rw (one_device ds t.foot d t.foot_device (rw (← same) at) t.foot_there) foot_twin)
          | inr other ↦ in_tree d (link_spelled ds inner x.tree (numbered net cell.tree) top bottom 1 t.between x.spells from_devices inners (link_at p d) ((t.links_are (link_at p d)).1 (p, d, at, r, other, refl)) d at)
        ]

    -- and so is each device at the dynamic net, or it is the precharge or the keeper
    pub top_owned : (p : ℕ) (d : Device) → StandsAt ds p d → EndsAt d top → IsOneOf (cell_list k cell) d
    top_owned p d at t =
        elim (kinds d.kind) [
          | inl z ↦ reached_owned p d at (z, top, here, t)
          | inr y ↦ elim y [
            | inl z ↦ among (cell_list k cell) d precharge_card other_cards.1.0
                (rw (one_device ds p d (x.front).precharge_device at (rw ((x.front).one_precharge p d at t z) (x.front).precharge_there)) precharge_twin)
            | inr z ↦ among (cell_list k cell) d keeper_card other_cards.1.1.0
                (rw (one_device ds p d (x.front).keeper_device at (rw ((x.front).one_keeper p d at t z) (x.front).keeper_there)) keeper_twin)
          ]
        ]

  -- the cards of an inverter
  abbrev pub inverter_list : Net → Net → List Device
  inverter_list out gate = record { kind = pch; drain = net out; gate = net gate; source = net Vdd } ∷ record { kind = nch; drain = net out; gate = net gate; source = net Vss } ∷ []

  pub inverter_there : (out gate : Net) → IsInverterOutput ds (net out) (net gate) → AllByRecursion (IsOneOf ds) (inverter_list out gate)
  inverter_there out gate v = (
    there_of ds v.up v.pull_up _ v.up_there (as_card v.pull_up (record { kind = pch; drain = net out; gate = net gate; source = net Vdd }) (net out) vdd_port v.up_is refl vdd_is),
    (there_of ds v.down v.pull_down _ v.down_there (as_card v.pull_down (record { kind = nch; drain = net out; gate = net gate; source = net Vss }) (net out) vss_port v.down_is refl vss_is), tt),
  )

  pub inverter_owned : (out gate : Net) → IsInverterOutput ds (net out) (net gate) → (p : ℕ) (d : Device) → StandsAt ds p d → EndsAt d (net out) → IsOneOf (inverter_list out gate) d
  inverter_owned out gate v p d at t =
      let up : Device = record { kind = pch; drain = net out; gate = net gate; source = net Vdd } in
      let down : Device = record { kind = nch; drain = net out; gate = net gate; source = net Vss } in
      elim (v.only p d at t) [
        | inl z ↦ among (up ∷ down ∷ []) d up (Contains-first up (down ∷ [])) (rw (one_device ds p d v.pull_up at (rw z v.up_there)) (as_card v.pull_up up (net out) vdd_port v.up_is refl vdd_is))
        | inr z ↦ among (up ∷ down ∷ []) d down (Contains-later up (down ∷ []) down (Contains-first down [])) (rw (one_device ds p d v.pull_down at (rw z v.down_there)) (as_card v.pull_down down (net out) vss_port v.down_is refl vss_is))
      ]
