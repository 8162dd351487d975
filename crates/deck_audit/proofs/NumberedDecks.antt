-- Where all rules hold and a numbering names what they find, the circuit has the deck's devices and no others.
use Rattle.sp_network.specs.Tree.{Leaf}
use Rattle.domino_law.proofs.Statics.{left_is}
use Rattle.domino_law.proofs.SimpleCells.{simple_gate}
use Rattle.std.specs.List.{AllByRecursion}
use Rattle.std.specs.Prelude.{Contains, ◌⊎◌}
use Rattle.std.proofs.Common.{List, [], ap, arith, get_or, inl, inr, length, refl, subst, sym, ℕ, ◌-◌, ◌<◌, ◌∙◌, ◌∷◌, ◌≡◌, ◌≤◌}
use Rattle.std.proofs.lemmas.List.Elements.{Contains-append_left, Contains-append_right}
use Rattle.std.proofs.lemmas.Option.{slice_get-get_or}
use Rattle.dom_base.specs.Decided.{Decided}
use Rattle.dom_base.proofs.Decided.{dec_any, dec_nat, dec_or, lt_or_ge}
use Rattle.dom_base.proofs.Lists.{AllByRecursion-contains, AllByRecursion-weaker, slice_get-contained}
use Rattle.dom_base.specs.declared.kind.Kind.{Kind}
use Rattle.dom_base.specs.declared.kind.Kind.TheVariants.{Keep, N as nch, P as pch}
use Rattle.deck.specs.CircuitData.{CircuitData}
use Rattle.deck.specs.PortLayout.{first_output, source_count}
use Rattle.deck.specs.declared.device.Device.{Device}
use Rattle.deck.specs.declared.role.Roles.{Roles}
use Rattle.domino_cell.specs.Stage.{Branch, Spot, Top}
use Rattle.switch_model.specs.Laws.{EndsAt}
use Rattle.circuit_law.specs.Exchanged.{HasDevicesOf, exchange}
use Rattle.domino_cell.specs.Tapped.{Tap}
use Rattle.domino_law.specs.Branches.{HasBranches, dynamic, dynamic_taps, master, slave, static_branches}
use Rattle.domino_law.specs.LooseDeck.{IsNet, IsSourceNet, IsSpotOf}
use Rattle.domino_law.specs.Nets.{At, Clock, Complement, Dynamic, Gate, High, Lm, Lmb, Ls, Lsb, Master, Net, Next, Output, Part, Pin, Rs, Rsb, Sink, Slave, Vdd, Vss, gate_net, own, left_side, CellSide}
use Rattle.domino_law.specs.Shape.{DominoCell, IsCellAt, IsLatchAt, Latch, Shape, DynamicStage, dynamic_nets, gate_tree, left_stage}
use Rattle.domino_cell.specs.declared.style.Style.TheVariants.{Keeper as WithKeeper}
use Rattle.domino_law.specs.Spelled.{deck_devices}
use Rattle.domino_law.proofs.DeckLists.{StagePart, deck_parts, part_devices, parts_devices}
use Rattle.domino_law.proofs.SpelledDecks.{listed}
use Rattle.domino_law.proofs.SpelledParts.{deck_devices_are}
use Rattle.deck_audit.specs.Numbered.{IsNumbered, RulesMakeDeck, group_of}
use Rattle.deck_audit.specs.Reading.{IsOneOf, IsReading, part_cards}
use Rattle.deck_audit.specs.Rules.{IsLoose, IsUsed, KeepsRules}
use Rattle.deck_audit.specs.Words.{IsDynamic, IsFree, IsInverterOutput, Group, Reached, StandsAt, own_nets}
use Rattle.deck_audit.proofs.CellTrees.{one_device}
use Rattle.deck_audit.proofs.NumberedApart.{parts_apart}
use Rattle.deck_audit.proofs.NumberedSorts.{fact_free, fact_of, fact_touched, sort_of}
use Rattle.deck_audit.proofs.NumberedLatches.{group_owned, master_there, slave_there}
use Rattle.deck_audit.proofs.NumberedNets.{group_at, inside_is, output_inverts, cells_simple, side_cell}
use Rattle.deck_audit.proofs.NumberedParts.{cell_list, cell_there, inverter_owned, inverter_there, reached_owned, top_owned}
use Rattle.deck_audit.proofs.PortsApart.{ports_apart}
use Rattle.deck_audit.proofs.Readings.{port_low, reading_is_exchanged_deck}
use Rattle.deck_audit.proofs.RuleFacts.{at_own}

-- devices are equal or not
dec_kind : (a b : Kind) → Decided (a ≡ b)
dec_kind nch nch = inl refl
dec_kind pch pch = inl refl
dec_kind Keep Keep = inl refl
dec_kind nch pch = inr (λ e. cc)
dec_kind nch Keep = inr (λ e. cc)
dec_kind pch nch = inr (λ e. cc)
dec_kind pch Keep = inr (λ e. cc)
dec_kind Keep nch = inr (λ e. cc)
dec_kind Keep pch = inr (λ e. cc)

dec_device : (d e : Device) → Decided (d ≡ e)
dec_device d e = by (dec_kind d.kind e.kind) (dec_nat d.drain e.drain) (dec_nat d.gate e.gate) (dec_nat d.source e.source)
  where
    by : Decided (d.kind ≡ e.kind) → Decided (d.drain ≡ e.drain) → Decided (d.gate ≡ e.gate) → Decided (d.source ≡ e.source) → Decided (d ≡ e)
    by (inl k) (inl x) (inl y) (inl z) = inl (λ i. record { kind = k i; drain = x i; gate = y i; source = z i })
    by (inr k) x y z = inr (λ w. k (ap (λ (v : Device). v.kind) w))
    by (inl k) (inr x) y z = inr (λ w. x (ap (λ (v : Device). v.drain) w))
    by (inl k) (inl x) (inr y) z = inr (λ w. y (ap (λ (v : Device). v.gate) w))
    by (inl k) (inl x) (inl y) (inr z) = inr (λ w. z (ap (λ (v : Device). v.source) w))

dec_contains : (xs : List Device) (d : Device) → Decided (Contains xs d)
dec_contains xs d = elim (dec_any (λ e. e ≡ d) (λ e. dec_device e d) xs) [
  | inl z ↦ inl (rw (← z.2) z.1)
  | inr f ↦ inr (λ m. f (d, m, refl))
]

-- the devices of a part are among those of all parts
there_by : (net : Net → ℕ) (ps : List StagePart) (p : StagePart) → Contains ps p → (d : Device) → Contains (part_devices net p) d → Contains (parts_devices net ps) d
there_by net ps p c = AllByRecursion-contains (λ p. (d : Device) → Contains (part_devices net p) d → Contains (parts_devices net ps) d) ps p (each ps) c
  where
    each : (ps : List StagePart) → AllByRecursion (λ p. (d : Device) → Contains (part_devices net p) d → Contains (parts_devices net ps) d) ps
    each [] = tt
    each (q ∷ qs) = (
      (λ d c. Contains-append_left (part_devices net q) (parts_devices net qs) d c),
      AllByRecursion-weaker _ (λ p. (d : Device) → Contains (part_devices net p) d → Contains (parts_devices net (q ∷ qs)) d)
          (λ p f d c. Contains-append_right (part_devices net q) (parts_devices net qs) d (f d c)) qs (each qs),
    )

-- an inverter is the static gate of one net
abbrev inverter_branches : (Net → ℕ) → Net → List Branch
inverter_branches net gate = static_branches net (Leaf gate)

in_deck : (net : Net → ℕ) (s : Shape) (part : Part) (bs : List Branch) (taps : List Tap) → HasBranches s net part bs taps → (d : Device) → IsOneOf (part_cards net part bs taps) d → IsOneOf (deck_devices net s) d
in_deck net s part bs taps h d z = elim z [ inl m ↦ inl (one d m) | inr m ↦ inr (one (exchange d) m) ]
  where
    one : (e : Device) → Contains (part_cards net part bs taps) e → Contains (deck_devices net s) e
    one e m = (deck_devices_are net s).from e (there_by net (deck_parts net s) (record { part = part; branches = bs; taps = taps }) (listed net s part bs taps h) e m)

module _ (c : CircuitData) (roles : Roles) (net : Net → ℕ) (s : Shape) (rules : KeepsRules c.devices roles (length c.nets)) (n : IsNumbered c roles net s)
    (range : (d : Device) (p : ℕ) → StandsAt c.devices p d → (d.drain < length c.nets) × (d.source < length c.nets)) where
  abbrev ds : List Device
  ds = c.devices

  end_range : (p : ℕ) (d : Device) (m : ℕ) → StandsAt ds p d → EndsAt d m → m < length c.nets
  end_range p d m at (inl z) = rw (← z) (range d p at).0
  end_range p d m at (inr z) = rw (← z) (range d p at).1

  others : (part : Part) (spot : Spot) → IsNet s (At part spot) → (source_count roles ≤ net (At part spot)) × (net (At part spot) < length c.nets)
  others part spot i =
      let f = fact_of c roles net s rules n part spot i in
      let t = fact_touched c roles net s rules n (sort_of part spot) (net (At part spot)) f in
      (fact_free c roles net s rules n (sort_of part spot) (net (At part spot)) f, end_range t.0 t.1 (net (At part spot)) t.2 t.3)

  low : (a : Net) → IsSourceNet s a → net a < source_count roles
  low a i = subst (λ m. m < source_count roles) (sym (n.numbers a i)) (port_low s roles n.clocks_are n.pins_are a i)

  source_part : (a : Net) → IsSourceNet s a → (part : Part) (spot : Spot) → IsNet s (At part spot) → net a ≡ net (At part spot) → ⊥
  source_part a i part spot j e = omega (arith, low a i, (others part spot j).0, e)

  sources_apart : (a b : Net) → IsSourceNet s a → IsSourceNet s b → net a ≡ net b → a ≡ b
  sources_apart a b i j e = ports_apart s roles n.clocks_are a b i j (sym (n.numbers a i) ∙ e ∙ n.numbers b j)

  -- a net is a source or a part's
  sourced : (a : Net) → IsNet s a → IsSourceNet s a ⊎ ((part : Part) × (spot : Spot) × IsSpotOf s part spot × (a ≡ At part spot))
  sourced (At part spot) i = inr (part, spot, i, refl)
  sourced Vdd i = inl i
  sourced Vss i = inl i
  sourced (Clock k) i = inl i
  sourced Lm i = inl i
  sourced Lmb i = inl i
  sourced Ls i = inl i
  sourced Lsb i = inl i
  sourced Rs i = inl i
  sourced Rsb i = inl i
  sourced (Pin p) i = inl i

  apart : (a b : Net) → IsNet s a → IsNet s b → net a ≡ net b → a ≡ b
  apart a b i j e = by (sourced a i) (sourced b j)
    where
      by : IsSourceNet s a ⊎ ((part : Part) × (spot : Spot) × IsSpotOf s part spot × (a ≡ At part spot)) → IsSourceNet s b ⊎ ((part : Part) × (spot : Spot) × IsSpotOf s part spot × (b ≡ At part spot)) → a ≡ b
      by (inl x) (inl y) = sources_apart a b x y e
      by (inl x) (inr y) = absurd (source_part a x y.0 y.1 y.2 (e ∙ ap net y.3))
      by (inr x) (inl y) = absurd (source_part b y x.0 x.1 x.2 (sym e ∙ ap net x.3))
      by (inr x) (inr y) = x.3 ∙ parts_apart c roles net s rules n x.0 x.1 y.0 y.1 x.2 y.2 (sym (ap net x.3) ∙ e ∙ ap net y.3) ∙ sym y.3

  -- the devices of the parts
  Parted : Part → List Branch → List Tap → Type 0
  Parted part bs taps = AllByRecursion (IsOneOf ds) (part_cards net part bs taps)

  as_listed : (part : Part) (bs bs' : List Branch) (taps taps' : List Tap) → bs ≡ bs' → taps ≡ taps' → Parted part bs' taps' → Parted part bs taps
  as_listed part bs bs' taps taps' e f h = subst (λ x. Parted part x taps) (sym e) (subst (λ y. Parted part bs' y) (sym f) h)

  -- static gates are inverters
  output_single : (k : ℕ) (cell : DominoCell) → IsCellAt s k cell → inverter_branches net (At (Dynamic (left_side k)) Top) ≡ static_branches net (dynamic_nets k cell.right)
  output_single k cell i = ap (λ r. static_branches net (dynamic_nets k r)) (sym (cells_simple c roles net s rules n k cell i))

  gate_single : (g : Gate) → inverter_branches net (gate_net g) ≡ static_branches net (gate_tree s g)
  gate_single g = ap (static_branches net) (sym (simple_gate s (cells_simple c roles net s rules n) g))

  part_there : (part : Part) (bs : List Branch) (taps : List Tap) → HasBranches s net part bs taps → Parted part bs taps
  unfolding Parted
  part_there (Dynamic k) bs taps (cell, i, e, f) =
      let x = side_cell c roles net s rules n k cell i in
      as_listed (Dynamic k) bs (dynamic s.style net k cell) taps (dynamic_taps s.style net cell) e f
      (subst (λ (q : CellSide). Parted (Dynamic q) (dynamic s.style net q cell) (dynamic_taps s.style net cell)) (sym x.2)
      (subst (λ (d : DynamicStage). Parted (Dynamic (left_side k.cell)) (dynamic s.style net (left_side k.cell) d) (dynamic_taps s.style net d)) x.3
      (subst (λ style. Parted (Dynamic (left_side k.cell)) (dynamic style net (left_side k.cell) (left_stage x.0)) (dynamic_taps style net (left_stage x.0))) (sym n.keepers) (cell_there c roles net s rules n k.cell x.0 x.1))))
  part_there (Output k) bs taps (cell, i, e, f) =
      as_listed (Output k) bs (inverter_branches net (At (Dynamic (left_side k)) Top)) taps [] (e ∙ sym (output_single k cell i)) f (inverter_there c roles net s rules n (At (Output k) Top) (At (Dynamic (left_side k)) Top) (output_inverts c roles net s rules n k cell i).1)
  part_there (Complement l) bs taps (i, e, f) =
      as_listed (Complement l) bs (inverter_branches net (own l)) taps [] e f (inverter_there c roles net s rules n (At (Complement l) Top) (own l) (n.complements l i).0.inverts)
  part_there (Master j) bs taps (b, i, e, f) = as_listed (Master j) bs (master net j) taps [] e f (master_there c roles net s rules n j b i)
  part_there (Slave j) bs taps (b, i, e, f) = as_listed (Slave j) bs (slave net j b) taps [] e f (slave_there c roles net s rules n j b i)
  part_there (Next j) bs taps (b, i, e, f) =
      as_listed (Next j) bs (inverter_branches net (gate_net b.next)) taps [] (e ∙ sym (gate_single b.next)) f (inverter_there c roles net s rules n (At (Next j) Top) (gate_net b.next) (n.nexts j b i))
  part_there (Sink k) bs taps (g, i, e, f) =
      as_listed (Sink k) bs (inverter_branches net (gate_net g)) taps [] (e ∙ sym (gate_single g)) f (inverter_there c roles net s rules n (At (Sink k) Top) (gate_net g) (n.sinks k g i))

  parts : (part : Part) (bs : List Branch) (taps : List Tap) → HasBranches s net part bs taps → HasDevicesOf (part_cards net part bs taps) ds
  unfolding Parted
  parts part bs taps h d m = AllByRecursion-contains (IsOneOf ds) (part_cards net part bs taps) d (part_there part bs taps h) m

  pub InDeck : Device → Type 0
  InDeck d = IsOneOf (deck_devices net s) d

  -- the devices of a cell, of an inverter and of a latch are the deck's
  cell_in_deck : (k : ℕ) (cell : DominoCell) → IsCellAt s k cell → (d : Device) → IsOneOf (cell_list c roles net s rules n k cell) d → InDeck d
  unfolding InDeck
  cell_in_deck k cell i d z =
      in_deck net s (Dynamic (left_side k)) (dynamic WithKeeper net (left_side k) (left_stage cell)) []
      (left_stage cell, left_is s k cell i, ap (λ style. dynamic style net (left_side k) (left_stage cell)) (sym n.keepers), ap (λ style. dynamic_taps style net (left_stage cell)) (sym n.keepers)) d z

  at_inverter : (part : Part) (gate : Net) → HasBranches s net part (inverter_branches net gate) [] → IsInverterOutput ds (net (At part Top)) (net gate)
      → (p : ℕ) (d : Device) → StandsAt ds p d → EndsAt d (net (At part Top)) → InDeck d
  unfolding InDeck
  at_inverter part gate h v p d at t = in_deck net s part (inverter_branches net gate) [] h d (inverter_owned c roles net s rules n (At part Top) gate v p d at t)

  at_latch : (j : ℕ) (b : Latch) → IsLatchAt s j b → (m : ℕ) → Contains (own_nets (group_of net j b)) m → (p : ℕ) (d : Device) → StandsAt ds p d → EndsAt d m → InDeck d
  unfolding InDeck
  at_latch j b i m o p d at t =
      let g = group_at c roles net s rules n j b i in
      let a = (at_own ds roles (length c.nets) rules (group_of net j b) g.0 g.1 m o p d at t).1 in
      of_card a.card a.twin (group_owned c roles net s rules n j b i a.card a.listed)
    where
      one : (cards : List Device) (e : Device) → (d ≡ e) ⊎ (d ≡ exchange e) → Contains cards e → IsOneOf cards d
      one cards e (inl z) m = inl (rw z m)
      one cards e (inr z) m = inr (rw z m)

      of_card : (e : Device) → (d ≡ e) ⊎ (d ≡ exchange e) → Contains (part_cards net (Master j) (master net j) []) e ⊎ Contains (part_cards net (Slave j) (slave net j b) []) e → IsOneOf (deck_devices net s) d
      of_card e z (inl m) = in_deck net s (Master j) (master net j) [] (b, i, refl, refl) d (one (part_cards net (Master j) (master net j) []) e z m)
      of_card e z (inr m) = in_deck net s (Slave j) (slave net j b) [] (b, i, refl, refl) d (one (part_cards net (Slave j) (slave net j b) []) e z m)

  -- a device that is none of the deck's ends at no net of it, so its net is loose, and the rule of loose nets names a part
  module _ (p : ℕ) (d : Device) (at : StandsAt ds p d) (not : InDeck d → ⊥) (m : ℕ) (t : EndsAt d m) (free : IsFree roles m) where
    loose : IsLoose ds roles (length c.nets) m
    loose = record {
      in_range = end_range p d m at t;
      free = free;
      no_output = λ o. no_output o.0 o.1 o.2.0 o.2.1 o.2.2 o.2.3 o.2.4 o.2.5;
      no_cell = λ x dyn r.
          let k = n.all_cells x dyn in
          let here : Reached ds roles (net (At (Dynamic (left_side k.0)) Top)) m = rw (← k.3) r in
          elim (dec_nat m (net (At (Dynamic (left_side k.0)) Top))) [
            | inl same ↦ not (cell_in_deck k.0 k.1 k.2 d (top_owned c roles net s rules n k.0 k.1 k.2 p d at (rw same at t)))
            | inr other ↦ not (cell_in_deck k.0 k.1 k.2 d (reached_owned c roles net s rules n k.0 k.1 k.2 p d at
                ((inside_is c roles net s rules n k.0 k.1 k.2 m here other).reached p d at t, m, here, t)))
          ];
      no_latch = λ o.
          let l = n.all_latches o.0 o.1 o.2 in
          not (at_latch l.0 l.1 l.2 m (subst (λ g. Contains (own_nets g) m) l.3 o.3) p d at t);
    }
      where
        no_output : (x : ℕ) → IsDynamic ds roles x → (q : ℕ) (e : Device) → StandsAt ds q e → e.kind ≡ Keep → EndsAt e x → e.gate ≡ m → ⊥
        no_output x dyn q e st k u g =
            let y = n.all_cells x dyn in
            let f = (n.cells y.0 y.1 y.2).front in
            let same = one_device ds q e f.keeper_device st (rw (f.one_keeper q e st (rw y.3 at u) k) f.keeper_there) in
            let out : m ≡ net (At (Output y.0) Top) = sym g ∙ ap (λ (v : Device). v.gate) same ∙ f.keeper_is.1 in
            not (at_inverter (Output y.0) (At (Dynamic (left_side y.0)) Top) (y.1, y.2, output_single y.0 y.1 y.2, refl) (output_inverts c roles net s rules n y.0 y.1 y.2).1 p d at (rw out at t))

    none : IsUsed ds roles m → ⊥
    none (inl z) = (z.0 p d at).0 t
    none (inr (inl z)) = elim z.0 [
      | inl o ↦
          let l = n.all_latches o.0 o.1 o.2 in
          let same : m ≡ net (At (Next l.0) Top) = sym o.3 ∙ ap (λ (g : Group). g.data_net) l.3 in
          not (at_inverter (Next l.0) (gate_net (l.1).next) (l.1, l.2, gate_single (l.1).next, refl) (n.nexts l.0 l.1 l.2) p d at (rw same at t))
      | inr o ↦
          let k = m - first_output roles in
          let g = get_or s.outputs k High in
          let at_g = slice_get-get_or s.outputs k High (omega (arith, o.0, o.1, n.outs_are)) in
          let same : m ≡ net (At (Sink k) Top) = omega (arith, o.0, n.outputs k g at_g) in
          not (at_inverter (Sink k) (gate_net g) (g, at_g, gate_single g, refl) (n.sinks k g at_g) p d at (rw same at t))
    ]
    none (inr (inr z)) =
        let l = n.all_complements m z.0 z.1 in
        not (at_inverter (Complement l.0) (own l.0) (l.1, refl, refl) (n.complements l.0 l.1).0.inverts p d at (rw l.2 at t))

    pub nowhere : ⊥
    nowhere = none (rules.use_of m (inl loose)).used

  no_other : HasDevicesOf ds (deck_devices net s)
  unfolding InDeck
  no_other d m =
      let q = slice_get-contained ds d m in
      elim (dec_or (dec_contains (deck_devices net s) d) (dec_contains (deck_devices net s) (exchange d))) [
        | inl z ↦ z
        | inr away ↦ absurd (elim (lt_or_ge d.drain (source_count roles)) [
          | inl x ↦ elim (lt_or_ge d.source (source_count roles)) [
            | inl y ↦ rules.no_bridge q.0 d q.1 ((λ f. omega (arith, x, f)), (λ f. omega (arith, y, f)))
            | inr y ↦ nowhere q.0 d q.1 away d.source (inr refl) y
          ]
          | inr x ↦ nowhere q.0 d q.1 away d.drain (inl refl) x
        ])
      ]

  reading : IsReading c roles net s
  reading = record {
    keepers = n.keepers;
    shape = n.shape;
    some_clock = n.some_clock;
    clocks_are = n.clocks_are;
    pins_are = n.pins_are;
    outs_are = n.outs_are;
    few = n.few;
    numbers = n.numbers;
    outputs = n.outputs;
    apart = apart;
    others = others;
    parts = parts;
    no_other = no_other;
  }

pub rules_make_deck : RulesMakeDeck
rules_make_deck c roles net s rules n range = reading_is_exchanged_deck c roles net s (reading c roles net s rules n range)
