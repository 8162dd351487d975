-- A circuit with the cards of a deck with keepers, in any order, and where its devices stand.
use Rattle.std.specs.Prelude.{Some, slice_get, ◌⊎◌}
use Rattle.std.proofs.Common.{List, [], ap, arith, get_or, inl, inr, map, refl, subst, suc, sym, zero, ℕ, ◌+◌, ◌-◌, ◌∙◌, ◌∷◌, ◌≡◌}
use Rattle.dom_base.proofs.Decided.{lt_or_ge}
use Rattle.dom_base.proofs.Lists.{slice_get-contained}
use Rattle.deck.specs.CircuitData.{CircuitData}
use Rattle.deck.specs.NamedDevices.{NamedDevice, device_of, map_device}
use Rattle.deck.specs.PortLayout.{first_output}
use Rattle.port_runs.specs.Periods.{vdd_port, vss_port}
use Rattle.deck.specs.declared.device.Device.{Device}
use Rattle.deck.specs.declared.role.Roles.{Roles}
use Rattle.domino_cell.specs.Stage.{Spot, Top}
use Rattle.switch_model.specs.LinksData.{links_of}
use Rattle.circuit_law.specs.Exchanged.{exchange}
use Rattle.domino_law.specs.DominoDeck.{IsLooseDominoDeck}
use Rattle.domino_law.specs.LooseDeck.{IsNet, IsSourceNet}
use Rattle.domino_law.proofs.SimpleCells.{AreSimple}
use Rattle.domino_law.specs.Nets.{At, Gate, High, Net, Part, Sink, Vdd, Vss}
use Rattle.domino_law.specs.Shape.{IsOutputAt, Shape}
use Rattle.domino_cell.specs.declared.style.Style.TheVariants.{Keeper as WithKeeper}
use Rattle.domino_law.specs.Spelled.{deck_devices, shape_cards}
use Rattle.deck_audit.specs.AuditedDeck.{with_cards}
use Rattle.deck_audit.specs.Audits.{IsOrder}
use Rattle.deck_audit.specs.Words.{AreAt, IsDevice, IsFree, IsInner, IsOutPort, StandsAt}
use Rattle.deck_audit.proofs.CellTrees.{one_device}
use Rattle.deck_audit.proofs.OwnBlocks.{cards_are, keeper_cards}
use Rattle.deck_audit.proofs.RuleFacts.{twin_ends, twin_gate, twin_kind}
use Rattle.std.proofs.lemmas.Option.{same_Some, slice_get-get_or, slice_get-map}
use Rattle.std.specs.Option.{option_map}

-- a circuit whose devices are, in some order, those of a loose deck with keepers
pub record OwnDeck : Type 0 where
  pub circuit : CircuitData
  pub roles : Roles
  pub net : Net → ℕ
  pub shape : Shape
  pub order : List ℕ
  pub keepers : shape.style ≡ WithKeeper
  pub deck : IsLooseDominoDeck roles (links_of (with_cards circuit (deck_devices net shape)) roles) net shape
  pub in_order : IsOrder circuit.devices order (deck_devices net shape)

-- the devices of the circuit
abbrev pub devices : OwnDeck → List Device
devices w = (w.circuit).devices

-- what stands in order at the places of cards
pub record Placed (ds : List Device) (order : List ℕ) (i : ℕ) (e : Device) : Type 0 where
  pub place : ℕ
  pub device : Device
  pub listed : slice_get order i ≡ Some place
  pub there : StandsAt ds place device
  pub twin : (device ≡ e) ⊎ (device ≡ exchange e)

pub placed_at : (ds : List Device) (ps : List ℕ) (es : List Device) → AreAt ds ps es → (i : ℕ) (e : Device) → slice_get es i ≡ Some e → Placed ds ps i e
placed_at ds [] [] h i e z = absurd (cc)
placed_at ds (p ∷ ps) (f ∷ es) h zero e z = record { place = p; device = h.0.0; listed = refl; there = h.0.1; twin = subst (λ x. (h.0.0 ≡ x) ⊎ (h.0.0 ≡ exchange x)) (same_Some _ _ z) h.0.2 }
placed_at ds (p ∷ ps) (f ∷ es) h (suc i) e z =
    let x = placed_at ds ps es h.1 i e z in
    record { place = x.place; device = x.device; listed = x.listed; there = x.there; twin = x.twin }
placed_at ds [] (f ∷ es) h i e z = absurd h
placed_at ds (p ∷ ps) [] h i e z = absurd h

card_at : (ds : List Device) (ps : List ℕ) (es : List Device) → AreAt ds ps es → (i p : ℕ) (d : Device) → slice_get ps i ≡ Some p → StandsAt ds p d
    → (e : Device) × (slice_get es i ≡ Some e) × ((d ≡ e) ⊎ (d ≡ exchange e))
card_at ds [] [] h i p d z at = absurd (cc)
card_at ds (q ∷ ps) (f ∷ es) h zero p d z at = (f, refl, subst (λ x. (x ≡ f) ⊎ (x ≡ exchange f)) (same z) h.0.2)
  where
    same : Some q ≡ Some p → h.0.0 ≡ d
    same z = one_device ds p h.0.0 d (subst (λ x. StandsAt ds x h.0.0) (same_Some _ _ z) h.0.1) at
card_at ds (q ∷ ps) (f ∷ es) h (suc i) p d z at = card_at ds ps es h.1 i p d z at
card_at ds [] (f ∷ es) h i p d z at = absurd h
card_at ds (q ∷ ps) [] h i p d z at = absurd h

-- the device of a card, where `net` numbers the nets
abbrev pub dev_of : (Net → ℕ) → NamedDevice Net → Device
dev_of net x = device_of (map_device net x)

-- the devices of cards
abbrev pub devices_of : (Net → ℕ) → List (NamedDevice Net) → List Device
devices_of net xs = map device_of (map (map_device net) xs)

-- the device of a card stands where the card does
pub device_at : (net : Net → ℕ) (xs : List (NamedDevice Net)) (i : ℕ) (x : NamedDevice Net) → slice_get xs i ≡ Some x → slice_get (devices_of net xs) i ≡ Some (dev_of net x)
device_at net xs i x e =
    slice_get-map device_of (map (map_device net) xs) i ∙ ap (option_map device_of) (slice_get-map (map_device net) xs i ∙ ap (option_map (map_device net)) e)

pub card_of_device : (net : Net → ℕ) (xs : List (NamedDevice Net)) (i : ℕ) (e : Device) → slice_get (devices_of net xs) i ≡ Some e
    → (x : NamedDevice Net) × (slice_get xs i ≡ Some x) × (dev_of net x ≡ e)
card_of_device net [] i e z = absurd (cc)
card_of_device net (x ∷ xs) zero e z = (x, refl, same_Some _ _ z)
card_of_device net (x ∷ xs) (suc i) e z = card_of_device net xs i e z

abbrev pub IsTwin : (Net → ℕ) → Device → NamedDevice Net → Type 0
IsTwin net d x = (d ≡ dev_of net x) ⊎ (d ≡ exchange (dev_of net x))

pub kind_as : (net : Net → ℕ) (d : Device) (x y : NamedDevice Net) → IsTwin net d x → x ≡ y → d.kind ≡ y.kind
kind_as net d x y t e = twin_kind d (dev_of net x) t ∙ ap (λ (z : NamedDevice Net). z.kind) e

-- the card's ends, where it is known
pub ends_as : (x y : NamedDevice Net) (a : Net) → x ≡ y → (x.drain ≡ a) ⊎ (x.source ≡ a) → (y.drain ≡ a) ⊎ (y.source ≡ a)
ends_as x y a e t = subst (λ (z : NamedDevice Net). (z.drain ≡ a) ⊎ (z.source ≡ a)) e t

pub as_device : (net : Net → ℕ) (d : Device) (x : NamedDevice Net) (a b : ℕ) → IsTwin net d x → net x.drain ≡ a → net x.source ≡ b → IsDevice d x.kind (net x.gate) a b
as_device net d x a b t e f = (twin_kind d (dev_of net x) t, twin_gate d (dev_of net x) t, rw (← e, ← f) (twin_ends d (dev_of net x) t))

module _ (w : OwnDeck) where
  -- cells with keepers are simple
  pub simple : AreSimple w.shape
  simple = (((w.deck).spelled).shape).simple w.keepers

  -- a card has a place
  pub place_of : (i : ℕ) (x : NamedDevice Net) → slice_get (keeper_cards w.shape) i ≡ Some x → Placed (devices w) w.order i (dev_of w.net x)
  place_of i x e =
      placed_at (devices w) w.order (deck_devices w.net w.shape) (w.in_order).cards_are i (dev_of w.net x)
      (device_at w.net (shape_cards w.shape) i x (subst (λ xs. slice_get xs i ≡ Some x) (sym (cards_are w.shape w.keepers simple)) e))

  -- what stands at a place is a card
  pub record Carded (p : ℕ) (d : Device) : Type 0 where
    pub index : ℕ
    pub card : NamedDevice Net
    pub listed : slice_get w.order index ≡ Some p
    pub at : slice_get (keeper_cards w.shape) index ≡ Some card
    pub twin : IsTwin w.net d card

  pub carded : (p : ℕ) (d : Device) → StandsAt (devices w) p d → Carded p d
  carded p d at =
      let i = slice_get-contained w.order p ((w.in_order).all p d at) in
      let e = card_at (devices w) w.order (deck_devices w.net w.shape) (w.in_order).cards_are i.0 p d i.1 at in
      let x = card_of_device w.net (shape_cards w.shape) i.0 e.0 e.1 in
      record {
        index = i.0;
        card = x.0;
        listed = i.1;
        at = subst (λ xs. slice_get xs i.0 ≡ Some x.0) (cards_are w.shape w.keepers simple) x.1;
        twin = subst (λ f. (d ≡ f) ⊎ (d ≡ exchange f)) (sym x.2) e.2;
      }

  -- one index has one place
  pub one_place : (i p q : ℕ) → slice_get w.order i ≡ Some p → slice_get w.order i ≡ Some q → p ≡ q
  one_place i p q a b = same_Some _ _ (sym a ∙ b)

  pub at_one : (off p q position place' : ℕ) → slice_get w.order (off + position) ≡ Some p → position ≡ q → slice_get w.order (off + q) ≡ Some place' → p ≡ place'
  at_one off p q position place' a e b = one_place (off + q) p place' (subst (λ j. slice_get w.order (off + j) ≡ Some p) e a) b

  pub apart : (a b : Net) → IsNet w.shape a → IsNet w.shape b → w.net a ≡ w.net b → a ≡ b
  apart = ((w.deck).spelled).apart

  pub vdd_is : w.net Vdd ≡ vdd_port
  vdd_is = ((w.deck).ports).numbers Vdd tt

  pub vss_is : w.net Vss ≡ vss_port
  vss_is = ((w.deck).ports).numbers Vss tt

  pub part_free : (part : Part) (spot : Spot) → IsNet w.shape (At part spot) → IsFree w.roles (w.net (At part spot))
  part_free part spot h = (((w.deck).spelled).others part spot h).0

  pub low_source : (a : Net) → IsSourceNet w.shape a → IsFree w.roles (w.net a) → ⊥
  low_source a h f = omega (arith, ((w.deck).spelled).sources a h, ((w.deck).ports).sources_are, f)

  -- an output port is the net of an output
  pub out_net : (n : ℕ) → IsOutPort w.roles n → (m : ℕ) × (g : Gate) × IsOutputAt w.shape m g × (n ≡ w.net (At (Sink m) Top))
  out_net n z =
      let m = n - first_output w.roles in
      let g = get_or w.shape.outputs m High in
      let at_g = slice_get-get_or w.shape.outputs m High (omega (arith, z.0, z.1, (w.deck).outs_are)) in
      (m, g, at_g, omega (arith, z.0, (w.deck).outputs m g at_g))

  pub part_no_out : (part : Part) (spot : Spot) → IsNet w.shape (At part spot) → ((m : ℕ) → At part spot ≡ At (Sink m) Top → ⊥) → IsOutPort w.roles (w.net (At part spot)) → ⊥
  part_no_out part spot h away z = let q = out_net (w.net (At part spot)) z in away q.0 (apart (At part spot) (At (Sink q.0) Top) h (q.1, q.2) q.3)

  -- a net of a part other than an output's inverter is no port
  pub inner_net : (part : Part) (spot : Spot) → IsNet w.shape (At part spot) → ((m : ℕ) → At part spot ≡ At (Sink m) Top → ⊥) → IsInner w.roles (w.net (At part spot))
  inner_net part spot h away = elim (lt_or_ge (w.net (At part spot)) (first_output w.roles + w.roles.outs)) [
    | inl low ↦ absurd (part_no_out part spot h away (omega (arith, part_free part spot h, ((w.deck).ports).sources_are), low))
    | inr high ↦ high
  ]
