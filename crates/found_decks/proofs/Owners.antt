-- Whose net each device of a circuit ends at, by the deck that an audit finds.
use Rattle.std.specs.List.{AllByRecursion}
use Rattle.std.specs.Prelude.{Contains, Some, slice_get, ◌≢◌, ◌⊎◌}
use Rattle.std.proofs.Common.{List, [], ap, arith, inl, inr, length, refl, subst, suc, sym, zero, ℕ, ◌+◌, ◌<◌, ◌∙◌, ◌∷◌, ◌≡◌, ◌≤◌}
use Rattle.std.proofs.lemmas.Option.{slice_get_within}
use Rattle.dom_base.proofs.Lists.{AllByRecursion-weaker, Contains-slice_get, slice_get-contained}
use Rattle.deck.specs.NamedDevices.{NamedDevice}
use Rattle.deck.specs.declared.device.Device.{Device}
use Rattle.switch_model.specs.Laws.{EndsAt}
use Rattle.switch_model.proofs.Searches.{ends_at}
use Rattle.circuit_law.specs.Counts.{Distinct}
use Rattle.circuit_law.specs.Exchanged.{exchange}
use Rattle.domino_law.specs.LooseDeck.{IsNet}
use Rattle.domino_law.specs.Nets.{At, Complement, DeckSignal, Dynamic, Master, Net, Next, Output, Sink, Slave, Vdd, Vss}
use Rattle.domino_law.specs.Spelled.{deck_devices, shape_cards}
use Rattle.deck_audit.specs.AuditedDeck.{IsExchangedDeck, with_cards}
use Rattle.deck_audit.specs.Words.{AreAt, StandsAt}
use Rattle.deck_audit.proofs.CellTrees.{one_device}
use Rattle.deck_audit.proofs.NumberedDecks.{rules_make_deck}
use Rattle.deck_audit.proofs.OwnBlocks.{OfCell, OfLatch, cards_are}
use Rattle.deck_audit.proofs.OwnCards.{IsTwin, OwnDeck, apart, card_of_device, dev_of, devices_of}
use Rattle.deck_audit.proofs.OwnFacts.{Facts, facts}
use Rattle.deck_audit.proofs.RuleFacts.{end_of, twin_ends}
use Rattle.found_decks.specs.FoundDecks.{numbers_from}
use Rattle.found_decks.proofs.FoundNets.{Found, devices, net}
use Rattle.found_decks.proofs.FoundShapes.{cells_simple, numbered_found, shape}
use Rattle.found_decks.proofs.PlacesAll.{numbers_have}

-- a list at its own indices
pub are_self : (all : List Device) (o : ℕ) (xs : List Device) → ((i : ℕ) (d : Device) → slice_get xs i ≡ Some d → slice_get all (o + i) ≡ Some d) → AreAt all (numbers_from o (length xs)) xs
are_self all o [] h = tt
are_self all o (x ∷ xs) h = (
  (x, subst (λ k. slice_get all k ≡ Some x) (plus o) (h 0 x refl), inl refl),
  are_self all (o + 1) xs (λ i d e. subst (λ k. slice_get all k ≡ Some d) (shift o i) (h (suc i) d e)),
)
  where
    plus : (o : ℕ) → o + 0 ≡ o
    plus o = omega arith

    shift : (o i : ℕ) → o + suc i ≡ o + 1 + i
    shift o i = omega arith

indices_above : (o k : ℕ) → AllByRecursion (λ m. o ≤ m) (numbers_from o k)
indices_above o zero = tt
indices_above o (suc k) = (omega arith, AllByRecursion-weaker (λ m. o + 1 ≤ m) (λ m. o ≤ m) (λ m l. omega (arith, l)) (numbers_from (o + 1) k) (indices_above (o + 1) k))

pub indices_distinct : (o k : ℕ) → Distinct (numbers_from o k)
indices_distinct o zero = tt
indices_distinct o (suc k) = (
  AllByRecursion-weaker (λ m. o + 1 ≤ m) (λ m. m ≢ o) (λ m l e. omega (arith, l, e)) (numbers_from (o + 1) k) (indices_above (o + 1) k),
  indices_distinct (o + 1) k,
)

pub from_zero : (i : ℕ) → i ≡ 0 + i
from_zero i = omega arith

pub index_listed : (p n : ℕ) → p < n → Contains (numbers_from 0 n) p
index_listed p n l = Contains-slice_get (numbers_from 0 n) p p (numbers_have 0 n p l ∙ ap (λ k. Some k) (sym (from_zero p)))

-- whose a net is
pub data Owner : Type 0 where
  OneCell : ℕ → Owner
  OneComplement : DeckSignal → Owner
  OneLatch : ℕ → Owner
  OneSink : ℕ → Owner
  OneNext : ℕ → Owner
  Nobody : Owner

abbrev pub owner : Net → Owner
owner (At (Dynamic k) spot) = OneCell k.cell
owner (At (Output k) spot) = OneCell k
owner (At (Complement l) spot) = OneComplement l
owner (At (Master j) spot) = OneLatch j
owner (At (Slave j) spot) = OneLatch j
owner (At (Sink i) spot) = OneSink i
owner (At (Next j) spot) = OneNext j
owner _ = Nobody

pub cell_owner : (k : ℕ) (a : Net) → OfCell k a → owner a ≡ OneCell k
cell_owner k (At (Dynamic j) spot) h = ap (λ n. OneCell n) (sym h)
cell_owner k (At (Output j) spot) h = ap (λ n. OneCell n) (sym h)
cell_owner k a h = absurd h

pub latch_owner : (k : ℕ) (a : Net) → OfLatch k a → owner a ≡ OneLatch k
latch_owner k (At (Master j) spot) h = ap (λ n. OneLatch n) (sym h)
latch_owner k (At (Slave j) spot) h = ap (λ n. OneLatch n) (sym h)
latch_owner k a h = absurd h

supply_owner : (a : Net) → (a ≡ Vdd) ⊎ (a ≡ Vss) → owner a ≡ Nobody
supply_owner a (inl z) = ap (λ (b : Net). owner b) z
supply_owner a (inr z) = ap (λ (b : Net). owner b) z

module _ (w : Found) where
  abbrev ds : List Device
  ds = devices w

  pub exchanged : IsExchangedDeck w.circuit w.roles (net w) (shape w)
  exchanged = rules_make_deck w.circuit w.roles (net w) (shape w) w.rules (numbered_found w) w.range

  -- the deck itself, with its devices in its own order
  abbrev pub cards : List Device
  cards = deck_devices (net w) (shape w)

  abbrev pub own_deck : OwnDeck
  own_deck = record {
    circuit = with_cards w.circuit cards;
    roles = w.roles;
    net = net w;
    shape = shape w;
    order = numbers_from 0 (length cards);
    keepers = refl;
    deck = exchanged.deck;
    in_order = record {
      once = indices_distinct 0 (length cards);
      all = λ p d e. index_listed p (length cards) (slice_get_within cards p d e);
      cards_are = are_self cards 0 cards (λ i d e. subst (λ k. slice_get cards k ≡ Some d) (from_zero i) e);
    };
  }

  -- the card of a device
  record Card (d : Device) : Type 0 where
    pub card : NamedDevice Net
    pub known : Facts own_deck card
    pub twin : IsTwin (net w) d card

  card_of : (d : Device) (i : ℕ) (e : Device) → slice_get cards i ≡ Some e → (d ≡ e) ⊎ (d ≡ exchange e) → Card d
  card_of d i e at t =
      let x = card_of_device (net w) (shape_cards (shape w)) i e at in
      record {
        card = x.0;
        known = facts own_deck i x.0 (subst (λ xs. slice_get xs i ≡ Some x.0) (cards_are (shape w) refl (cells_simple w)) x.1);
        twin = subst (λ f. (d ≡ f) ⊎ (d ≡ exchange f)) (sym x.2) t;
      }

  card_at : (p : ℕ) (d : Device) → StandsAt ds p d → Card d
  card_at p d at = elim (exchanged.no_other d (Contains-slice_get ds p d at)) [
    | inl m ↦ let i = slice_get-contained cards d m in card_of d i.0 d i.1 (inl refl)
    | inr m ↦ let i = slice_get-contained cards (exchange d) m in card_of d i.0 (exchange d) i.1 (inr refl)
  ]

  -- the nets of the deck at which a device ends are one part's or supplies
  end_owner : (d : Device) (c : Card d) (a : Net) → IsNet (shape w) a → EndsAt d (net w a) → (owner a ≡ Nobody) ⊎ (owner a ≡ owner (c.card).drain)
  end_owner d c a i t =
      let f = c.known in
      elim (end_of d (net w (c.card).drain) (net w (c.card).source) (net w a) (twin_ends d (dev_of (net w) c.card) c.twin) t) [
        | inl z ↦ inr (ap (λ (b : Net). owner b) (apart own_deck a (c.card).drain i f.drain_is z))
        | inr z ↦
            let e = apart own_deck a (c.card).source i f.source_is z in
            elim f.joined [
              | inl s ↦ inl (ap (λ (b : Net). owner b) e ∙ supply_owner (c.card).source s)
              | inr (inl k) ↦ inr (ap (λ (b : Net). owner b) e ∙ cell_owner k.0 (c.card).source k.2 ∙ sym (cell_owner k.0 (c.card).drain k.1))
              | inr (inr k) ↦ inr (ap (λ (b : Net). owner b) e ∙ latch_owner k.0 (c.card).source k.2 ∙ sym (latch_owner k.0 (c.card).drain k.1))
            ]
      ]

  abbrev pub EndsOf : Owner → ℕ → Type 0
  EndsOf o p = (d : Device) × StandsAt ds p d × (a : Net) × IsNet (shape w) a × EndsAt d (net w a) × (owner a ≡ o)

  pub one_owner : (o q : Owner) (p : ℕ) → EndsOf o p → EndsOf q p → (o ≡ Nobody → ⊥) → (q ≡ Nobody → ⊥) → o ≡ q
  one_owner o q p h k some other =
      let c = card_at p h.0 h.1 in
      let t : EndsAt h.0 (net w k.2) = subst (λ e. EndsAt e (net w k.2)) (one_device ds p k.0 h.0 k.1 h.1) k.4 in
      elim (end_owner h.0 c h.2 h.3 h.4) [
        | inl z ↦ absurd (some (sym h.5 ∙ z))
        | inr y ↦ elim (end_owner h.0 c k.2 k.3 t) [
          | inl z ↦ absurd (other (sym k.5 ∙ z))
          | inr x ↦ sym h.5 ∙ y ∙ sym x ∙ k.5
        ]
      ]

  -- the places of cards of one part
  abbrev pub Owned : Owner → NamedDevice Net → Type 0
  Owned o x = IsNet (shape w) x.drain × (owner x.drain ≡ o)

  pub owned : (o : Owner) (ps : List ℕ) (xs : List (NamedDevice Net)) → AreAt ds ps (devices_of (net w) xs) → AllByRecursion (Owned o) xs → AllByRecursion (EndsOf o) ps
  owned o [] [] h k = tt
  owned o (p ∷ ps) (x ∷ xs) h k = (
    (h.0.0, h.0.1, x.drain, k.0.0, ends_at h.0.0 (net w x.drain) (net w x.source) (twin_ends h.0.0 (dev_of (net w) x) h.0.2), k.0.1),
    owned o ps xs h.1 k.1,
  )
  owned o [] (x ∷ xs) h k = absurd h
  owned o (p ∷ ps) [] h k = absurd h
