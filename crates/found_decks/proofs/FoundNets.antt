-- What an audit finds, with a choice of each cell's tree and of each complement's signal, and the numbers of its nets.
use Rattle.std.specs.Prelude.{Some, slice_get, true, ◌⊎◌}
use Rattle.std.proofs.Common.{List, [], ap, arith, get_or, inl, inr, length, refl, subst, suc, sym, zero, ℕ, ◌+◌, ◌-◌, ◌<◌, ◌∙◌, ◌∷◌, ◌≡◌, ◌≤◌}
use Rattle.std.proofs.lemmas.Option.{same_Some, slice_get-get_or, slice_get_within}
use Rattle.dom_base.specs.Decided.{Decided}
use Rattle.dom_base.proofs.Decided.{dec_nat, lt_or_ge}
use Rattle.dom_base.proofs.Lists.{slice_get-there}
use Rattle.deck.specs.CircuitData.{CircuitData}
use Rattle.deck.specs.PortLayout.{first_clock, first_output, first_pin, source_count}
use Rattle.deck.specs.declared.device.Device.{Device}
use Rattle.deck.specs.declared.role.Roles.{Roles}
use Rattle.sp_network.specs.Tree.{Leaf, Tree}
use Rattle.domino_cell.specs.Stage.{Inside, Top}
use Rattle.domino_law.specs.Nets.{At, Complement, DeckSignal, Dynamic, FromLatch, FromPin, Master, Net, Next, Output, Sink, Slave, own}
use Rattle.domino_law.specs.Settings.{port_number}
use Rattle.sp_reduction.specs.Networks.{Link, mids}
use Rattle.deck_audit.specs.Rules.{KeepsRules}
use Rattle.deck_audit.specs.Words.{Group, IsComplement, IsDynamic, IsLatchOutput, IsPin, StandsAt}
use Rattle.found_decks.specs.FoundDecks.{AreFound, ArePlaces, FoundLatch, FoundParts, IsCellPlaces, IsSignalNet}
use Rattle.found_decks.proofs.Choices.{Chosen, choose}
use Rattle.found_decks.proofs.Signals.{signal_at}

-- a cell by its nets: its dynamic net, the number of its clock, its output, its foot net, its tree, the inner nets of that, and its places
pub record CellParts : Type 0 where
  pub top : ℕ
  pub clock : ℕ
  pub output : ℕ
  pub bottom : ℕ
  pub tree : Tree Link
  pub inner : List ℕ
  pub places : List ℕ

pub record IsCellParts (ds : List Device) (roles : Roles) (x : ℕ) (c : CellParts) : Type 0 where
  pub top_is : c.top ≡ x
  pub dynamic : IsDynamic ds roles c.top
  pub clock_low : c.clock < roles.clocks
  pub cell : IsCellPlaces ds roles c.top (first_clock + c.clock) c.output c.bottom c.tree c.places
  pub inner_is : c.inner ≡ mids c.tree c.top c.bottom (cell.has_tree).between

-- what stands where nothing was found
abbrev pub no_cell : CellParts
no_cell = record {
  top = 0;
  clock = 0;
  output = 0;
  bottom = 0;
  tree = Leaf (record { number = 0; from = 0; to = 0; width = 0; height = 0 });
  inner = [];
  places = [];
}

abbrev pub no_latch : FoundLatch
no_latch = record {
  group = record { master = 0; master_up = 0; master_down = 0; data_net = 0; output = 0; output_up = 0; output_down = 0; start = true };
  places = [];
}

abbrev pub latch_at : FoundParts → ℕ → FoundLatch
latch_at f j = get_or f.latches j no_latch

abbrev pub group_at : FoundParts → ℕ → Group
group_at f j = (latch_at f j).group

-- the number of a signal's net
abbrev pub own_number : Roles → FoundParts → DeckSignal → ℕ
own_number roles f (FromPin p) = first_pin roles + p
own_number roles f (FromLatch j) = (group_at f j).output

abbrev pub IsFoundSignal : Roles → FoundParts → DeckSignal → Type 0
IsFoundSignal roles f (FromPin p) = p < roles.pins
IsFoundSignal roles f (FromLatch j) = (l : FoundLatch) × (slice_get f.latches j ≡ Some l)

abbrev pub IsSignalOf : List Device → Roles → FoundParts → ℕ → ℕ → DeckSignal → Type 0
IsSignalOf ds roles f k n l = IsFoundSignal roles f l × IsComplement ds roles n (own_number roles f l)

-- the complement of the first signal with this net
pub pick : {A : Type 0} → Decided A → ℕ → ℕ → ℕ
pick (inl a) n m = n
pick (inr a) n m = m

pub complement_net : Roles → FoundParts → List ℕ → List DeckSignal → ℕ → ℕ
complement_net roles f [] ls i = 0
complement_net roles f (n ∷ ns) [] i = 0
complement_net roles f (n ∷ ns) (l ∷ ls) i = pick (dec_nat (own_number roles f l) i) n (complement_net roles f ns ls i)

-- a circuit that keeps all rules, with what was found and where its devices stand
pub record Found : Type 0 where
  pub circuit : CircuitData
  pub roles : Roles
  pub parts : FoundParts
  pub order : List ℕ
  pub some_clock : 1 ≤ roles.clocks
  pub few : source_count roles ≤ length circuit.nets
  pub range : (d : Device) (p : ℕ) → StandsAt circuit.devices p d → (d.drain < length circuit.nets) × (d.source < length circuit.nets)
  pub rules : KeepsRules circuit.devices roles (length circuit.nets)
  pub found : AreFound circuit.devices roles parts
  pub places : ArePlaces circuit.devices roles parts order

abbrev pub devices : Found → List Device
devices w = (w.circuit).devices

module _ (w : Found) where
  abbrev pub IsCellOf : ℕ → ℕ → CellParts → Type 0
  IsCellOf k x c = IsCellParts (devices w) w.roles x c × (slice_get (w.places).cells k ≡ Some c.places)

  the_cell : (k x : ℕ) → slice_get (w.parts).tops k ≡ Some x → (c : CellParts) × IsCellOf k x c
  the_cell k x e =
      let b = slice_get-there (w.places).cells k (omega (arith, slice_get_within (w.parts).tops k x e, ((w.places).cells_are).count)) in
      let z = ((w.places).cells_are).each k x b.0 e b.1 in
      let clock_is = (z.4.front).clock_is in
      let clock : z.0 ≡ first_clock + (z.0 - first_clock) = shift z.0 clock_is.0 in
      let cell : IsCellPlaces (devices w) w.roles x (first_clock + (z.0 - first_clock)) z.1 z.2 z.3 b.0 = subst (λ m. IsCellPlaces (devices w) w.roles x m z.1 z.2 z.3 b.0) clock z.4 in (
        record { top = x; clock = z.0 - first_clock; output = z.1; bottom = z.2; tree = z.3; inner = mids z.3 x z.2 (cell.has_tree).between; places = b.0 },
        (record { top_is = refl; dynamic = (w.found).tops_sound k x e; clock_low = low z.0 w.roles.clocks clock_is.0 clock_is.1; cell = cell; inner_is = refl }, b.1),
      )
    where
      shift : (n : ℕ) → first_clock ≤ n → n ≡ first_clock + (n - first_clock)
      shift n l = omega (arith, l)

      low : (n clocks : ℕ) → first_clock ≤ n → n < first_clock + clocks → n - first_clock < clocks
      low n clocks l m = omega (arith, l, m)

  pub cells : Chosen IsCellOf (w.parts).tops
  cells = choose IsCellOf (w.parts).tops the_cell

  -- the latch at a place
  pub latch_is : (j : ℕ) (l : FoundLatch) → slice_get (w.parts).latches j ≡ Some l → latch_at w.parts j ≡ l
  latch_is j l e = same_Some _ _ (sym (slice_get-get_or (w.parts).latches j no_latch (slice_get_within (w.parts).latches j l e)) ∙ e)

  -- the net of a signal is its number
  pub net_of : (l : DeckSignal) → IsFoundSignal w.roles w.parts l → IsSignalNet w.roles (w.parts).latches l (own_number w.roles w.parts l)
  net_of (FromPin p) i = (i, refl)
  net_of (FromLatch j) i = (i.0, i.1, ap (λ (l : FoundLatch). (l.group).output) (sym (latch_is j i.0 i.1)))

  number_of : (l : DeckSignal) (i : ℕ) → IsSignalNet w.roles (w.parts).latches l i
      → IsFoundSignal w.roles w.parts l × (own_number w.roles w.parts l ≡ i)
  number_of (FromPin p) i h = h
  number_of (FromLatch j) i h = ((h.0, h.1), ap (λ (l : FoundLatch). (l.group).output) (latch_is j h.0 h.1) ∙ h.2)

  -- the signal of a pin or a latch output
  pub signal_of : (i : ℕ) → IsPin w.roles i ⊎ IsLatchOutput (devices w) w.roles i → (l : DeckSignal) × IsFoundSignal w.roles w.parts l × (own_number w.roles w.parts l ≡ i)
  signal_of i z =
      let l = signal_at (devices w) w.roles (w.parts).latches (w.found).latches_full i z in
      let n = number_of l.0 i l.1 in
      (l.0, n.0, n.1)

  the_signal : (k n : ℕ) → slice_get (w.parts).complements k ≡ Some n → (l : DeckSignal) × IsSignalOf (devices w) w.roles w.parts k n l
  the_signal k n e =
      let i = (w.found).complements_sound k n e in
      let l = signal_of i.0 (i.1.0).of_signal in
      (l.0, (l.1, subst (λ m. IsComplement (devices w) w.roles n m) (sym l.2) i.1))

  pub signals : Chosen (IsSignalOf (devices w) w.roles w.parts) (w.parts).complements
  signals = choose (IsSignalOf (devices w) w.roles w.parts) (w.parts).complements the_signal

  abbrev pub cell_at : ℕ → CellParts
  cell_at k = get_or cells.list k no_cell

  -- the numbers of the nets
  abbrev pub net : Net → ℕ
  net (At (Dynamic k) Top) = (cell_at k.cell).top
  net (At (Dynamic k) (Inside i zero)) = (cell_at k.cell).bottom
  net (At (Dynamic k) (Inside i (suc j))) = get_or (cell_at k.cell).inner j 0
  net (At (Output k) spot) = (cell_at k).output
  net (At (Complement l) spot) = complement_net w.roles w.parts (w.parts).complements signals.list (own_number w.roles w.parts l)
  net (At (Master j) Top) = (group_at w.parts j).master
  net (At (Master j) (Inside zero i)) = (group_at w.parts j).master_up
  net (At (Master j) (Inside (suc k) i)) = (group_at w.parts j).master_down
  net (At (Slave j) Top) = (group_at w.parts j).output
  net (At (Slave j) (Inside zero i)) = (group_at w.parts j).output_up
  net (At (Slave j) (Inside (suc k) i)) = (group_at w.parts j).output_down
  net (At (Next j) spot) = (group_at w.parts j).data_net
  net (At (Sink i) spot) = first_output w.roles + i
  net a = port_number w.roles a

  pub own_is : (l : DeckSignal) → net (own l) ≡ own_number w.roles w.parts l
  own_is (FromPin p) = refl
  own_is (FromLatch j) = refl

  -- an input has one complement
  pub one_complement : (n m i : ℕ) → IsComplement (devices w) w.roles n i → IsComplement (devices w) w.roles m i → n ≡ m
  one_complement n m i a b = elim (lt_or_ge n m) [
    | inl l ↦ absurd (b.1 n l a.0)
    | inr g ↦ elim (lt_or_ge m n) [
      | inl l ↦ absurd (a.1 m l b.0)
      | inr h ↦ omega (arith, g, h)
    ]
  ]

  looked_up : (ns : List ℕ) (ls : List DeckSignal) → ((k n : ℕ) (l : DeckSignal) → slice_get ns k ≡ Some n → slice_get ls k ≡ Some l → IsComplement (devices w) w.roles n (own_number w.roles w.parts l))
      → (k n : ℕ) (l : DeckSignal) → slice_get ns k ≡ Some n → slice_get ls k ≡ Some l → complement_net w.roles w.parts ns ls (own_number w.roles w.parts l) ≡ n
  unfolding pick complement_net
  looked_up [] ls h k n l a b = absurd (cc)
  looked_up (m ∷ ns) [] h k n l a b = absurd (cc)
  looked_up (m ∷ ns) (g ∷ ls) h zero n l a b = by (dec_nat (own_number w.roles w.parts g) (own_number w.roles w.parts l))
    where
      by : (z : Decided (own_number w.roles w.parts g ≡ own_number w.roles w.parts l)) → pick z m (complement_net w.roles w.parts ns ls (own_number w.roles w.parts l)) ≡ n
      by (inl e) = same_Some _ _ a
      by (inr f) = absurd (f (ap (own_number w.roles w.parts) (same_Some _ _ b)))
  looked_up (m ∷ ns) (g ∷ ls) h (suc k) n l a b = by (dec_nat (own_number w.roles w.parts g) (own_number w.roles w.parts l)) (looked_up ns ls (λ k n l a b. h (suc k) n l a b) k n l a b)
    where
      by : (z : Decided (own_number w.roles w.parts g ≡ own_number w.roles w.parts l)) → complement_net w.roles w.parts ns ls (own_number w.roles w.parts l) ≡ n
          → pick z m (complement_net w.roles w.parts ns ls (own_number w.roles w.parts l)) ≡ n
      by (inl e) r =
          one_complement m n (own_number w.roles w.parts l) (subst (λ i. IsComplement (devices w) w.roles m i) e (h 0 m g refl refl)) (h (suc k) n l a b)
      by (inr f) r = r

  pub complement_at : (k n : ℕ) (l : DeckSignal) → slice_get (w.parts).complements k ≡ Some n → slice_get signals.list k ≡ Some l
      → net (At (Complement l) Top) ≡ n
  complement_at k n l a b = looked_up (w.parts).complements signals.list each k n l a b
    where
      each : (k n : ℕ) (l : DeckSignal) → slice_get (w.parts).complements k ≡ Some n → slice_get signals.list k ≡ Some l → IsComplement (devices w) w.roles n (own_number w.roles w.parts l)
      each k n l a b =
          let z = signals.at k n a in
          let same : z.0 ≡ l = same_Some _ _ (sym z.1 ∙ b) in
          subst (λ (g : DeckSignal). IsComplement (devices w) w.roles n (own_number w.roles w.parts g)) same z.2.1

  -- the cell at a place
  pub cell_is : (k x : ℕ) → slice_get (w.parts).tops k ≡ Some x → IsCellOf k x (cell_at k)
  cell_is k x e =
      let z = cells.at k x e in
      subst (IsCellOf k x) (same_Some _ _ (sym z.1 ∙ slice_get-get_or cells.list k no_cell (slice_get_within cells.list k z.0 z.1))) z.2
