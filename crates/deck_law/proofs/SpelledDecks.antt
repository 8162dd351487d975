-- A loose deck by names is one by numbers, with its ports in order.
use Rattle.std.specs.Prelude.{AllPairs, Contains, ◌==◌, ◌||◌, slice_index_or}
use Rattle.std.specs.List.{list_any}
use Rattle.std.proofs.Common.{◌≡◌, ℕ, zero, suc, ◌+◌, ◌-◌, ◌*◌, ◌/◌, ◌%◌, ◌<◌, ◌≤◌, Bool, true, false, List, [], ◌∷◌, ◌++◌, length, map, take, drop, refl, sym, ap, ◌∙◌, subst, inl, inr, arith, zip, Some, slice_get, length-append, length-drop, nat_lt, eq-eqb, ltb-true, ltb-false, length-take}
use Rattle.std.proofs.lemmas.Option.{get_or_from_slice_get, slice_get_within}
use Rattle.std.proofs.lemmas.Bool.{cases_lt, eqb-false}
use Rattle.dom_base.proofs.Lists.{Contains-slice_get, slice_get-contained, All-at}
use Rattle.deck.specs.CircuitData.{CircuitData}
use Rattle.deck.specs.Nets.{IsCircuit}
use Rattle.deck.specs.Ports.{leading_ports}
use Rattle.sp_network.specs.Tree.{EachLeaf, Leaf, Parallel, Series, Tree, map_tree}
use Rattle.domino_cell.specs.Stage.{Spot, Top}
use Rattle.switch_model.specs.LinksData.{links_of}
use Rattle.domino_law.specs.LooseDeck.{IsNet, IsSourceNet}
use Rattle.domino_law.specs.Nets.{At, Clock, Gate, Lm, Lmb, Ls, Lsb, Net, Part, Pin, Rs, Rsb, DeckSignal, Vdd, Vss, Sink, leaf_of}
use Rattle.domino_law.specs.Settings.{HasPorts, port_number}
use Rattle.domino_law.specs.Shape.{DominoCell, HasComplement, IsCellAt, IsGate, IsLeafOf, IsShape, IsSignal, Latch, IsOutputAt, DynamicStage}
use Rattle.domino_cell.specs.declared.style.Style.{Style}
use Rattle.domino_law.specs.Spelled.{IsSpelledDeck}
use Rattle.deck_form.specs.DeckNets.{SinkEnd, Fixed, OfDynamic, OfLeaf, OfOutput, CellPlan}
use Rattle.deck_form.specs.NamedDecks.{IsEndIn, IsNamedDeck, is_plus_literal, names_complement, reads}
use Rattle.deck_law.specs.NetNames.{cell_shape, end_gate, gate_of, latch_shape, rail_of, leaf_signal}
use Rattle.deck_law.proofs.GateNames.{leaf_back}
use Rattle.deck_law.proofs.NamedNets.{apart, named_net}
use Rattle.deck_law.proofs.Numbers.{grew, lead_count, name_of, nets_are, parts_are, source_at, the_net, the_roles, the_shape, out_at}
use Rattle.deck_law.proofs.PortNumbers.{number_is}
use Rattle.network.proofs.Lists.{get_of_map, get_map}
use Rattle.deck_form.proofs.DeckForms.{zipped_get, length_map}
use Rattle.domino_law.specs.DominoDeck.{IsLooseDominoDeck}
use Rattle.deck.specs.PortLayout.{first_output}
use Rattle.deck_law.specs.Laws.{LooseDecksAreSpelled}
use Rattle.domino_law.proofs.RunsByPorts.{source_found}
use Rattle.domino_law.proofs.SimpleCells.{AreSimple, simple_side}

-- what the gates of a tree are
reads_self : (gate : ℕ) → reads gate (Leaf gate) ≡ true
reads_self gate = eq-eqb gate gate refl

or_left : (a b : Bool) → a ≡ true → (a || b) ≡ true
or_left a b e = rw e refl

or_right : (a b : Bool) → b ≡ true → (a || b) ≡ true
or_right true b e = refl
or_right false b e = e

each_read : (P : ℕ → Type 0) (Q : Gate → Type 0) (f : ℕ → Gate) (t : Tree ℕ) → ((gate : ℕ) → reads gate t ≡ true → P gate → Q (f gate)) → EachLeaf P t → EachLeaf Q (map_tree f t)
each_read P Q f (Leaf gate) h e = h gate (reads_self gate) e
each_read P Q f (Series l r) h e = (
  each_read P Q f l (λ gate is. h gate (or_left (reads gate l) (reads gate r) is)) e.0,
  each_read P Q f r (λ gate is. h gate (or_right (reads gate l) (reads gate r) is)) e.1,
)
each_read P Q f (Parallel l r) h e = (
  each_read P Q f l (λ gate is. h gate (or_left (reads gate l) (reads gate r) is)) e.0,
  each_read P Q f r (λ gate is. h gate (or_right (reads gate l) (reads gate r) is)) e.1,
)

any_at : {X : Type 0} (test : X → Bool) (xs : List X) (k : ℕ) (x : X) → slice_get xs k ≡ Some x → test x ≡ true → list_any test xs ≡ true
any_at test [] k x e t = absurd (cc)
any_at test (y ∷ xs) zero x e t = let same : y ≡ x = cc in or_left (test y) (list_any test xs) (subst (λ z. test z ≡ true) (sym same) t)
any_at test (y ∷ xs) (suc k) x e t = or_right (test y) (list_any test xs) (any_at test xs k x e t)

mapped_contains : (f : ℕ → DeckSignal) (xs : List ℕ) (x : ℕ) → Contains xs x → Contains (map f xs) (f x)
mapped_contains f xs x h = let c = slice_get-contained xs x h in Contains-slice_get (map f xs) c.0 (f x) (get_map f xs c.0 x c.1)

pub cell_exists : {X Y : Type 0} (f : X → Y) (xs : List X) (k : ℕ) → k < length xs → (y : Y) × (slice_get (map f xs) k ≡ Some y)
cell_exists f [] k lt = absurd (omega arith)
cell_exists f (x ∷ xs) zero lt = (f x, refl)
cell_exists f (x ∷ xs) (suc k) lt = cell_exists f xs k (omega arith)

pub latch_exists : (f : Bool × SinkEnd → Latch) (xs : List Bool) (es : List SinkEnd) (j : ℕ) → length xs ≡ length es → j < length xs → (y : Latch) × (slice_get (map f (zip xs es)) j ≡ Some y)
latch_exists f [] es j same lt = absurd (omega arith)
latch_exists f (x ∷ xs) [] j same lt = absurd (omega arith)
latch_exists f (x ∷ xs) (e ∷ es) zero same lt = (f (x, e), refl)
latch_exists f (x ∷ xs) (e ∷ es) (suc j) same lt = latch_exists f xs es j (omega arith) (omega arith)

pub taken_get : {X : Type 0} (n : ℕ) (xs : List X) (i : ℕ) (x : X) → slice_get (take n xs) i ≡ Some x → slice_get xs i ≡ Some x
taken_get zero xs i x e = absurd (cc)
taken_get (suc n) [] i x e = absurd (cc)
taken_get (suc n) (y ∷ xs) zero x e = e
taken_get (suc n) (y ∷ xs) (suc i) x e = taken_get n xs i x e

dropped_get : {X : Type 0} (n : ℕ) (xs : List X) (i : ℕ) (x : X) → slice_get (drop n xs) i ≡ Some x → (k : ℕ) × (slice_get xs k ≡ Some x)
dropped_get zero xs i x e = (i, e)
dropped_get (suc n) [] i x e = absurd (cc)
dropped_get (suc n) (y ∷ xs) i x e = let r = dropped_get n xs i x e in (suc r.0, r.1)

rises : (xs : List ℕ) → AllPairs (λ a b. a < b) xs → (i j x y : ℕ) → i < j → slice_get xs i ≡ Some x → slice_get xs j ≡ Some y → x < y
rises xs h i j x y l e f = omega (arith, h i j 0 l (slice_get_within xs j y f), get_or_from_slice_get xs i x 0 e, get_or_from_slice_get xs j y 0 f)

module _ {style : Style} {circuit : CircuitData} (d : IsNamedDeck style circuit) where
  abbrev lc : ℕ
  lc = length d.pins + length d.starts

  signal_is : (leaf : ℕ) → leaf < length d.pins + length d.starts → IsSignal (the_shape d) (leaf_signal (length d.pins) leaf)
  signal_is leaf low = by (nat_lt leaf (length d.pins)) refl
    where
      by : (b : Bool) → nat_lt leaf (length d.pins) ≡ b → IsSignal (the_shape d) (leaf_signal (length d.pins) leaf)
      by true e = rw e (ltb-true leaf (length d.pins) e)
      by false e =
          let high = ltb-false leaf (length d.pins) e in
          rw e (latch_exists (latch_shape (length d.pins)) d.starts (drop (length d.outs) d.ends) (leaf - length d.pins)
          (omega (arith, length-drop (length d.outs) d.ends, d.one_end)) (omega arith))

  has_cell : (k : ℕ) → k < length d.cells → (c : DominoCell) × IsCellAt (the_shape d) k c
  has_cell k lt = cell_exists (cell_shape (length d.pins) (length d.pins + length d.starts)) d.cells k lt

  has_complement : (leaf : ℕ) → leaf < length d.pins + length d.starts → names_complement d.cells d.ends leaf ≡ true → HasComplement (the_shape d) (leaf_signal (length d.pins) leaf)
  has_complement leaf low is = mapped_contains (leaf_signal (length d.pins)) d.complements leaf (d.named leaf low is)

  leaf_is : (k : ℕ) (c : CellPlan) → slice_get d.cells k ≡ Some c → (gate : ℕ) → reads gate c.tree ≡ true → gate < 2 * (length d.pins + length d.starts) + k
      → IsLeafOf (the_shape d) k (gate_of (length d.pins) (length d.pins + length d.starts) gate)
  leaf_is k c at gate is low = by (nat_lt gate (2 * (length d.pins + length d.starts))) refl
    where
      rail : (leaf : ℕ) (b : Bool) → leaf < length d.pins + length d.starts → (b ≡ false → gate ≡ 2 * leaf + 1) → IsLeafOf (the_shape d) k (rail_of (length d.pins) leaf b)
      rail leaf true lt odd = signal_is leaf lt
      rail leaf false lt odd =
          has_complement leaf lt
          (or_left _ _ (any_at (λ (x : CellPlan). reads (2 * leaf + 1) x.tree) d.cells k c at (subst (λ g. reads g c.tree ≡ true) (odd refl) is)))

      odd_is : (gate % 2 == 0) ≡ false → gate ≡ 2 * (gate / 2) + 1
      odd_is e = let other = eqb-false (gate % 2) 0 e in omega (arith, other)

      by : (b : Bool) → nat_lt gate (2 * (length d.pins + length d.starts)) ≡ b → IsLeafOf (the_shape d) k (gate_of (length d.pins) (length d.pins + length d.starts) gate)
      by true e = let lt = ltb-true gate (2 * (length d.pins + length d.starts)) e in rw e (rail (gate / 2) (gate % 2 == 0) (omega arith) odd_is)
      by false e =
          let high = ltb-false gate (2 * (length d.pins + length d.starts)) e in
          let within = slice_get_within d.cells k c at in
          rw e (omega arith, has_cell (gate - 2 * (length d.pins + length d.starts)) (omega arith))

  end_is : (k : ℕ) (e : SinkEnd) → slice_get d.ends k ≡ Some e → IsGate (the_shape d) (end_gate (length d.pins) e)
  end_is k e at = by e at (All-at (IsEndIn (length d.pins + length d.starts) (length d.cells)) d.ends k e d.ends_are at)
    where
      by : (x : SinkEnd) → slice_get d.ends k ≡ Some x → IsEndIn (length d.pins + length d.starts) (length d.cells) x → IsGate (the_shape d) (end_gate (length d.pins) x)
      by (Fixed false) f i = tt
      by (Fixed true) f i = tt
      by (OfLeaf leaf plus) f i = of plus refl
        where
          of : (b : Bool) → plus ≡ b → IsGate (the_shape d) (end_gate (length d.pins) (OfLeaf leaf plus))
          of true p =
              let here : is_plus_literal leaf (OfLeaf leaf plus) ≡ true = rw p (eq-eqb leaf leaf refl) in
              rw p (has_complement leaf i (or_right _ _ (any_at (is_plus_literal leaf) d.ends k (OfLeaf leaf plus) f here)))
          of false p = rw p (signal_is leaf i)
      by (OfDynamic n) f i = has_cell n i
      by (OfOutput n) f i = has_cell n i

  simple : AreSimple (the_shape d)
  simple k c e =
      let m = get_of_map (cell_shape (length d.pins) (length d.pins + length d.starts)) d.cells k c e in
      ap (λ (x : DominoCell). x.right) (sym m.2)

  pub shape_is : IsShape (the_shape d)
  shape_is = record {
    clocks_are = λ k c e.
        let x = simple_side (the_shape d) simple k c e in
        let m = get_of_map (cell_shape (length d.pins) (length d.pins + length d.starts)) d.cells k.cell x.0 x.1 in
        let low = All-at (λ (x : CellPlan). (1 ≤ x.clock) × (x.clock ≤ d.clocks)) d.cells k.cell m.0 d.clocks_are m.1 in
        subst (λ (y : DynamicStage). y.clock < d.clocks) x.3 (subst (λ (x : DominoCell). x.clock < d.clocks) m.2 (omega (arith, low.0, low.1)));
    leaves = λ k c e.
        let x = simple_side (the_shape d) simple k c e in
        let m = get_of_map (cell_shape (length d.pins) (length d.pins + length d.starts)) d.cells k.cell x.0 x.1 in
        subst (λ (y : DynamicStage). EachLeaf (IsLeafOf (the_shape d) k.cell) y.tree) x.3
        (subst (λ (x : DominoCell). EachLeaf (IsLeafOf (the_shape d) k.cell) x.tree) m.2
        (each_read (λ gate. gate < 2 * (length d.pins + length d.starts) + k.cell) (IsLeafOf (the_shape d) k.cell) (gate_of (length d.pins) (length d.pins + length d.starts)) (m.0).tree
        (λ gate is low. leaf_is k.cell m.0 m.1 gate is low) (d.reads_below k.cell m.0 m.1)));
    simple = λ z. simple;
    complements_are = λ l h.
        let c = slice_get-contained (map (leaf_signal (length d.pins)) d.complements) l h in
        let m = get_of_map (leaf_signal (length d.pins)) d.complements c.0 l c.1 in
        subst (IsSignal (the_shape d)) m.2 (signal_is m.0 (All-at (λ leaf. leaf < length d.pins + length d.starts) d.complements c.0 m.0 d.of_leaves m.1));
    complements_ordered = λ i j l m lt e f.
        let x = get_of_map (leaf_signal (length d.pins)) d.complements i l e in
        let y = get_of_map (leaf_signal (length d.pins)) d.complements j m f in
        let first : leaf_of (length d.pins) l ≡ x.0 = ap (leaf_of (length d.pins)) (sym x.2) ∙ leaf_back d.pins d.outs x.0 in
        let second : leaf_of (length d.pins) m ≡ y.0 = ap (leaf_of (length d.pins)) (sym y.2) ∙ leaf_back d.pins d.outs y.0 in
        omega (arith, first, second, rises d.complements d.in_order i j x.0 y.0 lt x.1 y.1);
    nexts = λ j b e.
        let m = get_of_map (latch_shape (length d.pins)) (zip d.starts (drop (length d.outs) d.ends)) j b e in
        let z = zipped_get d.starts (drop (length d.outs) d.ends) j m.0 m.1 in
        let r = dropped_get (length d.outs) d.ends j (m.0).1 z.1 in
        subst (λ (x : Latch). IsGate (the_shape d) x.next) m.2 (end_is r.0 (m.0).1 r.1);
    outputs_are = λ i g e.
        let m = get_of_map (end_gate (length d.pins)) (take (length d.outs) d.ends) i g e in
        subst (IsGate (the_shape d)) m.2 (end_is i m.0 (taken_get (length d.outs) d.ends i m.0 m.1));
    overlap = λ e. absurd (cc);
  }

module _ {style : Style} {circuit : CircuitData} (d : IsNamedDeck style circuit) (ok : IsCircuit circuit.ports circuit.nets circuit.devices) where
  pub number_of : (a : Net) → IsSourceNet (the_shape d) a → the_net d a ≡ port_number (the_roles d) a
  number_of a i = number_is circuit.nets (port_number (the_roles d) a) (name_of d a) ok.distinct (source_at d a i)

  port_low : (a : Net) → IsSourceNet (the_shape d) a → port_number (the_roles d) a < d.clocks + 8 + length d.pins
  port_low Vdd i = omega arith
  port_low Vss i = omega arith
  port_low (Clock n) lt = omega (arith, lt)
  port_low Lm i = omega arith
  port_low Lmb i = omega arith
  port_low Ls i = omega arith
  port_low Lsb i = omega arith
  port_low Rs i = omega arith
  port_low Rsb i = omega arith
  port_low (Pin p) lt = omega (arith, lt)
  port_low (At part spot) i = absurd i

  source_is_net : (a : Net) → IsSourceNet (the_shape d) a → IsNet (the_shape d) a
  source_is_net Vdd i = i
  source_is_net Vss i = i
  source_is_net (Clock n) lt = lt
  source_is_net Lm i = i
  source_is_net Lmb i = i
  source_is_net Ls i = i
  source_is_net Lsb i = i
  source_is_net Rs i = i
  source_is_net Rsb i = i
  source_is_net (Pin p) lt = lt
  source_is_net (At part spot) i = absurd i

  no_part : (a : Net) (part : Part) (spot : Spot) → IsSourceNet (the_shape d) a → a ≡ At part spot → ⊥
  no_part a part spot i e = subst (IsSourceNet (the_shape d)) e i

  pub ports : HasPorts (the_roles d) (links_of circuit (the_roles d)) (the_net d) (the_shape d)
  ports = record {
    some_clock = d.roles.some_clock;
    clocks_are = refl;
    pins_are = refl;
    sources_are = refl;
    few = few_sources;
    numbers = number_of;
  }
    where
      few_sources : d.clocks + 8 + length d.pins ≤ length circuit.nets
      few_sources = omega (arith, ap length (nets_are d), length-append (leading_ports d.clocks) (d.pins ++ (d.outs ++ (grew style circuit d).more_nets)), length-append d.pins (d.outs ++ (grew style circuit d).more_nets), lead_count d)

  others : (part : Part) (spot : Spot) → IsNet (the_shape d) (At part spot)
      → (d.clocks + 8 + length d.pins ≤ the_net d (At part spot)) × (the_net d (At part spot) < length circuit.nets)
  others part spot i =
      let x = named_net d ok (At part spot) i in (
        elim (cases_lt (the_net d (At part spot)) (d.clocks + 8 + length d.pins)) [
          | inl lt ↦ absurd (let f = source_found (the_roles d) (links_of circuit (the_roles d)) (the_net d) (the_shape d) ports (the_net d (At part spot)) lt in no_part f.0 part spot f.1 (apart d ok f.0 (At part spot) (source_is_net f.0 f.1) i (number_of f.0 f.1 ∙ f.2)))
          | inr le ↦ le
        ],
        slice_get_within circuit.nets (the_net d (At part spot)) (name_of d (At part spot)) x.number,
      )

  -- the circuit is spelled in order
  pub spelled : IsSpelledDeck (links_of circuit (the_roles d)) (the_net d) (the_shape d)
  spelled = record {
    shape = shape_is d;
    apart = apart d ok;
    sources = λ a i. subst (λ n. n < d.clocks + 8 + length d.pins) (sym (number_of a i)) (port_low a i);
    others = others;
    devices_are = parts_are d;
  }

  -- the output ports are the outputs in order
  outs_are : length (the_shape d).outputs ≡ length d.outs
  outs_are = omega (arith, length_map (end_gate (length d.pins)) (take (length d.outs) d.ends), length-take (length d.outs) d.ends, d.one_end)

  out_number : (i : ℕ) (g : Gate) → IsOutputAt (the_shape d) i g → the_net d (At (Sink i) Top) ≡ first_output (the_roles d) + i
  out_number i g e =
      let lt : i < length d.outs = omega (arith, slice_get_within (the_shape d).outputs i g e, outs_are) in
      number_is circuit.nets (d.clocks + 8 + (length d.pins + i)) (slice_index_or d.outs i []) ok.distinct (out_at d i lt) ∙ shift d.clocks (length d.pins) i
    where
      shift : (a b c : ℕ) → a + 8 + (b + c) ≡ a + 8 + b + c
      shift a b c = omega arith

  pub loose_deck : IsLooseDominoDeck (the_roles d) (links_of circuit (the_roles d)) (the_net d) (the_shape d)
  loose_deck = record { spelled = spelled; ports = ports; outs_are = outs_are; outputs = out_number }

pub loose_decks_are_spelled : LooseDecksAreSpelled
loose_decks_are_spelled style circuit d ok = loose_deck d ok
