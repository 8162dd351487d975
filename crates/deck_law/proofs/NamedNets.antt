-- Each net of a deck has a number, and its name is read back to it, so different nets have different numbers.
use Rattle.std.specs.Prelude.{slice_index_or, ◌⊎◌}
use Rattle.std.specs.List.{IsDistinct, enumerate_from, zip}
use Rattle.std.specs.Cmp.Lexicographic.{pointwise}
use Rattle.std.proofs.Common.{◌≡◌, ℕ, zero, suc, ◌+◌, ◌<◌, ◌≤◌, ◌^◌, Bool, false, List, [], ◌∷◌, ◌++◌, length, map, refl, sym, ap, ◌∙◌, subst, inl, inr, arith, zero-add, length-append, Some, slice_get, nat_eq, take, drop, length-take}
use Rattle.std.proofs.lemmas.Option.{slice_get-get_or, slice_get_within}
use Rattle.std.proofs.lemmas.List.FromFn.{length-enumerate_from}
use Rattle.dom_base.proofs.Lists.{AllByRecursion-left, slice_get-contained, All-at}
use Rattle.deck.specs.CircuitData.{CircuitData}
use Rattle.deck.specs.Nets.{IsCircuit, net_number}
use Rattle.deck.specs.Ports.{IsOutput, IsPin, leading_ports}
use Rattle.deck.specs.NumberedDevices.{HasNumber}
use Rattle.deck.proofs.NetNumbers.{HasNumber-from, same_number}
use Rattle.sp_network.specs.Tree.{inner_count, map_tree}
use Rattle.sp_network.proofs.TreeImages.{inner_count-map_tree}
use Rattle.domino_cell.specs.Stage.{Inside, Top}
use Rattle.domino_law.specs.LooseDeck.{IsNet, IsSourceNet}
use Rattle.domino_law.specs.Nets.{At, Clock, Complement, Dynamic, Gate, Lm, Lmb, Ls, Lsb, Master, Net, Next, Output, Pin, Rs, Rsb, DeckSignal, Sink, Slave, Vdd, Vss, left_side}
use Rattle.domino_law.specs.Settings.{port_number}
use Rattle.domino_law.specs.Shape.{DominoCell, HasComplement, IsCellAt, IsLatchAt, IsOutputAt, Latch, DynamicStage}
use Rattle.domino_cell.specs.declared.style.Style.{Style}
use Rattle.deck_form.specs.DeckNets.{CellPlan, named_cell, named_latch}
use Rattle.deck_form.specs.NamedDecks.{IsNamedDeck}
use Rattle.deck_law.specs.NetNames.{cell_shape, end_gate, gate_of, latch_shape, leaf_signal}
use Rattle.deck_law.proofs.GateNames.{leaf_back}
use Rattle.deck_law.proofs.Names.{read, signal_fits, read-clock, read-complement, read-dynamic, read-fixed, read-foot, read-inner, read-master, read-next, read-output, read-slave, read_o}
use Rattle.deck_law.proofs.Numbers.{cell_in, complement_in, devices_are, grew, latch_in, name_of, nets_are, of_cells, of_complements, of_latches, of_sinks, out_at, source_at, the_net, the_roles, the_shape}
use Rattle.deck_law.proofs.PortNumbers.{number_is}
use Rattle.deck_law.proofs.DeviceLists.{flat_longer, flat_many, enumerated}
use Rattle.network.proofs.Lists.{get_of_map}
use Rattle.deck_form.proofs.DeckForms.{zipped_get, length_map}
use Rattle.deck_form.specs.DeckNets as named
use Rattle.domino_cell.specs.PushedNames.{numbered_cell}
use Rattle.std.proofs.lemmas.Bool.{lt-ltb}
use Rattle.domino_law.proofs.SimpleCells.{AreSimple, simple_inner, simple_output_inner, simple_side}
use Rattle.deck_law.proofs.StyledCells.{styled_long}
use Rattle.deck_form.proofs.ClockPorts.{begins}

pub distinct-left : (xs ys : List (List ℕ)) → IsDistinct (pointwise nat_eq) (xs ++ ys) → IsDistinct (pointwise nat_eq) xs
unfolding IsDistinct
distinct-left [] ys d = tt
distinct-left (x ∷ xs) ys d = (AllByRecursion-left (λ y. pointwise nat_eq x y ≡ false) xs ys d.0, distinct-left xs ys d.1)

pub distinct-right : (xs ys : List (List ℕ)) → IsDistinct (pointwise nat_eq) (xs ++ ys) → IsDistinct (pointwise nat_eq) ys
unfolding IsDistinct
distinct-right [] ys d = d
distinct-right (x ∷ xs) ys d = distinct-right xs ys d.1

module _ {style : Style} {circuit : CircuitData} (d : IsNamedDeck style circuit) (ok : IsCircuit circuit.ports circuit.nets circuit.devices) where
  IsSmall : ℕ → Type 0
  IsSmall n = n < 2 ^ 64

  few_cards : length (of_cells d) + length (of_complements d) + length (of_latches d) ≤ 2 ^ 24
  few_cards =
      let same = ap length (devices_are d) ∙ length_map _ (of_cells d ++ of_complements d ++ of_latches d ++ of_sinks d) in
      let a = length-append (of_cells d ++ of_complements d ++ of_latches d) (of_sinks d) in
      let b = length-append (of_cells d ++ of_complements d) (of_latches d) in
      let c = length-append (of_cells d) (of_complements d) in
      omega (arith, same, a, b, c, ok.few_devices)

  cell_small : (k : ℕ) (c : CellPlan) → slice_get d.cells k ≡ Some c → k < 2 ^ 64
  cell_small k c e =
      let lt = slice_get_within d.cells k c e in
      let many = flat_many (named_cell style d.pins (length d.pins + length d.starts)) (λ x. omega arith) (enumerate_from 0 d.cells) in
      omega (arith, lt, many, length-enumerate_from 0 d.cells, few_cards)

  latch_small : length d.starts ≤ 2 ^ 24
  latch_small =
      let many = flat_many named_latch (λ x. omega arith) (enumerate_from 0 d.starts) in
      omega (arith, many, length-enumerate_from 0 d.starts, few_cards)

  inner_small : (k : ℕ) (c : CellPlan) (j : ℕ) → slice_get d.cells k ≡ Some c → j < inner_count c.tree → j < 2 ^ 64
  inner_small k c j e lt =
      let leaf_count : ℕ = length d.pins + length d.starts in
      let at : slice_get (enumerate_from 0 d.cells) k ≡ Some (k, c) = enumerated 0 d.cells k c e ∙ ap (λ n. Some (n, c)) (zero-add k) in
      let long = flat_longer (named_cell style d.pins leaf_count) (enumerate_from 0 d.cells) k (k, c) at in
      let count = inner_count-map_tree (named.named_gate d.pins leaf_count) c.tree in
      omega (arith, lt, long, count, few_cards, styled_long style (numbered_cell c.clock k) (map_tree (named.named_gate d.pins leaf_count) c.tree))

  leaf_small : length d.pins + length d.starts < 2 ^ 64
  leaf_small =
      let ports = (grew style circuit d).ports in
      let a = length-append (leading_ports d.clocks ++ d.pins) d.outs in
      let b = length-append (leading_ports d.clocks) d.pins in
      omega (arith, ok.few_ports, ports, a, b, latch_small)

  pub record IsNamed (a : Net) : Type 0 where
    pub number : HasNumber circuit.nets (name_of d a)
    pub read_is : read d.pins d.outs (name_of d a) ≡ a

  source_number : (a : Net) → IsSourceNet (the_shape d) a → HasNumber circuit.nets (name_of d a)
  source_number a i = HasNumber-from circuit.nets (port_number (the_roles d) a) (name_of d a) (source_at d a i)

  ports_apart : IsDistinct (pointwise nat_eq) (d.pins ++ (d.outs ++ (grew style circuit d).more_nets))
  ports_apart = distinct-right (leading_ports d.clocks) (d.pins ++ (d.outs ++ (grew style circuit d).more_nets)) (subst (IsDistinct (pointwise nat_eq)) (nets_are d) ok.distinct)

  pin_get : (p : ℕ) → p < length d.pins → slice_get d.pins p ≡ Some (slice_index_or d.pins p [])
  pin_get p lt = slice_get-get_or d.pins p [] lt

  read-pin : (p : ℕ) → p < length d.pins → read d.pins d.outs (name_of d (Pin p)) ≡ Pin p
  read-pin p lt =
      let b = begins 105 95 (slice_index_or d.pins p []) (All-at IsPin d.pins p (slice_index_or d.pins p []) d.roles.pins_are (pin_get p lt)) in
      let apart = distinct-left d.pins (d.outs ++ (grew style circuit d).more_nets) ports_apart in
      ap (read d.pins d.outs) b.1
      ∙ ap (λ l. Pin (net_number d.pins l)) (sym b.1)
      ∙ ap Pin (number_is d.pins p (slice_index_or d.pins p []) apart (pin_get p lt))

  out_get : (i : ℕ) → i < length d.outs → slice_get d.outs i ≡ Some (slice_index_or d.outs i [])
  out_get i lt = slice_get-get_or d.outs i [] lt

  read-out : (i : ℕ) → i < length d.outs → read d.pins d.outs (name_of d (At (Sink i) Top)) ≡ At (Sink i) Top
  read-out i lt =
      let b = begins 111 95 (slice_index_or d.outs i []) (All-at IsOutput d.outs i (slice_index_or d.outs i []) d.roles.outs_are (out_get i lt)) in
      let apart = distinct-left d.outs (grew style circuit d).more_nets (distinct-right d.pins (d.outs ++ (grew style circuit d).more_nets) ports_apart) in
      let at = number_is d.outs i (slice_index_or d.outs i []) apart (out_get i lt) in
      ap (read d.pins d.outs) b.1
      ∙ ap (read_o d.pins d.outs) (sym b.1)
      ∙ rw at (rw (lt-ltb i (length d.outs) lt) refl)

  named_source : (a : Net) → IsSourceNet (the_shape d) a → IsNamed a
  named_source a i = record { number = source_number a i; read_is = by a i }
    where
      by : (a : Net) → IsSourceNet (the_shape d) a → read d.pins d.outs (name_of d a) ≡ a
      by Vdd i = (read-fixed d.pins d.outs).0
      by Vss i = (read-fixed d.pins d.outs).1
      by (Clock n) lt = read-clock d.pins d.outs n (omega (arith, lt, d.roles.few_clocks))
      by Lm i = (read-fixed d.pins d.outs).2
      by Lmb i = (read-fixed d.pins d.outs).3
      by Ls i = (read-fixed d.pins d.outs).4
      by Lsb i = (read-fixed d.pins d.outs).5
      by Rs i = (read-fixed d.pins d.outs).6
      by Rsb i = (read-fixed d.pins d.outs).7
      by (Pin p) lt = read-pin p lt
      by (At part spot) i = absurd i

  abbrev shape_cell : ℕ → DominoCell → Type 0
  shape_cell k c = (x : CellPlan) × (slice_get d.cells k ≡ Some x) × (cell_shape (length d.pins) (length d.pins + length d.starts) x ≡ c)

  cell_back : (k : ℕ) (c : DominoCell) → IsCellAt (the_shape d) k c → shape_cell k c
  cell_back k c e = get_of_map (cell_shape (length d.pins) (length d.pins + length d.starts)) d.cells k c e

  named_dynamic : (k : ℕ) (c : DominoCell) → IsCellAt (the_shape d) k c → IsNamed (At (Dynamic (left_side k)) Top)
  named_dynamic k c e =
      let x = cell_back k c e in
      record { number = (cell_in d k x.0 x.1).dynamic; read_is = read-dynamic d.pins d.outs k (cell_small k x.0 x.1) }

  named_inside : (k : ℕ) (c : DominoCell) (i j : ℕ) → IsCellAt (the_shape d) k c → i ≡ 0 → j < 1 + inner_count c.tree → IsNamed (At (Dynamic (left_side k)) (Inside i j))
  named_inside k c i j e first lt =
      let x = cell_back k c e in
      let count : inner_count (cell_shape (length d.pins) (length d.pins + length d.starts) x.0).tree ≡ inner_count c.tree = ap (λ (y : DominoCell). inner_count y.tree) x.2 in
      let below : j < 1 + inner_count (x.0).tree = omega (arith, lt, count, inner_count-map_tree (gate_of (length d.pins) (length d.pins + length d.starts)) (x.0).tree) in
      subst (λ n. IsNamed (At (Dynamic (left_side k)) (Inside n j))) (sym first) (by x.0 x.1 j below)
    where
      by : (x : CellPlan) → slice_get d.cells k ≡ Some x → (j : ℕ) → j < 1 + inner_count x.tree → IsNamed (At (Dynamic (left_side k)) (Inside 0 j))
      by x at zero below = record { number = (cell_in d k x at).foot; read_is = read-foot d.pins d.outs k (cell_small k x at) }
      by x at (suc j) below =
          let lt : j < inner_count x.tree = omega arith in
          let count = inner_count-map_tree (named.named_gate d.pins (length d.pins + length d.starts)) x.tree in
          record {
            number = (cell_in d k x at).inner j (omega (arith, lt, count));
            read_is = read-inner d.pins d.outs k j (cell_small k x at) (inner_small k x j at lt);
          }

  named_output : (k : ℕ) (c : DominoCell) → IsCellAt (the_shape d) k c → IsNamed (At (Output k) Top)
  named_output k c e =
      let x = cell_back k c e in
      record { number = (cell_in d k x.0 x.1).output; read_is = read-output d.pins d.outs k (cell_small k x.0 x.1) }

  start_at : (j : ℕ) (b : Latch) → IsLatchAt (the_shape d) j b → (start : Bool) × (slice_get d.starts j ≡ Some start)
  start_at j b e =
      let m = get_of_map (latch_shape (length d.pins)) (zip d.starts (drop (length d.outs) d.ends)) j b e in
      ((m.0).0, (zipped_get d.starts (drop (length d.outs) d.ends) j m.0 m.1).0)

  start_small : (j : ℕ) (start : Bool) → slice_get d.starts j ≡ Some start → j < 2 ^ 64
  start_small j start e = omega (arith, slice_get_within d.starts j start e, latch_small)

  half : (i : ℕ) → i < 2 → (i ≡ 0) ⊎ (i ≡ 1)
  half zero lt = inl refl
  half (suc zero) lt = inr refl
  half (suc (suc i)) lt = absurd (omega arith)

  named_master : (j : ℕ) (b : Latch) → IsLatchAt (the_shape d) j b → IsNamed (At (Master j) Top)
  named_master j b e =
      let x = start_at j b e in
      let at = latch_in d j x.0 x.1 in
      record { number = at.0.0; read_is = (read-master d.pins d.outs j (start_small j x.0 x.1)).0 }

  named_master_inside : (j : ℕ) (b : Latch) (i n : ℕ) → IsLatchAt (the_shape d) j b → i < 2 → n ≡ 0 → IsNamed (At (Master j) (Inside i n))
  named_master_inside j b i n e lt none =
      let x = start_at j b e in
      let at = latch_in d j x.0 x.1 in
      let read_is = read-master d.pins d.outs j (start_small j x.0 x.1) in
      elim (half i lt) [
        | inl z ↦ subst (λ m. IsNamed (At (Master j) (Inside m n))) (sym z) (subst (λ m. IsNamed (At (Master j) (Inside 0 m))) (sym none) (record { number = at.0.2; read_is = read_is.1 }))
        | inr z ↦ subst (λ m. IsNamed (At (Master j) (Inside m n))) (sym z) (subst (λ m. IsNamed (At (Master j) (Inside 1 m))) (sym none) (record { number = at.1.1.0.2; read_is = read_is.2 }))
      ]

  named_slave : (j : ℕ) (b : Latch) → IsLatchAt (the_shape d) j b → IsNamed (At (Slave j) Top)
  named_slave j b e =
      let x = start_at j b e in
      let at = latch_in d j x.0 x.1 in
      record { number = at.1.1.1.1.0.0; read_is = (read-slave d.pins d.outs j (start_small j x.0 x.1)).0 }

  named_slave_inside : (j : ℕ) (b : Latch) (i n : ℕ) → IsLatchAt (the_shape d) j b → i < 2 → n ≡ 0 → IsNamed (At (Slave j) (Inside i n))
  named_slave_inside j b i n e lt none =
      let x = start_at j b e in
      let at = latch_in d j x.0 x.1 in
      let read_is = read-slave d.pins d.outs j (start_small j x.0 x.1) in
      elim (half i lt) [
        | inl z ↦ subst (λ m. IsNamed (At (Slave j) (Inside m n))) (sym z) (subst (λ m. IsNamed (At (Slave j) (Inside 0 m))) (sym none) (record { number = at.1.1.1.1.0.2; read_is = read_is.1 }))
        | inr z ↦ subst (λ m. IsNamed (At (Slave j) (Inside m n))) (sym z) (subst (λ m. IsNamed (At (Slave j) (Inside 1 m))) (sym none) (record { number = at.1.1.1.1.1.1.0.2; read_is = read_is.2 }))
      ]

  named_next : (j : ℕ) (b : Latch) → IsLatchAt (the_shape d) j b → IsNamed (At (Next j) Top)
  named_next j b e =
      let x = start_at j b e in
      record { number = (latch_in d j x.0 x.1).1.0.1; read_is = read-next d.pins d.outs j (start_small j x.0 x.1) }

  -- the leaf of a complement
  complement_at : (l : DeckSignal) → HasComplement (the_shape d) l
      → (k : ℕ) × (leaf : ℕ) × (slice_get d.complements k ≡ Some leaf) × (leaf < length d.pins + length d.starts) × (leaf_signal (length d.pins) leaf ≡ l)
  complement_at l h =
      let c = slice_get-contained (map (leaf_signal (length d.pins)) d.complements) l h in
      let m = get_of_map (leaf_signal (length d.pins)) d.complements c.0 l c.1 in
      (c.0, m.0, m.1, All-at (λ leaf. leaf < length d.pins + length d.starts) d.complements c.0 m.0 d.of_leaves m.1, m.2)

  named_complement : (l : DeckSignal) → HasComplement (the_shape d) l → IsNamed (At (Complement l) Top)
  named_complement l h =
      let (k, leaf, at, low, same) = complement_at l h in
      subst (λ x. IsNamed (At (Complement x) Top)) same (record {
        number = subst (λ n. HasNumber circuit.nets (named.complement_net n)) (sym (leaf_back d.pins d.outs leaf)) (complement_in d k leaf at);
        read_is = read-complement-leaf leaf low;
      })
    where
      read-complement-leaf : (leaf : ℕ) → leaf < length d.pins + length d.starts
          → read d.pins d.outs (name_of d (At (Complement (leaf_signal (length d.pins) leaf)) Top)) ≡ At (Complement (leaf_signal (length d.pins) leaf)) Top
      read-complement-leaf leaf low =
          read-complement d.pins d.outs (leaf_signal (length d.pins) leaf) (signal_fits d.pins leaf)
          (subst (λ n. n < 2 ^ 64) (sym (leaf_back d.pins d.outs leaf)) (omega (arith, low, leaf_small)))

  named_sink : (i : ℕ) (g : Gate) → IsOutputAt (the_shape d) i g → IsNamed (At (Sink i) Top)
  named_sink i g e =
      let lt : i < length d.outs = out_low i g e in
      record { number = HasNumber-from circuit.nets (d.clocks + 8 + (length d.pins + i)) (slice_index_or d.outs i []) (out_at d i lt); read_is = read-out i lt }
    where
      out_low : (i : ℕ) (g : Gate) → IsOutputAt (the_shape d) i g → i < length d.outs
      out_low i g e =
          omega (arith, slice_get_within (map (end_gate (length d.pins)) (take (length d.outs) d.ends)) i g e, length_map (end_gate (length d.pins)) (take (length d.outs) d.ends), length-take (length d.outs) d.ends)

  cells_simple : AreSimple (the_shape d)
  cells_simple k c e = ap (λ (y : DominoCell). y.right) (sym (cell_back k c e).2)

  pub named_net : (a : Net) → IsNet (the_shape d) a → IsNamed a
  named_net Vdd i = named_source Vdd i
  named_net Vss i = named_source Vss i
  named_net (Clock n) i = named_source (Clock n) i
  named_net Lm i = named_source Lm i
  named_net Lmb i = named_source Lmb i
  named_net Ls i = named_source Ls i
  named_net Lsb i = named_source Lsb i
  named_net Rs i = named_source Rs i
  named_net Rsb i = named_source Rsb i
  named_net (Pin p) i = named_source (Pin p) i
  named_net (At (Dynamic k) Top) (c, e) =
      let x = simple_side (the_shape d) cells_simple k c e in subst (λ side. IsNamed (At (Dynamic side) Top)) (sym x.2) (named_dynamic k.cell x.0 x.1)
  named_net (At (Dynamic k) (Inside i j)) (c, e, first, lt) =
      let x = simple_side (the_shape d) cells_simple k c e in
      subst (λ side. IsNamed (At (Dynamic side) (Inside i j))) (sym x.2) (named_inside k.cell x.0 i j x.1 first (subst (λ (y : DynamicStage). j < 1 + inner_count y.tree) (sym x.3) lt))
  named_net (At (Output k) Top) (c, e) = named_output k c e
  named_net (At (Output k) (Inside i j)) (c, e, z, l) = absurd (simple_output_inner k c j (cells_simple k c e) l)
  named_net (At (Complement l) Top) h = named_complement l h
  named_net (At (Complement l) (Inside i j)) never = absurd never
  named_net (At (Master j) Top) (b, e) = named_master j b e
  named_net (At (Master j) (Inside i n)) ((b, e), lt, none) = named_master_inside j b i n e lt none
  named_net (At (Slave j) Top) (b, e) = named_slave j b e
  named_net (At (Slave j) (Inside i n)) ((b, e), lt, none) = named_slave_inside j b i n e lt none
  named_net (At (Next j) Top) (b, e) = named_next j b e
  named_net (At (Next j) (Inside i n)) (b, e, z, l) = absurd (simple_inner (the_shape d) cells_simple b.next n l)
  named_net (At (Sink i) Top) (g, e) = named_sink i g e
  named_net (At (Sink i) (Inside m j)) (g, e, z, l) = absurd (simple_inner (the_shape d) cells_simple g j l)

  -- different nets have different numbers
  pub apart : (a b : Net) → IsNet (the_shape d) a → IsNet (the_shape d) b → the_net d a ≡ the_net d b → a ≡ b
  apart a b i j e =
      let x = named_net a i in
      let y = named_net b j in
      let same = same_number circuit.nets (name_of d a) (name_of d b) x.number y.number e in
      sym x.read_is ∙ ap (read d.pins d.outs) same ∙ y.read_is
