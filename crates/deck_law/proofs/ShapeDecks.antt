-- A deck by names of any shape is a loose domino deck: its names are apart and its sources stand at their ports.
use Rattle.std.specs.Prelude.{codes, nat_eq, slice_index_or, ◌≢◌}
use Rattle.std.specs.List.{IsDistinct}
use Rattle.std.specs.Cmp.Lexicographic.{pointwise}
use Rattle.std.proofs.Common.{◌≡◌, ℕ, zero, suc, ◌+◌, ◌<◌, ◌≤◌, List, [], ◌++◌, length, refl, sym, ap, ◌∙◌, subst, arith, append_assoc, length-append, None, Option, Some, slice_get}
use Rattle.std.proofs.lemmas.Option.{slice_get-get_or, slice_get_within}
use Rattle.dom_base.proofs.Lists.{slice_get-behind, slice_get-left}
use Rattle.deck.specs.CircuitData.{CircuitData}
use Rattle.deck.specs.Nets.{net_number}
use Rattle.deck.specs.PortLayout.{first_output, source_count}
use Rattle.deck.specs.Ports.{leading_ports}
use Rattle.deck.specs.declared.role.Roles.{Roles}
use Rattle.deck.proofs.PortLayout.{length-leading}
use Rattle.sp_network.specs.Tree.{Tree, inner_count}
use Rattle.switch_model.specs.LinksData.{LinksData}
use Rattle.domino_cell.specs.Stage.{Inside, Spot, Top}
use Rattle.domino_law.specs.LooseDeck.{IsNet, IsSourceNet, IsSpotOf}
use Rattle.domino_law.specs.NamedDeck.{HasDeckNames}
use Rattle.domino_law.specs.Nets.{At, Clock, Complement, DeckSignal, Dynamic, FromDynamic, FromLatch, FromOutput, FromPin, Gate, High, Lm, Lmb, Low, Ls, Lsb, Master, Minus, Net, Next, Output, Part, Pin, Plus, Rs, Rsb, Sink, Slave, Vdd, Vss}
use Rattle.domino_law.specs.Settings.{HasPorts, port_number}
use Rattle.domino_law.specs.Shape.{DominoCell, IsOutputAt, IsShape, IsSignal, Shape, cell_nets, dynamic_nets, gate_tree}
use Rattle.domino_law.proofs.NamedDecks.{named_is_loose}
use Rattle.domino_law.proofs.RunsByPorts.{source_found}
use Rattle.deck_form.specs.DeckNets.{clock_net, vdd, vss}
use Rattle.deck_law.specs.NamesApart.{HasName, escaped_outs}
use Rattle.deck_law.specs.NetNames.{deck_name}
use Rattle.deck_law.specs.ShapeDecks.{AreDeckPorts, AreSmall, ShapeDecksAreLoose}
use Rattle.deck_law.proofs.NamedNets.{distinct-left, distinct-right}
use Rattle.deck_law.proofs.NamesApart.{names_are_apart}
use Rattle.deck_law.proofs.PortNumbers.{Leads, leads, number_is}

-- the dynamic nets of a cell in series have at most one inner net, and so has each static gate
dynamic_inner : (k : ℕ) (right : Option (Tree Gate)) → inner_count (dynamic_nets k right) < 2
dynamic_inner k None = omega arith
dynamic_inner k (Some t) = omega arith

cell_inner : (k : ℕ) (c : Option DominoCell) → inner_count (cell_nets k c) < 2
cell_inner k None = omega arith
cell_inner k (Some c) = dynamic_inner k c.right

gate_inner : (s : Shape) (g : Gate) → inner_count (gate_tree s g) < 2
gate_inner s (FromDynamic k) = cell_inner k (slice_get s.cells k)
gate_inner s (Plus l) = omega arith
gate_inner s (Minus l) = omega arith
gate_inner s (FromOutput k) = omega arith
gate_inner s High = omega arith
gate_inner s Low = omega arith

module _ (ports : CircuitData) (roles : Roles) (pins names : List (List ℕ)) (s : Shape) (shape : IsShape s) (small : AreSmall s) (is : AreDeckPorts ports roles pins names s) where
  abbrev outs : List (List ℕ)
  outs = escaped_outs names

  abbrev name : Net → List ℕ
  name = deck_name pins outs

  -- the ports in order
  nets_are : ports.nets ≡ leading_ports roles.clocks ++ (pins ++ outs)
  nets_are = is.in_order.order ∙ append_assoc (leading_ports roles.clocks) pins outs

  more_apart : IsDistinct (pointwise nat_eq) (pins ++ outs)
  more_apart = distinct-right (leading_ports roles.clocks) (pins ++ outs) (subst (IsDistinct (pointwise nat_eq)) nets_are is.apart)

  lead : Leads roles.clocks (pins ++ outs)
  lead = leads roles.clocks (pins ++ outs) is.in_order.some_clock is.in_order.few_clocks

  at_port : (n : ℕ) (x : List ℕ) → slice_get (leading_ports roles.clocks ++ (pins ++ outs)) n ≡ Some x → slice_get ports.nets n ≡ Some x
  at_port n x e = ap (λ l. slice_get l n) nets_are ∙ e

  lead_count : length (leading_ports roles.clocks) ≡ roles.clocks + 8
  lead_count = length-leading roles.clocks is.in_order.few_clocks

  pin_at : (p : ℕ) → p < length pins → slice_get ports.nets (roles.clocks + 8 + p) ≡ Some (slice_index_or pins p [])
  pin_at p lt =
      at_port (roles.clocks + 8 + p) (slice_index_or pins p [])
      (ap (λ n. slice_get (leading_ports roles.clocks ++ (pins ++ outs)) (n + p)) (sym lead_count) ∙ slice_get-behind (leading_ports roles.clocks) (pins ++ outs) p ∙ slice_get-left pins outs p lt ∙ slice_get-get_or pins p [] lt)

  out_at : (i : ℕ) → i < length outs → slice_get ports.nets (roles.clocks + 8 + (length pins + i)) ≡ Some (slice_index_or outs i [])
  out_at i lt =
      at_port (roles.clocks + 8 + (length pins + i)) (slice_index_or outs i [])
      (ap (λ n. slice_get (leading_ports roles.clocks ++ (pins ++ outs)) (n + (length pins + i))) (sym lead_count)
      ∙ slice_get-behind (leading_ports roles.clocks) (pins ++ outs) (length pins + i)
      ∙ slice_get-behind pins outs i
      ∙ slice_get-get_or outs i [] lt)

  source_at : (a : Net) → IsSourceNet s a → slice_get ports.nets (port_number roles a) ≡ Some (name a)
  source_at Vdd i = at_port 0 vdd lead.vdd
  source_at Vss i = at_port 1 vss lead.vss
  source_at (Clock i) lt = at_port (2 + i) (clock_net (1 + i)) (lead.clock i (omega (arith, lt, is.clocks_are)))
  source_at Lm i = at_port (roles.clocks + 2) (codes "lm") lead.lm
  source_at Lmb i = at_port (roles.clocks + 3) (codes "lmb") lead.lmb
  source_at Ls i = at_port (roles.clocks + 4) (codes "ls") lead.ls
  source_at Lsb i = at_port (roles.clocks + 5) (codes "lsb") lead.lsb
  source_at Rs i = at_port (roles.clocks + 6) (codes "rs") lead.rs
  source_at Rsb i = at_port (roles.clocks + 7) (codes "rsb") lead.rsb
  source_at (Pin p) lt = pin_at p (omega (arith, lt, is.pins_are, is.pin_count))
  source_at (At part spot) i = absurd i

  source_number : (a : Net) → IsSourceNet s a → net_number ports.nets (name a) ≡ port_number roles a
  source_number a i = number_is ports.nets (port_number roles a) (name a) is.apart (source_at a i)

  sink_at : (i : ℕ) (g : Gate) → IsOutputAt s i g → slice_get ports.nets (first_output roles + i) ≡ Some (name (At (Sink i) Top))
  sink_at i g e =
      let lt : i < length outs = omega (arith, slice_get_within s.outputs i g e, is.outs_are, is.out_count) in
      let same : first_output roles + i ≡ roles.clocks + 8 + (length pins + i) = omega (arith, is.pin_count) in
      ap (slice_get ports.nets) same ∙ out_at i lt

  -- each net of the deck has a name
  signal_named : (l : DeckSignal) → IsSignal s l → HasName (length pins) (length outs) (At (Complement l) Top)
  signal_named (FromPin p) lt = (omega (arith, lt, is.pins_are, is.pin_count), omega (arith, lt, small.latches))
  signal_named (FromLatch j) at = (tt, omega (arith, slice_get_within s.latches j at.0 at.1, small.latches, is.pins_are, is.pin_count))

  part_named : (part : Part) (spot : Spot) → IsSpotOf s part spot → HasName (length pins) (length outs) (At part spot)
  part_named (Dynamic k) Top h = (omega (arith, slice_get_within s.cells k.cell h.1.0 h.1.1, small.cells), tt)
  part_named (Dynamic k) (Inside zero j) h = (omega (arith, slice_get_within s.cells k.cell h.1.0 h.1.1, small.cells), omega (arith, h.3, small.inner k h.0 h.1))
  part_named (Dynamic k) (Inside (suc i) j) h = absurd (omega (arith, h.2))
  part_named (Output k) Top h = (omega (arith, slice_get_within s.cells k h.0 h.1, small.cells), tt)
  part_named (Output k) (Inside zero j) h = absurd (omega (arith, h.2))
  part_named (Output k) (Inside (suc zero) j) h = (omega (arith, slice_get_within s.cells k h.0 h.1, small.cells), omega (arith, h.3, dynamic_inner k h.0.right))
  part_named (Output k) (Inside (suc (suc i)) j) h = absurd (omega (arith, h.2))
  part_named (Complement l) Top h = signal_named l (shape.complements_are l h)
  part_named (Complement l) (Inside i j) h = absurd h
  part_named (Master j) Top h = (omega (arith, slice_get_within s.latches j h.0 h.1, small.latches), tt)
  part_named (Master j) (Inside zero zero) h = (omega (arith, slice_get_within s.latches j h.0.0 h.0.1, small.latches), tt)
  part_named (Master j) (Inside (suc zero) zero) h = (omega (arith, slice_get_within s.latches j h.0.0 h.0.1, small.latches), tt)
  part_named (Master j) (Inside zero (suc i)) h = absurd (omega (arith, h.2))
  part_named (Master j) (Inside (suc zero) (suc i)) h = absurd (omega (arith, h.2))
  part_named (Master j) (Inside (suc (suc k)) i) h = absurd (omega (arith, h.1))
  part_named (Slave j) Top h = (omega (arith, slice_get_within s.latches j h.0 h.1, small.latches), tt)
  part_named (Slave j) (Inside zero zero) h = (omega (arith, slice_get_within s.latches j h.0.0 h.0.1, small.latches), tt)
  part_named (Slave j) (Inside (suc zero) zero) h = (omega (arith, slice_get_within s.latches j h.0.0 h.0.1, small.latches), tt)
  part_named (Slave j) (Inside zero (suc i)) h = absurd (omega (arith, h.2))
  part_named (Slave j) (Inside (suc zero) (suc i)) h = absurd (omega (arith, h.2))
  part_named (Slave j) (Inside (suc (suc k)) i) h = absurd (omega (arith, h.1))
  part_named (Next j) Top h = (omega (arith, slice_get_within s.latches j h.0 h.1, small.latches), tt)
  part_named (Next j) (Inside zero i) h = absurd (omega (arith, h.2))
  part_named (Next j) (Inside (suc zero) i) h = (omega (arith, slice_get_within s.latches j h.0 h.1, small.latches), omega (arith, h.3, gate_inner s h.0.next))
  part_named (Next j) (Inside (suc (suc k)) i) h = absurd (omega (arith, h.2))
  part_named (Sink j) Top h = (omega (arith, slice_get_within s.outputs j h.0 h.1, is.outs_are, is.out_count), tt)
  part_named (Sink j) (Inside zero i) h = absurd (omega (arith, h.2))
  part_named (Sink j) (Inside (suc zero) i) h = (omega (arith, slice_get_within s.outputs j h.0 h.1, is.outs_are, is.out_count), omega (arith, h.3, gate_inner s h.0))
  part_named (Sink j) (Inside (suc (suc k)) i) h = absurd (omega (arith, h.2))

  net_named : (a : Net) → IsNet s a → HasName (length pins) (length outs) a
  net_named Vdd h = tt
  net_named Vss h = tt
  net_named (Clock i) h = omega (arith, h, is.clocks_are, is.in_order.few_clocks)
  net_named Lm h = tt
  net_named Lmb h = tt
  net_named Ls h = tt
  net_named Lsb h = tt
  net_named Rs h = tt
  net_named Rsb h = tt
  net_named (Pin p) h = omega (arith, h, is.pins_are, is.pin_count)
  net_named (At part spot) h = part_named part spot h

  names_apart : (a b : Net) → IsNet s a → IsNet s b → name a ≡ name b → a ≡ b
  names_apart a b x y e =
      names_are_apart pins names is.in_order.pins_are (distinct-left pins outs more_apart) is.bytes (distinct-right pins outs more_apart) a b (net_named a x) (net_named b y) e

  source_is_net : (a : Net) → IsSourceNet s a → IsNet s a
  source_is_net Vdd i = i
  source_is_net Vss i = i
  source_is_net (Clock n) lt = lt
  source_is_net Lm i = i
  source_is_net Lmb i = i
  source_is_net Ls i = i
  source_is_net Lsb i = i
  source_is_net Rs i = i
  source_is_net Rsb i = i
  source_is_net (Pin p) lt = lt
  source_is_net (At part spot) i = absurd i

  -- each port before the outputs is a source
  bare : LinksData
  bare = record { nets = source_count roles; sources = source_count roles; devices = [] }

  bare_ports : HasPorts roles bare (port_number roles) s
  unfolding bare
  bare_ports = record { some_clock = is.in_order.some_clock; clocks_are = is.clocks_are; pins_are = is.pins_are; sources_are = refl; few = omega arith; numbers = λ a i. refl }

  no_source : (part : Part) (spot : Spot) → IsSpotOf s part spot → (i : ℕ) → i < source_count roles → slice_get ports.nets i ≢ Some (name (At part spot))
  no_source part spot h i lt e =
      let f = source_found roles bare (port_number roles) s bare_ports i lt in
      let same : Some (name f.0) ≡ Some (name (At part spot)) = sym (source_at f.0 f.1) ∙ ap (slice_get ports.nets) f.2 ∙ e in
      let alike : name f.0 ≡ name (At part spot) = cc in
      subst (IsSourceNet s) (names_apart f.0 (At part spot) (source_is_net f.0 f.1) h alike) f.1

  few : source_count roles ≤ length ports.nets
  few = omega (arith, ap length nets_are, length-append (leading_ports roles.clocks) (pins ++ outs), length-append pins outs, lead_count, is.pin_count)

  has_names : HasDeckNames ports roles name s
  has_names = record {
    shape = shape;
    no_devices = is.no_devices;
    all_ports = is.all_ports;
    roles_are = record { pins = pins; outs = outs; in_order = is.in_order; pin_count = is.pin_count; out_count = is.out_count };
    some_clock = is.in_order.some_clock;
    clocks_are = is.clocks_are;
    pins_are = is.pins_are;
    outs_are = is.outs_are;
    few = few;
    stands = source_at;
    numbers = source_number;
    sinks_stand = sink_at;
    sink_numbers = λ i g e. number_is ports.nets (first_output roles + i) (name (At (Sink i) Top)) is.apart (sink_at i g e);
    apart = names_apart;
    others = no_source;
  }

pub shape_decks_are_loose : ShapeDecksAreLoose
shape_decks_are_loose = λ ports roles pins names s shape small is.
    named_is_loose ports roles (deck_name pins (escaped_outs names)) s (has_names ports roles pins names s shape small is)
