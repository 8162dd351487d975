-- The deck of what an audit finds: its shape, and that its nets number what the rules find.
use Rattle.std.specs.Prelude.{Bool, Contains, Some, slice_get}
use Rattle.std.proofs.Common.{List, ap, arith, get_or, length, refl, subst, suc, sym, zero, ℕ, ◌+◌, ◌<◌, ◌∙◌, ◌≡◌, ◌∷◌}
use Rattle.std.proofs.lemmas.Option.{slice_get-get_or}
use Rattle.dom_base.proofs.Lists.{Contains-first, Contains-slice_get, slice_get-contained}
use Rattle.deck.specs.PortLayout.{first_output}
use Rattle.sp_network.specs.Tree.{EachLeaf, Tree, inner_count}
use Rattle.sp_network.proofs.TreeImages.{inner_count-map_tree}
use Rattle.domino_cell.specs.Stage.{Inside, Top}
use Rattle.port_runs.specs.declared.clocking.Clocking.TheVariants.{Overlapping, Together}
use Rattle.domino_law.proofs.SimpleCells.{AreSimple, simple_side}
use Rattle.domino_law.proofs.Statics.{EachLeaf-with}
use Rattle.domino_law.specs.Branches.{numbered}
use Rattle.domino_law.specs.LooseDeck.{IsSourceNet}
use Rattle.domino_law.specs.Nets.{At, Clock, Complement, DeckSignal, Dynamic, FromDynamic, FromLatch, FromOutput, FromPin, Gate, High, Lm, Lmb, Low, Ls, Lsb, Master, Minus, Net, Pin, Plus, Rs, Rsb, Vdd, Vss, gate_net, left_side, own}
use Rattle.domino_law.specs.Settings.{port_number}
use Rattle.domino_law.specs.Shape.{DominoCell, DynamicStage, HasComplement, IsCellAt, IsGate, IsLatchAt, IsLeafOf, IsOutputAt, IsShape, IsSignal, Latch, Shape}
use Rattle.domino_cell.specs.declared.style.Style.TheVariants.{Keeper as WithKeeper}
use Rattle.sp_reduction.specs.Networks.{mids}
use Rattle.deck_audit.specs.Numbered.{IsCellAs, IsNumbered, Spells, group_of}
use Rattle.deck_audit.specs.Words.{Group, IsComplement, IsGroup, IsInverterOutput, inner_nets, own_nets}
use Rattle.deck_audit.proofs.CellTrees.{inner_same}
use Rattle.deck_audit.proofs.RuleFacts.{one_group}
use Rattle.found_decks.specs.FoundDecks.{FoundLatch, numbers_from}
use Rattle.found_decks.proofs.Choices.{chosen_from}
use Rattle.found_decks.proofs.FoundGates.{HasFoundComplement, HasTop, IsDominoOf, IsFoundGate, IsFoundLeaf, IsLatchOf, IsOutputGate, dominoes, latches, numbers_at, out_ports, outputs}
use Rattle.found_decks.proofs.FoundNets.{Found, IsFoundSignal, IsSignalOf, cell_at, cell_is, complement_at, devices, group_at, latch_is, net, net_of, own_is, own_number, signals}

pub length-numbers : (a k : ℕ) → length (numbers_from a k) ≡ k
length-numbers a zero = refl
length-numbers a (suc k) = ap (λ n. suc n) (length-numbers (a + 1) k)

module _ (w : Found) where
  abbrev pub shape : Shape
  shape = record {
    style = WithKeeper;
    clocking = Together;
    pins = w.roles.pins;
    clocks = w.roles.clocks;
    complements = (signals w).list;
    cells = (dominoes w).list;
    latches = (latches w).list;
    outputs = (outputs w).list;
  }

  -- what stands at a place was found there
  pub cell_from : (k : ℕ) (cell : DominoCell) → IsCellAt shape k cell → (x : ℕ) × (slice_get (w.parts).tops k ≡ Some x) × IsDominoOf w k x cell
  cell_from = chosen_from (IsDominoOf w) (w.parts).tops (dominoes w)

  pub latch_from : (j : ℕ) (b : Latch) → IsLatchAt shape j b → (l : FoundLatch) × (slice_get (w.parts).latches j ≡ Some l) × IsLatchOf w j l b
  latch_from = chosen_from (IsLatchOf w) (w.parts).latches (latches w)

  pub output_from : (i : ℕ) (g : Gate) → IsOutputAt shape i g → (n : ℕ) × (slice_get (out_ports w) i ≡ Some n) × IsOutputGate w i n g
  output_from = chosen_from (IsOutputGate w) (out_ports w) (outputs w)

  pub signal_from : (k : ℕ) (l : DeckSignal) → slice_get (signals w).list k ≡ Some l → (n : ℕ) × (slice_get (w.parts).complements k ≡ Some n) × IsSignalOf (devices w) w.roles w.parts k n l
  signal_from = chosen_from (IsSignalOf (devices w) w.roles w.parts) (w.parts).complements (signals w)

  pub cells_simple : AreSimple shape
  cells_simple k cell i = let z = cell_from k cell i in ap (λ (c : DominoCell). c.right) z.2.1

  signal_is : (l : DeckSignal) → IsFoundSignal w.roles w.parts l → IsSignal shape l
  signal_is (FromPin p) i = i
  signal_is (FromLatch j) i = let z = (latches w).at j i.0 i.1 in (z.0, z.1)

  top_is : (k : ℕ) → HasTop w k → (cell : DominoCell) × IsCellAt shape k cell
  top_is k i = let z = (dominoes w).at k i.0 i.1 in (z.0, z.1)

  complement_is : (l : DeckSignal) → HasFoundComplement w l → HasComplement shape l
  complement_is l i = Contains-slice_get (signals w).list i.0 l i.1

  gate_is : (g : Gate) → IsFoundGate w g → IsGate shape g
  gate_is (Plus l) i = signal_is l i
  gate_is (Minus l) i = complement_is l i
  gate_is (FromOutput k) i = top_is k i
  gate_is (FromDynamic k) i = top_is k i
  gate_is High i = tt
  gate_is Low i = tt

  leaf_is : (k : ℕ) (g : Gate) → IsFoundLeaf w k g → IsLeafOf shape k g
  leaf_is k (Plus l) i = signal_is l i
  leaf_is k (Minus l) i = complement_is l i
  leaf_is k (FromOutput j) i = (i.0, top_is j i.1)
  leaf_is k (FromDynamic j) i = i
  leaf_is k High i = i
  leaf_is k Low i = i

  cell_leaves : (k : ℕ) (cell : DominoCell) → IsCellAt shape k cell → EachLeaf (IsLeafOf shape k) cell.tree
  cell_leaves k cell i =
      let z = cell_from k cell i in
      subst (λ (c : DominoCell). EachLeaf (IsLeafOf shape k) c.tree) (sym z.2.1)
      (EachLeaf-with (IsFoundLeaf w k) (IsFoundLeaf w k) (IsLeafOf shape k) (λ g a b. leaf_is k g a) z.2.0 z.2.2 z.2.2)

  cell_clock : (k : ℕ) (cell : DominoCell) → IsCellAt shape k cell → cell.clock < w.roles.clocks
  cell_clock k cell i =
      let z = cell_from k cell i in
      subst (λ (c : DominoCell). c.clock < w.roles.clocks) (sym z.2.1) (cell_is w k z.0 z.1).0.clock_low

  pub is_shape : IsShape shape
  is_shape = record {
    clocks_are = λ k c i. let z = simple_side shape cells_simple k c i in subst (λ (d : DynamicStage). d.clock < w.roles.clocks) z.3 (cell_clock k.cell z.0 z.1);
    leaves = λ k c i. let z = simple_side shape cells_simple k c i in subst (λ (d : DynamicStage). EachLeaf (IsLeafOf shape k.cell) d.tree) z.3 (cell_leaves k.cell z.0 z.1);
    simple = λ e. cells_simple;
    complements_are = λ l h.
        let k = slice_get-contained (signals w).list l h in
        signal_is l (signal_from k.0 l k.1).2.0;
    complements_ordered = λ i j l m lt e f.
        let y = signal_from i l e in
        let z = signal_from j m f in
        (w.found).complements_ordered i j y.0 z.0 l m lt y.1 z.1 (own_number w.roles w.parts l, net_of w l y.2.0, y.2.1)
        (own_number w.roles w.parts m, net_of w m z.2.0, z.2.1);
    nexts = λ j b i. gate_is b.next (latch_from j b i).2.1;
    outputs_are = λ i g h. gate_is g (output_from i g h).2.0;
    overlap = λ e. absurd (apart e);
  }
    where
      apart : Together ≡ Overlapping → ⊥
      apart e = cc

  numbers : (a : Net) → IsSourceNet shape a → net w a ≡ port_number w.roles a
  numbers Vdd i = refl
  numbers Vss i = refl
  numbers (Clock k) i = refl
  numbers Lm i = refl
  numbers Lmb i = refl
  numbers Ls i = refl
  numbers Lsb i = refl
  numbers Rs i = refl
  numbers Rsb i = refl
  numbers (Pin p) i = refl
  numbers (At part spot) i = absurd i

  -- the inner nets of a cell are those between parts in series
  pub inner_at : (k x : ℕ) (e : slice_get (w.parts).tops k ≡ Some x) (g : Tree Gate) → Spells (devices w) (cell_at w k).tree (numbered (net w) g)
      → (j : ℕ) → j < inner_count g
      → slice_get (mids (cell_at w k).tree (cell_at w k).top (cell_at w k).bottom ((((cell_is w k x e).0).cell).has_tree).between) j ≡ Some (net w (At (Dynamic (left_side k)) (Inside 0 (suc j))))
  inner_at k x e g s j l =
      let c = (cell_is w k x e).0 in
      let h = ((c.cell).has_tree).between in
      let count = inner_same (devices w) (cell_at w k).tree (numbered (net w) g) (cell_at w k).top (cell_at w k).bottom h s in
      slice_get-get_or (mids (cell_at w k).tree (cell_at w k).top (cell_at w k).bottom h) j 0 (omega (arith, l, count, inner_count-map_tree (λ a. net w (gate_net a)) g))
      ∙ ap (λ xs. Some (get_or xs j 0)) (sym c.inner_is)

  -- a cell by its numbers
  pub cell_as : (k : ℕ) (cell : DominoCell) → IsCellAt shape k cell → IsCellAs (devices w) w.roles (net w) k cell
  cell_as k cell i =
      let z = cell_from k cell i in
      let c = (cell_is w k z.0 z.1).0 in
      subst (IsCellAs (devices w) w.roles (net w) k) (sym z.2.1) (record {
        front = (c.cell).front;
        tree = (cell_at w k).tree;
        has_tree = (c.cell).has_tree;
        spells = z.2.3;
        inner_are = inner_at k z.0 z.1 z.2.0 z.2.3;
      })

  -- a latch by its numbers
  pub group_same : (j : ℕ) (b : Latch) (l : FoundLatch) → slice_get (w.parts).latches j ≡ Some l → b.init ≡ (l.group).start → group_of (net w) j b ≡ l.group
  group_same j b l e f = same (group_at w.parts j) l.group (ap (λ (m : FoundLatch). m.group) (latch_is w j l e)) b.init f
    where
      same : (g h : Group) → g ≡ h → (v : Bool) → v ≡ h.start
          → record { master = g.master; master_up = g.master_up; master_down = g.master_down; data_net = g.data_net; output = g.output; output_up = g.output_up; output_down = g.output_down; start = v } ≡ h
      same g h e v f = λ i. record {
        master = (e i).master;
        master_up = (e i).master_up;
        master_down = (e i).master_down;
        data_net = (e i).data_net;
        output = (e i).output;
        output_up = (e i).output_up;
        output_down = (e i).output_down;
        start = f i;
      }

  pub latch_as : (j : ℕ) (b : Latch) → IsLatchAt shape j b → (places : List ℕ) × IsGroup (devices w) w.roles (group_of (net w) j b) places
  latch_as j b i =
      let z = latch_from j b i in
      ((z.0).places, subst (λ g. IsGroup (devices w) w.roles g (z.0).places) (sym (group_same j b z.0 z.1 z.2.0)) ((w.found).latches_sound j z.0 z.1))

  latches_apart : (i j : ℕ) (b b' : Latch) → IsLatchAt shape i b → IsLatchAt shape j b' → net w (At (Master i) Top) ≡ net w (At (Master j) Top) → i ≡ j
  latches_apart i j b b' h k e =
      let y = latch_from i b h in
      let z = latch_from j b' k in
      let g = (w.found).latches_sound i y.0 y.1 in
      let g' = (w.found).latches_sound j z.0 z.1 in
      let same : ((y.0).group).master ≡ ((z.0).group).master = sym (master i y.0 y.1) ∙ e ∙ master j z.0 z.1 in
      (w.found).latches_once i j y.0 z.0 y.1 z.1
      (one_group (devices w) w.roles _ w.rules (y.0).group (z.0).group (y.0).places (z.0).places g g' ((y.0).group).master
      (first (y.0).group) (subst (Contains (own_nets (z.0).group)) (sym same) (first (z.0).group))).0
    where
      first : (g : Group) → Contains (own_nets g) g.master
      first g = Contains-first g.master (g.output ∷ inner_nets g)

      master : (j : ℕ) (l : FoundLatch) → slice_get (w.parts).latches j ≡ Some l → net w (At (Master j) Top) ≡ (l.group).master
      master j l e = ap (λ (m : FoundLatch). (m.group).master) (latch_is w j l e)

  pub complement_as : (l : DeckSignal) → HasComplement shape l → IsComplement (devices w) w.roles (net w (At (Complement l) Top)) (net w (own l))
  complement_as l h =
      let k = slice_get-contained (signals w).list l h in
      let z = signal_from k.0 l k.1 in
      subst (λ n. IsComplement (devices w) w.roles n (net w (own l))) (sym (complement_at w k.0 z.0 l z.1 k.1))
      (subst (λ i. IsComplement (devices w) w.roles z.0 i) (sym (own_is w l)) z.2.1)

  pub numbered_found : IsNumbered w.circuit w.roles (net w) shape
  numbered_found = record {
    keepers = refl;
    shape = is_shape;
    some_clock = w.some_clock;
    clocks_are = refl;
    pins_are = refl;
    outs_are = (outputs w).count ∙ length-numbers (first_output w.roles) w.roles.outs;
    few = w.few;
    numbers = numbers;
    outputs = λ i g h. refl;
    cells = cell_as;
    all_cells = λ n h.
        let k = (w.found).tops_full n h in
        let z = (dominoes w).at k.0 n k.1 in
        (k.0, z.0, z.1, sym (cell_is w k.0 n k.1).0.top_is);
    cells_once = λ j k c c' h i e.
        let y = cell_from j c h in
        let z = cell_from k c' i in
        let same : z.0 ≡ y.0 = sym (cell_is w k z.0 z.1).0.top_is ∙ sym e ∙ (cell_is w j y.0 y.1).0.top_is in
        (w.found).tops_once j k y.0 y.1 (subst (λ x. slice_get (w.parts).tops k ≡ Some x) same z.1);
    latches = latch_as;
    all_latches = λ g places h.
        let q = (w.found).latches_full g places h in
        let z = (latches w).at q.0 q.1 q.2 in
        (q.0, z.0, z.1, sym (group_same q.0 z.0 q.1 q.2 z.2.0 ∙ q.3));
    latches_once = latches_apart;
    complements = complement_as;
    all_complements = λ n i h.
        let k = (w.found).complements_full n i h in
        let z = (signals w).at k.0 n k.1 in
        (z.0, Contains-slice_get (signals w).list k.0 z.0 z.1, sym (complement_at w k.0 n z.0 k.1 z.1));
    nexts = λ j b i.
        let z = latch_from j b i in
        subst (λ n. IsInverterOutput (devices w) n (net w (gate_net b.next))) (sym (ap (λ (m : FoundLatch). (m.group).data_net) (latch_is w j z.0 z.1))) z.2.2;
    sinks = λ i g h.
        let z = output_from i g h in
        subst (λ n. IsInverterOutput (devices w) n (net w (gate_net g))) (numbers_at (first_output w.roles) w.roles.outs i z.0 z.1).1 z.2.1;
  }
