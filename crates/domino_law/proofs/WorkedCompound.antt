-- The worked compound deck is a deck.
use Rattle.std.specs.Prelude.{Some, slice_get}
use Rattle.std.proofs.Common.{List, [], ap, arith, false, refl, subst, suc, sym, zero, ℕ, ◌+◌, ◌<◌, ◌∙◌, ◌∷◌, ◌≡◌, ◌≤◌}
use Rattle.dom_base.specs.declared.tri.Tri.TheVariants.{Unknown}
use Rattle.deck.specs.Switches.{value_of}
use Rattle.sp_network.specs.Tree.{EachLeaf, Leaf, inner_count}
use Rattle.domino_cell.specs.Stage.{Inside, Spot, Top}
use Rattle.switch_model.specs.LinksData.{is_first}
use Rattle.port_runs.specs.Environment.{Reset, none_fallen}
use Rattle.domino_law.specs.LooseDeck.{IsNet, IsSourceNet}
use Rattle.domino_law.specs.Nets.{At, CellSide, Clock, Complement, Dynamic, FromDynamic, FromPin, Left, Lm, Lmb, Ls, Lsb, Master, Net, Next, Output, Part, Pin, Plus, Right, Rs, Rsb, Side, Sink, Slave, Vdd, Vss, left_side, right_side}
use Rattle.domino_law.specs.OwnRun.{bit_at}
use Rattle.domino_law.specs.Places.{AreSources}
use Rattle.domino_law.specs.Shape.{DynamicStage, IsLatchAt, IsLeafOf, IsShape, IsSideAt, Latch, dynamic_nets, gate_tree, left_stage, side_of}
use Rattle.domino_cell.specs.declared.style.Style.TheVariants.{Keeper as WithKeeper, Precharge as WithPrecharge}
use Rattle.domino_law.specs.WorkedCompound.{OrHasPower, OrIsDeck, OrRuns, or_cell, or_net, or_power, or_shape}
use Rattle.domino_law.proofs.PowerStates.{unknown-at}
use Rattle.domino_law.proofs.WorkedDecks.{only_first}

-- its nets in order of number
names : List Net
names =
    Vdd ∷ Vss ∷ Clock 0 ∷ Lm ∷ Lmb ∷ Ls ∷ Lsb ∷ Rs ∷ Rsb ∷ Pin 0 ∷ Pin 1 ∷ Pin 2 ∷ At (Sink 0) Top ∷ At (Dynamic (left_side 0)) Top
    ∷ At (Dynamic (left_side 0)) (Inside 0 0) ∷ At (Dynamic (right_side 0)) Top ∷ At (Dynamic (right_side 0)) (Inside 0 0)
    ∷ At (Output 0) Top ∷ At (Output 0) (Inside 1 0) ∷ At (Sink 0) (Inside 1 0) ∷ []

Is_named : Net → Type 0
Is_named a = slice_get names (or_net a) ≡ Some a

no_more : (j : ℕ) → suc j < 1 → ⊥
no_more j l = omega arith

no_pin : (p : ℕ) → suc (suc (suc p)) < 3 → ⊥
no_pin p l = omega arith

zero_of : (j : ℕ) → j < 1 → j ≡ 0
zero_of j l = omega arith

-- the cell's sides
or_side : (k : CellSide) (c : DynamicStage) → IsSideAt or_shape k c → (k.cell ≡ 0) × (side_of or_cell k.side ≡ Some c)
or_side k c e = let f = only_first or_cell e.0 k.cell e.1 in (f.0, subst (λ cell. side_of cell k.side ≡ Some c) (sym f.1) e.2)

no_latch : (j : ℕ) (b : Latch) → IsLatchAt or_shape j b → ⊥
no_latch zero b e = cc
no_latch (suc j) b e = cc

no_inner : (side : Side) (c : DynamicStage) → side_of or_cell side ≡ Some c → inner_count c.tree ≡ 0
no_inner Left c e = let z : left_stage or_cell ≡ c = cc in rw (← z) refl
no_inner Right c e = let z : record { clock = 0; tree = Leaf (Plus (FromPin 2)) } ≡ c = cc in rw (← z) refl

top_named : (side : Side) → Is_named (At (Dynamic (record { cell = 0; side = side })) Top)
unfolding Is_named names
top_named Left = refl
top_named Right = refl

foot_named : (side : Side) → Is_named (At (Dynamic (record { cell = 0; side = side })) (Inside 0 0))
unfolding Is_named names
foot_named Left = refl
foot_named Right = refl

is_named : (a : Net) → IsNet or_shape a → Is_named a
unfolding Is_named names
is_named Vdd h = refl
is_named Vss h = refl
is_named (Clock zero) h = refl
is_named (Clock (suc i)) h = absurd (no_more i h)
is_named Lm h = refl
is_named Lmb h = refl
is_named Ls h = refl
is_named Lsb h = refl
is_named Rs h = refl
is_named Rsb h = refl
is_named (Pin zero) h = refl
is_named (Pin (suc zero)) h = refl
is_named (Pin (suc (suc zero))) h = refl
is_named (Pin (suc (suc (suc p)))) h = absurd (no_pin p h)
is_named (At (Dynamic k) Top) (c, e) =
    let f = or_side k c e in subst (λ n. Is_named (At (Dynamic (record { cell = n; side = k.side })) Top)) (sym f.0) (top_named k.side)
is_named (At (Dynamic k) (Inside i j)) (c, e, z, l) =
    let f = or_side k c e in
    let first : j ≡ 0 = zero_of j (subst (λ n. j < 1 + n) (no_inner k.side c f.1) l) in
    subst (λ n. Is_named (At (Dynamic (record { cell = n; side = k.side })) (Inside i j))) (sym f.0)
    (subst (λ m. Is_named (At (Dynamic (record { cell = 0; side = k.side })) (Inside m j))) (sym z)
    (subst (λ m. Is_named (At (Dynamic (record { cell = 0; side = k.side })) (Inside 0 m))) (sym first) (foot_named k.side)))
is_named (At (Output k) Top) (c, e) = rw ((only_first or_cell c k e).0) refl
is_named (At (Output k) (Inside i j)) (c, e, z, l) =
    let f = only_first or_cell c k e in
    let first : j ≡ 0 = zero_of j (subst (λ d. j < inner_count (dynamic_nets k d.right)) (sym f.1) l) in
    rw (f.0, z, first) refl
is_named (At (Complement l) Top) e = absurd (none l e)
  where
    none : (l : _) → IsNet or_shape (At (Complement l) Top) → ⊥
    none l (k, low, z) = absurd (omega arith)
is_named (At (Complement l) (Inside i j)) h = absurd h
is_named (At (Master k) Top) (b, e) = absurd (no_latch k b e)
is_named (At (Master k) (Inside i j)) ((b, e), l, z) = absurd (no_latch k b e)
is_named (At (Slave k) Top) (b, e) = absurd (no_latch k b e)
is_named (At (Slave k) (Inside i j)) ((b, e), l, z) = absurd (no_latch k b e)
is_named (At (Next k) Top) (b, e) = absurd (no_latch k b e)
is_named (At (Next k) (Inside i j)) (b, e, z, l) = absurd (no_latch k b e)
is_named (At (Sink k) Top) (g, e) = rw ((only_first (FromDynamic 0) g k e).0) refl
is_named (At (Sink k) (Inside i j)) (g, e, z, l) =
    let f = only_first (FromDynamic 0) g k e in
    let first : j ≡ 0 = zero_of j (subst (λ d. j < inner_count (gate_tree or_shape d)) (sym f.1) l) in
    rw (f.0, z, first) refl

or_apart : (a b : Net) → IsNet or_shape a → IsNet or_shape b → or_net a ≡ or_net b → a ≡ b
unfolding Is_named
or_apart a b i j e = same (sym (is_named a i) ∙ (ap (slice_get names) e ∙ is_named b j))
  where
    same : {a b : Net} → Some a ≡ Some b → a ≡ b
    same z = cc

or_sources : (a : Net) → IsSourceNet or_shape a → or_net a < 12
or_sources Vdd i = omega arith
or_sources Vss i = omega arith
or_sources (Clock c) i = omega arith
or_sources Lm i = omega arith
or_sources Lmb i = omega arith
or_sources Ls i = omega arith
or_sources Lsb i = omega arith
or_sources Rs i = omega arith
or_sources Rsb i = omega arith
or_sources (Pin zero) i = omega arith
or_sources (Pin (suc zero)) i = omega arith
or_sources (Pin (suc (suc p))) i = omega arith
or_sources (At part spot) i = absurd i

or_others : (part : Part) (spot : Spot) → (12 ≤ or_net (At part spot)) × (or_net (At part spot) < 21)
or_others (Sink i) Top = (omega arith, omega arith)
or_others (Sink i) (Inside j k) = (omega arith, omega arith)
or_others (Dynamic k) Top = by k.side
  where
    by : (side : Side) → (12 ≤ or_net (At (Dynamic (record { cell = k.cell; side = side })) Top)) × (or_net (At (Dynamic (record { cell = k.cell; side = side })) Top) < 21)
    by Left = (omega arith, omega arith)
    by Right = (omega arith, omega arith)
or_others (Dynamic k) (Inside i j) = by k.side
  where
    by : (side : Side) → (12 ≤ or_net (At (Dynamic (record { cell = k.cell; side = side })) (Inside i j))) × (or_net (At (Dynamic (record { cell = k.cell; side = side })) (Inside i j)) < 21)
    by Left = (omega arith, omega arith)
    by Right = (omega arith, omega arith)
or_others (Output k) Top = (omega arith, omega arith)
or_others (Output k) (Inside i j) = (omega arith, omega arith)
or_others (Complement l) spot = (omega arith, omega arith)
or_others (Slave j) spot = (omega arith, omega arith)
or_others (Master j) spot = (omega arith, omega arith)
or_others (Next j) spot = (omega arith, omega arith)

or_is_shape : IsShape or_shape
or_is_shape =
    record {
      clocks_are = λ k c e. let f = or_side k c e in clock k.side c f.1;
      leaves = λ k c e. let f = or_side k c e in leaf k.cell k.side c f.1;
      simple = λ z k c e. absurd (no z);
      complements_are = λ l c. absurd (none l c);
      complements_ordered = λ i j l m lt e f. absurd (cc);
      nexts = λ j b e. absurd (no_latch j b e);
      outputs_are = λ i g e. let f = only_first (FromDynamic 0) g i e in rw (← f.1) (or_cell, refl);
      overlap = λ e. absurd (cc);
    }
  where
    no : WithPrecharge ≡ WithKeeper → ⊥
    no z = cc

    none : (l : _) → IsNet or_shape (At (Complement l) Top) → ⊥
    none l (k, low, z) = absurd (omega arith)

    clock : (side : Side) (c : DynamicStage) → side_of or_cell side ≡ Some c → c.clock < 1
    clock Left c e = let z : 0 ≡ c.clock = cc in rw (← z) (omega arith)
    clock Right c e = let z : 0 ≡ c.clock = cc in rw (← z) (omega arith)

    leaf : (n : ℕ) (side : Side) (c : DynamicStage) → side_of or_cell side ≡ Some c → EachLeaf (IsLeafOf or_shape n) c.tree
    leaf n Left c e = let z : left_stage or_cell ≡ c = cc in rw (← z) (omega arith, omega arith)
    leaf n Right c e = let z : record { clock = 0; tree = Leaf (Plus (FromPin 2)) } ≡ c = cc in rw (← z) (omega arith)

pub or_is_deck : OrIsDeck
or_is_deck =
    record {
      shape = or_is_shape;
      apart = or_apart;
      sources = or_sources;
      others = λ part spot i. or_others part spot;
      devices_are = refl;
    }

or_unknown : (n : ℕ) → is_first 12 n ≡ false → value_of or_power.values n ≡ Unknown
or_unknown zero h = absurd (cc)
or_unknown (suc zero) h = absurd (cc)
or_unknown (suc (suc zero)) h = absurd (cc)
or_unknown (suc (suc (suc zero))) h = absurd (cc)
or_unknown (suc (suc (suc (suc zero)))) h = absurd (cc)
or_unknown (suc (suc (suc (suc (suc zero))))) h = absurd (cc)
or_unknown (suc (suc (suc (suc (suc (suc zero)))))) h = absurd (cc)
or_unknown (suc (suc (suc (suc (suc (suc (suc zero))))))) h = absurd (cc)
or_unknown (suc (suc (suc (suc (suc (suc (suc (suc zero)))))))) h = absurd (cc)
or_unknown (suc (suc (suc (suc (suc (suc (suc (suc (suc zero))))))))) h = absurd (cc)
or_unknown (suc (suc (suc (suc (suc (suc (suc (suc (suc (suc zero)))))))))) h = absurd (cc)
or_unknown (suc (suc (suc (suc (suc (suc (suc (suc (suc (suc (suc zero))))))))))) h = absurd (cc)
or_unknown (suc (suc (suc (suc (suc (suc (suc (suc (suc (suc (suc (suc n)))))))))))) h = unknown-at 9 n

or_power_sources : AreSources or_net or_shape Reset 0 none_fallen (bit_at []) or_power.values
or_power_sources Vdd i = refl
or_power_sources Vss i = refl
or_power_sources (Clock c) i = refl
or_power_sources Lm i = refl
or_power_sources Lmb i = refl
or_power_sources Ls i = refl
or_power_sources Lsb i = refl
or_power_sources Rs i = refl
or_power_sources Rsb i = refl
or_power_sources (Pin zero) i = refl
or_power_sources (Pin (suc zero)) i = refl
or_power_sources (Pin (suc (suc p))) i = refl
or_power_sources (At part spot) i = absurd i

pub or_has_power : OrHasPower
or_has_power =
    record {
      place = refl;
      no_clock = refl;
      no_fall = refl;
      no_past = refl;
      no_pins = refl;
      whole = refl;
      sources = or_power_sources;
      unknown = or_unknown;
    }

pub or_runs : OrRuns
or_runs = (refl, refl, refl, refl)
