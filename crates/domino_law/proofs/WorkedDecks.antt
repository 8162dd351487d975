-- The worked deck is a deck.
use Rattle.std.specs.List.{AllByRecursion}
use Rattle.std.specs.Prelude.{Some, slice_get}
use Rattle.std.proofs.Common.{List, [], ap, arith, false, refl, subst, suc, sym, zero, ℕ, ◌+◌, ◌<◌, ◌∙◌, ◌∷◌, ◌≡◌, ◌≤◌}
use Rattle.dom_base.specs.declared.tri.Tri.TheVariants.{Unknown}
use Rattle.dom_base.proofs.Lists.{AllByRecursion-contains, Contains-first, Contains-later}
use Rattle.deck.specs.Switches.{value_of}
use Rattle.sp_network.specs.Tree.{inner_count}
use Rattle.domino_cell.specs.Stage.{Inside, Spot, Top}
use Rattle.switch_model.specs.LinksData.{is_first}
use Rattle.port_runs.specs.Environment.{Reset, none_fallen}
use Rattle.domino_law.specs.LooseDeck.{IsNet, IsSourceNet}
use Rattle.domino_law.specs.Nets.{At, Clock, Complement, Dynamic, FromDynamic, FromLatch, FromPin, Lm, Lmb, Ls, Lsb, Master, Minus, Net, Next, Output, Part, Pin, Rs, Rsb, Sink, Slave, Vdd, Vss, CellSide, DeckSignal, Left, Right, Side, leaf_of, left_side}
use Rattle.domino_law.specs.OwnRun.{bit_at}
use Rattle.domino_law.specs.Places.{AreSources}
use Rattle.domino_law.specs.Shape.{HasComplement, IsShape, IsSignal, Latch, DynamicStage, IsSideAt, dynamic_nets, gate_tree, left_stage, side_of}
use Rattle.domino_cell.specs.declared.style.Style.TheVariants.{Keeper as WithKeeper, Precharge as WithPrecharge}
use Rattle.domino_law.specs.WorkedDeck.{ToggleHasPower, ToggleIsDeck, ToggleRuns, toggle_cell, toggle_net, toggle_power, toggle_shape}
use Rattle.domino_law.proofs.PowerStates.{unknown-at}

-- its nets in order of number
names : List Net
names =
    Vdd ∷ Vss ∷ Clock 0 ∷ Lm ∷ Lmb ∷ Ls ∷ Lsb ∷ Rs ∷ Rsb ∷ Pin 0 ∷ At (Sink 0) Top ∷ At (Dynamic (left_side 0)) Top ∷ At (Output 0) Top
    ∷ At (Dynamic (left_side 0)) (Inside 0 1) ∷ At (Complement (FromLatch 0)) Top ∷ At (Dynamic (left_side 0)) (Inside 0 0) ∷ At (Complement (FromPin 0)) Top
    ∷ At (Dynamic (left_side 0)) (Inside 0 2) ∷ At (Slave 0) Top ∷ At (Master 0) Top ∷ At (Master 0) (Inside 0 0) ∷ At (Next 0) Top
    ∷ At (Master 0) (Inside 1 0) ∷ At (Slave 0) (Inside 0 0) ∷ At (Slave 0) (Inside 1 0) ∷ []

-- a one-element list has its element at 0 alone
pub only_first : {X : Type 0} (x c : X) (k : ℕ) → slice_get (x ∷ []) k ≡ Some c → (k ≡ 0) × (x ≡ c)
only_first x c zero e = (refl, cc)
only_first x c (suc k) e = absurd (cc)

toggle_latch : Latch
toggle_latch = record { init = false; next = FromDynamic 0 }

Is_named : Net → Type 0
Is_named a = slice_get names (toggle_net a) ≡ Some a

dynamic_named : (i j : ℕ) → i ≡ 0 → j < 3 → Is_named (At (Dynamic (left_side 0)) (Inside i j))
unfolding Is_named names
dynamic_named i zero e l = rw e refl
dynamic_named i (suc zero) e l = rw e refl
dynamic_named i (suc (suc zero)) e l = rw e refl
dynamic_named i (suc (suc (suc j))) e l = absurd (beyond j l)
  where
    beyond : (j : ℕ) → suc (suc (suc j)) < 3 → ⊥
    beyond j l = omega arith

halves_named : (i j : ℕ) → i < 2 → j ≡ 0 → Is_named (At (Master 0) (Inside i j)) × Is_named (At (Slave 0) (Inside i j))
unfolding Is_named names
halves_named zero j l e = rw e (refl, refl)
halves_named (suc zero) j l e = rw e (refl, refl)
halves_named (suc (suc i)) j l e = absurd (beyond i l)
  where
    beyond : (i : ℕ) → suc (suc i) < 2 → ⊥
    beyond i l = omega arith

two_complements : AllByRecursion (λ l. Is_named (At (Complement l) Top)) (FromPin 0 ∷ FromLatch 0 ∷ [])
unfolding Is_named names
two_complements = (refl, (refl, tt))

below_one_is : (j : ℕ) → suc j < 1 → ⊥
below_one_is j l = omega arith

none : (j : ℕ) → j < 0 → ⊥
none j l = omega arith

-- the one cell has one side
toggle_side : (k : CellSide) (c : DynamicStage) → IsSideAt toggle_shape k c → (k ≡ left_side 0) × (left_stage toggle_cell ≡ c)
toggle_side k c e =
    let f = only_first toggle_cell e.0 k.cell e.1 in
    by k.cell k.side f.0 (subst (λ cell. side_of cell k.side ≡ Some c) (sym f.1) e.2)
  where
    by : (n : ℕ) (side : Side) → n ≡ 0 → side_of toggle_cell side ≡ Some c → (record { cell = n; side = side } ≡ left_side 0) × (left_stage toggle_cell ≡ c)
    by n Left z y = (rw z refl, cc)
    by n Right z y = absurd (cc)

is_named : (a : Net) → IsNet toggle_shape a → Is_named a
unfolding Is_named names toggle_latch
is_named Vdd h = refl
is_named Vss h = refl
is_named (Clock zero) h = refl
is_named (Clock (suc i)) h = absurd (below_one_is i h)
is_named Lm h = refl
is_named Lmb h = refl
is_named Ls h = refl
is_named Lsb h = refl
is_named Rs h = refl
is_named Rsb h = refl
is_named (Pin zero) h = refl
is_named (Pin (suc p)) h = absurd (below_one_is p h)
is_named (At (Dynamic k) Top) (c, e) = rw ((toggle_side k c e).0) refl
is_named (At (Dynamic k) (Inside i j)) (c, e, z, l) =
    let f = toggle_side k c e in rw f.0 (dynamic_named i j z (subst (λ d. j < 1 + inner_count d.tree) (sym f.1) l))
is_named (At (Output k) Top) (c, e) = rw ((only_first toggle_cell c k e).0) refl
is_named (At (Output k) (Inside i j)) (c, e, z, l) = absurd (none j (subst (λ d. j < inner_count (dynamic_nets k d.right)) (sym ((only_first toggle_cell c k e).1)) l))
is_named (At (Complement l) Top) e = AllByRecursion-contains (λ l. Is_named (At (Complement l) Top)) (FromPin 0 ∷ FromLatch 0 ∷ []) l two_complements e
is_named (At (Complement l) (Inside i j)) h = absurd h
is_named (At (Master k) Top) (b, e) = rw ((only_first toggle_latch b k e).0) refl
is_named (At (Master k) (Inside i j)) ((b, e), l, z) = rw ((only_first toggle_latch b k e).0) ((halves_named i j l z).0)
is_named (At (Slave k) Top) (b, e) = rw ((only_first toggle_latch b k e).0) refl
is_named (At (Slave k) (Inside i j)) ((b, e), l, z) = rw ((only_first toggle_latch b k e).0) ((halves_named i j l z).1)
is_named (At (Next k) Top) (b, e) = rw ((only_first toggle_latch b k e).0) refl
is_named (At (Next k) (Inside i j)) (b, e, z, l) = absurd (none j (subst (λ d. j < inner_count (gate_tree toggle_shape d.next)) (sym ((only_first toggle_latch b k e).1)) l))
is_named (At (Sink k) Top) (g, e) = rw ((only_first (Minus (FromLatch 0)) g k e).0) refl
is_named (At (Sink k) (Inside i j)) (g, e, z, l) = absurd (none j (subst (λ d. j < inner_count (gate_tree toggle_shape d)) (sym ((only_first (Minus (FromLatch 0)) g k e).1)) l))

toggle_apart : (a b : Net) → IsNet toggle_shape a → IsNet toggle_shape b → toggle_net a ≡ toggle_net b → a ≡ b
unfolding Is_named
toggle_apart a b i j e = same (sym (is_named a i) ∙ (ap (slice_get names) e ∙ is_named b j))
  where
    same : {a b : Net} → Some a ≡ Some b → a ≡ b
    same z = cc

toggle_sources : (a : Net) → IsSourceNet toggle_shape a → toggle_net a < 10
toggle_sources Vdd i = omega arith
toggle_sources Vss i = omega arith
toggle_sources (Clock c) i = omega arith
toggle_sources Lm i = omega arith
toggle_sources Lmb i = omega arith
toggle_sources Ls i = omega arith
toggle_sources Lsb i = omega arith
toggle_sources Rs i = omega arith
toggle_sources Rsb i = omega arith
toggle_sources (Pin p) i = omega arith
toggle_sources (At part spot) i = absurd i

toggle_others : (part : Part) (spot : Spot) → (10 ≤ toggle_net (At part spot)) × (toggle_net (At part spot) < 25)
toggle_others (Sink i) spot = (omega arith, omega arith)
toggle_others (Dynamic k) Top = (omega arith, omega arith)
toggle_others (Dynamic k) (Inside i zero) = (omega arith, omega arith)
toggle_others (Dynamic k) (Inside i (suc zero)) = (omega arith, omega arith)
toggle_others (Dynamic k) (Inside i (suc (suc j))) = (omega arith, omega arith)
toggle_others (Output k) spot = (omega arith, omega arith)
toggle_others (Complement (FromLatch j)) spot = (omega arith, omega arith)
toggle_others (Complement (FromPin p)) spot = (omega arith, omega arith)
toggle_others (Slave j) Top = (omega arith, omega arith)
toggle_others (Slave j) (Inside zero i) = (omega arith, omega arith)
toggle_others (Slave j) (Inside (suc k) i) = (omega arith, omega arith)
toggle_others (Master j) Top = (omega arith, omega arith)
toggle_others (Master j) (Inside zero i) = (omega arith, omega arith)
toggle_others (Master j) (Inside (suc k) i) = (omega arith, omega arith)
toggle_others (Next j) spot = (omega arith, omega arith)

pin_has : HasComplement toggle_shape (FromPin 0)
pin_has = Contains-first (FromPin 0) (FromLatch 0 ∷ [])

latch_has : HasComplement toggle_shape (FromLatch 0)
latch_has = Contains-later (FromPin 0) (FromLatch 0 ∷ []) (FromLatch 0) (Contains-first (FromLatch 0) [])

toggle_ordered : (i j : ℕ) (l m : DeckSignal) → i < j → slice_get (FromPin 0 ∷ FromLatch 0 ∷ []) i ≡ Some l
    → slice_get (FromPin 0 ∷ FromLatch 0 ∷ []) j ≡ Some m → leaf_of 1 l < leaf_of 1 m
toggle_ordered i zero l m lt e f = absurd (omega (arith, lt))
toggle_ordered zero (suc zero) l m lt e f = let y : FromPin 0 ≡ l = cc in let z : FromLatch 0 ≡ m = cc in rw (← y) (rw (← z) (omega arith))
toggle_ordered (suc i) (suc zero) l m lt e f = absurd (omega (arith, lt))
toggle_ordered i (suc (suc j)) l m lt e f = absurd (cc)

toggle_is_shape : IsShape toggle_shape
unfolding toggle_latch
toggle_is_shape =
    record {
      clocks_are = λ k c e. let f = toggle_side k c e in rw (← f.1) (omega arith);
      leaves = λ k c e. let f = toggle_side k c e in rw (← f.1) ((omega arith, latch_has), (pin_has, (toggle_latch, refl)));
      simple = λ z k c e. absurd (no z);
      complements_are = λ l c. AllByRecursion-contains (IsSignal toggle_shape) (FromPin 0 ∷ FromLatch 0 ∷ []) l (omega arith, ((toggle_latch, refl), tt)) c;
      complements_ordered = toggle_ordered;
      nexts = λ j b e. let f = only_first toggle_latch b j e in rw (← f.1) (toggle_cell, refl);
      outputs_are = λ i g e. let f = only_first (Minus (FromLatch 0)) g i e in rw (← f.1) latch_has;
      overlap = λ e. absurd (cc);
    }
  where
    no : WithPrecharge ≡ WithKeeper → ⊥
    no z = cc

pub toggle_is_deck : ToggleIsDeck
toggle_is_deck =
    record {
      shape = toggle_is_shape;
      apart = toggle_apart;
      sources = toggle_sources;
      others = λ part spot i. toggle_others part spot;
      devices_are = refl;
    }

toggle_unknown : (n : ℕ) → is_first 10 n ≡ false → value_of toggle_power.values n ≡ Unknown
toggle_unknown zero h = absurd (cc)
toggle_unknown (suc zero) h = absurd (cc)
toggle_unknown (suc (suc zero)) h = absurd (cc)
toggle_unknown (suc (suc (suc zero))) h = absurd (cc)
toggle_unknown (suc (suc (suc (suc zero)))) h = absurd (cc)
toggle_unknown (suc (suc (suc (suc (suc zero))))) h = absurd (cc)
toggle_unknown (suc (suc (suc (suc (suc (suc zero)))))) h = absurd (cc)
toggle_unknown (suc (suc (suc (suc (suc (suc (suc zero))))))) h = absurd (cc)
toggle_unknown (suc (suc (suc (suc (suc (suc (suc (suc zero)))))))) h = absurd (cc)
toggle_unknown (suc (suc (suc (suc (suc (suc (suc (suc (suc zero))))))))) h = absurd (cc)
toggle_unknown (suc (suc (suc (suc (suc (suc (suc (suc (suc (suc n)))))))))) h = unknown-at 15 n

toggle_power_sources : AreSources toggle_net toggle_shape Reset 0 none_fallen (bit_at []) toggle_power.values
toggle_power_sources Vdd i = refl
toggle_power_sources Vss i = refl
toggle_power_sources (Clock c) i = refl
toggle_power_sources Lm i = refl
toggle_power_sources Lmb i = refl
toggle_power_sources Ls i = refl
toggle_power_sources Lsb i = refl
toggle_power_sources Rs i = refl
toggle_power_sources Rsb i = refl
toggle_power_sources (Pin p) i = refl
toggle_power_sources (At part spot) i = absurd i

pub toggle_has_power : ToggleHasPower
toggle_has_power =
    record {
      place = refl;
      no_clock = refl;
      no_fall = refl;
      no_past = refl;
      no_pins = refl;
      whole = refl;
      sources = toggle_power_sources;
      unknown = toggle_unknown;
    }

pub toggle_runs : ToggleRuns
toggle_runs = (refl, refl, refl, refl)
