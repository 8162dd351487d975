-- The worked deck gets a yes.
use Rattle.domino_law.proofs.SimpleCells.{AreSimple, simple_side}
use Rattle.std.specs.Prelude.{Contains, ◌≢◌}
use Rattle.std.proofs.Common.{List, [], ap, arith, inl, inr, refl, subst, suc, sym, zero, ℕ, ◌<◌, ◌∙◌, ◌∷◌, ◌≡◌, None}
use Rattle.std.proofs.lemmas.Option.{same_Some}
use Rattle.dom_base.proofs.Lists.{AllByRecursion-contains, Contains-slice_get}
use Rattle.dom_base.specs.declared.kind.Kind.TheVariants.{Keep, N as nch, P as pch}
use Rattle.deck.specs.declared.device.Device.{Device}
use Rattle.sp_network.specs.Tree.{EachLeaf, Leaf, Series, Tree}
use Rattle.domino_law.specs.LooseDeck.{IsSourceNet}
use Rattle.domino_law.specs.Nets.{At, Clock, DeckSignal, FromDynamic, FromPin, Gate, Lm, Lmb, Ls, Lsb, Net, Pin, Plus, Rs, Rsb, Vdd, Vss, gate_net}
use Rattle.domino_law.specs.Settings.{port_number}
use Rattle.domino_law.specs.Shape.{DominoCell, HasComplement, IsCellAt, IsGate, IsLatchAt, IsLeafOf, IsOutputAt, IsShape, Latch, DynamicStage}
use Rattle.sp_reduction.specs.Networks.{Link, whole_height, whole_width}
use Rattle.deck_audit.specs.Audits.{IsCount}
use Rattle.deck_audit.specs.Numbered.{IsCellAs, IsNumbered}
use Rattle.deck_audit.specs.Rules.{HasFront, HasTree}
use Rattle.deck_audit.specs.Words.{AreAt, IsDynamic, IsInverterOutput, StandsAt}
use Rattle.domino_law.specs.Spelled.{deck_devices}
use Rattle.deck_audit.proofs.Lists.{Falls, falls_distinct}
use Rattle.deck_audit.specs.WorkedAudit.{WorkedDeckGetsYes, and_circuit, and_net, and_roles, and_shape}
use Rattle.deck_audit.proofs.CellShapes.{cells_have_one_shape}
use Rattle.deck_audit.proofs.WorkedRules.{clock_is, d5, ds, dynamic_12, dynamic_is, each, front_12, inverts_11, keeps_rules, mid_is, no_complement, no_group, the_tree, tree_is}

-- the numbering of its nets
one_cell : (k : ℕ) (cell : DominoCell) → IsCellAt and_shape k cell → (k ≡ 0) × (record { clock = 0; tree = Series (Leaf (Plus (FromPin 0))) (Leaf (Plus (FromPin 1))); right = None } ≡ cell)
one_cell zero cell i = (refl, same_Some _ _ i)
one_cell (suc k) cell i = absurd (cc)

one_output : (k : ℕ) (g : Gate) → IsOutputAt and_shape k g → (k ≡ 0) × (FromDynamic 0 ≡ g)
one_output zero g i = (refl, same_Some _ _ i)
one_output (suc k) g i = absurd (cc)

no_latch : {X : Type 0} (j : ℕ) (b : Latch) → IsLatchAt and_shape j b → X
no_latch j b i = absurd (cc)

no_signal : {X : Type 0} (l : DeckSignal) → HasComplement and_shape l → X
no_signal l h = absurd (AllByRecursion-contains (λ l. ⊥) [] l tt h)

and_simple : AreSimple and_shape
and_simple k c i = ap (λ (x : DominoCell). x.right) (sym (one_cell k c i).1)

shape_is : IsShape and_shape
shape_is = record {
  clocks_are = λ k c i.
      let y = simple_side and_shape and_simple k c i in
      let o = one_cell k.cell y.0 y.1 in
      subst (λ (x : DynamicStage). x.clock < 1) y.3 (subst (λ (x : DominoCell). x.clock < 1) o.1 (omega arith));
  leaves = λ k c i.
      let y = simple_side and_shape and_simple k c i in
      let o = one_cell k.cell y.0 y.1 in
      subst (λ (x : DynamicStage). EachLeaf (IsLeafOf and_shape k.cell) x.tree) y.3 (subst (λ (x : DominoCell). EachLeaf (IsLeafOf and_shape k.cell) x.tree) o.1 (omega arith, omega arith));
  simple = λ z. and_simple;
  complements_are = λ l h. no_signal l h;
  complements_ordered = λ i j l m lt e f. absurd (cc);
  nexts = λ j b i. no_latch j b i;
  outputs_are = λ k g i. let o = one_output k g i in subst (IsGate and_shape) o.1 (record { clock = 0; tree = Series (Leaf (Plus (FromPin 0))) (Leaf (Plus (FromPin 1))); right = None }, refl);
  overlap = λ e. absurd (cc);
}

numbers_are : (a : Net) → IsSourceNet and_shape a → and_net a ≡ port_number and_roles a
numbers_are Vdd i = refl
numbers_are Vss i = refl
numbers_are (Clock k) i = omega (arith, i)
numbers_are Lm i = refl
numbers_are Lmb i = refl
numbers_are Ls i = refl
numbers_are Lsb i = refl
numbers_are Rs i = refl
numbers_are Rsb i = refl
numbers_are (Pin zero) i = refl
numbers_are (Pin (suc zero)) i = refl
numbers_are (Pin (suc (suc p))) i = absurd (omega (arith, i))
numbers_are (At part spot) i = absurd i

cell_is : IsCellAs ds and_roles and_net 0 (record { clock = 0; tree = Series (Leaf (Plus (FromPin 0))) (Leaf (Plus (FromPin 1))); right = None })
cell_is = record {
  front = front_12;
  tree = the_tree;
  has_tree = tree_is;
  spells = ((record { kind = nch; drain = 15; gate = 9; source = 12 }, refl, refl), (d5, refl, refl));
  inner_are = λ j lt. mid_is j lt;
}

numbered : IsNumbered and_circuit and_roles and_net and_shape
numbered = record {
  keepers = refl;
  shape = shape_is;
  some_clock = omega arith;
  clocks_are = refl;
  pins_are = refl;
  outs_are = refl;
  few = omega arith;
  numbers = numbers_are;
  outputs = λ i g o. omega (arith, (one_output i g o).0);
  cells = λ k cell i. let o = one_cell k cell i in subst (λ k. IsCellAs ds and_roles and_net k cell) (sym o.0) (subst (IsCellAs ds and_roles and_net 0) o.1 cell_is);
  all_cells = λ n h. (0, record { clock = 0; tree = Series (Leaf (Plus (FromPin 0))) (Leaf (Plus (FromPin 1))); right = None }, refl, dynamic_is n h);
  cells_once = λ j k c d i i' e. (one_cell j c i).0 ∙ sym (one_cell k d i').0;
  latches = λ j b i. no_latch j b i;
  all_latches = λ g places is. absurd (no_group g places is);
  latches_once = λ i j b b' h h' e. no_latch i b h;
  complements = λ l h. no_signal l h;
  all_complements = λ n i h. absurd (no_complement n i h.0);
  nexts = λ j b i. no_latch j b i;
  sinks = λ i g o. let q = one_output i g o in subst (λ g. IsInverterOutput ds 11 (and_net (gate_net g))) q.1 inverts_11;
}

no_count : (P : ℕ → Type 0) (n : ℕ) → ((m : ℕ) → m < n → P m → ⊥) → IsCount P n 0
no_count P zero h = refl
no_count P (suc n) h = inr (h n (omega arith), no_count P n (λ m lt. h m (omega (arith, lt))))

not_dynamic : (n : ℕ) → n ≢ 12 → IsDynamic ds and_roles n → ⊥
not_dynamic n away h = away (dynamic_is n h)

count_is : IsCount (IsDynamic ds and_roles) 16 1
count_is =
    inr (
      not_dynamic 15 (λ e. omega (arith, e)),
      inr (
        not_dynamic 14 (λ e. omega (arith, e)),
        inr (
          not_dynamic 13 (λ e. omega (arith, e)),
          inl (dynamic_12, 0, no_count (IsDynamic ds and_roles) 12 (λ m lt. not_dynamic m (λ e. omega (arith, e, lt))), refl),
        ),
      ),
    )

one_tree : (x clock out bottom : ℕ) (tree : Tree Link) → IsDynamic ds and_roles x → HasFront ds and_roles x clock out → HasTree ds and_roles x clock bottom tree
    → (whole_width tree ≡ 1) × (whole_height tree ≡ 2)
one_tree x clock out bottom tree h f t =
    let e = dynamic_is x h in
    let t' : HasTree ds and_roles 12 2 bottom tree = subst (λ k. HasTree ds and_roles 12 k bottom tree) (clock_is clock out (rw e at f)) (rw e at t) in
    let o = cells_have_one_shape ds and_roles 12 2 bottom 14 tree the_tree (omega arith) t' tree_is in
    (o.1, o.2)

abbrev the_order : List ℕ
the_order = 8 ∷ 7 ∷ 6 ∷ 5 ∷ 4 ∷ 3 ∷ 2 ∷ 1 ∷ 0 ∷ []

order_all : (p : ℕ) (d : Device) → StandsAt ds p d → Contains the_order p
order_all = each (λ p d. Contains the_order p)
    (Contains-slice_get the_order 8 0 refl) (Contains-slice_get the_order 7 1 refl) (Contains-slice_get the_order 6 2 refl)
    (Contains-slice_get the_order 5 3 refl) (Contains-slice_get the_order 4 4 refl) (Contains-slice_get the_order 3 5 refl)
    (Contains-slice_get the_order 2 6 refl) (Contains-slice_get the_order 1 7 refl) (Contains-slice_get the_order 0 8 refl)

falls : Falls 9 the_order
falls = (omega arith, (omega arith, (omega arith, (omega arith, (omega arith, (omega arith, (omega arith, (omega arith, (omega arith, tt)))))))))

cards : AreAt ds the_order (deck_devices and_net and_shape)
cards = (
  (record { kind = pch; drain = 0; gate = 2; source = 12 }, refl, inr refl),
  (
    (record { kind = Keep; drain = 12; gate = 13; source = 0 }, refl, inl refl),
    (
      (record { kind = nch; drain = 15; gate = 9; source = 12 }, refl, inr refl),
      (
        (record { kind = nch; drain = 15; gate = 10; source = 14 }, refl, inl refl),
        (
          (record { kind = nch; drain = 14; gate = 2; source = 1 }, refl, inl refl),
          (
            (record { kind = pch; drain = 13; gate = 12; source = 0 }, refl, inl refl),
            (
              (record { kind = nch; drain = 1; gate = 12; source = 13 }, refl, inr refl),
              (
                (record { kind = pch; drain = 0; gate = 12; source = 11 }, refl, inr refl),
                (
                  (record { kind = nch; drain = 11; gate = 12; source = 1 }, refl, inl refl),
                  tt,
                ),
              ),
            ),
          ),
        ),
      ),
    ),
  ),
)

pub worked_deck_gets_yes : WorkedDeckGetsYes
worked_deck_gets_yes = record {
  rules = keeps_rules;
  net = and_net;
  shape = and_shape;
  numbered = numbered;
  in_order = record {
    once = falls_distinct 9 the_order falls;
    all = order_all;
    cards_are = cards;
  };
  cells_are = count_is;
  width_is = record {
    bound = λ v h. let o = one_tree h.0 h.1 h.2 h.3 h.4 h.5 h.6 h.7 in omega (arith, o.0, h.8);
    had = inr (12, 2, 13, 14, the_tree, dynamic_12, front_12, tree_is, refl);
  };
  height_is = record {
    bound = λ v h. let o = one_tree h.0 h.1 h.2 h.3 h.4 h.5 h.6 h.7 in omega (arith, o.1, h.8);
    had = inr (12, 2, 13, 14, the_tree, dynamic_12, front_12, tree_is, refl);
  };
}
