-- The circuit of a plan with chains of buffers is a deck by names.
use Rattle.domino_cell.specs.declared.style.Style.TheVariants.{Keeper as WithKeeper}
use Rattle.std.specs.Prelude.{Some, filter, nat_lt, slice_get, ◌*◌, ◌==◌, ◌||◌, option_map}
use Rattle.std.specs.List.{AllByRecursion, list_any, range_with_len}
use Rattle.std.proofs.Common.{Bool, List, [], ap₂, arith, false, length, map, refl, subst, suc, sym, true, zero, ℕ, ◌+◌, ◌-◌, ◌<◌, ◌∙◌, ◌∷◌, ◌≡◌, ◌≤◌, ap}
use Rattle.std.proofs.lemmas.Bool.{ltb-false, ltb-true, ne_eqb}
use Rattle.std.proofs.lemmas.List.Folds.{list_any-append}
use Rattle.std.proofs.lemmas.Option.{slice_get-map, slice_get_within}
use Rattle.deck.specs.CircuitData.{CircuitData}
use Rattle.deck.specs.NamedDevices.{with_devices}
use Rattle.deck.specs.Pushes.{new_circuit}
use Rattle.dom_base.proofs.Lists.{All-at, AllByRecursion-append}
use Rattle.sp_network.specs.Tree.{EachLeaf, Leaf, Parallel, Series, Tree, map_tree}
use Rattle.dual_rail.proofs.Zips.{all_from}
use Rattle.network.proofs.Lists.{get_of_map}
use Rattle.deck_form.specs.DeckNets.{CellPlan, Fixed, OfDynamic, OfLeaf, OfOutput, SinkEnd, named_devices}
use Rattle.deck_form.specs.NamedDecks.{IsEndIn, IsNamedDeck, ReadsBelow, is_plus_literal, names_complement, reads}
use Rattle.deck_form.proofs.DeckForms.{length_map}
use Rattle.synth_flow.proofs.LeafMarks.{filter_same}
use Rattle.domino_law.specs.Nets.{left_side}
use Rattle.domino_law.specs.Shape.{DominoCell, IsCellAt, IsLeafOf, IsShape, Shape, left_stage, overlapping}
use Rattle.domino_law.proofs.Leaves.{EachLeaf-weaker}
use Rattle.domino_law.proofs.Statics.{left_is}
use Rattle.deck_law.specs.NetNames.{cell_shape, gate_of}
use Rattle.deck_law.proofs.Numbers.{the_shape}
use Rattle.deck_law.proofs.SpelledDecks.{cell_exists}
use Rattle.phase_buffer.specs.Buffers.{buffered, shape_cells}
use Rattle.phase_buffer.specs.Chains.{chain, chain_length, end_at, place, taken_at, with_chains}
use Rattle.phase_buffer.specs.Laws.{MayBeBuffered}
use Rattle.phase_buffer.proofs.BufferedShapes.{buffered_may_overlap, shape_chain}
use Rattle.phase_buffer.specs.BufferedPlans.{DeckPlan, new_gate, plan_cells}
use Rattle.synth_flow.specs.BufferedDecks.{cells_taken, new_end}
use Rattle.skew_law.proofs.BufferedPlans.{length_is, new_shape, place_is, shape_of, shape_same}

each_back : {X Y : Type 0} (F : Y → Type 0) (f : X → Y) (t : Tree X) → EachLeaf F (map_tree f t) → EachLeaf (λ x. F (f x)) t
each_back F f (Leaf gate) h = h
each_back F f (Series l r) h = (each_back F f l h.0, each_back F f r h.1)
each_back F f (Parallel l r) h = (each_back F f l h.0, each_back F f r h.1)

pub each_at : {X : Type 0} (P : X → Type 0) (xs : List X) → AllByRecursion P xs → (k : ℕ) (x : X) → slice_get xs k ≡ Some x → P x
each_at P [] h k x e = absurd (cc)
each_at P (y ∷ xs) h zero x e = let z : y ≡ x = cc in subst P z h.0
each_at P (y ∷ xs) h (suc k) x e = each_at P xs h.1 k x e

module _ (p : DeckPlan) where
  -- buffers and moved readers have clocks too
  new_clocks : (k : ℕ) (cs : List CellPlan) → ((j : ℕ) (c : CellPlan) → slice_get cs j ≡ Some c → 1 ≤ c.clock)
      → AllByRecursion (λ (c : CellPlan). 1 ≤ c.clock) (with_chains (plan_cells p) k cs)
  new_clocks k [] h = tt
  new_clocks k (c ∷ cs) h = (
    h 0 c refl,
    AllByRecursion-append (λ (c : CellPlan). 1 ≤ c.clock) (chain (plan_cells p) (place (plan_cells p) k) c.clock (chain_length (plan_cells p) k)) (with_chains (plan_cells p) (suc k) cs)
        (each (place (plan_cells p) k) c.clock (chain_length (plan_cells p) k)) (new_clocks (suc k) cs (λ j d e. h (suc j) d e)),
  )
    where
      each : (at clock n : ℕ) → AllByRecursion (λ (c : CellPlan). 1 ≤ c.clock) (chain (plan_cells p) at clock n)
      each at clock zero = tt
      each at clock (suc n) = (omega arith, each (at + 1) (clock + 1) n)

  -- no minus rail is read but where it was
  rail_read : (leaf clock : ℕ) → leaf < p.leaves → (t : Tree ℕ) → reads (2 * leaf + 1) (map_tree (new_gate p.leaves (taken_at (plan_cells p) clock)) t) ≡ reads (2 * leaf + 1) t
  rail_read leaf clock low (Leaf gate) = by (nat_lt gate (2 * p.leaves)) refl
    where
      by : (b : Bool) → nat_lt gate (2 * p.leaves) ≡ b → (new_gate p.leaves (taken_at (plan_cells p) clock) gate == 2 * leaf + 1) ≡ (gate == 2 * leaf + 1)
      by true e = rw e refl
      by false e =
          let ge = ltb-false gate (2 * p.leaves) e in
          rw e (ne_eqb (2 * p.leaves + taken_at (plan_cells p) clock (gate - 2 * p.leaves)) (2 * leaf + 1)
          (λ z. omega (arith, low, z)) ∙ sym (ne_eqb gate (2 * leaf + 1) (λ z. omega (arith, low, ge, z))))
  rail_read leaf clock low (Series l r) = rw (rail_read leaf clock low l, rail_read leaf clock low r) refl
  rail_read leaf clock low (Parallel l r) = rw (rail_read leaf clock low l, rail_read leaf clock low r) refl

  no_buffer : (leaf : ℕ) → leaf < p.leaves → (at clock n : ℕ) → list_any (λ (c : CellPlan). reads (2 * leaf + 1) c.tree) (chain (plan_cells p) at clock n) ≡ false
  no_buffer leaf low at clock zero = refl
  no_buffer leaf low at clock (suc n) =
      rw (ne_eqb (2 * p.leaves + at) (2 * leaf + 1) (λ z. omega (arith, low, z)), no_buffer leaf low (at + 1) (clock + 1) n) refl

  cells_name : (leaf : ℕ) → leaf < p.leaves → (k : ℕ) (cs : List CellPlan)
      → list_any (λ (c : CellPlan). reads (2 * leaf + 1) c.tree) (with_chains (plan_cells p) k cs) ≡ list_any (λ (c : CellPlan). reads (2 * leaf + 1) c.tree) cs
  cells_name leaf low k [] = refl
  cells_name leaf low k (c ∷ cs) =
      ap₂ (λ a b. a || b) (rail_read leaf c.clock low c.tree)
      (list_any-append (λ (c : CellPlan). reads (2 * leaf + 1) c.tree) (chain (plan_cells p) (place (plan_cells p) k) c.clock (chain_length (plan_cells p) k)) (with_chains (plan_cells p) (suc k) cs)
      ∙ ap₂ (λ a b. a || b) (no_buffer leaf low (place (plan_cells p) k) c.clock (chain_length (plan_cells p) k)) (cells_name leaf low (suc k) cs))

  literal : (leaf : ℕ) (end : SinkEnd) → is_plus_literal leaf (new_end p end) ≡ is_plus_literal leaf end
  literal leaf (Fixed b) = refl
  literal leaf (OfLeaf other plus) = refl
  literal leaf (OfDynamic k) = refl
  literal leaf (OfOutput k) = refl

  ends_name : (leaf : ℕ) (ends : List SinkEnd) → list_any (is_plus_literal leaf) (map (new_end p) ends) ≡ list_any (is_plus_literal leaf) ends
  ends_name leaf [] = refl
  ends_name leaf (end ∷ ends) = ap₂ (λ a b. a || b) (literal leaf end) (ends_name leaf ends)

  pub names_same : (ends : List SinkEnd) (leaf : ℕ) → leaf < p.leaves → names_complement (with_chains (plan_cells p) 0 p.cells) (map (new_end p) ends) leaf ≡ names_complement p.cells ends leaf
  names_same ends leaf low = ap₂ (λ a b. a || b) (cells_name leaf low 0 p.cells) (ends_name leaf ends)

  pub complements_same : (ends : List SinkEnd)
      → filter (names_complement (with_chains (plan_cells p) 0 p.cells) (map (new_end p) ends)) (range_with_len 0 p.leaves) ≡ filter (names_complement p.cells ends) (range_with_len 0 p.leaves)
  complements_same ends = filter_same _ _ 0 p.leaves (λ x lt. names_same ends x (omega (arith, lt)))

module _ (plain : CircuitData) (d : IsNamedDeck WithKeeper plain) (may : MayBeBuffered (the_shape d)) where
  -- its plan
  abbrev pub the_plan : DeckPlan
  the_plan = record { leaves = length d.pins + length d.starts; clocks = d.clocks; cells = d.cells; sinks = cells_taken d.ends }

  pub clocked : (k : ℕ) (c : CellPlan) → slice_get d.cells k ≡ Some c → 1 ≤ c.clock
  clocked k c e = (All-at (λ (x : CellPlan). (1 ≤ x.clock) × (x.clock ≤ d.clocks)) d.cells k c d.clocks_are e).0

  abbrev pub t : Shape
  t = overlapping (new_shape d.pins d.outs d.starts d.complements d.ends the_plan refl refl d.one_end clocked)

  pub the_shape_same : t ≡ buffered (the_shape d)
  the_shape_same = shape_same d.pins d.outs d.starts d.complements d.ends the_plan refl refl d.one_end clocked

  shape : IsShape t
  shape = subst IsShape (sym the_shape_same) (buffered_may_overlap (the_shape d) may)

  abbrev pub P : ℕ
  P = length d.pins

  abbrev pub L : ℕ
  L = length d.pins + length d.starts

  there : (k : ℕ) (c : CellPlan) → slice_get (with_chains (plan_cells the_plan) 0 d.cells) k ≡ Some c → IsCellAt t k (cell_shape P L c)
  there k c e = slice_get-map (cell_shape P L) (with_chains (plan_cells the_plan) 0 d.cells) k ∙ ap (option_map (cell_shape P L)) e

  pub below : ReadsBelow L (with_chains (plan_cells the_plan) 0 d.cells)
  below k c e =
      EachLeaf-weaker (λ g. IsLeafOf t k (gate_of P L g)) (λ g. g < 2 * L + k) (λ g h. by g (nat_lt g (2 * L)) refl h) c.tree
      (each_back (IsLeafOf t k) (gate_of P L) c.tree (shape.leaves (left_side k) (left_stage (cell_shape P L c)) (left_is t k (cell_shape P L c) (there k c e))))
    where
      by : (g : ℕ) (b : Bool) → nat_lt g (2 * L) ≡ b → IsLeafOf t k (gate_of P L g) → g < 2 * L + k
      by g true z h = let lt = ltb-true g (2 * L) z in omega (arith, lt)
      by g false z h =
          let ge = ltb-false g (2 * L) z in
          let leaf : (g - 2 * L < k) × ((c : DominoCell) × IsCellAt t (g - 2 * L) c) = rw z at h in
          omega (arith, ge, leaf.0)

  pub clocks : (k : ℕ) (c : CellPlan) → slice_get (with_chains (plan_cells the_plan) 0 d.cells) k ≡ Some c → (1 ≤ c.clock) × (c.clock ≤ d.clocks)
  clocks k c e =
      let some = each_at (λ (c : CellPlan). 1 ≤ c.clock) (with_chains (plan_cells the_plan) 0 d.cells) (new_clocks the_plan 0 d.cells clocked) k c e in
      let few = shape.clocks_are (left_side k) (left_stage (cell_shape P L c)) (left_is t k (cell_shape P L c) (there k c e)) in
      (some, omega (arith, some, few))

  -- the last of a chain is there
  last_there : (k : ℕ) → k < length d.cells → end_at (plan_cells the_plan) k < length (with_chains (plan_cells the_plan) 0 d.cells)
  last_there k lt =
      let c = cell_exists (cell_shape P L) d.cells k lt in
      let l = shape_chain (the_shape d) k c.0 c.1 (chain_length (shape_cells (the_shape d)) k) (omega arith) in
      let is = shape_of d.pins d.outs d.starts d.complements d.ends the_plan refl refl d.one_end clocked in
      let at : IsCellAt t (end_at (shape_cells (the_shape d)) k) l.0 =
      subst (λ (s : Shape). IsCellAt s (end_at (shape_cells (the_shape d)) k) l.0) (sym the_shape_same) l.1 in
      let within = slice_get_within t.cells (end_at (shape_cells (the_shape d)) k) l.0 at in
      subst (λ n. end_at (plan_cells the_plan) k < n) (length_map (cell_shape P L) (with_chains (plan_cells the_plan) 0 d.cells))
      (subst (λ n. n < length t.cells) (ap₂ (λ a b. a + b) (place_is P the_plan d.ends (the_shape d) is k) (length_is P the_plan d.ends (the_shape d) is k)) within)

  pub ends : (k : ℕ) (e : SinkEnd) → slice_get (map (new_end the_plan) d.ends) k ≡ Some e → IsEndIn L (length (with_chains (plan_cells the_plan) 0 d.cells)) e
  ends k e at =
      let m = get_of_map (new_end the_plan) d.ends k e at in
      subst (IsEndIn L (length (with_chains (plan_cells the_plan) 0 d.cells))) m.2 (by m.0 (All-at (IsEndIn L (length d.cells)) d.ends k m.0 d.ends_are m.1))
    where
      by : (x : SinkEnd) → IsEndIn L (length d.cells) x → IsEndIn L (length (with_chains (plan_cells the_plan) 0 d.cells)) (new_end the_plan x)
      by (Fixed b) i = tt
      by (OfLeaf leaf plus) i = i
      by (OfDynamic n) i = last_there n i
      by (OfOutput n) i = last_there n i

  abbrev pub named_deck : (circuit : CircuitData)
      → circuit ≡ with_devices (new_circuit circuit.name circuit.phases d.clocks d.pins d.outs)
      (named_devices WithKeeper d.pins d.outs d.starts (with_chains (plan_cells the_plan) 0 d.cells) d.complements (map (new_end the_plan) d.ends))
      → IsNamedDeck WithKeeper circuit
  named_deck circuit circuit_is = record {
    clocks = d.clocks;
    pins = d.pins;
    outs = d.outs;
    starts = d.starts;
    cells = with_chains (plan_cells the_plan) 0 d.cells;
    complements = d.complements;
    ends = map (new_end the_plan) d.ends;
    roles = d.roles;
    reads_below = below;
    clocks_are = all_from (λ (c : CellPlan). (1 ≤ c.clock) × (c.clock ≤ d.clocks)) (with_chains (plan_cells the_plan) 0 d.cells) clocks;
    in_order = d.in_order;
    of_leaves = d.of_leaves;
    named = λ leaf lt e. d.named leaf lt (sym (names_same the_plan d.ends leaf lt) ∙ e);
    one_end = length_map (new_end the_plan) d.ends ∙ d.one_end;
    ends_are = all_from (IsEndIn L (length (with_chains (plan_cells the_plan) 0 d.cells))) (map (new_end the_plan) d.ends) ends;
    circuit_is = circuit_is;
  }
