-- The circuit of synthesis is a domino deck, and a domino deck is a loose one.
use Rattle.gate_decompose.proofs.GatesOrder.{network_gates_are_in_place}
use Rattle.network.proofs.Lists.{get_of_map}
use Rattle.gate_decompose.specs.NetworkOrder.{IsOrderedNetwork}
use Rattle.dual_rail.proofs.ForestOrders.{forests_are_in_place}
use Rattle.dual_rail.proofs.Zips.{all_from, all_zip_back}
use Rattle.dual_rail.specs.ForestOrder.{IsEndOfForest, IsForestInPlace, AreInOrder, HasLeaves}
use Rattle.clock_phase.proofs.Levels.{clock_within, level_at_most}
use Rattle.std.proofs.Common.{◌≡◌, inl, inr, refl, sym, ap, ap₂, subst, ◌∙◌, ℕ, zero, suc, ◌+◌, ◌*◌, ◌≤◌, ◌<◌, Bool, true, false, cond, List, [], ◌∷◌, ◌++◌, length, map, filter, zip, Some, slice_get, count_by, All, codes, eq-eqb, length-append, arith}
use Rattle.std.specs.List.{AllZip, range_with_len}
use Rattle.std.proofs.lemmas.Bool.{cases_eq}
use Rattle.std.proofs.lemmas.List.FromFn.{length-map-range_with_len}
use Rattle.std.proofs.lemmas.List.Sums.{sum_by-cons}
use Rattle.std.proofs.lemmas.Option.{slice_get_within, slice_get_cases, get_or_from_slice_get}
use Rattle.deck.specs.CircuitData.{CircuitData}
use Rattle.deck.specs.Escapes.{escaped}
use Rattle.deck.specs.Ports.{IsOutput, IsPin}
use Rattle.deck.specs.Pushes.{new_circuit, pushed}
use Rattle.deck.specs.NamedDevices.{NamedDevice, with_devices}
use Rattle.sp_network.specs.Tree.{Tree, EachLeaf}
use Rattle.dual_rail.specs.declared.forest.End.{End}
use Rattle.dual_rail.specs.declared.forest.End.TheVariants.{Const, Literal, FromDynamic, FromOutput}
use Rattle.gate_decompose.specs.declared.gates.Ref.{Ref}
use Rattle.deck_form.specs.ChosenDecks.{IsPlannedDeck, end_at_cell, planned}
use Rattle.deck_form.specs.DeckLaws.{ChosenDecksAreDomino, PlannedDecksAreDomino, DominoDecksAreLoose}
use Rattle.deck_form.specs.DeckNets.{CellPlan, named_devices}
use Rattle.deck_form.specs.DeckOptions.{DeckOptions}
use Rattle.deck_form.specs.DominoDecks.{HasSign, IsDominoDeck, cells_of, complements_of, outs_of, phases_of_sinks, pins_of, signal_name, starts_of}
use Rattle.dual_rail.specs.Forests.{IsEndOf, end_uses, is_end_from}
use Rattle.clock_phase.specs.Levels.{clock_of, greatest}
use Rattle.deck_form.specs.NamedDecks.{IsEndIn, ReadsBelow, names_complement}
use Rattle.network.specs.NetworkData.{NetworkData}
use Rattle.gate_decompose.specs.GateNodes.{AreGatesOf}
use Rattle.gate_decompose.specs.GatesData.{GatesData}
use Rattle.gate_decompose.specs.Sinks.{leaf_count, sink_signals}
use Rattle.tree_map.specs.Plans.{IsTreeOf, cell_of, is_kept, roots}
use Rattle.gate_decompose.specs.Items.{Among, Rises}
use Rattle.gate_decompose.proofs.Among.{among-contains, contains-among}
use Rattle.deck_form.proofs.CellOrder.{cell_before, root_of_cell, roots_count, tree_reads}
use Rattle.gate_decompose.proofs.Rising.{rises_at}
use Rattle.std.proofs.lemmas.Option.{same_Some}
use Rattle.dom_base.proofs.Lists.{All-at}

pub length_map : {X Y : Type 0} (f : X → Y) (xs : List X) → length (map f xs) ≡ length xs
length_map f [] = refl
length_map f (x ∷ xs) = ap suc (length_map f xs)

pub zipped_get : {X Y : Type 0} (xs : List X) (ys : List Y) (k : ℕ) (p : X × Y) → slice_get (zip xs ys) k ≡ Some p → (slice_get xs k ≡ Some p.0) × (slice_get ys k ≡ Some p.1)
zipped_get [] ys k p e = absurd (cc)
zipped_get (x ∷ xs) [] k p e = absurd (cc)
zipped_get (x ∷ xs) (y ∷ ys) zero p e = let same : (x, y) ≡ p = same_Some (x, y) p e in (λ i. Some ((same i).0), λ i. Some ((same i).1))
zipped_get (x ∷ xs) (y ∷ ys) (suc k) p e = zipped_get xs ys k p e

pub all_zip_length : {X Y : Type 0} (R : X → Y → Type 0) (xs : List X) (ys : List Y) → AllZip R xs ys → length xs ≡ length ys
all_zip_length R [] [] h = refl
all_zip_length R [] (y ∷ ys) h = absurd h
all_zip_length R (x ∷ xs) [] h = absurd h
all_zip_length R (x ∷ xs) (y ∷ ys) h = ap suc (all_zip_length R xs ys h.1)

all_zip_from : {X Y : Type 0} (R : X → Y → Type 0) (xs : List X) (ys : List Y) → length xs ≡ length ys → ((k : ℕ) (x : X) (y : Y) → slice_get xs k ≡ Some x → slice_get ys k ≡ Some y → R x y) → AllZip R xs ys
all_zip_from R [] [] same h = tt
all_zip_from R [] (y ∷ ys) same h = absurd (omega arith)
all_zip_from R (x ∷ xs) [] same h = absurd (omega arith)
all_zip_from R (x ∷ xs) (y ∷ ys) same h = (h 0 x y refl refl, all_zip_from R xs ys (omega arith) (λ k a b e f. h (suc k) a b e f))

pub counted : {X : Type 0} (test : X → Bool) (xs : List X) (k : ℕ) (x : X) → slice_get xs k ≡ Some x → test x ≡ true → 1 ≤ count_by test xs
counted test [] k x e t = absurd (cc)
counted test (y ∷ xs) zero x e t =
    let here : test y ≡ true = subst (λ z. test z ≡ true) (sym (same_Some y x e)) t in
    let sum = sum_by-cons (λ z. cond (test z) 1 0) y xs in
    let one : ◌≡◌ {A = ℕ} (cond (test y) 1 0) 1 = ap (λ b. cond b 1 0) here in
    omega (arith, sum, one)
counted test (y ∷ xs) (suc k) x e t =
    let more = counted test xs k x e t in
    let sum = sum_by-cons (λ z. cond (test z) 1 0) y xs in
    omega (arith, sum, more)

-- the gates of a network have a sink for each output and each latch
pub sinks_of_network : (network : NetworkData) (gates : GatesData) → AreGatesOf network gates → length gates.sinks ≡ length network.outputs + length network.latches
sinks_of_network network gates are =
    let signals = length-append network.outputs (map (λ l. l.input) network.latches) in
    let latches = length_map (λ l. l.input) network.latches in
    let sinks = ap length are.sinks_are ∙ length_map _ (sink_signals network) in
    omega (arith, signals, latches, sinks)

-- an end that comes from a pair comes from a root
module _ (network : NetworkData) (options : DeckOptions) (circuit : CircuitData) (is : IsPlannedDeck network options circuit) (order : AreInOrder is.forest.pairs) (leaves : HasLeaves is.forest)
    (ends : All (IsEndOfForest is.forest) is.forest.ends) where
  pub leaves_are : is.forest.leaves ≡ leaf_count network
  leaves_are = is.is_forest.leaves_are ∙ is.are_gates.leaves_are

  pub root_end : (p : ℕ) → 1 ≤ end_uses is.forest p → is_kept is.kept p ≡ false
  root_end p some = by (is_kept is.kept p) refl
    where
      by : (b : Bool) → is_kept is.kept p ≡ b → b ≡ false
      by true e = absurd (let f = is.is_plan.free p e in omega (arith, f.1))
      by false e = refl

  pub cell_within : (p : ℕ) → p < length is.forest.pairs → 1 ≤ end_uses is.forest p → cell_of is.kept p < length is.trees
  cell_within p lt some =
      let plan = is.is_plan in
      let before = cell_before is.kept p (length is.kept) (omega (arith, plan.one_each)) (omega arith) (root_end p some) in
      let count = roots_count is.kept in
      let trees = all_zip_length (IsTreeOf is.forest is.kept) (roots is.kept) is.trees plan.trees_are in
      omega arith

  pub end_in : (k : ℕ) (e : End) → slice_get is.forest.ends k ≡ Some e → IsEndIn (leaf_count network) (length is.trees) (end_at_cell is.kept e)
  end_in k e at = by e at (All-at (IsEndOfForest is.forest) is.forest.ends k e ends at)
    where
      by : (x : End) → slice_get is.forest.ends k ≡ Some x → IsEndOfForest is.forest x → IsEndIn (leaf_count network) (length is.trees) (end_at_cell is.kept x)
      by (Const b) f low = tt
      by (Literal rail) f low = subst (λ n. rail.leaf < n) leaves_are low
      by (FromDynamic p) f low = cell_within p low (counted (is_end_from p) is.forest.ends k (FromDynamic p) f (eq-eqb p p refl))
      by (FromOutput p) f low = cell_within p low (counted (is_end_from p) is.forest.ends k (FromOutput p) f (eq-eqb p p refl))

  pub reads : ReadsBelow (leaf_count network) (cells_of options.phases is.levels is.trees)
  reads k c at =
      let m = get_of_map (λ (p : Tree ℕ × ℕ). record { tree = p.0; clock = clock_of options.phases (greatest is.levels) p.1 }) (zip is.trees is.levels) k c at in
      let z = zipped_get is.trees is.levels k m.0 m.1 in
      let r = all_zip_back (IsTreeOf is.forest is.kept) (roots is.kept) is.trees k (m.0).0 is.is_plan.trees_are z.0 in
      let root = root_of_cell is.kept k r.0 r.1 in
      let low = tree_reads is.forest is.kept order leaves r.0 (omega (arith, root.2)) (m.0).0 r.2 in
      subst (λ (d : CellPlan). EachLeaf (λ gate. gate < 2 * leaf_count network + k) d.tree) m.2
      (subst (λ n. EachLeaf (λ gate. gate < 2 * n + k) (m.0).0) leaves_are (subst (λ n. EachLeaf (λ gate. gate < 2 * is.forest.leaves + n) (m.0).0) root.0 low))

  pub sinks_count : length is.gates.sinks ≡ length (sink_signals network)
  sinks_count = ap length is.are_gates.sinks_are ∙ length_map _ (sink_signals network)

  pub signs : AllZip HasSign is.signs (map (end_at_cell is.kept) is.forest.ends)
  signs =
      all_zip_from HasSign is.signs (map (end_at_cell is.kept) is.forest.ends)
      (is.is_forest.signs_are ∙ sym is.is_forest.ends_count ∙ sym (length_map (end_at_cell is.kept) is.forest.ends))
      (λ k sign e f g. let m = get_of_map (end_at_cell is.kept) is.forest.ends k e g in subst (HasSign sign) m.2 (sign_of k sign m.0 f m.1))
    where
      sign_is : (r : Ref) (sign : Bool) (e : End) → IsEndOf is.gates.nodes is.forest.origin r sign e → HasSign sign (end_at_cell is.kept e)
      sign_is r sign (Const b) x = tt
      sign_is r sign (Literal rail) x = tt
      sign_is r sign (FromDynamic p) x = x.0
      sign_is r sign (FromOutput p) x = x.0

      sign_of : (k : ℕ) (sign : Bool) (e : End) → slice_get is.signs k ≡ Some sign → slice_get is.forest.ends k ≡ Some e → HasSign sign (end_at_cell is.kept e)
      sign_of k sign e f g =
          elim (slice_get_cases is.gates.sinks k).1 [
            | inl found ↦ sign_is found.0 sign e (is.is_forest.ends_are k found.0 sign e found.2 f g)
            | inr past ↦ absurd (let lt = slice_get_within is.signs k sign f in omega (arith, past.0, is.is_forest.signs_are))
          ]

abbrev pub planned_deck : (network : NetworkData) (options : DeckOptions) (circuit : CircuitData) (is : IsPlannedDeck network options circuit) → 1 ≤ options.phases → options.phases ≤ 4
    → AreInOrder is.forest.pairs → HasLeaves is.forest → All (IsEndOfForest is.forest) is.forest.ends → IsDominoDeck network options circuit
planned_deck = λ network options circuit is some few order leaves ends. record {
  trees = is.trees;
  levels = is.levels;
  signs = is.signs;
  ends = map (end_at_cell is.kept) is.forest.ends;
  some_clock = some;
  few_clocks = few;
  within = is.is_plan.within;
  levels_are = is.levels_are;
  reads_below = reads network options circuit is order leaves ends;
  one_sign = is.is_forest.signs_are ∙ sinks_count network options circuit is order leaves ends;
  signs_are = signs network options circuit is order leaves ends;
  ends_are = all_from (IsEndIn (leaf_count network) (length is.trees)) (map (end_at_cell is.kept) is.forest.ends)
      (λ k e at. let m = get_of_map (end_at_cell is.kept) is.forest.ends k e at in subst (IsEndIn (leaf_count network) (length is.trees)) m.2 (end_in network options circuit is order leaves ends k m.0 m.1));
  circuit_is = is.circuit_is;
}

-- the forest of a network's gates is in place
pub forest_in_place : (network : NetworkData) (options : DeckOptions) (circuit : CircuitData) (is : IsPlannedDeck network options circuit) → IsOrderedNetwork network → IsForestInPlace is.forest
forest_in_place network options circuit is order = forests_are_in_place is.gates is.signs is.forest (network_gates_are_in_place network is.gates order is.are_gates) is.is_forest

abbrev pub planned_decks_are_domino : PlannedDecksAreDomino
planned_decks_are_domino = λ network options circuit is order some few.
    planned_deck network options circuit is some few (forest_in_place network options circuit is order).in_order (forest_in_place network options circuit is order).has_leaves
    (forest_in_place network options circuit is order).has_ends

abbrev pub chosen_decks_are_domino : ChosenDecksAreDomino
chosen_decks_are_domino = λ network options circuit is order some few. planned_decks_are_domino network options circuit (planned is) order some few

pub rises_in_range : (test : ℕ → Bool) (a n : ℕ) → Rises (λ x y. x < y) (filter test (range_with_len a n)) × ((x : ℕ) → Among x (filter test (range_with_len a n)) → (a ≤ x) × (x < a + n) × (test x ≡ true))
rises_in_range test a zero = (tt, λ x at. absurd at)
rises_in_range test a (suc n) = by (test a) refl (rises_in_range test (a + 1) n)
  where
    by : (b : Bool) → test a ≡ b
        → Rises (λ x y. x < y) (filter test (range_with_len (a + 1) n)) × ((x : ℕ) → Among x (filter test (range_with_len (a + 1) n)) → (a + 1 ≤ x) × (x < a + 1 + n) × (test x ≡ true))
        → Rises (λ x y. x < y) (cond b (a ∷ filter test (range_with_len (a + 1) n)) (filter test (range_with_len (a + 1) n)))
        × ((x : ℕ) → Among x (cond b (a ∷ filter test (range_with_len (a + 1) n)) (filter test (range_with_len (a + 1) n))) → (a ≤ x) × (x < a + suc n) × (test x ≡ true))
    by false e r = (r.0, λ x at. let f = r.1 x at in (omega (arith, f.0), omega (arith, f.1), f.2))
    by true e r = (((λ y at. let f = r.1 y at in omega (arith, f.0)), r.0), each)
      where
        each : (x : ℕ) → Among x (a ∷ filter test (range_with_len (a + 1) n)) → (a ≤ x) × (x < a + suc n) × (test x ≡ true)
        each x (inl same) = (omega arith, omega arith, subst (λ z. test z ≡ true) same e)
        each x (inr at) = let f = r.1 x at in (omega (arith, f.0), omega (arith, f.1), f.2)

pub filter_has : (test : ℕ → Bool) (a n x : ℕ) → a ≤ x → x < a + n → test x ≡ true → Among x (filter test (range_with_len a n))
filter_has test a zero x low high e = absurd (omega arith)
filter_has test a (suc n) x low high e = by (test a) refl (λ l h. filter_has test (a + 1) n x l h e)
  where
    by : (b : Bool) → test a ≡ b → (a + 1 ≤ x → x < a + 1 + n → Among x (filter test (range_with_len (a + 1) n))) → Among x (cond b (a ∷ filter test (range_with_len (a + 1) n)) (filter test (range_with_len (a + 1) n)))
    by true f more = elim (cases_eq x a) [ inl same ↦ inl (sym same) | inr other ↦ inr (more (omega arith) (omega arith)) ]
    by false f more = elim (cases_eq x a) [ inl same ↦ absurd (let g : test a ≡ true = subst (λ z. test z ≡ true) same e in cc) | inr other ↦ more (omega arith) (omega arith) ]

pub named_cards : (c : CircuitData) (cards : List (NamedDevice (List ℕ))) → ((with_devices c cards).name ≡ c.name) × ((with_devices c cards).phases ≡ c.phases)
named_cards c [] = (refl, refl)
named_cards c (card ∷ cards) = named_cards (pushed c card.kind card.drain card.gate card.source) cards

pub zip_length : {X Y : Type 0} (xs : List X) (ys : List Y) → length xs ≡ length ys → length (zip xs ys) ≡ length xs
zip_length [] ys same = refl
zip_length (x ∷ xs) [] same = absurd (omega arith)
zip_length (x ∷ xs) (y ∷ ys) same = ap suc (zip_length xs ys (omega arith))

abbrev pub domino_decks_are_loose : DominoDecksAreLoose
domino_decks_are_loose = λ network options circuit is.
    let pins = pins_of network in
    let outs = outs_of network in
    let starts = starts_of network in
    let cells = cells_of options.phases is.levels is.trees in
    let pin_count : length pins ≡ network.inputs = length-map-range_with_len (λ signal. codes "i_" ++ escaped (signal_name network signal)) 0 network.inputs in
    let start_count : length starts ≡ length network.latches = length_map (λ l. l.init) network.latches in
    let out_count : length outs ≡ length network.outputs = length_map (λ signal. codes "o_" ++ escaped (signal_name network signal)) network.outputs in
    let leaf_total : leaf_count network ≡ length pins + length starts = ap₂ (λ m n. m + n) (sym pin_count) (sym start_count) in
    let cell_count : length cells ≡ length is.trees =
    length_map (λ (p : Tree ℕ × ℕ). record { tree = p.0; clock = clock_of options.phases (greatest is.levels) p.1 }) (zip is.trees is.levels) ∙ zip_length is.trees is.levels (sym is.levels_are.one_each) in
    let range = rises_in_range (names_complement cells is.ends) 0 (leaf_count network) in
    let complements = complements_of network cells is.ends in
    let sinks : length (sink_signals network) ≡ length network.outputs + length network.latches =
    length-append network.outputs (map (λ l. l.input) network.latches) ∙ ap (λ n. length network.outputs + n) (length_map (λ l. l.input) network.latches) in
    let ends_count = all_zip_length HasSign is.signs is.ends is.signs_are in
    let bare = new_circuit (escaped network.name) (phases_of_sinks network is.signs) options.phases pins outs in
    let cards = named_devices options.style pins outs starts cells complements is.ends in
    let same_name : circuit.name ≡ escaped network.name = ap (λ (c : CircuitData). c.name) is.circuit_is ∙ (named_cards bare cards).0 in
    let same_phases : circuit.phases ≡ phases_of_sinks network is.signs = ap (λ (c : CircuitData). c.phases) is.circuit_is ∙ (named_cards bare cards).1 in
    record {
      clocks = options.phases;
      pins = pins;
      outs = outs;
      starts = starts;
      cells = cells;
      complements = complements;
      ends = is.ends;
      roles = record {
        some_clock = is.some_clock;
        few_clocks = is.few_clocks;
        pins_are = all_from IsPin pins (λ k x at. let m = get_of_map (λ signal. codes "i_" ++ escaped (signal_name network signal)) (range_with_len 0 network.inputs) k x at in subst IsPin m.2 refl);
        outs_are = all_from IsOutput outs (λ k x at. let m = get_of_map (λ signal. codes "o_" ++ escaped (signal_name network signal)) network.outputs k x at in subst IsOutput m.2 refl);
        order = refl;
      };
      reads_below = subst (λ n. ReadsBelow n cells) leaf_total is.reads_below;
      clocks_are = all_from (λ (c : CellPlan). (1 ≤ c.clock) × (c.clock ≤ options.phases)) cells (λ k c at. clocks network options circuit is k c at);
      in_order = λ i j d lt high. rises_at (λ x y. x < y) complements range.0 i j d lt high;
      of_leaves = all_from (λ leaf. leaf < length pins + length starts) complements
          (λ k leaf at. let f = range.1 leaf (contains-among complements leaf (k, slice_get_within complements k leaf at, get_or_from_slice_get complements k leaf leaf at)) in omega (arith, f.1, leaf_total));
      named = λ leaf lt e. among-contains complements leaf (filter_has (names_complement cells is.ends) 0 (leaf_count network) leaf (omega arith) (omega (arith, lt, leaf_total)) e);
      one_end = omega (arith, ends_count, is.one_sign, sinks, out_count, start_count);
      ends_are = subst (λ n. All (IsEndIn (length pins + length starts) n) is.ends) (sym cell_count) (subst (λ n. All (IsEndIn n (length is.trees)) is.ends) leaf_total is.ends_are);
      circuit_is = is.circuit_is ∙ (λ i. with_devices (new_circuit (sym same_name i) (sym same_phases i) options.phases pins outs) (named_devices options.style pins outs starts cells complements is.ends));
    }
  where
    clocks : (network : NetworkData) (options : DeckOptions) (circuit : CircuitData) (is : IsDominoDeck network options circuit) (k : ℕ) (c : CellPlan)
        → slice_get (cells_of options.phases is.levels is.trees) k ≡ Some c → (1 ≤ c.clock) × (c.clock ≤ options.phases)
    clocks network options circuit is k c at =
        let m = get_of_map (λ (p : Tree ℕ × ℕ). record { tree = p.0; clock = clock_of options.phases (greatest is.levels) p.1 }) (zip is.trees is.levels) k c at in
        let z = zipped_get is.trees is.levels k m.0 m.1 in
        let level = is.levels_are.levels_are k (m.0).0 (m.0).1 z.0 z.1 in
        let high = level_at_most is.levels k (m.0).1 z.1 in
        subst (λ (d : CellPlan). (1 ≤ d.clock) × (d.clock ≤ options.phases)) m.2 (clock_within options.phases (greatest is.levels) (m.0).1 is.some_clock (omega (arith, level)) high)
