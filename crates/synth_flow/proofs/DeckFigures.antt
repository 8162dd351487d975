-- The figures of a deck by its parts are those of the circuit.
use Rattle.domino_cell.specs.declared.style.Style.{Style}
use Rattle.std.proofs.Common.{◌≡◌, ℕ, ◌+◌, ◌*◌, ◌==◌, ◌||◌, Bool, List, [], ◌∷◌, ◌++◌, length, map, filter, zip, flat_map, refl, sym, ap, ap₂, ◌∙◌, arith, length-append}
use Rattle.std.specs.List.{count_by, enumerate_from, list_any, range_with_len}
use Rattle.std.specs.Prelude.{codes, cond, not}
use Rattle.std.proofs.lemmas.List.{length-map}
use Rattle.std.proofs.lemmas.List.FromFn.{length-enumerate_from}
use Rattle.std.proofs.lemmas.List.Sums.{sum_by-cons}
use Rattle.std.proofs.lemmas.Slice.Zip.{length-zip}
use Rattle.dom_base.proofs.Lists.{list_any-map}
use Rattle.deck.specs.CircuitData.{CircuitData}
use Rattle.deck.specs.Escapes.{escaped}
use Rattle.deck.specs.NamedDevices.{NamedDevice}
use Rattle.deck.specs.Pushes.{new_circuit}
use Rattle.latch_bind.specs.Latches.{data_net, named_latch}
use Rattle.dual_rail.specs.ForestData.{ForestData}
use Rattle.dual_rail.specs.Forests.{IsForestOf}
use Rattle.dual_rail.specs.declared.forest.End.{End}
use Rattle.dual_rail.specs.declared.forest.End.TheVariants.{Const, Literal, FromDynamic, FromOutput}
use Rattle.gate_decompose.specs.GateNodes.{AreGatesOf}
use Rattle.gate_decompose.specs.GatesData.{GatesData}
use Rattle.gate_decompose.specs.Sinks.{leaf_count, sink_signals}
use Rattle.clock_phase.specs.Levels.{AreLevels, clock_of, greatest}
use Rattle.network.specs.NetworkData.{NetworkData}
use Rattle.network.specs.declared.network.NetLatch.{NetLatch}
use Rattle.phase_assign.specs.Signs.{AreChosen}
use Rattle.sp_network.specs.Tree.{Tree}
use Rattle.tree_map.specs.LeastPlans.{IsChosenPlan}
use Rattle.style_costs.specs.Styles.{cost_in}
use Rattle.synth_flow.specs.CellCounts.{is_read_in}
use Rattle.deck_form.specs.ChosenDecks.{IsChosenDeck, end_at_cell}
use Rattle.deck_form.specs.DeckNets.{CellPlan, SinkEnd, named_cell, named_complement, named_sink, sink_nets}
use Rattle.deck_form.specs.AskedOptions.{deck_options}
use Rattle.deck_form.specs.DominoDecks.{cells_of, complements_of, deck_circuit, outs_of, phases_of_sinks, pins_of, signal_name, starts_of}
use Rattle.synth_flow.specs.NamedComplements.{is_plus_end}
use Rattle.deck_form.specs.NamedDecks.{is_plus_literal, names_complement, reads}
use Rattle.synth_flow.specs.Summaries.{IsSummaryOf, both_nodes, clock_counts, figures}
use Rattle.synth_flow.specs.SummaryLaws.{DevicesAreCounted}
use Rattle.synth_flow.specs.SummaryParts.{figures_by, levels_at_clock}
use Rattle.deck_form.specs.declared.options.SynthOptions.{SynthOptions}
use Rattle.deck_form.proofs.CellDevices.{cells_count, clocks_stay, trees_stay}
use Rattle.synth_flow.proofs.LeafMarks.{filter_same}
use Rattle.domino_cell.proofs.CellCircuits.{count_with}

-- parts of so many devices each
parts_count : {X : Type 0} (part : X → List (NamedDevice (List ℕ))) (n : ℕ) → ((x : X) → length (part x) ≡ n) → (xs : List X) → length (flat_map part xs) ≡ n * length xs
parts_count part n each [] = omega arith
parts_count part n each (x ∷ xs) = omega (arith, length-append (part x) (flat_map part xs), each x, parts_count part n each xs)

pub latch_count : (p : ℕ × Bool) → length (named_latch p) ≡ 9
latch_count (j, start) = refl

-- the devices of a deck
module _ (style : Style) (network : NetworkData) (phases : ℕ) (trees : List (Tree ℕ)) (levels : List ℕ) (signs : List Bool) (ends : List SinkEnd)
    (one_level : length levels ≡ length trees) (one_end : length ends ≡ length network.outputs + length network.latches) where
  abbrev pins : List (List ℕ)
  pins = pins_of network

  abbrev outs : List (List ℕ)
  outs = outs_of network

  abbrev starts : List Bool
  starts = starts_of network

  abbrev cells : List CellPlan
  cells = cells_of phases levels trees

  abbrev complements : List ℕ
  complements = complements_of network cells ends

  abbrev lc : ℕ
  lc = length pins + length starts

  starts_count : length starts ≡ length network.latches
  starts_count = length-map network.latches (λ (l : NetLatch). l.init)

  nets_count : length (sink_nets outs starts) ≡ length network.outputs + length network.latches
  nets_count = omega (
    arith,
    length-append outs (map (λ (p : ℕ × Bool). data_net p.0) (enumerate_from 0 starts)),
    length-map network.outputs (λ signal. codes "o_" ++ escaped (signal_name network signal)),
    length-map (enumerate_from 0 starts) (λ (p : ℕ × Bool). data_net p.0),
    length-enumerate_from 0 starts,
    starts_count,
  )

  pub sinks_count : length (zip (sink_nets outs starts) ends) ≡ length network.outputs + length network.latches
  sinks_count = omega (arith, length-zip (sink_nets outs starts) ends, nets_count, one_end)

  pub deck_count : length (deck_circuit style network phases (cells_of phases levels trees) signs ends).devices
      ≡ cost_in style trees + 2 * length complements + 9 * length network.latches + 2 * (length network.outputs + length network.latches)
  deck_count =
      let a = flat_map (named_cell style pins lc) (enumerate_from 0 cells) in
      let b = flat_map (named_complement pins) complements in
      let c = flat_map named_latch (enumerate_from 0 starts) in
      let d = flat_map (named_sink pins) (zip (sink_nets outs starts) ends) in
      omega (
        arith,
        count_with (new_circuit (escaped network.name) (phases_of_sinks network signs) phases pins outs) (a ++ b ++ c ++ d),
        length-append (a ++ b ++ c) d,
        length-append (a ++ b) c,
        length-append a b,
        cells_count style pins lc 0 cells,
        ap (cost_in style) (trees_stay (clock_of phases (greatest levels)) trees levels one_level),
        parts_count (named_complement pins) 2 (λ leaf. refl) complements,
        parts_count named_latch 9 latch_count (enumerate_from 0 starts),
        length-enumerate_from 0 starts,
        starts_count,
        parts_count (named_sink pins) 2 (λ p. refl) (zip (sink_nets outs starts) ends),
        sinks_count,
      )

-- each sink has an end
pub ends_count : (network : NetworkData) (gates : GatesData) (signs kept : List Bool) (forest : ForestData) → AreGatesOf network gates → IsForestOf gates signs forest
    → length (map (end_at_cell kept) forest.ends) ≡ length network.outputs + length network.latches
ends_count network gates signs kept forest are is =
    length-map forest.ends (end_at_cell kept) ∙ is.ends_count ∙ ap length are.sinks_are ∙ length-map (sink_signals network) _
    ∙ length-append network.outputs (map (λ (l : NetLatch). l.input) network.latches) ∙ ap (λ n. length network.outputs + n) (length-map network.latches (λ (l : NetLatch). l.input))

pub devices_counted : DevicesAreCounted
devices_counted network options circuit is =
    ap (λ (c : CircuitData). length c.devices) is.circuit_is
    ∙ deck_count options.style network options.phases is.trees is.levels is.signs (map (end_at_cell is.kept) is.forest.ends) is.levels_are.one_each
    (ends_count network is.gates is.signs is.kept is.forest is.are_gates is.is_forest)

-- the complements that are named

literals_same : (kept : List Bool) (leaf : ℕ) (ends : List End) → list_any (is_plus_end leaf) ends ≡ list_any (is_plus_literal leaf) (map (end_at_cell kept) ends)
literals_same kept leaf [] = refl
literals_same kept leaf (e ∷ ends) = ap₂ (λ a b. a || b) (one e) (literals_same kept leaf ends)
  where
    one : (x : End) → is_plus_end leaf x ≡ is_plus_literal leaf (end_at_cell kept x)
    one (Const b) = refl
    one (Literal rail) = refl
    one (FromDynamic place) = refl
    one (FromOutput place) = refl

module _ (phases : ℕ) (trees : List (Tree ℕ)) (levels : List ℕ) (one_level : length levels ≡ length trees) where
  abbrev deck_cells : List CellPlan
  deck_cells = cells_of phases levels trees

  reads_same : (leaf : ℕ) → is_read_in trees leaf ≡ list_any (λ (c : CellPlan). reads (2 * leaf + 1) c.tree) deck_cells
  reads_same leaf =
      ap (list_any (reads (2 * leaf + 1))) (sym (trees_stay (clock_of phases (greatest levels)) trees levels one_level))
      ∙ list_any-map (reads (2 * leaf + 1)) (λ (c : CellPlan). c.tree) deck_cells

  pub complements_same : (network : NetworkData) (kept : List Bool) (ends : List End)
      → filter (λ leaf. is_read_in trees leaf || list_any (is_plus_end leaf) ends) (range_with_len 0 (leaf_count network)) ≡ complements_of network deck_cells (map (end_at_cell kept) ends)
  complements_same network kept ends =
      filter_same (λ leaf. is_read_in trees leaf || list_any (is_plus_end leaf) ends) (names_complement deck_cells (map (end_at_cell kept) ends)) 0 (leaf_count network)
      (λ k lt. ap₂ (λ a b. a || b) (reads_same k) (literals_same kept k ends))

  -- and the cells of each clock

  count_mapped : {X : Type 0} (g : X → ℕ) (n : ℕ) (xs : List X) → count_by (λ m. m == n) (map g xs) ≡ count_by (λ x. g x == n) xs
  count_mapped g n [] = refl
  count_mapped g n (x ∷ xs) =
      sum_by-cons (λ m. cond (m == n) 1 0) (g x) (map g xs) ∙ ap (λ k. cond (g x == n) 1 0 + k) (count_mapped g n xs) ∙ sym (sum_by-cons (λ y. cond (g y == n) 1 0) x xs)

  pub clocks_same : map (levels_at_clock phases (greatest levels) levels) (range_with_len 1 phases) ≡ clock_counts phases deck_cells
  clocks_same = λ i. map (λ clock. each clock i) (range_with_len 1 phases)
    where
      each : (clock : ℕ) → levels_at_clock phases (greatest levels) levels clock ≡ count_by (λ (c : CellPlan). c.clock == clock) deck_cells
      each clock =
          sym (count_mapped (clock_of phases (greatest levels)) clock levels)
          ∙ ap (count_by (λ m. m == clock)) (sym (clocks_stay (clock_of phases (greatest levels)) trees levels one_level))
          ∙ count_mapped (λ (c : CellPlan). c.clock) clock deck_cells

-- the figures
pub figures_are : (network : NetworkData) (options : SynthOptions) (gates : GatesData) (signs : List Bool) (forest : ForestData) (kept : List Bool) (trees : List (Tree ℕ)) (levels named : List ℕ) (both : ℕ)
    → AreGatesOf network gates → AreChosen gates signs → IsForestOf gates signs forest → IsChosenPlan forest options.bounds.w options.bounds.h kept trees → AreLevels (leaf_count network) trees levels
    → named ≡ filter (λ leaf. is_read_in trees leaf || list_any (is_plus_end leaf) forest.ends) (range_with_len 0 (leaf_count network))
    → both ≡ length (both_nodes forest.origin (length gates.nodes)) → IsSummaryOf network options (figures_by network options.phases signs forest levels (cost_in options.style trees) named both)
figures_are network options gates signs forest kept trees levels named both are chosen is plan levels_are named_are both_is = (circuit, deck, same)
  where
    circuit : CircuitData
    circuit = deck_circuit options.style network options.phases (cells_of options.phases levels trees) signs (map (end_at_cell kept) forest.ends)

    deck : IsChosenDeck network (deck_options options) circuit
    deck = record {
      gates = gates;
      signs = signs;
      forest = forest;
      kept = kept;
      trees = trees;
      levels = levels;
      are_gates = are;
      are_chosen = chosen;
      is_forest = is;
      is_chosen_plan = plan;
      levels_are = levels_are;
      circuit_is = refl;
    }

    devices : cost_in options.style trees + 2 * length named + 9 * length network.latches + 2 * (length network.outputs + length network.latches)
        ≡ length circuit.devices
    devices =
        ap (λ (l : List ℕ). cost_in options.style trees + 2 * length l + 9 * length network.latches + 2 * (length network.outputs + length network.latches))
        (named_are ∙ complements_same options.phases trees levels levels_are.one_each network kept forest.ends)
        ∙ sym (devices_counted network options circuit deck)

    same : figures_by network options.phases signs forest levels (cost_in options.style trees) named both ≡ figures deck
    same =
        let clock_list = clocks_same options.phases trees levels levels_are.one_each in
        λ i. record {
          inputs = network.inputs;
          outputs = length network.outputs;
          latches = length network.latches;
          pairs = length forest.pairs;
          both = both_is i;
          minus = count_by not signs;
          cells = levels_are.one_each i;
          levels = greatest levels;
          cost = cost_in options.style trees;
          devices = devices i;
          clocks = clock_list i;
        }
