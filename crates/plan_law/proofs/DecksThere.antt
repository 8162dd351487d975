-- Each network has the deck and the text that synthesis gives of it.
use Rattle.std.proofs.Common.{◌≡◌, ◌⊎◌, inl, inr, ℕ, ◌+◌, ◌*◌, ◌≤◌, ◌<◌, Bool, List, [], ◌∷◌, map, take, refl, sym, subst, ◌∙◌, arith}
use Rattle.deck.specs.CircuitData.{CircuitData}
use Rattle.deck.specs.Ports.{HasRoles, HasSomeRoles, leading_ports}
use Rattle.deck.proofs.PortDecisions.{has_roles}
use Rattle.deck.proofs.PortLayout.{HasRoles-same}
use Rattle.spice_text.specs.Cells.{cell_text_with, groups_from}
use Rattle.spice_text.specs.Text.{text_with}
use Rattle.sp_network.specs.Tree.{Tree, EachLeaf}
use Rattle.network.specs.NetworkData.{NetworkData}
use Rattle.network.specs.Networks.{IsNetwork}
use Rattle.gate_decompose.specs.GateNodes.{network_nodes, node_names, node_of, ref_of}
use Rattle.gate_decompose.specs.GatesData.{GatesData}
use Rattle.gate_decompose.specs.Sinks.{leaf_count, sink_signals}
use Rattle.gate_decompose.proofs.GatesOrder.{gates_are_ordered, network_gates_are_in_place}
use Rattle.gate_decompose.proofs.NetworkOrder.{networks_are_ordered}
use Rattle.gate_decompose.proofs.Operands.{are_operands, operands_of}
use Rattle.dual_rail.specs.ForestData.{ForestData}
use Rattle.dual_rail.specs.ForestOrder.{IsForestInPlace}
use Rattle.dual_rail.proofs.ForestOrders.{forests_are_in_place}
use Rattle.dual_rail.proofs.Zips.{all_zip_back}
use Rattle.phase_assign.specs.Signs.{AreChosen}
use Rattle.phase_assign.proofs.ChosenSigns.{chosen_settled, chosen_there}
use Rattle.tree_map.specs.Plans.{IsPlan, IsTreeOf, roots}
use Rattle.tree_map.proofs.PlanThere.{chosen_plan_there}
use Rattle.deck_form.specs.ChosenDecks.{IsDeckOfSigns, IsPlannedDeck, end_at_cell, planned}
use Rattle.deck_form.specs.DeckGroups.{group_places}
use Rattle.deck_form.specs.DeckTexts.{IsTextInVersion, IsWrittenAs}
use Rattle.deck_form.specs.declared.version.DeckVersion.{DeckVersion}
use Rattle.deck_form.specs.declared.version.DeckVersion.TheVariants.{One as VersionOne, Two as VersionTwo}
use Rattle.deck_form.specs.DeckOptions.{DeckOptions}
use Rattle.deck_form.specs.DominoDecks.{cells_of, deck_circuit}
use Rattle.deck_form.proofs.DeckForms.{sinks_of_network}
use Rattle.deck_form.proofs.CellOrder.{root_of_cell, tree_reads}
use Rattle.plan_law.specs.Laws.{ChosenDecksAreThere, GatesAreThere, HaveSigns, SignedDecksAreThere, SynthTextsAreThere, TextsAreThere}
use Rattle.plan_law.proofs.CellLevels.{levels_there}
use Rattle.plan_law.proofs.ForestThere.{forests_there}
use Rattle.clock_phase.specs.Plans.{ReadEarlierCells}

pub gates_there : GatesAreThere
gates_there = λ network order.
    let of = operands_of network in (
      record {
        leaves = leaf_count network;
        nodes = map (λ n. node_of (node_names of network) n.joint) (network_nodes of network);
        sinks = map (λ signal. ref_of (node_names of network) (of signal)) (sink_signals network);
      },
      record { of = of; are_operands = are_operands network order; leaves_are = refl; nodes_are = refl; sinks_are = refl },
    )

-- the trees of a plan read rails and cells before their own
pub plan_reads : (forest : ForestData) (w h : ℕ) (kept : List Bool) (trees : List (Tree ℕ)) → IsForestInPlace forest → IsPlan forest w h kept trees
    → ReadEarlierCells forest.leaves trees
plan_reads forest w h kept trees is plan = λ k tree at.
    let found = all_zip_back (IsTreeOf forest kept) (roots kept) trees k tree plan.trees_are at in
    let root = root_of_cell kept k found.0 found.1 in
    subst (λ cell. EachLeaf (λ gate. gate < 2 * forest.leaves + cell) tree) root.0
    (tree_reads forest kept is.in_order is.has_leaves found.0 (omega (arith, root.2)) tree found.2)

-- what a text is that is told by the ports of a circuit: where they have roles, and where they have none
abbrev pub WithRoles : List (List ℕ) → (List (List ℕ) → List (List (List ℕ)) → List ℕ) → List ℕ → Type 0
WithRoles ports told text =
    (clocks : ℕ) (pins outs : List (List ℕ)) → HasRoles ports clocks pins outs → text ≡ told (leading_ports clocks) (pins ∷ outs ∷ [])

abbrev pub WithoutRoles : List (List ℕ) → (List (List ℕ) → List (List (List ℕ)) → List ℕ) → List ℕ → Type 0
WithoutRoles ports told text =
    ((clocks : ℕ) (pins outs : List (List ℕ)) → HasRoles ports clocks pins outs → ⊥) → text ≡ told [] (ports ∷ [])

-- such a text is there
told_there : (ports : List (List ℕ)) (told : List (List ℕ) → List (List (List ℕ)) → List ℕ)
    → (text : List ℕ) × WithRoles ports told text × WithoutRoles ports told text
told_there ports told = by (has_roles ports)
  where
    by : HasSomeRoles ports ⊎ ((clocks : ℕ) (pins outs : List (List ℕ)) → HasRoles ports clocks pins outs → ⊥)
        → (text : List ℕ) × WithRoles ports told text × WithoutRoles ports told text
    by (inl h) = (
      told (leading_ports h.clocks) (h.pins ∷ h.outs ∷ []),
      (λ clocks pins outs has.
          let same = HasRoles-same ports h.clocks clocks h.pins pins h.outs outs h.roles has in
          λ i. told (leading_ports (same.same_clocks i)) (same.same_pins i ∷ same.same_outs i ∷ [])),
      (λ none. absurd (none h.clocks h.pins h.outs h.roles)),
    )
    by (inr fails) = (told [] (ports ∷ []), (λ clocks pins outs has. absurd (fails clocks pins outs has)), (λ none. refl))

pub written_there : TextsAreThere
written_there = λ c.
    let text = told_there (take c.ports c.nets) (text_with c) in
    (text.0, record { with_roles = text.1; without_roles = text.2 })

-- a planned deck has a written form in each version
planned_there : (version : DeckVersion) {network : NetworkData} {options : DeckOptions} {circuit : CircuitData} (is : IsPlannedDeck network options circuit)
    → (text : List ℕ) × IsWrittenAs version is text
planned_there VersionOne {circuit = c} is = written_there c
planned_there VersionTwo {circuit = c} is =
    let text = told_there (take c.ports c.nets) (cell_text_with c (groups_from 0 (group_places is) c.devices)) in
    (text.0, record { with_roles = text.1; without_roles = text.2 })

-- a network has a deck of signs that its gates have
module _ {AreSigns : GatesData → List Bool → Type 0} (network : NetworkData) (options : DeckOptions) (is : IsNetwork network) (wide : 2 ≤ options.width) (tall : 2 ≤ options.height) where
  pub decks_of_signs_there : HaveSigns AreSigns network → (circuit : CircuitData) × IsDeckOfSigns AreSigns network options circuit
  decks_of_signs_there have =
      let order = networks_are_ordered network is in
      let gates = gates_there network order in
      let in_place = network_gates_are_in_place network gates.0 order gates.1 in
      let signs = have gates.0 gates.1 in
      let forest = forests_there gates.0 signs.0 in_place signs.2 in
      let stands = forests_are_in_place gates.0 signs.0 forest.0 in_place forest.1 in
      let plan = chosen_plan_there forest.0 options.width options.height wide tall stands.in_order in
      let leaves : (forest.0).leaves ≡ leaf_count network = (forest.1).leaves_are ∙ (gates.1).leaves_are in
      let levels = levels_there (leaf_count network) plan.1
      (subst (λ n. ReadEarlierCells n plan.1) leaves (plan_reads forest.0 options.width options.height plan.0 plan.1 stands (plan.2).plan)) in (
        deck_circuit options.style network options.phases (cells_of options.phases levels.0 plan.1) signs.0 (map (end_at_cell plan.0) (forest.0).ends),
        record {
          gates = gates.0;
          signs = signs.0;
          forest = forest.0;
          kept = plan.0;
          trees = plan.1;
          levels = levels.0;
          are_gates = gates.1;
          are_chosen = signs.1;
          is_forest = forest.1;
          is_chosen_plan = plan.2;
          levels_are = levels.1;
          circuit_is = refl;
        },
      )

  -- and the text of that deck in each version
  pub texts_of_signs_there : (version : DeckVersion) → HaveSigns AreSigns network → (text : List ℕ) × IsTextInVersion version AreSigns text network options
  texts_of_signs_there version have =
      let deck = decks_of_signs_there have in
      let text = planned_there version (planned deck.1) in
      (text.0, record { circuit = deck.0; is_chosen = deck.1; written = text.1 })

pub signed_decks_there : SignedDecksAreThere
signed_decks_there = λ network options signs is one wide tall.
    decks_of_signs_there network options is wide tall (λ gates are. (signs, refl, one ∙ sym (sinks_of_network network gates are)))

-- the gates of a network have chosen signs
pub chosen_signs : (network : NetworkData) → IsNetwork network → HaveSigns AreChosen network
chosen_signs network is gates are =
    let ordered = gates_are_ordered gates (network_gates_are_in_place network gates (networks_are_ordered network is) are) in
    let signs = chosen_there gates ordered in
    (signs.0, signs.1, (chosen_settled gates ordered signs.0 signs.1).one_each)

pub decks_there : ChosenDecksAreThere
decks_there = λ network options is wide tall. decks_of_signs_there network options is wide tall (chosen_signs network is)

pub texts_there : SynthTextsAreThere
texts_there = λ network options is wide tall. texts_of_signs_there network options is wide tall VersionOne (chosen_signs network is)
