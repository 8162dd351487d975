-- A network has one deck of the chosen signs and the chosen plan, and one text.
use Rattle.std.proofs.Common.{◌≡◌, ◌∙◌, refl, sym, subst, ℕ, Bool, true, false, List, map, take, nat_eq}
use Rattle.std.specs.Cmp.Lexicographic.{pointwise, bytes_decides}
use Rattle.deck.specs.CircuitData.{CircuitData}
use Rattle.deck.specs.Ports.{HasRoles}
use Rattle.spice_text.specs.Cells.{IsWrittenByCells, cell_text_with, groups_from}
use Rattle.spice_text.specs.Text.{IsWritten, text_with}
use Rattle.network.specs.NetworkData.{NetworkData}
use Rattle.network.specs.Networks.{IsNetwork}
use Rattle.gate_decompose.specs.Sinks.{leaf_count}
use Rattle.gate_decompose.proofs.GatesOrder.{network_gates_are_in_place}
use Rattle.gate_decompose.proofs.NetworkOrder.{networks_are_ordered}
use Rattle.dual_rail.specs.Forests.{IsForestOf}
use Rattle.dual_rail.proofs.ForestOrders.{forests_are_in_place}
use Rattle.phase_assign.specs.Signs.{AreChosen}
use Rattle.phase_assign.proofs.ChosenSigns.{chosen_signs_one}
use Rattle.tree_map.specs.LeastPlans.{IsChosenPlan}
use Rattle.tree_map.proofs.PlanOne.{chosen_plan_one}
use Rattle.clock_phase.specs.Levels.{AreLevels}
use Rattle.gate_decompose.specs.GatesData.{GatesData}
use Rattle.deck_form.specs.ChosenDecks.{IsDeckOfSigns, end_at_cell, planned}
use Rattle.deck_form.specs.DeckGroups.{group_places, places_by}
use Rattle.deck_form.specs.DeckTexts.{IsTextInVersion}
use Rattle.deck_form.specs.declared.version.DeckVersion.{DeckVersion}
use Rattle.deck_form.specs.declared.version.DeckVersion.TheVariants.{One as VersionOne, Two as VersionTwo}
use Rattle.deck_form.specs.DeckOptions.{DeckOptions}
use Rattle.deck_form.specs.DominoDecks.{cells_of, deck_circuit}
use Rattle.plan_law.specs.OneText.{ChosenDecksAreOne, HaveOneSigns, SignedDecksAreOne, SynthTextsAreOne, TextsAreOne}
use Rattle.plan_law.proofs.CellLevels.{levels_one}
use Rattle.plan_law.proofs.DecksThere.{WithRoles, WithoutRoles, plan_reads}
use Rattle.plan_law.proofs.OneForest.{forest_one}
use Rattle.plan_law.proofs.OneGates.{gates_one}
use Rattle.clock_phase.specs.Plans.{ReadEarlierCells}

-- a text that is told by the ports of a circuit is one
told_once : (ports : List (List ℕ)) (told : List (List ℕ) → List (List (List ℕ)) → List ℕ) (a b : List ℕ)
    → WithRoles ports told a → WithoutRoles ports told a → WithRoles ports told b → WithoutRoles ports told b → a ≡ b
told_once ports told a b with_a without_a with_b without_b = by (pointwise nat_eq a b) refl
  where
    by : (same : Bool) → pointwise nat_eq a b ≡ same → a ≡ b
    by true e = (bytes_decides a b).0 e
    by false e =
        let no_roles : (clocks : ℕ) (pins outs : List (List ℕ)) → HasRoles ports clocks pins outs → ⊥ = λ clocks pins outs has.
        let equal : pointwise nat_eq a b ≡ true = (bytes_decides a b).1 (with_a clocks pins outs has ∙ sym (with_b clocks pins outs has)) in absurd (cc) in
        without_a no_roles ∙ sym (without_b no_roles)

-- a circuit is written as one text
pub texts_one : TextsAreOne
texts_one = λ c a b x y. told_once (take c.ports c.nets) (text_with c) a b x.with_roles x.without_roles y.with_roles y.without_roles

-- and by its cells as one text
cell_texts_one : (c : CircuitData) (places a b : List ℕ) → IsWrittenByCells c places a → IsWrittenByCells c places b → a ≡ b
cell_texts_one c places a b x y =
    told_once (take c.ports c.nets) (cell_text_with c (groups_from 0 places c.devices)) a b x.with_roles x.without_roles y.with_roles y.without_roles

-- decks of the same gates: signs, forest, plan and levels are one by one the same
module _ {AreSigns : GatesData → List Bool → Type 0} (network : NetworkData) (is : IsNetwork network) (options : DeckOptions) where
  levels_same : (a b : CircuitData) (x : IsDeckOfSigns AreSigns network options a) (y : IsDeckOfSigns AreSigns network options b)
      → x.trees ≡ y.trees → x.levels ≡ y.levels
  levels_same a b x y trees =
      let in_place = network_gates_are_in_place network y.gates (networks_are_ordered network is) y.are_gates in
      let stands = forests_are_in_place y.gates y.signs y.forest in_place y.is_forest in
      let leaves : (y.forest).leaves ≡ leaf_count network = (y.is_forest).leaves_are ∙ (y.are_gates).leaves_are in
      let below = subst (λ n. ReadEarlierCells n y.trees) leaves (plan_reads y.forest options.width options.height y.kept y.trees stands (y.is_chosen_plan).plan) in
      levels_one (leaf_count network) y.trees below x.levels y.levels (subst (λ ts. AreLevels (leaf_count network) ts x.levels) trees x.levels_are) y.levels_are

  -- a network has one deck of signs that are one list: its signs, levels, trees, kept edges and forest are one
  pub parts_one : HaveOneSigns AreSigns network → (a b : CircuitData) (x : IsDeckOfSigns AreSigns network options a) (y : IsDeckOfSigns AreSigns network options b)
      → (x.signs ≡ y.signs) × (x.levels ≡ y.levels) × (x.trees ≡ y.trees) × (x.kept ≡ y.kept) × (x.forest ≡ y.forest)
  parts_one one a b x y =
      let order = networks_are_ordered network is in
      let gates : x.gates ≡ y.gates = gates_one network order x.gates y.gates x.are_gates y.are_gates in
      let signs : x.signs ≡ y.signs = one y.gates x.signs y.signs y.are_gates (subst (λ g. AreSigns g x.signs) gates x.are_chosen) y.are_chosen in
      let forest : x.forest ≡ y.forest =
      forest_one y.gates y.signs x.forest y.forest (subst (λ g. IsForestOf g y.signs x.forest) gates (subst (λ s. IsForestOf x.gates s x.forest) signs x.is_forest)) y.is_forest in
      let in_place = network_gates_are_in_place network y.gates order y.are_gates in
      let stands = forests_are_in_place y.gates y.signs y.forest in_place y.is_forest in
      let plan = chosen_plan_one y.forest options.width options.height x.kept y.kept x.trees y.trees stands.in_order
      (subst (λ f. IsChosenPlan f options.width options.height x.kept x.trees) forest x.is_chosen_plan) y.is_chosen_plan in
      (signs, levels_same a b x y plan.1, plan.1, plan.0, forest)

  pub decks_of_signs_one : HaveOneSigns AreSigns network → (a b : CircuitData) → IsDeckOfSigns AreSigns network options a → IsDeckOfSigns AreSigns network options b → a ≡ b
  decks_of_signs_one one a b x y =
      let same = parts_one one a b x y in
      x.circuit_is
      ∙ (λ i. deck_circuit options.style network options.phases (cells_of options.phases (same.1 i) (same.2 i)) (same.0 i) (map (end_at_cell (same.3 i)) ((same.4 i).ends)))
      ∙ sym y.circuit_is

  -- and its groups end at the same places
  places_of_signs_one : HaveOneSigns AreSigns network → (a b : CircuitData) (x : IsDeckOfSigns AreSigns network options a) (y : IsDeckOfSigns AreSigns network options b)
      → group_places (planned x) ≡ group_places (planned y)
  places_of_signs_one one a b x y =
      let same = parts_one one a b x y in
      λ i. places_by options.style network (cells_of options.phases (same.1 i) (same.2 i)) (map (end_at_cell (same.3 i)) ((same.4 i).ends))

  -- and one text of it in each version
  pub texts_of_signs_one : (version : DeckVersion) → HaveOneSigns AreSigns network → (a b : List ℕ) → IsTextInVersion version AreSigns a network options
      → IsTextInVersion version AreSigns b network options → a ≡ b
  texts_of_signs_one VersionOne one a b x y =
      let same = decks_of_signs_one one x.circuit y.circuit x.is_chosen y.is_chosen in
      texts_one y.circuit a b (subst (λ c. IsWritten c a) same x.written) y.written
  texts_of_signs_one VersionTwo one a b x y =
      let same = decks_of_signs_one one x.circuit y.circuit x.is_chosen y.is_chosen in
      let places = places_of_signs_one one x.circuit y.circuit x.is_chosen y.is_chosen in
      cell_texts_one y.circuit (group_places (planned y.is_chosen)) a b
      (subst (λ p. IsWrittenByCells y.circuit p a) places (subst (λ c. IsWrittenByCells c (group_places (planned x.is_chosen)) a) same x.written)) y.written

pub signed_decks_one : SignedDecksAreOne
signed_decks_one = λ network options signs a b is. decks_of_signs_one network is options (λ gates x y are xs ys. xs ∙ sym ys) a b

-- the chosen signs are one list
pub chosen_one : (network : NetworkData) → HaveOneSigns AreChosen network
chosen_one network gates a b are xs ys = chosen_signs_one gates a b xs ys

pub decks_one : ChosenDecksAreOne
decks_one = λ network options a b is. decks_of_signs_one network is options (chosen_one network) a b

pub synth_texts_one : SynthTextsAreOne
synth_texts_one = λ network options a b is. texts_of_signs_one network is options VersionOne (chosen_one network) a b
