-- What is gathered of a file by numbers on the way to its network.
use Rattle.std.proofs.Common.{◌≡◌, ℕ, ◌<◌, ◌^◌, List, [], ◌++◌, length, map, Option, Some, ap, sym, ◌∙◌, subst, arith}
use Rattle.std.specs.Prelude.{All, IsSome, option_and_then, option_map, slice_get}
use Rattle.std.specs.List.{AllByRecursion}
use Rattle.std.proofs.lemmas.List.{length-append}
use Rattle.std.proofs.lemmas.List.Elements.{All-from_recursion}
use Rattle.std.proofs.lemmas.Option.{slice_get_within}
use Rattle.dom_base.proofs.Lists.{AllByRecursion-every}
use Rattle.blif_ast.specs.BlifFileData.{BlifFileData}
use Rattle.net_flatten.specs.declared.clocking.ControlAt.{ControlAt}
use Rattle.net_flatten.specs.declared.table_order.LevelledTable.{LevelledTable}
use Rattle.net_flatten.specs.ClockSearches.{IsControlFound}
use Rattle.net_flatten.specs.Dependences.{AreTableLevels, level_at}
use Rattle.net_flatten.specs.Flattening.{IsNetworkOf}
use Rattle.network.specs.NetworkData.{NetworkData}
use Rattle.net_flatten.specs.NetworkNames.{AreNetworkNames}
use Rattle.net_flatten.specs.NetworkNumbers.{IsRenumbering, latches_among, pin_numbers}
use Rattle.net_flatten.specs.NetworkParts.{latch_in_network, levelled_in_network, network_place, table_in_network}
use Rattle.part_numbers.specs.NumberedFaults.{IsPartWithin}
use Rattle.part_numbers.specs.NumberedFiles.{HasNumbers, NumberedFileData, NumberedPartData}
use Rattle.model_calls.specs.Occurrences.{main_model}
use Rattle.model_calls.specs.Ordered.{in_order}
use Rattle.model_calls.specs.Refusal.{Refusal}
use Rattle.model_calls.specs.Refusals.{HasRefusal}
use Rattle.net_flatten.specs.TableNumbers.{tables_among}
use Rattle.net_flatten.proofs.Kept.{same_each}
use Rattle.net_flatten.proofs.NetworkBuilt.{built, few_numbers, numbers_in}
use Rattle.net_flatten.proofs.NetworkOrder.{IsControlNumber, control_found, network_numbers}
use Rattle.net_flatten.proofs.NetworkParts.{latches_some, tables_at, tables_some}
use Rattle.part_numbers.proofs.NumberedEnds.{outputs_within, parts_within}
use Rattle.net_flatten.proofs.TableOutputs.{AreOutputs}

-- each table stands at its index
pub levelled_inside : (parts tables : List NumberedPartData) (levelled : List LevelledTable)
    → map (λ (t : LevelledTable). slice_get parts t.part) levelled ≡ map Some tables
    → All (λ (t : LevelledTable). t.part < length parts) levelled
levelled_inside parts tables levelled e = All-from_recursion (λ (t : LevelledTable). t.part < length parts) levelled
    (same_each (λ (t : LevelledTable). slice_get parts t.part) Some (λ (t : LevelledTable). t.part < length parts) (λ p. Unit {0})
    (λ t p at u. slice_get_within parts t.part p at) levelled tables e (AllByRecursion-every (λ p. Unit {0}) (λ p. tt) tables))

levelled_some : (f : BlifFileData) (places : List ℕ) (parts tables : List NumberedPartData) (levelled : List LevelledTable)
    → map (λ (t : LevelledTable). slice_get parts t.part) levelled ≡ map Some tables
    → AllByRecursion (λ p. IsSome (table_in_network f places p)) tables → All (λ t. IsSome (levelled_in_network f places parts t)) levelled
levelled_some f places parts tables levelled e some = All-from_recursion (λ t. IsSome (levelled_in_network f places parts t)) levelled
    (same_each (λ (t : LevelledTable). slice_get parts t.part) Some (λ t. IsSome (levelled_in_network f places parts t)) (λ p. IsSome (table_in_network f places p))
    (λ t p at there. subst (λ o. IsSome (option_and_then (table_in_network f places) o)) (sym at) there) levelled tables e some)

-- the parts, the main inputs, the control and the tables by their levels
pub record IsGathered (n : NumberedFileData) (levels : List ℕ) (parts : List NumberedPartData) (inputs : List ℕ) (control : Option ℕ)
    (levelled : List LevelledTable) : Type 0 where
  pub parts_are : parts ≡ n.parts
  pub inputs_are : inputs ≡ n.inputs
  pub control_is : (found : Option ControlAt) × IsControlFound parts found × (control ≡ option_map (λ (at : ControlAt). at.number) found)
  pub levelled_are : map (λ (t : LevelledTable). slice_get parts t.part) levelled
      ≡ map Some (in_order (λ p. level_at levels p.drives) (tables_among parts))

module _ {f : BlifFileData} {n : NumberedFileData} (numbered : HasNumbers f n) where
  pub parts_inside : {bound : ℕ} {parts : List NumberedPartData} → bound ≡ n.signals → parts ≡ n.parts → All (IsPartWithin bound) parts
  parts_inside {bound} {parts} bound_is parts_are =
      subst (λ m. All (IsPartWithin m) parts) (sym bound_is) (subst (All (IsPartWithin n.signals)) (sym parts_are) (parts_within f numbered.0 n numbered.1))

  pub outputs_inside : {bound : ℕ} {outputs : List ℕ} → bound ≡ n.signals → outputs ≡ n.outputs → All (λ x. x < bound) outputs
  outputs_inside {bound} {outputs} bound_is outputs_are =
      subst (λ m. All (λ x. x < m) outputs) (sym bound_is) (subst (All (λ x. x < n.signals)) (sym outputs_are) (outputs_within f numbered.0 n numbered.1))

  pub latches_there : {parts : List NumberedPartData} (places : List ℕ) → parts ≡ n.parts
      → All (λ p. IsSome (latch_in_network f places p)) (latches_among parts)
  latches_there places are = subst (λ ps. All (λ p. IsSome (latch_in_network f places p)) (latches_among ps)) (sym are)
      (All-from_recursion (λ p. IsSome (latch_in_network f places p)) (latches_among n.parts) (latches_some numbered.1 places))

  pub gathered : {levels : List ℕ} {parts : List NumberedPartData} {inputs : List ℕ} {control : Option ℕ} {levelled : List LevelledTable}
      → parts ≡ n.parts → inputs ≡ n.inputs
      → (found : Option ControlAt) × IsControlFound parts found × (control ≡ option_map (λ (at : ControlAt). at.number) found)
      → map (λ (t : LevelledTable). slice_get parts t.part) levelled ≡ map Some (in_order (λ p. level_at levels p.drives) (tables_among parts))
      → IsGathered n levels parts inputs control levelled
  gathered parts inputs control levelled = record { parts_are = parts; inputs_are = inputs; control_is = control; levelled_are = levelled }

  module _ {levels : List ℕ} {parts : List NumberedPartData} {inputs : List ℕ} {control : Option ℕ} {levelled : List LevelledTable}
      (g : IsGathered n levels parts inputs control levelled) where
    pub known : IsControlNumber numbered.1 control
    known = subst (IsControlNumber numbered.1) (sym g.control_is.2)
        (control_found numbered.1 g.control_is.0 (subst (λ ps. IsControlFound ps g.control_is.0) g.parts_are g.control_is.1))

    abbrev pub all_numbers : List ℕ
    all_numbers = network_numbers numbered.1 control known levels

    abbrev pub ordered_parts : List NumberedPartData
    ordered_parts = in_order (λ p. level_at levels p.drives) (tables_among n.parts)

    pub levelled_is : map (λ (t : LevelledTable). slice_get parts t.part) levelled ≡ map Some ordered_parts
    levelled_is = subst (λ ps. map (λ (t : LevelledTable). slice_get parts t.part) levelled ≡ map Some (in_order (λ p. level_at levels p.drives) (tables_among ps))) g.parts_are g.levelled_are

    pub levelled_there : (places : List ℕ) → All (λ t. IsSome (levelled_in_network f places parts t)) levelled
    levelled_there places = levelled_some f places parts ordered_parts levelled levelled_is (tables_some numbered.1 levels places)

    -- the numbers are appended one kind after another
    pub gathered_numbers : {tables : List LevelledTable} {none pins states numbers : List ℕ} → tables ≡ levelled → none ≡ []
        → pins ≡ none ++ pin_numbers control inputs → states ≡ pins ++ map (λ (p : NumberedPartData). p.drives) (latches_among parts)
        → AreOutputs parts tables states numbers → numbers ≡ all_numbers
    gathered_numbers {tables} {none} {pins} {states} {numbers} are_tables is_none are_pins are_states are_numbers =
        subst (λ ts. AreOutputs parts ts states numbers) are_tables are_numbers ordered_parts levelled_is
        ∙ ap (λ l. l ++ map (λ (p : NumberedPartData). p.drives) ordered_parts)
        (are_states ∙ ap (λ ps. pins ++ map (λ (p : NumberedPartData). p.drives) (latches_among ps)) g.parts_are
        ∙ ap (λ l. l ++ map (λ (p : NumberedPartData). p.drives) (latches_among n.parts))
        (are_pins ∙ ap (λ l. l ++ pin_numbers control inputs) is_none ∙ ap (pin_numbers control) g.inputs_are))

    module _ (accepted : (r : Refusal) → HasRefusal f r → ⊥) where
      pub numbers_inside : {bound : ℕ} {numbers : List ℕ} → bound ≡ n.signals → numbers ≡ all_numbers → All (λ x. x < bound) numbers
      numbers_inside {bound} {numbers} bound_is are = subst (λ m. All (λ x. x < m) numbers) (sym bound_is)
          (subst (All (λ x. x < n.signals)) (sym are) (numbers_in numbered.1 control known levels accepted))

      pub numbers_few : {numbers : List ℕ} → numbers ≡ all_numbers → length numbers < 2 ^ 32
      numbers_few are = omega (arith, ap length are, few_numbers numbered.1 control known levels accepted, numbered.1.few)

      pub pins_few : length (pin_numbers control inputs) < 2 ^ 32
      pins_few = omega (
        arith,
        ap (λ l. length (pin_numbers control l)) g.inputs_are,
        length-append (pin_numbers control n.inputs ++ map (λ (p : NumberedPartData). p.drives) (latches_among n.parts)) (map (λ (p : NumberedPartData). p.drives) ordered_parts),
        length-append (pin_numbers control n.inputs) (map (λ (p : NumberedPartData). p.drives) (latches_among n.parts)),
        few_numbers numbered.1 control known levels accepted,
        numbered.1.few,
      )

      -- what was made of all this
      pub record IsMade (outputs numbers places : List ℕ) (d : NetworkData) : Type 0 where
        pub numbers_are : numbers ≡ all_numbers
        pub outputs_all : outputs ≡ n.outputs
        pub places_are : IsRenumbering n.signals numbers places
        pub name_is : d.name ≡ (main_model f).name
        pub names_are : AreNetworkNames n.names numbers d.names
        pub inputs_are : d.inputs ≡ length (pin_numbers control inputs)
        pub outputs_are : d.outputs ≡ map (network_place places) outputs
        pub latches_are : map Some d.latches ≡ map (latch_in_network f places) (latches_among parts)
        pub tables_are : map Some d.tables ≡ map (levelled_in_network f places parts) levelled

      pub made : AreTableLevels n.signals n.parts levels → (outputs numbers places : List ℕ) (d : NetworkData)
          → IsMade outputs numbers places d → IsNetworkOf f d
      made are outputs numbers places d m = built numbered.1 control known levels accepted are places d (record {
        places_are = subst (λ l. IsRenumbering n.signals l places) m.numbers_are m.places_are;
        name_is = m.name_is;
        names_are = subst (λ l. AreNetworkNames n.names l d.names) m.numbers_are m.names_are;
        inputs_are = m.inputs_are ∙ ap (λ l. length (pin_numbers control l)) g.inputs_are;
        outputs_are = m.outputs_are ∙ ap (map (network_place places)) m.outputs_all;
        latches_are = m.latches_are ∙ ap (λ ps. map (latch_in_network f places) (latches_among ps)) g.parts_are;
        tables_are = m.tables_are ∙ tables_at f places parts ordered_parts levelled levelled_is;
      })
