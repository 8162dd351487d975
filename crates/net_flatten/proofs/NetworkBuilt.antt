-- The network of a file, from its numbers in order and what has their places.
use Rattle.std.proofs.Common.{◌≡◌, ℕ, ◌<◌, ◌≤◌, List, [], length, map, Option, Some, ap, ◌∙◌, subst, arith}
use Rattle.std.specs.Prelude.{All, Contains, slice_get}
use Rattle.std.proofs.lemmas.List.Elements.{All-from_recursion}
use Rattle.dom_base.proofs.Lists.{AllByRecursion-from_places, Contains-slice_get}
use Rattle.blif_ast.specs.BlifFileData.{BlifFileData}
use Rattle.model_calls.specs.declared.fault.FlatKind.TheVariants.{DrivenTwice}
use Rattle.net_flatten.specs.Dependences.{AreTableLevels}
use Rattle.model_calls.specs.Ends.{output_of}
use Rattle.net_flatten.specs.Flattening.{IsNetworkOf}
use Rattle.network.specs.NetworkData.{NetworkData}
use Rattle.net_flatten.specs.NetworkNames.{AreNetworkNames}
use Rattle.net_flatten.specs.NetworkNumbers.{IsRenumbering, latches_among, pin_numbers}
use Rattle.net_flatten.specs.NetworkParts.{latch_in_network, network_place, table_in_network}
use Rattle.part_numbers.specs.NumberedFiles.{IsNumberedFile, NumberedFileData}
use Rattle.model_calls.specs.Numbering.{IsLeastPrefixAmong, letters_w, pins}
use Rattle.model_calls.specs.Occurrences.{main_model, names_of}
use Rattle.model_calls.specs.Refusal.{Refusal, At}
use Rattle.model_calls.specs.Refusals.{HasRefusal}
use Rattle.model_calls.specs.Signals.{Signal, signal_of}
use Rattle.model_calls.proofs.Drivers.{numbered_apart}
use Rattle.model_calls.proofs.Fitting.{fits}
use Rattle.net_flatten.proofs.Kept.{same_length}
use Rattle.net_flatten.proofs.NetworkLevels.{level_of, levelling}
use Rattle.net_flatten.proofs.NetworkNames.{least_of_unique, names_by_signals}
use Rattle.net_flatten.proofs.NetworkOrder.{IsControlNumber, network_numbers, network_signals, numbers_stand, ordered, pins_alike}
use Rattle.net_flatten.proofs.NetworkParts.{latches_stand, outputs_stand, tables_stand}
use Rattle.part_numbers.proofs.NumberedEnds.{numbers_within, signal_at}

module _ {f : BlifFileData} {all : List Signal} {n : NumberedFileData} (is : IsNumberedFile f all n) (control : Option ℕ) (known : IsControlNumber is control) (levels : List ℕ)
    (accepted : (r : Refusal) → HasRefusal f r → ⊥) where
  abbrev numbers : List ℕ
  numbers = network_numbers is control known levels

  abbrev by_number : List Signal
  by_number = network_signals is control known levels

  pub numbers_in : All (λ x. x < n.signals) numbers
  numbers_in = subst (λ m. All (λ x. x < m) numbers) is.count
      (All-from_recursion (λ x. x < length all) numbers (numbers_within all numbers by_number (numbers_stand is control known levels)))

  -- the numbers of the network all differ, so there are no more than signals
  pub few_numbers : length numbers ≤ n.signals
  few_numbers =
      let stand = numbers_stand is control known levels in
      let few = fits by_number all (numbered_apart f accepted (λ t. level_of is levels (output_of t))) (AllByRecursion-from_places (Contains all) by_number (λ k s at.
      let h = signal_at all numbers by_number k s stand at in
      Contains-slice_get all h.0 s h.2)) in
      omega (arith, few, same_length (slice_get all) Some numbers by_number stand, is.count)

  count_pins : length (pin_numbers control n.inputs) ≡ length (pins f)
  count_pins = same_length (slice_get all) (λ name. Some (signal_of [] name)) (pin_numbers control n.inputs) (pins f) (pins_alike is control known levels)

  -- the parts of a network by the places of numbers
  pub record IsBuilt (places : List ℕ) (d : NetworkData) : Type 0 where
    pub places_are : IsRenumbering n.signals numbers places
    pub name_is : d.name ≡ (main_model f).name
    pub names_are : AreNetworkNames n.names numbers d.names
    pub inputs_are : d.inputs ≡ length (pin_numbers control n.inputs)
    pub outputs_are : d.outputs ≡ map (network_place places) n.outputs
    pub latches_are : map Some d.latches ≡ map (latch_in_network f places) (latches_among n.parts)
    pub tables_are : map Some d.tables ≡ map (table_in_network f places) (ordered is control known levels)

  pub built : AreTableLevels n.signals n.parts levels → (places : List ℕ) (d : NetworkData) → IsBuilt places d → IsNetworkOf f d
  built are places d b = record {
    accepted = accepted;
    level = level_of is levels;
    levels = levelling is levels (λ line name. accepted (At DrivenTwice line name)) are;
    width = b.names_are.width;
    prefix = (least_of_unique (names_of (main_model f))).0 (subst (λ names. IsLeastPrefixAmong names b.names_are.width) is.names b.names_are.prefix);
    network = record {
      name_is = b.name_is;
      names_are = b.names_are.names_are
          ∙ names_by_signals n.names (letters_w b.names_are.width) all is.main_first is.others_below numbers by_number (numbers_stand is control known levels);
      inputs_are = b.inputs_are ∙ count_pins;
      outputs_are = ap (map (slice_get by_number)) b.outputs_are ∙ outputs_stand is control known levels accepted places b.places_are;
      latches_are = latches_stand is control known levels accepted places b.places_are d.latches b.latches_are;
      tables_are = tables_stand is control known levels accepted places b.places_are d.tables b.tables_are;
    };
  }
