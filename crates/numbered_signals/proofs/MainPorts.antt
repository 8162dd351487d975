-- The ports of the main model by their places among its names.
use Rattle.std.proofs.Common.{◌≡◌, ◌<◌, List, [], ◌∷◌, map, length, Some, ap, sym, ◌∙◌, subst}
use Rattle.std.specs.Prelude.{slice_get}
use Rattle.std.specs.List.{AllByRecursion}
use Rattle.dom_base.proofs.Lists.{slice_get-there}
use Rattle.blif_ast.specs.BlifModelData.{BlifModelData}
use Rattle.model_calls.specs.Occurrences.{first_model, main_model}
use Rattle.numbered_file.specs.NumberedData.{NumberedData}
use Rattle.numbered_file.specs.Numbered.{file_of, models_in, named}
use Rattle.numbered_file.specs.Places.{inputs_at, of_inputs, of_outputs, outputs_at}
use Rattle.numbered_file.proofs.Places.{length-models_in, model_there}
use Rattle.local_names.specs.LocalNames.{AreLocalNames, LocalNamesData}
use Rattle.part_numbers.specs.SignalNumbers.{HasSignalNumber, signal_number}
use Rattle.numbered_signals.specs.ScopeRoots.{HasRoot, ScopeRootsData, names_of_model, local_root, signals_with}
use Rattle.numbered_signals.proofs.NamePlaces.{StandAt, all_rooted, locals_stand, roots_are}

first_is : (models : List BlifModelData) (m : BlifModelData) → slice_get models 0 ≡ Some m → first_model models ≡ m
first_is [] m e = absurd cc
first_is (x ∷ models) m e = cc

module _ (d : NumberedData) (l : LocalNamesData) (names : AreLocalNames d l) (some : 0 < length (models_in d)) where
  in_models : 0 < length d.models
  in_models = subst (λ n. 0 < n) (length-models_in d) some

  inputs_are : (main_model (file_of d)).inputs ≡ named d.names (inputs_at d 0)
  inputs_are = let there = slice_get-there d.models 0 in_models in ap (λ (m : BlifModelData). m.inputs) (first_is (models_in d) _ (model_there d 0 there.0 there.1))

  outputs_are : (main_model (file_of d)).outputs ≡ named d.names (outputs_at d 0)
  outputs_are = let there = slice_get-there d.models 0 in_models in ap (λ (m : BlifModelData). m.outputs) (first_is (models_in d) _ (model_there d 0 there.0 there.1))

  inputs_stand : StandAt (names_of_model d 0) (main_model (file_of d)).inputs (of_inputs d 0 l.inputs)
  inputs_stand = locals_stand d l names 0 (inputs_at d 0) (of_inputs d 0 l.inputs) some (names.inputs 0 in_models) ∙ ap (map Some) (sym inputs_are)

  outputs_stand : StandAt (names_of_model d 0) (main_model (file_of d)).outputs (of_outputs d 0 l.outputs)
  outputs_stand = locals_stand d l names 0 (outputs_at d 0) (of_outputs d 0 l.outputs) some (names.outputs 0 in_models) ∙ ap (map Some) (sym outputs_are)

  module _ (r : ScopeRootsData) where
    pub inputs_rooted : AllByRecursion (HasSignalNumber (signals_with d r) 0 0) (main_model (file_of d)).inputs → AllByRecursion (HasRoot r 0) (of_inputs d 0 l.inputs)
    inputs_rooted have = all_rooted d r 0 0 (main_model (file_of d)).inputs (of_inputs d 0 l.inputs) have inputs_stand

    pub inputs_same : AllByRecursion (HasSignalNumber (signals_with d r) 0 0) (main_model (file_of d)).inputs
        → map (local_root r 0) (of_inputs d 0 l.inputs) ≡ map (signal_number (signals_with d r) 0 0) (main_model (file_of d)).inputs
    inputs_same have = roots_are d r 0 0 (main_model (file_of d)).inputs (of_inputs d 0 l.inputs) have inputs_stand

    pub outputs_rooted : AllByRecursion (HasSignalNumber (signals_with d r) 0 0) (main_model (file_of d)).outputs → AllByRecursion (HasRoot r 0) (of_outputs d 0 l.outputs)
    outputs_rooted have = all_rooted d r 0 0 (main_model (file_of d)).outputs (of_outputs d 0 l.outputs) have outputs_stand

    pub outputs_same : AllByRecursion (HasSignalNumber (signals_with d r) 0 0) (main_model (file_of d)).outputs
        → map (local_root r 0) (of_outputs d 0 l.outputs) ≡ map (signal_number (signals_with d r) 0 0) (main_model (file_of d)).outputs
    outputs_same have = roots_are d r 0 0 (main_model (file_of d)).outputs (of_outputs d 0 l.outputs) have outputs_stand
