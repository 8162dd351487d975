-- The main model of a file by numbers.
use Rattle.std.proofs.Common.{◌≡◌, ℕ, ◌<◌, ◌-◌, List, [], ◌∷◌, length, Some, ap, arith}
use Rattle.std.specs.Prelude.{◌≢◌, IsSome, slice_get, slice_index_or}
use Rattle.blif_ast.specs.BlifModelData.{BlifModelData}
use Rattle.numbered_file.specs.NumberedData.{NumberedData}
use Rattle.numbered_file.specs.Numbered.{Part, between, file_of, model_by, models_from, models_in, name_of, named, parts_of}
use Rattle.numbered_file.specs.declared.parts.ModelAt.{ModelAt}
use Rattle.numbered_file.proofs.Places.{length-models_in, length-parts_of}
use Rattle.dom_base.proofs.Lists.{length-some}
use Rattle.model_calls.specs.Occurrences.{first_model, main_model}
use Rattle.part_numbers.proofs.CardsOfParts.{some_within}
use Rattle.part_numbers.proofs.WordCards.{front_is}

pub models_there : (d : NumberedData) → (file_of d).models ≢ [] → 0 < length d.models
models_there d some = omega (arith, length-some (models_in d) some, length-models_in d)

pub place_within : (d : NumberedData) (place : ℕ) → IsSome (slice_get (parts_of d) place) → place < length d.parts
place_within d place some = omega (arith, some_within (parts_of d) place some, length-parts_of d)

module _ (names inputs outputs : List (List ℕ)) (parts : List Part) where
  abbrev first : List ModelAt → BlifModelData
  first models = first_model (models_from names inputs outputs parts 0 0 0 models)

  abbrev by : ModelAt → BlifModelData
  by at = model_by (name_of names at.name) at.line (between 0 at.inputs_end inputs) (between 0 at.outputs_end outputs) (between 0 at.parts_end parts)

  main_by : (models : List ModelAt) (at : ModelAt) → slice_get models 0 ≡ Some at → first models ≡ by at
  main_by [] at is = absurd cc
  main_by (m ∷ ms) at is = let same : m ≡ at = cc in ap by same

  output_by : (models : List ModelAt) (index : ℕ) → index < length (first models).outputs → slice_get (first models).outputs index ≡ Some (slice_index_or outputs index [])
  output_by [] index l = absurd (omega (arith, l))
  output_by (m ∷ ms) index l = front_is outputs (m.outputs_end - 0) index l

module _ (d : NumberedData) where
  pub main_is : (at : ModelAt) → slice_get d.models 0 ≡ Some at → main_model (file_of d)
      ≡ model_by (name_of d.names at.name) at.line (between 0 at.inputs_end (named d.names d.inputs)) (between 0 at.outputs_end (named d.names d.outputs))
      (between 0 at.parts_end (parts_of d))
  main_is at is = main_by d.names (named d.names d.inputs) (named d.names d.outputs) (parts_of d) d.models at is

  pub output_is : (index : ℕ) → index < length (main_model (file_of d)).outputs
      → slice_get (main_model (file_of d)).outputs index ≡ Some (slice_index_or (named d.names d.outputs) index [])
  output_is index l = output_by d.names (named d.names d.inputs) (named d.names d.outputs) (parts_of d) d.models index l
