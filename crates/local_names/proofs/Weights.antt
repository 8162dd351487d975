-- What the parts of a model count for a limit is what the model counts.
use Rattle.std.proofs.Common.{◌≡◌, ℕ, ◌≤◌, ◌<◌, ◌+◌, ◌*◌, ◌-◌, Bool, List, [], ◌∷◌, ◌++◌, length, drop, take, max, min, Some, refl, ap, sym, ◌∙◌, arith}
use Rattle.std.specs.Prelude.{slice_get}
use Rattle.std.specs.List.{filter_map, sum_by}
use Rattle.std.proofs.lemmas.List.{length-map, length-take}
use Rattle.std.proofs.lemmas.List.Sums.{sum_by-append, sum_by-cons}
use Rattle.std.proofs.lemmas.Option.{get_or_from_slice_get, slice_get_within}
use Rattle.dom_base.proofs.Lists.{map-push, slice_get-there}
use Rattle.blif_ast.specs.BlifModelData.{BlifModelData}
use Rattle.numbered_file.specs.declared.parts.ModelAt.{ModelAt}
use Rattle.numbered_file.specs.declared.parts.PartAt.{PartAt}
use Rattle.blif_ast.specs.Models.{row_at}
use Rattle.numbered_file.specs.NumberedData.{NumberedData}
use Rattle.numbered_file.specs.Numbered.{Part, TablePart, LatchPart, InstancePart, between, file_of, latch_in, model_by, models_in, name_of, named, part_by, parts_of, table_by, table_in}
use Rattle.numbered_file.specs.Places.{inputs_at, outputs_at, rows_at, words_at}
use Rattle.numbered_file.proofs.Places.{length-models_in, length-parts_of, model_there, part_there}
use Rattle.numbered_file.proofs.PartLists.{take-get}
use Rattle.graph_order.specs.WalkSums.{largest_u64}
use Rattle.local_names.specs.LocalNames.{AreLocalNames, LocalNamesData, names_in}
use Rattle.local_names.specs.PartNames.{parts_at}
use Rattle.local_names.specs.PartWeights.{model_part_weight, part_weight}
use Rattle.local_names.proofs.Gathered.{between-next}
use Rattle.model_calls.specs.declared.fault.Limit.{Limit}
use Rattle.model_calls.specs.declared.fault.Limit.TheVariants.{Signals, Letters, Sinks}
use Rattle.model_calls.specs.Occurrences.{main_model}
use Rattle.network.proofs.Lists.{get_map, get_of_map}
use Rattle.part_numbers.specs.NetworkSizes.{letters_of_table, model_weight, model_weights}
use Rattle.part_numbers.specs.SignalNumbers.{model_names}

letters_are : (parts : List Part) → sum_by (part_weight Letters) parts ≡ sum_by letters_of_table (filter_map table_in parts)
letters_are [] = refl
letters_are (TablePart table ∷ parts) = omega (
  arith,
  sum_by-cons (part_weight Letters) (TablePart table) parts,
  sum_by-cons letters_of_table table (filter_map table_in parts),
  letters_are parts,
)
letters_are (LatchPart latch ∷ parts) = omega (arith, sum_by-cons (part_weight Letters) (LatchPart latch) parts, letters_are parts)
letters_are (InstancePart instance ∷ parts) = omega (arith, sum_by-cons (part_weight Letters) (InstancePart instance) parts, letters_are parts)

latches_are : (parts : List Part) → sum_by (part_weight Sinks) parts ≡ length (filter_map latch_in parts)
latches_are [] = refl
latches_are (TablePart table ∷ parts) = omega (arith, sum_by-cons (part_weight Sinks) (TablePart table) parts, latches_are parts)
latches_are (LatchPart latch ∷ parts) = omega (arith, sum_by-cons (part_weight Sinks) (LatchPart latch) parts, latches_are parts)
latches_are (InstancePart instance ∷ parts) = omega (arith, sum_by-cons (part_weight Sinks) (InstancePart instance) parts, latches_are parts)

module _ (d : NumberedData) (m : ℕ) (at : ModelAt) (model : BlifModelData) (is : slice_get d.models m ≡ Some at) (there : slice_get (models_in d) m ≡ Some model) where
  abbrev whole : BlifModelData
  whole = model_by (name_of d.names at.name) at.line (named d.names (inputs_at d m)) (named d.names (outputs_at d m)) (parts_at d m)

  model_is : model ≡ whole
  model_is = let e : Some model ≡ Some whole = sym there ∙ model_there d m at is in cc

  pub letters-of_model : model_part_weight Letters d m ≡ model_weight Letters model
  letters-of_model = letters_are (parts_at d m) ∙ ap (model_weight Letters) (sym model_is)

  pub latches-of_model : model_part_weight Sinks d m ≡ model_weight Sinks model
  latches-of_model = latches_are (parts_at d m) ∙ ap (model_weight Sinks) (sym model_is)

-- the names of a model by numbers are as many as its names
pub names-count : (d : NumberedData) (l : LocalNamesData) (m : ℕ) (model : BlifModelData) → AreLocalNames d l → slice_get (models_in d) m ≡ Some model
    → length (names_in l m) ≡ length (model_names model)
names-count d l m model are there =
    let at = get_map model_names (models_in d) m model there in
    let found = get_of_map (named d.names) l.models m (model_names model) (ap (λ ns. slice_get ns m) are.models ∙ at) in
    ap length (get_or_from_slice_get l.models m found.0 [] found.1) ∙ sym (length-map found.0 (name_of d.names)) ∙ ap length found.2

-- what a model counts by its names and by its parts
module _ (d : NumberedData) (m count : ℕ) (limit : Limit) (model : BlifModelData) (there : slice_get (models_in d) m ≡ Some model) where
  pub weighed-by_names : (l : LocalNamesData) → AreLocalNames d l → limit ≡ Signals → count ≡ length (names_in l m) → count ≤ largest_u64
      → count ≡ min (model_weight limit model) largest_u64
  weighed-by_names l are kind is few =
      let weight : model_weight Signals model ≡ count = sym (is ∙ names-count d l m model are there) in
      let whole : count ≡ min (model_weight Signals model) largest_u64 = omega (arith, weight, few) in
      whole ∙ ap (λ k. min (model_weight k model) largest_u64) (sym kind)

  module _ (within : m < length d.models) where
    pub weighed-by_letters : limit ≡ Letters → count ≡ min (model_part_weight Letters d m) largest_u64 → count ≡ min (model_weight limit model) largest_u64
    weighed-by_letters kind is =
        let at = slice_get-there d.models m within in
        is ∙ ap (λ n. min n largest_u64) (letters-of_model d m at.0 model at.1 there) ∙ ap (λ k. min (model_weight k model) largest_u64) (sym kind)

    pub weighed-by_latches : limit ≡ Sinks → count ≡ min (model_part_weight Sinks d m) largest_u64 → count ≡ min (model_weight limit model) largest_u64
    weighed-by_latches kind is =
        let at = slice_get-there d.models m within in
        is ∙ ap (λ n. min n largest_u64) (latches-of_model d m at.0 model at.1 there) ∙ ap (λ k. min (model_weight k model) largest_u64) (sym kind)

-- one model more
pub weights-more : (d : NumberedData) (limit : Limit) (m weight : ℕ) (before after : List ℕ) → m < length d.models
    → ((model : BlifModelData) → slice_get (models_in d) m ≡ Some model → weight ≡ min (model_weight limit model) largest_u64)
    → before ≡ model_weights limit (take m (models_in d)) → after ≡ before ++ weight ∷ [] → after ≡ model_weights limit (take (m + 1) (models_in d))
weights-more d limit m weight before after within weighs so_far is =
    let model = slice_get-there (models_in d) m (omega (arith, within, length-models_in d)) in
    is ∙ (λ i. so_far i ++ weighs model.0 model.1 i ∷ [])
    ∙ sym (map-push (λ k. min (model_weight limit k) largest_u64) (take m (models_in d)) model.0)
    ∙ ap (model_weights limit) (sym (take-get (models_in d) m model.0 model.1))

-- the outputs of the main model
pub main-outputs : (d : NumberedData) → slice_get (models_in d) 0 ≡ Some (main_model (file_of d)) → length (outputs_at d 0) ≡ length (main_model (file_of d)).outputs
main-outputs d main =
    let within = slice_get_within (models_in d) 0 (main_model (file_of d)) main in
    let at = slice_get-there d.models 0 (omega (arith, within, length-models_in d)) in
    let same : main_model (file_of d) ≡ whole d 0 at.0 (main_model (file_of d)) at.1 main = model_is d 0 at.0 (main_model (file_of d)) at.1 main in
    sym (length-map (outputs_at d 0) (name_of d.names)) ∙ ap (λ (m : BlifModelData). length m.outputs) (sym same)

-- the letters of a table by its words
pub letters-of_table : (text : List ℕ) (on : Bool) (line : ℕ) (words : List (List ℕ)) (rows : List ℕ)
    → letters_of_table (table_by text on line words rows) ≡ (length words - 1 + 1) * (length rows + 1)
letters-of_table text on line words rows =
    let width : length (take (length words - 1) words) ≡ length words - 1 = omega (arith, length-take (length words - 1) words) in
    (λ i. (width i + 1) * (length-map rows (row_at text (length words - 1)) i + 1))

-- what the parts of a model count up to a place
pub record AreWeighed (d : NumberedData) (limit : Limit) (first end place total : ℕ) : Type 0 where
  pub least : first ≤ place
  pub most : place ≤ max first end
  pub total_is : total ≡ min (sum_by (part_weight limit) (between first place (parts_of d))) largest_u64

pub weighed-none : (d : NumberedData) (limit : Limit) (first end : ℕ) → AreWeighed d limit first end first 0
weighed-none d limit first end = record {
  least = omega arith;
  most = omega arith;
  total_is = ap (λ n. min (sum_by (part_weight limit) (take n (drop first (parts_of d)))) largest_u64) (let z : 0 ≡ first - first = omega arith in z);
}

pub weighed-more : (d : NumberedData) (limit : Limit) (first end place total weight after : ℕ)
    → AreWeighed d limit first end place total → place < end → place < length d.parts
    → ((part : Part) → slice_get (parts_of d) place ≡ Some part → weight ≡ min (part_weight limit part) largest_u64)
    → after ≡ min (total + weight) largest_u64 → AreWeighed d limit first end (place + 1) after
weighed-more d limit first end place total weight after so_far l within weighs sum =
    let part = slice_get-there (parts_of d) place (omega (arith, within, length-parts_of d)) in
    record {
      least = omega (arith, so_far.least);
      most = omega (arith, l);
      total_is = omega (
        arith,
        sum,
        weighs part.0 part.1,
        so_far.total_is,
        ap (sum_by (part_weight limit)) (between-next first place (parts_of d) part.0 so_far.least part.1),
        sum_by-append (part_weight limit) (between first place (parts_of d)) (part.0 ∷ []),
        sum_by-cons (part_weight limit) part.0 [],
      );
    }

-- a part that stands at a place
pub weighed-part : (d : NumberedData) (limit : Limit) (place weight : ℕ) (at : PartAt) → slice_get d.parts place ≡ Some at
    → ((text : List ℕ) (line : ℕ) (names : List (List ℕ)) → length names ≡ length (words_at d place)
    → weight ≡ min (part_weight limit (part_by text at.kind line names (rows_at d place))) largest_u64)
    → (part : Part) → slice_get (parts_of d) place ≡ Some part → weight ≡ min (part_weight limit part) largest_u64
weighed-part d limit place weight at is weighs part there =
    let this = part_by d.text at.kind at.line (named d.names (words_at d place)) (rows_at d place) in
    let same : this ≡ part = let e : Some this ≡ Some part = sym (part_there d place at is) ∙ there in cc in
    weighs d.text at.line (named d.names (words_at d place)) (length-map (words_at d place) (name_of d.names))
    ∙ ap (λ p. min (part_weight limit p) largest_u64) same

pub weighed-all : (d : NumberedData) (limit : Limit) (first end place total : ℕ) → AreWeighed d limit first end place total → end ≤ place
    → total ≡ min (sum_by (part_weight limit) (between first end (parts_of d))) largest_u64
weighed-all d limit first end place total w l = w.total_is
    ∙ ap (λ n. min (sum_by (part_weight limit) (take n (drop first (parts_of d)))) largest_u64) (let z : place - first ≡ end - first = omega (arith, w.least, w.most, l) in z)
