-- Where the lists of a part and of a model stand in the lists of a file by numbers, and that they stand in order.
use Rattle.std.proofs.Common.{◌≡◌, ℕ, zero, suc, ◌≤◌, ◌<◌, ◌+◌, ◌-◌, List, [], ◌∷◌, ◌++◌, length, take, drop, refl, sym, ap, ◌∙◌, arith, Some}
use Rattle.std.specs.Prelude.{slice_get, slice_index_or}
use Rattle.std.proofs.lemmas.List.{length-drop, length-take-le, take_all, take_more}
use Rattle.dom_base.proofs.Lists.{AllByRecursion-drop, AllByRecursion-take, drop_next, head_same}
use Rattle.numbered_file.specs.declared.parts.ModelAt.{ModelAt}
use Rattle.numbered_file.specs.declared.parts.PartAt.{PartAt}
use Rattle.numbered_file.specs.NumberedData.{NumberedData}
use Rattle.numbered_file.specs.Numbered.{between, name_of, named, Part, part_by, parts_from, parts_of, model_by, models_from, models_in, AreBelow, IsNumbered, PartsRise, ModelsRise}
use Rattle.numbered_file.specs.OpenLists.{open_lists, words_end, rows_end, inputs_end, outputs_end, parts_end, IsClosed}
use Rattle.numbered_file.specs.Places.{first_word, first_row, first_input, first_output, first_part, words_at, rows_at, inputs_at, outputs_at, IsPartOf}
use Rattle.numbered_file.proofs.PartLists.{named-between, parts-drop, take-get}
use Rattle.numbered_file.proofs.Growth.{length-parts, PartsRise-starts, PartsRise-within, ModelsRise-starts, ModelsRise-within, words_end-push, rows_end-push, inputs_end-push, outputs_end-push, parts_end-push}

-- what is left of a list begins with the item at that place
get-of : {X : Type 0} (xs : List X) (i : ℕ) (x : X) (rest : List X) → drop i xs ≡ x ∷ rest → slice_get xs i ≡ Some x
get-of [] zero x rest e = absurd (cc)
get-of [] (suc i) x rest e = absurd (cc)
get-of (y ∷ xs) zero x rest e = ap Some (head_same e)
get-of (y ∷ xs) (suc i) x rest e = get-of xs i x rest e

-- the last item of a list that has items
pub last-of : {X : Type 0} (xs : List X) (d : X) → 1 ≤ length xs → take (length xs - 1) xs ++ slice_index_or xs (length xs - 1) d ∷ [] ≡ xs
last-of xs d some = sym (take_more xs (length xs - 1) d (omega (arith, some))) ∙ take_all (length xs - 1 + 1) xs (omega (arith, some))

-- a part at a place

module _ (d : NumberedData) (k : ℕ) (part : PartAt) (is : slice_get d.parts k ≡ Some part) where
  pub words_end-there : first_word d (k + 1) ≡ part.words_end
  words_end-there = ap (words_end 0) (take-get d.parts k part is) ∙ words_end-push 0 (take k d.parts) part

  pub rows_end-there : first_row d (k + 1) ≡ part.rows_end
  rows_end-there = ap (rows_end 0) (take-get d.parts k part is) ∙ rows_end-push 0 (take k d.parts) part

  pub part_there : slice_get (parts_of d) k ≡ Some (part_by d.text part.kind part.line (named d.names (words_at d k)) (rows_at d k))
  part_there =
      let words = named d.names d.words in
      let words_are = ap (λ e. between (first_word d k) e words) (sym words_end-there) ∙ sym (named-between d.names (first_word d k) (first_word d (k + 1)) d.words) in
      let rows_are = ap (λ e. between (first_row d k) e d.rows) (sym rows_end-there) in
      get-of (parts_of d) k
      (part_by d.text part.kind part.line (between (first_word d k) part.words_end words) (between (first_row d k) part.rows_end d.rows))
      (parts_from d.text words d.rows part.words_end part.rows_end (drop (k + 1) d.parts))
      (parts-drop d.text words d.rows 0 0 k d.parts ∙ ap (parts_from d.text words d.rows (first_word d k) (first_row d k)) (drop_next d.parts k part is))
      ∙ (λ i. Some (part_by d.text part.kind part.line (words_are i) (rows_are i)))

pub length-parts_of : (d : NumberedData) → length (parts_of d) ≡ length d.parts
length-parts_of d = length-parts d.text (named d.names d.words) d.rows 0 0 d.parts

-- a model at a place

module _ (names inputs outputs : List (List ℕ)) (parts : List Part) where
  pub models-drop : (input output part count : ℕ) (models : List ModelAt)
      → drop count (models_from names inputs outputs parts input output part models)
      ≡ models_from names inputs outputs parts (inputs_end input (take count models)) (outputs_end output (take count models)) (parts_end part (take count models))
      (drop count models)
  models-drop input output part zero models = refl
  models-drop input output part (suc count) [] = refl
  models-drop input output part (suc count) (m ∷ ms) = models-drop m.inputs_end m.outputs_end m.parts_end count ms

  pub length-models : (input output part : ℕ) (models : List ModelAt) → length (models_from names inputs outputs parts input output part models) ≡ length models
  length-models input output part [] = refl
  length-models input output part (m ∷ ms) = ap (λ n. suc n) (length-models m.inputs_end m.outputs_end m.parts_end ms)

module _ (d : NumberedData) (m : ℕ) (at : ModelAt) (is : slice_get d.models m ≡ Some at) where
  pub inputs_end-there : first_input d (m + 1) ≡ at.inputs_end
  inputs_end-there = ap (inputs_end 0) (take-get d.models m at is) ∙ inputs_end-push 0 (take m d.models) at

  pub outputs_end-there : first_output d (m + 1) ≡ at.outputs_end
  outputs_end-there = ap (outputs_end 0) (take-get d.models m at is) ∙ outputs_end-push 0 (take m d.models) at

  pub parts_end-there : first_part d (m + 1) ≡ at.parts_end
  parts_end-there = ap (parts_end 0) (take-get d.models m at is) ∙ parts_end-push 0 (take m d.models) at

  pub model_there : slice_get (models_in d) m ≡ Some (model_by (name_of d.names at.name) at.line (named d.names (inputs_at d m)) (named d.names (outputs_at d m))
      (between (first_part d m) (first_part d (m + 1)) (parts_of d)))
  model_there =
      let inputs = named d.names d.inputs in
      let outputs = named d.names d.outputs in
      let inputs_are = ap (λ e. between (first_input d m) e inputs) (sym inputs_end-there) ∙ sym (named-between d.names (first_input d m) (first_input d (m + 1)) d.inputs) in
      let outputs_are = ap (λ e. between (first_output d m) e outputs) (sym outputs_end-there)
      ∙ sym (named-between d.names (first_output d m) (first_output d (m + 1)) d.outputs) in
      get-of (models_in d) m
      (model_by (name_of d.names at.name) at.line (between (first_input d m) at.inputs_end inputs) (between (first_output d m) at.outputs_end outputs)
      (between (first_part d m) at.parts_end (parts_of d)))
      (models_from d.names inputs outputs (parts_of d) at.inputs_end at.outputs_end at.parts_end (drop (m + 1) d.models))
      (models-drop d.names inputs outputs (parts_of d) 0 0 0 m d.models
      ∙ ap (models_from d.names inputs outputs (parts_of d) (first_input d m) (first_output d m) (first_part d m)) (drop_next d.models m at is))
      ∙ (λ i. Some (model_by (name_of d.names at.name) at.line (inputs_are i) (outputs_are i)
      (between (first_part d m) (sym parts_end-there i) (parts_of d))))

pub length-models_in : (d : NumberedData) → length (models_in d) ≡ length d.models
length-models_in d = length-models d.names (named d.names d.inputs) (named d.names d.outputs) (parts_of d) 0 0 0 d.models

-- parts and models stand in order

itself : (n : ℕ) → n ≤ n
itself n = omega arith

PartsRise-take : (word row k : ℕ) (parts : List PartAt) (words rows : ℕ) → PartsRise word row parts words rows → PartsRise word row (take k parts) words rows
PartsRise-take word row zero parts words rows h = PartsRise-starts word row parts words rows h
PartsRise-take word row (suc k) [] words rows h = h
PartsRise-take word row (suc k) (p ∷ parts) words rows h = (h.0, h.1, PartsRise-take p.words_end p.rows_end k parts words rows h.2)

PartsRise-ends : (word row : ℕ) (parts : List PartAt) (words rows : ℕ) → PartsRise word row parts words rows
    → (word ≤ words_end word parts) × (row ≤ rows_end row parts)
PartsRise-ends word row [] words rows h = (itself word, itself row)
PartsRise-ends word row (p ∷ parts) words rows h =
    let rest = PartsRise-ends p.words_end p.rows_end parts words rows h.2 in (omega (arith, h.0, rest.0), omega (arith, h.1, rest.1))

PartsRise-more : (word row k n : ℕ) (parts : List PartAt) (words rows : ℕ) → k ≤ n → PartsRise word row parts words rows
    → (words_end word (take k parts) ≤ words_end word (take n parts)) × (rows_end row (take k parts) ≤ rows_end row (take n parts))
PartsRise-more word row zero n parts words rows le h = PartsRise-ends word row (take n parts) words rows (PartsRise-take word row n parts words rows h)
PartsRise-more word row (suc k) zero parts words rows le h = absurd (omega (arith, le))
PartsRise-more word row (suc k) (suc n) [] words rows le h = (itself word, itself row)
PartsRise-more word row (suc k) (suc n) (p ∷ parts) words rows le h = PartsRise-more p.words_end p.rows_end k n parts words rows (omega (arith, le)) h.2

ModelsRise-take : (input output part k : ℕ) (models : List ModelAt) (inputs outputs parts : ℕ) → ModelsRise input output part models inputs outputs parts
    → ModelsRise input output part (take k models) inputs outputs parts
ModelsRise-take input output part zero models inputs outputs parts h = ModelsRise-starts input output part models inputs outputs parts h
ModelsRise-take input output part (suc k) [] inputs outputs parts h = h
ModelsRise-take input output part (suc k) (m ∷ ms) inputs outputs parts h =
    (h.0, h.1, h.2, ModelsRise-take m.inputs_end m.outputs_end m.parts_end k ms inputs outputs parts h.3)

ModelsRise-ends : (input output part : ℕ) (models : List ModelAt) (inputs outputs parts : ℕ) → ModelsRise input output part models inputs outputs parts
    → (input ≤ inputs_end input models) × (output ≤ outputs_end output models) × (part ≤ parts_end part models)
ModelsRise-ends input output part [] inputs outputs parts h = (itself input, itself output, itself part)
ModelsRise-ends input output part (m ∷ ms) inputs outputs parts h =
    let rest = ModelsRise-ends m.inputs_end m.outputs_end m.parts_end ms inputs outputs parts h.3 in
    (omega (arith, h.0, rest.0), omega (arith, h.1, rest.1), omega (arith, h.2, rest.2))

ModelsRise-more : (input output part k n : ℕ) (models : List ModelAt) (inputs outputs parts : ℕ) → k ≤ n → ModelsRise input output part models inputs outputs parts
    → (inputs_end input (take k models) ≤ inputs_end input (take n models))
    × (outputs_end output (take k models) ≤ outputs_end output (take n models))
    × (parts_end part (take k models) ≤ parts_end part (take n models))
ModelsRise-more input output part zero n models inputs outputs parts le h =
    ModelsRise-ends input output part (take n models) inputs outputs parts (ModelsRise-take input output part n models inputs outputs parts h)
ModelsRise-more input output part (suc k) zero models inputs outputs parts le h = absurd (omega (arith, le))
ModelsRise-more input output part (suc k) (suc n) [] inputs outputs parts le h = (itself input, itself output, itself part)
ModelsRise-more input output part (suc k) (suc n) (m ∷ ms) inputs outputs parts le h =
    ModelsRise-more m.inputs_end m.outputs_end m.parts_end k n ms inputs outputs parts (omega (arith, le)) h.3

AreBelow-between : (count start end : ℕ) (numbers : List ℕ) → AreBelow count numbers → AreBelow count (between start end numbers)
AreBelow-between count start end numbers h =
    AllByRecursion-take (λ n. n < count) (end - start) (drop start numbers) (AllByRecursion-drop (λ n. n < count) start numbers h)

-- how many items stand from one place up to another of a list
pub length-between : {A : Type 0} (start end : ℕ) (items : List A) → end ≤ length items → length (between start end items) ≡ end - start
length-between start end items within = length-take-le (end - start) (drop start items) (omega (arith, within, length-drop start items))

module _ (d : NumberedData) (h : IsNumbered d) where
  parts_more : (k n : ℕ) → k ≤ n → (first_word d k ≤ first_word d n) × (first_row d k ≤ first_row d n)
  parts_more k n le = PartsRise-more 0 0 k n d.parts (length d.words) (length d.rows) le h.parts

  parts_within : (k : ℕ) → (first_word d k ≤ length d.words) × (first_row d k ≤ length d.rows)
  parts_within k = PartsRise-within 0 0 (take k d.parts) (length d.words) (length d.rows) (PartsRise-take 0 0 k d.parts (length d.words) (length d.rows) h.parts)

  models_more : (m n : ℕ) → m ≤ n → (first_input d m ≤ first_input d n) × (first_output d m ≤ first_output d n) × (first_part d m ≤ first_part d n)
  models_more m n le = ModelsRise-more 0 0 0 m n d.models (length d.inputs) (length d.outputs) (length d.parts) le h.models

  models_within : (m : ℕ) → (first_input d m ≤ length d.inputs) × (first_output d m ≤ length d.outputs) × (first_part d m ≤ length d.parts)
  models_within m = ModelsRise-within 0 0 0 (take m d.models) (length d.inputs) (length d.outputs) (length d.parts)
      (ModelsRise-take 0 0 0 m d.models (length d.inputs) (length d.outputs) (length d.parts) h.models)

  pub first_word-more : (k n : ℕ) → k ≤ n → first_word d k ≤ first_word d n
  first_word-more k n le = (parts_more k n le).0

  pub first_word-rises : (k : ℕ) → first_word d k ≤ first_word d (k + 1)
  first_word-rises k = first_word-more k (k + 1) (omega arith)

  pub first_word-within : (k : ℕ) → first_word d k ≤ length d.words
  first_word-within k = (parts_within k).0

  pub first_row-more : (k n : ℕ) → k ≤ n → first_row d k ≤ first_row d n
  first_row-more k n le = (parts_more k n le).1

  pub first_row-rises : (k : ℕ) → first_row d k ≤ first_row d (k + 1)
  first_row-rises k = first_row-more k (k + 1) (omega arith)

  pub first_row-within : (k : ℕ) → first_row d k ≤ length d.rows
  first_row-within k = (parts_within k).1

  pub first_input-more : (m n : ℕ) → m ≤ n → first_input d m ≤ first_input d n
  first_input-more m n le = (models_more m n le).0

  pub first_input-rises : (m : ℕ) → first_input d m ≤ first_input d (m + 1)
  first_input-rises m = first_input-more m (m + 1) (omega arith)

  pub first_input-within : (m : ℕ) → first_input d m ≤ length d.inputs
  first_input-within m = (models_within m).0

  pub first_output-more : (m n : ℕ) → m ≤ n → first_output d m ≤ first_output d n
  first_output-more m n le = (models_more m n le).1

  pub first_output-rises : (m : ℕ) → first_output d m ≤ first_output d (m + 1)
  first_output-rises m = first_output-more m (m + 1) (omega arith)

  pub first_output-within : (m : ℕ) → first_output d m ≤ length d.outputs
  first_output-within m = (models_within m).1

  pub first_part-more : (m n : ℕ) → m ≤ n → first_part d m ≤ first_part d n
  first_part-more m n le = (models_more m n le).2

  pub first_part-rises : (m : ℕ) → first_part d m ≤ first_part d (m + 1)
  first_part-rises m = first_part-more m (m + 1) (omega arith)

  pub first_part-within : (m : ℕ) → first_part d m ≤ length d.parts
  first_part-within m = (models_within m).2

  -- the parts of a model are parts of the file
  pub part_within : (m k : ℕ) → IsPartOf d m k → k < length d.parts
  part_within m k is = omega (arith, is.1, first_part-within (m + 1))

  -- the words of a part, and the inputs and outputs of a model, are numbers of names
  pub words_below : (k : ℕ) → AreBelow (length d.names) (words_at d k)
  words_below k = AreBelow-between (length d.names) (first_word d k) (first_word d (k + 1)) d.words h.words

  pub inputs_below : (m : ℕ) → AreBelow (length d.names) (inputs_at d m)
  inputs_below m = AreBelow-between (length d.names) (first_input d m) (first_input d (m + 1)) d.inputs h.inputs

  pub outputs_below : (m : ℕ) → AreBelow (length d.names) (outputs_at d m)
  outputs_below m = AreBelow-between (length d.names) (first_output d m) (first_output d (m + 1)) d.outputs h.outputs

  -- how many they are
  pub length-words_at : (k : ℕ) → length (words_at d k) ≡ first_word d (k + 1) - first_word d k
  length-words_at k = length-between (first_word d k) (first_word d (k + 1)) d.words (first_word-within (k + 1))

  pub length-inputs_at : (m : ℕ) → length (inputs_at d m) ≡ first_input d (m + 1) - first_input d m
  length-inputs_at m = length-between (first_input d m) (first_input d (m + 1)) d.inputs (first_input-within (m + 1))

  pub length-outputs_at : (m : ℕ) → length (outputs_at d m) ≡ first_output d (m + 1) - first_output d m
  length-outputs_at m = length-between (first_output d m) (first_output d (m + 1)) d.outputs (first_output-within (m + 1))

-- no part stands behind the last model
pub parts-closed : (d : NumberedData) → IsNumbered d → IsClosed (open_lists d) → first_part d (length d.models) ≡ length d.parts
parts-closed d h closed =
    let end = parts_end 0 d.models in
    let within = (ModelsRise-within 0 0 0 d.models (length d.inputs) (length d.outputs) (length d.parts) h.models).2 in
    let none : length (drop end (parts_of d)) ≡ 0 = ap length closed.parts in
    let count : length (parts_of d) ≡ length d.parts = length-parts d.text (named d.names d.words) d.rows 0 0 d.parts in
    let same : end ≡ length d.parts = omega (arith, within, none, count, length-drop end (parts_of d)) in
    ap (parts_end 0) (take_all (length d.models) d.models (omega arith)) ∙ same
