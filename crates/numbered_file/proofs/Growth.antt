-- Lists of a file by numbers only grow at their ends, and what stood in them before stays what it was.
use Rattle.std.proofs.Common.{◌≡◌, ℕ, suc, ◌≤◌, ◌<◌, ◌-◌, List, [], ◌∷◌, ◌++◌, length, take, drop, refl, ap, ◌∙◌, arith}
use Rattle.std.specs.List.{AllByRecursion}
use Rattle.std.proofs.lemmas.List.{length-append, length-drop, take-append-le, drop-append-le, take_rest, get_or_append_left}
use Rattle.dom_base.proofs.Lists.{AllByRecursion-weaker}
use Rattle.numbered_file.specs.declared.parts.ModelAt.{ModelAt}
use Rattle.numbered_file.specs.declared.parts.PartAt.{PartAt}
use Rattle.numbered_file.specs.Numbered.{between, name_of, named, Part, part_by, parts_from, model_by, models_from, PartsRise, ModelsRise, AreBelow}
use Rattle.numbered_file.specs.OpenLists.{words_end, rows_end, inputs_end, outputs_end, parts_end}

-- items within a list that grows
pub between-grows : {A : Type 0} (start end : ℕ) (items more : List A) → start ≤ end → end ≤ length items
    → between start end (items ++ more) ≡ between start end items
between-grows start end items more rise within =
    ap (take (end - start)) (drop-append-le start items more (omega (arith, rise, within)))
    ∙ take-append-le (end - start) (drop start items) more (omega (arith, length-drop start items, rise, within))

-- the items up to the end
pub between-last : {A : Type 0} (start end : ℕ) (items : List A) → end ≡ length items → between start end items ≡ drop start items
between-last start end items is = ap (λ e. take (e - start) (drop start items)) is ∙ take_rest items start

name-grows : (names more : List (List ℕ)) (number : ℕ) → number < length names → name_of (names ++ more) number ≡ name_of names number
name-grows names more number below = get_or_append_left names more [] number below

pub named-grows : (names more : List (List ℕ)) (numbers : List ℕ) → AreBelow (length names) numbers
    → named (names ++ more) numbers ≡ named names numbers
named-grows names more [] h = refl
named-grows names more (number ∷ numbers) h = λ i. name-grows names more number h.0 i ∷ named-grows names more numbers h.1 i

pub AreBelow-grows : (names more : List (List ℕ)) (numbers : List ℕ) → AreBelow (length names) numbers → AreBelow (length (names ++ more)) numbers
AreBelow-grows names more numbers h =
    AllByRecursion-weaker (λ n. n < length names) (λ n. n < length (names ++ more)) (λ n lt. omega (arith, lt, length-append names more)) numbers h

-- parts

pub PartsRise-within : (word row : ℕ) (parts : List PartAt) (words rows : ℕ) → PartsRise word row parts words rows
    → (words_end word parts ≤ words) × (rows_end row parts ≤ rows)
PartsRise-within word row [] words rows h = h
PartsRise-within word row (part ∷ parts) words rows h = PartsRise-within part.words_end part.rows_end parts words rows h.2

pub PartsRise-starts : (word row : ℕ) (parts : List PartAt) (words rows : ℕ) → PartsRise word row parts words rows → (word ≤ words) × (row ≤ rows)
PartsRise-starts word row [] words rows h = h
PartsRise-starts word row (part ∷ parts) words rows h =
    let rest = PartsRise-starts part.words_end part.rows_end parts words rows h.2 in (omega (arith, h.0, rest.0), omega (arith, h.1, rest.1))

pub PartsRise-grows : (word row : ℕ) (parts : List PartAt) (words rows more_words more_rows : ℕ) → words ≤ more_words → rows ≤ more_rows
    → PartsRise word row parts words rows → PartsRise word row parts more_words more_rows
PartsRise-grows word row [] words rows more_words more_rows w r h = (omega (arith, w, h.0), omega (arith, r, h.1))
PartsRise-grows word row (part ∷ parts) words rows more_words more_rows w r h =
    (h.0, h.1, PartsRise-grows part.words_end part.rows_end parts words rows more_words more_rows w r h.2)

pub PartsRise-push : (word row : ℕ) (parts : List PartAt) (part : PartAt) (words rows : ℕ) → PartsRise word row parts words rows
    → part.words_end ≡ words → part.rows_end ≡ rows → PartsRise word row (parts ++ part ∷ []) words rows
PartsRise-push word row [] part words rows h w r = (omega (arith, h.0, w), omega (arith, h.1, r), (omega (arith, w), omega (arith, r)))
PartsRise-push word row (p ∷ parts) part words rows h w r = (h.0, h.1, PartsRise-push p.words_end p.rows_end parts part words rows h.2 w r)

pub words_end-push : (word : ℕ) (parts : List PartAt) (part : PartAt) → words_end word (parts ++ part ∷ []) ≡ part.words_end
words_end-push word [] part = refl
words_end-push word (p ∷ parts) part = words_end-push p.words_end parts part

pub rows_end-push : (row : ℕ) (parts : List PartAt) (part : PartAt) → rows_end row (parts ++ part ∷ []) ≡ part.rows_end
rows_end-push row [] part = refl
rows_end-push row (p ∷ parts) part = rows_end-push p.rows_end parts part

pub parts-grow : (text : List ℕ) (words more_words : List (List ℕ)) (rows more_rows : List ℕ) (word row : ℕ) (parts : List PartAt)
    → PartsRise word row parts (length words) (length rows)
    → parts_from text (words ++ more_words) (rows ++ more_rows) word row parts ≡ parts_from text words rows word row parts
parts-grow text words more_words rows more_rows word row [] h = refl
parts-grow text words more_words rows more_rows word row (part ∷ parts) h =
    let within = PartsRise-starts part.words_end part.rows_end parts (length words) (length rows) h.2 in
    λ i. part_by text part.kind part.line (between-grows word part.words_end words more_words h.0 within.0 i) (between-grows row part.rows_end rows more_rows h.1 within.1 i)
    ∷ parts-grow text words more_words rows more_rows part.words_end part.rows_end parts h.2 i

pub parts-push : (text : List ℕ) (words : List (List ℕ)) (rows : List ℕ) (word row : ℕ) (parts : List PartAt) (part : PartAt)
    → parts_from text words rows word row (parts ++ part ∷ [])
    ≡ parts_from text words rows word row parts
    ++ part_by text part.kind part.line (between (words_end word parts) part.words_end words) (between (rows_end row parts) part.rows_end rows) ∷ []
parts-push text words rows word row [] part = refl
parts-push text words rows word row (p ∷ parts) part =
    ap (λ l. part_by text p.kind p.line (between word p.words_end words) (between row p.rows_end rows) ∷ l) (parts-push text words rows p.words_end p.rows_end parts part)

pub length-parts : (text : List ℕ) (words : List (List ℕ)) (rows : List ℕ) (word row : ℕ) (parts : List PartAt)
    → length (parts_from text words rows word row parts) ≡ length parts
length-parts text words rows word row [] = refl
length-parts text words rows word row (p ∷ parts) = ap (λ n. suc n) (length-parts text words rows p.words_end p.rows_end parts)

-- models

pub ModelsRise-within : (input output part : ℕ) (models : List ModelAt) (inputs outputs parts : ℕ) → ModelsRise input output part models inputs outputs parts
    → (inputs_end input models ≤ inputs) × (outputs_end output models ≤ outputs) × (parts_end part models ≤ parts)
ModelsRise-within input output part [] inputs outputs parts h = h
ModelsRise-within input output part (m ∷ ms) inputs outputs parts h = ModelsRise-within m.inputs_end m.outputs_end m.parts_end ms inputs outputs parts h.3

pub ModelsRise-starts : (input output part : ℕ) (models : List ModelAt) (inputs outputs parts : ℕ) → ModelsRise input output part models inputs outputs parts
    → (input ≤ inputs) × (output ≤ outputs) × (part ≤ parts)
ModelsRise-starts input output part [] inputs outputs parts h = h
ModelsRise-starts input output part (m ∷ ms) inputs outputs parts h =
    let rest = ModelsRise-starts m.inputs_end m.outputs_end m.parts_end ms inputs outputs parts h.3 in
    (omega (arith, h.0, rest.0), omega (arith, h.1, rest.1), omega (arith, h.2, rest.2))

pub ModelsRise-grows : (input output part : ℕ) (models : List ModelAt) (inputs outputs parts more_inputs more_outputs more_parts : ℕ)
    → inputs ≤ more_inputs → outputs ≤ more_outputs → parts ≤ more_parts
    → ModelsRise input output part models inputs outputs parts → ModelsRise input output part models more_inputs more_outputs more_parts
ModelsRise-grows input output part [] inputs outputs parts more_inputs more_outputs more_parts i o p h =
    (omega (arith, i, h.0), omega (arith, o, h.1), omega (arith, p, h.2))
ModelsRise-grows input output part (m ∷ ms) inputs outputs parts more_inputs more_outputs more_parts i o p h =
    (h.0, h.1, h.2, ModelsRise-grows m.inputs_end m.outputs_end m.parts_end ms inputs outputs parts more_inputs more_outputs more_parts i o p h.3)

pub ModelsRise-push : (input output part : ℕ) (models : List ModelAt) (model : ModelAt) (inputs outputs parts : ℕ) → ModelsRise input output part models inputs outputs parts
    → model.inputs_end ≡ inputs → model.outputs_end ≡ outputs → model.parts_end ≡ parts
    → ModelsRise input output part (models ++ model ∷ []) inputs outputs parts
ModelsRise-push input output part [] model inputs outputs parts h i o p =
    (omega (arith, h.0, i), omega (arith, h.1, o), omega (arith, h.2, p), (omega (arith, i), omega (arith, o), omega (arith, p)))
ModelsRise-push input output part (m ∷ ms) model inputs outputs parts h i o p =
    (h.0, h.1, h.2, ModelsRise-push m.inputs_end m.outputs_end m.parts_end ms model inputs outputs parts h.3 i o p)

pub inputs_end-push : (input : ℕ) (models : List ModelAt) (model : ModelAt) → inputs_end input (models ++ model ∷ []) ≡ model.inputs_end
inputs_end-push input [] model = refl
inputs_end-push input (m ∷ ms) model = inputs_end-push m.inputs_end ms model

pub outputs_end-push : (output : ℕ) (models : List ModelAt) (model : ModelAt) → outputs_end output (models ++ model ∷ []) ≡ model.outputs_end
outputs_end-push output [] model = refl
outputs_end-push output (m ∷ ms) model = outputs_end-push m.outputs_end ms model

pub parts_end-push : (part : ℕ) (models : List ModelAt) (model : ModelAt) → parts_end part (models ++ model ∷ []) ≡ model.parts_end
parts_end-push part [] model = refl
parts_end-push part (m ∷ ms) model = parts_end-push m.parts_end ms model

pub models-grow : (names more : List (List ℕ)) (inputs more_inputs outputs more_outputs : List (List ℕ)) (parts more_parts : List Part)
    (input output part : ℕ) (models : List ModelAt)
    → AllByRecursion (λ m. m.name < length names) models → ModelsRise input output part models (length inputs) (length outputs) (length parts)
    → models_from (names ++ more) (inputs ++ more_inputs) (outputs ++ more_outputs) (parts ++ more_parts) input output part models
    ≡ models_from names inputs outputs parts input output part models
models-grow names more inputs more_inputs outputs more_outputs parts more_parts input output part [] below h = refl
models-grow names more inputs more_inputs outputs more_outputs parts more_parts input output part (m ∷ ms) below h =
    let within = ModelsRise-starts m.inputs_end m.outputs_end m.parts_end ms (length inputs) (length outputs) (length parts) h.3 in
    λ i. model_by (name-grows names more m.name below.0 i) m.line
    (between-grows input m.inputs_end inputs more_inputs h.0 within.0 i)
    (between-grows output m.outputs_end outputs more_outputs h.1 within.1 i)
    (between-grows part m.parts_end parts more_parts h.2 within.2 i)
    ∷ models-grow names more inputs more_inputs outputs more_outputs parts more_parts m.inputs_end m.outputs_end m.parts_end ms below.1 h.3 i

pub models-push : (names inputs outputs : List (List ℕ)) (parts : List Part) (input output part : ℕ) (models : List ModelAt) (model : ModelAt)
    → models_from names inputs outputs parts input output part (models ++ model ∷ [])
    ≡ models_from names inputs outputs parts input output part models
    ++ model_by (name_of names model.name) model.line (between (inputs_end input models) model.inputs_end inputs)
    (between (outputs_end output models) model.outputs_end outputs) (between (parts_end part models) model.parts_end parts) ∷ []
models-push names inputs outputs parts input output part [] model = refl
models-push names inputs outputs parts input output part (m ∷ ms) model =
    ap (λ l. model_by (name_of names m.name) m.line (between input m.inputs_end inputs) (between output m.outputs_end outputs) (between part m.parts_end parts) ∷ l)
    (models-push names inputs outputs parts m.inputs_end m.outputs_end m.parts_end ms model)

-- there are models where there are cards of them
pub models-none : (names inputs outputs : List (List ℕ)) (parts : List Part) (input output part : ℕ) (models : List ModelAt)
    → models_from names inputs outputs parts input output part models ≡ [] → models ≡ []
models-none names inputs outputs parts input output part [] none = refl
models-none names inputs outputs parts input output part (m ∷ ms) none = absurd (cc)
