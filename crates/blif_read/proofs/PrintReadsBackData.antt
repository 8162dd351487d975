-- What the printed lines of a model say: the models, in all but lines.
use Rattle.std.proofs.Common.{◌≡◌, ℕ, Bool, true, false, if◌then◌else◌, List, [], ◌∷◌, ◌++◌, map, refl, ap, ◌∙◌}
use Rattle.std.specs.List.{AllByRecursion, flat_map, take_while}
use Rattle.dom_base.proofs.Lists.{take_while-keep, take_while-stop}
use Rattle.blif_ast.specs.BlifModelData.{BlifModelData}
use Rattle.blif_ast.specs.Printed.{model_lines}
use Rattle.blif_ast.specs.LogicalLines.{LogicalLine}
use Rattle.blif_ast.specs.Cards.{begins, model_card, end_card}
use Rattle.blif_ast.specs.Models.{blif_model, is_inside, models_of}
use Rattle.blif_read.proofs.PrintReadsBackLines.{line_at}
use Rattle.blif_read.proofs.PrintReadsBackParts.{inner_lines, inner_all, model_lines-inner, by_rows}

-- lines with the number 0
abbrev pub zeros : List (List (List ℕ)) → List LogicalLine
zeros all = map (line_at 0) all

pub zeros-append : (xs ys : List (List (List ℕ))) → zeros (xs ++ ys) ≡ zeros xs ++ zeros ys
zeros-append [] ys = refl
zeros-append (x ∷ xs) ys = ap (λ l. line_at 0 x ∷ l) (zeros-append xs ys)

pub zeros_all : (P : LogicalLine → Type 0) (xs : List (List (List ℕ))) → AllByRecursion (λ w. P (line_at 0 w)) xs → AllByRecursion P (zeros xs)
zeros_all P [] h = tt
zeros_all P (x ∷ xs) h = (h.0, zeros_all P xs h.1)

-- a prefix that passes a test, up to a line that doesn't
pub take_while-all : (test : LogicalLine → Bool) (front : List LogicalLine) (line : LogicalLine) (rest : List LogicalLine)
    → AllByRecursion (λ l. test l ≡ true) front → test line ≡ false → take_while test (front ++ line ∷ rest) ≡ front
take_while-all test [] line rest h stop = take_while-stop test line rest stop
take_while-all test (x ∷ front) line rest h stop = take_while-keep test x (front ++ line ∷ rest) h.0 ∙ ap (λ l. x ∷ l) (take_while-all test front line rest h.1 stop)

-- lines that open no model
pub models_of-skip : (front rest : List LogicalLine) → AllByRecursion (λ l. begins model_card l ≡ false) front → models_of (front ++ rest) ≡ models_of rest
models_of-skip [] rest h = refl
models_of-skip (line ∷ front) rest h =
    ap (λ b. if b then blif_model line (take_while is_inside (front ++ rest)) ∷ models_of (front ++ rest) else models_of (front ++ rest)) h.0
    ∙ models_of-skip front rest h.1

inner_inside : (m : BlifModelData) → AllByRecursion (λ l. is_inside l ≡ true) (zeros (inner_lines m))
inner_inside m = zeros_all (λ l. is_inside l ≡ true) (inner_lines m) (inner_all (λ w. is_inside (line_at 0 w) ≡ true) (record {
  inputs = λ _. refl;
  outputs = λ _. refl;
  names = λ _. refl;
  row = by_rows (λ w. is_inside (line_at 0 w) ≡ true) (λ _ _. refl) (λ _ _. refl) (λ _ _. refl);
  latch = λ _. refl;
  subckt = λ _. refl;
}) m)

inner_opens_none : (m : BlifModelData) → AllByRecursion (λ l. begins model_card l ≡ false) (zeros (inner_lines m))
inner_opens_none m = zeros_all (λ l. begins model_card l ≡ false) (inner_lines m) (inner_all (λ w. begins model_card (line_at 0 w) ≡ false) (record {
  inputs = λ _. refl;
  outputs = λ _. refl;
  names = λ _. refl;
  row = by_rows (λ w. begins model_card (line_at 0 w) ≡ false) (λ _ _. refl) (λ _ _. refl) (λ _ _. refl);
  latch = λ _. refl;
  subckt = λ _. refl;
}) m)

-- the models of printed models, each by its own lines
pub models_printed : (models : List BlifModelData)
    → models_of (zeros (flat_map model_lines models)) ≡ map (λ m. blif_model (line_at 0 (model_card ∷ m.name ∷ [])) (zeros (inner_lines m))) models
models_printed [] = refl
models_printed (m ∷ models) =
    let front = zeros (inner_lines m) in
    let rest = zeros (flat_map model_lines models) in
    let head = line_at 0 (model_card ∷ m.name ∷ []) in
    let last = line_at 0 (end_card ∷ []) in
    ap (λ l. models_of (zeros l)) (model_lines-inner m (flat_map model_lines models))
    ∙ ap (λ l. models_of (head ∷ l)) (zeros-append (inner_lines m) ((end_card ∷ []) ∷ flat_map model_lines models))
    ∙ ap (λ l. blif_model head l ∷ models_of (front ++ last ∷ rest)) (take_while-all is_inside front last rest (inner_inside m) refl)
    ∙ ap (λ l. blif_model head front ∷ l) (models_of-skip front (last ∷ rest) (inner_opens_none m))
    ∙ ap (λ l. blif_model head front ∷ l) (models_printed models)
