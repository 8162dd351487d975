-- The lines of a printed model between its first and its last: what holds of each of them.
use Rattle.std.proofs.Common.{◌≡◌, ℕ, Bool, true, false, List, [], ◌∷◌, ◌++◌, map, ap, append_assoc}
use Rattle.std.specs.List.{AllByRecursion, flat_map}
use Rattle.dom_base.proofs.Lists.{AllByRecursion-append}
use Rattle.blif_ast.specs.declared.letter.Letter.{Letter}
use Rattle.blif_ast.specs.declared.letter.Letter.TheVariants.{Zero, One, Any}
use Rattle.blif_ast.specs.declared.latch.Latch.{Latch}
use Rattle.blif_ast.specs.TableData.{TableData}
use Rattle.blif_ast.specs.InstanceData.{InstanceData}
use Rattle.blif_ast.specs.BlifModelData.{BlifModelData}
use Rattle.blif_ast.specs.Printed.{ports_card, table_lines, row_words, latch_words, instance_words, model_lines}
use Rattle.blif_ast.specs.Cards.{model_card, inputs_card, outputs_card, names_card, latch_card, subckt_card, end_card}

-- the lines of a model between its first and its last
abbrev pub tables_lines : List TableData → List (List (List ℕ))
tables_lines tables = flat_map table_lines tables

abbrev pub latches_lines : List Latch → List (List (List ℕ))
latches_lines latches = map latch_words latches

abbrev pub instances_lines : List InstanceData → List (List (List ℕ))
instances_lines instances = map instance_words instances

abbrev pub inner_lines : BlifModelData → List (List (List ℕ))
inner_lines m = ports_card inputs_card m.inputs ++ (ports_card outputs_card m.outputs ++ (tables_lines m.tables ++ (latches_lines m.latches ++ instances_lines m.instances)))

pieces : {X : Type 0} (inputs outputs tables latches instances last rest : List X)
    → (((((inputs ++ outputs) ++ tables) ++ latches) ++ instances) ++ last) ++ rest ≡ (inputs ++ (outputs ++ (tables ++ (latches ++ instances)))) ++ (last ++ rest)
pieces inputs outputs tables latches instances last rest = simp append_assoc

-- the lines of a model in front of others
pub model_lines-inner : (m : BlifModelData) (rest : List (List (List ℕ)))
    → model_lines m ++ rest ≡ (model_card ∷ m.name ∷ []) ∷ (inner_lines m ++ (end_card ∷ []) ∷ rest)
model_lines-inner m rest =
    ap (λ l. (model_card ∷ m.name ∷ []) ∷ l)
    (pieces (ports_card inputs_card m.inputs) (ports_card outputs_card m.outputs) (tables_lines m.tables) (latches_lines m.latches) (instances_lines m.instances) ((end_card ∷ []) ∷ []) rest)

-- a fact of each line that begins with a card, and of each row
pub record HoldsOfCards (P : List (List ℕ) → Type 0) : Type 0 where
  pub inputs : (names : List (List ℕ)) → P (inputs_card ∷ names)
  pub outputs : (names : List (List ℕ)) → P (outputs_card ∷ names)
  pub names : (names : List (List ℕ)) → P (names_card ∷ names)
  pub row : (on : Bool) (row : List Letter) → P (row_words on row)
  pub latch : (words : List (List ℕ)) → P (latch_card ∷ words)
  pub subckt : (words : List (List ℕ)) → P (subckt_card ∷ words)

pub ports_all : (P : List (List ℕ) → Type 0) (card : List ℕ) → ((names : List (List ℕ)) → P (card ∷ names)) → (names : List (List ℕ)) → AllByRecursion P (ports_card card names)
ports_all P card h [] = tt
ports_all P card h (name ∷ names) = (h (name ∷ names), tt)

pub rows_all : (P : List (List ℕ) → Type 0) → ((on : Bool) (row : List Letter) → P (row_words on row)) → (on : Bool) (rows : List (List Letter)) → AllByRecursion P (map (row_words on) rows)
rows_all P h on [] = tt
rows_all P h on (row ∷ rows) = (h on row, rows_all P h on rows)

pub tables_all : (P : List (List ℕ) → Type 0) → ((names : List (List ℕ)) → P (names_card ∷ names)) → ((on : Bool) (row : List Letter) → P (row_words on row))
    → (tables : List TableData) → AllByRecursion P (tables_lines tables)
tables_all P h r [] = tt
tables_all P h r (t ∷ tables) = (h (t.inputs ++ t.output ∷ []), AllByRecursion-append P (map (row_words t.on) t.rows) (tables_lines tables) (rows_all P r t.on t.rows) (tables_all P h r tables))

pub latches_all : (P : List (List ℕ) → Type 0) → ((words : List (List ℕ)) → P (latch_card ∷ words)) → (latches : List Latch) → AllByRecursion P (latches_lines latches)
latches_all P h [] = tt
latches_all P h (l ∷ latches) = (h _, latches_all P h latches)

pub instances_all : (P : List (List ℕ) → Type 0) → ((words : List (List ℕ)) → P (subckt_card ∷ words)) → (instances : List InstanceData) → AllByRecursion P (instances_lines instances)
instances_all P h [] = tt
instances_all P h (i ∷ instances) = (h _, instances_all P h instances)

pub inner_all : (P : List (List ℕ) → Type 0) → HoldsOfCards P → (m : BlifModelData) → AllByRecursion P (inner_lines m)
inner_all P h m =
    let latches = latches_lines m.latches in
    let instances = instances_lines m.instances in
    AllByRecursion-append P (ports_card inputs_card m.inputs) (ports_card outputs_card m.outputs ++ (tables_lines m.tables ++ (latches ++ instances))) (ports_all P inputs_card h.inputs m.inputs)
    (AllByRecursion-append P (ports_card outputs_card m.outputs) (tables_lines m.tables ++ (latches ++ instances)) (ports_all P outputs_card h.outputs m.outputs)
    (AllByRecursion-append P (tables_lines m.tables) (latches ++ instances) (tables_all P h.names h.row m.tables)
    (AllByRecursion-append P latches instances (latches_all P h.latch m.latches) (instances_all P h.subckt m.instances))))

-- each first byte of a row is `0`, `1` or `-`
pub by_rows : (P : List (List ℕ) → Type 0)
    → ((word : List ℕ) (more : List (List ℕ)) → P ((48 ∷ word) ∷ more)) → ((word : List ℕ) (more : List (List ℕ)) → P ((49 ∷ word) ∷ more)) → ((word : List ℕ) (more : List (List ℕ)) → P ((45 ∷ word) ∷ more))
    → (on : Bool) (row : List Letter) → P (row_words on row)
by_rows P z o a true [] = o [] []
by_rows P z o a false [] = z [] []
by_rows P z o a on (Zero ∷ row) = z _ _
by_rows P z o a on (One ∷ row) = o _ _
by_rows P z o a on (Any ∷ row) = a _ _
