-- The names of a model: those of its ports and of its cards.
use Rattle.std.proofs.Common.{◌≡◌, ℕ, ◌<◌, List, [], ◌∷◌, ◌++◌, length, Option, Some, None, refl, ◌∙◌}
use Rattle.std.specs.Prelude.{Contains, option_and_then, slice_get}
use Rattle.std.specs.List.{AllByRecursion, flat_map}
use Rattle.std.specs.Option.{option_map}
use Rattle.std.proofs.lemmas.List.Elements.{Contains-append_left, Contains-append_right}
use Rattle.std.proofs.lemmas.Option.{slice_get_within}
use Rattle.dom_base.proofs.Lists.{AllByRecursion-weaker, Contains-first, Contains-later}
use Rattle.blif_ast.specs.BlifModelData.{BlifModelData}
use Rattle.blif_ast.specs.TableData.{TableData}
use Rattle.blif_ast.specs.declared.latch.Control.{Control}
use Rattle.blif_ast.specs.declared.latch.Latch.{Latch}
use Rattle.model_calls.specs.Occurrences.{actuals_of, names_of, names_of_latch, names_of_table, signal_of_control}
use Rattle.part_numbers.specs.PartNumbers.{control_name}
use Rattle.model_calls.proofs.EachPart.{each_itself}
use Rattle.model_calls.proofs.MainNames.{contains_flat}

-- names of a model

pub input_named : (m : BlifModelData) (name : List ℕ) → Contains m.inputs name → Contains (names_of m) name
input_named m name c =
    Contains-append_left (m.inputs ++ m.outputs ++ flat_map names_of_table m.tables ++ flat_map names_of_latch m.latches) (flat_map actuals_of m.instances) name
    (Contains-append_left (m.inputs ++ m.outputs ++ flat_map names_of_table m.tables) (flat_map names_of_latch m.latches) name
    (Contains-append_left (m.inputs ++ m.outputs) (flat_map names_of_table m.tables) name
    (Contains-append_left m.inputs m.outputs name c)))

pub output_named : (m : BlifModelData) (name : List ℕ) → Contains m.outputs name → Contains (names_of m) name
output_named m name c =
    Contains-append_left (m.inputs ++ m.outputs ++ flat_map names_of_table m.tables ++ flat_map names_of_latch m.latches) (flat_map actuals_of m.instances) name
    (Contains-append_left (m.inputs ++ m.outputs ++ flat_map names_of_table m.tables) (flat_map names_of_latch m.latches) name
    (Contains-append_left (m.inputs ++ m.outputs) (flat_map names_of_table m.tables) name
    (Contains-append_right m.inputs m.outputs name c)))

pub table_named : (m : BlifModelData) (t : TableData) (name : List ℕ) → Contains m.tables t → Contains (names_of_table t) name → Contains (names_of m) name
table_named m t name c d =
    Contains-append_left (m.inputs ++ m.outputs ++ flat_map names_of_table m.tables ++ flat_map names_of_latch m.latches) (flat_map actuals_of m.instances) name
    (Contains-append_left (m.inputs ++ m.outputs ++ flat_map names_of_table m.tables) (flat_map names_of_latch m.latches) name
    (Contains-append_right (m.inputs ++ m.outputs) (flat_map names_of_table m.tables) name
    (contains_flat names_of_table m.tables t name c d)))

pub latch_named : (m : BlifModelData) (l : Latch) (name : List ℕ) → Contains m.latches l → Contains (names_of_latch l) name → Contains (names_of m) name
latch_named m l name c d =
    Contains-append_left (m.inputs ++ m.outputs ++ flat_map names_of_table m.tables ++ flat_map names_of_latch m.latches) (flat_map actuals_of m.instances) name
    (Contains-append_right (m.inputs ++ m.outputs ++ flat_map names_of_table m.tables) (flat_map names_of_latch m.latches) name
    (contains_flat names_of_latch m.latches l name c d))

-- the names of a card

pub inputs_of_table : (t : TableData) → AllByRecursion (Contains (names_of_table t)) t.inputs
inputs_of_table t = AllByRecursion-weaker (Contains t.inputs) (Contains (names_of_table t)) (λ name c. Contains-append_left t.inputs (t.output ∷ []) name c) t.inputs (each_itself t.inputs)

pub output_of_table : (t : TableData) → Contains (names_of_table t) t.output
output_of_table t = Contains-append_right t.inputs (t.output ∷ []) t.output (Contains-first t.output [])

pub input_of_latch : (l : Latch) → Contains (names_of_latch l) l.input
input_of_latch l = Contains-first l.input (l.output ∷ signal_of_control l.control)

pub output_of_latch : (l : Latch) → Contains (names_of_latch l) l.output
output_of_latch l = Contains-later l.input (l.output ∷ signal_of_control l.control) l.output (Contains-first l.output (signal_of_control l.control))

pub control_of_latch : (l : Latch) (name : List ℕ) → control_name l ≡ Some name → Contains (names_of_latch l) name
control_of_latch l name e =
    Contains-later l.input (l.output ∷ signal_of_control l.control) name (Contains-later l.output (signal_of_control l.control) name (by l.control e))
  where
    named : (signal : Option (List ℕ)) (edge : Control) → signal ≡ Some name → edge.signal ≡ signal → Contains (signal_of_control (Some edge)) name
    named None c e s = absurd cc
    named (Some other) c e s = let is : c.signal ≡ Some name = s ∙ e in rw is (Contains-first name [])

    by : (control : Option Control) → option_and_then (λ (c : Control). c.signal) control ≡ Some name → Contains (signal_of_control control) name
    by None e = absurd cc
    by (Some c) e = named c.signal c e refl

-- a card at an index is within its list

pub mapped_within : {X Y : Type 0} (g : X → Y) (xs : List X) (k : ℕ) (y : Y) → option_map g (slice_get xs k) ≡ Some y → k < length xs
mapped_within {X} {Y} g xs k y e = by (slice_get xs k) refl e
  where
    by : (found : Option X) → slice_get xs k ≡ found → option_map g found ≡ Some y → k < length xs
    by None there d = absurd cc
    by (Some x) there d = slice_get_within xs k x there
