-- The expanded list of a file of BLIF, the Berkeley Logic Interchange Format: its tables and latches at all paths, in the order
-- of the text that one would get by writing each instance's model in its place.
use Rattle.std.specs.Prelude.{ℕ, zero, suc, List, [], ◌∷◌, ◌++◌, length, map, Option, Some, None}
use Rattle.std.specs.List.{filter_map, flat_map}
use Rattle.blif_ast.specs.declared.latch.Latch.{Latch}
use Rattle.blif_ast.specs.BlifFileData.{BlifFileData}
use Rattle.blif_ast.specs.BlifModelData.{BlifModelData}
use Rattle.blif_ast.specs.InstanceData.{InstanceData}
use Rattle.blif_ast.specs.TableData.{TableData}
use Rattle.model_calls.specs.Ordered.{in_order}
use Rattle.model_calls.specs.Occurrences.{main_model, models_called}

-- a card that stands in a model
pub data BodyCard : Type 0 where
  TableCard : TableData → BodyCard
  LatchCard : Latch → BodyCard
  InstanceCard : InstanceData → BodyCard

abbrev pub card_line : BodyCard → ℕ
card_line (TableCard t) = t.line
card_line (LatchCard l) = l.line
card_line (InstanceCard i) = i.line

-- the tables, latches and instances of a model in order of their lines
abbrev pub ordered_cards : BlifModelData → List BodyCard
ordered_cards m = in_order card_line (map TableCard m.tables ++ map LatchCard m.latches ++ map InstanceCard m.instances)

pub record PlacedTable : Type 0 where
  pub path : List InstanceData
  pub table : TableData

pub record PlacedLatch : Type 0 where
  pub path : List InstanceData
  pub latch : Latch

-- a table or a latch at a path
pub data PlacedPart : Type 0 where
  TablePart : PlacedTable → PlacedPart
  LatchPart : PlacedLatch → PlacedPart

-- the parts of a card at a path: its own, or what the models that it names have
abbrev pub parts_of_card : (List InstanceData → List ℕ → List PlacedPart) → List InstanceData → BodyCard → List PlacedPart
parts_of_card expanded path (TableCard t) = TablePart (record { path = path; table = t }) ∷ []
parts_of_card expanded path (LatchCard l) = LatchPart (record { path = path; latch = l }) ∷ []
parts_of_card expanded path (InstanceCard i) = expanded (i ∷ path) i.unit

-- the expanded list of a model at a path: its cards in order of their lines, with each instance replaced by the
-- expanded list of its model; so many models below are looked at
abbrev pub expanded_from : List BlifModelData → ℕ → List InstanceData → BlifModelData → List PlacedPart
expanded_from models zero path m = []
expanded_from models (suc depth) path m =
    flat_map (parts_of_card (λ below unit. flat_map (expanded_from models depth below) (models_called models unit)) path) (ordered_cards m)

-- the expanded list of the main model: where no model reaches itself, no path passes more models than there are
abbrev pub expanded : BlifFileData → List PlacedPart
expanded f = expanded_from f.models (length f.models) [] (main_model f)

-- the tables and the latches of the expanded list
abbrev pub part_table : PlacedPart → Option PlacedTable
part_table (TablePart t) = Some t
part_table (LatchPart l) = None

abbrev pub part_latch : PlacedPart → Option PlacedLatch
part_latch (TablePart t) = None
part_latch (LatchPart l) = Some l

abbrev pub tables : BlifFileData → List PlacedTable
tables f = filter_map part_table (expanded f)

abbrev pub latches : BlifFileData → List PlacedLatch
latches f = filter_map part_latch (expanded f)
