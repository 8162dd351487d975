-- Tables and latches of the expanded list, by numbers and by signals.
use Rattle.std.proofs.Common.{◌≡◌, Bool, true, false, List, Option, Some, None, refl, ap, sym}
use Rattle.std.specs.Prelude.{option_map, slice_get}
use Rattle.std.proofs.lemmas.Bool.{true≢false}
use Rattle.blif_ast.specs.BlifFileData.{BlifFileData}
use Rattle.blif_ast.specs.BlifModelData.{BlifModelData}
use Rattle.blif_ast.specs.declared.latch.Latch.{Latch}
use Rattle.blif_ast.specs.TableData.{TableData}
use Rattle.part_numbers.specs.declared.numbered.PartCard.{PartCard}
use Rattle.part_numbers.specs.declared.numbered.PartCard.TheVariants.{Table, Latch as LatchAt}
use Rattle.net_flatten.specs.Dependences.{is_table}
use Rattle.model_calls.specs.Ends.{End, inputs_of, read_ends, end_at}
use Rattle.model_calls.specs.Expanded.{LatchCard, LatchPart, PlacedLatch, PlacedPart, PlacedTable, TableCard, TablePart, part_table}
use Rattle.part_numbers.specs.NumberedFiles.{NumberedPartData, PartBySignals, card_at, card_of_part, model_at, numbered_part, placed_part}
use Rattle.model_calls.specs.SignalFaults.{signals}
use Rattle.model_calls.specs.Signals.{Signal}
use Rattle.part_numbers.proofs.Ranges.{map_map}

-- a part is a table
abbrev pub is_table_part : PlacedPart → Bool
is_table_part (TablePart t) = true
is_table_part (LatchPart l) = false

no_latch_card : (o : Option Latch) (t : TableData) → option_map LatchCard o ≡ Some (TableCard t) → ⊥
no_latch_card None t e = absurd cc
no_latch_card (Some l) t e = absurd cc

no_table_card : (o : Option TableData) (l : Latch) → option_map TableCard o ≡ Some (LatchCard l) → ⊥
no_table_card None l e = absurd cc
no_table_card (Some t) l e = absurd cc

same_kind : (m : BlifModelData) (card : PartCard) (x : PlacedPart) → card_at m card ≡ Some (card_of_part x) → is_table card ≡ is_table_part x
same_kind m (Table i) (TablePart t) e = refl
same_kind m (LatchAt i) (LatchPart l) e = refl
same_kind m (Table i) (LatchPart l) e = absurd (no_table_card (slice_get m.tables i) l.latch e)
same_kind m (LatchAt i) (TablePart t) e = absurd (no_latch_card (slice_get m.latches i) t.table e)

module _ (f : BlifFileData) (all : List Signal) (p : NumberedPartData) (x : PlacedPart) (alike : numbered_part f all p ≡ placed_part x) where
  pub table_alike : is_table p.card ≡ is_table_part x
  table_alike = same_kind (model_at f p.model) p.card x (ap (λ (b : PartBySignals). b.card) alike)

pub table_of_part : (x : PlacedPart) → is_table_part x ≡ true → (t : PlacedTable) × (x ≡ TablePart t)
table_of_part (TablePart t) e = (t, refl)
table_of_part (LatchPart l) e = absurd (true≢false (sym e))

pub latch_of_part : (x : PlacedPart) → is_table_part x ≡ false → (l : PlacedLatch) × (x ≡ LatchPart l)
latch_of_part (TablePart t) e = absurd (true≢false e)
latch_of_part (LatchPart l) e = (l, refl)

pub part_of_table : (x : PlacedPart) (t : PlacedTable) → part_table x ≡ Some t → x ≡ TablePart t
part_of_table (TablePart u) t e = let i : u ≡ t = cc in ap TablePart i
part_of_table (LatchPart l) t e = absurd cc

pub reads_of_table : (t : PlacedTable) → signals (read_ends (TablePart t)) ≡ inputs_of t
reads_of_table t = map_map (λ (e : End). e.signal) (end_at t.path t.table.line) t.table.inputs
