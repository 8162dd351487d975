-- The levels of signals by the levels of their numbers, and the tables and latches of a file in order, by numbers and by signals.
use Rattle.std.proofs.Common.{◌≡◌, ℕ, ◌+◌, max, not, List, map, take, Some, None, refl, ap, sym, ◌∙◌, subst}
use Rattle.std.specs.Prelude.{Contains, option_map, slice_get, if◌then◌else◌}
use Rattle.std.specs.List.{fold}
use Rattle.std.proofs.lemmas.Bool.{true≢false}
use Rattle.std.proofs.lemmas.List.Elements.{All-from_recursion, Contains-append_left}
use Rattle.dom_base.proofs.Lists.{AllByRecursion-from_places, Contains-slice_get, slice_get-contained}
use Rattle.blif_ast.specs.BlifFileData.{BlifFileData}
use Rattle.model_calls.specs.declared.fault.FlatKind.TheVariants.{DrivenTwice}
use Rattle.net_flatten.specs.Dependences.{AreTableLevels, IsDrivingTable, is_table, level_at}
use Rattle.model_calls.specs.Ends.{End, inputs_of, main_inputs, output_of, state_of}
use Rattle.model_calls.specs.Expanded.{LatchPart, PlacedLatch, PlacedPart, PlacedTable, TablePart, expanded, latches, part_latch, part_table, tables}
use Rattle.net_flatten.specs.NetworkNumbers.{latches_among}
use Rattle.part_numbers.specs.NumberedFiles.{IsNumberedFile, NumberedFileData, NumberedPartData, numbered_part, placed_part}
use Rattle.model_calls.specs.Numbering.{IsLevelling, by_level}
use Rattle.model_calls.specs.Ordered.{in_order}
use Rattle.model_calls.specs.Refusals.{IsOfKind}
use Rattle.model_calls.specs.SignalFaults.{signals}
use Rattle.model_calls.specs.Signals.{Signal}
use Rattle.net_flatten.specs.TableNumbers.{tables_among}
use Rattle.net_flatten.proofs.CycleFaults.{driven_once}
use Rattle.net_flatten.proofs.DriverFaults.{none_again}
use Rattle.network.proofs.Lists.{get_map}
use Rattle.net_flatten.proofs.NumberOfSignal.{number_is, number_of}
use Rattle.part_numbers.proofs.NumberedEnds.{Number, drives_number, inputs_number, placed_at, reads_number, signal_at}
use Rattle.net_flatten.proofs.OrderedAlike.{filter_kept, in_order_alike, kept_alike, map_alike}
use Rattle.net_flatten.proofs.Splits.{kept_from}
use Rattle.net_flatten.proofs.TablesAlike.{part_of_table, reads_of_table, table_alike}

part_of_latch : (x : PlacedPart) (l : PlacedLatch) → part_latch x ≡ Some l → x ≡ LatchPart l
part_of_latch (LatchPart m) l e = let i : m ≡ l = cc in ap LatchPart i
part_of_latch (TablePart t) l e = absurd cc

module _ {f : BlifFileData} {all : List Signal} {n : NumberedFileData} (is : IsNumberedFile f all n) where
  abbrev pub Alike : NumberedPartData → PlacedPart → Type 0
  Alike p x = numbered_part f all p ≡ placed_part x

  -- a part of the expanded list and its part by numbers
  pub record PartBoth (x : PlacedPart) : Type 0 where
    pub index : ℕ
    pub part : NumberedPartData
    pub there : slice_get n.parts index ≡ Some part
    pub placed : slice_get (expanded f) index ≡ Some x
    pub alike : Alike part x

  pub both_at : (k : ℕ) (x : PlacedPart) → slice_get (expanded f) k ≡ Some x → PartBoth x
  both_at k x at = let h = placed_at f all n is k x at in record { index = k; part = h.0; there = h.1; placed = at; alike = h.2 }

  pub table_both : (k : ℕ) (t : PlacedTable) → slice_get (tables f) k ≡ Some t → PartBoth (TablePart t)
  table_both k t at = let h = kept_from part_table (expanded f) t k at in both_at h.0 (TablePart t) (h.2 ∙ ap Some (part_of_table h.1 t h.3))

  pub latch_both : (k : ℕ) (l : PlacedLatch) → slice_get (latches f) k ≡ Some l → PartBoth (LatchPart l)
  latch_both k l at = let h = kept_from part_latch (expanded f) l k at in both_at h.0 (LatchPart l) (h.2 ∙ ap Some (part_of_latch h.1 l h.3))

  -- the tables among the parts are those of the expanded list, and so the latches
  pub tables_alike : map (numbered_part f all) (tables_among n.parts) ≡ map (λ t. placed_part (TablePart t)) (tables f)
  tables_alike = ap (map (numbered_part f all)) (filter_kept (λ (p : NumberedPartData). is_table p.card) n.parts)
      ∙ kept_alike (numbered_part f all) placed_part (λ p. if is_table p.card then Some p else None) part_table (numbered_part f all) (λ t. placed_part (TablePart t)) same n.parts (expanded f) is.parts
    where
      same : (p : NumberedPartData) (x : PlacedPart) → Alike p x
          → option_map (numbered_part f all) (if is_table p.card then Some p else None) ≡ option_map (λ t. placed_part (TablePart t)) (part_table x)
      same p (TablePart t) e = ap (λ b. option_map (numbered_part f all) (if b then Some p else None)) (table_alike f all p (TablePart t) e)
          ∙ ap Some e
      same p (LatchPart l) e = ap (λ b. option_map (numbered_part f all) (if b then Some p else None)) (table_alike f all p (LatchPart l) e)

  pub latches_alike : map (numbered_part f all) (latches_among n.parts) ≡ map (λ l. placed_part (LatchPart l)) (latches f)
  latches_alike = ap (map (numbered_part f all)) (filter_kept (λ (p : NumberedPartData). not (is_table p.card)) n.parts)
      ∙ kept_alike (numbered_part f all) placed_part (λ p. if not (is_table p.card) then Some p else None) part_latch (numbered_part f all) (λ l. placed_part (LatchPart l)) same n.parts (expanded f) is.parts
    where
      same : (p : NumberedPartData) (x : PlacedPart) → Alike p x
          → option_map (numbered_part f all) (if not (is_table p.card) then Some p else None) ≡ option_map (λ l. placed_part (LatchPart l)) (part_latch x)
      same p (TablePart t) e = ap (λ b. option_map (numbered_part f all) (if not b then Some p else None)) (table_alike f all p (TablePart t) e)
      same p (LatchPart l) e = ap (λ b. option_map (numbered_part f all) (if not b then Some p else None)) (table_alike f all p (LatchPart l) e) ∙ ap Some e

  pub table_drives : (p : NumberedPartData) (t : PlacedTable) → Alike p (TablePart t) → slice_get all p.drives ≡ Some (output_of t)
  table_drives p t e = drives_number f all n is p (TablePart t) e

  pub latch_drives : (p : NumberedPartData) (l : PlacedLatch) → Alike p (LatchPart l) → slice_get all p.drives ≡ Some (state_of l)
  latch_drives p l e = drives_number f all n is p (LatchPart l) e

  pub table_reads : (p : NumberedPartData) (t : PlacedTable) → Alike p (TablePart t) → Number all p.reads (inputs_of t)
  table_reads p t e = subst (Number all p.reads) (reads_of_table t) (reads_number f all n is p (TablePart t) e)

  module _ (levels : List ℕ) where
    -- the level of a signal: that of its number
    abbrev pub level_of : Signal → ℕ
    level_of s = level_at levels (number_of all s)

    pub level_is : (x : ℕ) (s : Signal) → slice_get all x ≡ Some s → level_at levels x ≡ level_of s
    level_is x s at = ap (level_at levels) (sym (number_is all is.apart x s at))

    -- tables in order of their levels
    pub ordered_alike : map (numbered_part f all) (in_order (λ p. level_at levels p.drives) (tables_among n.parts)) ≡ map (λ t. placed_part (TablePart t)) (by_level level_of f)
    ordered_alike = (in_order_alike (numbered_part f all) (λ t. placed_part (TablePart t)) (λ p. level_at levels p.drives) (λ t. level_of (output_of t)) (tables_among n.parts) (tables f) tables_alike
        (map_alike (numbered_part f all) (λ t. placed_part (TablePart t)) (λ p. level_at levels p.drives) (λ t. level_of (output_of t))
        (λ p t e. level_is p.drives (output_of t) (table_drives p t e)) (tables_among n.parts) (tables f) tables_alike)).0

    module _ (once : (line : ℕ) (name : List ℕ) → IsOfKind f DrivenTwice line name → ⊥) (are : AreTableLevels n.signals n.parts levels) where
      -- main inputs are of level 0, for no table drives them
      level_input : (x : ℕ) → Contains n.inputs x → level_at levels x ≡ 0
      level_input x c = are.others x (λ p t.
          let i = slice_get-contained n.parts p t.there in
          none_again f all n is once i.0 p i.1
          (Contains-append_left n.inputs (map (λ (q : NumberedPartData). q.drives) (take i.0 n.parts)) p.drives (subst (Contains n.inputs) (sym t.drives_is) c)))

      -- latches too
      level_latch : (l : PlacedLatch) → PartBoth (LatchPart l) → level_of (state_of l) ≡ 0
      level_latch l b = sym (level_is b.part.drives (state_of l) (latch_drives b.part l b.alike)) ∙ are.others b.part.drives none
        where
          none : (q : NumberedPartData) → IsDrivingTable n.parts b.part.drives q → ⊥
          none q t =
              let i = slice_get-contained n.parts q t.there in
              let same = driven_once f all n is once i.0 b.index q b.part i.1 b.there t.drives_is in
              let one : Some q ≡ Some b.part = sym i.1 ∙ ap (slice_get n.parts) same ∙ b.there in
              let equal : q ≡ b.part = cc in
              true≢false (sym t.table ∙ ap (λ (p : NumberedPartData). is_table p.card) equal ∙ table_alike f all b.part (LatchPart l) b.alike)

      -- and tables are one above what they read
      level_table : (t : PlacedTable) → PartBoth (TablePart t) → level_of (output_of t) ≡ 1 + fold max 0 (map level_of (inputs_of t))
      level_table t b =
          sym (level_is b.part.drives (output_of t) (table_drives b.part t b.alike))
          ∙ are.tables b.part.drives b.part (record {
            there = Contains-slice_get n.parts b.index b.part b.there;
            table = table_alike f all b.part (TablePart t) b.alike;
            drives_is = refl;
          })
          ∙ ap (λ ls. 1 + fold max 0 ls) (map_alike (slice_get all) Some (level_at levels) level_of level_is b.part.reads (inputs_of t) (table_reads b.part t b.alike))

      pub levelling : IsLevelling f level_of
      levelling = record {
        inputs = All-from_recursion (λ (e : End). level_of e.signal ≡ 0) (main_inputs f) (AllByRecursion-from_places (λ (e : End). level_of e.signal ≡ 0) (main_inputs f) (λ k e at.
            let h = signal_at all n.inputs (signals (main_inputs f)) k e.signal (inputs_number f all n is) (get_map (λ (d : End). d.signal) (main_inputs f) k e at) in
            sym (level_is h.0 e.signal h.2) ∙ level_input h.0 (Contains-slice_get n.inputs k h.0 h.1)));
        latches_are = All-from_recursion (λ (l : PlacedLatch). level_of (state_of l) ≡ 0) (latches f)
            (AllByRecursion-from_places (λ (l : PlacedLatch). level_of (state_of l) ≡ 0) (latches f) (λ k l at. level_latch l (latch_both k l at)));
        tables_are = All-from_recursion (λ (t : PlacedTable). level_of (output_of t) ≡ 1 + fold max 0 (map level_of (inputs_of t))) (tables f)
            (AllByRecursion-from_places (λ (t : PlacedTable). level_of (output_of t) ≡ 1 + fold max 0 (map level_of (inputs_of t))) (tables f) (λ k t at. level_table t (table_both k t at)));
      }
