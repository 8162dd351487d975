-- Signals that depend on themselves through tables, by numbers and by signals.
use Rattle.std.proofs.Common.{◌≡◌, ℕ, ◌<◌, ◌≤◌, ◌⊎◌, inl, inr, true, List, [], map, take, Some, refl, ap, sym, ◌∙◌, subst, arith}
use Rattle.std.specs.Prelude.{Contains, slice_get}
use Rattle.std.specs.List.{filter_map}
use Rattle.std.proofs.lemmas.Bool.{cases_lt}
use Rattle.std.proofs.lemmas.List.Elements.{Contains-append_right}
use Rattle.dom_base.proofs.Lists.{AllByRecursion-from_places, Contains-slice_get}
use Rattle.blif_ast.specs.BlifFileData.{BlifFileData}
use Rattle.graph_order.specs.Orders.{IsSuccessor, LeadsOn, more, step, successors}
use Rattle.model_calls.specs.declared.fault.FlatKind.TheVariants.{Cycle, DrivenTwice}
use Rattle.part_numbers.specs.CheckOutcomes.{IsAtOutput}
use Rattle.net_flatten.specs.Dependences.{AreDependences, AreDrivenOnce, is_table}
use Rattle.model_calls.specs.Ends.{driven_end, inputs_of, output_of}
use Rattle.model_calls.specs.Expanded.{PlacedPart, PlacedTable, TablePart, expanded, part_table, tables}
use Rattle.model_calls.specs.FirstFaults.{NoneHolds}
use Rattle.net_flatten.specs.FoundFirst.{IsFirstAt}
use Rattle.net_flatten.specs.Loops.{IsOnLoop}
use Rattle.part_numbers.specs.NumberedFiles.{IsNumberedFile, NumberedFileData, NumberedPartData, numbered_part, placed_part}
use Rattle.model_calls.specs.Reaches.{Reaches, more as onward, step as one}
use Rattle.model_calls.specs.Refusals.{IsOfKind}
use Rattle.model_calls.specs.SignalFaults.{IsFedBy, IsOnCycle}
use Rattle.model_calls.specs.Signals.{Signal}
use Rattle.net_flatten.proofs.ClockFaults.{kept_contains}
use Rattle.net_flatten.proofs.DriverFaults.{none_again}
use Rattle.network.proofs.IndexedLists.{index_of, take_get}
use Rattle.network.proofs.Lists.{get_map, get_take}
use Rattle.part_numbers.proofs.NumberedEnds.{Number, drives_number, number_at, part_at, placed_at, reads_number, signal_at}
use Rattle.net_flatten.proofs.Splits.{first_by_itself, kept_from, kept_split}
use Rattle.net_flatten.proofs.TablesAlike.{part_of_table, reads_of_table, table_alike, table_of_part}

module _ (f : BlifFileData) (all : List Signal) (n : NumberedFileData) (is : IsNumberedFile f all n) (nodes : List (List ℕ)) (d : AreDependences n.signals n.parts nodes) where
  abbrev Alike : NumberedPartData → PlacedPart → Type 0
  Alike p x = numbered_part f all p ≡ placed_part x

  -- a table of the expanded list and its part by numbers
  record TableBoth (t : PlacedTable) : Type 0 where
    index : ℕ
    part : NumberedPartData
    there : slice_get n.parts index ≡ Some part
    placed : slice_get (expanded f) index ≡ Some (TablePart t)
    alike : Alike part (TablePart t)
    table : is_table part.card ≡ true

  abbrev both_at : (k : ℕ) (t : PlacedTable) → slice_get (expanded f) k ≡ Some (TablePart t) → TableBoth t
  both_at k t at = let h = placed_at f all n is k (TablePart t) at in
      record { index = k; part = h.0; there = h.1; placed = at; alike = h.2; table = table_alike f all h.0 (TablePart t) h.2 }

  both_of : (t : PlacedTable) → Contains (tables f) t → TableBoth t
  both_of t c =
      let i = index_of (tables f) t c in
      let h = kept_from part_table (expanded f) t i.0 i.1 in
      both_at h.0 t (h.2 ∙ ap Some (part_of_table h.1 t h.3))

  inputs_number : (t : PlacedTable) (b : TableBoth t) → Number all b.part.reads (inputs_of t)
  inputs_number t b = subst (Number all b.part.reads) (reads_of_table t) (reads_number f all n is b.part (TablePart t) b.alike)

  node_of : (t : PlacedTable) (b : TableBoth t) → successors nodes b.part.drives ≡ b.part.reads
  node_of t b = d.reads b.part.drives b.part (record { there = Contains-slice_get n.parts b.index b.part b.there; table = b.table; drives_is = refl })

  -- a signal that feeds another, and the numbers of both
  fed_step : (s u : Signal) (a : ℕ) → slice_get all a ≡ Some s → IsFedBy f s u → (b : ℕ) × (slice_get all b ≡ Some u) × IsSuccessor nodes a b
  fed_step s u a at fed =
      let t = fed.0 in
      let both = both_of t fed.1 in
      let same : both.part.drives ≡ a = is.apart both.part.drives a s (drives_number f all n is both.part (TablePart t) both.alike ∙ ap Some fed.2) at in
      let i = index_of (inputs_of t) u fed.3 in
      let r = signal_at all both.part.reads (inputs_of t) i.0 u (inputs_number t both) i.1 in
      (r.0, r.2, subst (λ l. Contains l r.0) (sym (node_of t both) ∙ ap (successors nodes) same) (Contains-slice_get both.part.reads i.0 r.0 r.1))

  successor_step : (a b : ℕ) (s : Signal) → slice_get all a ≡ Some s → IsSuccessor nodes a b → (u : Signal) × (slice_get all b ≡ Some u) × IsFedBy f s u
  successor_step a b s at next =
      let w = d.only a b next in
      let i = index_of n.parts w.0 w.1.there in
      let x = part_at f all n is i.0 w.0 i.1 in
      let t = table_of_part x.0 (sym (table_alike f all w.0 x.0 x.2) ∙ w.1.table) in
      let alike : Alike w.0 (TablePart t.0) = subst (Alike w.0) t.1 x.2 in
      let both : TableBoth t.0 = record { index = i.0; part = w.0; there = i.1; placed = x.1 ∙ ap Some t.1; alike = alike; table = w.1.table } in
      let out : Some (output_of t.0) ≡ Some s = sym (drives_number f all n is w.0 (TablePart t.0) alike) ∙ ap (slice_get all) w.1.drives_is ∙ at in
      let output : output_of t.0 ≡ s = cc in
      let j = index_of w.0.reads b w.2 in
      let u = number_at all w.0.reads (inputs_of t.0) j.0 b (inputs_number t.0 both) j.1 in
      (u.0, u.2, (t.0, kept_contains part_table (expanded f) i.0 (TablePart t.0) t.0 both.placed refl, output, Contains-slice_get (inputs_of t.0) j.0 u.0 u.1))

  reaches_leads : {s u : Signal} → Reaches (IsFedBy f) s u → (a : ℕ) → slice_get all a ≡ Some s → (b : ℕ) × (slice_get all b ≡ Some u) × LeadsOn nodes a b
  reaches_leads (one {a} {b} fed) = λ k at. let r = fed_step a b k at fed in (r.0, r.1, step r.2)
  reaches_leads (onward {a} {b} {c} fed rest) = λ k at. let r = fed_step a b k at fed in let q = reaches_leads rest r.0 r.1 in (q.0, q.1, more r.2 q.2)

  leads_reaches : {a b : ℕ} → LeadsOn nodes a b → (s : Signal) → slice_get all a ≡ Some s → (u : Signal) × (slice_get all b ≡ Some u) × Reaches (IsFedBy f) s u
  leads_reaches (step {a} {b} next) = λ s at. let r = successor_step a b s at next in (r.0, r.1, one r.2)
  leads_reaches (more {a} {b} {c} next rest) = λ s at. let r = successor_step a b s at next in let q = leads_reaches rest r.0 r.1 in (q.0, q.1, onward r.2 q.2)

  -- a table on a cycle leads back to itself by its number, and the other way round
  cycle_to_loop : (t : PlacedTable) (b : TableBoth t) → IsOnCycle f [] t → IsOnLoop nodes [] b.part
  cycle_to_loop t b cycle =
      let out = drives_number f all n is b.part (TablePart t) b.alike in
      let r = reaches_leads cycle b.part.drives out in
      (b.table, subst (LeadsOn nodes b.part.drives) (is.apart r.0 b.part.drives (output_of t) r.1 out) r.2)

  loop_to_cycle : (t : PlacedTable) (b : TableBoth t) → IsOnLoop nodes [] b.part → IsOnCycle f [] t
  loop_to_cycle t b loop =
      let out = drives_number f all n is b.part (TablePart t) b.alike in
      let r = leads_reaches loop.1 (output_of t) out in
      let i : Some r.0 ≡ Some (output_of t) = sym r.1 ∙ out in
      let same : r.0 ≡ output_of t = cc in
      subst (Reaches (IsFedBy f) (output_of t)) same r.2

  -- where no table is on a loop, none is refused
  pub none_on_loop : NoneHolds (IsOnLoop nodes) n.parts → (line : ℕ) (name : List ℕ) → IsOfKind f Cycle line name → ⊥
  none_on_loop none line name r =
      let b = both_of r.element (Contains-slice_get (tables f) r.first.index r.element r.first.there) in
      none b.index b.part b.there (cycle_to_loop r.element b r.first.holds)

  -- and the first that is on one is refused
  pub first_on_loop : (k : ℕ) → IsFirstAt (IsOnLoop nodes) n.parts k → (line : ℕ) (name : List ℕ) → IsAtOutput f k line name → IsOfKind f Cycle line name
  first_on_loop k first line name at =
      let h = placed_at f all n is k at.part at.there in
      let i : Some h.0 ≡ Some first.element = sym h.1 ∙ first.there in
      let same : first.element ≡ h.0 = cc in
      let loop : IsOnLoop nodes [] h.0 = subst (IsOnLoop nodes []) same first.holds in
      let t = table_of_part at.part (sym (table_alike f all h.0 at.part h.2) ∙ loop.0) in
      let alike : Alike h.0 (TablePart t.0) = subst (Alike h.0) t.1 h.2 in
      let both : TableBoth t.0 = record { index = k; part = h.0; there = h.1; placed = at.there ∙ ap Some t.1; alike = alike; table = loop.0 } in
      let split = kept_split part_table (expanded f) k (TablePart t.0) t.0 both.placed refl in
      record {
        element = t.0;
        first = first_by_itself (IsOnCycle f []) (tables f) (filter_map part_table (take k (expanded f))) split.0 t.0 split.1
            (loop_to_cycle t.0 both loop)
            (AllByRecursion-from_places (λ u. IsOnCycle f [] u → ⊥) (filter_map part_table (take k (expanded f))) (λ j u there cycle.
            let w = kept_from part_table (take k (expanded f)) u j there in
            let e = take_get (expanded f) k w.0 w.1 w.2 in
            let b = both_at w.0 u (e.1 ∙ ap Some (part_of_table w.1 u w.3)) in
            first.none_before b.index b.part e.0 b.there (cycle_to_loop u b cycle)));
        line_is = at.line_is ∙ ap (λ x. (driven_end x).line) t.1;
        name_is = at.name_is ∙ ap (λ x. (driven_end x).name) t.1;
      }

-- parts that aren't refused for a second driver drive different numbers
module _ (f : BlifFileData) (all : List Signal) (n : NumberedFileData) (is : IsNumberedFile f all n) where
  pub driven_once : ((line : ℕ) (name : List ℕ) → IsOfKind f DrivenTwice line name → ⊥) → AreDrivenOnce n.parts
  driven_once none j k p q at there same = by (cases_lt j k) (cases_lt k j)
    where
      never : (i m : ℕ) (a b : NumberedPartData) → i < m → slice_get n.parts i ≡ Some a → slice_get n.parts m ≡ Some b → a.drives ≡ b.drives → ⊥
      never i m a b l at_a at_b equal = none_again f all n is none m b at_b
          (Contains-append_right n.inputs (map (λ (r : NumberedPartData). r.drives) (take m n.parts)) b.drives
          (subst (Contains (map (λ (r : NumberedPartData). r.drives) (take m n.parts))) equal
          (Contains-slice_get (map (λ (r : NumberedPartData). r.drives) (take m n.parts)) i a.drives
          (get_map (λ (r : NumberedPartData). r.drives) (take m n.parts) i a (get_take n.parts i m a l at_a)))))

      by : (j < k) ⊎ (k ≤ j) → (k < j) ⊎ (j ≤ k) → j ≡ k
      by (inl l) b = absurd (never j k p q l at there same)
      by (inr a) (inl l) = absurd (never k j q p l there at (sym same))
      by (inr a) (inr b) = omega (arith, a, b)
