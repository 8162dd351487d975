-- The tables, latches and outputs of a network by the places of their numbers.
use Rattle.std.proofs.Common.{◌≡◌, ℕ, not, List, [], ◌∷◌, map, Option, Some, refl, ap, sym, ◌∙◌, subst}
use Rattle.std.specs.Prelude.{◌==◌, Contains, IsSome, option_and_then, option_map, slice_get}
use Rattle.std.specs.List.{AllByRecursion}
use Rattle.dom_base.proofs.Lists.{AllByRecursion-every, AllByRecursion-kept, AllByRecursion-weaker, Contains-first, slice_get-contained}
use Rattle.blif_ast.specs.BlifFileData.{BlifFileData}
use Rattle.network.specs.declared.network.NetLatch.{NetLatch}
use Rattle.net_flatten.specs.declared.table_order.LevelledTable.{LevelledTable}
use Rattle.net_flatten.specs.Dependences.{is_table, level_at}
use Rattle.model_calls.specs.Ends.{End, end_at, next_of, read_ends}
use Rattle.model_calls.specs.Expanded.{LatchPart, PlacedLatch, PlacedPart, PlacedTable, TablePart, latches, tables}
use Rattle.net_flatten.specs.Flattening.{numbered_latch, numbered_table, placed_latch, placed_table}
use Rattle.network.specs.NetworkData.{NetTableData}
use Rattle.net_flatten.specs.NetworkNumbers.{IsRenumbering, latches_among}
use Rattle.net_flatten.specs.NetworkParts.{latch_by_card, latch_in_network, levelled_in_network, network_place, table_by_card, table_in_network}
use Rattle.part_numbers.specs.NumberedFiles.{IsNumberedFile, NumberedFileData, NumberedPartData, PartBySignals, card_at, card_of_part, model_at, numbered_part, placed_part}
use Rattle.model_calls.specs.Occurrences.{main_model}
use Rattle.model_calls.specs.Ordered.{in_order}
use Rattle.model_calls.specs.Refusal.{Refusal}
use Rattle.model_calls.specs.Refusals.{HasRefusal}
use Rattle.model_calls.specs.SignalFaults.{signals}
use Rattle.model_calls.specs.Signals.{Signal, signal_of}
use Rattle.net_flatten.specs.TableNumbers.{tables_among}
use Rattle.model_calls.proofs.Apart.{each_in_order}
use Rattle.model_calls.proofs.EachPart.{each_itself}
use Rattle.net_flatten.proofs.Kept.{same_each}
use Rattle.network.proofs.Lists.{map_same}
use Rattle.net_flatten.proofs.NetworkLevels.{Alike, latches_alike, ordered_alike, table_reads, tables_alike}
use Rattle.net_flatten.proofs.NetworkOrder.{IsControlNumber, network_numbers, network_signals, numbers_stand, ordered, ordered_tables, output_stands, reads_stand}
use Rattle.part_numbers.proofs.NumberedEnds.{Number, number_at, reads_number}
use Rattle.part_numbers.proofs.Ranges.{map_map}

-- three lists that are alike, element by element
three_alike : {X P U T Z C : Type 0} (h : P → T) (k : X → T) (F : P → Z) (G : U → Z) (a : X → C) (b : U → C) (Q : P → Type 0)
    → ((x : X) (p : P) (u : U) → k x ≡ h p → F p ≡ G u → Q p → a x ≡ b u)
    → (xs : List X) (ps : List P) (us : List U) → map k xs ≡ map h ps → map F ps ≡ map G us → AllByRecursion Q ps → map a xs ≡ map b us
three_alike h k F G a b Q same [] [] [] e d q = refl
three_alike h k F G a b Q same [] [] (u ∷ us) e d q = absurd cc
three_alike h k F G a b Q same [] (p ∷ ps) us e d q = absurd cc
three_alike h k F G a b Q same (x ∷ xs) [] us e d q = absurd cc
three_alike h k F G a b Q same (x ∷ xs) (p ∷ ps) [] e d q = absurd cc
three_alike h k F G a b Q same (x ∷ xs) (p ∷ ps) (u ∷ us) e d q =
    let first : k x ≡ h p = cc in
    let second : F p ≡ G u = cc in
    let more : map k xs ≡ map h ps = cc in
    let rest : map F ps ≡ map G us = cc in
    ap (λ c. c ∷ map a xs) (same x p u first second q.0) ∙ ap (λ l. b u ∷ l) (three_alike h k F G a b Q same xs ps us more rest q.1)

-- tables by their indices are the tables that stand there
pub tables_at : (f : BlifFileData) (places : List ℕ) (parts tables : List NumberedPartData) (levelled : List LevelledTable)
    → map (λ (t : LevelledTable). slice_get parts t.part) levelled ≡ map Some tables
    → map (levelled_in_network f places parts) levelled ≡ map (table_in_network f places) tables
tables_at f places parts tables levelled e =
    sym (map_map (option_and_then (table_in_network f places)) (λ (t : LevelledTable). slice_get parts t.part) levelled)
    ∙ ap (map (option_and_then (table_in_network f places))) e
    ∙ map_map (option_and_then (table_in_network f places)) Some tables

card_alike : (f : BlifFileData) (all : List Signal) (p : NumberedPartData) (x : PlacedPart) → numbered_part f all p ≡ placed_part x
    → card_at (model_at f p.model) p.card ≡ Some (card_of_part x)
card_alike f all p x e = ap (λ (b : PartBySignals). b.card) e

-- tables and latches of the file have their cards
module _ {f : BlifFileData} {all : List Signal} {n : NumberedFileData} (is : IsNumberedFile f all n) where
  pub tables_some : (levels places : List ℕ)
      → AllByRecursion (λ p. IsSome (table_in_network f places p)) (in_order (λ p. level_at levels p.drives) (tables_among n.parts))
  tables_some levels places = each_in_order (λ p. level_at levels p.drives) (λ p. IsSome (table_in_network f places p)) (tables_among n.parts)
      (same_each (numbered_part f all) (λ t. placed_part (TablePart t)) (λ p. IsSome (table_in_network f places p)) (λ t. Unit {0})
      (λ p t e u. subst (λ o. IsSome (option_and_then (table_by_card places p) o)) (sym (card_alike f all p (TablePart t) e)) refl)
      (tables_among n.parts) (tables f) (tables_alike is) (AllByRecursion-every (λ t. Unit {0}) (λ t. tt) (tables f)))

  pub latches_some : (places : List ℕ) → AllByRecursion (λ p. IsSome (latch_in_network f places p)) (latches_among n.parts)
  latches_some places = same_each (numbered_part f all) (λ l. placed_part (LatchPart l)) (λ p. IsSome (latch_in_network f places p)) (λ l. Unit {0})
      (λ p l e u. subst (λ o. IsSome (option_and_then (latch_by_card places p) o)) (sym (card_alike f all p (LatchPart l) e)) (reads p.reads l (reads_number f all n is p (LatchPart l) e)))
      (latches_among n.parts) (latches f) (latches_alike is) (AllByRecursion-every (λ l. Unit {0}) (λ l. tt) (latches f))
    where
      reads : (numbers : List ℕ) (l : PlacedLatch) → Number all numbers (signals (read_ends (LatchPart l)))
          → IsSome {T = NetLatch} (option_map (λ number. record { input = network_place places number; init = l.latch.init == 1 }) (slice_get numbers 0))
      reads [] l e = absurd cc
      reads (x ∷ xs) l e = refl

module _ {f : BlifFileData} {all : List Signal} {n : NumberedFileData} (is : IsNumberedFile f all n) (control : Option ℕ) (known : IsControlNumber is control) (levels : List ℕ)
    (accepted : (r : Refusal) → HasRefusal f r → ⊥) (places : List ℕ) (renumbering : IsRenumbering n.signals (network_numbers is control known levels) places) where
  abbrev numbers : List ℕ
  numbers = network_numbers is control known levels

  abbrev by_number : List Signal
  by_number = network_signals is control known levels

  -- a number's place has its signal
  place_stands : (x : ℕ) → Contains numbers x → slice_get by_number (network_place places x) ≡ slice_get all x
  place_stands x c =
      let h = number_at all numbers by_number (network_place places x) x (numbers_stand is control known levels) (renumbering.places_are x c) in
      h.1 ∙ sym h.2

  places_stand : (xs : List ℕ) → ((x : ℕ) → Contains xs x → Contains numbers x)
      → map (slice_get by_number) (map (network_place places) xs) ≡ map (slice_get all) xs
  places_stand xs inside = map_map (slice_get by_number) (network_place places) xs
      ∙ map_same (λ x. slice_get by_number (network_place places x)) (slice_get all) xs
      (AllByRecursion-weaker (Contains xs) (λ x. slice_get by_number (network_place places x) ≡ slice_get all x) (λ x c. place_stands x (inside x c)) xs (each_itself xs))

  reads_inside : (p : NumberedPartData) → Contains n.parts p → (x : ℕ) → Contains p.reads x → Contains numbers x
  reads_inside p c = let i = slice_get-contained n.parts p c in reads_stand is control known levels accepted i.0 p i.1

  pub outputs_stand : map (slice_get by_number) (map (network_place places) n.outputs) ≡ map (λ name. Some (signal_of [] name)) (main_model f).outputs
  outputs_stand = places_stand n.outputs (output_stands is control known levels accepted) ∙ is.outputs
      ∙ map_map (λ (e : End). Some e.signal) (end_at [] (main_model f).line) (main_model f).outputs

  one_table : (t : NetTableData) (p : NumberedPartData) (u : PlacedTable) → Some t ≡ table_in_network f places p → Alike is p (TablePart u)
      → Contains n.parts p
      → numbered_table by_number t ≡ placed_table u
  one_table t p u e alike inside =
      let whole : Some t ≡ Some (record { inputs = map (network_place places) p.reads; on = u.table.on; rows = u.table.rows }) = e ∙ ap (option_and_then (table_by_card places p)) (card_alike f all p (TablePart u) alike) in
      let one : t ≡ record { inputs = map (network_place places) p.reads; on = u.table.on; rows = u.table.rows } = cc in
      let inputs = places_stand p.reads (reads_inside p inside) ∙ table_reads is p u alike in
      ap (numbered_table by_number) one ∙ (λ i. record { inputs = inputs i; on = u.table.on; rows = u.table.rows })

  pub tables_stand : (tables : List NetTableData) → map Some tables ≡ map (table_in_network f places) (ordered is control known levels)
      → map (numbered_table by_number) tables ≡ map placed_table (ordered_tables is control known levels)
  tables_stand tables e = three_alike (table_in_network f places) Some (numbered_part f all) (λ t. placed_part (TablePart t)) (numbered_table by_number) placed_table (Contains n.parts) one_table
      tables (ordered is control known levels) (ordered_tables is control known levels) e (ordered_alike is levels)
      (each_in_order (λ p. level_at levels p.drives) (Contains n.parts) (tables_among n.parts) (AllByRecursion-kept (Contains n.parts) (λ (p : NumberedPartData). is_table p.card) n.parts (each_itself n.parts)))

  one_latch : (l : NetLatch) (p : NumberedPartData) (u : PlacedLatch) → Some l ≡ latch_in_network f places p → Alike is p (LatchPart u)
      → Contains n.parts p
      → numbered_latch by_number l ≡ placed_latch u
  one_latch l p u e alike inside = by p.reads (reads_number f all n is p (LatchPart u) alike) (reads_inside p inside)
      (e ∙ ap (option_and_then (latch_by_card places p)) (card_alike f all p (LatchPart u) alike))
    where
      by : (reads : List ℕ) → Number all reads (signals (read_ends (LatchPart u))) → ((x : ℕ) → Contains reads x → Contains numbers x)
          → Some l ≡ option_map (λ number. record { input = network_place places number; init = u.latch.init == 1 }) (slice_get reads 0)
          → numbered_latch by_number l ≡ placed_latch u
      by [] e inside is = absurd cc
      by (x ∷ xs) e inside is =
          let at : slice_get all x ≡ Some (next_of u) = cc in
          let one : l ≡ record { input = network_place places x; init = u.latch.init == 1 } = cc in
          let input = place_stands x (inside x (Contains-first x xs)) ∙ at in
          ap (numbered_latch by_number) one ∙ (λ i. record { input = input i; init = u.latch.init == 1 })

  pub latches_stand : (those : List NetLatch) → map Some those ≡ map (latch_in_network f places) (latches_among n.parts)
      → map (numbered_latch by_number) those ≡ map placed_latch (latches f)
  latches_stand those e = three_alike (latch_in_network f places) Some (numbered_part f all) (λ l. placed_part (LatchPart l)) (numbered_latch by_number) placed_latch (Contains n.parts) one_latch
      those (latches_among n.parts) (latches f) e (latches_alike is) (AllByRecursion-kept (Contains n.parts) (λ (p : NumberedPartData). not (is_table p.card)) n.parts (each_itself n.parts))
