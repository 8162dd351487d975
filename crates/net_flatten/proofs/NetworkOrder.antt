-- The numbers of a file's signals in the order of its network: pins, then what latches drive, then what tables drive by their levels.
use Rattle.std.proofs.Common.{◌≡◌, ℕ, inl, inr, not, Bool, true, false, List, [], ◌∷◌, ◌++◌, map, Option, Some, None, refl, ap, sym, ◌∙◌, subst}
use Rattle.std.specs.Prelude.{◌&&◌, ◌≢◌, Contains, filter, nat_eq, option_map, slice_get, if◌then◌else◌}
use Rattle.std.specs.Bool.{Decides}
use Rattle.std.specs.Cmp.{nat_eq_equiv}
use Rattle.std.specs.Cmp.Lexicographic.{bytes_decides}
use Rattle.std.specs.List.{AllByRecursion, flat_map, list_any}
use Rattle.std.proofs.lemmas.Bool.{eqb-true, true≢false}
use Rattle.std.proofs.lemmas.Bool.Decides.{Decides-and, Decides-eqb, Decides-like, same_from_decides}
use Rattle.std.proofs.lemmas.List.Elements.{Contains-append_left, Contains-append_right, Contains-append_cases}
use Rattle.std.proofs.lemmas.Map.Views.{Contains-from_any, list_any-from_Contains}
use Rattle.dom_base.proofs.Lists.{AllByRecursion-contains, AllByRecursion-from_places, Contains-slice_get, slice_get-contained}
use Rattle.blif_ast.specs.BlifFileData.{BlifFileData}
use Rattle.blif_ast.specs.Cards.{same}
use Rattle.blif_ast.specs.InstanceData.{InstanceData}
use Rattle.net_flatten.specs.declared.clocking.ControlAt.{ControlAt}
use Rattle.model_calls.specs.declared.fault.FlatKind.TheVariants.{ControlUsed}
use Rattle.net_flatten.specs.ClockSearches.{IsControlFound}
use Rattle.net_flatten.specs.Dependences.{level_at}
use Rattle.model_calls.specs.Ends.{End, controls, driven_end, drivers, end_at, main_outputs, output_of, read_ends, readers, state_of}
use Rattle.model_calls.specs.Expanded.{LatchPart, PlacedPart, PlacedTable, TablePart, expanded, latches, part_latch, part_table, tables}
use Rattle.net_flatten.specs.NetworkNumbers.{is_number, latches_among, pin_numbers}
use Rattle.part_numbers.specs.NumberedFiles.{IsNumberedFile, NumberedFileData, NumberedPartData, numbered_part, placed_part}
use Rattle.model_calls.specs.Numbering.{by_level, is_control_name, is_main, pins, signals_by_number}
use Rattle.model_calls.specs.Occurrences.{main_model}
use Rattle.model_calls.specs.Ordered.{in_order}
use Rattle.model_calls.specs.Refusal.{Refusal, At}
use Rattle.model_calls.specs.Refusals.{HasRefusal}
use Rattle.model_calls.specs.SignalFaults.{IsAtControl, ends_but_inputs, part_ends, signals}
use Rattle.model_calls.specs.Signals.{Signal, signal_of}
use Rattle.net_flatten.specs.TableNumbers.{tables_among}
use Rattle.net_flatten.proofs.ClockFaults.{kept_contains}
use Rattle.net_flatten.proofs.ControlFaults.{first_control, no_first_control}
use Rattle.model_calls.proofs.Drivers.{driven, driver_cases, readers_driven}
use Rattle.model_calls.proofs.EachPart.{each_flat}
use Rattle.model_calls.proofs.Firsts.{none_holds}
use Rattle.network.proofs.Lists.{contains_map}
use Rattle.model_calls.proofs.MainNames.{contains_flat}
use Rattle.net_flatten.proofs.NetworkLevels.{latch_drives, latches_alike, level_of, ordered_alike, table_drives}
use Rattle.part_numbers.proofs.NumberedEnds.{Number, Number-append, number_at, number_there, outputs_number, part_at, reads_number}
use Rattle.net_flatten.proofs.OrderedAlike.{filter_kept, kept_alike, map_alike}
use Rattle.model_calls.proofs.Pairs.{contains_to}
use Rattle.part_numbers.proofs.Permuted.{permuted_contains, permuted_order}
use Rattle.part_numbers.proofs.Ranges.{map_map}

-- a number stands in a list, if it isn't so that it doesn't
contains_stable : (xs : List ℕ) (x : ℕ) → ((Contains xs x → ⊥) → ⊥) → Contains xs x
contains_stable xs x stable = by (list_any (nat_eq x) xs) refl
  where
    by : (b : Bool) → list_any (nat_eq x) xs ≡ b → Contains xs x
    by true e = Contains-from_any eqb-true x xs e
    by false e = absurd (stable (λ c. true≢false (sym (list_any-from_Contains nat_eq_equiv x xs c) ∙ e)))

pub contains_kept : {X : Type 0} (test : X → Bool) (xs : List X) (x : X) → Contains xs x → test x ≡ true → Contains (filter test xs) x
contains_kept test xs x c passes =
    let i = slice_get-contained xs x c in
    subst (λ l. Contains l x) (sym (filter_kept test xs))
    (kept_contains (λ y. if test y then Some y else None) xs i.0 x x i.1 (ap (λ b. if b then Some x else None) passes))

-- a name of the main model is a signal's
is_main_decides : (path : List InstanceData) → Decides (is_main path) (path ≡ [])
is_main_decides [] = ((λ e. refl), λ e. refl)
is_main_decides (i ∷ up) = ((λ e. absurd (true≢false (sym e))), λ e. absurd cc)

main_name_decides : (s : Signal) (name : List ℕ) → Decides (is_main s.path && same s.name name) (s ≡ signal_of [] name)
main_name_decides s name = Decides-like (is_main s.path && same s.name name)
    (λ h i. record { path = h.0 i; name = h.1 i })
    (λ e. (ap (λ (t : Signal). t.path) e, ap (λ (t : Signal). t.name) e))
    (Decides-and (is_main s.path) (same s.name name) (is_main_decides s.path) (bytes_decides s.name name))

module _ {f : BlifFileData} {all : List Signal} {n : NumberedFileData} (is : IsNumberedFile f all n) where
  -- this is the number of the signal that controls latches, if one does
  abbrev pub IsControlNumber : Option ℕ → Type 0
  IsControlNumber control = option_map (slice_get all) control ≡ option_map (λ (e : End). Some e.signal) (slice_get (controls f) 0)

  pub control_found : (found : Option ControlAt) → IsControlFound n.parts found
      → IsControlNumber (option_map (λ (at : ControlAt). at.number) found)
  control_found None none = by (slice_get (controls f) 0) refl
    where
      by : (o : Option End) → slice_get (controls f) 0 ≡ o
          → option_map (slice_get all) None ≡ option_map (λ (e : End). Some e.signal) (slice_get (controls f) 0)
      by None e = ap (option_map (λ (d : End). Some d.signal)) (sym e)
      by (Some control) e = absurd (no_first_control f all n is none control e)
  control_found (Some at) first =
      let c = first_control f all n is at first in
      ap Some c.number_is ∙ ap (option_map (λ (e : End). Some e.signal)) (sym c.there)

  same_test : (control : Option ℕ) (end : Option End) → option_map (slice_get all) control ≡ option_map (λ (e : End). Some e.signal) end
      → (x : ℕ) (name : List ℕ) → slice_get all x ≡ Some (signal_of [] name) → is_number control x ≡ is_control_name end name
  same_test None None both x name at = refl
  same_test None (Some e) both x name at = absurd cc
  same_test (Some c) None both x name at = absurd cc
  same_test (Some c) (Some e) both x name at =
      let known : slice_get all c ≡ Some e.signal = cc in
      same_from_decides (nat_eq c x) (is_main e.signal.path && same e.signal.name name)
      (Decides-like (nat_eq c x)
      (λ equal. let i : Some e.signal ≡ Some (signal_of [] name) = sym known ∙ ap (slice_get all) equal ∙ at in let one : e.signal ≡ signal_of [] name = cc in one)
      (λ equal. is.apart c x (signal_of [] name) (known ∙ ap Some equal) at)
      (Decides-eqb c x))
      (main_name_decides e.signal name)

  module _ (control : Option ℕ) (known : IsControlNumber control) (levels : List ℕ) where
    pub pins_alike : map (slice_get all) (pin_numbers control n.inputs) ≡ map (λ name. Some (signal_of [] name)) (pins f)
    pins_alike =
        ap (map (slice_get all)) (filter_kept (λ x. not (is_number control x)) n.inputs)
        ∙ kept_alike (slice_get all) (λ name. Some (signal_of [] name)) (λ x. if not (is_number control x) then Some x else None)
        (λ name. if not (is_control_name (slice_get (controls f) 0) name) then Some name else None) (slice_get all) (λ name. Some (signal_of [] name)) alike n.inputs (main_model f).inputs
        (is.inputs ∙ map_map (λ (e : End). Some e.signal) (end_at [] (main_model f).line) (main_model f).inputs)
        ∙ ap (map (λ name. Some (signal_of [] name))) (sym (filter_kept (λ name. not (is_control_name (slice_get (controls f) 0) name)) (main_model f).inputs))
      where
        alike : (x : ℕ) (name : List ℕ) → slice_get all x ≡ Some (signal_of [] name)
            → option_map (slice_get all) (if not (is_number control x) then Some x else None)
            ≡ option_map (λ w. Some (signal_of [] w)) (if not (is_control_name (slice_get (controls f) 0) name) then Some name else None)
        alike x name at = by (is_control_name (slice_get (controls f) 0) name) (same_test control (slice_get (controls f) 0) known x name at)
          where
            by : (b : Bool) → is_number control x ≡ b
                → option_map (slice_get all) (if not (is_number control x) then Some x else None) ≡ option_map (λ w. Some (signal_of [] w)) (if not b then Some name else None)
            by true e = ap (λ t. option_map (slice_get all) (if not t then Some x else None)) e
            by false e = ap (λ t. option_map (slice_get all) (if not t then Some x else None)) e ∙ ap Some at

    abbrev pub ordered : List NumberedPartData
    ordered = in_order (λ p. level_at levels p.drives) (tables_among n.parts)

    abbrev pub ordered_tables : List PlacedTable
    ordered_tables = by_level (level_of is levels) f

    -- the numbers of all signals of the network
    abbrev pub network_numbers : List ℕ
    network_numbers = pin_numbers control n.inputs ++ map (λ (p : NumberedPartData). p.drives) (latches_among n.parts)
        ++ map (λ (p : NumberedPartData). p.drives) ordered

    abbrev pub network_signals : List Signal
    network_signals = signals_by_number f ordered_tables

    -- stand for the signals by number
    pub numbers_stand : Number all network_numbers network_signals
    numbers_stand =
        Number-append all (pin_numbers control n.inputs ++ map (λ (p : NumberedPartData). p.drives) (latches_among n.parts)) (map (λ (p : NumberedPartData). p.drives) ordered)
        (map (signal_of []) (pins f) ++ map state_of (latches f)) (map output_of ordered_tables)
        (Number-append all (pin_numbers control n.inputs) (map (λ (p : NumberedPartData). p.drives) (latches_among n.parts)) (map (signal_of []) (pins f)) (map state_of (latches f))
        (pins_alike ∙ sym (map_map Some (signal_of []) (pins f)))
        (map_map (slice_get all) (λ (p : NumberedPartData). p.drives) (latches_among n.parts)
        ∙ map_alike (numbered_part f all) (λ l. placed_part (LatchPart l)) (λ p. slice_get all p.drives) (λ l. Some (state_of l)) (latch_drives is) (latches_among n.parts) (latches f) (latches_alike is)
        ∙ sym (map_map Some state_of (latches f))))
        (map_map (slice_get all) (λ (p : NumberedPartData). p.drives) ordered
        ∙ map_alike (numbered_part f all) (λ t. placed_part (TablePart t)) (λ p. slice_get all p.drives) (λ t. Some (output_of t)) (table_drives is) ordered ordered_tables (ordered_alike is levels)
        ∙ sym (map_map Some output_of ordered_tables))

    module _ (accepted : (r : Refusal) → HasRefusal f r → ⊥) where
      -- no reader is at the control
      unused : (e c : End) → Contains (ends_but_inputs f) e → slice_get (controls f) 0 ≡ Some c → e.signal ≢ c.signal
      unused e c inside first equal =
          let i = slice_get-contained (ends_but_inputs f) e inside in
          none_holds (IsAtControl c.signal) (ends_but_inputs f)
          (λ d at. accepted (At ControlUsed d.line c.name) (record { control = c; control_is = first; at = record { element = d; first = at; line_is = refl; name_is = refl } }))
          i.0 e i.1 equal

      reader_end : (e : End) → Contains (readers f) e → Contains (ends_but_inputs f) e
      reader_end e c = elim (Contains-append_cases (flat_map read_ends (expanded f)) (main_outputs f) e c) [
        | inl read ↦ Contains-append_left (flat_map part_ends (expanded f)) (main_outputs f) e
            (AllByRecursion-contains (Contains (flat_map part_ends (expanded f))) (flat_map read_ends (expanded f)) e
            (each_flat (Contains (flat_map part_ends (expanded f))) read_ends (expanded f)
            (AllByRecursion-from_places (λ x. AllByRecursion (Contains (flat_map part_ends (expanded f))) (read_ends x)) (expanded f) (λ k x at.
            AllByRecursion-from_places (Contains (flat_map part_ends (expanded f))) (read_ends x) (λ j d there.
            contains_flat part_ends (expanded f) x d (Contains-slice_get (expanded f) k x at)
            (Contains-append_left (read_ends x) (driven_end x ∷ []) d (Contains-slice_get (read_ends x) j d there)))))) read)
        | inr output ↦ Contains-append_right (flat_map part_ends (expanded f)) (main_outputs f) e output
      ]

      -- a signal that is driven, and isn't the control, is one of the network
      driven_stands : (s : Signal) → ((c : End) → slice_get (controls f) 0 ≡ Some c → s ≢ c.signal) → Contains (signals (drivers f)) s
          → Contains network_signals s
      driven_stands s other c = elim (driver_cases f accepted s c) [
        | inl (name, inside, equal) ↦ Contains-append_left (map (signal_of []) (pins f) ++ map state_of (latches f)) (map output_of ordered_tables) s
            (Contains-append_left (map (signal_of []) (pins f)) (map state_of (latches f)) s
            (subst (Contains (map (signal_of []) (pins f))) (sym equal)
            (contains_to (signal_of []) (pins f) name (contains_kept (λ w. not (is_control_name (slice_get (controls f) 0) w)) (main_model f).inputs name inside
            (no_control_name (slice_get (controls f) 0) name (λ d first is_it. other d first (equal ∙ sym is_it)))))))
        | inr (part, inside, equal) ↦ subst (Contains network_signals) (sym equal) (of_part part (slice_get-contained (expanded f) part inside))
      ]
        where
          no_control_name : (o : Option End) (name : List ℕ) → ((d : End) → o ≡ Some d → d.signal ≢ signal_of [] name)
              → not (is_control_name o name) ≡ true
          no_control_name None name apart = refl
          no_control_name (Some d) name apart = by (is_control_name (Some d) name) refl
            where
              by : (b : Bool) → is_control_name (Some d) name ≡ b → not b ≡ true
              by false e = refl
              by true e = absurd (apart d refl ((main_name_decides d.signal name).0 e))

          of_part : (x : PlacedPart) → (k : ℕ) × (slice_get (expanded f) k ≡ Some x) → Contains network_signals (driven x)
          of_part (LatchPart l) (k, at) = Contains-append_left (map (signal_of []) (pins f) ++ map state_of (latches f)) (map output_of ordered_tables) (state_of l)
              (Contains-append_right (map (signal_of []) (pins f)) (map state_of (latches f)) (state_of l)
              (contains_to state_of (latches f) l (kept_contains part_latch (expanded f) k (LatchPart l) l at refl)))
          of_part (TablePart t) (k, at) = Contains-append_right (map (signal_of []) (pins f) ++ map state_of (latches f)) (map output_of ordered_tables) (output_of t)
              (contains_to output_of ordered_tables t
              (permuted_contains t (permuted_order (λ u. level_of is levels (output_of u)) (tables f)) (kept_contains part_table (expanded f) k (TablePart t) t at refl)))

      -- and so is its number
      reader_stands : (e : End) (x : ℕ) → Contains (readers f) e → slice_get all x ≡ Some e.signal → Contains network_numbers x
      reader_stands e x c at = contains_stable network_numbers x (λ none.
          AllByRecursion-contains (λ (d : End). (Contains (signals (drivers f)) d.signal → ⊥) → ⊥) (readers f) e (readers_driven f accepted) c (λ there.
          none (number_there all is.apart network_numbers network_signals x e.signal numbers_stand at
          (driven_stands e.signal (λ d first. unused e d (reader_end e c) first) there))))

      -- each number that a part reads stands among those of the network
      pub reads_stand : (k : ℕ) (p : NumberedPartData) → slice_get n.parts k ≡ Some p → (x : ℕ) → Contains p.reads x
          → Contains network_numbers x
      reads_stand k p at x c =
          let h = part_at f all n is k p at in
          let i = slice_get-contained p.reads x c in
          let s = number_at all p.reads (signals (read_ends h.0)) i.0 x (reads_number f all n is p h.0 h.2) i.1 in
          let e = contains_map (λ (d : End). d.signal) (read_ends h.0) s.0 (Contains-slice_get (signals (read_ends h.0)) i.0 s.0 s.1) in
          reader_stands e.0 x
          (Contains-append_left (flat_map read_ends (expanded f)) (main_outputs f) e.0
          (contains_flat read_ends (expanded f) h.0 e.0 (Contains-slice_get (expanded f) k h.0 h.1) e.1)) (s.2 ∙ ap Some e.2)

      -- and each that a main output has
      pub output_stands : (x : ℕ) → Contains n.outputs x → Contains network_numbers x
      output_stands x c =
          let i = slice_get-contained n.outputs x c in
          let s = number_at all n.outputs (signals (main_outputs f)) i.0 x (outputs_number f all n is) i.1 in
          let e = contains_map (λ (d : End). d.signal) (main_outputs f) s.0 (Contains-slice_get (signals (main_outputs f)) i.0 s.0 s.1) in
          reader_stands e.0 x (Contains-append_right (flat_map read_ends (expanded f)) (main_outputs f) e.0 e.1) (s.2 ∙ ap Some e.2)
