-- The network of the file of one model of a network has the inputs and the outputs of that network.
use Rattle.std.proofs.Common.{◌≡◌, ℕ, zero, suc, ◌+◌, List, [], ◌∷◌, ◌++◌, map, length, take, Some, refl, ap, sym, ◌∙◌, subst, append_assoc}
use Rattle.std.specs.Prelude.{slice_get, slice_index_or}
use Rattle.std.specs.List.{AllByRecursion, enumerate_from}
use Rattle.std.proofs.lemmas.List.{map-append}
use Rattle.std.proofs.Math.Seq.{take-append_seam}
use Rattle.dom_base.proofs.Lists.{AllByRecursion-append, AllByRecursion-every, AllByRecursion-map}
use Rattle.model_calls.specs.Ends.{output_of, state_of}
use Rattle.model_calls.specs.Expanded.{PlacedTable, latches, tables}
use Rattle.model_calls.specs.Numbering.{by_level, letters_w, name_by_number, pins, signals_by_number}
use Rattle.model_calls.specs.Signals.{Signal, signal_of}
use Rattle.model_calls.proofs.Apart.{each_in_order}
use Rattle.network.specs.NetworkData.{NetworkData}
use Rattle.network.specs.Networks.{IsNetwork}
use Rattle.net_flatten.specs.Flattening.{IsNetworkOf}
use Rattle.net_flatten.specs.OneModel.{file_of, name_at}
use Rattle.net_flatten.proofs.OneAccepted as one
use Rattle.part_numbers.proofs.Ranges.{map_map}
use Rattle.net_run.proofs.RunsAlike.{pins_are}

abbrev IsMain : Signal → Type 0
IsMain s = s.path ≡ []

own_names : (prefix : List ℕ) (k : ℕ) (all : List Signal) → AllByRecursion IsMain all
    → map (λ (p : ℕ × Signal). name_by_number prefix p.0 p.1) (enumerate_from k all) ≡ map (λ (s : Signal). s.name) all
own_names prefix k [] h = refl
own_names prefix k (s ∷ all) h =
    ap (λ path. name_by_number prefix k (record { path = path; name = s.name }) ∷ map (λ (p : ℕ × Signal). name_by_number prefix p.0 p.1) (enumerate_from (k + 1) all)) h.0
    ∙ ap (λ l. s.name ∷ l) (own_names prefix (k + 1) all h.1)

map_itself : (names : List (List ℕ)) → map (λ (name : List ℕ). name) names ≡ names
map_itself [] = refl
map_itself (name ∷ names) = ap (λ l. name ∷ l) (map_itself names)

-- the name that stands where a signal does
name_there : (all : List Signal) (k : ℕ) (s : Signal) → slice_get all k ≡ Some s → slice_index_or (map (λ (s : Signal). s.name) all) k [] ≡ s.name
name_there [] k s e = absurd cc
name_there (t ∷ all) zero s e = let i : t ≡ s = cc in ap (λ (u : Signal). u.name) i
name_there (t ∷ all) (suc k) s e = name_there all k s e

names_there : (all : List Signal) (numbers : List ℕ) (names : List (List ℕ)) → map (slice_get all) numbers ≡ map (λ name. Some (signal_of [] name)) names
    → map (λ k. slice_index_or (map (λ (s : Signal). s.name) all) k []) numbers ≡ names
names_there all [] [] e = refl
names_there all [] (name ∷ names) e = absurd cc
names_there all (k ∷ numbers) [] e = absurd cc
names_there all (k ∷ numbers) (name ∷ names) e =
    let first : slice_get all k ≡ Some (signal_of [] name) = cc in
    let rest : map (slice_get all) numbers ≡ map (λ name. Some (signal_of [] name)) names = cc in
    ap (λ l. l ∷ map (λ k. slice_index_or (map (λ (s : Signal). s.name) all) k []) numbers) (name_there all k (signal_of [] name) first)
    ∙ ap (λ l. name ∷ l) (names_there all numbers names rest)

module _ (n : NetworkData) (is : IsNetwork n) (k : NetworkData) (of : IsNetworkOf (file_of n) k) where
  abbrev ordered : List PlacedTable
  ordered = by_level of.level (file_of n)

  abbrev all : List Signal
  all = signals_by_number (file_of n) ordered

  abbrev name_of : Signal → List ℕ
  name_of s = s.name

  tables_main : AllByRecursion (λ t. IsMain (output_of t)) (tables (file_of n))
  tables_main = subst (AllByRecursion (λ t. IsMain (output_of t))) (sym (one.tables_are n is)) (one.each_table_here n is (λ t. IsMain (output_of t)) (λ j t e. refl))

  latches_main : AllByRecursion (λ l. IsMain (state_of l)) (latches (file_of n))
  latches_main = subst (AllByRecursion (λ l. IsMain (state_of l))) (sym (one.latches_are n is)) (one.each_latch_here n is (λ l. IsMain (state_of l)) (λ j l e. refl))

  all_main : AllByRecursion IsMain all
  all_main = AllByRecursion-append IsMain (map (signal_of []) (pins (file_of n)) ++ map state_of (latches (file_of n))) (map output_of ordered)
      (AllByRecursion-append IsMain (map (signal_of []) (pins (file_of n))) (map state_of (latches (file_of n)))
      (AllByRecursion-map IsMain (signal_of []) (pins (file_of n)) (AllByRecursion-every (λ name. IsMain (signal_of [] name)) (λ name. refl) (pins (file_of n))))
      (AllByRecursion-map IsMain state_of (latches (file_of n)) latches_main))
      (AllByRecursion-map IsMain output_of ordered (each_in_order (λ t. of.level (output_of t)) (λ t. IsMain (output_of t)) (tables (file_of n)) tables_main))

  names_are : k.names ≡ map name_of all
  names_are = of.network.names_are ∙ own_names (letters_w of.width) 0 all all_main

  pub same_inputs : take k.inputs k.names ≡ take n.inputs n.names
  same_inputs =
      let states = map name_of (map state_of (latches (file_of n))) in
      let outputs = map name_of (map output_of ordered) in
      let own : map name_of (map (signal_of []) (pins (file_of n))) ≡ pins (file_of n) = map_map name_of (signal_of []) (pins (file_of n)) ∙ map_itself (pins (file_of n)) in
      let split : map name_of all ≡ pins (file_of n) ++ (states ++ outputs) =
      map-append name_of (map (signal_of []) (pins (file_of n)) ++ map state_of (latches (file_of n))) (map output_of ordered)
      ∙ ap (λ l. l ++ outputs) (map-append name_of (map (signal_of []) (pins (file_of n))) (map state_of (latches (file_of n))))
      ∙ append_assoc (map name_of (map (signal_of []) (pins (file_of n)))) states outputs
      ∙ ap (λ l. l ++ (states ++ outputs)) own in
      ap (λ count. take count k.names) of.network.inputs_are
      ∙ ap (take (length (pins (file_of n)))) (names_are ∙ split)
      ∙ take-append_seam (pins (file_of n)) (states ++ outputs)
      ∙ pins_are n k is of

  pub same_outputs : map (name_at k) k.outputs ≡ map (name_at n) n.outputs
  same_outputs =
      ap (λ (names : List (List ℕ)). map (λ j. slice_index_or names j []) k.outputs) names_are
      ∙ names_there all k.outputs (map (name_at n) n.outputs) of.network.outputs_are

  pub same_name : k.name ≡ n.name
  same_name = of.network.name_is
