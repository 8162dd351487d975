-- A file by numbers: what the numbers of a walk over all paths stand for.
use Rattle.std.proofs.Common.{inl, inr, ◌≡◌, ℕ, zero, suc, ◌<◌, ◌≤◌, ◌+◌, ◌-◌, false, List, [], ◌∷◌, ◌++◌, map, length, take, drop, Option, Some, None, refl, ap, sym, ◌∙◌, subst, arith}
use Rattle.std.specs.Prelude.{Contains, slice_get}
use Rattle.std.specs.List.{AllByRecursion, flat_map}
use Rattle.std.specs.Option.{option_map}
use Rattle.std.proofs.lemmas.List.Elements.{All-from_recursion}
use Rattle.std.proofs.lemmas.Option.{get_or_from_slice_get, slice_get_within}
use Rattle.std.proofs.lemmas.List.{length-map, take_all}
use Rattle.dom_base.proofs.Lists.{AllByRecursion-every, AllByRecursion-from_places, AllByRecursion-map, AllByRecursion-weaker, Contains-slice_get, head_same, tail_same}
use Rattle.blif_ast.specs.BlifFileData.{BlifFileData}
use Rattle.blif_ast.specs.Good.{IsGoodFile}
use Rattle.blif_ast.specs.InstanceData.{InstanceData}
use Rattle.blif_ast.specs.TableData.{TableData}
use Rattle.blif_ast.specs.declared.latch.Latch.{Latch}
use Rattle.model_calls.specs.Counts.{signal_count}
use Rattle.model_calls.specs.Ends.{end_at, main_inputs, main_outputs}
use Rattle.model_calls.specs.Expanded.{BodyCard, LatchCard, LatchPart, PlacedPart, TableCard, TablePart, expanded, expanded_from}
use Rattle.part_numbers.specs.Expansions.{ExpansionData, HasModel, IsExpansion, IsPartInside, IsScope, part_at, part_with, path_at, scope_occurrences}
use Rattle.network.specs.Limits.{most_signals}
use Rattle.part_numbers.specs.LineOccurrences.{line_occurrences_from}
use Rattle.part_numbers.specs.NumberedFiles.{IsNumberedFile, NumberedFileData, PartBySignals, card_at, model_at, numbered_part, placed_part, signals_at}
use Rattle.model_calls.specs.Numbering.{is_main}
use Rattle.model_calls.specs.Occurrences.{Occurrence, first_model, main_model, names_of, names_of_latch, names_of_table, occurrences, occurrences_from}
use Rattle.model_calls.specs.Pairs.{pairs_of}
use Rattle.part_numbers.specs.PartNumbers.{IsNumberedPart, card_by_numbers, control_name, part_by_numbers}
use Rattle.model_calls.specs.Refusal.{At}
use Rattle.model_calls.specs.Refusals.{HasRefusal}
use Rattle.part_numbers.specs.SignalNumbers.{AreNumbers, HasFewPairs, HasSignalNumber, HasSignalNumbers, SignalNumbersData, model_names, names_at, scope_pairs, signal_number}
use Rattle.model_calls.specs.Signals.{Signal, signal_of}
use Rattle.model_calls.specs.declared.fault.FlatKind.TheVariants.{Recursion}
use Rattle.part_numbers.specs.declared.numbered.PartCard.{PartCard}
use Rattle.part_numbers.specs.declared.numbered.PartCard.TheVariants.{Table, Latch as LatchIndex}
use Rattle.part_numbers.specs.declared.walk.Scope.{Scope}
use Rattle.part_numbers.specs.declared.walk.ScopedPart.{ScopedPart}
use Rattle.model_calls.proofs.Apart.{place_once}
use Rattle.part_numbers.proofs.DeepEnough.{deep_enough}
use Rattle.model_calls.proofs.EachPart.{each_flat, each_itself}
use Rattle.part_numbers.proofs.LineOccurrences.{lines_permuted}
use Rattle.part_numbers.proofs.OccurrencesApart.{path_of, paths_apart}
use Rattle.model_calls.proofs.Pairs.{count_pairs}
use Rattle.part_numbers.proofs.PairsApart.{all_pairs_apart}
use Rattle.part_numbers.proofs.Permuted.{Permuted, permuted_apart, permuted_flat, permuted_length}
use Rattle.part_numbers.proofs.SignalNumbers.{in_file, names_are, number_is}
use Rattle.part_numbers.proofs.CardNames.{control_of_latch, input_named, input_of_latch, inputs_of_table, latch_named, output_named, output_of_latch, output_of_table, table_named}

drop_front : {X : Type 0} (xs ys : List X) (n : ℕ) → length xs ≡ n → drop n (xs ++ ys) ≡ ys
drop_front [] ys zero e = refl
drop_front [] ys (suc n) e = absurd (omega (arith, e))
drop_front (x ∷ xs) ys zero e = absurd (omega (arith, e))
drop_front (x ∷ xs) ys (suc n) e = drop_front xs ys n (omega (arith, e))

take_front : {X : Type 0} (xs ys : List X) (n : ℕ) → length xs ≡ n → take n (xs ++ ys) ≡ xs
take_front [] ys zero e = refl
take_front [] ys (suc n) e = absurd (omega (arith, e))
take_front (x ∷ xs) ys zero e = absurd (omega (arith, e))
take_front (x ∷ xs) ys (suc n) e = ap (λ l. x ∷ l) (take_front xs ys n (omega (arith, e)))

length_occurrences : (f : BlifFileData) (ps : List (List InstanceData)) (ss : List Scope) → length ps ≡ length ss → length (scope_occurrences f ps ss) ≡ length ss
length_occurrences f [] [] e = refl
length_occurrences f [] (s ∷ ss) e = absurd (omega (arith, e))
length_occurrences f (p ∷ ps) [] e = absurd (omega (arith, e))
length_occurrences f (p ∷ ps) (s ∷ ss) e = ap suc (length_occurrences f ps ss (omega (arith, e)))

occurrence_back : (f : BlifFileData) (ps : List (List InstanceData)) (ss : List Scope) (k : ℕ) (o : Occurrence) → slice_get (scope_occurrences f ps ss) k ≡ Some o
    → (s : Scope) × (slice_get ss k ≡ Some s) × (o.path ≡ path_at ps k)
occurrence_back f [] ss k o e = absurd cc
occurrence_back f (p ∷ ps) [] k o e = absurd cc
occurrence_back f (p ∷ ps) (s ∷ ss) zero o e = let is : record { path = p; model = model_at f s.model } ≡ o = cc in (s, refl, ap (λ (q : Occurrence). q.path) (sym is))
occurrence_back f (p ∷ ps) (s ∷ ss) (suc k) o e = occurrence_back f ps ss k o e

pub numbers_at : (f : BlifFileData) (depth : ℕ) (e : ExpansionData) (x : IsExpansion f depth e) (n : SignalNumbersData) (scopes : List Scope) → scopes ≡ e.scopes → HasSignalNumbers f scopes n
    → AreNumbers f e.scopes x.paths (length e.scopes) n
numbers_at f depth e x n scopes is numbers = subst (λ ss. HasSignalNumbers f ss n) is numbers x.paths x.are_paths

module _ (f : BlifFileData) (depth : ℕ) (good : IsGoodFile f) (deep : length f.models ≤ depth + 1)
    (no_recursion : (line : ℕ) (name : List ℕ) → HasRefusal f (At Recursion line name) → ⊥) where
  depth_is : suc depth ≡ length f.models + (depth + 1 - length f.models)
  depth_is = omega (arith, deep)

  expanded_is : expanded_from f.models (suc depth) [] (main_model f) ≡ expanded f
  expanded_is = ap (λ d. expanded_from f.models d [] (main_model f)) depth_is ∙ (deep_enough f no_recursion good.some (depth + 1 - length f.models)).0

  lines_are : Permuted (line_occurrences_from f.models (suc depth) [] (main_model f)) (occurrences f)
  lines_are = subst (Permuted (line_occurrences_from f.models (suc depth) [] (main_model f)))
      (ap (λ d. occurrences_from f.models d [] (main_model f)) depth_is ∙ (deep_enough f no_recursion good.some (depth + 1 - length f.models)).1)
      (lines_permuted f.models (suc depth) [] (main_model f))

  module _ (e : ExpansionData) (x : IsExpansion f depth e) where
    scopes_permuted : Permuted (scope_occurrences f x.paths e.scopes) (occurrences f)
    scopes_permuted = subst (λ l. Permuted l (occurrences f)) (sym x.scopes_are) lines_are

    pub pairs_counted : length (scope_pairs f x.paths e.scopes) ≡ signal_count f
    pairs_counted = permuted_length (permuted_flat pairs_of scopes_permuted) ∙ count_pairs f

    pub pairs_once : (j k : ℕ) (s : Signal) → slice_get (scope_pairs f x.paths e.scopes) j ≡ Some s → slice_get (scope_pairs f x.paths e.scopes) k ≡ Some s → j ≡ k
    pairs_once j k s a b = place_once (scope_pairs f x.paths e.scopes) j k s
        (all_pairs_apart (scope_occurrences f x.paths e.scopes) (permuted_apart path_of scopes_permuted (paths_apart f good))) a b

    pub few_pairs : signal_count f ≤ most_signals → HasFewPairs f e.scopes
    few_pairs few = record { paths = x.paths; are_paths = x.are_paths; few = omega (arith, few, pairs_counted) }

    module _ (n : SignalNumbersData) (numbers : AreNumbers f e.scopes x.paths (length e.scopes) n) where
      abbrev pairs_now : List Signal
      pairs_now = scope_pairs f x.paths e.scopes

      pub roots_counted : length n.roots ≡ length pairs_now
      roots_counted = numbers.all ∙ ap (λ l. length (flat_map pairs_of l))
          (take_all (length e.scopes) (scope_occurrences f x.paths e.scopes) (omega (arith, length_occurrences f x.paths e.scopes x.are_paths.count)))

      -- the number of a name in a scope of this model stands for its signal
      pub record StandsFor (scope model : ℕ) (name : List ℕ) : Type 0 where
        pub has : HasSignalNumber n scope model name
        pub stands : slice_get pairs_now (signal_number n scope model name) ≡ Some (signal_of (path_at x.paths scope) name)

      stands_for : (scope model : ℕ) (name : List ℕ) → HasModel e.scopes scope model → Contains (names_of (model_at f model)) name → StandsFor scope model name
      stands_for scope model name (s, there, is) c =
          subst (λ m. StandsFor scope m name) is (
          let number = number_is f e.scopes x.paths x.are_paths (length e.scopes) n numbers scope s name (slice_get_within e.scopes scope s there) there
          (subst (λ m. Contains (names_of (model_at f m)) name) (sym is) c) in
          record { has = number.has; stands = number.stands }
          )

      names_have : (scope model : ℕ) → HasModel e.scopes scope model → (names : List (List ℕ)) → AllByRecursion (Contains (names_of (model_at f model))) names
          → AllByRecursion (HasSignalNumber n scope model) names
      names_have scope model at names inside = AllByRecursion-weaker (Contains (names_of (model_at f model))) (HasSignalNumber n scope model) (λ name c. (stands_for scope model name at c).has) names inside

      names_stand : (scope model line : ℕ) → HasModel e.scopes scope model → (names : List (List ℕ)) → AllByRecursion (Contains (names_of (model_at f model))) names
          → map (slice_get pairs_now) (map (signal_number n scope model) names) ≡ signals_at (map (end_at (path_at x.paths scope) line) names)
      names_stand scope model line at [] h = refl
      names_stand scope model line at (name ∷ names) h =
          ap (λ s. s ∷ map (slice_get pairs_now) (map (signal_number n scope model) names)) (stands_for scope model name at h.0).stands
          ∙ ap (λ l. Some (signal_of (path_at x.paths scope) name) ∷ l) (names_stand scope model line at names h.1)

      -- scope 0 is the main model's

      main_is : slice_get f.models 0 ≡ Some (main_model f) → model_at f 0 ≡ main_model f
      main_is main = get_or_from_slice_get f.models 0 (main_model f) (first_model []) main

      record IsMainScope : Type 0 where
        pub at : HasModel e.scopes 0 0
        pub path : path_at x.paths 0 ≡ []
        pub more_paths : List (List InstanceData)
        pub more_scopes : List Scope
        pub first : Scope
        pub paths_are : x.paths ≡ [] ∷ more_paths
        pub scopes_are : e.scopes ≡ first ∷ more_scopes
        pub first_is : first.model ≡ 0

      main_scope : IsMainScope
      main_scope = by x.paths e.scopes refl refl
        where
          by : (ps : List (List InstanceData)) (ss : List Scope) → x.paths ≡ ps → e.scopes ≡ ss → IsMainScope
          by [] ss p q = let z : scope_occurrences f [] e.scopes ≡ line_occurrences_from f.models (suc depth) [] (main_model f) = ap (λ l. scope_occurrences f l e.scopes) (sym p) ∙ x.scopes_are in absurd cc
          by (path ∷ ps) [] p q =
              let z : scope_occurrences f (path ∷ ps) [] ≡ line_occurrences_from f.models (suc depth) [] (main_model f) =
              ap (λ l. scope_occurrences f l []) (sym p) ∙ ap (scope_occurrences f x.paths) (sym q) ∙ x.scopes_are in absurd cc
          by (path ∷ ps) (s ∷ ss) p q = record {
            at = (s, there, model_is (x.are_paths.scopes_are 0 s there));
            path = ap (λ l. path_at l 0) p ∙ path_is;
            more_paths = ps;
            more_scopes = ss;
            first = s;
            paths_are = p ∙ ap (λ l. l ∷ ps) path_is;
            scopes_are = q;
            first_is = model_is (x.are_paths.scopes_are 0 s there);
          }
            where
              there : slice_get e.scopes 0 ≡ Some s
              there = ap (λ l. slice_get l 0) q

              whole : scope_occurrences f (path ∷ ps) (s ∷ ss) ≡ line_occurrences_from f.models (suc depth) [] (main_model f)
              whole = ap (λ l. scope_occurrences f l (s ∷ ss)) (sym p) ∙ ap (scope_occurrences f x.paths) (sym q) ∙ x.scopes_are

              path_is : path ≡ []
              path_is = ap (λ (o : Occurrence). o.path) (head_same whole)

              model_is : IsScope f x.paths e.scopes 0 s → s.model ≡ 0
              model_is (inl main) = main.2
              model_is (inr b) = absurd (omega (arith, b.above))

      -- the main model's names come first, and no other signal is at its path

      module _ (main : slice_get f.models 0 ≡ Some (main_model f)) where
        abbrev later : List Occurrence
        later = scope_occurrences f main_scope.more_paths main_scope.more_scopes

        split : pairs_now ≡ map (signal_of []) (model_names (main_model f)) ++ flat_map pairs_of later
        unfolding main_scope
        split = ap (λ ps. scope_pairs f ps e.scopes) main_scope.paths_are ∙ ap (scope_pairs f ([] ∷ main_scope.more_paths)) main_scope.scopes_are
            ∙ ap (λ m. map (signal_of []) (model_names m) ++ flat_map pairs_of later) (ap (model_at f) main_scope.first_is ∙ main_is main)

        split_count : length (map (signal_of []) (model_names (main_model f))) ≡ length (model_names (main_model f))
        split_count = length-map (model_names (main_model f)) (signal_of [])

        main_first : take (length (model_names (main_model f))) pairs_now ≡ map (signal_of []) (model_names (main_model f))
        main_first = ap (take (length (model_names (main_model f)))) split
            ∙ take_front (map (signal_of []) (model_names (main_model f))) (flat_map pairs_of later) (length (model_names (main_model f))) split_count

        later_below : (k : ℕ) (o : Occurrence) → slice_get later k ≡ Some o → is_main o.path ≡ false
        unfolding main_scope
        later_below k o there = by back (x.are_paths.scopes_are (suc k) back.0 (ap (λ l. slice_get l (suc k)) main_scope.scopes_are ∙ back.1))
          where
            back : (s : Scope) × (slice_get main_scope.more_scopes k ≡ Some s) × (o.path ≡ path_at main_scope.more_paths k)
            back = occurrence_back f main_scope.more_paths main_scope.more_scopes k o there

            by : (b : (s : Scope) × (slice_get main_scope.more_scopes k ≡ Some s) × (o.path ≡ path_at main_scope.more_paths k)) → IsScope f x.paths e.scopes (suc k) b.0 → is_main o.path ≡ false
            by b (inl first) = absurd (let z : suc k ≡ 0 = first.0 in omega (arith, z))
            by b (inr below) = ap is_main (b.2 ∙ ap (λ ps. path_at ps (suc k)) (sym main_scope.paths_are) ∙ below.path_is)

        others_below : AllByRecursion (λ (s : Signal). is_main s.path ≡ false) (drop (length (model_names (main_model f))) pairs_now)
        others_below = subst (AllByRecursion (λ (s : Signal). is_main s.path ≡ false))
            (sym (ap (drop (length (model_names (main_model f)))) split
            ∙ drop_front (map (signal_of []) (model_names (main_model f))) (flat_map pairs_of later) (length (model_names (main_model f))) split_count))
            (each_flat (λ (s : Signal). is_main s.path ≡ false) pairs_of later
            (AllByRecursion-weaker (λ (o : Occurrence). is_main o.path ≡ false) (λ o. AllByRecursion (λ (s : Signal). is_main s.path ≡ false) (pairs_of o))
            (λ o below. AllByRecursion-map (λ (s : Signal). is_main s.path ≡ false) (λ name. record { path = o.path; name = name }) (model_names o.model)
            (AllByRecursion-every (λ name. is_main o.path ≡ false) (λ name. below) (model_names o.model)))
            later (AllByRecursion-from_places (λ (o : Occurrence). is_main o.path ≡ false) later later_below)))

        -- ports

        inputs_inside : AllByRecursion (Contains (names_of (model_at f 0))) (main_model f).inputs
        inputs_inside = subst (λ m. AllByRecursion (Contains (names_of m)) (main_model f).inputs) (sym (main_is main))
            (AllByRecursion-weaker (Contains (main_model f).inputs) (Contains (names_of (main_model f))) (λ name c. input_named (main_model f) name c) (main_model f).inputs (each_itself (main_model f).inputs))

        outputs_inside : AllByRecursion (Contains (names_of (model_at f 0))) (main_model f).outputs
        outputs_inside = subst (λ m. AllByRecursion (Contains (names_of m)) (main_model f).outputs) (sym (main_is main))
            (AllByRecursion-weaker (Contains (main_model f).outputs) (Contains (names_of (main_model f))) (λ name c. output_named (main_model f) name c) (main_model f).outputs (each_itself (main_model f).outputs))

        pub inputs_have : AllByRecursion (HasSignalNumber n 0 0) (main_model f).inputs
        inputs_have = names_have 0 0 main_scope.at (main_model f).inputs inputs_inside

        pub outputs_have : AllByRecursion (HasSignalNumber n 0 0) (main_model f).outputs
        outputs_have = names_have 0 0 main_scope.at (main_model f).outputs outputs_inside

        inputs_stand : map (slice_get pairs_now) (map (signal_number n 0 0) (main_model f).inputs) ≡ signals_at (main_inputs f)
        inputs_stand = names_stand 0 0 (main_model f).line main_scope.at (main_model f).inputs inputs_inside
            ∙ ap (λ path. signals_at (map (end_at path (main_model f).line) (main_model f).inputs)) main_scope.path

        outputs_stand : map (slice_get pairs_now) (map (signal_number n 0 0) (main_model f).outputs) ≡ signals_at (main_outputs f)
        outputs_stand = names_stand 0 0 (main_model f).line main_scope.at (main_model f).outputs outputs_inside
            ∙ ap (λ path. signals_at (map (end_at path (main_model f).line) (main_model f).outputs)) main_scope.path

        pub main_names : names_at n 0 ≡ model_names (main_model f)
        main_names = names_are f e.scopes x.paths x.are_paths (length e.scopes) n numbers 0 (slice_get_within f.models 0 (main_model f) main) ∙ ap model_names (main_is main)

      -- parts

      table_stands : (scope model k : ℕ) (t : TableData) → HasModel e.scopes scope model → slice_get (model_at f model).tables k ≡ Some t
          → numbered_part f pairs_now (part_by_numbers f n (record { scope = scope; model = model; card = Table k })) ≡ placed_part (TablePart (record { path = path_at x.paths scope; table = t }))
      table_stands scope model k t at there =
          ap (λ c. numbered_part f pairs_now (card_by_numbers n (record { scope = scope; model = model; card = Table k }) (option_map TableCard c))) there
          ∙ ap (λ c. table_part (option_map TableCard c) (map (slice_get pairs_now) (map (signal_number n scope model) t.inputs)) (slice_get pairs_now (signal_number n scope model t.output))) there
          ∙ ap (λ reads. table_part (Some (TableCard t)) reads (slice_get pairs_now (signal_number n scope model t.output)))
          (names_stand scope model t.line at t.inputs (AllByRecursion-weaker (Contains (names_of_table t)) (Contains (names_of (model_at f model)))
          (λ name c. table_named (model_at f model) t name (Contains-slice_get (model_at f model).tables k t there) c) t.inputs (inputs_of_table t)))
          ∙ ap (table_part (Some (TableCard t)) (signals_at (map (end_at (path_at x.paths scope) t.line) t.inputs)))
          (stands_for scope model t.output at (table_named (model_at f model) t t.output (Contains-slice_get (model_at f model).tables k t there) (output_of_table t))).stands
        where
          table_part : Option BodyCard → List (Option Signal) → Option Signal → PartBySignals
          table_part card reads drives = record { card = card; reads = reads; drives = drives; control = None }

      latch_stands : (scope model k : ℕ) (l : Latch) → HasModel e.scopes scope model → slice_get (model_at f model).latches k ≡ Some l
          → numbered_part f pairs_now (part_by_numbers f n (record { scope = scope; model = model; card = LatchIndex k })) ≡ placed_part (LatchPart (record { path = path_at x.paths scope; latch = l }))
      latch_stands scope model k l at there =
          ap (λ c. numbered_part f pairs_now (card_by_numbers n (record { scope = scope; model = model; card = LatchIndex k }) (option_map LatchCard c))) there
          ∙ ap (λ c. latch_part (option_map LatchCard c) (slice_get pairs_now (signal_number n scope model l.input)) (slice_get pairs_now (signal_number n scope model l.output)) controls) there
          ∙ ap (λ read. latch_part (Some (LatchCard l)) read (slice_get pairs_now (signal_number n scope model l.output)) controls) (of_latch l.input (input_of_latch l))
          ∙ ap (λ drives. latch_part (Some (LatchCard l)) (Some (signal_of (path_at x.paths scope) l.input)) drives controls) (of_latch l.output (output_of_latch l))
          ∙ ap (latch_part (Some (LatchCard l)) (Some (signal_of (path_at x.paths scope) l.input)) (Some (signal_of (path_at x.paths scope) l.output))) (by (control_name l) refl)
        where
          latch_part : Option BodyCard → Option Signal → Option Signal → Option (Option Signal) → PartBySignals
          latch_part card read drives control = record { card = card; reads = read ∷ []; drives = drives; control = control }

          controls : Option (Option Signal)
          controls = option_map (slice_get pairs_now) (option_map (signal_number n scope model) (control_name l))

          of_latch : (name : List ℕ) → Contains (names_of_latch l) name → slice_get pairs_now (signal_number n scope model name) ≡ Some (signal_of (path_at x.paths scope) name)
          of_latch name c = (stands_for scope model name at (latch_named (model_at f model) l name (Contains-slice_get (model_at f model).latches k l there) c)).stands

          by : (found : Option (List ℕ)) → control_name l ≡ found → option_map (slice_get pairs_now) (option_map (signal_number n scope model) found) ≡ option_map Some (option_map (signal_of (path_at x.paths scope)) found)
          by None is = refl
          by (Some name) is = ap Some (of_latch name (control_of_latch l name is))

      -- what a part is where it stands for a part of the expanded list
      record IsPartOf (p : ScopedPart) (y : PlacedPart) : Type 0 where
        pub numbered : IsNumberedPart f n p
        pub stands : numbered_part f pairs_now (part_by_numbers f n p) ≡ placed_part y

      part_of : (p : ScopedPart) (y : PlacedPart) → IsPartInside e.scopes p → part_at f x.paths p ≡ Some y → IsPartOf p y
      part_of p y inside is = by p.card refl
        where
          model_in : p.model < length f.models
          model_in = subst (λ m. m < length f.models) inside.1.2 (in_file f e.scopes x.paths x.are_paths p.scope inside.1.0 inside.1.1)

          numbered : (card : BodyCard) → card_at (model_at f p.model) p.card ≡ Some card → IsNumberedPart f n p
          numbered card card_is = record { model_in = model_in; card = card; card_is = card_is; numbered = λ name c. (stands_for p.scope p.model name inside.1 c).has }

          table : (k : ℕ) → p.card ≡ Table k → (found : Option TableData) → slice_get (model_at f p.model).tables k ≡ found → option_map (λ (t : TableData). TablePart (record { path = path_at x.paths p.scope; table = t })) found ≡ Some y → IsPartOf p y
          table k card_is None there e = absurd cc
          table k card_is (Some t) there e = record {
            numbered = numbered (TableCard t) (ap (card_at (model_at f p.model)) card_is ∙ ap (option_map TableCard) there);
            stands = ap (λ c. numbered_part f pairs_now (part_by_numbers f n (record { scope = p.scope; model = p.model; card = c }))) card_is ∙ table_stands p.scope p.model k t inside.1 there
                ∙ ap placed_part (let z : TablePart (record { path = path_at x.paths p.scope; table = t }) ≡ y = cc in z);
          }

          latch : (k : ℕ) → p.card ≡ LatchIndex k → (found : Option Latch) → slice_get (model_at f p.model).latches k ≡ found → option_map (λ (l : Latch). LatchPart (record { path = path_at x.paths p.scope; latch = l })) found ≡ Some y → IsPartOf p y
          latch k card_is None there e = absurd cc
          latch k card_is (Some l) there e = record {
            numbered = numbered (LatchCard l) (ap (card_at (model_at f p.model)) card_is ∙ ap (option_map LatchCard) there);
            stands = ap (λ c. numbered_part f pairs_now (part_by_numbers f n (record { scope = p.scope; model = p.model; card = c }))) card_is ∙ latch_stands p.scope p.model k l inside.1 there
                ∙ ap placed_part (let z : LatchPart (record { path = path_at x.paths p.scope; latch = l }) ≡ y = cc in z);
          }

          by : (card : PartCard) → p.card ≡ card → IsPartOf p y
          by (Table k) card_is = table k card_is (slice_get (model_at f p.model).tables k) refl (ap (part_with (path_at x.paths p.scope) (model_at f p.model)) (sym card_is) ∙ is)
          by (LatchIndex k) card_is = latch k card_is (slice_get (model_at f p.model).latches k) refl (ap (part_with (path_at x.paths p.scope) (model_at f p.model)) (sym card_is) ∙ is)

      parts_numbered : (ps : List ScopedPart) (ys : List PlacedPart) → AllByRecursion (IsPartInside e.scopes) ps → map (part_at f x.paths) ps ≡ map Some ys → AllByRecursion (IsNumberedPart f n) ps
      parts_numbered [] ys h e = tt
      parts_numbered (p ∷ ps) [] h e = absurd cc
      parts_numbered (p ∷ ps) (y ∷ ys) h e = ((part_of p y h.0 (head_same e)).numbered, parts_numbered ps ys h.1 (tail_same e))

      parts_stand : (ps : List ScopedPart) (ys : List PlacedPart) → AllByRecursion (IsPartInside e.scopes) ps → map (part_at f x.paths) ps ≡ map Some ys
          → map (numbered_part f pairs_now) (map (part_by_numbers f n) ps) ≡ map placed_part ys
      parts_stand [] [] h e = refl
      parts_stand [] (y ∷ ys) h e = absurd cc
      parts_stand (p ∷ ps) [] h e = absurd cc
      parts_stand (p ∷ ps) (y ∷ ys) h e =
          ap (λ s. s ∷ map (numbered_part f pairs_now) (map (part_by_numbers f n) ps)) (part_of p y h.0 (head_same e)).stands
          ∙ ap (λ l. placed_part y ∷ l) (parts_stand ps ys h.1 (tail_same e))

      pub all_numbered : AllByRecursion (IsNumberedPart f n) e.parts
      all_numbered = parts_numbered e.parts (expanded_from f.models (suc depth) [] (main_model f)) x.parts_inside x.parts_are

      all_stand : map (numbered_part f pairs_now) (map (part_by_numbers f n) e.parts) ≡ map placed_part (expanded f)
      all_stand = parts_stand e.parts (expanded_from f.models (suc depth) [] (main_model f)) x.parts_inside x.parts_are ∙ ap (map placed_part) expanded_is

      -- the file by numbers
      pub record IsMade (m : NumberedFileData) : Type 0 where
        pub signals : m.signals ≡ length n.roots
        pub names : m.names ≡ names_at n 0
        pub parts : m.parts ≡ map (part_by_numbers f n) e.parts
        pub inputs : m.inputs ≡ map (signal_number n 0 0) (main_model f).inputs
        pub outputs : m.outputs ≡ map (signal_number n 0 0) (main_model f).outputs

      pub made_file : slice_get f.models 0 ≡ Some (main_model f) → signal_count f ≤ most_signals → (m : NumberedFileData) → IsMade m → IsNumberedFile f pairs_now m
      made_file main few m made = record {
        apart = pairs_once;
        count = sym roots_counted ∙ sym made.signals;
        few = omega (arith, few, pairs_counted, roots_counted, made.signals);
        names = names_is;
        main_first = ap (λ names. take (length names) pairs_now) names_is ∙ main_first main ∙ ap (map (signal_of [])) (sym names_is);
        others_below = All-from_recursion (λ (s : Signal). is_main s.path ≡ false) (drop (length m.names) pairs_now)
            (subst (λ names. AllByRecursion (λ (s : Signal). is_main s.path ≡ false) (drop (length names) pairs_now)) (sym names_is) (others_below main));
        inputs = ap (map (slice_get pairs_now)) made.inputs ∙ inputs_stand main;
        outputs = ap (map (slice_get pairs_now)) made.outputs ∙ outputs_stand main;
        parts = ap (map (numbered_part f pairs_now)) made.parts ∙ all_stand;
      }
        where
          names_is : m.names ≡ model_names (main_model f)
          names_is = made.names ∙ main_names main
