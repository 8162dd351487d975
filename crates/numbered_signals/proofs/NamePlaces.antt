-- The places of names among those of their models, and the numbers of their signals.
use Rattle.std.proofs.Common.{◌≡◌, ℕ, zero, suc, ◌<◌, ◌+◌, List, [], ◌∷◌, map, length, Some, refl, ap, sym, ◌∙◌, subst, arith}
use Rattle.std.specs.Prelude.{Contains, position, slice_get, slice_index_or, unwrap_or}
use Rattle.std.specs.List.{AllByRecursion}
use Rattle.std.proofs.lemmas.List.{length-map}
use Rattle.std.proofs.lemmas.Option.{get_or_from_slice_get}
use Rattle.dom_base.proofs.Lists.{AllByRecursion-contains, Contains-slice_get, head_same, slice_get-there, tail_same}
use Rattle.network.proofs.Lists.{get_map}
use Rattle.blif_ast.specs.BlifModelData.{BlifModelData}
use Rattle.blif_ast.specs.Cards.{same}
use Rattle.model_calls.specs.Occurrences.{first_model, names_of}
use Rattle.model_calls.proofs.Apart.{place_once}
use Rattle.model_calls.proofs.EachPart.{each_itself}
use Rattle.model_calls.proofs.UniqueNames.{number_in, unique_apart, unique_each}
use Rattle.numbered_file.specs.NumberedData.{NumberedData}
use Rattle.numbered_file.specs.Numbered.{file_of, models_in, name_of, named}
use Rattle.local_names.specs.LocalNames.{AreLocalNames, AreLocals, LocalNamesData, names_in}
use Rattle.part_numbers.specs.NumberedFiles.{model_at}
use Rattle.part_numbers.specs.SignalNumbers.{AreDistinctNames, HasSignalNumber, model_names, pair_number, signal_number}
use Rattle.numbered_signals.specs.ScopeRoots.{HasRoot, ScopeRootsData, names_of_model, local_root, signals_with}

-- these names stand at these places of some
abbrev pub StandAt : List (List ℕ) → List (List ℕ) → List ℕ → Type 0
StandAt names words places = map (slice_get names) places ≡ map Some words

-- so with what each stands for
pub stand_for : {X Y : Type 0} (g : X → Y) (xs : List X) (places : List ℕ) (ys : List X) → map (slice_get xs) places ≡ map Some ys
    → map (slice_get (map g xs)) places ≡ map Some (map g ys)
stand_for g xs [] [] e = refl
stand_for g xs [] (y ∷ ys) e = absurd cc
stand_for g xs (k ∷ places) [] e = absurd cc
stand_for g xs (k ∷ places) (y ∷ ys) e =
    ap (λ found. found ∷ map (slice_get (map g xs)) places) (get_map g xs k y (head_same e))
    ∙ ap (λ l. Some (g y) ∷ l) (stand_for g xs places ys (tail_same e))

-- a name stands at one place only
pub place_of : (names : List (List ℕ)) (k : ℕ) (name : List ℕ) → AreDistinctNames names → slice_get names k ≡ Some name → position (same name) names ≡ Some k
place_of names k name once there =
    let found = number_in names name (Contains-slice_get names k name there) in
    found.1 ∙ ap Some (once found.0 k name found.2 there)

distinct_in : (models : List BlifModelData) (m : ℕ) → AreDistinctNames (slice_index_or (map model_names models) m [])
distinct_in [] m = λ j k name p q. absurd cc
distinct_in (x ∷ xs) zero = λ j k name p q. place_once (model_names x) j k name (unique_apart (names_of x)) p q
distinct_in (x ∷ xs) (suc m) = distinct_in xs m

pub names_once : (d : NumberedData) (m : ℕ) → AreDistinctNames (names_of_model d m)
names_once d m = distinct_in (models_in d) m

pub names_are_of : (d : NumberedData) (m : ℕ) → m < length (models_in d) → names_of_model d m ≡ model_names (model_at (file_of d) m)
names_are_of d m within =
    let there = slice_get-there (models_in d) m within in
    get_or_from_slice_get (map model_names (models_in d)) m (model_names there.0) [] (get_map model_names (models_in d) m there.0 there.1)
    ∙ ap model_names (sym (get_or_from_slice_get (models_in d) m there.0 (first_model []) there.1))

-- each name that is kept is one of the model
pub name_inside : (d : NumberedData) (m k : ℕ) (name : List ℕ) → m < length (models_in d) → slice_get (names_of_model d m) k ≡ Some name
    → Contains (names_of (model_at (file_of d) m)) name
name_inside d m k name within there =
    AllByRecursion-contains (Contains (names_of (model_at (file_of d) m))) (model_names (model_at (file_of d) m)) name
    (unique_each (Contains (names_of (model_at (file_of d) m))) (names_of (model_at (file_of d) m)) (each_itself (names_of (model_at (file_of d) m))))
    (Contains-slice_get (model_names (model_at (file_of d) m)) k name (ap (λ names. slice_get names k) (sym (names_are_of d m within)) ∙ there))

module _ (d : NumberedData) (l : LocalNamesData) (are : AreLocalNames d l) where
  pub models_named : length l.models ≡ length (models_in d)
  models_named = sym (length-map l.models (named d.names)) ∙ ap length are.models ∙ length-map (models_in d) model_names

  pub named_names : (m : ℕ) → m < length (models_in d) → named d.names (names_in l m) ≡ names_of_model d m
  named_names m within =
      let there = slice_get-there l.models m (omega (arith, within, models_named)) in
      ap (named d.names) (get_or_from_slice_get l.models m there.0 [] there.1)
      ∙ sym (get_or_from_slice_get (map (named d.names) l.models) m (named d.names there.0) [] (get_map (named d.names) l.models m there.0 there.1))
      ∙ ap (λ all. slice_index_or all m []) are.models

  pub count_named : (m : ℕ) → m < length (models_in d) → length (names_in l m) ≡ length (names_of_model d m)
  count_named m within = sym (length-map (names_in l m) (name_of d.names)) ∙ ap length (named_names m within)

  pub locals_stand : (m : ℕ) (numbers locals : List ℕ) → m < length (models_in d) → AreLocals (names_in l m) numbers locals
      → StandAt (names_of_model d m) (named d.names numbers) locals
  locals_stand m numbers locals within at =
      ap (λ names. map (slice_get names) locals) (sym (named_names m within)) ∙ stand_for (name_of d.names) (names_in l m) locals numbers at

module _ (d : NumberedData) (r : ScopeRootsData) (scope m : ℕ) where
  -- the number of a name's signal by its place
  pub record IsRooted (local : ℕ) (name : List ℕ) : Type 0 where
    pub has : HasRoot r scope local
    pub is : local_root r scope local ≡ signal_number (signals_with d r) scope m name

  pub rooted : (local : ℕ) (name : List ℕ) → HasSignalNumber (signals_with d r) scope m name → slice_get (names_of_model d m) local ≡ Some name → IsRooted local name
  rooted local name number there = record {
    has = record { scope_in = number.scope_in; root_in = subst (λ k. k < length r.roots) pair_is number.pair_in };
    is = ap (λ k. slice_index_or r.roots k 0) (sym pair_is);
  }
    where
      pair_is : pair_number (signals_with d r) scope m name ≡ slice_index_or r.starts scope 0 + local
      pair_is = ap (λ found. slice_index_or r.starts scope 0 + unwrap_or found 0) (place_of (names_of_model d m) local name (names_once d m) there)

  pub all_rooted : (words : List (List ℕ)) (locals : List ℕ) → AllByRecursion (HasSignalNumber (signals_with d r) scope m) words → StandAt (names_of_model d m) words locals
      → AllByRecursion (HasRoot r scope) locals
  all_rooted [] [] h e = tt
  all_rooted [] (k ∷ locals) h e = absurd cc
  all_rooted (w ∷ words) [] h e = tt
  all_rooted (w ∷ words) (k ∷ locals) h e = ((rooted k w h.0 (head_same e)).has, all_rooted words locals h.1 (tail_same e))

  pub roots_are : (words : List (List ℕ)) (locals : List ℕ) → AllByRecursion (HasSignalNumber (signals_with d r) scope m) words → StandAt (names_of_model d m) words locals
      → map (local_root r scope) locals ≡ map (signal_number (signals_with d r) scope m) words
  roots_are [] [] h e = refl
  roots_are [] (k ∷ locals) h e = absurd cc
  roots_are (w ∷ words) [] h e = absurd cc
  roots_are (w ∷ words) (k ∷ locals) h e =
      ap (λ root. root ∷ map (local_root r scope) locals) (rooted k w h.0 (head_same e)).is
      ∙ ap (λ rest. signal_number (signals_with d r) scope m w ∷ rest) (roots_are words locals h.1 (tail_same e))

  -- where each name of the model has a number
  pub all_have : m < length (models_in d) → ((name : List ℕ) → Contains (names_of (model_at (file_of d) m)) name → HasSignalNumber (signals_with d r) scope m name)
      → (words : List (List ℕ)) (locals : List ℕ) → StandAt (names_of_model d m) words locals → AllByRecursion (HasSignalNumber (signals_with d r) scope m) words
  all_have within each [] locals e = tt
  all_have within each (w ∷ words) [] e = absurd cc
  all_have within each (w ∷ words) (k ∷ locals) e = (each w (name_inside d m k w within (head_same e)), all_have within each words locals (tail_same e))
