-- The numbers of one scope more, by the pairs that its instance binds.
use Rattle.std.proofs.Common.{inl, inr, ◌≡◌, ℕ, ◌<◌, ◌≤◌, ◌+◌, List, [], ◌∷◌, ◌++◌, map, length, drop, Some, refl, ap, sym, ◌∙◌, subst, arith}
use Rattle.std.specs.Prelude.{◌≢◌, IsSome, slice_get, slice_index_or}
use Rattle.std.specs.List.{AllByRecursion}
use Rattle.std.proofs.lemmas.List.{length-append}
use Rattle.std.proofs.lemmas.Option.{slice_get_within}
use Rattle.dom_base.proofs.Lists.{AllByRecursion-map, AllByRecursion-weaker, Contains-first, head_same, tail_same}
use Rattle.blif_ast.specs.BlifFileData.{BlifFileData}
use Rattle.blif_ast.specs.InstanceData.{InstanceData}
use Rattle.blif_ast.specs.declared.instance.Binding.{Binding}
use Rattle.network.specs.Limits.{most_signals}
use Rattle.numbered_file.specs.NumberedData.{NumberedData}
use Rattle.numbered_file.specs.Numbered.{file_of}
use Rattle.numbered_file.specs.Places.{of_part}
use Rattle.card_places.specs.CardPlaces.{AreCardPlaces, CardPlacesData, places_at}
use Rattle.local_names.specs.LocalNames.{AreLocalNames, LocalNamesData, firsts, seconds}
use Rattle.part_numbers.specs.Expansions.{ArePaths, IsScope, IsScopeBelow}
use Rattle.part_numbers.specs.NumberedFiles.{model_at}
use Rattle.part_numbers.specs.SignalNumbers.{AreNumbers, HasSignalNumber, IsInstanceAt, IsNextScope, SignalNumbersData, scope_pairs, scope_roots, signal_number}
use Rattle.part_numbers.specs.declared.walk.Scope.{Scope}
use Rattle.part_numbers.proofs.DeepEnough.{called_is}
use Rattle.part_numbers.proofs.ScopeRoots.{actuals_at, instance_once, length_roots}
use Rattle.part_numbers.proofs.SignalNumbers.{in_file, next_scope}
use Rattle.numbered_signals.specs.ScopeBlocks.{AddsBelow, ArePairs, BindsAll, CanBind, IsCalledAbove, IsNextCalled, IsOpenBlock}
use Rattle.numbered_signals.specs.ScopeRoots.{HasRoot, ScopeRootsData, names_of_model, local_root, signals_with}
use Rattle.numbered_signals.proofs.BlockSteps.{front_only}
use Rattle.numbered_signals.proofs.CardWords.{instance_placed, pairs_are, some_same}
use Rattle.numbered_signals.proofs.NamePlaces.{StandAt, all_rooted, names_once, roots_are}

-- the scopes of a walk

module _ (f : BlifFileData) (scopes : List Scope) (paths : List (List InstanceData)) (are : ArePaths f scopes paths) (done : ℕ) (n : SignalNumbersData)
    (numbers : AreNumbers f scopes paths done n) (s : Scope) (now : slice_get scopes done ≡ Some s) where
  called_by : IsScopeBelow f paths scopes done s → IsCalledAbove f scopes s
  called_by b = record {
    above = b.has_model.0;
    instance = b.instance;
    is_at = record { above_is = b.has_model.1; instance_is = ap (λ k. slice_get (model_at f k).instances s.instance) b.has_model.2 ∙ b.instance_is };
    above_in = in_file f scopes paths are s.above b.has_model.0 b.has_model.1;
    model_in = in_file f scopes paths are done s now;
    named = (called_is f.models b.instance.unit (model_at f s.model) (rw b.called (Contains-first (model_at f s.model) []))).1;
  }

  pub next_called : length (scope_pairs f paths scopes) ≤ most_signals → IsNextCalled f scopes s n
  next_called few = record {
    next = next_scope f scopes paths are done n numbers s now few;
    called = λ some. by some (are.scopes_are done s now);
  }
    where
      by : length n.starts ≢ 0 → IsScope f paths scopes done s → IsCalledAbove f scopes s
      by some (inl main) = absurd (some (numbers.count ∙ main.0))
      by some (inr b) = called_by b

-- places of names are within them
places_within : (names words : List (List ℕ)) (places : List ℕ) → StandAt names words places → AllByRecursion (λ k. k < length names) places
places_within names [] [] e = tt
places_within names [] (k ∷ places) e = absurd cc
places_within names (w ∷ words) [] e = tt
places_within names (w ∷ words) (k ∷ places) e = (slice_get_within names k w (head_same e), places_within names words places (tail_same e))

-- numbers that are there stay
module _ (old mid : ScopeRootsData) (own : List ℕ) (starts : mid.starts ≡ old.starts) (roots : mid.roots ≡ old.roots ++ own) where
  more_roots : length mid.roots ≡ length old.roots + length own
  more_roots = ap length roots ∙ length-append old.roots own

  root_kept : (scope local : ℕ) → HasRoot old scope local → HasRoot mid scope local
  root_kept scope local has = record {
    scope_in = subst (λ (ss : List ℕ). scope < length ss) (sym starts) has.scope_in;
    root_in = subst (λ (ss : List ℕ). slice_index_or ss scope 0 + local < length mid.roots) (sym starts) (omega (arith, more_roots, has.root_in));
  }

  root_same : (scope local : ℕ) → HasRoot old scope local → local_root mid scope local ≡ local_root old scope local
  root_same scope local has =
      ap (λ (ss : List ℕ). slice_index_or mid.roots (slice_index_or ss scope 0 + local) 0) starts
      ∙ ap (λ rs. slice_index_or rs (slice_index_or old.starts scope 0 + local) 0) roots
      ∙ front_only old.roots own (slice_index_or old.starts scope 0 + local) has.root_in

  roots_same : (scope : ℕ) (locals : List ℕ) → AllByRecursion (HasRoot old scope) locals → map (local_root mid scope) locals ≡ map (local_root old scope) locals
  roots_same scope [] h = refl
  roots_same scope (k ∷ locals) h =
      ap (λ x. x ∷ map (local_root mid scope) locals) (root_same scope k h.0) ∙ ap (λ l. local_root old scope k ∷ l) (roots_same scope locals h.1)

module _ (d : NumberedData) (scopes : List Scope) (s : Scope) (old mid : ScopeRootsData) (pairs : List ℕ)
    (next : IsNextScope (file_of d) scopes s (signals_with d old)) (some : length old.starts ≢ 0)
    (starts : mid.starts ≡ old.starts)
    (roots : mid.roots ≡ old.roots ++ scope_roots (λ actual. 0) [] (length old.roots) (names_of_model d s.model)) where
  abbrev number_of : ℕ → List ℕ → ℕ
  number_of model name = signal_number (signals_with d old) s.above model name

  abbrev actuals_of : List Binding → List (List ℕ)
  actuals_of bindings = map (λ (b : Binding). b.actual) bindings

  module _ (above : Scope) (i : InstanceData) (at : IsInstanceAt (file_of d) scopes s above i)
      (are : ArePairs (names_of_model d s.model) (names_of_model d above.model) i.bindings pairs) where
    have : AllByRecursion (HasSignalNumber (signals_with d old) s.above above.model) (actuals_of i.bindings)
    have = AllByRecursion-map (HasSignalNumber (signals_with d old) s.above above.model) (λ (b : Binding). b.actual) i.bindings
        (actuals_at (file_of d) scopes s (signals_with d old) above i (next.below some) at)

    rooted : AllByRecursion (HasRoot old s.above) (seconds pairs)
    rooted = all_rooted d old s.above above.model (actuals_of i.bindings) (seconds pairs) have are.actuals

    abbrev own : List ℕ
    own = scope_roots (λ actual. 0) [] (length old.roots) (names_of_model d s.model)

    pub can_bind : CanBind mid (length old.roots) s.above pairs
    can_bind = record {
      formals = AllByRecursion-weaker (λ k. k < length (names_of_model d s.model)) (λ k. length old.roots + k < length mid.roots)
          (λ k l. omega (arith, l, more_roots old mid own starts roots, length_roots (λ actual. 0) [] (length old.roots) (names_of_model d s.model)))
          (firsts pairs) (places_within (names_of_model d s.model) (map (λ (b : Binding). b.formal) i.bindings) (firsts pairs) are.formals);
      actuals = AllByRecursion-weaker (HasRoot old s.above) (HasRoot mid s.above) (λ k has. root_kept old mid own starts roots s.above k has) (seconds pairs) rooted;
    }

    pub open_block : IsOpenBlock mid (length old.roots) s.above pairs old.roots (names_of_model d s.model) i.bindings (number_of above.model)
    open_block = record {
      start_is = refl;
      roots_are = roots;
      once = names_once d s.model;
      formals = are.formals;
      actuals_in = AllByRecursion-weaker (HasRoot old s.above) (λ k. slice_index_or mid.starts s.above 0 + k < length old.roots)
          (λ k has. subst (λ (ss : List ℕ). slice_index_or ss s.above 0 + k < length old.roots) (sym starts) has.root_in) (seconds pairs) rooted;
      actuals = roots_same old mid own starts roots s.above (seconds pairs) rooted
          ∙ roots_are d old s.above above.model (actuals_of i.bindings) (seconds pairs) have are.actuals;
    }

  pub adds_below : (above : Scope) (i : InstanceData) → IsInstanceAt (file_of d) scopes s above i
      → ArePairs (names_of_model d s.model) (names_of_model d above.model) i.bindings pairs → (new : ScopeRootsData) → BindsAll (length old.roots) s.above pairs mid new
      → AddsBelow (file_of d) scopes s (signals_with d old) old new
  adds_below above i at are new binds = record {
    starts = binds.starts ∙ starts;
    block = scope_roots (number_of above.model) i.bindings (length old.roots) (names_of_model d s.model);
    roots = binds.bound old.roots (names_of_model d s.model) i.bindings (number_of above.model) (open_block above i at are);
    bound = λ a j there.
        let once = instance_once (file_of d) scopes s above a i j at there in
        ap (λ (p : Scope). scope_roots (number_of p.model) i.bindings (length old.roots) (names_of_model d s.model)) once.0
        ∙ ap (λ (k : InstanceData). scope_roots (number_of a.model) k.bindings (length old.roots) (names_of_model d s.model)) once.1;
  }

-- the instance above a scope

module _ (d : NumberedData) (c : CardPlacesData) (l : LocalNamesData) (places : AreCardPlaces d c) (names : AreLocalNames d l)
    (scopes : List Scope) (s above : Scope) (called : IsCalledAbove (file_of d) scopes s) (there : slice_get scopes s.above ≡ Some above) where
  same_above : called.above ≡ above
  same_above = some_same (sym called.is_at.above_is ∙ there)

  at_above : IsInstanceAt (file_of d) scopes s above called.instance
  at_above = subst (λ (a : Scope). IsInstanceAt (file_of d) scopes s a called.instance) same_above called.is_at

  above_in : above.model < length (file_of d).models
  above_in = subst (λ (a : Scope). a.model < length (file_of d).models) same_above called.above_in

  pub instance_there : IsSome (slice_get (places_at c.instances above.model) s.instance)
  instance_there = subst IsSome (sym (instance_placed d c l places names above.model s.model s.instance called.instance above_in called.model_in at_above.instance_is called.named).place_is) refl

  pub pairs_bound : (place : ℕ) → slice_get (places_at c.instances above.model) s.instance ≡ Some place → (a : Scope) (i : InstanceData) → IsInstanceAt (file_of d) scopes s a i
      → ArePairs (names_of_model d s.model) (names_of_model d a.model) i.bindings (drop 1 (of_part d place l.words))
  pairs_bound place place_is a i at =
      let once = instance_once (file_of d) scopes s above a called.instance i at_above at in
      subst (λ (p : Scope). ArePairs (names_of_model d s.model) (names_of_model d p.model) i.bindings (drop 1 (of_part d place l.words))) once.0
      (subst (λ (j : InstanceData). ArePairs (names_of_model d s.model) (names_of_model d above.model) j.bindings (drop 1 (of_part d place l.words))) once.1
      (pairs_are d c l places names above.model s.model s.instance called.instance above_in called.model_in at_above.instance_is called.named place place_is))
