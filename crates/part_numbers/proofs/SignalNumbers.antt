-- The numbers of the signals of a file over the scopes of a walk: what one scope more keeps, and what a number stands for.
use Rattle.std.proofs.Common.{inl, inr, ◌≡◌, ℕ, zero, suc, ◌<◌, ◌≤◌, ◌+◌, List, [], ◌∷◌, ◌++◌, map, length, take, Option, Some, None, refl, ap, sym, ◌∙◌, subst, arith}
use Rattle.std.specs.Prelude.{◌≢◌, Contains, position, slice_get, slice_index_or, unwrap_or}
use Rattle.std.specs.List.{flat_map}
use Rattle.std.specs.Option.{option_map_or}
use Rattle.std.proofs.lemmas.Grind.{flat_map-append}
use Rattle.std.proofs.lemmas.List.{length-append, length-map}
use Rattle.std.proofs.lemmas.List.Elements.{Contains-append_right}
use Rattle.std.proofs.lemmas.Option.{get_or_from_slice_get, slice_get-get_or, slice_get_within}
use Rattle.dom_base.proofs.Lists.{AllByRecursion-contains, AllByRecursion-weaker, Contains-slice_get, slice_get-append, slice_get-behind}
use Rattle.blif_ast.specs.BlifFileData.{BlifFileData}
use Rattle.blif_ast.specs.BlifModelData.{BlifModelData}
use Rattle.blif_ast.specs.Cards.{same}
use Rattle.blif_ast.specs.InstanceData.{InstanceData}
use Rattle.blif_ast.specs.declared.instance.Binding.{Binding}
use Rattle.graph_order.proofs.Lists.{take_next}
use Rattle.part_numbers.specs.Expansions.{ArePaths, IsScopeBelow, IsInFile, IsScope, path_at, scope_occurrences}
use Rattle.network.specs.Limits.{most_signals}
use Rattle.part_numbers.specs.NumberedFiles.{model_at}
use Rattle.model_calls.specs.Occurrences.{actuals_of, first_model, names_of, names_of_latch, names_of_table}
use Rattle.model_calls.specs.Pairs.{pairs_of}
use Rattle.part_numbers.specs.SignalNumbers.{AddsScope, AreNumbers, AreDistinctNames, HasSignalNumber, IsBelowNumbered, IsInstanceAt, IsNextScope, IsRootOf, SignalNumbersData, actual_in, first_pair, model_names, names_at, pair_number, scope_pairs, scope_roots, signal_number}
use Rattle.model_calls.specs.Signals.{signal_of}
use Rattle.part_numbers.specs.declared.walk.Scope.{Scope}
use Rattle.model_calls.proofs.Apart.{place_once}
use Rattle.model_calls.proofs.EachPart.{each_itself}
use Rattle.model_calls.proofs.Fitting.{contains_unique}
use Rattle.network.proofs.Lists.{get_map}
use Rattle.model_calls.proofs.MainNames.{contains_flat, main_actual}
use Rattle.model_calls.proofs.Pairs.{contains_to}
use Rattle.part_numbers.proofs.ScopeRoots.{length_roots}
use Rattle.model_calls.proofs.UniqueNames.{number_in, unique_apart}
use borrow.Author.Count.{below_more}

-- lists

get_flat : {X Y : Type 0} (g : X → List Y) (xs : List X) (k : ℕ) (x : X) (j : ℕ) (y : Y) → slice_get xs k ≡ Some x → slice_get (g x) j ≡ Some y
    → slice_get (flat_map g xs) (length (flat_map g (take k xs)) + j) ≡ Some y
get_flat g [] k x j y e d = absurd cc
get_flat g (z ∷ zs) zero x j y e d =
    let is : z ≡ x = cc in
    ap (slice_get (g z ++ flat_map g zs)) (let n : 0 + j ≡ j = omega arith in n) ∙ slice_get-append (g z) (flat_map g zs) j y (ap (λ w. slice_get (g w) j) is ∙ d)
get_flat g (z ∷ zs) (suc k) x j y e d =
    ap (slice_get (g z ++ flat_map g zs)) (let n : length (g z ++ flat_map g (take k zs)) + j ≡ length (g z) + (length (flat_map g (take k zs)) + j) = omega (arith, length-append (g z) (flat_map g (take k zs))) in n)
    ∙ slice_get-behind (g z) (flat_map g zs) (length (flat_map g (take k zs)) + j) ∙ get_flat g zs k x j y e d

flat_next : {X Y : Type 0} (g : X → List Y) (xs : List X) (k : ℕ) (x : X) → slice_get xs k ≡ Some x → length (flat_map g (take (k + 1) xs)) ≡ length (flat_map g (take k xs)) + length (g x)
flat_next g xs k x e =
    ap (λ l. length (flat_map g l)) (take_next xs k x e)
    ∙ ap length (flat_map-append g (take k xs) (x ∷ []))
    ∙ (let a = length-append (flat_map g (take k xs)) (g x ++ []) in let b = length-append (g x) [] in omega (arith, a, b))

flat_within : {X Y : Type 0} (g : X → List Y) (xs : List X) (k : ℕ) → length (flat_map g (take k xs)) ≤ length (flat_map g xs)
flat_within g [] zero = omega arith
flat_within g [] (suc k) = omega arith
flat_within g (x ∷ xs) zero = omega arith
flat_within g (x ∷ xs) (suc k) = omega (arith, length-append (g x) (flat_map g (take k xs)), length-append (g x) (flat_map g xs), flat_within g xs k)

get_block : (g : List ℕ → ℕ) (bs : List Binding) (start : ℕ) (names : List (List ℕ)) (k : ℕ) (name : List ℕ) → slice_get names k ≡ Some name
    → slice_get (scope_roots g bs start names) k ≡ Some (option_map_or g (actual_in bs name) (start + k))
get_block g bs start [] k name e = absurd cc
get_block g bs start (x ∷ xs) zero name e =
    let is : x ≡ name = cc in ap (λ n. Some (option_map_or g (actual_in bs n) start)) is ∙ ap (λ n. Some (option_map_or g (actual_in bs name) n)) (let z : start ≡ start + 0 = omega arith in z)
get_block g bs start (x ∷ xs) (suc k) name e =
    get_block g bs (start + 1) xs k name e ∙ ap (λ n. Some (option_map_or g (actual_in bs name) n)) (let z : (start + 1) + k ≡ start + suc k = omega arith in z)

-- the actuals of an instance are names of its model
pub actual_named : (m : BlifModelData) (i : InstanceData) (b : Binding) → Contains m.instances i → Contains i.bindings b → Contains (names_of m) b.actual
actual_named m i b c d =
    Contains-append_right (m.inputs ++ m.outputs ++ flat_map names_of_table m.tables ++ flat_map names_of_latch m.latches) (flat_map actuals_of m.instances) b.actual
    (contains_flat actuals_of m.instances i b.actual c (contains_to (λ (a : Binding). a.actual) i.bindings b d))

module _ (f : BlifFileData) (scopes : List Scope) (paths : List (List InstanceData)) (are : ArePaths f scopes paths) where
  -- what stands in a list of scopes with their paths

  occurrence_in : (ps : List (List InstanceData)) (ss : List Scope) (k : ℕ) (s : Scope) → length ps ≡ length ss → slice_get ss k ≡ Some s
      → slice_get (scope_occurrences f ps ss) k ≡ Some (record { path = path_at ps k; model = model_at f s.model })
  occurrence_in [] [] k s l e = absurd cc
  occurrence_in [] (t ∷ ss) k s l e = absurd (omega (arith, l))
  occurrence_in (p ∷ ps) [] k s l e = absurd cc
  occurrence_in (p ∷ ps) (t ∷ ss) zero s l e = let is : t ≡ s = cc in ap (λ (u : Scope). Some (record { path = p; model = model_at f u.model })) is
  occurrence_in (p ∷ ps) (t ∷ ss) (suc k) s l e = occurrence_in ps ss k s (omega (arith, l)) e

  pub occurrence_at : (k : ℕ) (s : Scope) → slice_get scopes k ≡ Some s → slice_get (scope_occurrences f paths scopes) k ≡ Some (record { path = path_at paths k; model = model_at f s.model })
  occurrence_at k s e = occurrence_in paths scopes k s are.count e

  pub in_file : (k : ℕ) (s : Scope) → slice_get scopes k ≡ Some s → s.model < length f.models
  in_file k s e = AllByRecursion-contains (IsInFile f) scopes s are.in_file (Contains-slice_get scopes k s e)

  pub next_pair : (k : ℕ) (s : Scope) → slice_get scopes k ≡ Some s → first_pair f paths scopes (k + 1) ≡ first_pair f paths scopes k + length (model_names (model_at f s.model))
  next_pair k s e = flat_next pairs_of (scope_occurrences f paths scopes) k (record { path = path_at paths k; model = model_at f s.model }) (occurrence_at k s e)
      ∙ ap (λ n. first_pair f paths scopes k + n) (length-map (model_names (model_at f s.model)) (λ name. record { path = path_at paths k; name = name }))

  -- the pair of a scope and a name has its number
  pub pair_at : (k : ℕ) (s : Scope) (j : ℕ) (name : List ℕ) → slice_get scopes k ≡ Some s → slice_get (model_names (model_at f s.model)) j ≡ Some name
      → slice_get (scope_pairs f paths scopes) (first_pair f paths scopes k + j) ≡ Some (record { path = path_at paths k; name = name })
  pair_at k s j name e d = get_flat pairs_of (scope_occurrences f paths scopes) k (record { path = path_at paths k; model = model_at f s.model }) j (record { path = path_at paths k; name = name })
      (occurrence_at k s e) (get_map (λ n. record { path = path_at paths k; name = n }) (model_names (model_at f s.model)) j name d)

  module _ (done : ℕ) (n : SignalNumbersData) (numbers : AreNumbers f scopes paths done n) where
    pub names_are : (model : ℕ) → model < length f.models → names_at n model ≡ model_names (model_at f model)
    names_are model l = ap (λ ns. slice_index_or ns model []) numbers.names
        ∙ get_or_from_slice_get (map model_names f.models) model (model_names (model_at f model)) []
        (get_map model_names f.models model (model_at f model) (slice_get-get_or f.models model (first_model []) l))

    pub models_count : length n.names ≡ length f.models
    models_count = ap length numbers.names ∙ length-map f.models model_names

    -- a number stands for its signal
    pub record IsNumber (scope : ℕ) (s : Scope) (name : List ℕ) : Type 0 where
      pub has : HasSignalNumber n scope s.model name
      pub stands : slice_get (scope_pairs f paths scopes) (signal_number n scope s.model name) ≡ Some (signal_of (path_at paths scope) name)

    pub number_is : (scope : ℕ) (s : Scope) (name : List ℕ) → scope < done → slice_get scopes scope ≡ Some s → Contains (names_of (model_at f s.model)) name → IsNumber scope s name
    number_is scope s name l e c = record {
      has = record {
        model_in = omega (arith, in_file scope s e, models_count);
        scope_in = omega (arith, l, numbers.count);
        index = there.0;
        index_is = index_is;
        pair_in = subst (λ k. k < length n.roots) (sym pair_is) (slice_get_within n.roots (first_pair f paths scopes scope + there.0) root.0 root.1);
      };
      stands = ap (slice_get (scope_pairs f paths scopes)) (ap (λ k. slice_index_or n.roots k 0) pair_is ∙ get_or_from_slice_get n.roots (first_pair f paths scopes scope + there.0) root.0 0 root.1) ∙ root.2;
    }
      where
        there : (k : ℕ) × (position (same name) (model_names (model_at f s.model)) ≡ Some k) × (slice_get (model_names (model_at f s.model)) k ≡ Some name)
        there = number_in (model_names (model_at f s.model)) name (contains_unique (names_of (model_at f s.model)) name c)

        root : IsRootOf n.roots (first_pair f paths scopes scope + there.0) (scope_pairs f paths scopes) (signal_of (path_at paths scope) name)
        root = numbers.roots scope there.0 s name l e there.2

        index_is : position (same name) (names_at n s.model) ≡ Some there.0
        index_is = ap (position (same name)) (names_are s.model (in_file scope s e)) ∙ there.1

        pair_is : pair_number n scope s.model name ≡ first_pair f paths scopes scope + there.0
        pair_is = ap (λ k. k + unwrap_or (position (same name) (names_at n s.model)) 0) (get_or_from_slice_get n.starts scope (first_pair f paths scopes scope) 0 (numbers.starts scope l))
            ∙ ap (λ p. first_pair f paths scopes scope + unwrap_or p 0) index_is

    module _ (s : Scope) (now : slice_get scopes done ≡ Some s) where
      -- where a scope goes on from one above it
      below_at : (b : IsScopeBelow f paths scopes done s) → IsInstanceAt f scopes s b.has_model.0 b.instance
      below_at b = record {
        above_is = b.has_model.1;
        instance_is = ap (λ k. slice_get (model_at f k).instances s.instance) b.has_model.2 ∙ b.instance_is;
      }

      instance_in : (b : IsScopeBelow f paths scopes done s) → Contains (model_at f b.has_model.0.model).instances b.instance
      instance_in b = Contains-slice_get (model_at f b.has_model.0.model).instances s.instance b.instance (below_at b).instance_is

      below_numbered : (b : IsScopeBelow f paths scopes done s) → IsBelowNumbered f scopes s n
      below_numbered b = record {
        above = b.has_model.0;
        instance = b.instance;
        is_at = below_at b;
        above_in = in_file s.above b.has_model.0 b.has_model.1;
        actuals = AllByRecursion-weaker (Contains b.instance.bindings) (λ (c : Binding). HasSignalNumber n s.above b.has_model.0.model c.actual)
            (λ c inside. (number_is s.above b.has_model.0 c.actual b.above b.has_model.1 (actual_named (model_at f b.has_model.0.model) b.instance c (instance_in b) inside)).has)
            b.instance.bindings (each_itself b.instance.bindings);
      }

      pub next_scope : length (scope_pairs f paths scopes) ≤ most_signals → IsNextScope f scopes s n
      next_scope few = record {
        model_in = omega (arith, in_file done s now, models_count);
        once = subst AreDistinctNames (sym (names_are s.model (in_file done s now))) (λ j k name p q. place_once (model_names (model_at f s.model)) j k name (unique_apart (names_of (model_at f s.model))) p q);
        few = omega (arith, few, numbers.all, next_pair done s now, ap length (names_are s.model (in_file done s now)), flat_within pairs_of (scope_occurrences f paths scopes) (done + 1));
        below = λ some. by some (are.scopes_are done s now);
      }
        where
          by : length n.starts ≢ 0 → IsScope f paths scopes done s → IsBelowNumbered f scopes s n
          by some (inl main) = absurd (some (numbers.count ∙ main.0))
          by some (inr b) = below_numbered b

      module _ (after : SignalNumbersData) (adds : AddsScope f scopes s n after) where
        abbrev IsBlockRoot : ℕ → List ℕ → Type 0
        IsBlockRoot k name = (root : ℕ) × (slice_get adds.block k ≡ Some root) × (slice_get (scope_pairs f paths scopes) root ≡ Some (signal_of (path_at paths done) name))

        block_root : (k : ℕ) (name : List ℕ) → slice_get (model_names (model_at f s.model)) k ≡ Some name → IsBlockRoot k name
        block_root k name there = by (are.scopes_are done s now)
          where
            there_now : slice_get (names_at n s.model) k ≡ Some name
            there_now = ap (λ ns. slice_get ns k) (names_are s.model (in_file done s now)) ∙ there

            own_pair : slice_get (scope_pairs f paths scopes) (length n.roots + k) ≡ Some (record { path = path_at paths done; name = name })
            own_pair = ap (λ m. slice_get (scope_pairs f paths scopes) (m + k)) numbers.all ∙ pair_at done s k name now there

            bound : (b : IsScopeBelow f paths scopes done s) → (found : Option (List ℕ)) → actual_in b.instance.bindings name ≡ found
                → slice_get (scope_pairs f paths scopes) (option_map_or (signal_number n s.above b.has_model.0.model) found (length n.roots + k))
                ≡ Some (option_map_or (signal_of (path_at paths s.above)) found (record { path = b.instance ∷ path_at paths s.above; name = name }))
            bound b None e = own_pair ∙ ap (λ p. Some (record { path = p; name = name })) b.path_is
            bound b (Some actual) e = (number_is s.above b.has_model.0 actual b.above b.has_model.1 (main_actual (model_at f b.has_model.0.model) b.instance name actual (instance_in b) e)).stands

            by : IsScope f paths scopes done s → IsBlockRoot k name
            by (inl main) = (
              length n.roots + k,
              ap (λ l. slice_get l k) (adds.main (numbers.count ∙ main.0)) ∙ get_block (λ actual. 0) [] (length n.roots) (names_at n s.model) k name there_now,
              own_pair ∙ ap (λ p. Some (record { path = p; name = name })) main.1 ∙ ap (λ p. Some (signal_of p name)) (sym main.1),
            )
            by (inr b) = (
              option_map_or (signal_number n s.above b.has_model.0.model) (actual_in b.instance.bindings name) (length n.roots + k),
              ap (λ l. slice_get l k) (adds.below b.has_model.0 b.instance (λ none. let z : done ≡ 0 = sym numbers.count ∙ none in omega (arith, z, b.above)) (below_at b))
                  ∙ get_block (signal_number n s.above b.has_model.0.model) b.instance.bindings (length n.roots) (names_at n s.model) k name there_now,
              bound b (actual_in b.instance.bindings name) refl ∙ ap (λ p. Some (signal_of p name)) (sym b.path_is),
            )

        block_count : length adds.block ≡ length (model_names (model_at f s.model))
        block_count = by (are.scopes_are done s now)
          where
            by : IsScope f paths scopes done s → length adds.block ≡ length (model_names (model_at f s.model))
            by (inl main) = ap length (adds.main (numbers.count ∙ main.0)) ∙ length_roots (λ actual. 0) [] (length n.roots) (names_at n s.model) ∙ ap length (names_are s.model (in_file done s now))
            by (inr b) = ap length (adds.below b.has_model.0 b.instance (λ none. let z : done ≡ 0 = sym numbers.count ∙ none in omega (arith, z, b.above)) (below_at b))
                ∙ length_roots (signal_number n s.above b.has_model.0.model) b.instance.bindings (length n.roots) (names_at n s.model) ∙ ap length (names_are s.model (in_file done s now))

        pub still_numbers : AreNumbers f scopes paths (done + 1) after
        still_numbers = record {
          names = adds.names ∙ numbers.names;
          count = ap length adds.starts ∙ (let a = length-append n.starts (length n.roots ∷ []) in omega (arith, a, numbers.count));
          all = ap length adds.roots ∙ (let a = length-append n.roots adds.block in omega (arith, a, numbers.all, block_count, next_pair done s now));
          starts = below_more (λ scope. slice_get after.starts scope ≡ Some (first_pair f paths scopes scope)) done starts_before starts_here;
          roots = λ scope k t name l. below_more HasRoots done roots_before roots_here scope l k t name;
        }
          where
            starts_before : (scope : ℕ) → scope < done → slice_get after.starts scope ≡ Some (first_pair f paths scopes scope)
            starts_before scope l = ap (λ ss. slice_get ss scope) adds.starts ∙ slice_get-append n.starts (length n.roots ∷ []) scope (first_pair f paths scopes scope) (numbers.starts scope l)

            starts_here : slice_get after.starts done ≡ Some (first_pair f paths scopes done)
            starts_here = ap (λ ss. slice_get ss done) adds.starts
                ∙ ap (slice_get (n.starts ++ length n.roots ∷ [])) (let z : done ≡ length n.starts + 0 = omega (arith, numbers.count) in z)
                ∙ slice_get-behind n.starts (length n.roots ∷ []) 0 ∙ ap Some numbers.all

            HasRoots : ℕ → Type 0
            HasRoots scope = (k : ℕ) (t : Scope) (name : List ℕ) → slice_get scopes scope ≡ Some t → slice_get (model_names (model_at f t.model)) k ≡ Some name
                → IsRootOf after.roots (first_pair f paths scopes scope + k) (scope_pairs f paths scopes) (signal_of (path_at paths scope) name)

            roots_before : (scope : ℕ) → scope < done → HasRoots scope
            roots_before scope l k t name e d =
                let r = numbers.roots scope k t name l e d in
                (r.0, ap (λ rs. slice_get rs (first_pair f paths scopes scope + k)) adds.roots ∙ slice_get-append n.roots adds.block (first_pair f paths scopes scope + k) r.0 r.1, r.2)

            roots_here : HasRoots done
            roots_here k t name e d =
                let is : t ≡ s = cc in
                let r = block_root k name (ap (λ (u : Scope). slice_get (model_names (model_at f u.model)) k) (sym is) ∙ d) in (
                  r.0,
                  ap (λ rs. slice_get rs (first_pair f paths scopes done + k)) adds.roots ∙ ap (λ m. slice_get (n.roots ++ adds.block) (m + k)) (sym numbers.all) ∙ slice_get-behind n.roots adds.block k ∙ r.1,
                  r.2,
                )
