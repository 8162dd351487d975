-- The own numbers of the names of a scope, and its bindings, one pair after the other from the last one on.
use Rattle.std.proofs.Common.{◌≡◌, ℕ, ◌<◌, ◌≤◌, ◌+◌, ◌-◌, List, [], ◌∷◌, ◌++◌, map, length, drop, take, Some, refl, ap, sym, ◌∙◌, subst, arith, append-nil, append_assoc}
use Rattle.std.specs.Prelude.{slice_get, slice_index_or, slice_set}
use Rattle.std.specs.Option.{option_map_or}
use Rattle.std.proofs.lemmas.List.{drop_all, length-map, length-set, set-append_right, take_all}
use Rattle.std.proofs.lemmas.Option.{get_or_from_slice_get}
use Rattle.dom_base.proofs.Lists.{AllByRecursion-contains, Contains-slice_get, slice_get-left, slice_get-there}
use Rattle.network.proofs.Lists.{get_map}
use Rattle.blif_ast.specs.declared.instance.Binding.{Binding}
use Rattle.local_names.specs.LocalNames.{firsts, seconds}
use Rattle.part_numbers.specs.SignalNumbers.{scope_roots}
use Rattle.part_numbers.proofs.ScopeRoots.{bound_back, own_push}
use Rattle.numbered_signals.specs.ScopeBlocks.{AddsOwn, BindsAll, CanBind, IsOpenBlock}
use Rattle.numbered_signals.specs.ScopeRoots.{HasRoot, ScopeRootsData, with_next, local_root, with_root}
use Rattle.numbered_signals.proofs.NamePlaces.{place_of}

-- the first names of those that are appended have their own numbers
pub record IsOwning (count : ℕ) (old now : ScopeRootsData) (index : ℕ) : Type 0 where
  pub starts : now.starts ≡ old.starts
  pub roots : (names : List (List ℕ)) → length names ≡ count → now.roots ≡ old.roots ++ scope_roots (λ actual. 0) [] (length old.roots) (take index names)

pub own-starts : (count : ℕ) (old : ScopeRootsData) → IsOwning count old old 0
own-starts count old = record { starts = refl; roots = λ names many. sym (append-nil old.roots) }

pub own-step : (count : ℕ) (old now after : ScopeRootsData) (index number : ℕ) → IsOwning count old now index → index < count → number ≡ length old.roots + index
    → after ≡ with_next now number → IsOwning count old after (index + 1)
own-step count old now after index number own l is push = record {
  starts = ap (λ (r : ScopeRootsData). r.starts) push ∙ own.starts;
  roots = λ names many.
      ap (λ (r : ScopeRootsData). r.roots) push
      ∙ ap (λ rs. rs ++ number ∷ []) (own.roots names many)
      ∙ ap (λ k. (old.roots ++ scope_roots (λ actual. 0) [] (length old.roots) (take index names)) ++ k ∷ []) is
      ∙ append_assoc old.roots (scope_roots (λ actual. 0) [] (length old.roots) (take index names)) ((length old.roots + index) ∷ [])
      ∙ ap (λ block. old.roots ++ block) (sym (own_push (λ actual. 0) (length old.roots) names index (omega (arith, l, many))));
}

pub own-ends : (count : ℕ) (old now : ScopeRootsData) (index : ℕ) → IsOwning count old now index → count ≤ index → AddsOwn count old now
own-ends count old now index own all = record {
  starts = own.starts;
  roots = λ names many. own.roots names many ∙ ap (λ ns. old.roots ++ scope_roots (λ actual. 0) [] (length old.roots) ns) (take_all index names (omega (arith, all, many)));
}

-- the bindings behind the first of those that are left are done
pub record IsBinding (start above : ℕ) (pairs : List ℕ) (old now : ScopeRootsData) (index : ℕ) : Type 0 where
  pub starts : now.starts ≡ old.starts
  pub count : length now.roots ≡ length old.roots
  pub bound : (before : List ℕ) (names : List (List ℕ)) (bindings : List Binding) (number_of_actual : List ℕ → ℕ)
      → IsOpenBlock old start above pairs before names bindings number_of_actual
      → now.roots ≡ before ++ scope_roots number_of_actual (drop (length bindings - index) bindings) start names

pub bind-starts : (start above : ℕ) (pairs : List ℕ) (old : ScopeRootsData) → IsBinding start above pairs old old 0
bind-starts start above pairs old = record {
  starts = refl;
  count = refl;
  bound = λ before names bindings g opened. opened.roots_are
      ∙ ap (λ bs. before ++ scope_roots g bs start names) (sym (drop_all (length bindings - 0) bindings (omega arith)));
}

-- an item of a front of a list
pub front_only : (xs ys : List ℕ) (k : ℕ) → k < length xs → slice_index_or (xs ++ ys) k 0 ≡ slice_index_or xs k 0
front_only xs ys k l =
    let there = slice_get-there xs k l in
    get_or_from_slice_get (xs ++ ys) k there.0 0 (slice_get-left xs ys k l ∙ there.1) ∙ sym (get_or_from_slice_get xs k there.0 0 there.1)

module _ (start above : ℕ) (pairs : List ℕ) (old now : ScopeRootsData) (index formal actual : ℕ) (so_far : IsBinding start above pairs old now index)
    (index_in : index < length (firsts pairs))
    (formal_is : slice_get (firsts pairs) (length (firsts pairs) - 1 - index) ≡ Some formal)
    (actual_is : slice_get (seconds pairs) (length (firsts pairs) - 1 - index) ≡ Some actual) where
  pub formal_in : CanBind old start above pairs → start + formal < length now.roots
  formal_in can = subst (λ n. start + formal < n) (sym so_far.count)
      (AllByRecursion-contains (λ k. start + k < length old.roots) (firsts pairs) formal can.formals (Contains-slice_get (firsts pairs) (length (firsts pairs) - 1 - index) formal formal_is))

  pub actual_in : CanBind old start above pairs → HasRoot now above actual
  actual_in can =
      let has = AllByRecursion-contains (HasRoot old above) (seconds pairs) actual can.actuals (Contains-slice_get (seconds pairs) (length (firsts pairs) - 1 - index) actual actual_is) in
      record {
        scope_in = subst (λ (ss : List ℕ). above < length ss) (sym so_far.starts) has.scope_in;
        root_in = subst (λ (ss : List ℕ). slice_index_or ss above 0 + actual < length now.roots) (sym so_far.starts)
            (subst (λ n. slice_index_or old.starts above 0 + actual < n) (sym so_far.count) has.root_in);
      }

  module _ (before : List ℕ) (names : List (List ℕ)) (bindings : List Binding) (g : List ℕ → ℕ)
      (opened : IsOpenBlock old start above pairs before names bindings g) where
    many : length (firsts pairs) ≡ length bindings
    many = sym (length-map (firsts pairs) (slice_get names)) ∙ ap length opened.formals ∙ length-map (map (λ (b : Binding). b.formal) bindings) Some ∙ length-map bindings (λ (b : Binding). b.formal)

    block : List ℕ
    block = scope_roots g (drop (length bindings - index) bindings) start names

    at : ℕ
    at = length bindings - 1 - index

    at_is : length (firsts pairs) - 1 - index ≡ at
    unfolding at
    at_is = ap (λ n. n - 1 - index) many

    there : (b : Binding) × (slice_get bindings at ≡ Some b)
    unfolding at
    there = slice_get-there bindings (length bindings - 1 - index) (omega (arith, index_in, many))

    formal_name : slice_get names formal ≡ Some there.0.formal
    formal_name = some_same (sym (get_map (slice_get names) (firsts pairs) at formal (ap (slice_get (firsts pairs)) (sym at_is) ∙ formal_is))
        ∙ ap (λ l. slice_get l at) opened.formals ∙ get_map Some (map (λ (b : Binding). b.formal) bindings) at there.0.formal (get_map (λ (b : Binding). b.formal) bindings at there.0 there.1))
      where
        some_same : {X : Type 0} {x y : X} → Some x ≡ Some y → x ≡ y
        some_same e = cc

    before_same : slice_index_or now.roots (slice_index_or now.starts above 0 + actual) 0 ≡ local_root old above actual
    before_same =
        let inside : slice_index_or old.starts above 0 + actual < length before =
        subst (λ n. slice_index_or old.starts above 0 + actual < n) (sym opened.start_is)
        (AllByRecursion-contains (λ k. slice_index_or old.starts above 0 + k < start) (seconds pairs) actual opened.actuals_in
        (Contains-slice_get (seconds pairs) (length (firsts pairs) - 1 - index) actual actual_is)) in
        ap (λ (ss : List ℕ). slice_index_or now.roots (slice_index_or ss above 0 + actual) 0) so_far.starts
        ∙ ap (λ rs. slice_index_or rs (slice_index_or old.starts above 0 + actual) 0) (so_far.bound before names bindings g opened)
        ∙ front_only before (scope_roots g (drop (length bindings - index) bindings) start names) (slice_index_or old.starts above 0 + actual) inside
        ∙ sym (ap (λ rs. slice_index_or rs (slice_index_or old.starts above 0 + actual) 0) opened.roots_are
        ∙ front_only before (scope_roots g [] start names) (slice_index_or old.starts above 0 + actual) inside)

    actual_root : local_root now above actual ≡ g there.0.actual
    actual_root = before_same ∙ some_same (sym (get_map (local_root old above) (seconds pairs) at actual (ap (slice_get (seconds pairs)) (sym at_is) ∙ actual_is))
        ∙ ap (λ l. slice_get l at) opened.actuals ∙ get_map g (map (λ (b : Binding). b.actual) bindings) at there.0.actual (get_map (λ (b : Binding). b.actual) bindings at there.0 there.1))
      where
        some_same : {X : Type 0} {x y : X} → Some x ≡ Some y → x ≡ y
        some_same e = cc

    set_block : slice_set (before ++ block) (start + formal) (g there.0.actual) ≡ before ++ slice_set block formal (g there.0.actual)
    set_block = set-append_right before block start (start + formal) (g there.0.actual) opened.start_is (omega arith)
        ∙ ap (λ k. before ++ slice_set block k (g there.0.actual)) (let z : start + formal - start ≡ formal = omega arith in z)

    pub bound_more : slice_set now.roots (start + formal) (local_root now above actual) ≡ before ++ scope_roots g (drop (length bindings - (index + 1)) bindings) start names
    unfolding block at
    bound_more =
        ap (λ root. slice_set now.roots (start + formal) root) actual_root
        ∙ ap (λ rs. slice_set rs (start + formal) (g there.0.actual)) (so_far.bound before names bindings g opened)
        ∙ set_block
        ∙ ap (λ l. before ++ l) (
        sym (ap (λ found. option_map_or (λ k. slice_set block k (g there.0.actual)) found block) (place_of names formal there.0.formal opened.once formal_name))
        ∙ bound_back g bindings start names index there.0 opened.once (omega (arith, index_in, many)) there.1)

  pub bind-step : IsBinding start above pairs old (with_root now (start + formal) (local_root now above actual)) (index + 1)
  bind-step = record {
    starts = so_far.starts;
    count = length-set now.roots (start + formal) (local_root now above actual) ∙ so_far.count;
    bound = λ before names bindings g opened. bound_more before names bindings g opened;
  }

pub bind-ends : (start above : ℕ) (pairs : List ℕ) (old now : ScopeRootsData) (index : ℕ) → IsBinding start above pairs old now index → length (firsts pairs) ≤ index → BindsAll start above pairs old now
bind-ends start above pairs old now index done all = record {
  starts = done.starts;
  bound = λ before names bindings g opened.
      let many : length (firsts pairs) ≡ length bindings = sym (length-map (firsts pairs) (slice_get names)) ∙ ap length opened.formals ∙ length-map (map (λ (b : Binding). b.formal) bindings) Some ∙ length-map bindings (λ (b : Binding). b.formal) in
      done.bound before names bindings g opened
      ∙ ap (λ k. before ++ scope_roots g (drop k bindings) start names) (let z : length bindings - index ≡ 0 = omega (arith, all, many) in z);
}
