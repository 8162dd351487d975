-- The names of signals: good ones in a good file, and a main model's name where the signal is on no path.
use Rattle.std.proofs.Common.{◌≡◌, ℕ, zero, suc, List, [], ◌∷◌, ◌++◌, map, length, Bool, true, false, cond, Option, Some, None, refl, sym, subst, arith}
use Rattle.std.specs.Prelude.{Contains}
use Rattle.std.specs.List.{AllByRecursion, find, flat_map}
use Rattle.std.specs.Option.{option_map, option_map_or}
use Rattle.std.proofs.lemmas.List.Elements.{Contains-append_left, Contains-append_right}
use Rattle.dom_base.proofs.Lists.{Contains-first, Contains-later}
use Rattle.blif_ast.specs.BlifFileData.{BlifFileData}
use Rattle.blif_ast.specs.BlifModelData.{BlifModelData}
use Rattle.blif_ast.specs.Cards.{same}
use Rattle.blif_ast.specs.declared.instance.Binding.{Binding}
use Rattle.blif_ast.specs.declared.latch.Latch.{Latch}
use Rattle.blif_ast.specs.InstanceData.{InstanceData}
use Rattle.blif_ast.specs.TableData.{TableData}
use Rattle.model_calls.specs.Expanded.{expanded}
use Rattle.model_calls.specs.Occurrences.{actuals_of, main_model, names_of, names_of_latch, names_of_table}
use Rattle.model_calls.specs.Signals.{Signal, bound_actual, signal_of}
use Rattle.model_calls.proofs.Drivers.{driven}
use Rattle.model_calls.proofs.EachPart.{Keeps, each_part}

pub contains_flat : {X Y : Type 0} (g : X → List Y) (xs : List X) (x : X) (y : Y) → Contains xs x → Contains (g x) y → Contains (flat_map g xs) y
contains_flat g [] x y (k, l, e) c = absurd (omega (arith, l))
contains_flat g (z ∷ zs) x y (zero, l, e) c = let i : z ≡ x = e in Contains-append_left (g z) (flat_map g zs) y (subst (λ w. Contains (g w) y) (sym i) c)
contains_flat g (z ∷ zs) x y (suc k, l, e) c = Contains-append_right (g z) (flat_map g zs) y (contains_flat g zs x y (k, omega (arith, l), e) c)

module _ (main : BlifModelData) where
  -- a path begins with an instance of the main model
  abbrev IsFromMain : List InstanceData → Type 0
  IsFromMain [] = Unit {0}
  IsFromMain (i ∷ []) = Contains main.instances i
  IsFromMain (i ∷ j ∷ up) = IsFromMain (j ∷ up)

  abbrev pub HasMainName : Signal → Type 0
  HasMainName s = s.path ≡ [] → Contains (names_of main) s.name

  actual_inside : (bindings : List Binding) (formal actual : List ℕ)
      → option_map (λ (b : Binding). b.actual) (find (λ (b : Binding). same b.formal formal) bindings) ≡ Some actual → Contains (map (λ (b : Binding). b.actual) bindings) actual
  actual_inside [] formal actual e = absurd cc
  actual_inside (b ∷ bs) formal actual e = by (actual_inside bs formal actual) (same b.formal formal) refl e
    where
      by : (option_map (λ (c : Binding). c.actual) (find (λ (c : Binding). same c.formal formal) bs) ≡ Some actual → Contains (map (λ (c : Binding). c.actual) bs) actual) → (t : Bool) → same b.formal formal ≡ t
          → option_map (λ (c : Binding). c.actual) (cond (same b.formal formal) (Some b) (find (λ (c : Binding). same c.formal formal) bs)) ≡ Some actual → Contains (map (λ (c : Binding). c.actual) (b ∷ bs)) actual
      by rest true t e =
          let i : Some b.actual ≡ Some actual = subst (λ u. option_map (λ (c : Binding). c.actual) (cond u (Some b) (find (λ (c : Binding). same c.formal formal) bs)) ≡ Some actual) t e in
          let one : b.actual ≡ actual = cc in
          subst (Contains (b.actual ∷ map (λ (c : Binding). c.actual) bs)) one (Contains-first b.actual (map (λ (c : Binding). c.actual) bs))
      by rest false t e = Contains-later b.actual (map (λ (c : Binding). c.actual) bs) actual
          (rest (subst (λ u. option_map (λ (c : Binding). c.actual) (cond u (Some b) (find (λ (c : Binding). same c.formal formal) bs)) ≡ Some actual) t e))

  -- an actual of an instance of the main model is a name of it
  pub main_actual : (i : InstanceData) (formal actual : List ℕ) → Contains main.instances i → bound_actual i formal ≡ Some actual → Contains (names_of main) actual
  main_actual i formal actual c e =
      Contains-append_right (main.inputs ++ main.outputs ++ flat_map names_of_table main.tables ++ flat_map names_of_latch main.latches) (flat_map actuals_of main.instances) actual
      (contains_flat actuals_of main.instances i actual c (actual_inside i.bindings formal actual e))

  on_main : (path : List InstanceData) (name : List ℕ) → IsFromMain path → (path ≡ [] → Contains (names_of main) name) → HasMainName (signal_of path name)
  on_main [] name from own = λ e. own refl
  on_main (i ∷ up) name from own = by (on_main up) (bound_actual i name) refl
    where
      never : {j : InstanceData} {rest : List InstanceData} → j ∷ rest ≡ [] → ⊥
      never e = absurd cc

      rest_from : (ps : List InstanceData) → IsFromMain (i ∷ ps) → IsFromMain ps
      rest_from [] h = tt
      rest_from (j ∷ ps) h = h

      above_own : (ps : List InstanceData) → IsFromMain (i ∷ ps) → (actual : List ℕ) → bound_actual i name ≡ Some actual → ps ≡ [] → Contains (names_of main) actual
      above_own [] h actual e is = main_actual i name actual h e
      above_own (j ∷ ps) h actual e is = absurd (never is)

      by : ((actual : List ℕ) → IsFromMain up → (up ≡ [] → Contains (names_of main) actual) → HasMainName (signal_of up actual)) → (found : Option (List ℕ)) → bound_actual i name ≡ found
          → HasMainName (option_map_or (signal_of up) found (record { path = i ∷ up; name = name }))
      by above None e = λ is. absurd (never is)
      by above (Some actual) e = above actual (rest_from up from) (above_own up from actual e)

  -- what a path and its model keep, from the main model on
  pub record IsAt (path : List InstanceData) (m : BlifModelData) : Type 0 where
    pub from : IsFromMain path
    pub is_main : path ≡ [] → m ≡ main

  step_from : (path : List InstanceData) (m : BlifModelData) (i : InstanceData) → IsAt path m → Contains m.instances i → IsFromMain (i ∷ path)
  step_from [] m i at c = subst (λ (k : BlifModelData). Contains k.instances i) (at.is_main refl) c
  step_from (j ∷ up) m i at c = at.from

  own_table : (path : List InstanceData) (m : BlifModelData) (t : TableData) → IsAt path m → Contains m.tables t → path ≡ [] → Contains (names_of main) t.output
  own_table path m t at c is = subst (λ k. Contains (names_of k) t.output) (at.is_main is)
      (Contains-append_left (m.inputs ++ m.outputs ++ flat_map names_of_table m.tables ++ flat_map names_of_latch m.latches) (flat_map actuals_of m.instances) t.output
      (Contains-append_left (m.inputs ++ m.outputs ++ flat_map names_of_table m.tables) (flat_map names_of_latch m.latches) t.output
      (Contains-append_right (m.inputs ++ m.outputs) (flat_map names_of_table m.tables) t.output
      (contains_flat names_of_table m.tables t t.output c (Contains-append_right t.inputs (t.output ∷ []) t.output (Contains-first t.output []))))))

  own_latch : (path : List InstanceData) (m : BlifModelData) (l : Latch) → IsAt path m → Contains m.latches l → path ≡ [] → Contains (names_of main) l.output
  own_latch path m l at c is = subst (λ k. Contains (names_of k) l.output) (at.is_main is)
      (Contains-append_left (m.inputs ++ m.outputs ++ flat_map names_of_table m.tables ++ flat_map names_of_latch m.latches) (flat_map actuals_of m.instances) l.output
      (Contains-append_right (m.inputs ++ m.outputs ++ flat_map names_of_table m.tables) (flat_map names_of_latch m.latches) l.output
      (contains_flat names_of_latch m.latches l l.output c (Contains-later l.input (names_of_latch_rest l) l.output (Contains-first l.output (names_of_control l))))))
    where
      names_of_control : Latch → List (List ℕ)
      names_of_control l = Rattle.model_calls.specs.Occurrences.signal_of_control l.control

      names_of_latch_rest : Latch → List (List ℕ)
      names_of_latch_rest l = l.output ∷ names_of_control l

  pub main_keeps : (models : List BlifModelData) → Keeps models IsAt (λ p. HasMainName (driven p))
  main_keeps models = record {
    down = λ path m i n at c d. record { from = step_from path m i at c; is_main = λ e. absurd (never e) };
    tables = λ path m t at c. on_main path t.output at.from (own_table path m t at c);
    latches = λ path m l at c. on_main path l.output at.from (own_latch path m l at c);
  }
    where
      never : {i : InstanceData} {path : List InstanceData} → i ∷ path ≡ [] → ⊥
      never e = absurd cc

pub main_names : (f : BlifFileData) → AllByRecursion (λ p. HasMainName (main_model f) (driven p)) (expanded f)
main_names f = each_part f.models (IsAt (main_model f)) (λ p. HasMainName (main_model f) (driven p)) (main_keeps (main_model f) f.models) (length f.models) [] (main_model f)
    (record { from = tt; is_main = λ e. refl })
