-- The tables and latches of the expanded list of a good file, and the instances on their paths, are good.
use Rattle.std.proofs.Common.{◌≡◌, ℕ, List, [], ◌∷◌, length, Bool, true, false, cond, Option, Some, None, refl, subst}
use Rattle.std.proofs.lemmas.List.Elements.{recursion_from_All}
use Rattle.std.specs.List.{AllByRecursion, find}
use Rattle.std.specs.Option.{option_map, option_map_or}
use Rattle.dom_base.proofs.Lists.{AllByRecursion-contains}
use Rattle.blif_ast.specs.BlifFileData.{BlifFileData}
use Rattle.blif_ast.specs.BlifModelData.{BlifModelData}
use Rattle.blif_ast.specs.declared.instance.Binding.{Binding}
use Rattle.blif_ast.specs.Cards.{same}
use Rattle.blif_ast.specs.Good.{IsGoodBinding, IsGoodFile, IsGoodInstance, IsGoodLatch, IsGoodModel, IsGoodName, IsGoodTable}
use Rattle.blif_ast.specs.InstanceData.{InstanceData}
use Rattle.model_calls.specs.Ends.{driven_end}
use Rattle.model_calls.specs.Expanded.{LatchPart, PlacedPart, TablePart, expanded}
use Rattle.model_calls.specs.Occurrences.{first_model, main_model, models_called}
use Rattle.model_calls.specs.Signals.{bound_actual, signal_of}
use Rattle.model_calls.proofs.EachPart.{Keeps, each_part}

abbrev pub IsGoodPart : PlacedPart → Type 0
IsGoodPart (TablePart t) = AllByRecursion IsGoodInstance t.path × IsGoodTable t.table
IsGoodPart (LatchPart l) = AllByRecursion IsGoodInstance l.path × IsGoodLatch l.latch

-- what holds of all models holds of the one of a name
pub each_called : (P : BlifModelData → Type 0) (models : List BlifModelData) (name : List ℕ) → AllByRecursion P models → AllByRecursion P (models_called models name)
each_called P [] name h = tt
each_called P (m ∷ models) name h = by (each_called P models name h.1) (same m.name name) refl
  where
    by : AllByRecursion P (models_called models name) → (b : Bool) → same m.name name ≡ b → AllByRecursion P (models_called (m ∷ models) name)
    by rest true e = rw e (h.0, tt)
    by rest false e = rw e rest

module _ (models : List BlifModelData) (good : AllByRecursion IsGoodModel models) where
  abbrev IsGoodAt : List InstanceData → BlifModelData → Type 0
  IsGoodAt path m = AllByRecursion IsGoodInstance path × IsGoodModel m

  keeps_good : Keeps models IsGoodAt IsGoodPart
  keeps_good = record {
    down = λ path m i n at inside called. (
      (AllByRecursion-contains IsGoodInstance m.instances i (recursion_from_All IsGoodInstance m.instances at.1.instances) inside, at.0),
      AllByRecursion-contains IsGoodModel (models_called models i.unit) n (each_called IsGoodModel models i.unit good) called,
    );
    tables = λ path m t at inside. (at.0, AllByRecursion-contains IsGoodTable m.tables t (recursion_from_All IsGoodTable m.tables at.1.tables) inside);
    latches = λ path m l at inside. (at.0, AllByRecursion-contains IsGoodLatch m.latches l (recursion_from_All IsGoodLatch m.latches at.1.latches) inside);
  }

pub good_models : (f : BlifFileData) → IsGoodFile f → AllByRecursion IsGoodModel f.models
good_models f good = recursion_from_All IsGoodModel f.models good.models

pub good_main : (f : BlifFileData) → IsGoodFile f → IsGoodModel (main_model f)
good_main f good = by f.models good.some (good_models f good)
  where
    by : (models : List BlifModelData) → (models ≡ [] → ⊥) → AllByRecursion IsGoodModel models → IsGoodModel (first_model models)
    by [] some all = absurd (some refl)
    by (m ∷ more) some all = all.0

pub good_parts : (f : BlifFileData) → IsGoodFile f → AllByRecursion IsGoodPart (expanded f)
good_parts f good = each_part f.models (IsGoodAt f.models (good_models f good)) IsGoodPart (keeps_good f.models (good_models f good)) (length f.models) [] (main_model f) (tt, good_main f good)

-- the signal of a good name on a good path has a good name
good_actual : (bindings : List Binding) (formal actual : List ℕ) → AllByRecursion IsGoodBinding bindings
    → option_map (λ (b : Binding). b.actual) (find (λ (b : Binding). same b.formal formal) bindings) ≡ Some actual → IsGoodName actual
good_actual [] formal actual h e = absurd cc
good_actual (b ∷ bs) formal actual h e = by (good_actual bs formal actual h.1) (same b.formal formal) refl e
  where
    by : (option_map (λ (c : Binding). c.actual) (find (λ (c : Binding). same c.formal formal) bs) ≡ Some actual → IsGoodName actual) → (t : Bool) → same b.formal formal ≡ t
        → option_map (λ (c : Binding). c.actual) (cond (same b.formal formal) (Some b) (find (λ (c : Binding). same c.formal formal) bs)) ≡ Some actual → IsGoodName actual
    by rest true t e =
        let i : Some b.actual ≡ Some actual = subst (λ u. option_map (λ (c : Binding). c.actual) (cond u (Some b) (find (λ (c : Binding). same c.formal formal) bs)) ≡ Some actual) t e in
        let one : b.actual ≡ actual = cc in
        subst IsGoodName one h.0.actual
    by rest false t e = rest (subst (λ u. option_map (λ (c : Binding). c.actual) (cond u (Some b) (find (λ (c : Binding). same c.formal formal) bs)) ≡ Some actual) t e)

pub good_signal : (path : List InstanceData) (name : List ℕ) → AllByRecursion IsGoodInstance path → IsGoodName name → IsGoodName (signal_of path name).name
good_signal [] name on good = good
good_signal (i ∷ up) name on good = by (λ actual. good_signal up actual on.1) (bound_actual i name) refl
  where
    by : ((actual : List ℕ) → IsGoodName actual → IsGoodName (signal_of up actual).name) → (found : Option (List ℕ)) → bound_actual i name ≡ found
        → IsGoodName (option_map_or (signal_of up) found (record { path = i ∷ up; name = name })).name
    by above None e = good
    by above (Some actual) e = above actual (good_actual i.bindings name actual (recursion_from_All IsGoodBinding i.bindings on.0.bindings) e)

pub good_driven : (part : PlacedPart) → IsGoodPart part → IsGoodName (driven_end part).signal.name
good_driven (TablePart t) g = good_signal t.path t.table.output g.0 g.1.output
good_driven (LatchPart l) g = good_signal l.path l.latch.output g.0 g.1.output
