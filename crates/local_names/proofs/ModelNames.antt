-- The names of each model, model by model.
use Rattle.std.proofs.Common.{◌≡◌, ℕ, ◌<◌, ◌+◌, List, [], ◌∷◌, ◌++◌, length, map, reverse, take, Some, ap, sym, ◌∙◌, subst, arith}
use Rattle.std.specs.Prelude.{slice_get}
use Rattle.std.specs.List.{AllByRecursion}
use Rattle.std.specs.Set.{unique_keys}
use Rattle.dom_base.proofs.Lists.{AllByRecursion-append, map-push, slice_get-there}
use Rattle.blif_ast.specs.BlifModelData.{BlifModelData}
use Rattle.blif_ast.specs.Cards.{same}
use Rattle.numbered_file.specs.NumberedData.{NumberedData}
use Rattle.numbered_file.specs.Numbered.{AreBelow, models_in, named}
use Rattle.numbered_file.proofs.PartLists.{take-get}
use Rattle.numbered_file.proofs.Places.{length-models_in}
use Rattle.card_places.specs.NumberLists.{NumberListsData, closed, with_numbers}
use Rattle.local_names.specs.PartNames.{all_names}
use Rattle.local_names.specs.Places.{AreKept}
use Rattle.local_names.proofs.KeptNumbers.{kept-all}
use Rattle.local_names.proofs.Gathered.{names-of_model}
use Rattle.part_numbers.specs.SignalNumbers.{model_names}

-- these numbers are those of the names of a model
abbrev pub HasNamesOf : NumberedData → ℕ → List ℕ → Type 0
HasNamesOf d m numbers = (model : BlifModelData) → slice_get (models_in d) m ≡ Some model → named d.names numbers ≡ model_names model

-- numbers that are kept once of all that occur in a model
pub names-kept : (d : NumberedData) (m : ℕ) (kept found : List ℕ) → m < length d.models → AreKept d.names kept (all_names d m)
    → found ≡ reverse kept → HasNamesOf d m found
names-kept d m kept found within are is model there =
    let at = slice_get-there d.models m within in
    kept-all d.names kept found (all_names d m) are is ∙ ap (unique_keys same) (sym (names-of_model d m at.0 model at.1 there))

-- one model more
pub names-more : (d : NumberedData) (m : ℕ) (numbers : List ℕ) (before after : List (List ℕ)) → m < length d.models → HasNamesOf d m numbers
    → after ≡ before ++ numbers ∷ [] → map (named d.names) before ≡ map model_names (take m (models_in d))
    → map (named d.names) after ≡ map model_names (take (m + 1) (models_in d))
names-more d m numbers before after within has is so_far =
    let model = slice_get-there (models_in d) m (omega (arith, within, length-models_in d)) in
    ap (map (named d.names)) is ∙ map-push (named d.names) before numbers
    ∙ (λ i. so_far i ++ has model.0 model.1 i ∷ [])
    ∙ sym (map-push model_names (take m (models_in d)) model.0)
    ∙ ap (map model_names) (sym (take-get (models_in d) m model.0 model.1))

-- one list more
pub list-more : (before : NumberListsData) (numbers : List ℕ) (middle after : NumberListsData) → before.next ≡ [] → middle ≡ with_numbers before numbers
    → after ≡ closed middle → (after.next ≡ []) × (after.lists ≡ before.lists ++ numbers ∷ [])
list-more before numbers middle after none extended is =
    let whole = is ∙ ap closed extended in
    (ap (λ (l : NumberListsData). l.next) whole, ap (λ (l : NumberListsData). l.lists) whole ∙ ap (λ l. before.lists ++ (l ++ numbers) ∷ []) none)

pub below-more : (count : ℕ) (before after : List (List ℕ)) (numbers : List ℕ) → after ≡ before ++ numbers ∷ [] → AllByRecursion (AreBelow count) before
    → AreBelow count numbers → AllByRecursion (AreBelow count) after
below-more count before after numbers is all this =
    subst (AllByRecursion (AreBelow count)) (sym is) (AllByRecursion-append (AreBelow count) before (numbers ∷ []) all (this, tt))
