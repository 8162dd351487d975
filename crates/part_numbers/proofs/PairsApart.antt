-- The pairs of a path and a name of a good file all differ.
use Rattle.std.proofs.Common.{◌≡◌, ℕ, List, [], ◌∷◌, map, Some, refl, ap, sym, ◌∙◌}
use Rattle.std.specs.Prelude.{◌≢◌, slice_get}
use Rattle.std.specs.List.{AllByRecursion, flat_map}
use Rattle.std.specs.Set.{unique_keys}
use Rattle.dom_base.proofs.Lists.{AllByRecursion-every, AllByRecursion-map, AllByRecursion-weaker}
use Rattle.blif_ast.specs.BlifFileData.{BlifFileData}
use Rattle.blif_ast.specs.Cards.{same}
use Rattle.blif_ast.specs.Good.{IsGoodFile}
use Rattle.model_calls.specs.Pairs.{pairs, pairs_of}
use Rattle.model_calls.specs.Occurrences.{Occurrence, names_of, occurrences}
use Rattle.model_calls.specs.Signals.{Signal}
use Rattle.model_calls.proofs.Apart.{Across, Apart, Apart-append, ApartBy, place_once}
use Rattle.model_calls.proofs.EachPart.{each_flat}
use Rattle.part_numbers.proofs.OccurrencesApart.{path_of, paths_apart}
use Rattle.model_calls.proofs.UniqueNames.{unique_apart}

on_path : (p : Occurrence) → AllByRecursion (λ (s : Signal). s.path ≡ p.path) (pairs_of p)
on_path p = AllByRecursion-map (λ (s : Signal). s.path ≡ p.path) (λ name. record { path = p.path; name = name }) (unique_keys same (names_of p.model)) (AllByRecursion-every (λ name. p.path ≡ p.path) (λ name. refl) (unique_keys same (names_of p.model)))

own_apart : (p : Occurrence) (names : List (List ℕ)) → Apart names → Apart {X = Signal} (map (λ name. record { path = p.path; name = name }) names)
own_apart p [] a = tt
own_apart p (x ∷ xs) a = (
  AllByRecursion-map (λ s. record { path = p.path; name = x } ≢ s) (λ name. record { path = p.path; name = name }) xs
      (AllByRecursion-weaker (λ y. x ≢ y) (λ y. record { path = p.path; name = x } ≢ record { path = p.path; name = y }) (λ y h e. h (ap (λ (s : Signal). s.name) e)) xs a.0),
  own_apart p xs a.1,
)

pairs_across : (p : Occurrence) (qs : List Occurrence) → AllByRecursion (λ q. path_of p ≢ path_of q) qs → Across (pairs_of p) (flat_map pairs_of qs)
pairs_across p qs h = AllByRecursion-weaker (λ (s : Signal). s.path ≡ p.path) (λ s. AllByRecursion (λ t. s ≢ t) (flat_map pairs_of qs))
    (λ s on. each_flat (λ t. s ≢ t) pairs_of qs (AllByRecursion-weaker (λ q. path_of p ≢ path_of q) (λ q. AllByRecursion (λ t. s ≢ t) (pairs_of q))
    (λ q other. AllByRecursion-weaker (λ (t : Signal). t.path ≡ q.path) (λ t. s ≢ t) (λ t at e. other (sym on ∙ ap (λ (r : Signal). r.path) e ∙ at)) (pairs_of q) (on_path q)) qs h)) (pairs_of p) (on_path p)

pub all_pairs_apart : (ps : List Occurrence) → ApartBy path_of ps → Apart (flat_map pairs_of ps)
all_pairs_apart [] a = tt
all_pairs_apart (p ∷ ps) a = Apart-append (pairs_of p) (flat_map pairs_of ps) (own_apart p (unique_keys same (names_of p.model)) (unique_apart (names_of p.model))) (all_pairs_apart ps a.1) (pairs_across p ps a.0)

pub pair_once : (f : BlifFileData) → IsGoodFile f → (j k : ℕ) (s : Signal) → slice_get (pairs f) j ≡ Some s → slice_get (pairs f) k ≡ Some s → j ≡ k
pair_once f good j k s a b = place_once (pairs f) j k s (all_pairs_apart (occurrences f) (paths_apart f good)) a b
