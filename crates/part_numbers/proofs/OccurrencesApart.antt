-- The paths of a good file all differ, and so do the pairs of a path and a name.
use Rattle.std.proofs.Common.{◌≡◌, ℕ, zero, suc, ◌≤◌, false, List, [], ◌∷◌, ◌++◌, map, length, Option, Some, None, refl, ap, sym, ◌∙◌, arith, append_assoc}
use Rattle.std.specs.Prelude.{◌≢◌, Contains, nat_eq, slice_get}
use Rattle.std.specs.List.{AllByRecursion, IsDistinct, find, flat_map}
use Rattle.std.specs.Option.{option_to_list}
use Rattle.std.proofs.lemmas.Bool.{eqb-false}
use Rattle.std.proofs.lemmas.List.{append_cancel_right, length-append}
use Rattle.dom_base.proofs.Lists.{AllByRecursion-append, AllByRecursion-both, AllByRecursion-contains, AllByRecursion-every, AllByRecursion-weaker, Contains-first, Contains-slice_get, AllByRecursion-unmap}
use Rattle.blif_ast.specs.BlifFileData.{BlifFileData}
use Rattle.blif_ast.specs.BlifModelData.{BlifModelData}
use Rattle.blif_ast.specs.Cards.{same}
use Rattle.blif_ast.specs.Good.{IsGoodFile, IsGoodModel}
use Rattle.blif_ast.specs.declared.latch.Latch.{Latch}
use Rattle.blif_ast.specs.InstanceData.{InstanceData}
use Rattle.blif_ast.specs.TableData.{TableData}
use Rattle.model_calls.specs.Occurrences.{Occurrence, main_model, models_called, occurrences_from, occurrences}
use Rattle.model_calls.proofs.Apart.{Apart, ApartBy}
use Rattle.model_calls.proofs.EachPart.{each_flat}
use Rattle.part_numbers.proofs.GoodParts.{each_called, good_main, good_models}

-- a place is at a path that goes on from another
abbrev GoesOnFrom : List InstanceData → Occurrence → Type 0
GoesOnFrom path p = (front : List InstanceData) × (p.path ≡ front ++ path)

no_end : (ks : List InstanceData) (l : InstanceData) → [] ≡ ks ++ l ∷ [] → ⊥
no_end [] l d = absurd cc
no_end (x ∷ ks) l d = absurd cc

last_same : (c d : List InstanceData) (i j : InstanceData) → c ++ i ∷ [] ≡ d ++ j ∷ [] → i ≡ j
last_same [] [] i j h = cc
last_same [] (x ∷ d) i j h = let t : [] ≡ d ++ j ∷ [] = cc in absurd (no_end d j t)
last_same (x ∷ c) [] i j h = let t : c ++ i ∷ [] ≡ [] = cc in absurd (no_end c i (sym t))
last_same (x ∷ c) (y ∷ d) i j h = let t : c ++ i ∷ [] ≡ d ++ j ∷ [] = cc in last_same c d i j t

ends_same : (a b : List InstanceData) (i j : InstanceData) (path : List InstanceData) → a ++ i ∷ path ≡ b ++ j ∷ path → i ≡ j
ends_same a b i j path e = last_same a b i j (append_cancel_right (a ++ i ∷ []) (b ++ j ∷ []) path (append_assoc a (i ∷ []) path ∙ e ∙ sym (append_assoc b (j ∷ []) path)))

abbrev pub path_of : Occurrence → List InstanceData
path_of p = p.path

apart_by_append : {X Y : Type 0} (g : X → Y) (xs ys : List X) → ApartBy g xs → ApartBy g ys → AllByRecursion (λ x. AllByRecursion (λ y. g x ≢ g y) ys) xs → ApartBy g (xs ++ ys)
apart_by_append g [] ys a b c = b
apart_by_append g (x ∷ xs) ys a b c = (AllByRecursion-append (λ y. g x ≢ g y) xs ys a.0 c.0, apart_by_append g xs ys a.1 b c.1)

module _ (models : List BlifModelData) where
  places_go_on : (depth : ℕ) (path : List InstanceData) (m : BlifModelData) → AllByRecursion (GoesOnFrom path) (occurrences_from models depth path m)
  places_go_on zero path m = tt
  places_go_on (suc depth) path m = (([], refl), each_flat (GoesOnFrom path) under m.instances (AllByRecursion-every (λ i. AllByRecursion (GoesOnFrom path) (under i)) (by (places_go_on depth)) m.instances))
    where
      under : InstanceData → List Occurrence
      under i = flat_map (occurrences_from models depth (i ∷ path)) (models_called models i.unit)

      by : ((p : List InstanceData) (n : BlifModelData) → AllByRecursion (GoesOnFrom p) (occurrences_from models depth p n)) → (i : InstanceData) → AllByRecursion (GoesOnFrom path) (under i)
      by deeper i = each_flat (GoesOnFrom path) (occurrences_from models depth (i ∷ path)) (models_called models i.unit)
          (AllByRecursion-every (λ n. AllByRecursion (GoesOnFrom path) (occurrences_from models depth (i ∷ path) n))
          (λ n. AllByRecursion-weaker (GoesOnFrom (i ∷ path)) (GoesOnFrom path) (λ p h. (h.0 ++ i ∷ [], h.1 ∙ sym (append_assoc h.0 (i ∷ []) path))) (occurrences_from models depth (i ∷ path) n) (deeper (i ∷ path) n))
          (models_called models i.unit))

  abbrev Differs : Occurrence → Occurrence → Type 0
  Differs p q = p.path ≢ q.path

  module _ (depth : ℕ) (path : List InstanceData) where
    abbrev under : InstanceData → List Occurrence
    under i = flat_map (occurrences_from models depth (i ∷ path)) (models_called models i.unit)

    under_go_on : (i : InstanceData) → AllByRecursion (GoesOnFrom (i ∷ path)) (under i)
    under_go_on i = each_flat (GoesOnFrom (i ∷ path)) (occurrences_from models depth (i ∷ path)) (models_called models i.unit)
        (AllByRecursion-every (λ n. AllByRecursion (GoesOnFrom (i ∷ path)) (occurrences_from models depth (i ∷ path) n)) (λ n. places_go_on depth (i ∷ path) n) (models_called models i.unit))

    -- places under different instances differ
    under_differ : (i j : InstanceData) → i ≢ j → AllByRecursion (λ p. AllByRecursion (Differs p) (under j)) (under i)
    under_differ i j apart = AllByRecursion-weaker (GoesOnFrom (i ∷ path)) (λ p. AllByRecursion (Differs p) (under j))
        (λ p h. AllByRecursion-weaker (GoesOnFrom (j ∷ path)) (Differs p) (λ q k e. apart (ends_same h.0 k.0 i j path (sym h.1 ∙ e ∙ k.1))) (under j) (under_go_on j)) (under i) (under_go_on i)

    all_under_differ : (i : InstanceData) (js : List InstanceData) → AllByRecursion (λ j. i ≢ j) js → AllByRecursion (λ p. AllByRecursion (Differs p) (flat_map under js)) (under i)
    all_under_differ i [] h = AllByRecursion-every (λ p. Unit {0}) (λ p. tt) (under i)
    all_under_differ i (j ∷ js) h = AllByRecursion-weaker (λ p. AllByRecursion (Differs p) (under j) × AllByRecursion (Differs p) (flat_map under js)) (λ p. AllByRecursion (Differs p) (flat_map under (j ∷ js)))
        (λ p k. AllByRecursion-append (Differs p) (under j) (flat_map under js) k.0 k.1) (under i)
        (AllByRecursion-both (λ p. AllByRecursion (Differs p) (under j)) (λ p. AllByRecursion (Differs p) (flat_map under js)) (under i) (under_differ i j h.0) (all_under_differ i js h.1))

    all_apart : ((n : BlifModelData) (i : InstanceData) → Contains (models_called models i.unit) n → ApartBy path_of (occurrences_from models depth (i ∷ path) n)) → (is : List InstanceData) → Apart is → ApartBy path_of (flat_map under is)
    all_apart deeper [] a = tt
    all_apart deeper (i ∷ is) a = apart_by_append path_of (under i) (flat_map under is) (one (models_called models i.unit) (at_most_one i.unit) (λ n c. deeper n i c)) (all_apart deeper is a.1) (all_under_differ i is a.0)
      where
        one : (ns : List BlifModelData) → length ns ≤ 1 → ((n : BlifModelData) → Contains ns n → ApartBy path_of (occurrences_from models depth (i ∷ path) n)) → ApartBy path_of (flat_map (occurrences_from models depth (i ∷ path)) ns)
        one [] l h = tt
        one (n ∷ []) l h = apart_by_append path_of (occurrences_from models depth (i ∷ path) n) [] (h n (Contains-first n [])) tt (AllByRecursion-every (λ p. Unit {0}) (λ p. tt) (occurrences_from models depth (i ∷ path) n))
        one (n ∷ k ∷ more) l h = absurd (omega (arith, l))

        at_most_one : (name : List ℕ) → length (models_called models name) ≤ 1
        at_most_one name = by (find (λ (m : BlifModelData). same m.name name) models)
          where
            by : (found : Option BlifModelData) → length (option_to_list found) ≤ 1
            by None = omega arith
            by (Some m) = omega arith

  -- the paths differ where no model has an instance twice
  places_apart : (each : AllByRecursion (λ (m : BlifModelData). Apart m.instances) models) (depth : ℕ) (path : List InstanceData) (m : BlifModelData) → Apart m.instances → ApartBy path_of (occurrences_from models depth path m)
  places_apart each zero path m a = tt
  places_apart each (suc depth) path m a = (
    longer,
    all_apart depth path (λ n i c. places_apart each depth (i ∷ path) n
        (AllByRecursion-contains (λ (k : BlifModelData). Apart k.instances) (models_called models i.unit) n (each_called (λ (k : BlifModelData). Apart k.instances) models i.unit each) c)) m.instances a,
  )
    where
      longer_one : (i : InstanceData) → AllByRecursion (λ p. path ≢ path_of p) (under depth path i)
      longer_one i = AllByRecursion-weaker (GoesOnFrom (i ∷ path)) (λ p. path ≢ path_of p)
          (λ p h e. let l = ap length (e ∙ h.1) in omega (arith, l, length-append h.0 (i ∷ path))) (under depth path i) (under_go_on depth path i)

      longer : AllByRecursion (λ p. path ≢ path_of p) (flat_map (under depth path) m.instances)
      longer = each_flat (λ p. path ≢ path_of p) (under depth path) m.instances (AllByRecursion-every (λ i. AllByRecursion (λ p. path ≢ path_of p) (under depth path i)) longer_one m.instances)

-- in a good model no instance stands twice, since no two cards stand on one line
distinct_right : (xs ys : List ℕ) → IsDistinct nat_eq (xs ++ ys) → IsDistinct nat_eq ys
unfolding IsDistinct
distinct_right [] ys h = h
distinct_right (x ∷ xs) ys h = distinct_right xs ys h.1

lines_apart : (is : List InstanceData) → IsDistinct nat_eq (map (λ (i : InstanceData). i.line) is) → Apart is
unfolding IsDistinct
lines_apart [] h = tt
lines_apart (i ∷ is) h = (
  AllByRecursion-weaker (λ (j : InstanceData). nat_eq i.line j.line ≡ false) (λ j. i ≢ j) (λ j d e. eqb-false i.line j.line d (ap (λ (k : InstanceData). k.line) e)) is
      (AllByRecursion-unmap (λ l. nat_eq i.line l ≡ false) (λ (j : InstanceData). j.line) is h.0),
  lines_apart is h.1,
)

pub instances_apart : (m : BlifModelData) → IsGoodModel m → Apart m.instances
instances_apart m good = lines_apart m.instances
    (distinct_right (map (λ (t : TableData). t.line) m.tables ++ map (λ (l : Latch). l.line) m.latches) (map (λ (i : InstanceData). i.line) m.instances) good.apart)

pub paths_apart : (f : BlifFileData) → IsGoodFile f → ApartBy path_of (occurrences f)
paths_apart f good = places_apart f.models (AllByRecursion-weaker IsGoodModel (λ (m : BlifModelData). Apart m.instances) (λ m g. instances_apart m g) f.models (good_models f good))
    (length f.models) [] (main_model f) (instances_apart (main_model f) (good_main f good))

one_place : (ps : List Occurrence) → ApartBy path_of ps → (j k : ℕ) (p q : Occurrence) → slice_get ps j ≡ Some p → slice_get ps k ≡ Some q → p.path ≡ q.path → j ≡ k
one_place [] h j k p q a b e = absurd cc
one_place (r ∷ ps) h zero zero p q a b e = refl
one_place (r ∷ ps) h zero (suc k) p q a b e = let i : r ≡ p = cc in absurd (AllByRecursion-contains (λ z. path_of r ≢ path_of z) ps q h.0 (Contains-slice_get ps k q b) (ap path_of i ∙ e))
one_place (r ∷ ps) h (suc j) zero p q a b e = let i : r ≡ q = cc in absurd (AllByRecursion-contains (λ z. path_of r ≢ path_of z) ps p h.0 (Contains-slice_get ps j p a) (ap path_of i ∙ sym e))
one_place (r ∷ ps) h (suc j) (suc k) p q a b e = ap suc (one_place ps h.1 j k p q a b e)

pub place_by_path : (f : BlifFileData) → IsGoodFile f → (j k : ℕ) (p q : Occurrence) → slice_get (occurrences f) j ≡ Some p → slice_get (occurrences f) k ≡ Some q → p.path ≡ q.path → j ≡ k
place_by_path f good j k p q a b e = one_place (occurrences f) (paths_apart f good) j k p q a b e
