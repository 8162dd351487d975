-- Lists in another order, and lists whose elements are taken to the same.
use Rattle.std.proofs.Common.{◌≡◌, ℕ, List, [], ◌∷◌, map, ap, sym, ◌∙◌, subst}
use Rattle.std.specs.Prelude.{Contains}
use Rattle.std.specs.List.{AllByRecursion, flat_map, sum, sum_by}
use Rattle.std.proofs.lemmas.List.Folds.{flat_map-map}
use Rattle.std.proofs.lemmas.List.Sums.{sum-map}
use Rattle.dom_base.proofs.Lists.{AllByRecursion-contains, AllByRecursion-map, AllByRecursion-unmap, AllByRecursion-weaker}
use Rattle.model_calls.proofs.Apart.{Apart, ApartBy}
use Rattle.model_calls.proofs.EachPart.{each_itself}
use Rattle.part_numbers.proofs.Permuted.{Permuted, both, keep, none, permuted_contains, swap}
use Rattle.part_numbers.proofs.Ranges.{map_map}

pub permuted_back : {X : Type 0} {xs ys : List X} → Permuted xs ys → Permuted ys xs
permuted_back none = none
permuted_back (keep h) = keep (permuted_back h)
permuted_back swap = swap
permuted_back (both h k) = both (permuted_back k) (permuted_back h)

pub permuted_map : {X Y : Type 0} (g : X → Y) {xs ys : List X} → Permuted xs ys → Permuted (map g xs) (map g ys)
permuted_map g none = none
permuted_map g (keep h) = keep (permuted_map g h)
permuted_map g swap = swap
permuted_map g (both h k) = both (permuted_map g h) (permuted_map g k)

pub kept_by : {X : Type 0} (P : X → Type 0) {xs ys : List X} → Permuted xs ys → AllByRecursion P ys → AllByRecursion P xs
kept_by P {xs} {ys} p h = AllByRecursion-weaker (Contains xs) P (λ z c. AllByRecursion-contains P ys z h (permuted_contains z (permuted_back p) c)) xs (each_itself xs)

pub by_itself : {X : Type 0} (xs : List X) → Apart xs → ApartBy (λ (x : X). x) xs
by_itself [] a = tt
by_itself (x ∷ xs) a = (a.0, by_itself xs a.1)

pub from_itself : {X : Type 0} (xs : List X) → ApartBy (λ (x : X). x) xs → Apart xs
from_itself [] a = tt
from_itself (x ∷ xs) a = (a.0, from_itself xs a.1)

-- what is the same of elements that are taken to the same

module _ {X Y : Type 0} (u : X → Y) (xs ys : List X) (e : map u xs ≡ map u ys) where
  pub same_map : {Z : Type 0} (F : Y → Z) → map (λ x. F (u x)) xs ≡ map (λ x. F (u x)) ys
  same_map F = sym (map_map F u xs) ∙ ap (map F) e ∙ map_map F u ys

  pub same_flat : {Z : Type 0} (F : Y → List Z) → flat_map (λ x. F (u x)) xs ≡ flat_map (λ x. F (u x)) ys
  same_flat F = sym (flat_map-map F u xs) ∙ ap (flat_map F) e ∙ flat_map-map F u ys

  pub same_sum : (F : Y → ℕ) → sum_by (λ x. F (u x)) xs ≡ sum_by (λ x. F (u x)) ys
  same_sum F = sym (sum-map (λ x. F (u x)) xs) ∙ ap sum (same_map F) ∙ sum-map (λ x. F (u x)) ys

  pub each_same : (P : Y → Type 0) → AllByRecursion (λ x. P (u x)) ys → AllByRecursion (λ x. P (u x)) xs
  each_same P h = AllByRecursion-unmap P u xs (subst (AllByRecursion P) (sym e) (AllByRecursion-map P u ys h))
