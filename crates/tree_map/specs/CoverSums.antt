-- The least sums of the parts below the pairs of a forest, and what each pair adds where it is cut, as lists of numbers.
use Rattle.std.specs.Prelude.{ℕ, zero, suc, ◌+◌, ◌*◌, ◌-◌, ◌<◌, nat_le, ◌&&◌, ◌≡◌, ◌↔◌, ◌++◌, [], ◌∷◌, Bool, cond, List, Option, None, Some, slice_get}
use Rattle.cover_plan.specs.Covers.{Costs, IsLeast, IsLeastRoot}
use Rattle.cover_plan.specs.Parts.{CoverPart, Join, TreeShape}
use Rattle.dual_rail.specs.declared.forest.Pair.{Pair}
use Rattle.dual_rail.specs.ForestData.{ForestData}
use Rattle.dual_rail.specs.Forests.{left_arm, right_arm}
use Rattle.tree_map.specs.LeastPlans.{IsPartOf, operator_of}

-- sums by pair and shape at these costs: for each pair w * h numbers, by height and then by width, 0 where the shape can't be had;
-- and for each pair what it adds to the tree above where it is cut, 0 where it can't be
pub record SumsData : Type 0 where
  pub w : ℕ
  pub h : ℕ
  pub costs : Costs
  pub sums : List ℕ
  pub cuts : List ℕ

-- sums with the row of one more pair, and with what it adds where it is cut
abbrev pub with_row : SumsData → List ℕ → SumsData
with_row t row = record { w = t.w; h = t.h; costs = t.costs; sums = t.sums ++ row; cuts = t.cuts }

abbrev pub with_cut : SumsData → ℕ → SumsData
with_cut t cut = record { w = t.w; h = t.h; costs = t.costs; sums = t.sums; cuts = t.cuts ++ cut ∷ [] }

-- whether a shape is one of those that have a number
abbrev pub has_shape : SumsData → TreeShape → Bool
has_shape t shape = (nat_le 1 shape.height && nat_le shape.height t.h) && (nat_le 1 shape.width && nat_le shape.width t.w)

-- where the number of a pair and a shape stands
abbrev pub sum_index : SumsData → ℕ → TreeShape → ℕ
sum_index t place shape = place * (t.w * t.h) + ((shape.height - 1) * t.w + (shape.width - 1))

-- a number that is there and isn't 0
abbrev pub above_zero : Option ℕ → Option ℕ
above_zero None = None
above_zero (Some zero) = None
above_zero (Some (suc n)) = Some (suc n)

-- the number of this pair and shape, where it is in range and not 0
abbrev pub sum_at : SumsData → ℕ → TreeShape → Option ℕ
sum_at t place shape = cond (has_shape t shape) (above_zero (slice_get t.sums (sum_index t place shape))) None

-- what this pair adds where it is cut: a leaf, and its own least cost
abbrev pub cut_at : SumsData → ℕ → Option ℕ
cut_at t place = above_zero (slice_get t.cuts place)

-- the sums of a pair are the least sums of the part below it, shape by shape
abbrev pub HasLeastSums : SumsData → ℕ → CoverPart → Type 0
HasLeastSums t place part = (shape : TreeShape) (sum : ℕ) → (sum_at t place shape ≡ Some sum) ↔ IsLeast t.costs t.w t.h part shape sum

-- and where it is cut it adds a leaf and the least cost that it has as a root
abbrev pub HasLeastCut : SumsData → ℕ → CoverPart → Type 0
HasLeastCut t place part = (cost : ℕ) → (cut_at t place ≡ Some (1 + cost)) ↔ IsLeastRoot t.costs t.w t.h part cost

abbrev pub HasLeast : SumsData → ℕ → CoverPart → Type 0
HasLeast t place part = HasLeastSums t place part × HasLeastCut t place part

-- so it is of each pair before a place
abbrev pub AreLeastBefore : ForestData → ℕ → SumsData → Type 0
AreLeastBefore forest place t =
    (other : ℕ) (pair : Pair) (l r : CoverPart) → other < place → slice_get forest.pairs other ≡ Some pair
    → IsPartOf forest (left_arm pair) l → IsPartOf forest (right_arm pair) r → HasLeast t other (Join (operator_of pair) l r)

-- the sums of a forest: those of each pair are least
abbrev pub AreSumsOf : ForestData → SumsData → Type 0
AreSumsOf forest t =
    (place : ℕ) (pair : Pair) (l r : CoverPart) → slice_get forest.pairs place ≡ Some pair
    → IsPartOf forest (left_arm pair) l → IsPartOf forest (right_arm pair) r → HasLeastSums t place (Join (operator_of pair) l r)

-- and so is what each pair adds where it is cut
abbrev pub AreCutsOf : ForestData → SumsData → Type 0
AreCutsOf forest t =
    (place : ℕ) (pair : Pair) (l r : CoverPart) → slice_get forest.pairs place ≡ Some pair
    → IsPartOf forest (left_arm pair) l → IsPartOf forest (right_arm pair) r → HasLeastCut t place (Join (operator_of pair) l r)
