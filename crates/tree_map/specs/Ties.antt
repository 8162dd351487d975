-- The first two offers that give a pair its shape at its least sum, and what follows from them.
use Rattle.std.specs.Prelude.{ℕ, ◌+◌, ◌<◌, ◌≤◌, ◌^◌, ◌≡◌, Bool, true, false, List, length, Option, None, Some, slice_get, slice_set}
use Rattle.dual_rail.specs.declared.forest.Arm.{Arm}
use Rattle.dual_rail.specs.declared.forest.Arm.TheVariants.{Pair as pair_arm}
use Rattle.dual_rail.specs.declared.forest.Pair.{Pair}
use Rattle.dual_rail.specs.ForestData.{ForestData}
use Rattle.dual_rail.specs.Forests.{left_arm, right_arm}
use Rattle.tree_map.specs.declared.offers.Offer.{Offer}
use Rattle.tree_map.specs.declared.offers.Choice.{Choice}
use Rattle.tree_map.specs.declared.offers.Choice.TheVariants.{Keep as offered_keep}
use Rattle.tree_map.specs.declared.ties.Wanted.{Wanted}
use Rattle.cover_plan.specs.Covers.{AreFirst, Costs, IsCompoundRoot, IsRootShape, IsSimpleRoot}
use Rattle.cover_plan.specs.Parts.{CoverPart, Join, TreeShape, joined_shape}
use Rattle.tree_map.specs.LeastPlans.{IsPartOf, operator_of}
use Rattle.tree_map.specs.CoverSums.{SumsData, cut_at, sum_at}
use Rattle.tree_map.specs.Offers.{IsFirstShape, choice_of}

-- two offers for the arms of a pair give what is wanted
abbrev pub Give : Wanted → Offer → Offer → Type 0
Give wanted left right =
    (joined_shape (operator_of wanted.pair) left.shape right.shape ≡ wanted.shape) × (left.sum + right.sum ≡ wanted.sum)

-- the first so many offers for the right arm don't give it
abbrev pub NoneGives : Wanted → Offer → List Offer → ℕ → Type 0
NoneGives wanted left rights count =
    (k : ℕ) (right : Offer) → k < count → slice_get rights k ≡ Some right → Give wanted left right → ⊥

-- the first so many offers for the left arm don't give it with any for the right arm
abbrev pub NoneGiveBefore : Wanted → List Offer → List Offer → ℕ → Type 0
NoneGiveBefore wanted lefts rights count =
    (i : ℕ) (left : Offer) → i < count → slice_get lefts i ≡ Some left → NoneGives wanted left rights (length rights)

-- the first offer for the right arm that gives what is wanted with this one for the left arm
pub record IsFirstRight (wanted : Wanted) (left : Offer) (rights : List Offer) (right : Offer) : Type 0 where
  pub place : ℕ
  pub at : slice_get rights place ≡ Some right
  pub give : Give wanted left right
  pub first : NoneGives wanted left rights place

-- the first two offers, where the left arm counts before the right arm
pub record AreFirstOffers (wanted : Wanted) (lefts rights : List Offer) (left right : Offer) : Type 0 where
  pub place : ℕ
  pub at : slice_get lefts place ≡ Some left
  pub first_right : IsFirstRight wanted left rights right
  pub first : NoneGiveBefore wanted lefts rights place

-- two offers give what is wanted
pub record SomeGive (wanted : Wanted) (lefts rights : List Offer) : Type 0 where
  pub place : ℕ
  pub left : Offer
  pub at_left : slice_get lefts place ≡ Some left
  pub other : ℕ
  pub right : Offer
  pub at_right : slice_get rights other ≡ Some right
  pub give : Give wanted left right

-- shapes that can be joined
abbrev pub IsSmall : TreeShape → Type 0
IsSmall shape = (shape.height < 2 ^ 31) × (shape.width < 2 ^ 31)

abbrev pub AreSmall : List Offer → Type 0
AreSmall offers = (k : ℕ) (o : Offer) → slice_get offers k ≡ Some o → IsSmall o.shape

-- the marks and the shapes of pairs after a choice for an arm
abbrev pub kept_with : Arm → Choice → List Bool → List Bool
kept_with (pair_arm place) (offered_keep shape) kept = slice_set kept place true
kept_with _ _ kept = kept

abbrev pub shapes_with : Arm → Choice → List TreeShape → List TreeShape
shapes_with (pair_arm place) (offered_keep shape) shapes = slice_set shapes place shape
shapes_with _ _ shapes = shapes

-- the first offer of least sum
pub record IsFirstLeast (offers : List Offer) (offer : Offer) : Type 0 where
  pub place : ℕ
  pub at : slice_get offers place ≡ Some offer
  pub least : (k : ℕ) (other : Offer) → slice_get offers k ≡ Some other → offer.sum ≤ other.sum
  pub early : (k : ℕ) (other : Offer) → k < place → slice_get offers k ≡ Some other → offer.sum < other.sum

-- a root has its first shape of least sum, and is compound exactly where its least cost is less than that of a simple one
pub record IsRootKind (t : SumsData) (place : ℕ) (shape : TreeShape) (split : Bool) : Type 0 where
  pub first : IsFirstShape (sum_at t place) shape
  pub compound : split ≡ true → (cut : ℕ) × (cut_at t place ≡ Some cut) × (cut ≤ first.sum + t.costs.simple)
  pub simple : split ≡ false → (cut : ℕ) → cut_at t place ≡ Some cut → first.sum + t.costs.simple < cut

-- what is decided of a pair: whether it is a compound root, its shape, and the first choices for its arms, where a kept pair has its
-- shape already
pub record IsDecision
    (c : Costs) (forest : ForestData) (w h : ℕ) (pair : Pair) (kept : Option TreeShape) (split : Bool) (shape : TreeShape) (left right : Choice)
    : Type 0 where
  pub l : CoverPart
  pub r : CoverPart
  pub left_part : IsPartOf forest (left_arm pair) l
  pub right_part : IsPartOf forest (right_arm pair) r
  pub stays : (before : TreeShape) → kept ≡ Some before → (shape ≡ before) × (split ≡ false)
  pub root : kept ≡ None → split ≡ false
      → (is : IsRootShape c w h (Join (operator_of pair) l r) shape) × IsSimpleRoot c w h (Join (operator_of pair) l r) is.sum
  pub first : split ≡ false → AreFirst c w h (operator_of pair) l r shape (choice_of left) (choice_of right)
  pub compound : split ≡ true → IsCompoundRoot c w h (operator_of pair) l r (choice_of left) (choice_of right)
