-- Offers for an arm: its choices in order, with the shape and the sum that each gives.
use Rattle.std.specs.Prelude.{ℕ, ◌<◌, ◌≤◌, ◌≡◌, Bool, true, false, List, length, map, Option, Some, slice_get, slice_index_or}
use Rattle.std.specs.List.{range_with_len}
use Rattle.dual_rail.specs.declared.forest.Arm.{Arm}
use Rattle.dual_rail.specs.declared.forest.Arm.TheVariants.{Pair as pair_arm}
use Rattle.dual_rail.specs.ForestData.{ForestData}
use Rattle.dual_rail.specs.ForestOrder.{ReadsBefore}
use Rattle.tree_map.specs.declared.offers.Choice.{Choice as offered_choice}
use Rattle.tree_map.specs.declared.offers.Choice.TheVariants.{Keep as offered_keep, CutOff as offered_cut, Nothing as offered_nothing}
use Rattle.tree_map.specs.declared.offers.Offer.{Offer}
use Rattle.cover_plan.specs.Covers.{Costs, IsChoice}
use Rattle.cover_plan.specs.Parts.{Choice, CoverPart, CutOff, Earlier, Keep, Lower, Nothing, TreeShape}
use Rattle.tree_map.specs.CoverSums.{AreLeastBefore, SumsData}
use Rattle.tree_map.specs.LeastPlans.{IsPartOf}
use Rattle.tree_map.specs.Plans.{is_free}

-- the choice of an offer
abbrev pub choice_of : offered_choice → Choice
choice_of (offered_keep shape) = Keep shape
choice_of offered_cut = CutOff
choice_of offered_nothing = Nothing

-- a choice is offered, with this shape and sum
pub record IsOffered (offers : List Offer) (choice : Choice) (shape : TreeShape) (sum : ℕ) : Type 0 where
  pub place : ℕ
  pub offer : Offer
  pub at : slice_get offers place ≡ Some offer
  pub choice_is : choice_of offer.choice ≡ choice
  pub shape_is : offer.shape ≡ shape
  pub sum_is : offer.sum ≡ sum

-- an earlier choice is offered at an earlier place
abbrev pub AreInTurn : List Offer → Type 0
AreInTurn offers =
    (i k : ℕ) (a b : Offer) → i < k → slice_get offers i ≡ Some a → slice_get offers k ≡ Some b
    → Earlier (choice_of a.choice) (choice_of b.choice)

-- to keep a pair in each of its shapes, where these are their sums
pub record AreKept (sum_of : TreeShape → Option ℕ) (offers : List Offer) : Type 0 where
  pub keeps : (k : ℕ) (o : Offer) → slice_get offers k ≡ Some o → choice_of o.choice ≡ Keep o.shape
  pub sums : (k : ℕ) (o : Offer) → slice_get offers k ≡ Some o → sum_of o.shape ≡ Some o.sum
  pub complete : (shape : TreeShape) (sum : ℕ) → sum_of shape ≡ Some sum → IsOffered offers (Keep shape) shape sum
  pub in_turn : AreInTurn offers

-- the shape of least sum, of these the lowest, and of these the narrowest
pub record IsFirstShape (sum_of : TreeShape → Option ℕ) (shape : TreeShape) : Type 0 where
  pub sum : ℕ
  pub sum_is : sum_of shape ≡ Some sum
  pub least : (other : TreeShape) (more : ℕ) → sum_of other ≡ Some more → sum ≤ more
  pub first : (other : TreeShape) → sum_of other ≡ Some sum → Lower shape other

-- the least sum of all
abbrev pub IsLeastSum : (TreeShape → Option ℕ) → ℕ → Type 0
IsLeastSum sum_of sum =
    ((shape : TreeShape) × (sum_of shape ≡ Some sum)) × ((other : TreeShape) (more : ℕ) → sum_of other ≡ Some more → sum ≤ more)

-- the choices for an arm with what each gives, in order
pub record AreOffers (c : Costs) (w h : ℕ) (part : CoverPart) (offers : List Offer) : Type 0 where
  pub sound : (k : ℕ) (o : Offer) → slice_get offers k ≡ Some o → IsChoice c w h part (choice_of o.choice) o.shape o.sum
  pub complete : (choice : Choice) (shape : TreeShape) (sum : ℕ) → IsChoice c w h part choice shape sum
      → IsOffered offers choice shape sum
  pub in_turn : AreInTurn offers

-- whether the edge to each pair of a forest is free
abbrev pub AreFreeOf : ForestData → List Bool → Type 0
AreFreeOf forest free = free ≡ map (is_free forest) (range_with_len 0 (length forest.pairs))

-- the offers for an arm, whatever forest these are the sums of before the arm is read
abbrev pub AreOffersFor : SumsData → List Bool → Arm → List Offer → Type 0
AreOffersFor t free arm offers =
    (forest : ForestData) (place : ℕ) (part : CoverPart) → AreFreeOf forest free → ReadsBefore place arm → AreLeastBefore forest place t
    → IsPartOf forest arm part → AreOffers t.costs t.w t.h part offers

-- a pair has some shape
abbrev pub HasSums : (TreeShape → Option ℕ) → Type 0
HasSums sum_of = (shape : TreeShape) × (sum : ℕ) × (sum_of shape ≡ Some sum)

-- a free edge leads from the arm to this pair
abbrev pub IsFreePair : List Bool → Arm → ℕ → Type 0
IsFreePair free arm place = (arm ≡ pair_arm place) × (slice_index_or free place false ≡ true)

-- no free edge stands at the arm
abbrev pub HasNoFreePair : List Bool → Arm → Type 0
HasNoFreePair free arm = (place : ℕ) → arm ≡ pair_arm place → slice_index_or free place false ≡ false
