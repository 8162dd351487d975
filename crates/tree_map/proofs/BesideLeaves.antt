-- The first choices of a pair where one of its arms is a leaf.
use Rattle.std.proofs.Common.{◌≡◌, ◌⊎◌, inl, inr, refl, sym, ap, subst, ◌∙◌, ℕ, ◌+◌, ◌-◌, ◌≤◌, max, List, length, Bool, true, false, Option, Some, None, slice_get, arith}
use Rattle.std.specs.Prelude.{IfSome, ◌↔◌}
use Rattle.dual_rail.specs.declared.forest.Arm.{Arm}
use Rattle.dual_rail.specs.declared.forest.Pair.{Pair}
use Rattle.dual_rail.specs.ForestData.{ForestData}
use Rattle.dom_base.proofs.Bools.{never}
use Rattle.dual_rail.specs.ForestOrder.{AreInOrder, ReadsBefore}
use Rattle.dual_rail.specs.Forests.{left_arm, right_arm}
use Rattle.cover_plan.specs.Covers.{AreFirst, Costs, GivesLeast, IsChoice, IsLeast, joined_sum}
use Rattle.cover_plan.specs.Parts.{Choice, CoverPart, CutOff, Earlier, End, InParallel, InSeries, Join, Keep, Nothing, Operator, TreeShape, joined_shape, leaf_shape}
use Rattle.cover_plan.proofs.Choices.{choices_there}
use Rattle.cover_plan.proofs.Chosen.{least_one}
use Rattle.tree_map.specs.BesideLeaves.{ArePicked, IsPicked}
use Rattle.tree_map.specs.declared.offers.Choice.{Choice as offered_choice}
use Rattle.tree_map.specs.declared.offers.Choice.TheVariants.{Keep as offered_keep, CutOff as offered_cut, Nothing as offered_nothing}
use Rattle.tree_map.specs.declared.ties.Wanted.{Wanted}
use Rattle.tree_map.specs.CoverRows.{IsShapeIn}
use Rattle.tree_map.specs.CoverSums.{AreCutsOf, AreSumsOf, HasLeastSums, SumsData, sum_at}
use Rattle.tree_map.specs.LeastPlans.{IsPartOf, operator_of}
use Rattle.tree_map.specs.Offers.{AreFreeOf, choice_of}
use Rattle.tree_map.specs.Ties.{IsDecision, IsRootKind}
use Rattle.tree_map.proofs.FirstOffers.{IsNode, decision, is_least, left_within, node_below, parts, right_within}
use Rattle.tree_map.proofs.HadShapes.{sum_in}
use Rattle.tree_map.proofs.OfferedChoices.{free_part, no_free_part}

joined_either : (op : Operator) (a b : TreeShape) → joined_shape op a b ≡ joined_shape op b a
joined_either InSeries a b =
    let tall : a.height + b.height ≡ b.height + a.height = omega arith in
    let wide : max a.width b.width ≡ max b.width a.width = omega arith in
    λ i. record { height = tall i; width = wide i }
joined_either InParallel a b =
    let tall : max a.height b.height ≡ max b.height a.height = omega arith in
    let wide : a.width + b.width ≡ b.width + a.width = omega arith in
    λ i. record { height = tall i; width = wide i }

-- what the tree of an arm adds beside a leaf
abbrev IsBeside : Wanted → TreeShape → ℕ → Type 0
IsBeside wanted s n = (joined_shape (operator_of wanted.pair) s leaf_shape ≡ wanted.shape) × (n + 1 ≡ wanted.sum)

module _ (c : Costs) (w h : ℕ) (wanted : Wanted) (sum node : ℕ) (of_node : IsNode c (operator_of wanted.pair) node) (whole : wanted.sum + node ≡ sum) where
  abbrev op : Operator
  op = operator_of wanted.pair

  -- a choice that an arm has beside a leaf, which gives what is wanted
  abbrev Gives : CoverPart → Choice → Type 0
  Gives part x = (s : TreeShape) × (n : ℕ) × IsChoice c w h part x s n × IsBeside wanted s n

  -- each such choice is this one, or comes later
  abbrev IsFirst : CoverPart → Choice → Type 0
  IsFirst part x = (y : Choice) → Gives part y → Earlier x y ⊎ (x ≡ y)

  -- the leaf is the left arm, or the right one
  leaf_right : (l : CoverPart) (x : Choice) → IsLeast c w h (Join op l End) wanted.shape sum → Gives l x → IsFirst l x → AreFirst c w h op l End wanted.shape x Nothing
  leaf_right l x least (s, n, is, (shape_is, sum_is)) first = record {
    give = record {
      left_shape = s;
      right_shape = leaf_shape;
      left_sum = n;
      right_sum = 1;
      is_left = is;
      is_right = (refl, refl);
      shape_is = shape_is;
      least = (let same : sum ≡ joined_sum c op n 1 = omega (arith, of_node n 1, whole, sum_is) in subst (IsLeast c w h (Join op l End) wanted.shape) same least);
    };
    first = λ other more g. comes other more g;
  }
    where
      comes : (other more : Choice) (g : GivesLeast c w h op l End wanted.shape other more) → (Earlier x other) ⊎ ((x ≡ other) × (Earlier Nothing more ⊎ (Nothing ≡ more)))
      comes other (Keep k) g = absurd g.is_right
      comes other CutOff g = absurd g.is_right
      comes other Nothing g =
          let same = least_one c w h (Join op l End) wanted.shape (joined_sum c op g.left_sum g.right_sum) sum g.least least in
          let adds : g.left_sum + 1 ≡ wanted.sum = omega (arith, same, of_node g.left_sum g.right_sum, g.is_right.1, whole) in
          elim (first other (g.left_shape, g.left_sum, g.is_left, (ap (joined_shape op g.left_shape) (sym g.is_right.0) ∙ g.shape_is, adds))) [
            | inl before ↦ inl before
            | inr one ↦ inr (one, inr refl)
          ]

  leaf_left : (r : CoverPart) (x : Choice) → IsLeast c w h (Join op End r) wanted.shape sum → Gives r x → IsFirst r x → AreFirst c w h op End r wanted.shape Nothing x
  leaf_left r x least (s, n, is, (shape_is, sum_is)) first = record {
    give = record {
      left_shape = leaf_shape;
      right_shape = s;
      left_sum = 1;
      right_sum = n;
      is_left = (refl, refl);
      is_right = is;
      shape_is = joined_either op leaf_shape s ∙ shape_is;
      least = (let same : sum ≡ joined_sum c op 1 n = omega (arith, of_node 1 n, whole, sum_is) in subst (IsLeast c w h (Join op End r) wanted.shape) same least);
    };
    first = λ other more g. comes other more g;
  }
    where
      comes : (other more : Choice) (g : GivesLeast c w h op End r wanted.shape other more) → (Earlier Nothing other) ⊎ ((Nothing ≡ other) × (Earlier x more ⊎ (x ≡ more)))
      comes (Keep k) more g = absurd g.is_left
      comes CutOff more g = absurd g.is_left
      comes Nothing more g =
          let same = least_one c w h (Join op End r) wanted.shape (joined_sum c op g.left_sum g.right_sum) sum g.least least in
          let adds : g.right_sum + 1 ≡ wanted.sum = omega (arith, same, of_node g.left_sum g.right_sum, g.is_left.1, whole) in
          inr (refl, first more (g.right_shape, g.right_sum, g.is_right, (joined_either op g.right_shape leaf_shape ∙ ap (λ a. joined_shape op a g.right_shape) (sym g.is_left.0) ∙ g.shape_is, adds)))

  -- what gives the least sum beside a leaf
  some_left : 1 ≤ w → 1 ≤ h → (l : CoverPart) → IsLeast c w h (Join op l End) wanted.shape sum → (x : Choice) × Gives l x
  some_left wide tall l least = by (choices_there c w h wide tall op l End wanted.shape sum least)
    where
      by : (x : Choice) × (y : Choice) × GivesLeast c w h op l End wanted.shape x y → (x : Choice) × Gives l x
      by (x, Keep k, g) = absurd g.is_right
      by (x, CutOff, g) = absurd g.is_right
      by (x, Nothing, g) =
          let same = least_one c w h (Join op l End) wanted.shape (joined_sum c op g.left_sum g.right_sum) sum g.least least in
          let adds : g.left_sum + 1 ≡ wanted.sum = omega (arith, same, of_node g.left_sum g.right_sum, g.is_right.1, whole) in
          (x, (g.left_shape, g.left_sum, g.is_left, (ap (joined_shape op g.left_shape) (sym g.is_right.0) ∙ g.shape_is, adds)))

  some_right : 1 ≤ w → 1 ≤ h → (r : CoverPart) → IsLeast c w h (Join op End r) wanted.shape sum → (x : Choice) × Gives r x
  some_right wide tall r least = by (choices_there c w h wide tall op End r wanted.shape sum least)
    where
      by : (x : Choice) × (y : Choice) × GivesLeast c w h op End r wanted.shape x y → (x : Choice) × Gives r x
      by (Keep k, y, g) = absurd g.is_left
      by (CutOff, y, g) = absurd g.is_left
      by (Nothing, y, g) =
          let same = least_one c w h (Join op End r) wanted.shape (joined_sum c op g.left_sum g.right_sum) sum g.least least in
          let adds : g.right_sum + 1 ≡ wanted.sum = omega (arith, same, of_node g.left_sum g.right_sum, g.is_left.1, whole) in
          (y, (g.right_shape, g.right_sum, g.is_right, (joined_either op g.right_shape leaf_shape ∙ ap (λ a. joined_shape op a g.right_shape) (sym g.is_left.0) ∙ g.shape_is, adds)))

  -- the choice that was picked for a pair
  module _ (sum_of : TreeShape → Option ℕ) (o : Operator) (a b : CoverPart) (tells : (s : TreeShape) (n : ℕ) → (sum_of s ≡ Some n) ↔ IsLeast c w h (Join o a b) s n)
      (one : (s k : TreeShape) (n m : ℕ) → sum_of s ≡ Some n → sum_of k ≡ Some m → joined_shape op s leaf_shape ≡ joined_shape op k leaf_shape → s ≡ k) where
    picked_first : (x : offered_choice) → IsPicked wanted sum_of x → IsFirst (Join o a b) (choice_of x)
    picked_first offered_nothing is y g = absurd is
    picked_first (offered_keep s) is (Keep k) (z, n, (same, least), (shape_is, sum_is)) =
        inr (ap Keep (one s k is.sum n is.sum_is ((tells k n).1 least) (is.shape_is ∙ sym shape_is ∙ ap (λ q. joined_shape op q leaf_shape) same)))
    picked_first (offered_keep s) is CutOff g = inl tt
    picked_first (offered_keep s) is Nothing (z, n, none, more) = absurd none
    picked_first offered_cut is (Keep k) (z, n, (same, least), (shape_is, sum_is)) =
        absurd (is k (record { sum = n; sum_is = (tells k n).1 least; shape_is = ap (λ q. joined_shape op q leaf_shape) (sym same) ∙ shape_is; whole = sum_is }))
    picked_first offered_cut is CutOff g = inr refl
    picked_first offered_cut is Nothing (z, n, none, more) = absurd none

    picked_gives : (x : offered_choice) → IsPicked wanted sum_of x → (y : Choice) × Gives (Join o a b) y → Gives (Join o a b) (choice_of x)
    picked_gives offered_nothing is some = absurd is
    picked_gives (offered_keep s) is some = (s, is.sum, (refl, (tells s is.sum).0 is.sum_is), (is.shape_is, is.whole))
    picked_gives offered_cut is (Keep k, (z, n, (same, least), (shape_is, sum_is))) =
        absurd (is k (record { sum = n; sum_is = (tells k n).1 least; shape_is = ap (λ q. joined_shape op q leaf_shape) (sym same) ∙ shape_is; whole = sum_is }))
    picked_gives offered_cut is (CutOff, g) = g
    picked_gives offered_cut is (Nothing, (z, n, none, more)) = absurd none

-- the arms of a pair with the parts below them, of which one is an end, and what was picked for them
module _ (forest : ForestData) (t : SumsData) (frees : List Bool) (are : AreFreeOf forest frees) (wide : 1 ≤ t.w) (tall : 1 ≤ t.h) (wanted : Wanted) (sum node : ℕ)
    (of_node : IsNode t.costs (operator_of wanted.pair) node) (whole : wanted.sum + node ≡ sum) (a b : Arm) (l r : CoverPart) (below_a : IsPartOf forest a l) (below_b : IsPartOf forest b r)
    (in_a : ReadsBefore (length frees) a) (in_b : ReadsBefore (length frees) b) (before : (place : ℕ) (pair : Pair) (x y : CoverPart) → slice_get forest.pairs place ≡ Some pair
    → IsPartOf forest (left_arm pair) x → IsPartOf forest (right_arm pair) y → HasLeastSums t place (Join (operator_of pair) x y)) where
  -- one shape alone comes to a shape beside a leaf
  one_shape : (place : ℕ) (s k : TreeShape) (n m : ℕ) → sum_at t place s ≡ Some n → sum_at t place k ≡ Some m
      → joined_shape (operator_of wanted.pair) s leaf_shape ≡ joined_shape (operator_of wanted.pair) k leaf_shape → s ≡ k
  one_shape place s k n m e f same = by (operator_of wanted.pair) same
    where
      is_s : IsShapeIn t.w t.h s
      is_s = sum_in t place s n e

      is_k : IsShapeIn t.w t.h k
      is_k = sum_in t place k m f

      by : (o : Operator) → joined_shape o s leaf_shape ≡ joined_shape o k leaf_shape → s ≡ k
      by InSeries same =
          let high : s.height ≡ k.height = omega (arith, ap (λ (q : TreeShape). q.height) same) in
          let broad : s.width ≡ k.width = omega (arith, ap (λ (q : TreeShape). q.width) same, is_s.wide, is_k.wide) in
          λ i. record { height = high i; width = broad i }
      by InParallel same =
          let high : s.height ≡ k.height = omega (arith, ap (λ (q : TreeShape). q.height) same, is_s.tall, is_k.tall) in
          let broad : s.width ≡ k.width = omega (arith, ap (λ (q : TreeShape). q.width) same) in
          λ i. record { height = high i; width = broad i }

  pub picked_are_first : (left right : offered_choice) → ArePicked wanted t frees a b left right → IsLeast t.costs t.w t.h (Join (operator_of wanted.pair) l r) wanted.shape sum
      → AreFirst t.costs t.w t.h (operator_of wanted.pair) l r wanted.shape (choice_of left) (choice_of right)
  picked_are_first left right (inl (x, y)) least =
      let l_is = no_free_part forest frees are a l x.0 below_a in
      let r_is = no_free_part forest frees are b r y.0 below_b in
      subst (λ p. AreFirst t.costs t.w t.h (operator_of wanted.pair) p r wanted.shape (choice_of left) (choice_of right)) (sym l_is)
      (subst (λ q. AreFirst t.costs t.w t.h (operator_of wanted.pair) End q wanted.shape (choice_of left) (choice_of right)) (sym r_is)
      (subst (λ x. AreFirst t.costs t.w t.h (operator_of wanted.pair) End End wanted.shape (choice_of x) (choice_of right)) (sym x.1)
      (subst (λ y. AreFirst t.costs t.w t.h (operator_of wanted.pair) End End wanted.shape Nothing (choice_of y)) (sym y.1)
      (both (subst (λ p. IsLeast t.costs t.w t.h (Join (operator_of wanted.pair) p End) wanted.shape sum) l_is
      (subst (λ q. IsLeast t.costs t.w t.h (Join (operator_of wanted.pair) l q) wanted.shape sum) r_is least))))))
    where
      both : IsLeast t.costs t.w t.h (Join (operator_of wanted.pair) End End) wanted.shape sum → AreFirst t.costs t.w t.h (operator_of wanted.pair) End End wanted.shape Nothing Nothing
      both least = by (some_left t.costs t.w t.h wanted sum node of_node whole wide tall End least)
        where
          alone : (y : Choice) → Gives t.costs t.w t.h wanted sum node of_node whole End y → Earlier Nothing y ⊎ (Nothing ≡ y)
          alone (Keep k) (s, n, none, more) = absurd none
          alone CutOff (s, n, none, more) = absurd none
          alone Nothing g = inr refl

          by : (x : Choice) × Gives t.costs t.w t.h wanted sum node of_node whole End x → AreFirst t.costs t.w t.h (operator_of wanted.pair) End End wanted.shape Nothing Nothing
          by (Keep k, (s, n, none, more)) = absurd none
          by (CutOff, (s, n, none, more)) = absurd none
          by (Nothing, g) = leaf_right t.costs t.w t.h wanted sum node of_node whole End Nothing least g alone
  picked_are_first left right (inr (inl ((place, there, is), y))) least =
      let r_is = no_free_part forest frees are b r y.0 below_b in
      let from = subst (λ q. IsLeast t.costs t.w t.h (Join (operator_of wanted.pair) l q) wanted.shape sum) r_is least in
      subst (λ q. AreFirst t.costs t.w t.h (operator_of wanted.pair) l q wanted.shape (choice_of left) (choice_of right)) (sym r_is)
      (subst (λ y. AreFirst t.costs t.w t.h (operator_of wanted.pair) l End wanted.shape (choice_of left) (choice_of y)) (sym y.1)
      (free_part forest frees are
      (λ p. IsLeast t.costs t.w t.h (Join (operator_of wanted.pair) p End) wanted.shape sum → AreFirst t.costs t.w t.h (operator_of wanted.pair) p End wanted.shape (choice_of left) Nothing)
      a place l in_a there
      (λ pair u v at du dv low.
      let tells = before place pair u v at du dv in
      leaf_right t.costs t.w t.h wanted sum node of_node whole (Join (operator_of pair) u v) (choice_of left) low
      (picked_gives t.costs t.w t.h wanted sum node of_node whole (sum_at t place) (operator_of pair) u v tells (one_shape place) left is
      (some_left t.costs t.w t.h wanted sum node of_node whole wide tall (Join (operator_of pair) u v) low))
      (picked_first t.costs t.w t.h wanted sum node of_node whole (sum_at t place) (operator_of pair) u v tells (one_shape place) left is)) below_a from))
  picked_are_first left right (inr (inr (x, (place, there, is)))) least =
      let l_is = no_free_part forest frees are a l x.0 below_a in
      let from = subst (λ p. IsLeast t.costs t.w t.h (Join (operator_of wanted.pair) p r) wanted.shape sum) l_is least in
      subst (λ p. AreFirst t.costs t.w t.h (operator_of wanted.pair) p r wanted.shape (choice_of left) (choice_of right)) (sym l_is)
      (subst (λ x. AreFirst t.costs t.w t.h (operator_of wanted.pair) End r wanted.shape (choice_of x) (choice_of right)) (sym x.1)
      (free_part forest frees are
      (λ q. IsLeast t.costs t.w t.h (Join (operator_of wanted.pair) End q) wanted.shape sum → AreFirst t.costs t.w t.h (operator_of wanted.pair) End q wanted.shape Nothing (choice_of right))
      b place r in_b there
      (λ pair u v at du dv low.
      let tells = before place pair u v at du dv in
      leaf_left t.costs t.w t.h wanted sum node of_node whole (Join (operator_of pair) u v) (choice_of right) low
      (picked_gives t.costs t.w t.h wanted sum node of_node whole (sum_at t place) (operator_of pair) u v tells (one_shape place) right is
      (some_right t.costs t.w t.h wanted sum node of_node whole wide tall (Join (operator_of pair) u v) low))
      (picked_first t.costs t.w t.h wanted sum node of_node whole (sum_at t place) (operator_of pair) u v tells (one_shape place) right is)) below_b from))

module _ (forest : ForestData) (t : SumsData) (frees : List Bool) (wide : (2 ≤ t.w) × (t.w ≤ 8)) (tall : (2 ≤ t.h) × (t.h ≤ 6)) (order : AreInOrder forest.pairs) (sums : AreSumsOf forest t) (cuts : AreCutsOf forest t)
    (are : AreFreeOf forest frees) (place : ℕ) (pair : Pair) (at : slice_get forest.pairs place ≡ Some pair) (a b : Arm) (a_is : a ≡ left_arm pair) (b_is : b ≡ right_arm pair)
    (shape : TreeShape) (sum number node : ℕ) (sum_is : sum_at t place shape ≡ Some sum) (of_node : IsNode t.costs (operator_of pair) node) (number_is : number ≡ sum - node) where
  -- what is decided of a pair where one of its arms is a leaf
  pub decided_beside : (split : Bool) (left right : offered_choice) (kept : Option TreeShape) → split ≡ false → ArePicked (record { pair = pair; shape = shape; sum = number }) t frees a b left right
      → IfSome kept (λ before. (shape ≡ before) × (split ≡ false)) → (kept ≡ None → IsRootKind t place shape split) → IsDecision t.costs forest t.w t.h pair kept split shape left right
  decided_beside split left right kept bare picked stays root =
      let p = parts forest t frees wide tall order sums cuts are place pair at in
      let le = node_below forest t frees wide tall order sums cuts are place pair at shape sum node of_node sum_is in
      decision forest t frees wide tall order sums cuts are place pair at shape split left right kept
      (λ e. picked_are_first forest t frees are (omega (arith, wide.0)) (omega (arith, tall.0)) (record { pair = pair; shape = shape; sum = number }) sum node of_node (omega (arith, number_is, le)) a b p.l p.r
      (subst (λ x. IsPartOf forest x p.l) (sym a_is) p.left_part) (subst (λ x. IsPartOf forest x p.r) (sym b_is) p.right_part)
      (left_within forest t frees wide tall order sums cuts are place pair at a a_is) (right_within forest t frees wide tall order sums cuts are place pair at b b_is)
      sums left right picked (is_least forest t frees wide tall order sums cuts are place pair at shape sum sum_is))
      (λ marked. absurd (never marked bare)) (λ marked. absurd (never marked bare)) stays root
