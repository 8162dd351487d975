-- The first two offers that give a pair its shape at its least sum are its first choices.
use Rattle.std.proofs.Common.{◌≡◌, inl, inr, refl, sym, ap, ap₂, subst, ◌∙◌, ℕ, ◌+◌, ◌-◌, ◌≤◌, ◌<◌, Bool, true, false, List, length, Option, Some, None, slice_get, get_or, arith}
use Rattle.std.specs.Prelude.{IfSome}
use Rattle.std.proofs.lemmas.Bool.{cases_lt}
use Rattle.std.proofs.lemmas.List.FromFn.{length-map-range_with_len}
use Rattle.std.proofs.lemmas.Option.{same_Some, slice_get_read, slice_get_within}
use Rattle.dom_base.proofs.Bools.{never}
use Rattle.dual_rail.specs.declared.forest.Arm.{Arm}
use Rattle.dual_rail.specs.declared.forest.Pair.{Pair}
use Rattle.dual_rail.specs.ForestData.{ForestData}
use Rattle.dual_rail.proofs.ForestOrders.{reads_later}
use Rattle.dual_rail.specs.ForestOrder.{AreInOrder, ReadsBefore}
use Rattle.dual_rail.specs.Forests.{left_arm, right_arm}
use Rattle.tree_map.specs.declared.offers.Choice.{Choice as offered_choice}
use Rattle.tree_map.specs.declared.offers.Offer.{Offer}
use Rattle.tree_map.specs.declared.ties.Wanted.{Wanted}
use Rattle.cover_plan.specs.Covers.{AreFirst, Costs, GivesLeast, IsChoice, IsFirstAlone, IsLeast, joined_sum}
use Rattle.cover_plan.specs.Parts.{Choice, Comes, CoverPart, CutOff, Earlier, End, Fits, Join, Keep, Nothing, Operator, TreeShape, joined_shape}
use Rattle.tree_map.specs.CoverSums.{AreCutsOf, AreLeastBefore, AreSumsOf, SumsData, sum_at}
use Rattle.tree_map.specs.LeastPlans.{IsPartOf, operator_of}
use Rattle.tree_map.specs.Offers.{AreFreeOf, AreOffers, AreOffersFor, HasSums, IsFirstShape, IsOffered, choice_of}
use Rattle.tree_map.specs.Ties.{AreFirstOffers, AreSmall, Give, IsDecision, IsFirstLeast, IsRootKind, SomeGive}
use Rattle.tree_map.specs.Plans.{is_free}
use Rattle.cover_plan.specs.Covers.{sum_of}
use Rattle.cover_plan.proofs.Choices.{choices_there}
use Rattle.cover_plan.proofs.Chosen.{least_one}
use Rattle.tree_map.proofs.RootKinds.{compound_is, first_alone_is, simple_is}
use Rattle.compound_plan.proofs.PlanParts.{arm_part}
use Rattle.tree_map.proofs.RootShapes.{root_there}

-- a choice gives a shape within the bounds
choice_fits : (c : Costs) (w h : ℕ) → 1 ≤ w → 1 ≤ h → (t : CoverPart) (x : Choice) (s : TreeShape) (n : ℕ) → IsChoice c w h t x s n → Fits w h s
choice_fits c w h wide tall End Nothing s n is = subst (Fits w h) (sym is.0) (wide, tall)
choice_fits c w h wide tall End (Keep k) s n is = absurd is
choice_fits c w h wide tall End CutOff s n is = absurd is
choice_fits c w h wide tall (Join op l r) Nothing s n is = absurd is
choice_fits c w h wide tall (Join op l r) (Keep k) s n is = subst (Fits w h) (sym is.0) is.1.reached.fits
choice_fits c w h wide tall (Join op l r) CutOff s n (leaf, more) = subst (Fits w h) (sym leaf) (wide, tall)

pub offers_small : (c : Costs) (w h : ℕ) → (1 ≤ w) × (w ≤ 8) → (1 ≤ h) × (h ≤ 6) → (t : CoverPart) (xs : List Offer) → AreOffers c w h t xs → AreSmall xs
offers_small c w h wide tall t xs are = λ k o at.
    let fits = choice_fits c w h wide.0 tall.0 t (choice_of o.choice) o.shape o.sum (are.sound k o at) in
    (omega (arith, fits.1, tall.1), omega (arith, fits.0, wide.1))

-- the cost of a node
abbrev pub IsNode : Costs → Operator → ℕ → Type 0
IsNode c op node = (left right : ℕ) → joined_sum c op left right ≡ left + right + node

pub is_node : (c d : Costs) (pair : Pair) (node : ℕ) → c ≡ d → IsNode c (operator_of pair) node → IsNode d (operator_of pair) node
is_node c d pair node same is = subst (λ x. IsNode x (operator_of pair) node) same is

-- a least sum has the cost of its node
node_within : (c : Costs) (w h : ℕ) (op : Operator) (l r : CoverPart) (shape : TreeShape) (sum node : ℕ) → IsNode c op node → IsLeast c w h (Join op l r) shape sum → node ≤ sum
node_within c w h op l r shape sum node is least =
    let s = least.reached in
    let sum_is : joined_sum c op (sum_of c l s.left) (sum_of c r s.right) ≡ sum = s.sum_is in
    omega (arith, is (sum_of c l s.left) (sum_of c r s.right), sum_is)

module _ (c : Costs) (w h : ℕ) (wanted : Wanted) (sum node : ℕ) (of_node : IsNode c (operator_of wanted.pair) node) (sum_is : wanted.sum + node ≡ sum) (l r : CoverPart) (lefts rights : List Offer)
    (are_left : AreOffers c w h l lefts) (are_right : AreOffers c w h r rights) (least : IsLeast c w h (Join (operator_of wanted.pair) l r) wanted.shape sum) where
  -- two choices that give the shape at its least sum are offered
  offers_give : (other more : Choice) (g : GivesLeast c w h (operator_of wanted.pair) l r wanted.shape other more)
      → (x : IsOffered lefts other g.left_shape g.left_sum) (y : IsOffered rights more g.right_shape g.right_sum) → Give wanted x.offer y.offer
  offers_give other more g x y = (
    ap₂ (joined_shape (operator_of wanted.pair)) x.shape_is y.shape_is ∙ g.shape_is,
    (let same = least_one c w h (Join (operator_of wanted.pair) l r) wanted.shape (joined_sum c (operator_of wanted.pair) g.left_sum g.right_sum) sum g.least least in
        omega (arith, same, of_node g.left_sum g.right_sum, x.sum_is, y.sum_is, sum_is)),
  )

  pub some_give : 1 ≤ w → 1 ≤ h → SomeGive wanted lefts rights
  some_give wide tall =
      let k = choices_there c w h wide tall (operator_of wanted.pair) l r wanted.shape sum least in
      let g = k.2 in
      let x = are_left.complete k.0 g.left_shape g.left_sum g.is_left in
      let y = are_right.complete k.1 g.right_shape g.right_sum g.is_right in
      record { place = x.place; left = x.offer; at_left = x.at; other = y.place; right = y.offer; at_right = y.at; give = offers_give k.0 k.1 g x y }

  pub first_are : (left right : Offer) → AreFirstOffers wanted lefts rights left right
      → AreFirst c w h (operator_of wanted.pair) l r wanted.shape (choice_of left.choice) (choice_of right.choice)
  first_are left right is = record {
    give = record {
      left_shape = left.shape;
      right_shape = right.shape;
      left_sum = left.sum;
      right_sum = right.sum;
      is_left = are_left.sound is.place left is.at;
      is_right = are_right.sound is.first_right.place right is.first_right.at;
      shape_is = is.first_right.give.0;
      least =
          (let together : sum ≡ joined_sum c (operator_of wanted.pair) left.sum right.sum = omega (arith, of_node left.sum right.sum, is.first_right.give.1, sum_is) in
          subst (IsLeast c w h (Join (operator_of wanted.pair) l r) wanted.shape) together least);
    };
    first = λ other more g. comes other more g (are_left.complete other g.left_shape g.left_sum g.is_left) (are_right.complete more g.right_shape g.right_sum g.is_right);
  }
    where
      comes : (other more : Choice) (g : GivesLeast c w h (operator_of wanted.pair) l r wanted.shape other more)
          → IsOffered lefts other g.left_shape g.left_sum → IsOffered rights more g.right_shape g.right_sum
          → Comes (choice_of left.choice) (choice_of right.choice) other more
      comes other more g x y =
          elim (cases_lt x.place is.place) [
            | inl lt ↦ absurd (is.first x.place x.offer lt x.at y.place y.offer (slice_get_within rights y.place y.offer y.at) y.at (offers_give other more g x y))
            | inr ge ↦ elim (cases_lt is.place x.place) [
              | inl lt ↦ inl (subst (Earlier (choice_of left.choice)) x.choice_is (are_left.in_turn is.place x.place left x.offer lt is.at x.at))
              | inr le ↦ (let here : is.place ≡ x.place = omega arith in same (same_Some left x.offer (sym is.at ∙ ap (slice_get lefts) here ∙ x.at)))
            ]
          ]
        where
          same : left ≡ x.offer → Comes (choice_of left.choice) (choice_of right.choice) other more
          same e =
              let choice : choice_of left.choice ≡ other = ap (λ (o : Offer). choice_of o.choice) e ∙ x.choice_is in
              elim (cases_lt y.place is.first_right.place) [
                | inl lt ↦ absurd (is.first_right.first y.place y.offer lt y.at (subst (λ o. Give wanted o y.offer) (sym e) (offers_give other more g x y)))
                | inr ge ↦ elim (cases_lt is.first_right.place y.place) [
                  | inl lt ↦ inr (choice, inl (subst (Earlier (choice_of right.choice)) y.choice_is (are_right.in_turn is.first_right.place y.place right y.offer lt is.first_right.at y.at)))
                  | inr le ↦ (let here : is.first_right.place ≡ y.place = omega arith in
                      let also = same_Some right y.offer (sym is.first_right.at ∙ ap (slice_get rights) here ∙ y.at) in
                      inr (choice, inr (ap (λ (o : Offer). choice_of o.choice) also ∙ y.choice_is)))
                ]
              ]

-- a pair before which its arms stand is there, with the parts below them
pub record HasParts (forest : ForestData) (pair : Pair) : Type 0 where
  pub l : CoverPart
  pub r : CoverPart
  pub left_part : IsPartOf forest (left_arm pair) l
  pub right_part : IsPartOf forest (right_arm pair) r

pub parts_of : (forest : ForestData) → AreInOrder forest.pairs → (place : ℕ) (pair : Pair) → slice_get forest.pairs place ≡ Some pair → HasParts forest pair
parts_of forest order place pair at =
    let lt = slice_get_within forest.pairs place pair at in
    let o = order place pair at in
    let l = arm_part forest order place (left_arm pair) o.0 (omega arith) in
    let r = arm_part forest order place (right_arm pair) o.1 (omega arith) in
    record { l = l.0; r = r.0; left_part = l.1; right_part = r.1 }

-- each pair can have a shape
pub has_sums : (forest : ForestData) (t : SumsData) → 2 ≤ t.w → 2 ≤ t.h → AreInOrder forest.pairs → AreSumsOf forest t → (place : ℕ) (pair : Pair) → slice_get forest.pairs place ≡ Some pair
    → HasSums (sum_at t place)
has_sums forest t wide tall order sums place pair at =
    let p = parts_of forest order place pair at in
    let root = root_there t.costs t.w t.h wide tall (operator_of pair) p.l p.r in
    (root.0, root.1.sum, (sums place pair p.l p.r at p.left_part p.right_part root.0 root.1.sum).1 root.1.least)

-- the shape of a pair has a sum
pub shape_sum : (f : TreeShape → Option ℕ) (kept : Option TreeShape) (s : TreeShape) → IfSome kept (λ before. s ≡ before) → (kept ≡ None → IsFirstShape f s)
    → ((shape : TreeShape) → kept ≡ Some shape → (sum : ℕ) × (f shape ≡ Some sum)) → (sum : ℕ) × (f s ≡ Some sum)
shape_sum f None s stays root kept = let r = root refl in (r.sum, r.sum_is)
shape_sum f (Some before) s stays root kept = let k = kept before refl in (k.0, ap f stays ∙ k.1)

-- the pair of a forest that was read
pub pair_read : (forest : ForestData) (pairs : List Pair) → pairs ≡ forest.pairs → (place : ℕ) (pair : Pair) → place < length forest.pairs → pair ≡ get_or pairs place pair → slice_get forest.pairs place ≡ Some pair
pair_read forest pairs same place pair lt is = slice_get_read forest.pairs (length forest.pairs) place pair refl lt (subst (λ xs. pair ≡ get_or xs place pair) same is)

module _ (forest : ForestData) (t : SumsData) (frees : List Bool) (wide : (2 ≤ t.w) × (t.w ≤ 8)) (tall : (2 ≤ t.h) × (t.h ≤ 6)) (order : AreInOrder forest.pairs) (sums : AreSumsOf forest t) (cuts : AreCutsOf forest t)
    (are : AreFreeOf forest frees) (place : ℕ) (pair : Pair) (at : slice_get forest.pairs place ≡ Some pair) where
  pub parts : HasParts forest pair
  parts = parts_of forest order place pair at

  least_before : AreLeastBefore forest place t
  least_before other x l r lt there dl dr = (sums other x l r there dl dr, cuts other x l r there dl dr)

  left_offers : (arm : Arm) (xs : List Offer) → arm ≡ left_arm pair → AreOffersFor t frees arm xs → AreOffers t.costs t.w t.h parts.l xs
  left_offers arm xs e make =
      make forest place parts.l are (subst (ReadsBefore place) (sym e) (order place pair at).0) least_before (subst (λ a. IsPartOf forest a parts.l) (sym e) parts.left_part)

  right_offers : (arm : Arm) (xs : List Offer) → arm ≡ right_arm pair → AreOffersFor t frees arm xs → AreOffers t.costs t.w t.h parts.r xs
  right_offers arm xs e make =
      make forest place parts.r are (subst (ReadsBefore place) (sym e) (order place pair at).1) least_before (subst (λ a. IsPartOf forest a parts.r) (sym e) parts.right_part)

  pub is_least : (shape : TreeShape) (sum : ℕ) → sum_at t place shape ≡ Some sum → IsLeast t.costs t.w t.h (Join (operator_of pair) parts.l parts.r) shape sum
  is_least shape sum = (sums place pair parts.l parts.r at parts.left_part parts.right_part shape sum).0

  pub left_within : (arm : Arm) → arm ≡ left_arm pair → ReadsBefore (length frees) arm
  left_within arm e = subst (ReadsBefore (length frees)) (sym e)
      (reads_later place (length frees) (left_arm pair) (order place pair at).0 (omega (arith, slice_get_within forest.pairs place pair at, ap length are, length-map-range_with_len (is_free forest) 0 (length forest.pairs))))

  pub right_within : (arm : Arm) → arm ≡ right_arm pair → ReadsBefore (length frees) arm
  right_within arm e = subst (ReadsBefore (length frees)) (sym e)
      (reads_later place (length frees) (right_arm pair) (order place pair at).1 (omega (arith, slice_get_within forest.pairs place pair at, ap length are, length-map-range_with_len (is_free forest) 0 (length forest.pairs))))

  pub small_left : (arm : Arm) (xs : List Offer) → arm ≡ left_arm pair → AreOffersFor t frees arm xs → AreSmall xs
  small_left arm xs e make = offers_small t.costs t.w t.h (omega (arith, wide.0), wide.1) (omega (arith, tall.0), tall.1) parts.l xs (left_offers arm xs e make)

  pub small_right : (arm : Arm) (xs : List Offer) → arm ≡ right_arm pair → AreOffersFor t frees arm xs → AreSmall xs
  small_right arm xs e make = offers_small t.costs t.w t.h (omega (arith, wide.0), wide.1) (omega (arith, tall.0), tall.1) parts.r xs (right_offers arm xs e make)

  -- the least sum of a shape has the cost of the node
  pub node_below : (shape : TreeShape) (sum node : ℕ) → IsNode t.costs (operator_of pair) node → sum_at t place shape ≡ Some sum → node ≤ sum
  node_below shape sum node is e = node_within t.costs t.w t.h (operator_of pair) parts.l parts.r shape sum node is (is_least shape sum e)

  -- what is decided of the pair, by its shape and the first choices for its arms
  pub decision : (shape : TreeShape) (split : Bool) (left right : offered_choice) (kept : Option TreeShape)
      → (split ≡ false → AreFirst t.costs t.w t.h (operator_of pair) parts.l parts.r shape (choice_of left) (choice_of right))
      → (split ≡ true → IsFirstAlone t.costs t.w t.h parts.l (choice_of left)) → (split ≡ true → IsFirstAlone t.costs t.w t.h parts.r (choice_of right))
      → IfSome kept (λ before. (shape ≡ before) × (split ≡ false)) → (kept ≡ None → IsRootKind t place shape split)
      → IsDecision t.costs forest t.w t.h pair kept split shape left right
  decision shape split left right kept first left_alone right_alone stays root = record {
    l = parts.l;
    r = parts.r;
    left_part = parts.left_part;
    right_part = parts.right_part;
    stays = λ before e. before_is kept before e stays;
    root = λ e bare. simple_is t place (operator_of pair) parts.l parts.r wide_t tall_t (sums place pair parts.l parts.r at parts.left_part parts.right_part) (cuts place pair parts.l parts.r at parts.left_part parts.right_part)
        shape split (root e) bare;
    first = first;
    compound = λ marked. compound_is t place (operator_of pair) parts.l parts.r wide_t tall_t (sums place pair parts.l parts.r at parts.left_part parts.right_part)
        (cuts place pair parts.l parts.r at parts.left_part parts.right_part) shape split (root (unkept kept stays marked)) marked (choice_of left) (choice_of right)
        (left_alone marked) (right_alone marked);
  }
    where
      wide_t : 1 ≤ t.w
      wide_t = omega (arith, wide.0)

      tall_t : 1 ≤ t.h
      tall_t = omega (arith, tall.0)

      before_is : (kept : Option TreeShape) (before : TreeShape) → kept ≡ Some before → IfSome kept (λ s. (shape ≡ s) × (split ≡ false)) → (shape ≡ before) × (split ≡ false)
      before_is None before e stays = absurd (cc)
      before_is (Some s) before e stays = (stays.0 ∙ same_Some s before e, stays.1)

      unkept : (kept : Option TreeShape) → IfSome kept (λ s. (shape ≡ s) × (split ≡ false)) → split ≡ true → kept ≡ None
      unkept None stays marked = refl
      unkept (Some s) stays marked = absurd (never marked stays.1)

  module _ (a b : Arm) (xs ys : List Offer) (a_is : a ≡ left_arm pair) (b_is : b ≡ right_arm pair) (lefts : AreOffersFor t frees a xs) (rights : AreOffersFor t frees b ys)
      (shape : TreeShape) (sum number node : ℕ) (sum_is : sum_at t place shape ≡ Some sum) (of_node : IsNode t.costs (operator_of pair) node) (number_is : number ≡ sum - node) where
    whole : number + node ≡ sum
    whole = let le = node_below shape sum node of_node sum_is in omega (arith, number_is, le)

    pub given : SomeGive (record { pair = pair; shape = shape; sum = number }) xs ys
    given = some_give t.costs t.w t.h (record { pair = pair; shape = shape; sum = number }) sum node of_node whole parts.l parts.r xs ys (left_offers a xs a_is lefts) (right_offers b ys b_is rights)
        (is_least shape sum sum_is) (omega (arith, wide.0)) (omega (arith, tall.0))

    pub decided : (split : Bool) (left right : Offer) (kept : Option TreeShape) → (split ≡ false → AreFirstOffers (record { pair = pair; shape = shape; sum = number }) xs ys left right)
        → (split ≡ true → IsFirstLeast xs left) → (split ≡ true → IsFirstLeast ys right) → IfSome kept (λ before. (shape ≡ before) × (split ≡ false)) → (kept ≡ None → IsRootKind t place shape split)
        → IsDecision t.costs forest t.w t.h pair kept split shape left.choice right.choice
    decided split left right kept first first_left first_right stays root =
        decision shape split left.choice right.choice kept
        (λ bare. first_are t.costs t.w t.h (record { pair = pair; shape = shape; sum = number }) sum node of_node whole parts.l parts.r xs ys (left_offers a xs a_is lefts) (right_offers b ys b_is rights)
        (is_least shape sum sum_is) left right (first bare))
        (λ marked. first_alone_is t.costs t.w t.h parts.l xs left (left_offers a xs a_is lefts) (first_left marked))
        (λ marked. first_alone_is t.costs t.w t.h parts.r ys right (right_offers b ys b_is rights) (first_right marked)) stays root
