-- A root is compound exactly where that costs less, and each arm of it then has its first choice of least sum.
use Rattle.std.proofs.Common.{◌≡◌, ◌⊎◌, ◌↔◌, inl, inr, refl, sym, ap, subst, ◌∙◌, ℕ, zero, suc, ◌+◌, ◌≤◌, ◌<◌, Bool, true, false, List, Some, slice_get, arith}
use Rattle.std.proofs.lemmas.Bool.{cases_lt}
use Rattle.std.proofs.lemmas.Option.{same_Some}
use Rattle.cover_plan.specs.Covers.{Costs, Cover, Cut, IsCompoundRoot, IsCover, IsFirstAlone, IsLeast, IsLeastRoot, IsRoot, IsRootCost, IsRootShape, IsSimpleRoot, IsSplitSum, IsSum, Kept, Single, Split, joined_sum, shape_of, sum_of}
use Rattle.cover_plan.specs.Parts.{Choice, CoverPart, Earlier, Join, Operator, TreeShape, joined_shape}
use Rattle.cover_plan.proofs.Choices.{alone_least}
use Rattle.cover_plan.proofs.Chosen.{least_one}
use Rattle.cover_plan.proofs.Recurrence.{root_bounded, root_least}
use Rattle.tree_map.specs.declared.offers.Offer.{Offer}
use Rattle.tree_map.specs.CoverSums.{SumsData, cut_at, sum_at}
use Rattle.tree_map.specs.Offers.{AreOffers, IsOffered, choice_of}
use Rattle.tree_map.specs.Ties.{IsFirstLeast, IsRootKind}
use Rattle.tree_map.proofs.OfferedChoices.{root_is}
use Rattle.tree_map.proofs.SumReads.{above_zero-never}

-- the first offer of least sum is the first choice alone
pub first_alone_is : (c : Costs) (w h : ℕ) (part : CoverPart) (xs : List Offer) (o : Offer) → AreOffers c w h part xs → IsFirstLeast xs o → IsFirstAlone c w h part (choice_of o.choice)
first_alone_is c w h part xs o are is = record {
  shape = o.shape;
  sum = o.sum;
  is = are.sound is.place o is.at;
  least = λ other any more x. (let f = are.complete other any more x in let le = is.least f.place f.offer f.at in omega (arith, le, f.sum_is));
  first = λ other any x. in_turn other (are.complete other any o.sum x);
}
  where
    in_turn : (other : Choice) {any : TreeShape} → IsOffered xs other any o.sum → Earlier (choice_of o.choice) other ⊎ (choice_of o.choice ≡ other)
    in_turn other f =
        elim (cases_lt f.place is.place) [
          | inl before ↦ absurd (let lt = is.early f.place f.offer before f.at in omega (arith, lt, f.sum_is))
          | inr le ↦ elim (cases_lt is.place f.place) [
            | inl behind ↦ inl (subst (Earlier (choice_of o.choice)) f.choice_is (are.in_turn is.place f.place o f.offer behind is.at f.at))
            | inr ge ↦ (let here : is.place ≡ f.place = omega arith in
                let same = same_Some o f.offer (sym is.at ∙ ap (slice_get xs) here ∙ f.at) in
                inr (ap (λ (x : Offer). choice_of x.choice) same ∙ f.choice_is))
          ]
        ]

module _ (t : SumsData) (place : ℕ) (op : Operator) (l r : CoverPart) (wide : 1 ≤ t.w) (tall : 1 ≤ t.h) (sums : (s : TreeShape) (n : ℕ) → (sum_at t place s ≡ Some n) ↔ IsLeast t.costs t.w t.h (Join op l r) s n)
    (cuts : (n : ℕ) → (cut_at t place ≡ Some (1 + n)) ↔ IsLeastRoot t.costs t.w t.h (Join op l r) n) (shape : TreeShape) (split : Bool) (kind : IsRootKind t place shape split) where
  root_shape : IsRootShape t.costs t.w t.h (Join op l r) shape
  root_shape = root_is t place op l r wide tall sums shape kind.first

  root_sum : root_shape.sum ≡ kind.first.sum
  root_sum = least_one t.costs t.w t.h (Join op l r) shape root_shape.sum kind.first.sum root_shape.least ((sums shape kind.first.sum).0 kind.first.sum_is)

  -- a simple root costs no more than any compound one
  pub simple_is : split ≡ false → (is : IsRootShape t.costs t.w t.h (Join op l r) shape) × IsSimpleRoot t.costs t.w t.h (Join op l r) is.sum
  simple_is bare = (root_shape, λ other x. (let le = least other x in omega (arith, le, root_sum)))
    where
      least : (other : ℕ) → IsSplitSum t.costs t.w t.h (Join op l r) other → kind.first.sum + t.costs.simple ≤ other + t.costs.compound
      least other x =
          let root : IsRootCost t.costs t.w t.h (Join op l r) (other + t.costs.compound) = record { cover = Split x.left x.right; root = tt; covers = x.cover; cost_is = x.sum_is } in
          let low = root_bounded t.costs t.w t.h wide tall op l r (other + t.costs.compound) root in
          let less = kind.simple bare (1 + low.0) ((cuts low.0).1 ((root_least t.costs t.w t.h wide tall op l r low.0).0 low.1)) in
          omega (arith, less, low.2)

  -- a compound root costs less than any simple one
  module _ (marked : split ≡ true) (left right : Choice) (left_first : IsFirstAlone t.costs t.w t.h l left) (right_first : IsFirstAlone t.costs t.w t.h r right) where
    pub compound_is : IsCompoundRoot t.costs t.w t.h op l r left right
    compound_is = of_cut k.0 k.1 k.2
      where
        k : (cut : ℕ) × (cut_at t place ≡ Some cut) × (cut ≤ kind.first.sum + t.costs.simple)
        k = kind.compound marked

        by : (cost : ℕ) → cost < kind.first.sum + t.costs.simple → (a : Cover) → IsRoot a → IsCover t.costs t.w t.h (Join op l r) a → sum_of t.costs (Join op l r) a ≡ 1 + cost → IsCompoundRoot t.costs t.w t.h op l r left right
        by cost less Single root covers e = absurd root
        by cost less (Kept a b) root covers e = absurd root
        by cost less (Cut a b) root covers e =
            let own : IsSum t.costs t.w t.h (Join op l r) (joined_shape op (shape_of l a) (shape_of r b)) (joined_sum t.costs op (sum_of t.costs l a) (sum_of t.costs r b)) =
            record { left = a; right = b; cover = (covers.0, covers.1); shape_is = refl; fits = covers.2; sum_is = refl } in
            let le = root_shape.least_of_all.least _ _ own in
            absurd (omega (arith, le, less, e, root_sum))
        by cost less (Split a b) root covers e =
            let one = alone_least t.costs t.w t.h wide tall l left left_first a covers.0 covers.3 in
            let two = alone_least t.costs t.w t.h wide tall r right right_first b covers.1 covers.4 in
            record {
              may = covers.2;
              left_first = left_first;
              right_first = right_first;
              less = λ other sum is. (let le = root_shape.least_of_all.least other sum is in omega (arith, le, less, e, one, two, root_sum));
            }

        of_cut : (cut : ℕ) → cut_at t place ≡ Some cut → cut ≤ kind.first.sum + t.costs.simple → IsCompoundRoot t.costs t.w t.h op l r left right
        of_cut zero e le = absurd (above_zero-never (slice_get t.cuts place) e)
        of_cut (suc cost) e le =
            let is = (cuts cost).0 (e ∙ ap Some (omega arith)) in
            by cost (omega arith) is.reached.cover is.reached.root is.reached.covers is.reached.cost_is
