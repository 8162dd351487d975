-- The offers for an arm are its choices.
use Rattle.std.proofs.Common.{◌≡◌, ◌⊎◌, inl, inr, refl, sym, ap, subst, ◌∙◌, ℕ, zero, suc, ◌+◌, ◌≤◌, ◌<◌, Bool, false, List, [], ◌∷◌, ◌++◌, length, None, Some, slice_get, arith}
use Rattle.std.specs.Prelude.{slice_index_or}
use Rattle.std.proofs.lemmas.List.FromFn.{get_or-map-range_with_len, length-map-range_with_len}
use Rattle.std.proofs.lemmas.Option.{same_Some, slice_get_within}
use Rattle.dom_base.proofs.Lists.{slice_get-append, slice_get-push, slice_get-push_cases}
use Rattle.dual_rail.specs.declared.forest.Arm.{Arm}
use Rattle.dual_rail.specs.declared.forest.Pair.{Pair}
use Rattle.dual_rail.specs.ForestData.{ForestData}
use Rattle.dual_rail.specs.Forests.{left_arm, right_arm}
use Rattle.tree_map.specs.declared.offers.Offer.{Offer}
use Rattle.cover_plan.specs.Covers.{Costs, IsChoice, IsLeast, IsLeastOfAll, IsLeastRoot, IsRootShape, IsSum}
use Rattle.cover_plan.specs.Parts.{Choice, CoverPart, CutOff, Earlier, End, Join, Keep, Nothing, Operator, TreeShape, leaf_shape}
use Rattle.tree_map.specs.CoverSums.{HasLeastCut, HasLeastSums, SumsData, cut_at, sum_at}
use Rattle.tree_map.specs.LeastPlans.{IsPartOf, free, literal, operator_of, shared}
use Rattle.dual_rail.specs.ForestOrder.{ReadsBefore}
use Rattle.tree_map.specs.Offers.{AreFreeOf, AreInTurn, AreKept, AreOffers, HasNoFreePair, IsFirstShape, IsFreePair, IsOffered, choice_of}
use Rattle.tree_map.specs.Plans.{is_free}
use Rattle.compound_plan.proofs.FreePairs.{is_free-of, is_free-true}
use Rattle.cover_plan.proofs.Recurrence.{sum_bounded, table_least}
use Rattle.cover_plan.proofs.Tables.{none_is}
use Rattle.tree_map.proofs.SumReads.{above_zero-never}

-- what is offered stays offered
offered_more : (xs ys : List Offer) (x : Choice) (s : TreeShape) (n : ℕ) → IsOffered xs x s n → IsOffered (xs ++ ys) x s n
offered_more xs ys x s n is = record {
  place = is.place;
  offer = is.offer;
  at = slice_get-append xs ys is.place is.offer is.at;
  choice_is = is.choice_is;
  shape_is = is.shape_is;
  sum_is = is.sum_is;
}

module _ (t : SumsData) (place : ℕ) (op : Operator) (l r : CoverPart) (wide : 1 ≤ t.w) (tall : 1 ≤ t.h) (sums : HasLeastSums t place (Join op l r)) where
  -- a plan of a shape has a least sum of this shape
  least_below : (s : TreeShape) (n : ℕ) → IsSum t.costs t.w t.h (Join op l r) s n → (m : ℕ) × IsLeast t.costs t.w t.h (Join op l r) s m × (m ≤ n)
  least_below s n is =
      let b = sum_bounded t.costs t.w t.h wide tall op l r s n is in
      ((b.0).sum, subst (λ k. IsLeast t.costs t.w t.h (Join op l r) k (b.0).sum) b.2 ((table_least t.costs t.w t.h wide tall op l r b.0).0 b.1), b.3)

  first_is_least : (s : TreeShape) (is : IsFirstShape (sum_at t place) s) → IsLeastOfAll t.costs t.w t.h (Join op l r) is.sum
  first_is_least s is = record {
    shape = s;
    reached = ((sums s is.sum).0 is.sum_is).reached;
    least = λ any other x. (let b = least_below any other x in let le = is.least any b.0 ((sums any b.0).1 b.1) in omega (arith, b.2));
  }

  pub root_is : (s : TreeShape) → IsFirstShape (sum_at t place) s → IsRootShape t.costs t.w t.h (Join op l r) s
  root_is s is = record {
    sum = is.sum;
    least = (sums s is.sum).0 is.sum_is;
    least_of_all = first_is_least s is;
    first = λ other x. is.first other ((sums other is.sum).1 x);
  }

module _ (t : SumsData) (place : ℕ) (xs : List Offer) (are : AreKept (sum_at t place) xs) (op : Operator) (l r : CoverPart) (sums : HasLeastSums t place (Join op l r)) (cuts : HasLeastCut t place (Join op l r)) where
  pub no_cut : cut_at t place ≡ None → AreOffers t.costs t.w t.h (Join op l r) xs
  no_cut none = record {
    sound = λ k o at. rw (are.keeps k o at) (refl, (sums o.shape o.sum).0 (are.sums k o at));
    complete = complete;
    in_turn = are.in_turn;
  }
    where
      complete : (x : Choice) (s : TreeShape) (n : ℕ) → IsChoice t.costs t.w t.h (Join op l r) x s n → IsOffered xs x s n
      complete Nothing s n is = absurd is
      complete (Keep k) s n is = subst (λ z. IsOffered xs (Keep k) z n) (sym is.0) (are.complete k n ((sums k n).1 is.1))
      complete CutOff s n (leaf, (below, least, sum)) = absurd (none_is (1 + below) (sym none ∙ (cuts below).1 least))

  pub with_cut : (m : ℕ) → cut_at t place ≡ Some m → (cut : Offer) → choice_of cut.choice ≡ CutOff → cut.shape ≡ leaf_shape → cut.sum ≡ m
      → AreOffers t.costs t.w t.h (Join op l r) (xs ++ cut ∷ [])
  with_cut m found cut choice_is shape_is sum_is = record { sound = sound; complete = complete; in_turn = turn }
    where
      -- what is added has a leaf
      least : (below : ℕ) × IsLeastRoot t.costs t.w t.h (Join op l r) below × (m ≡ 1 + below)
      least = by m found
        where
          by : (n : ℕ) → cut_at t place ≡ Some n → (below : ℕ) × IsLeastRoot t.costs t.w t.h (Join op l r) below × (n ≡ 1 + below)
          by zero e = absurd (above_zero-never (slice_get t.cuts place) e)
          by (suc n) e = (n, (cuts n).0 (e ∙ ap Some (omega arith)), omega arith)

      sound : (k : ℕ) (x : Offer) → slice_get (xs ++ cut ∷ []) k ≡ Some x → IsChoice t.costs t.w t.h (Join op l r) (choice_of x.choice) x.shape x.sum
      sound k x at =
          elim (slice_get-push_cases xs cut k x at) [
            | inl old ↦ rw (are.keeps k x old) (refl, (sums x.shape x.sum).0 (are.sums k x old))
            | inr new ↦ subst (λ (y : Offer). IsChoice t.costs t.w t.h (Join op l r) (choice_of y.choice) y.shape y.sum) new.1 (rw choice_is (shape_is, (least.0, least.1, sum_is ∙ least.2)))
          ]

      complete : (x : Choice) (s : TreeShape) (n : ℕ) → IsChoice t.costs t.w t.h (Join op l r) x s n → IsOffered (xs ++ cut ∷ []) x s n
      complete Nothing s n is = absurd is
      complete (Keep k) s n is = offered_more xs (cut ∷ []) (Keep k) s n (subst (λ z. IsOffered xs (Keep k) z n) (sym is.0) (are.complete k n ((sums k n).1 is.1)))
      complete CutOff s n (leaf, (below, is, sum)) = record {
        place = length xs;
        offer = cut;
        at = slice_get-push xs cut;
        choice_is = choice_is;
        shape_is = shape_is ∙ sym leaf;
        sum_is = sum_is ∙ same_Some m (1 + below) (sym found ∙ (cuts below).1 is) ∙ sym sum;
      }

      turn : AreInTurn (xs ++ cut ∷ [])
      turn i k a b lt at too = by (slice_get-push_cases xs cut i a at) (slice_get-push_cases xs cut k b too)
        where
          by : (slice_get xs i ≡ Some a) ⊎ ((i ≡ length xs) × (cut ≡ a)) → (slice_get xs k ≡ Some b) ⊎ ((k ≡ length xs) × (cut ≡ b)) → Earlier (choice_of a.choice) (choice_of b.choice)
          by (inl x) (inl y) = are.in_turn i k a b lt x y
          by (inl x) (inr y) = rw (are.keeps i a x, sym (ap (λ (z : Offer). choice_of z.choice) y.1) ∙ choice_is) tt
          by (inr x) (inl y) = let within = slice_get_within xs k b y in absurd (omega (arith, x.0))
          by (inr x) (inr y) = absurd (omega (arith, x.0, y.0))

-- the one offer for an arm without a free edge
pub one_offer : (c : Costs) (w h : ℕ) (o : Offer) → choice_of o.choice ≡ Nothing → o.shape ≡ leaf_shape → o.sum ≡ 1 → AreOffers c w h End (o ∷ [])
one_offer c w h o choice_is shape_is sum_is = record {
  sound = sound;
  complete = complete;
  in_turn = turn;
}
  where
    sound : (k : ℕ) (x : Offer) → slice_get (o ∷ []) k ≡ Some x → IsChoice c w h End (choice_of x.choice) x.shape x.sum
    sound zero x at = subst (λ (y : Offer). IsChoice c w h End (choice_of y.choice) y.shape y.sum) (same_Some o x at) (rw choice_is (shape_is, sum_is))
    sound (suc k) x at = absurd (cc)

    complete : (x : Choice) (s : TreeShape) (n : ℕ) → IsChoice c w h End x s n → IsOffered (o ∷ []) x s n
    complete (Keep k) s n is = absurd is
    complete CutOff s n is = absurd is
    complete Nothing s n is = record {
      place = 0;
      offer = o;
      at = refl;
      choice_is = choice_is;
      shape_is = shape_is ∙ sym is.0;
      sum_is = sum_is ∙ sym is.1;
    }

    turn : AreInTurn (o ∷ [])
    turn zero zero a b lt at too = absurd (omega arith)
    turn zero (suc k) a b lt at too = absurd (cc)
    turn (suc i) k a b lt at too = absurd (cc)

module _ (forest : ForestData) (frees : List Bool) (are : AreFreeOf forest frees) where
  free_at : (place : ℕ) → place < length forest.pairs → slice_index_or frees place false ≡ is_free forest place
  free_at place lt = ap (λ xs. slice_index_or xs place false) are ∙ get_or-map-range_with_len (is_free forest) 0 (length forest.pairs) place place false lt (omega arith)

  -- an arm without a free edge is an end
  pub no_free_part : (arm : Arm) (part : CoverPart) → HasNoFreePair frees arm → IsPartOf forest arm part → part ≡ End
  no_free_part _ _ none literal = refl
  no_free_part _ _ none (shared never) = refl
  no_free_part _ _ none (free {place = place} {pair = pair} is at l r) =
      absurd (let f = free_at place (slice_get_within forest.pairs place pair at) in let g = none place refl in let e = is_free-of forest place is in cc)

  -- and a free edge leads to the part below its pair
  pub free_part : (P : CoverPart → Type 0) (arm : Arm) (place : ℕ) (part : CoverPart) → ReadsBefore (length frees) arm → IsFreePair frees arm place
      → ((pair : Pair) (l r : CoverPart) → slice_get forest.pairs place ≡ Some pair → IsPartOf forest (left_arm pair) l → IsPartOf forest (right_arm pair) r → P (Join (operator_of pair) l r))
      → IsPartOf forest arm part → P part
  free_part P _ place _ within is_free_pair make literal = absurd (let e = is_free_pair.0 in cc)
  free_part P _ place _ within is_free_pair make (shared {place = q} never) =
      let here : q ≡ place = let e = is_free_pair.0 in cc in
      let lt : q < length forest.pairs = omega (arith, within, ap length are, length-map-range_with_len (is_free forest) 0 (length forest.pairs)) in
      absurd (never (is_free-true forest q (sym (free_at q lt) ∙ ap (λ n. slice_index_or frees n false) here ∙ is_free_pair.1)))
  free_part P _ place _ within is_free_pair make (free {place = q} {pair = pair} {l = l} {r = r} is at dl dr) =
      let here : q ≡ place = let e = is_free_pair.0 in cc in
      make pair l r (subst (λ n. slice_get forest.pairs n ≡ Some pair) here at) dl dr
