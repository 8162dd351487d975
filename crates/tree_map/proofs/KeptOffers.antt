-- The offers to keep a pair, shape by shape.
use Rattle.std.proofs.Common.{◌≡◌, ◌⊎◌, inl, inr, sym, ap, subst, ◌∙◌, ℕ, ◌+◌, ◌≤◌, ◌<◌, List, [], ◌∷◌, ◌++◌, length, Some, slice_get, arith}
use Rattle.std.proofs.lemmas.Bool.{cases_lt}
use Rattle.std.proofs.lemmas.Option.{same_Some, slice_get_within}
use Rattle.dom_base.proofs.Lists.{slice_get-append, slice_get-push, slice_get-push_cases}
use Rattle.tree_map.specs.declared.offers.Offer.{Offer}
use Rattle.cover_plan.specs.Parts.{Earlier, Keep, TreeShape}
use Rattle.tree_map.specs.CoverRows.{IsShapeIn, row_index}
use Rattle.tree_map.specs.CoverSums.{SumsData, sum_at}
use Rattle.tree_map.specs.Offers.{AreInTurn, AreKept, IsOffered, choice_of}
use Rattle.tree_map.proofs.HadShapes.{sum_in}
use Rattle.tree_map.proofs.ReadRows.{IsBefore, index_order, none_at, row_gives, row_of, within_row}
use Rattle.tree_map.proofs.Rows.{index_shape}

-- an offer for a shape comes in turn behind those before it
earlier_of : (a b : Offer) → choice_of a.choice ≡ Keep a.shape → choice_of b.choice ≡ Keep b.shape → IsBefore a.shape b.shape → Earlier (choice_of a.choice) (choice_of b.choice)
earlier_of a b e f lt = rw (e, f) lt

-- to keep a pair in each of the shapes before a place of its row
pub record AreKeptBelow (t : SumsData) (place index : ℕ) (offers : List Offer) : Type 0 where
  pub keeps : (k : ℕ) (o : Offer) → slice_get offers k ≡ Some o → choice_of o.choice ≡ Keep o.shape
  pub sums : (k : ℕ) (o : Offer) → slice_get offers k ≡ Some o → sum_at t place o.shape ≡ Some o.sum
  pub below : (k : ℕ) (o : Offer) → slice_get offers k ≡ Some o → row_index t.w o.shape < index
  pub complete : (s : TreeShape) (n : ℕ) → sum_at t place s ≡ Some n → row_index t.w s < index → IsOffered offers (Keep s) s n
  pub in_turn : AreInTurn offers

module _ (t : SumsData) (place : ℕ) where
  module _ (index : ℕ) (xs : List Offer) (are : AreKeptBelow t place index xs) where
    pub kept_past : slice_get (row_of t place) index ≡ Some 0 → AreKeptBelow t place (index + 1) xs
    kept_past none = record {
      keeps = are.keeps;
      sums = are.sums;
      below = λ k o at. omega (arith, are.below k o at);
      complete = λ s n e lt. are.complete s n e (none_at t place index s n none e lt);
      in_turn = are.in_turn;
    }

    pub kept_all : length (row_of t place) ≤ index → AreKept (sum_at t place) xs
    kept_all all = record {
      keeps = are.keeps;
      sums = are.sums;
      complete = λ s n e. are.complete s n e (omega (arith, within_row t place s n e));
      in_turn = are.in_turn;
    }

    pub kept_push : (o : Offer) → choice_of o.choice ≡ Keep o.shape → IsShapeIn t.w t.h o.shape → row_index t.w o.shape ≡ index → slice_get (row_of t place) index ≡ Some o.sum → 0 < o.sum
        → AreKeptBelow t place (index + 1) (xs ++ o ∷ [])
    kept_push o keep in_ here at some = record {
      keeps = λ k x e. elim (slice_get-push_cases xs o k x e) [ inl old ↦ are.keeps k x old | inr new ↦ subst (λ (y : Offer). choice_of y.choice ≡ Keep y.shape) new.1 keep ];
      sums = λ k x e. elim (slice_get-push_cases xs o k x e) [ inl old ↦ are.sums k x old | inr new ↦ subst (λ (y : Offer). sum_at t place y.shape ≡ Some y.sum) new.1 found ];
      below = λ k x e. elim (slice_get-push_cases xs o k x e) [
        | inl old ↦ omega (arith, are.below k x old)
        | inr new ↦ subst (λ (y : Offer). row_index t.w y.shape < index + 1) new.1 (omega (arith, here))
      ];
      complete = λ s n e lt. elim (cases_lt (row_index t.w s) index) [
        | inl less ↦ more s n (are.complete s n e less)
        | inr le ↦ last s n e (index_shape t.w t.h o.shape s in_ (sum_in t place s n e) (omega (arith, here)))
      ];
      in_turn = turn;
    }
      where
        found : sum_at t place o.shape ≡ Some o.sum
        found = row_gives t place o.shape o.sum in_ (ap (slice_get (row_of t place)) here ∙ at) some

        last : (s : TreeShape) (n : ℕ) → sum_at t place s ≡ Some n → o.shape ≡ s → IsOffered (xs ++ o ∷ []) (Keep s) s n
        last s n e same = record {
          place = length xs;
          offer = o;
          at = slice_get-push xs o;
          choice_is = keep ∙ ap Keep same;
          shape_is = same;
          sum_is = same_Some o.sum n (sym found ∙ ap (sum_at t place) same ∙ e);
        }

        more : (s : TreeShape) (n : ℕ) → IsOffered xs (Keep s) s n → IsOffered (xs ++ o ∷ []) (Keep s) s n
        more s n is = record {
          place = is.place;
          offer = is.offer;
          at = slice_get-append xs (o ∷ []) is.place is.offer is.at;
          choice_is = is.choice_is;
          shape_is = is.shape_is;
          sum_is = is.sum_is;
        }

        turn : AreInTurn (xs ++ o ∷ [])
        turn i k a b lt e too = by (slice_get-push_cases xs o i a e) (slice_get-push_cases xs o k b too)
          where
            by : (slice_get xs i ≡ Some a) ⊎ ((i ≡ length xs) × (o ≡ a)) → (slice_get xs k ≡ Some b) ⊎ ((k ≡ length xs) × (o ≡ b)) → Earlier (choice_of a.choice) (choice_of b.choice)
            by (inl x) (inl y) = are.in_turn i k a b lt x y
            by (inl x) (inr y) =
                subst (λ (z : Offer). Earlier (choice_of a.choice) (choice_of z.choice)) y.1
                (earlier_of a o (are.keeps i a x) keep (index_order t.w t.h a.shape o.shape (sum_in t place a.shape a.sum (are.sums i a x)) in_ (omega (arith, here, are.below i a x))))
            by (inr x) (inl y) = let within = slice_get_within xs k b y in absurd (omega (arith, x.0))
            by (inr x) (inr y) = absurd (omega (arith, x.0, y.0))
