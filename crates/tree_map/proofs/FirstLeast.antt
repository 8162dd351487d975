-- The first offer of least sum, as the offers are read one by one.
use Rattle.std.proofs.Common.{◌≡◌, inl, inr, ap, sym, ◌∙◌, ℕ, ◌+◌, ◌≤◌, ◌<◌, Bool, true, false, List, length, Some, slice_get, arith}
use Rattle.std.proofs.lemmas.Bool.{cases_lt}
use Rattle.std.proofs.lemmas.Option.{same_Some, slice_get_within}
use Rattle.cover_plan.specs.Parts.{TreeShape}
use Rattle.tree_map.specs.declared.offers.Offer.{Offer}
use Rattle.tree_map.specs.CoverSums.{SumsData, cut_at, sum_at}
use Rattle.tree_map.specs.Offers.{IsFirstShape}
use Rattle.tree_map.specs.Ties.{IsFirstLeast, IsRootKind}

-- the first of least sum among the offers before a place
pub record IsFirstOf (offers : List Offer) (index : ℕ) (offer : Offer) : Type 0 where
  pub place : ℕ
  pub at : slice_get offers place ≡ Some offer
  pub least : (k : ℕ) (other : Offer) → k < index → slice_get offers k ≡ Some other → offer.sum ≤ other.sum
  pub early : (k : ℕ) (other : Offer) → k < place → slice_get offers k ≡ Some other → offer.sum < other.sum

pub first_of_none : (xs : List Offer) (x : Offer) → slice_get xs 0 ≡ Some x → IsFirstOf xs 0 x
first_of_none xs x at = record { place = 0; at = at; least = λ k o lt e. absurd (omega (arith, lt)); early = λ k o lt e. absurd (omega (arith, lt)) }

module _ (xs : List Offer) (index : ℕ) (first : Offer) (is : IsFirstOf xs index first) where
  pub first_of_all : length xs ≤ index → IsFirstLeast xs first
  first_of_all all = record { place = is.place; at = is.at; least = λ k o e. is.least k o (let lt = slice_get_within xs k o e in omega (arith, lt, all)) e; early = is.early }

  module _ (x : Offer) (at : slice_get xs index ≡ Some x) where
    here : (k : ℕ) (o : Offer) → index ≤ k → k < index + 1 → slice_get xs k ≡ Some o → x.sum ≡ o.sum
    here k o le lt e = let same : index ≡ k = omega (arith, le, lt) in ap (λ (y : Offer). y.sum) (same_Some x o (sym at ∙ ap (slice_get xs) same ∙ e))

    pub first_of_new : x.sum < first.sum → IsFirstOf xs (index + 1) x
    first_of_new less = record {
      place = index;
      at = at;
      least = λ k o lt e. elim (cases_lt k index) [
        | inl old ↦ (let le = is.least k o old e in omega (arith, le, less))
        | inr le ↦ (let same = here k o le lt e in omega (arith, same))
      ];
      early = λ k o lt e. (let le = is.least k o lt e in omega (arith, le, less));
    }

    pub first_of_old : first.sum ≤ x.sum → IsFirstOf xs (index + 1) first
    first_of_old more = record {
      place = is.place;
      at = is.at;
      least = λ k o lt e. elim (cases_lt k index) [
        | inl old ↦ is.least k o old e
        | inr le ↦ (let same = here k o le lt e in omega (arith, same, more))
      ];
      early = is.early;
    }

-- what a root is, from its first shape and its least sum
pub root_kind : (t : SumsData) (place : ℕ) (shape : TreeShape) (least : ℕ) (split : Bool) → IsFirstShape (sum_at t place) shape → sum_at t place shape ≡ Some least
    → (split ≡ true → (cut : ℕ) × (cut_at t place ≡ Some cut) × (cut ≤ least + t.costs.simple)) → (split ≡ false → (cut : ℕ) → cut_at t place ≡ Some cut → least + t.costs.simple < cut)
    → IsRootKind t place shape split
root_kind t place shape least split first has compound simple =
    let same : first.sum ≡ least = same_Some first.sum least (sym first.sum_is ∙ has) in
    record {
      first = first;
      compound = λ m. (let k = compound m in (k.0, k.1, omega (arith, k.2, same)));
      simple = λ m cut e. (let lt = simple m cut e in omega (arith, lt, same));
    }
