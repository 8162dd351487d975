-- The first element of a list of which something holds.
use Rattle.std.proofs.Common.{◌≡◌, ℕ, zero, suc, ◌<◌, ◌≤◌, ◌+◌, ◌⊎◌, inl, inr, List, take, Some, ap, sym, ◌∙◌, arith}
use Rattle.std.specs.Prelude.{slice_get}
use Rattle.std.proofs.lemmas.Bool.{cases_lt}
use Rattle.model_calls.specs.First.{IsFirst}

module _ {Element : Type 0} (Holds : List Element → Element → Type 0) (all : List Element) where
  -- one element is the first
  pub first_once : (a b : Element) → IsFirst Holds all a → IsFirst Holds all b → a ≡ b
  first_once a b x y = by (cases_lt x.index y.index) (cases_lt y.index x.index)
    where
      same : x.index ≡ y.index → a ≡ b
      same e = let z : Some a ≡ Some b = sym x.there ∙ ap (slice_get all) e ∙ y.there in cc

      by : (x.index < y.index) ⊎ (y.index ≤ x.index) → (y.index < x.index) ⊎ (x.index ≤ y.index) → a ≡ b
      by (inl before) _ = absurd (y.none_before x.index a before x.there x.holds)
      by (inr p) (inl before) = absurd (x.none_before y.index b before y.there y.holds)
      by (inr p) (inr q) = same (omega (arith, p, q))

  abbrev Below : ℕ → Type 0
  Below n = (k : ℕ) (e : Element) → k < n → slice_get all k ≡ Some e → Holds (take k all) e → ⊥

  -- where no element is the first, it holds of none
  none_below : ((e : Element) → IsFirst Holds all e → ⊥) → (n : ℕ) → Below n
  none_below none zero = λ k e l there holds. absurd (omega (arith, l))
  none_below none (suc n) = λ k e l there holds. by (none_below none n) k e (omega (arith, l)) there holds
    where
      by : Below n → (k : ℕ) (e : Element) → k ≤ n → slice_get all k ≡ Some e → Holds (take k all) e → ⊥
      by rest k e l there holds = none e (record { index = k; there = there; holds = holds; none_before = λ j other before. rest j other (omega (arith, before, l)) })

  pub none_holds : ((e : Element) → IsFirst Holds all e → ⊥) → (k : ℕ) (e : Element) → slice_get all k ≡ Some e → Holds (take k all) e → ⊥
  none_holds none k e there holds = none_below none (k + 1) k e (omega arith) there holds
