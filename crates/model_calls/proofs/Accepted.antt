-- A refusal is the first of its order where nothing of the orders before it refuses.
use Rattle.std.proofs.Common.{◌≡◌, ℕ, ◌<◌, ◌≤◌, ◌+◌, inl, inr, List, sym, ◌∙◌, subst, arith}
use Rattle.std.proofs.lemmas.Bool.{cases_eq, cases_lt}
use Rattle.blif_ast.specs.BlifFileData.{BlifFileData}
use Rattle.model_calls.proofs.KindOrders.{order_of_kind-injective}
use Rattle.model_calls.specs.declared.fault.FlatKind.{FlatKind}
use Rattle.model_calls.specs.declared.fault.FlatKind.TheVariants.{DuplicateModel, DuplicatePort, UnknownModel, BadFormal, Recursion, DrivenTwice, Undriven, Cycle, TwoControls, ControlUsed}
use Rattle.model_calls.specs.ModelCalls.{NothingRefuses}
use Rattle.model_calls.specs.Refusal.{At, Refusal, TooMany, flat_kind_order, refusal_order}
use Rattle.model_calls.specs.Refusals.{HasRefusal, IsRefusal, IsReported}
use Rattle.model_calls.specs.FirstFaults.{NoneHolds}

module _ (f : BlifFileData) where
  least_order : (kind : FlatKind) → flat_kind_order kind ≤ 0 → ⊥
  least_order DuplicateModel l = omega (arith, l)
  least_order DuplicatePort l = omega (arith, l)
  least_order UnknownModel l = omega (arith, l)
  least_order BadFormal l = omega (arith, l)
  least_order Recursion l = omega (arith, l)
  least_order DrivenTwice l = omega (arith, l)
  least_order Undriven l = omega (arith, l)
  least_order Cycle l = omega (arith, l)
  least_order TwoControls l = omega (arith, l)
  least_order ControlUsed l = omega (arith, l)

  pub nothing_yet : NothingRefuses f 0
  nothing_yet kind line name l has = least_order kind l

  -- nothing of one order more
  pub nothing_with : (n : ℕ) (kind : FlatKind) → flat_kind_order kind ≡ n + 1 → NothingRefuses f n → ((line : ℕ) (name : List ℕ) → HasRefusal f (At kind line name) → ⊥) → NothingRefuses f (n + 1)
  nothing_with n kind is before none other line name l has = elim (cases_eq (flat_kind_order other) (n + 1)) [
    | inl same ↦ none line name (subst (λ k. HasRefusal f (At k line name)) (order_of_kind-injective other kind (same ∙ sym is)) has)
    | inr apart ↦ before other line name (omega (arith, l, apart)) has
  ]

  pub none_reported : {Element : Type 0} (Holds : List Element → Element → Type 0) (all : List Element) (line_of : Element → ℕ) (name_of : Element → List ℕ) → NoneHolds Holds all
      → (line : ℕ) (name : List ℕ) → IsReported Holds all line_of name_of line name → ⊥
  none_reported Holds all line_of name_of none line name r = none r.first.index r.element r.first.there r.first.holds

  pub first_refusal : (n : ℕ) (kind : FlatKind) → flat_kind_order kind ≡ n + 1 → n < 5 → NothingRefuses f n → (line : ℕ) (name : List ℕ) → HasRefusal f (At kind line name) → IsRefusal f (At kind line name)
  first_refusal n kind is low before line name has = record { has = has; first = first }
    where
      first : (other : Refusal) → HasRefusal f other → flat_kind_order kind ≤ refusal_order other
      first (TooMany limit count) h = omega (arith, is, low)
      first (At k l m) h = elim (cases_lt (flat_kind_order k) (flat_kind_order kind)) [
        | inl less ↦ absurd (before k l m (omega (arith, less, is)) h)
        | inr more ↦ more
      ]
