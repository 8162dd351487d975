-- A refusal is the first of its order where nothing of the orders before it refuses, counts among them.
use Rattle.std.proofs.Common.{◌≡◌, ℕ, ◌≤◌, ◌+◌, inl, inr, List, sym, ◌∙◌, subst, arith}
use Rattle.std.proofs.lemmas.Bool.{cases_eq, cases_lt}
use Rattle.blif_ast.specs.BlifFileData.{BlifFileData}
use Rattle.model_calls.proofs.KindOrders.{order_of_kind-injective}
use Rattle.model_calls.specs.declared.fault.FlatKind.{FlatKind}
use Rattle.model_calls.specs.declared.fault.FlatKind.TheVariants.{DuplicateModel, DuplicatePort, UnknownModel, BadFormal, Recursion, DrivenTwice, Undriven, Cycle, TwoControls, ControlUsed}
use Rattle.model_calls.specs.declared.fault.FlatFault.{FlatFault}
use Rattle.model_calls.specs.declared.fault.FlatFault.TheVariants.{At as FaultAt}
use Rattle.part_numbers.specs.CheckOutcomes.{IsFaultOf}
use Rattle.model_calls.specs.Refusal.{At, Refusal, TooMany, flat_kind_order, refusal_order}
use Rattle.model_calls.specs.Refusals.{HasRefusal, IsOfKind, IsRefusal}
use Rattle.net_flatten.specs.Unrefused.{HasNoRefusal}

module _ (f : BlifFileData) where
  -- nothing of one order more refuses the file where no line and name are of its kind
  pub none_with : (n : ℕ) (kind : FlatKind) → flat_kind_order kind ≡ n + 1 → 6 ≤ n → HasNoRefusal f n
      → ((line : ℕ) (name : List ℕ) → HasRefusal f (At kind line name) → ⊥) → HasNoRefusal f (n + 1)
  none_with n kind is past before none (TooMany limit count) l has = before (TooMany limit count) past has
  none_with n kind is past before none (At other line name) l has = elim (cases_eq (flat_kind_order other) (n + 1)) [
    | inl same ↦ none line name (subst (λ k. HasRefusal f (At k line name)) (order_of_kind-injective other kind (same ∙ sym is)) has)
    | inr apart ↦ before (At other line name) (omega (arith, l, apart)) has
  ]

  -- and what is of its kind is the file's refusal
  refused_first : (n : ℕ) (kind : FlatKind) → flat_kind_order kind ≡ n + 1 → HasNoRefusal f n
      → (line : ℕ) (name : List ℕ) → HasRefusal f (At kind line name) → IsRefusal f (At kind line name)
  refused_first n kind is before line name has = record { has = has; first = first }
    where
      first : (other : Refusal) → HasRefusal f other → flat_kind_order kind ≤ refusal_order other
      first other h = elim (cases_lt (refusal_order other) (flat_kind_order kind)) [
        | inl less ↦ absurd (before other (omega (arith, less, is)) h)
        | inr more ↦ more
      ]

  -- so the fault of a check that comes to a kind is the refusal of the file
  pub refused_at : (n : ℕ) (kind : FlatKind) → flat_kind_order kind ≡ n + 1 → HasNoRefusal f n → {fault : FlatFault}
      → IsFaultOf kind (IsOfKind f kind) fault → (line : ℕ) (k : FlatKind) (name : List ℕ) → fault ≡ FaultAt line k name → IsRefusal f (At k line name)
  refused_at n kind is before {fault} holds line k name e =
      let at : IsFaultOf kind (IsOfKind f kind) (FaultAt line k name) = subst (IsFaultOf kind (IsOfKind f kind)) e holds in
      subst (λ j. IsRefusal f (At j line name)) (sym at.0) (refused_first n kind is before line name at.1)

  -- no kind has an order above 11
  last_order : (kind : FlatKind) → flat_kind_order kind ≤ 11
  last_order DuplicateModel = omega arith
  last_order DuplicatePort = omega arith
  last_order UnknownModel = omega arith
  last_order BadFormal = omega arith
  last_order Recursion = omega arith
  last_order DrivenTwice = omega arith
  last_order Undriven = omega arith
  last_order Cycle = omega arith
  last_order TwoControls = omega arith
  last_order ControlUsed = omega arith

  -- nothing of all orders
  pub none_of_all : HasNoRefusal f 11 → (r : Refusal) → HasRefusal f r → ⊥
  none_of_all none (At kind line name) has = none (At kind line name) (last_order kind) has
  none_of_all none (TooMany limit count) has = none (TooMany limit count) (omega arith) has
