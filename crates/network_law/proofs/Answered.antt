-- Each file has an answer: the kinds are looked for in their order, and where none refuses there is a network.
use Rattle.std.proofs.Common.{◌≡◌, ℕ, ◌<◌, ◌≤◌, ◌+◌, ◌⊎◌, inl, inr, List, refl, sym, ◌∙◌, subst, arith}
use Rattle.std.proofs.lemmas.Bool.{cases_eq}
use Rattle.dom_base.proofs.Decided.{lt_or_ge}
use Rattle.blif_ast.specs.BlifFileData.{BlifFileData}
use Rattle.model_calls.specs.declared.fault.FlatKind.{FlatKind}
use Rattle.model_calls.specs.declared.fault.FlatKind.TheVariants.{DuplicateModel, DuplicatePort, UnknownModel, BadFormal, Recursion, DrivenTwice, Undriven, Cycle, TwoControls, ControlUsed}
use Rattle.model_calls.specs.declared.fault.Limit.{Limit}
use Rattle.model_calls.specs.Refusal.{At, Refusal, TooMany, flat_kind_order, refusal_order}
use Rattle.model_calls.specs.Refusals.{HasRefusal, IsOfKind, IsRefusal}
use Rattle.model_calls.proofs.Accepted.{nothing_yet}
use Rattle.model_calls.proofs.KindOrders.{order_of_kind-injective, order_of_kind-six}
use Rattle.network_law.specs.Laws.{HasAnswer}
use Rattle.network_law.proofs.KindDecisions.{counts_decided, kind_decided}
use Rattle.network_law.proofs.NetworkExists.{network_exists}

module _ (f : BlifFileData) where
  abbrev IsRefused : Type 0
  IsRefused = (r : Refusal) × IsRefusal f r

  -- nothing of an order up to one refuses
  abbrev NoneUpTo : ℕ → Type 0
  NoneUpTo n = (r : Refusal) → HasRefusal f r → refusal_order r ≤ n → ⊥

  first_of_order : (n : ℕ) (r : Refusal) → refusal_order r ≡ n + 1 → NoneUpTo n → HasRefusal f r → IsRefused
  first_of_order n r is before has = (r, record { has = has; first = λ other h. by other h (lt_or_ge n (refusal_order other)) })
    where
      by : (other : Refusal) → HasRefusal f other → (n < refusal_order other) ⊎ (refusal_order other ≤ n)
          → refusal_order r ≤ refusal_order other
      by other h (inl less) = omega (arith, less, is)
      by other h (inr more) = absurd (before other h more)

  look_for_kind : (n : ℕ) (kind : FlatKind) → flat_kind_order kind ≡ n + 1 → NoneUpTo n → IsRefused ⊎ NoneUpTo (n + 1)
  look_for_kind n kind is before = elim (kind_decided f kind) [
    | inl found ↦ inl (first_of_order n (At kind found.0 found.1) is before found.2)
    | inr none ↦ inr (next none)
  ]
    where
      next : (none : (line : ℕ) (name : List ℕ) → IsOfKind f kind line name → ⊥) → NoneUpTo (n + 1)
      next none (At other line name) h l = elim (cases_eq (flat_kind_order other) (n + 1)) [
        | inl same ↦ none line name (subst (λ k. IsOfKind f k line name) (order_of_kind-injective other kind (same ∙ sym is)) h)
        | inr apart ↦ before (At other line name) h (omega (arith, l, apart))
      ]
      next none (TooMany limit count) h l = elim (cases_eq 6 (n + 1)) [
        | inl same ↦ absurd (order_of_kind-six kind (is ∙ sym same))
        | inr apart ↦ before (TooMany limit count) h (omega (arith, l, apart))
      ]

  look_for_counts : NoneUpTo 5 → IsRefused ⊎ NoneUpTo 6
  look_for_counts before = elim (counts_decided f) [
    | inl found ↦ inl (first_of_order 5 (TooMany found.0 found.1) refl before found.2)
    | inr none ↦ inr (next none)
  ]
    where
      next : ((limit : Limit) (count : ℕ) → HasRefusal f (TooMany limit count) → ⊥) → NoneUpTo 6
      next none (At kind line name) h l = elim (cases_eq (flat_kind_order kind) 6) [
        | inl six ↦ absurd (order_of_kind-six kind six)
        | inr apart ↦ before (At kind line name) h (omega (arith, l, apart))
      ]
      next none (TooMany limit count) h l = none limit count h

  otherwise : {A B C : Type 0} → A ⊎ B → (B → A ⊎ C) → A ⊎ C
  otherwise (inl a) next = inl a
  otherwise (inr b) next = next b

  none_yet : NoneUpTo 0
  none_yet (At kind line name) h l = nothing_yet f kind line name l h
  none_yet (TooMany limit count) h l = omega (arith, l)

  none_above : (r : Refusal) → refusal_order r ≤ 11
  none_above (At kind line name) = by kind
    where
      by : (k : FlatKind) → flat_kind_order k ≤ 11
      by DuplicateModel = omega arith
      by _ = omega arith
  none_above (TooMany limit count) = omega arith

  refused_or_none : IsRefused ⊎ ((r : Refusal) → HasRefusal f r → ⊥)
  refused_or_none =
      otherwise (look_for_kind 0 DuplicateModel refl none_yet)
      (λ h1. otherwise (look_for_kind 1 DuplicatePort refl h1)
      (λ h2. otherwise (look_for_kind 2 UnknownModel refl h2)
      (λ h3. otherwise (look_for_kind 3 BadFormal refl h3)
      (λ h4. otherwise (look_for_kind 4 Recursion refl h4)
      (λ h5. otherwise (look_for_counts h5)
      (λ h6. otherwise (look_for_kind 6 DrivenTwice refl h6)
      (λ h7. otherwise (look_for_kind 7 Undriven refl h7)
      (λ h8. otherwise (look_for_kind 8 Cycle refl h8)
      (λ h9. otherwise (look_for_kind 9 TwoControls refl h9)
      (λ h10. otherwise (look_for_kind 10 ControlUsed refl h10)
      (λ h11. inr (λ r has. h11 r has (none_above r)))))))))))))

  pub has_answer : HasAnswer f
  has_answer = elim refused_or_none [ inl refused ↦ inl refused | inr accepted ↦ inr (network_exists f accepted) ]
