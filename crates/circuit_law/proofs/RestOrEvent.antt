-- Each state is at rest, or a net may have an event.
use Rattle.std.specs.Prelude.{◌≢◌, ◌⊎◌}
use Rattle.std.proofs.Common.{Bool, List, arith, false, inl, inr, length, refl, slice_set, subst, suc, zero, ℕ, ◌<◌, ◌∙◌, ◌≡◌, ◌≤◌}
use Rattle.dom_base.specs.declared.tri.Tri.{Tri}
use Rattle.deck.specs.Switches.{value_of}
use Rattle.deck.specs.declared.device.Device.{Device}
use Rattle.switch_model.specs.Targets.{EventAt, IsAtRest, IsPending}
use Rattle.dom_base.proofs.Decided.{dec_bool, dec_nat, dec_tri, lt_or_ge}
use Rattle.switch_model.proofs.Targets.{target_exists, target_unique}

module _ (devices : List Device) (is_source : ℕ → Bool) (values : List Tri) where
  HasEvent : Type 0
  HasEvent = (n : ℕ) × (after : List Tri) × EventAt devices is_source n values after

  NonePending : ℕ → Type 0
  NonePending m = (n : ℕ) (v : Tri) → n < m → n < length values → IsPending devices is_source values n v → ⊥

  none_more : (m : ℕ) → NonePending m → ((v : Tri) → m < length values → IsPending devices is_source values m v → ⊥) → NonePending (suc m)
  unfolding NonePending
  none_more m f g n v l k p = elim (dec_nat n m) [
    | inl e ↦ at_end e k p
    | inr ne ↦ f n v (less l ne) k p
  ]
    where
      less : n < suc m → n ≢ m → n < m
      less l ne = elim (lt_or_ge n m) [ inl x ↦ x | inr x ↦ absurd (ne (omega arith)) ]

      at_end : n ≡ m → n < length values → IsPending devices is_source values n v → ⊥
      at_end e k p = g v (rw (← e) k) (subst (λ x. IsPending devices is_source values x v) e p)

  below : (m : ℕ) → NonePending m ⊎ HasEvent
  unfolding NonePending HasEvent
  below zero = inl (λ n v l k p. none n l)
    where
      none : (n : ℕ) → n < 0 → ⊥
      none n l = omega arith
  below (suc m) = elim (below m) [
    | inr e ↦ inr e
    | inl f ↦ elim (lt_or_ge m (length values)) [
      | inr g ↦ inl (none_more m f (λ v l p. no_less g l))
      | inl l ↦ elim (dec_bool (is_source m) false) [
        | inr ne ↦ inl (none_more m f (λ v k p. ne p.0))
        | inl free ↦
            let t = target_exists devices is_source values m free in
            elim (dec_tri (value_of values m) t.0) [
              | inl same ↦ inl (none_more m f (λ v k p. p.2 (same ∙ target_unique devices is_source values m t.0 v t.1 p.1)))
              | inr ne ↦ inr (m, slice_set values m t.0, (t.0, l, (free, t.1, ne), refl))
            ]
      ]
    ]
  ]
    where
      no_less : length values ≤ m → m < length values → ⊥
      no_less a b = omega arith

  pub rest_or_event : IsAtRest devices is_source values ⊎ ((n : ℕ) × (after : List Tri) × EventAt devices is_source n values after)
  unfolding NonePending HasEvent
  rest_or_event = elim (below (length values)) [
    | inl f ↦ inl (λ n v l p. f n v l l p)
    | inr e ↦ inr e
  ]
