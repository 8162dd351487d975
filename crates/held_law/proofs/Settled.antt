-- Nets that have their targets and that only fewer paths join: they keep them (Bryant, switch-level model).
use Rattle.std.specs.Prelude.{Contains, ◌⊎◌}
use Rattle.std.specs.List.{AllByRecursion}
use Rattle.std.proofs.Common.{Bool, List, [], false, inl, inr, refl, sym, true, ℕ, ◌∙◌, ◌∷◌, ◌≡◌}
use Rattle.dom_base.specs.declared.tri.Tri.{Tri}
use Rattle.dom_base.specs.declared.tri.Tri.TheVariants.{Unknown}
use Rattle.dom_base.proofs.Decided.{dec_keeper}
use Rattle.dom_base.proofs.Lists.{AllByRecursion-both, AllByRecursion-weaker}
use Rattle.dom_base.proofs.Bools.{never}
use Rattle.switch_model.proofs.ByDrives.{weak_or_strong}
use Rattle.deck.specs.Paths.{Ends, IsStrong, IsWeak, Path, Possible, more, one}
use Rattle.deck.specs.Switches.{IsNotOff, IsOn, value_of}
use Rattle.deck.specs.declared.device.Device.{Device}
use Rattle.deck.proofs.Reach.{Reach-trans}
use Rattle.domino_cell.proofs.Paths.{Reach-from_any}
use Rattle.stage_law.proofs.Between.{Reach-reverse}
use Rattle.switch_model.specs.Targets.{IsTarget}
use Rattle.switch_model.proofs.Targets.{definite-possible_strong, definite-possible_weak, target_exists}
use Rattle.domino_law.proofs.HonestTargets.{as_value}
use Rattle.domino_law.proofs.KeptCells.{any_from_Reach}
use Rattle.held_law.specs.HeldNets.{IsAtTarget}

-- each net that a possible path joins to the net has its value
abbrev pub AreAlike : List Device → (ℕ → Bool) → List Tri → ℕ → Type 0
AreAlike devices is_source values x = (y : ℕ) → Possible devices is_source values x y → value_of values y ≡ value_of values x

-- no possible path joins the net to a source
abbrev pub IsFloating : List Device → (ℕ → Bool) → List Tri → ℕ → Type 0
IsFloating devices is_source values x = (y : ℕ) → Possible devices is_source values x y → is_source y ≡ false

-- all that is joined to the net has its value, or it is Unknown and joined to no source
abbrev pub IsSettled : List Device → (ℕ → Bool) → List Tri → ℕ → Type 0
IsSettled devices is_source values x =
    AreAlike devices is_source values x ⊎ ((value_of values x ≡ Unknown) × IsFloating devices is_source values x)

module _ (devices : List Device) (is_source : ℕ → Bool) (values : List Tri) where
  pub joined_on : (a m b : ℕ) → is_source m ≡ false → Possible devices is_source values a m → Possible devices is_source values m b
      → Possible devices is_source values a b
  joined_on a m b f p q =
      any_from_Reach devices is_source values a b
      (Reach-trans (Reach-from_any devices is_source values a m p) f (Reach-from_any devices is_source values m b q))

  pub joined_back : (a b : ℕ) → Possible devices is_source values a b → Possible devices is_source values b a
  joined_back a b p = any_from_Reach devices is_source values b a (Reach-reverse (Reach-from_any devices is_source values a b p))

  -- the devices of paths from x are on wherever they aren't off
  module _ (x : ℕ) (sure : (p : List Device) (y : ℕ) → Path is_source x p y → AllByRecursion (Contains devices) p
      → AllByRecursion (IsNotOff values) p → AllByRecursion (IsOn values) p) where
    alike_target : AreAlike devices is_source values x → (v : Tri) → IsTarget devices is_source values x v → v ≡ value_of values x
    alike_target alike v (inl ((s, d, q, e), all)) =
        let h = definite-possible_strong devices is_source values x s d in sym e ∙ alike s (h.0, h.1, h.2, h.3)
    alike_target alike v (inr (not1, inl ((s, d, q), e))) =
        absurd (not1 (value_of values x) (
          (s, (d.0, d.1, d.2, sure d.0 s d.1 d.2 d.3, d.4), q, alike s (d.0, d.1, d.2, d.3)),
          (λ z r w. alike z (r.0, r.1, r.2, r.3)),
        ))
    alike_target alike v (inr (not1, inr (not2, inl ((s, d, q, e), all)))) =
        let h = definite-possible_weak devices is_source values x s d in sym e ∙ alike s (h.0, h.1, h.2, h.3)
    alike_target alike v (inr (not1, inr (not2, inr (not3, inl ((s, d, q), e))))) =
        absurd (not3 (value_of values x) (
          (s, (d.0, d.1, d.2, sure d.0 s d.1 d.2 d.3, d.4), q, alike s (d.0, d.1, d.2, d.3)),
          (λ z r w. alike z (r.0, r.1, r.2, r.3)),
        ))
    alike_target alike v (inr (not1, inr (not2, inr (not3, inr (not4, inl h))))) = h.1
    alike_target alike v (inr (not1, inr (not2, inr (not3, inr (not4, inr (not5, u)))))) =
        absurd (not5 (value_of values x) (alike, refl))

    floating_target : value_of values x ≡ Unknown → IsFloating devices is_source values x → (v : Tri)
        → IsTarget devices is_source values x v
        → v ≡ value_of values x
    floating_target own none v (inl ((s, d, q, e), all)) =
        let h = definite-possible_strong devices is_source values x s d in absurd (never {b = is_source s} q (none s (h.0, h.1, h.2, h.3)))
    floating_target own none v (inr (not1, inl ((s, d, q), e))) = absurd (never {b = is_source s} q (none s (d.0, d.1, d.2, d.3)))
    floating_target own none v (inr (not1, inr (not2, inl ((s, d, q, e), all)))) =
        let h = definite-possible_weak devices is_source values x s d in absurd (never {b = is_source s} q (none s (h.0, h.1, h.2, h.3)))
    floating_target own none v (inr (not1, inr (not2, inr (not3, inl ((s, d, q), e))))) =
        absurd (never {b = is_source s} q (none s (d.0, d.1, d.2, d.3)))
    floating_target own none v (inr (not1, inr (not2, inr (not3, inr (not4, inl h))))) = h.1
    floating_target own none v (inr (not1, inr (not2, inr (not3, inr (not4, inr (not5, u)))))) = u ∙ sym own

    -- so a settled net holds its target
    pub settled_holds : is_source x ≡ false → IsSettled devices is_source values x → IsAtTarget devices is_source values x
    settled_holds free h =
        let t = target_exists devices is_source values x free in
        let same : t.0 ≡ value_of values x =
        elim h [ inl alike ↦ alike_target alike t.0 t.1 | inr q ↦ floating_target q.0 q.1 t.0 t.1 ] in
        as_value devices is_source values x t.0 (value_of values x) (sym same) t.1

    -- what the target of x says of all that is joined to it, where the sources that x is joined to have one value
    pub from_target : ((s t : ℕ) → Possible devices is_source values x s → Possible devices is_source values x t → is_source s ≡ true
        → is_source t ≡ true → value_of values s ≡ value_of values t) → (v : Tri) → IsTarget devices is_source values x v
        → ((s : ℕ) × Possible devices is_source values x s × (is_source s ≡ true) × (value_of values s ≡ v))
        ⊎ (IsFloating devices is_source values x × (AreAlike devices is_source values x ⊎ (v ≡ Unknown)))
    from_target same v (inl ((s, d, q, e), all)) =
        let h = definite-possible_strong devices is_source values x s d in inl (s, (h.0, h.1, h.2, h.3), q, e)
    from_target same v (inr (not1, inl ((s, d, q), e))) =
        absurd (not1 (value_of values s) (
          (s, (d.0, d.1, d.2, sure d.0 s d.1 d.2 d.3, d.4), q, refl),
          (λ z r w. same z s (r.0, r.1, r.2, r.3) (d.0, d.1, d.2, d.3) w q),
        ))
    from_target same v (inr (not1, inr (not2, inl ((s, d, q, e), all)))) =
        let h = definite-possible_weak devices is_source values x s d in inl (s, (h.0, h.1, h.2, h.3), q, e)
    from_target same v (inr (not1, inr (not2, inr (not3, inl ((s, d, q), e))))) =
        absurd (not3 (value_of values s) (
          (s, (d.0, d.1, d.2, sure d.0 s d.1 d.2 d.3, d.4), q, refl),
          (λ z r w. same z s (r.0, r.1, r.2, r.3) (d.0, d.1, d.2, d.3) w q),
        ))
    from_target same v (inr (not1, inr (not2, inr (not3, inr (not4, rest))))) = inr (none, elim rest [ inl h ↦ inl h.0 | inr u ↦ inr u.1 ])
      where
        none : IsFloating devices is_source values x
        none s p = go (is_source s) refl
          where
            go : (b : Bool) → is_source s ≡ b → is_source s ≡ false
            go false q = q
            go true q = elim (weak_or_strong p.0) [
              | inl w ↦ absurd (not4 Unknown ((s, (p.0, p.1, p.2, p.3, w), q), refl))
              | inr st ↦ absurd (not2 Unknown ((s, (p.0, p.1, p.2, p.3, st), q), refl))
            ]

-- nets C that devices join to no others but sources
module _ (devices : List Device) (is_source : ℕ → Bool) (C : ℕ → Type 0) (free : (x : ℕ) → C x → is_source x ≡ false)
    (closed : (d : Device) (x y : ℕ) → C x → Contains devices d → Ends d x y → is_source y ≡ false → C y) where
  -- a path from one of them ends at one or at a source
  pub lands : {x y : ℕ} {p : List Device} → Path is_source x p y → C x → AllByRecursion (Contains devices) p → is_source y ≡ false → C y
  lands {x} {y} (one {d = d} e) n h f = closed d x y n h.0 e f
  lands {x} {y} (more {d = d} {m = m} e g r) n h f = lands r (closed d x m n h.0 e g) h.1 f

  -- and what holds of each of their devices holds of each of its devices
  pub each_device : (F : Device → Type 0) → ((d : Device) (x y : ℕ) → C x → Contains devices d → Ends d x y → F d)
      → {x y : ℕ} {p : List Device} → Path is_source x p y → C x → AllByRecursion (Contains devices) p → AllByRecursion F p
  each_device F mine {x} {y} (one {d = d} e) n h = (mine d x y n h.0 e, tt)
  each_device F mine {x} {y} (more {d = d} {m = m} e g r) n h = (mine d x m n h.0 e, each_device F mine r (closed d x m n h.0 e g) h.1)

  module _ (values : List Tri)
      (on : (d : Device) (x y : ℕ) → C x → Contains devices d → Ends d x y → IsNotOff values d → IsOn values d) where
    pub sure : (x : ℕ) → C x → (p : List Device) (y : ℕ) → Path is_source x p y → AllByRecursion (Contains devices) p
        → AllByRecursion (IsNotOff values) p → AllByRecursion (IsOn values) p
    sure x n p y r h open' =
        AllByRecursion-weaker _ (IsOn values) (λ d q. q.0 q.1) p
        (AllByRecursion-both (λ d. IsNotOff values d → IsOn values d) (IsNotOff values) p
        (each_device (λ d. IsNotOff values d → IsOn values d) on r n h) open')

    -- where each of them holds its target, and is joined to sources of one value alone, each is settled
    pub settles : ((x : ℕ) → C x → IsAtTarget devices is_source values x)
        → ((x s t : ℕ) → C x → Possible devices is_source values x s → Possible devices is_source values x t → is_source s ≡ true
        → is_source t ≡ true → value_of values s ≡ value_of values t)
        → (x : ℕ) → C x → IsSettled devices is_source values x
    settles holds same x n =
        elim (from_target devices is_source values x (sure x n) (λ s t. same x s t n) (value_of values x) (holds x n)) [
          | inl (s, p, q, e) ↦ inl (λ y r. to_source s p q e y r (is_source y) refl)
          | inr (none, inl alike) ↦ inl alike
          | inr (none, inr u) ↦ inr (u, none)
        ]
      where
        to_source : (s : ℕ) → Possible devices is_source values x s → is_source s ≡ true → value_of values s ≡ value_of values x
            → (y : ℕ) → Possible devices is_source values x y → (b : Bool) → is_source y ≡ b → value_of values y ≡ value_of values x
        to_source s p q e y r true z = same x y s n r p z q ∙ e
        to_source s p q e y r false z =
            let m : C y = lands r.1 n r.2 z in
            elim (from_target devices is_source values y (sure y m) (λ a b. same y a b m) (value_of values y) (holds y m)) [
              | inl (t, p', q', e') ↦ sym e' ∙ (same x t s n (joined_on devices is_source values x y t z r p') p q' q ∙ e)
              | inr (none, h) ↦
                  let back = joined_on devices is_source values y x s (free x n) (joined_back devices is_source values x y r) p in
                  absurd (never {b = is_source s} q (none s back))
            ]

  -- where no device that was off is on, a settled net whose value, and that of all that was joined to it, stays is settled
  module _ (before after : List Tri)
      (fewer : (d : Device) (x y : ℕ) → C x → Contains devices d → Ends d x y → IsNotOff after d → IsNotOff before d) where
    were_joined : (x y : ℕ) → C x → Possible devices is_source after x y → Possible devices is_source before x y
    were_joined x y n p = (
      p.0,
      p.1,
      p.2,
      AllByRecursion-weaker _ (IsNotOff before) (λ d q. q.0 q.1) p.0
          (AllByRecursion-both (λ d. IsNotOff after d → IsNotOff before d) (IsNotOff after) p.0
          (each_device (λ d. IsNotOff after d → IsNotOff before d) fewer p.1 n p.2) p.3),
    )

    pub stays_settled : (x : ℕ) → C x → value_of after x ≡ value_of before x
        → ((y : ℕ) → Possible devices is_source before x y → value_of after y ≡ value_of before y)
        → IsSettled devices is_source before x → IsSettled devices is_source after x
    stays_settled x n here same (inl alike) =
        inl (λ y p. let q = were_joined x y n p in same y q ∙ (alike y q ∙ sym here))
    stays_settled x n here same (inr (own, none)) = inr (here ∙ own, (λ y p. none y (were_joined x y n p)))
