-- Values that agree at the gates and at the sources give the same first four rules.
use Rattle.std.specs.List.{AllByRecursion}
use Rattle.std.specs.Prelude.{Contains}
use Rattle.std.proofs.Common.{Bool, List, inl, inr, sym, true, ℕ, ◌∙◌, ◌≡◌}
use Rattle.dom_base.specs.declared.tri.Tri.{Tri}
use Rattle.dom_base.proofs.Lists.{AllByRecursion-both, AllByRecursion-weaker}
use Rattle.deck.specs.Paths.{DefiniteStrong, DefiniteWeak, PossibleStrong, PossibleWeak}
use Rattle.deck.specs.Switches.{IsNotOff, IsOn, value_of}
use Rattle.deck.specs.declared.device.Device.{Device}
use Rattle.switch_model.specs.Targets.{Disputes, Else, Pulls}
use Rattle.circuit_law.specs.Agree.{Agree, ByPaths}

pub Agree-sym : (devices : List Device) (is_source : ℕ → Bool) (values values' : List Tri) → Agree devices is_source values values' → Agree devices is_source values' values
Agree-sym devices is_source values values' a = record { at_gates = λ d c. sym (a.at_gates d c); at_sources = λ s h. sym (a.at_sources s h) }

module _ (devices : List Device) (is_source : ℕ → Bool) (values values' : List Tri) (a : Agree devices is_source values values') where
  on_same : (p : List Device) → AllByRecursion (Contains devices) p → AllByRecursion (IsOn values) p → AllByRecursion (IsOn values') p
  on_same p c h = AllByRecursion-weaker _ (IsOn values') (λ d k. rw (a.at_gates d k.0) k.1) p (AllByRecursion-both _ _ p c h)

  not_off_same : (p : List Device) → AllByRecursion (Contains devices) p → AllByRecursion (IsNotOff values) p → AllByRecursion (IsNotOff values') p
  not_off_same p c h = AllByRecursion-weaker _ (IsNotOff values') (λ d k. rw (a.at_gates d k.0) k.1) p (AllByRecursion-both _ _ p c h)

  pub definite_strong_same : (x y : ℕ) → DefiniteStrong devices is_source values x y → DefiniteStrong devices is_source values' x y
  definite_strong_same x y h = (h.0, h.1, h.2, on_same h.0 h.2 h.3, h.4)

  pub possible_strong_same : (x y : ℕ) → PossibleStrong devices is_source values x y → PossibleStrong devices is_source values' x y
  possible_strong_same x y h = (h.0, h.1, h.2, not_off_same h.0 h.2 h.3, h.4)

  pub definite_weak_same : (x y : ℕ) → DefiniteWeak devices is_source values x y → DefiniteWeak devices is_source values' x y
  definite_weak_same x y h = (h.0, h.1, h.2, on_same h.0 h.2 h.3, h.4)

  pub possible_weak_same : (x y : ℕ) → PossibleWeak devices is_source values x y → PossibleWeak devices is_source values' x y
  possible_weak_same x y h = (h.0, h.1, h.2, not_off_same h.0 h.2 h.3, h.4)

Pulls-same : (D D' R R' : ℕ → Type 0) (is_source : ℕ → Bool) (values values' : List Tri)
    → ((s : ℕ) → is_source s ≡ true → value_of values' s ≡ value_of values s) → ((s : ℕ) → D s → D' s) → ((s : ℕ) → R' s → R s)
    → (v : Tri) → Pulls D R is_source values v → Pulls D' R' is_source values' v
Pulls-same D D' R R' is_source values values' same d r v h =
    ((h.0.0, d h.0.0 h.0.1, h.0.2, same h.0.0 h.0.2 ∙ h.0.3), (λ s p q. same s q ∙ h.1 s (r s p) q))

-- rules 1 to 4 and what comes behind them, where strong and weak pulls agree both ways, possible paths do, and the rest goes over
module _ (is_source : ℕ → Bool) {strong strong' weak weak' rest rest' : Tri → Type 0} {P P' Q Q' : ℕ → Type 0} where
  pub rules_map : ((v : Tri) → (strong v → strong' v) × (strong' v → strong v)) → ((n : ℕ) → (P n → P' n) × (P' n → P n))
      → ((v : Tri) → (weak v → weak' v) × (weak' v → weak v)) → ((n : ℕ) → (Q n → Q' n) × (Q' n → Q n)) → ((v : Tri) → rest v → rest' v)
      → (v : Tri) → Else strong (Else (Disputes P is_source) (Else weak (Else (Disputes Q is_source) rest))) v
      → Else strong' (Else (Disputes P' is_source) (Else weak' (Else (Disputes Q' is_source) rest'))) v
  rules_map s p w q r =
      step (λ v. (s v).0) (λ v. (s v).1)
      (step (disputes (λ n. (p n).0)) (disputes (λ n. (p n).1))
      (step (λ v. (w v).0) (λ v. (w v).1)
      (step (disputes (λ n. (q n).0)) (disputes (λ n. (q n).1)) r)))
    where
      step : {R R' S S' : Tri → Type 0} → ((v : Tri) → R v → R' v) → ((v : Tri) → R' v → R v) → ((v : Tri) → S v → S' v) → (v : Tri) → Else R S v → Else R' S' v
      step f g h v (inl x) = inl (f v x)
      step f g h v (inr x) = inr ((λ u e. x.0 u (g u e)), h v x.1)

      disputes : {M M' : ℕ → Type 0} → ((n : ℕ) → M n → M' n) → (v : Tri) → Disputes M is_source v → Disputes M' is_source v
      disputes f v h = ((h.0.0, f h.0.0 h.0.1, h.0.2), h.1)

pub ByPaths-same : (devices : List Device) (is_source : ℕ → Bool) (values values' : List Tri) → Agree devices is_source values values'
    → (net : ℕ) (S S' : Tri → Type 0) → ((v : Tri) → S v → S' v) → (v : Tri) → ByPaths devices is_source values net S v → ByPaths devices is_source values' net S' v
ByPaths-same devices is_source values values' a net S S' f =
    let b = Agree-sym devices is_source values values' a in
    rules_map is_source
    (λ v. (
      Pulls-same _ _ _ _ is_source values values' a.at_sources (definite_strong_same devices is_source values values' a net) (possible_strong_same devices is_source values' values b net) v,
      Pulls-same _ _ _ _ is_source values' values b.at_sources (definite_strong_same devices is_source values' values b net) (possible_strong_same devices is_source values values' a net) v,
    ))
    (λ n. (possible_strong_same devices is_source values values' a net n, possible_strong_same devices is_source values' values b net n))
    (λ v. (
      Pulls-same _ _ _ _ is_source values values' a.at_sources (definite_weak_same devices is_source values values' a net) (possible_weak_same devices is_source values' values b net) v,
      Pulls-same _ _ _ _ is_source values' values b.at_sources (definite_weak_same devices is_source values' values b net) (possible_weak_same devices is_source values values' a net) v,
    ))
    (λ n. (possible_weak_same devices is_source values values' a net n, possible_weak_same devices is_source values' values b net n))
    f
