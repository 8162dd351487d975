-- Targets depend on the devices but for their order and for exchanged drains and sources.
use Rattle.std.specs.List.{AllByRecursion}
use Rattle.std.specs.Prelude.{Contains}
use Rattle.std.proofs.Common.{Bool, List, [], inl, inr, refl, ℕ, ◌∷◌, ◌≡◌}
use Rattle.dom_base.specs.declared.tri.Tri.{Tri}
use Rattle.dom_base.specs.declared.tri.Tri.TheVariants.{Unknown}
use Rattle.deck.specs.Paths.{DefiniteStrong, DefiniteWeak, Ends, IsStrong, IsWeak, Path, Possible, PossibleStrong, PossibleWeak, more, one}
use Rattle.deck.specs.Switches.{IsNotOff, IsOn}
use Rattle.deck.specs.declared.device.Device.{Device}
use Rattle.switch_model.specs.Targets.{Disputes, Else, EventAt, Holds, IsTarget, Pulls}
use Rattle.circuit_law.specs.Exchanged.{EventsAgree, HasDevicesOf, TargetsAgree, exchange}
use Rattle.circuit_law.proofs.Agree.{rules_map}

-- a device with the same switch
pub record IsTwin (d e : Device) : Type 0 where
  pub kind : e.kind ≡ d.kind
  pub gate : e.gate ≡ d.gate
  pub ends : (a b : ℕ) → Ends d a b → Ends e a b

pub twin_in : (ds es : List Device) → HasDevicesOf ds es → (d : Device) → Contains ds d → (e : Device) × Contains es e × IsTwin d e
twin_in ds es w d c =
    elim (w d c) [
      | inl m ↦ (d, m, record { kind = refl; gate = refl; ends = λ a b e. e })
      | inr m ↦ (exchange d, m, record { kind = refl; gate = refl; ends = λ a b e. elim e [ inl z ↦ inr z | inr z ↦ inl z ] })
    ]

-- one after another
Twins : List Device → List Device → Type 0
Twins [] [] = Unit {0}
Twins (d ∷ ds) (e ∷ es) = IsTwin d e × Twins ds es
Twins _ _ = ⊥

module _ (ds es : List Device) (w : HasDevicesOf ds es) (is_source : ℕ → Bool) where
  twin_path : {a b : ℕ} {p : List Device} → Path is_source a p b → AllByRecursion (Contains ds) p
      → (q : List Device) × Path is_source a q b × AllByRecursion (Contains es) q × Twins p q
  unfolding Twins
  twin_path {a} {b} (one {d = d} e) c =
      let t = twin_in ds es w d c.0 in (t.0 ∷ [], one ((t.2).ends a b e), (t.1, tt), (t.2, tt))
  twin_path {a} (more {d = d} {m = m} e n r) c =
      let t = twin_in ds es w d c.0 in
      let u = twin_path r c.1 in
      (t.0 ∷ u.0, more ((t.2).ends a m e) n u.1, (t.1, u.2), (t.2, u.3))

  module _ (values : List Tri) where
    on_twins : (p q : List Device) → Twins p q → AllByRecursion (IsOn values) p → AllByRecursion (IsOn values) q
    unfolding Twins
    on_twins [] [] t h = tt
    on_twins (d ∷ p) (e ∷ q) t h = (rw ((t.0).kind, (t.0).gate) h.0, on_twins p q t.1 h.1)
    on_twins [] (e ∷ q) t h = absurd t
    on_twins (d ∷ p) [] t h = absurd t

    not_off_twins : (p q : List Device) → Twins p q → AllByRecursion (IsNotOff values) p → AllByRecursion (IsNotOff values) q
    unfolding Twins
    not_off_twins [] [] t h = tt
    not_off_twins (d ∷ p) (e ∷ q) t h = (rw ((t.0).kind, (t.0).gate) h.0, not_off_twins p q t.1 h.1)
    not_off_twins [] (e ∷ q) t h = absurd t
    not_off_twins (d ∷ p) [] t h = absurd t

    weak_twins : (p q : List Device) → Twins p q → IsWeak p → IsWeak q
    unfolding Twins
    weak_twins [] [] t h = h
    weak_twins (d ∷ p) (e ∷ q) t (inl k) = inl (rw (t.0).kind k)
    weak_twins (d ∷ p) (e ∷ q) t (inr k) = inr (weak_twins p q t.1 k)
    weak_twins [] (e ∷ q) t h = absurd t
    weak_twins (d ∷ p) [] t h = absurd t

    strong_twins : (p q : List Device) → Twins p q → IsStrong p → IsStrong q
    unfolding Twins
    strong_twins [] [] t h k = k
    strong_twins (d ∷ p) (e ∷ q) t h (inl k) = h (inl (rw (← (t.0).kind) k))
    strong_twins (d ∷ p) (e ∷ q) t h (inr k) = strong_twins p q t.1 (λ y. h (inr y)) k
    strong_twins [] (e ∷ q) t h k = absurd t
    strong_twins (d ∷ p) [] t h k = absurd t

    definite_strong : (a b : ℕ) → DefiniteStrong ds is_source values a b → DefiniteStrong es is_source values a b
    definite_strong a b h = let t = twin_path h.1 h.2 in (t.0, t.1, t.2, on_twins h.0 t.0 t.3 h.3, strong_twins h.0 t.0 t.3 h.4)

    possible_strong : (a b : ℕ) → PossibleStrong ds is_source values a b → PossibleStrong es is_source values a b
    possible_strong a b h = let t = twin_path h.1 h.2 in (t.0, t.1, t.2, not_off_twins h.0 t.0 t.3 h.3, strong_twins h.0 t.0 t.3 h.4)

    definite_weak : (a b : ℕ) → DefiniteWeak ds is_source values a b → DefiniteWeak es is_source values a b
    definite_weak a b h = let t = twin_path h.1 h.2 in (t.0, t.1, t.2, on_twins h.0 t.0 t.3 h.3, weak_twins h.0 t.0 t.3 h.4)

    possible_weak : (a b : ℕ) → PossibleWeak ds is_source values a b → PossibleWeak es is_source values a b
    possible_weak a b h = let t = twin_path h.1 h.2 in (t.0, t.1, t.2, not_off_twins h.0 t.0 t.3 h.3, weak_twins h.0 t.0 t.3 h.4)

    possible : (a b : ℕ) → Possible ds is_source values a b → Possible es is_source values a b
    possible a b h = let t = twin_path h.1 h.2 in (t.0, t.1, t.2, not_off_twins h.0 t.0 t.3 h.3)

Pulls-as : (d d' p p' : ℕ → Type 0) (is_source : ℕ → Bool) (values : List Tri) → ((n : ℕ) → d n → d' n) → ((n : ℕ) → p' n → p n) → (v : Tri)
    → Pulls d p is_source values v → Pulls d' p' is_source values v
Pulls-as d d' p p' is_source values f g v h = ((h.0.0, f h.0.0 h.0.1, h.0.2, h.0.3), (λ s r q. h.1 s (g s r) q))

one_way : (ds es : List Device) → HasDevicesOf ds es → HasDevicesOf es ds → (is_source : ℕ → Bool) (values : List Tri) (net : ℕ) (v : Tri) → IsTarget ds is_source values net v → IsTarget es is_source values net v
one_way ds es w u is_source values net =
    rules_map is_source
    (λ v. (
      Pulls-as _ _ _ _ is_source values (definite_strong ds es w is_source values net) (possible_strong es ds u is_source values net) v,
      Pulls-as _ _ _ _ is_source values (definite_strong es ds u is_source values net) (possible_strong ds es w is_source values net) v,
    ))
    (λ n. (possible_strong ds es w is_source values net n, possible_strong es ds u is_source values net n))
    (λ v. (
      Pulls-as _ _ _ _ is_source values (definite_weak ds es w is_source values net) (possible_weak es ds u is_source values net) v,
      Pulls-as _ _ _ _ is_source values (definite_weak es ds u is_source values net) (possible_weak ds es w is_source values net) v,
    ))
    (λ n. (possible_weak ds es w is_source values net n, possible_weak es ds u is_source values net n))
    (λ v h. holds_or h)
  where
    holds_or : {v : Tri} → Else (Holds (Possible ds is_source values net) values net) (λ x. x ≡ Unknown) v → Else (Holds (Possible es is_source values net) values net) (λ x. x ≡ Unknown) v
    holds_or (inl h) = inl ((λ n p. h.0 n (possible es ds u is_source values net n p)), h.1)
    holds_or (inr h) = inr ((λ x k. h.0 x ((λ n p. k.0 n (possible ds es w is_source values net n p)), k.1)), h.1)

pub targets_agree : TargetsAgree
targets_agree ds es w u is_source values net v = (one_way ds es w u is_source values net v, one_way es ds u w is_source values net v)

pub events_agree : EventsAgree
events_agree ds es w u is_source net before after = (by ds es w u, by es ds u w)
  where
    by : (ds es : List Device) → HasDevicesOf ds es → HasDevicesOf es ds → EventAt ds is_source net before after → EventAt es is_source net before after
    by ds es w u e = (e.0, e.1, (e.2.0, one_way ds es w u is_source before net e.0 e.2.1, e.2.2), e.3)
