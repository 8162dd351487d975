-- Values that agree around a net give it the same target.
use Rattle.std.proofs.Common.{◌≡◌, ℕ, Bool, List, [], ◌∷◌, ◌++◌, refl, sym, subst, ◌∙◌, inl, inr}
use Rattle.std.specs.Prelude.{◌↔◌, Contains}
use Rattle.std.specs.List.{AllByRecursion}
use Rattle.dom_base.specs.declared.tri.Tri.{Tri}
use Rattle.deck.specs.declared.device.Device.{Device}
use Rattle.deck.specs.Paths.{Path, one, more, Ends, DefiniteStrong, DefiniteWeak, Possible, PossibleStrong, PossibleWeak}
use Rattle.deck.specs.Switches.{IsOn, IsNotOff, value_of}
use Rattle.switch_model.specs.Laws.{AgreeAround, IsNear}
use Rattle.switch_model.specs.Targets.{Pulls, Disputes, Else, IsTarget}
use Rattle.switch_model.proofs.Joined.{Path-append}
use Rattle.dom_base.proofs.Lists.{AllByRecursion-append, AllByRecursion-both, AllByRecursion-weaker}
use Rattle.switch_model.proofs.Targets.{on-not_off, definite-possible_strong, definite-possible_weak}
use Rattle.switch_model.proofs.Searches.{ends_at}

-- the gate of the device has the same value in both lists
abbrev SameGate : List Tri → List Tri → Device → Type 0
SameGate before after d = value_of after d.gate ≡ value_of before d.gate

module _ (devices : List Device) (is_source : ℕ → Bool) (net : ℕ) (before after : List Tri) (agree : AgreeAround devices is_source net before after) where
  -- from a near net a device that is not off leads to a net that a possible path joins
  joined-next : (d : Device) (a m : ℕ) → IsNear devices is_source before net a → Contains devices d → IsNotOff before d → Ends d a m → Possible devices is_source before net m
  joined-next d a m (inl e) c n en = (d ∷ [], one (subst (λ x. Ends d x m) e en), (c, tt), (n, tt))
  joined-next d a m (inr (p, f)) c n en =
      (p.0 ++ d ∷ [], Path-append p.1 f (one en), AllByRecursion-append (Contains devices) p.0 (d ∷ []) p.2 (c, tt), AllByRecursion-append (IsNotOff before) p.0 (d ∷ []) p.3 (n, tt))

  -- along a path from a near net, whose devices are not off by one of the lists, the gates agree
  gates-agree : (F : Device → Type 0) → ((d : Device) → SameGate before after d → F d → IsNotOff before d) → {a b : ℕ} {p : List Device}
      → Path is_source a p b → IsNear devices is_source before net a → AllByRecursion (Contains devices) p → AllByRecursion F p → AllByRecursion (SameGate before after) p
  gates-agree F open' {a} {b} (one {d = d} e) near c f = (agree.at_gates d a c.0 near (ends_at d a b e), tt)
  gates-agree F open' {a} (more {d = d} {m = m} e g r) near c f =
      let same = agree.at_gates d a c.0 near (ends_at d a m e) in
      (same, gates-agree F open' r (inr (joined-next d a m near c.0 (open' d same f.0) e, g)) c.1 f.1)

  on-after : (d : Device) → SameGate before after d × IsOn before d → IsOn after d
  on-after d h = rw h.0 h.1

  on-before : (d : Device) → SameGate before after d × IsOn after d → IsOn before d
  on-before d h = rw h.0 at h.1

  open-after : (d : Device) → SameGate before after d × IsNotOff before d → IsNotOff after d
  open-after d h e = h.1 (rw h.0 at e)

  open-before : (d : Device) → SameGate before after d × IsNotOff after d → IsNotOff before d
  open-before d h e = h.1 (rw h.0 e)

  same_by : (F G : Device → Type 0) → ((d : Device) → SameGate before after d → F d → IsNotOff before d) → ((d : Device) → SameGate before after d × F d → G d)
      → {b : ℕ} (p : List Device) → Path is_source net p b → AllByRecursion (Contains devices) p → AllByRecursion F p → AllByRecursion G p
  same_by F G open' g p path c f = AllByRecursion-weaker _ G g p (AllByRecursion-both _ _ p (gates-agree F open' path (inl refl) c f) f)

  to_open : (p : List Device) {b : ℕ} → Path is_source net p b → AllByRecursion (Contains devices) p → AllByRecursion (IsNotOff before) p → AllByRecursion (IsNotOff after) p
  to_open p path c f = same_by (IsNotOff before) (IsNotOff after) (λ d s n. n) open-after p path c f

  from_open : (p : List Device) {b : ℕ} → Path is_source net p b → AllByRecursion (Contains devices) p → AllByRecursion (IsNotOff after) p → AllByRecursion (IsNotOff before) p
  from_open p path c f = same_by (IsNotOff after) (IsNotOff before) (λ d s n. open-before d (s, n)) open-before p path c f

  to_on : (p : List Device) {b : ℕ} → Path is_source net p b → AllByRecursion (Contains devices) p → AllByRecursion (IsOn before) p → AllByRecursion (IsOn after) p
  to_on p path c f = same_by (IsOn before) (IsOn after) (λ d s n. on-not_off before d n) on-after p path c f

  from_on : (p : List Device) {b : ℕ} → Path is_source net p b → AllByRecursion (Contains devices) p → AllByRecursion (IsOn after) p → AllByRecursion (IsOn before) p
  from_on p path c f = same_by (IsOn after) (IsOn before) (λ d s n. on-not_off before d (on-before d (s, n))) on-before p path c f

  to_ds : (s : ℕ) → DefiniteStrong devices is_source before net s → DefiniteStrong devices is_source after net s
  to_ds s h = (h.0, h.1, h.2, to_on h.0 h.1 h.2 h.3, h.4)

  from_ds : (s : ℕ) → DefiniteStrong devices is_source after net s → DefiniteStrong devices is_source before net s
  from_ds s h = (h.0, h.1, h.2, from_on h.0 h.1 h.2 h.3, h.4)

  to_ps : (s : ℕ) → PossibleStrong devices is_source before net s → PossibleStrong devices is_source after net s
  to_ps s h = (h.0, h.1, h.2, to_open h.0 h.1 h.2 h.3, h.4)

  from_ps : (s : ℕ) → PossibleStrong devices is_source after net s → PossibleStrong devices is_source before net s
  from_ps s h = (h.0, h.1, h.2, from_open h.0 h.1 h.2 h.3, h.4)

  to_dw : (s : ℕ) → DefiniteWeak devices is_source before net s → DefiniteWeak devices is_source after net s
  to_dw s h = (h.0, h.1, h.2, to_on h.0 h.1 h.2 h.3, h.4)

  from_dw : (s : ℕ) → DefiniteWeak devices is_source after net s → DefiniteWeak devices is_source before net s
  from_dw s h = (h.0, h.1, h.2, from_on h.0 h.1 h.2 h.3, h.4)

  to_pw : (s : ℕ) → PossibleWeak devices is_source before net s → PossibleWeak devices is_source after net s
  to_pw s h = (h.0, h.1, h.2, to_open h.0 h.1 h.2 h.3, h.4)

  from_pw : (s : ℕ) → PossibleWeak devices is_source after net s → PossibleWeak devices is_source before net s
  from_pw s h = (h.0, h.1, h.2, from_open h.0 h.1 h.2 h.3, h.4)

  to_p : (s : ℕ) → Possible devices is_source before net s → Possible devices is_source after net s
  to_p s h = (h.0, h.1, h.2, to_open h.0 h.1 h.2 h.3)

  from_p : (s : ℕ) → Possible devices is_source after net s → Possible devices is_source before net s
  from_p s h = (h.0, h.1, h.2, from_open h.0 h.1 h.2 h.3)

  strong_value : (s : ℕ) → PossibleStrong devices is_source before net s → value_of after s ≡ value_of before s
  strong_value s h = agree.at_joined s (h.0, h.1, h.2, h.3)

  weak_value : (s : ℕ) → PossibleWeak devices is_source before net s → value_of after s ≡ value_of before s
  weak_value s h = agree.at_joined s (h.0, h.1, h.2, h.3)

Pulls-to : (D D' P P' : ℕ → Type 0) (is_source : ℕ → Bool) (values values' : List Tri) → ((s : ℕ) → D s → D' s) → ((s : ℕ) → P' s → P s) → ((s : ℕ) → D s → P s)
    → ((s : ℕ) → P s → value_of values' s ≡ value_of values s) → (v : Tri) → Pulls D P is_source values v → Pulls D' P' is_source values' v
Pulls-to D D' P P' is_source values values' d p within same v h =
    ((h.0.0, d h.0.0 h.0.1, h.0.2, same h.0.0 (within h.0.0 h.0.1) ∙ h.0.3), (λ s q x. same s (p s q) ∙ h.1 s (p s q) x))

Disputes-to : (P P' : ℕ → Type 0) (is_source : ℕ → Bool) → ((s : ℕ) → P s → P' s) → (v : Tri) → Disputes P is_source v → Disputes P' is_source v
Disputes-to P P' is_source p v h = ((h.0.0, p h.0.0 h.0.1, h.0.2), h.1)

Else-to : (R R' S S' : Tri → Type 0) → ((v : Tri) → R v → R' v) → ((v : Tri) → R' v → R v) → ((v : Tri) → S v → S' v) → (v : Tri) → Else R S v → Else R' S' v
Else-to R R' S S' f g h v (inl x) = inl (f v x)
Else-to R R' S S' f g h v (inr x) = inr ((λ w r. x.0 w (g w r)), h v x.1)

module _ (devices : List Device) (is_source : ℕ → Bool) (net : ℕ) (before after : List Tri) (agree : AgreeAround devices is_source net before after) where
  by : (s : ℕ) → PossibleStrong devices is_source after net s → value_of before s ≡ value_of after s
  by s h = sym (strong_value devices is_source net before after agree s (from_ps devices is_source net before after agree s h))

  by' : (s : ℕ) → PossibleWeak devices is_source after net s → value_of before s ≡ value_of after s
  by' s h = sym (weak_value devices is_source net before after agree s (from_pw devices is_source net before after agree s h))

  pub near-to : (v : Tri) → IsTarget devices is_source before net v → IsTarget devices is_source after net v
  near-to =
      Else-to _ _ _ _
      (Pulls-to _ _ _ _ is_source before after (to_ds devices is_source net before after agree) (from_ps devices is_source net before after agree) (definite-possible_strong devices is_source before net) (strong_value devices is_source net before after agree))
      (Pulls-to _ _ _ _ is_source after before (from_ds devices is_source net before after agree) (to_ps devices is_source net before after agree) (definite-possible_strong devices is_source after net) by)
      (Else-to _ _ _ _
      (Disputes-to _ _ is_source (to_ps devices is_source net before after agree))
      (Disputes-to _ _ is_source (from_ps devices is_source net before after agree))
      (Else-to _ _ _ _
      (Pulls-to _ _ _ _ is_source before after (to_dw devices is_source net before after agree) (from_pw devices is_source net before after agree) (definite-possible_weak devices is_source before net) (weak_value devices is_source net before after agree))
      (Pulls-to _ _ _ _ is_source after before (from_dw devices is_source net before after agree) (to_pw devices is_source net before after agree) (definite-possible_weak devices is_source after net) by')
      (Else-to _ _ _ _
      (Disputes-to _ _ is_source (to_pw devices is_source net before after agree))
      (Disputes-to _ _ is_source (from_pw devices is_source net before after agree))
      (Else-to _ _ _ _
      (λ v h. ((λ n p. let q = from_p devices is_source net before after agree n p in agree.at_joined n q ∙ h.0 n q ∙ sym agree.at_net), h.1 ∙ sym agree.at_net))
      (λ v h. ((λ n p. sym (agree.at_joined n p) ∙ h.0 n (to_p devices is_source net before after agree n p) ∙ agree.at_net), h.1 ∙ agree.at_net))
      (λ v h. h)))))

  -- the lists agree the other way round too
  near-back : AgreeAround devices is_source net after before
  near-back = record {
    at_net = sym agree.at_net;
    at_joined = λ n p. sym (agree.at_joined n (from_p devices is_source net before after agree n p));
    at_gates = λ d n c near e. sym (agree.at_gates d n c (by_near n near) e);
  }
    where
      by_near : (n : ℕ) → IsNear devices is_source after net n → IsNear devices is_source before net n
      by_near n (inl e) = inl e
      by_near n (inr h) = inr (from_p devices is_source net before after agree n h.0, h.1)

pub near-same : (devices : List Device) (is_source : ℕ → Bool) (net : ℕ) (before after : List Tri) (v : Tri) → AgreeAround devices is_source net before after
    → IsTarget devices is_source before net v ↔ IsTarget devices is_source after net v
near-same devices is_source net before after v agree =
    (near-to devices is_source net before after agree v, near-to devices is_source net after before (near-back devices is_source net before after agree) v)
