-- One changed net changes no targets but its own and those in the components that it touches.
use Rattle.std.proofs.Common.{◌≡◌, ℕ, Bool, false, List, [], ◌∷◌, refl, sym, ◌∙◌, inl, inr}
use Rattle.std.specs.Prelude.{◌↔◌, ◌≢◌, Contains}
use Rattle.std.specs.List.{AllByRecursion}
use Rattle.dom_base.specs.declared.tri.Tri.{Tri}
use Rattle.deck.specs.declared.device.Device.{Device}
use Rattle.deck.specs.Paths.{Path, one, more, Possible}
use Rattle.deck.specs.Switches.{value_of}
use Rattle.switch_model.specs.Laws.{AgreeAround, IsNear}
use Rattle.switch_model.specs.Targets.{IsPending, IsTarget}
use Rattle.switch_model.proofs.Nearness.{near-same}
use Rattle.switch_model.proofs.Searches.{ends_at, other_at}
use Rattle.switch_model.specs.Components.{IsNetOf, AreConnected, Touches}
use Rattle.switch_model.specs.Locality.{DifferAt}

module _ (devices : List Device) (is_source : ℕ → Bool) where
  -- the last device of a path is one of the component, so what the path leads to touches it
  path-touches : {a b : ℕ} {p : List Device} (net : ℕ) → IsNetOf devices is_source net a → ((p' : List Device) (m : ℕ) → Path is_source a p' m → AllByRecursion (Contains devices) p' → AreConnected devices is_source net m)
      → Path is_source a p b → AllByRecursion (Contains devices) p → Touches devices is_source b net
  path-touches {a} {b} net n on (one {d = d} e) c = (d, (c.0, (a, n, ends_at d a b e)), inr (other_at d a b e))
  path-touches {a} {b} net n on (more {d = d} {ds = ds} {m = m} e f r) c =
      path-touches net (inr (on (d ∷ []) m (one e) (c.0, tt), f)) (λ p' n' q k. on (d ∷ p') n' (more e f q) (c.0, k)) r c.1

  pub joined-touches : (net n : ℕ) → AreConnected devices is_source net n → Touches devices is_source n net
  joined-touches net n w = path-touches net (inl refl) (λ p' m q k. (p', q, k)) w.1 w.2

  wired : (values : List Tri) (net n : ℕ) → Possible devices is_source values net n → AreConnected devices is_source net n
  wired values net n h = (h.0, h.1, h.2)

  near-net : (values : List Tri) (net n : ℕ) → IsNear devices is_source values net n → IsNetOf devices is_source net n
  near-net values net n (inl e) = inl e
  near-net values net n (inr h) = inr (wired values net n h.0, h.1)

  module _ (x : ℕ) (before after : List Tri) (net : ℕ) (differ : DifferAt x before after) (other : net ≢ x) (apart : Touches devices is_source x net → ⊥) where
    same_or : (n : ℕ) → (n ≡ x → ⊥) → value_of after n ≡ value_of before n
    same_or n h = differ n h

    pub agrees : AgreeAround devices is_source net before after
    agrees = record {
      at_net = differ net other;
      at_joined = λ n p. differ n (λ e. apart (rw e at (joined-touches net n (wired before net n p))));
      at_gates = λ d n c near e. differ d.gate (λ g. apart (d, (c, (n, near-net before net n near, e)), inl g));
    }

    pub target-kept : (v : Tri) → IsTarget devices is_source before net v ↔ IsTarget devices is_source after net v
    target-kept v = near-same devices is_source net before after v agrees

  module _ (x : ℕ) (before after : List Tri) (net : ℕ) (v : Tri) (differ : DifferAt x before after) (other : net ≢ x) (apart : is_source net ≡ false → Touches devices is_source x net → ⊥) where
    pub pending-kept : IsPending devices is_source before net v ↔ IsPending devices is_source after net v
    pending-kept = (
      λ h. (h.0, (target-kept x before after net differ other (apart h.0) v).0 h.1, λ e. h.2 (sym (differ net other) ∙ e)),
      λ h. (h.0, (target-kept x before after net differ other (apart h.0) v).1 h.1, λ e. h.2 (differ net other ∙ e)),
    )
