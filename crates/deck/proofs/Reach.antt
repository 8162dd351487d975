-- Paths without the list of devices: from and to paths, one after another, and by weaker facts.
use Rattle.std.proofs.Common.{◌≡◌, ℕ, Bool, true, false, List, [], ◌∷◌, sym, ◌∙◌, inl, inr}
use Rattle.std.specs.Prelude.{◌≢◌, ◌⊎◌}
use Rattle.std.specs.List.{AllByRecursion}
use Rattle.deck.specs.declared.device.Device.{Device}
use Rattle.dom_base.specs.declared.kind.Kind.TheVariants.{Keep}
use Rattle.deck.specs.Paths.{Path, one, more, Ends, IsStrong}
use Rattle.deck.specs.Reach.{Reach, last, step}

-- from a path
pub Reach-from_path : (Q : Device → Type 0) (is_source : ℕ → Bool) {a b : ℕ} {p : List Device} → Path is_source a p b → AllByRecursion Q p → Reach Q is_source a b
Reach-from_path Q is_source (one e) h = last h.0 e
Reach-from_path Q is_source (more e n r) h = step h.0 e n (Reach-from_path Q is_source r h.1)

-- to a path
pub path_from_Reach : (Q : Device → Type 0) (is_source : ℕ → Bool) {a b : ℕ} → Reach Q is_source a b → (p : List Device) × Path is_source a p b × AllByRecursion Q p
path_from_Reach Q is_source (last {d = d} q e) = (d ∷ [], one e, (q, tt))
path_from_Reach Q is_source (step {d = d} q e n r) =
    let t = path_from_Reach Q is_source r in (d ∷ t.0, more e n t.1, (q, t.2))

-- one after another
pub Reach-trans : {Q : Device → Type 0} {is_source : ℕ → Bool} {a m b : ℕ} → Reach Q is_source a m → is_source m ≡ false → Reach Q is_source m b → Reach Q is_source a b
Reach-trans (last q e) n s = step q e n s
Reach-trans (step q e k r) n s = step q e k (Reach-trans r n s)

-- what holds of the first net, and what each device keeps unless it leads to a source with T, holds of the last
pub Reach-kept : {Q : Device → Type 0} {is_source : ℕ → Bool} (S : ℕ → Type 0) (T : ℕ → Type 0) {a b : ℕ}
    → ((d : Device) (x y : ℕ) → Q d → Ends d x y → S x → S y ⊎ ((is_source y ≡ true) × T y))
    → S a → Reach Q is_source a b → S b ⊎ ((is_source b ≡ true) × T b)
Reach-kept S T {a} {b} keep s (last {d = d} q e) = keep d a b q e s
Reach-kept S T {a} keep s (step {d = d} {m = m} q e n r) =
    elim (keep d a m q e s) [ inl x ↦ Reach-kept S T keep x r | inr y ↦ absurd (clash (sym n ∙ y.0)) ]
  where
    clash : false ≡ true → ⊥
    clash x = cc

-- by weaker facts
pub Reach-weaker : {Q R : Device → Type 0} {is_source : ℕ → Bool} {a b : ℕ} → ((d : Device) → Q d → R d) → Reach Q is_source a b → Reach R is_source a b
Reach-weaker f (last {d = d} q e) = last (f d q) e
Reach-weaker f (step {d = d} q e n r) = step (f d q) e n (Reach-weaker f r)

-- no device of a strong path is a keeper
pub strong_each : (ds : List Device) → IsStrong ds → AllByRecursion (λ d. d.kind ≢ Keep) ds
strong_each [] h = tt
strong_each (d ∷ ds) h = ((λ e. h (inl e)), strong_each ds (λ w. h (inr w)))

pub strong_from_each : (ds : List Device) → AllByRecursion (λ d. d.kind ≢ Keep) ds → IsStrong ds
strong_from_each [] h w = w
strong_from_each (d ∷ ds) h (inl e) = h.0 e
strong_from_each (d ∷ ds) h (inr w) = strong_from_each ds h.1 w
