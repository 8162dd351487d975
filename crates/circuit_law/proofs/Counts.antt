-- At most (n + 1)^2 events, where each net that gates a device has at most one.
use Rattle.std.specs.List.{AllByRecursion, filter}
use Rattle.std.proofs.Common.{Bool, List, [], arith, false, length, length-append, refl, suc, true, ℕ, ◌*◌, ◌++◌, ◌+◌, ◌∷◌, ◌≡◌, ◌≤◌}
use Rattle.std.proofs.Math.Nat.{mul-le-mul_right}
use Rattle.dom_base.specs.declared.tri.Tri.{Tri}
use Rattle.dom_base.proofs.Lists.{AllByRecursion-append}
use Rattle.deck.specs.declared.device.Device.{Device}
use Rattle.switch_model.specs.Targets.{EventAt}
use Rattle.circuit_law.specs.Counts.{Distinct, Events, Gates, IsBetween}
use Rattle.circuit_law.proofs.Distinct.{length-distinct}
use Rattle.circuit_law.proofs.Quiet.{quiet_once}

module _ (devices : List Device) (is_source : ℕ → Bool) (gates : ℕ → Bool) (quiet : (n : ℕ) → gates n ≡ false → Gates devices n → ⊥)
    (low size : ℕ) where
  Events-push : (ns : List ℕ) (n : ℕ) (a b c : List Tri) → Events devices is_source ns a b → EventAt devices is_source n b c → Events devices is_source (ns ++ n ∷ []) a c
  Events-push [] n a b c r e = (c, rw r at e, refl)
  Events-push (m ∷ ns) n a b c r e = (r.0, r.1, Events-push ns n r.0 b c r.2 e)

  -- with a quiet stretch before it
  stretches : (ns seg : List ℕ) (start mid after : List Tri) → Events devices is_source seg start mid → AllByRecursion (λ m. Gates devices m → ⊥) seg → AllByRecursion (IsBetween low size) seg
      → Events devices is_source ns mid after → AllByRecursion (IsBetween low size) ns
      → length seg + length ns ≤ length (filter gates ns) + (length (filter gates ns) + 1) * size
  stretches [] seg start mid after r q b e c =
      let d = length-distinct low size seg (quiet_once devices is_source seg start mid q r) b in omega arith
  stretches (n ∷ ns) seg start mid after r q b e c =
      by (gates n) refl (stretches ns [] e.0 e.0 after refl tt tt e.2 c.1)
      (λ no. stretches ns (seg ++ n ∷ []) start e.0 after (Events-push seg n start mid e.0 r e.1) (AllByRecursion-append _ seg (n ∷ []) q (no, tt)) (AllByRecursion-append _ seg (n ∷ []) b (c.0, tt)) e.2 c.1)
    where
      by : (g : Bool) → gates n ≡ g → 0 + length ns ≤ length (filter gates ns) + (length (filter gates ns) + 1) * size
          → ((Gates devices n → ⊥) → length (seg ++ n ∷ []) + length ns ≤ length (filter gates ns) + (length (filter gates ns) + 1) * size)
          → length seg + length (n ∷ ns) ≤ length (filter gates (n ∷ ns)) + (length (filter gates (n ∷ ns)) + 1) * size
      by true g it f =
          let d = length-distinct low size seg (quiet_once devices is_source seg start mid q r) b in
          rw g (step (length seg) (length ns) (length (filter gates ns)) size d it)
        where
          step : (a b f n : ℕ) → a ≤ n → 0 + b ≤ f + (f + 1) * n → a + suc b ≤ suc f + (suc f + 1) * n
          step a b f n h k = omega arith
      by false g it f =
          rw g (step (length seg) (length ns) (length (seg ++ n ∷ [])) _ (simp length-append (omega arith)) (f (quiet n g)))
        where
          step : (a b l r : ℕ) → l ≡ a + 1 → l + b ≤ r → a + suc b ≤ r
          step a b l r h k = omega arith

  filter-below : (ns : List ℕ) → AllByRecursion (IsBetween low size) ns → AllByRecursion (IsBetween low size) (filter gates ns)
  filter-below [] h = tt
  filter-below (n ∷ ns) h = by (gates n) refl (filter-below ns h.1)
    where
      by : (g : Bool) → gates n ≡ g → AllByRecursion (IsBetween low size) (filter gates ns) → AllByRecursion (IsBetween low size) (filter gates (n ∷ ns))
      by true g it = rw g (h.0, it)
      by false g it = rw g it

  pub events_bound : (ns : List ℕ) (before after : List Tri) → Events devices is_source ns before after → AllByRecursion (IsBetween low size) ns → Distinct (filter gates ns)
      → length ns ≤ (size + 1) * (size + 1)
  events_bound ns before after e b d =
      let f = length-distinct low size (filter gates ns) d (filter-below ns b) in
      let k = stretches ns [] before before after refl tt tt e b in
      bound (length ns) (length (filter gates ns)) size f k
    where
      bound : (l f n : ℕ) → f ≤ n → 0 + l ≤ f + (f + 1) * n → l ≤ (n + 1) * (n + 1)
      bound l f n h k = let m : f * n ≤ n * n = mul-le-mul_right n h in omega arith
