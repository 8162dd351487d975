-- The signals of the nets of pins and of the outputs of latches.
use Rattle.std.specs.Prelude.{Some, slice_get, ◌⊎◌}
use Rattle.std.proofs.Common.{List, ap, arith, inl, inr, ℕ, ◌+◌, ◌-◌, ◌<◌, ◌∙◌, ◌≡◌, ◌≤◌}
use Rattle.deck.specs.PortLayout.{first_pin}
use Rattle.deck.specs.declared.device.Device.{Device}
use Rattle.deck.specs.declared.role.Roles.{Roles}
use Rattle.domino_law.specs.Nets.{DeckSignal, FromLatch, FromPin}
use Rattle.deck_audit.specs.Words.{Group, IsGroup, IsLatchOutput, IsPin}
use Rattle.found_decks.specs.FoundDecks.{FoundLatch, IsSignalNet}

module _ (ds : List Device) (roles : Roles) (latches : List FoundLatch)
    (full : (g : Group) (places : List ℕ) → IsGroup ds roles g places
    → (j : ℕ) × (l : FoundLatch) × (slice_get latches j ≡ Some l) × (l.group ≡ g)) where
  pub signal_at : (i : ℕ) → IsPin roles i ⊎ IsLatchOutput ds roles i → (l : DeckSignal) × IsSignalNet roles latches l i
  signal_at i (inl z) = (FromPin (i - first_pin roles), (low i (first_pin roles) roles.pins z.0 z.1, same i (first_pin roles) z.0))
    where
      low : (i a p : ℕ) → a ≤ i → i < a + p → i - a < p
      low i a p l m = omega (arith, l, m)

      same : (i a : ℕ) → a ≤ i → a + (i - a) ≡ i
      same i a l = omega (arith, l)
  signal_at i (inr z) =
      let q = full z.0 z.1 z.2 in
      (FromLatch q.0, (q.1, q.2, ap (λ (g : Group). g.output) q.3 ∙ z.3))
