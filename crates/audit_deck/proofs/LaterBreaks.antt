-- What it is that rule 5 or 6 is broken.
use Rattle.std.specs.Prelude.{Some, slice_get, ◌⊎◌}
use Rattle.std.proofs.Common.{List, arith, inl, inr, refl, ℕ, ◌+◌, ◌<◌, ◌≡◌, ◌≤◌}
use Rattle.deck.specs.PortLayout.{first_output}
use Rattle.deck.specs.declared.device.Device.{Device}
use Rattle.deck.specs.declared.role.Roles.{Roles}
use Rattle.deck_audit.specs.Audits.{Breaks, bridge, front, latch, leaf, loop, output, tree, use_of}
use Rattle.deck_audit.specs.Rules.{IsLoose, IsSinkNet, KeepsUse}
use Rattle.deck_audit.proofs.RuleFacts.{cards_at, twin_gate}
use Rattle.audit_deck.specs.Indexes.{AreInRange}
use Rattle.audit_deck.specs.Loops.{HasOtherLeaf, IsOnLoop}
use Rattle.audit_deck.specs.Uses.{HasBridge}
use Rattle.audit_deck.proofs.Breaks.{dynamic_low, end_low}

module _ (ds : List Device) (roles : Roles) (nets : ℕ) where
  pub use_break : (r n : ℕ) → Breaks ds roles nets r n → r ≡ 5
      → HasBridge ds roles n ⊎ ((IsLoose ds roles nets n ⊎ IsSinkNet ds roles n) × (KeepsUse ds roles n → ⊥))
  use_break r n (front d away) e = absurd (omega (arith, e))
  use_break r n (output clock out d f away) e = absurd (omega (arith, e))
  use_break r n (tree clock out d f away) e = absurd (omega (arith, e))
  use_break r n (latch a away) e = absurd (omega (arith, e))
  use_break r n (use_of a away) e = inr (a, away)
  use_break r n (bridge p d at h) e = inl (p, (d, at, h, refl))
  use_break r n (leaf p d x at t away) e = absurd (omega (arith, e))
  use_break r n (loop x d) e = absurd (omega (arith, e))

  pub leaf_break : (r n : ℕ) → Breaks ds roles nets r n → r ≡ 6 → HasOtherLeaf ds roles n ⊎ IsOnLoop ds roles n
  leaf_break r n (front d away) e = absurd (omega (arith, e))
  leaf_break r n (output clock out d f away) e = absurd (omega (arith, e))
  leaf_break r n (tree clock out d f away) e = absurd (omega (arith, e))
  leaf_break r n (latch a away) e = absurd (omega (arith, e))
  leaf_break r n (use_of a away) e = absurd (omega (arith, e))
  leaf_break r n (bridge p d at h) e = absurd (omega (arith, e))
  leaf_break r n (leaf p d x at t away) e = inl (x, p, d, at, t, away)
  leaf_break r n (loop x d) e = inr (x, d)

  module _ (in_range : AreInRange ds nets) where
    pub sort_low : first_output roles + roles.outs ≤ nets → (n : ℕ) → IsLoose ds roles nets n ⊎ IsSinkNet ds roles n → n < nets
    sort_low outs n (inl loose) = loose.in_range
    sort_low outs n (inr (inl (g, places, is, e))) =
        let a = (cards_at ds roles g places is).1.0 in
        let r = in_range a.place a.device a.there in
        omega (arith, r.gate, twin_gate a.device _ a.twin, e)
    sort_low outs n (inr (inr port)) = omega (arith, port.1, outs)

    pub use_low : first_output roles + roles.outs ≤ nets → (n : ℕ) → Breaks ds roles nets 5 n → n < nets
    use_low outs n b = elim (use_break 5 n b refl) [
      | inl (p, (d, at, h, e)) ↦ end_low ds roles nets in_range p d n at (inl e)
      | inr (sort, away) ↦ sort_low outs n sort
    ]

    pub leaf_low : (n : ℕ) → Breaks ds roles nets 6 n → n < nets
    leaf_low n b = elim (leaf_break 6 n b refl) [ inl h ↦ dynamic_low ds roles nets in_range n h.0 | inr h ↦ dynamic_low ds roles nets in_range n h.0 ]
