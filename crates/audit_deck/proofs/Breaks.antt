-- What it is that one of rules 1 to 3 is broken.
use Rattle.std.specs.Prelude.{Some, slice_get, ◌⊎◌}
use Rattle.std.proofs.Common.{List, ap, arith, inl, inr, subst, sym, ℕ, ◌<◌, ◌∙◌, ◌≡◌, ◌≤◌}
use Rattle.dom_base.specs.declared.kind.Kind.TheVariants.{Keep, P as pch}
use Rattle.dom_base.proofs.Decided.{lt_or_ge}
use Rattle.deck.specs.Nets.{IsInRange}
use Rattle.deck.specs.Paths.{Ends}
use Rattle.deck.specs.declared.device.Device.{Device}
use Rattle.deck.specs.declared.role.Roles.{Roles}
use Rattle.port_runs.specs.Periods.{IsClockPort, vdd_port}
use Rattle.sp_network.specs.Tree.{Tree}
use Rattle.sp_reduction.specs.Networks.{Link}
use Rattle.deck_audit.specs.Audits.{Breaks, bridge, front, latch, leaf, loop, output, tree, use_of}
use Rattle.deck_audit.specs.Rules.{HasFront, HasOutput, HasTree}
use Rattle.deck_audit.specs.Words.{IsDynamic}
use Rattle.audit_deck.specs.Broken.{IsKept}
use Rattle.audit_deck.specs.Indexes.{HasEnd}
use Rattle.audit_deck.proofs.Found.{first_end, one_device}

module _ (ds : List Device) (roles : Roles) (nets : ℕ) where
  pub front_break : (r n : ℕ) → Breaks ds roles nets r n → r ≡ 1
      → IsDynamic ds roles n × ((clock out : ℕ) → HasFront ds roles n clock out → ⊥)
  front_break r n (front d away) e = (d, away)
  front_break r n (output clock out d f away) e = absurd (omega (arith, e))
  front_break r n (tree clock out d f away) e = absurd (omega (arith, e))
  front_break r n (latch a away) e = absurd (omega (arith, e))
  front_break r n (use_of a away) e = absurd (omega (arith, e))
  front_break r n (bridge p d at h) e = absurd (omega (arith, e))
  front_break r n (leaf p d x at t away) e = absurd (omega (arith, e))
  front_break r n (loop x d) e = absurd (omega (arith, e))

  pub output_break : (r n : ℕ) → Breaks ds roles nets r n → r ≡ 2
      → (clock : ℕ) × (out : ℕ) × IsDynamic ds roles n × HasFront ds roles n clock out × (HasOutput ds roles n out → ⊥)
  output_break r n (front d away) e = absurd (omega (arith, e))
  output_break r n (output clock out d f away) e = (clock, out, d, f, away)
  output_break r n (tree clock out d f away) e = absurd (omega (arith, e))
  output_break r n (latch a away) e = absurd (omega (arith, e))
  output_break r n (use_of a away) e = absurd (omega (arith, e))
  output_break r n (bridge p d at h) e = absurd (omega (arith, e))
  output_break r n (leaf p d x at t away) e = absurd (omega (arith, e))
  output_break r n (loop x d) e = absurd (omega (arith, e))

  pub tree_break : (r n : ℕ) → Breaks ds roles nets r n → r ≡ 3
      → (clock : ℕ) × (out : ℕ) × IsDynamic ds roles n × HasFront ds roles n clock out × ((bottom : ℕ) (t : Tree Link) → HasTree ds roles n clock bottom t → ⊥)
  tree_break r n (front d away) e = absurd (omega (arith, e))
  tree_break r n (output clock out d f away) e = absurd (omega (arith, e))
  tree_break r n (tree clock out d f away) e = (clock, out, d, f, away)
  tree_break r n (latch a away) e = absurd (omega (arith, e))
  tree_break r n (use_of a away) e = absurd (omega (arith, e))
  tree_break r n (bridge p d at h) e = absurd (omega (arith, e))
  tree_break r n (leaf p d x at t away) e = absurd (omega (arith, e))
  tree_break r n (loop x d) e = absurd (omega (arith, e))

  -- no rule has the number 0
  pub none_break : (r n : ℕ) → Breaks ds roles nets r n → r ≡ 0 → ⊥
  none_break r n (front d away) e = omega (arith, e)
  none_break r n (output clock out d f away) e = omega (arith, e)
  none_break r n (tree clock out d f away) e = omega (arith, e)
  none_break r n (latch a away) e = omega (arith, e)
  none_break r n (use_of a away) e = omega (arith, e)
  none_break r n (bridge p d at h) e = omega (arith, e)
  none_break r n (leaf p d x at t away) e = omega (arith, e)
  none_break r n (loop x d) e = omega (arith, e)

  -- a dynamic net has one clock and one output
  pub one_front : (x c o c' o' : ℕ) → HasFront ds roles x c o → HasFront ds roles x c' o' → (c ≡ c') × (o ≡ o')
  one_front x c o c' o' f g = (
    sym f.precharge_is.1 ∙ ap (λ (d : Device). d.gate) pull ∙ g.precharge_is.1,
    sym f.keeper_is.1 ∙ ap (λ (d : Device). d.gate) hold ∙ g.keeper_is.1,
  )
    where
      pull : f.precharge_device ≡ g.precharge_device
      pull =
          let e = g.one_precharge f.precharge f.precharge_device f.precharge_there (first_end f.precharge_device x vdd_port f.precharge_is.2) f.precharge_is.0 in
          one_device ds g.precharge f.precharge_device g.precharge_device (subst (λ p. slice_get ds p ≡ Some f.precharge_device) e f.precharge_there) g.precharge_there

      hold : f.keeper_device ≡ g.keeper_device
      hold =
          let e = g.one_keeper f.keeper f.keeper_device f.keeper_there (first_end f.keeper_device x vdd_port f.keeper_is.2) f.keeper_is.0 in
          one_device ds g.keeper f.keeper_device g.keeper_device (subst (λ p. slice_get ds p ≡ Some f.keeper_device) e f.keeper_there) g.keeper_there

  -- nothing of rules 1 to 3 is broken
  pub all_kept : IsKept ds roles nets 1 → IsKept ds roles nets 2 → IsKept ds roles nets 3 → (r : ℕ) → r ≤ 3 → IsKept ds roles nets r
  all_kept one two three r low = λ n b. elim (lt_or_ge r 1) [
    | inl y ↦ let z : r ≡ 0 = omega (arith, y) in none_break r n b z
    | inr y ↦ elim (lt_or_ge r 2) [
      | inl z ↦ let e : r ≡ 1 = omega (arith, y, z) in one n (subst (λ k. Breaks ds roles nets k n) e b)
      | inr z ↦ elim (lt_or_ge r 3) [
        | inl v ↦ let e : r ≡ 2 = omega (arith, z, v) in two n (subst (λ k. Breaks ds roles nets k n) e b)
        | inr v ↦ let e : r ≡ 3 = omega (arith, v, low) in three n (subst (λ k. Breaks ds roles nets k n) e b)
      ]
    ]
  ]

  module _ (in_range : (p : ℕ) (d : Device) → slice_get ds p ≡ Some d → IsInRange nets d) where
    pub end_low : (p : ℕ) (d : Device) (n : ℕ) → slice_get ds p ≡ Some d → HasEnd d n → n < nets
    end_low p d n at (inl e) = let r = in_range p d at in omega (arith, r.drain, e)
    end_low p d n at (inr e) = let r = in_range p d at in omega (arith, r.source, e)

    pub dynamic_low : (n : ℕ) → IsDynamic ds roles n → n < nets
    dynamic_low n (free, p, d, at, how) = by how
      where
        by : ((d.kind ≡ Keep) × HasEnd d n) ⊎ ((d.kind ≡ pch) × IsClockPort roles d.gate × Ends d n vdd_port) → n < nets
        by (inl h) = end_low p d n at h.1
        by (inr h) = end_low p d n at (first_end d n vdd_port h.2)

    pub output_low : (x c o : ℕ) → HasFront ds roles x c o → o < nets
    output_low x c o f = let r = in_range f.keeper f.keeper_device f.keeper_there in omega (arith, r.gate, f.keeper_is.1)
