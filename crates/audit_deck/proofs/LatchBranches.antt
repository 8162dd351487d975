-- A branch of a clocked inverter is told by its output where no other device there is like its own; and so is a reset.
use Rattle.std.proofs.Common.{Bool, List, ap, false, refl, subst, sym, true, ℕ, ◌∙◌, ◌≡◌}
use Rattle.dom_base.specs.declared.kind.Kind.{Kind}
use Rattle.deck.specs.Paths.{Ends}
use Rattle.deck.specs.declared.device.Device.{Device}
use Rattle.deck.specs.declared.role.Roles.{Roles}
use Rattle.switch_model.proofs.Searches.{ends_at}
use Rattle.deck_audit.specs.Words.{IsFree, StandsAt}
use Rattle.audit_deck.specs.Latches.{IsBranchAt, IsOnlyBranch, IsOnlyReset, IsResetAt, IsResetDevice}
use Rattle.audit_deck.specs.declared.branches.Branch.{Branch}
use Rattle.audit_deck.specs.declared.branches.Reset.{Reset}
use Rattle.audit_deck.proofs.Found.{one_device}
use Rattle.audit_deck.proofs.Reaches.{ends_one}

module _ (ds : List Device) where
  -- devices at one place
  pub same_at : (p q : ℕ) (d e : Device) → p ≡ q → StandsAt ds p d → StandsAt ds q e → d ≡ e
  same_at p q d e z at there = one_device ds q d e (subst (λ r. StandsAt ds r d) z at) there

  module _ (roles : Roles) (n : ℕ) where
    pub one_branch : (kind : Kind) (clock supply : ℕ) (a b : Branch) → IsBranchAt ds roles n kind clock supply a
        → IsOnlyBranch ds roles n kind clock supply b → a ≡ b
    one_branch kind clock supply a b x y =
        let z = y.branch in
        let c : a.clocked ≡ b.clocked = y.one_clocked a.clocked x.clocked x.clocked_there (ends_at x.clocked n a.inner x.clocked_is.2) x.clocked_is.0 x.clocked_is.1 in
        let same : x.clocked ≡ z.clocked = same_at a.clocked b.clocked x.clocked z.clocked c x.clocked_there z.clocked_there in
        let i : a.inner ≡ b.inner = ends_one z.clocked n a.inner b.inner (subst (λ d. Ends d n a.inner) same x.clocked_is.2) z.clocked_is.2 in
        let ends : Ends x.fed b.inner supply = subst (λ m. Ends x.fed m supply) i x.fed_is.2 in
        let f : a.fed ≡ b.fed = y.one_fed a.fed x.fed x.fed_there (ends_at x.fed b.inner supply ends) x.fed_is.0 (subst (IsFree roles) (sym x.fed_is.1) x.input_free) in
        let last : x.fed ≡ z.fed = same_at a.fed b.fed x.fed z.fed f x.fed_there z.fed_there in
        let g : a.input ≡ b.input = sym x.fed_is.1 ∙ ap (λ (d : Device). d.gate) last ∙ z.fed_is.1 in
        (λ j. record { inner = i j; input = g j; clocked = c j; fed = f j })

    pub one_reset : (a b : Reset) → IsResetAt ds roles n a → IsOnlyReset ds roles n b → a ≡ b
    one_reset a b x y = by a.start refl x.2
      where
        joined : (a.place ≡ b.place) × (b.start ≡ a.start) → a ≡ b
        joined z = (λ j. record { place = z.0 j; start = sym z.1 j })

        by : (v : Bool) → a.start ≡ v → IsResetDevice roles n v x.0 → a ≡ b
        by false e h = let z = y.one_low a.place x.0 x.1 (ends_at x.0 n _ h.2) h.0 h.1 in joined (z.0, z.1 ∙ sym e)
        by true e h = let z = y.one_high a.place x.0 x.1 (ends_at x.0 n _ h.2) h.0 h.1 in joined (z.0, z.1 ∙ sym e)
