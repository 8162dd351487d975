-- What the first device with a kind and a gate makes of a branch and of a reset.
use Rattle.std.specs.Prelude.{None, Option, Some}
use Rattle.std.proofs.Common.{Bool, List, arith, false, length, subst, sym, true, ℕ, ◌+◌, ◌<◌, ◌≡◌, ◌≤◌}
use Rattle.std.proofs.lemmas.Option.{slice_get_within}
use Rattle.dom_base.specs.declared.kind.Kind.{Kind}
use Rattle.dom_base.specs.declared.kind.Kind.TheVariants.{N as nch, P as pch}
use Rattle.deck.specs.Paths.{Ends}
use Rattle.deck.specs.PortLayout.{reset_pair}
use Rattle.deck.specs.declared.device.Device.{Device}
use Rattle.deck.specs.declared.role.Roles.{Roles}
use Rattle.switch_model.proofs.Searches.{ends_at}
use Rattle.switch_model.specs.Laws.{EndsAt}
use Rattle.port_runs.specs.Periods.{vdd_port, vss_port}
use Rattle.deck_audit.specs.Words.{IsFree, StandsAt}
use Rattle.audit_deck.specs.Indexes.{AreThose, EndingAt}
use Rattle.audit_deck.specs.Latches.{HasFew, IsOnlyBranch, IsOnlyReset, IsResetDevice, Suits, SuitsAt}
use Rattle.audit_deck.specs.declared.branches.Branch.{Branch}
use Rattle.audit_deck.specs.declared.branches.Reset.{Reset}
use Rattle.audit_deck.proofs.LatchBranches.{same_at}
use Rattle.audit_deck.proofs.Reaches.{ends_one}
use Rattle.audit_deck.proofs.Scans.{NoneBefore}

module _ (ds : List Device) (roles : Roles) where
  pub none_picked : (n : ℕ) (kind : Kind) (wanted : Option ℕ) (l : List ℕ) → AreThose (EndingAt ds n) l → (i : ℕ) → length l ≤ i
      → NoneBefore (Suits ds roles kind wanted) l i → (p : ℕ) → SuitsAt ds roles n kind wanted p → ⊥
  none_picked n kind wanted l are i done none p h =
      let y = are.full p (h.0, h.1, h.2) in
      none y.0 p (let z = slice_get_within l y.0 p y.1 in omega (arith, z, done)) y.1 (h.0, h.1, h.3, h.4)

  pub pick_within : (n : ℕ) (kind : Kind) (wanted : Option ℕ) (p : ℕ) → SuitsAt ds roles n kind wanted p → p < length ds
  pick_within n kind wanted p h = slice_get_within ds p h.0 h.1

  module _ (n : ℕ) (kind : Kind) (clock supply : ℕ) where
    -- where the branch is the only one
    module _ (b : Branch) (one : IsOnlyBranch ds roles n kind clock supply b) where
      pub clocked_suits : SuitsAt ds roles n kind (Some clock) b.clocked
      clocked_suits =
          let x = one.branch in (x.clocked, x.clocked_there, ends_at x.clocked n b.inner x.clocked_is.2, x.clocked_is.0, x.clocked_is.1)

      pub inner_same : (p inner : ℕ) (first : Device) → SuitsAt ds roles n kind (Some clock) p → StandsAt ds p first → Ends first n inner → b.inner ≡ inner
      inner_same p inner first h at ends =
          let x = one.branch in
          let e : p ≡ b.clocked = one.one_clocked p h.0 h.1 h.2 h.3 h.4 in
          let s : first ≡ x.clocked = same_at ds p b.clocked first x.clocked e at x.clocked_there in
          ends_one x.clocked n b.inner inner x.clocked_is.2 (subst (λ d. Ends d n inner) s ends)

      pub inner_few : (inner : ℕ) → b.inner ≡ inner → HasFew ds inner
      inner_few inner e = subst (HasFew ds) e one.few

      pub fed_suits : (inner : ℕ) → b.inner ≡ inner → SuitsAt ds roles inner kind None b.fed
      fed_suits inner e =
          let x = one.branch in
          subst (λ m. SuitsAt ds roles m kind None b.fed) e
          (x.fed, x.fed_there, ends_at x.fed b.inner supply x.fed_is.2, x.fed_is.0, subst (IsFree roles) (sym x.fed_is.1) x.input_free)

      pub fed_joins : (inner p : ℕ) (last : Device) → b.inner ≡ inner → SuitsAt ds roles inner kind None p → StandsAt ds p last → Ends last inner supply
      fed_joins inner p last e h at =
          let x = one.branch in
          let f : p ≡ b.fed = one.one_fed p h.0 h.1 (subst (EndsAt h.0) (sym e) h.2) h.3 h.4 in
          let s : x.fed ≡ last = same_at ds b.fed p x.fed last (sym f) x.fed_there at in
          subst (λ d. Ends d inner supply) s (subst (λ m. Ends x.fed m supply) e x.fed_is.2)

  -- one of the two resets is there
  pub reset_suits : (n : ℕ) (r : Reset) → IsOnlyReset ds roles n r → ((p : ℕ) → SuitsAt ds roles n nch (Some (reset_pair roles)) p → ⊥)
      → SuitsAt ds roles n pch (Some (reset_pair roles + 1)) r.place
  reset_suits n r one none = by r.start one.reset.2
    where
      by : (v : Bool) → IsResetDevice roles n v one.reset.0 → SuitsAt ds roles n pch (Some (reset_pair roles + 1)) r.place
      by false i = absurd (none r.place (one.reset.0, one.reset.1, ends_at one.reset.0 n vss_port i.2, i.0, i.1))
      by true i = (one.reset.0, one.reset.1, ends_at one.reset.0 n vdd_port i.2, i.0, i.1)
