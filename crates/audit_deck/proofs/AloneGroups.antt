-- A latch that keeps rule 4: no other branch and no other reset are at its nets, and no other group has one of them.
use Rattle.std.specs.List.{AllByRecursion}
use Rattle.std.specs.Prelude.{Bool, Contains, Some, false, slice_get, true}
use Rattle.std.proofs.Common.{List, [], ap, arith, refl, subst, sym, ℕ, ◌+◌, ◌∙◌, ◌∷◌, ◌≡◌}
use Rattle.std.proofs.lemmas.Option.{same_Some}
use Rattle.dom_base.proofs.Lists.{Contains-slice_get}
use Rattle.dom_base.specs.declared.kind.Kind.{Kind}
use Rattle.dom_base.specs.declared.kind.Kind.TheVariants.{N as nch, P as pch}
use Rattle.deck.specs.PortLayout.{master_pair, reset_pair, slave_pair}
use Rattle.deck.specs.declared.device.Device.{Device}
use Rattle.deck.specs.declared.role.Roles.{Roles}
use Rattle.switch_model.specs.Laws.{EndsAt}
use Rattle.circuit_law.specs.Counts.{Distinct}
use Rattle.port_runs.specs.Periods.{vdd_port, vss_port}
use Rattle.deck_audit.specs.Words.{AreAt, Group, IsFree, StandsAt, group_cards, own_nets, reset_of}
use Rattle.deck_audit.proofs.RuleFacts.{not_p_n}
use Rattle.audit_deck.specs.Groups.{IsAlone}
use Rattle.audit_deck.specs.Latches.{AreParts, HasFew, IsBranchAt, IsOnlyBranch, IsOnlyReset, IsResetDevice}
use Rattle.audit_deck.specs.declared.branches.Branch.{Branch}
use Rattle.audit_deck.specs.declared.latches.LatchParts.{LatchParts}
use Rattle.audit_deck.proofs.GroupCards.{ByGate, FedAt, NoneBut, Twins, at_lm, at_lmb, at_ls, at_lsb, at_master_high, at_rs, at_rsb, even_fed, even_gate, fed_master_down, fed_master_up, fed_output_down, fed_output_up, known, twin_device}
use Rattle.audit_deck.proofs.LatchBranches.{one_branch, one_reset, same_at}

-- the places of nine devices
pub record Nine : Type 0 where
  pub a : ℕ
  pub b : ℕ
  pub c : ℕ
  pub d : ℕ
  pub e : ℕ
  pub f : ℕ
  pub g : ℕ
  pub h : ℕ
  pub r : ℕ

abbrev pub listed_nine : Nine → List ℕ
listed_nine n = n.a ∷ n.b ∷ n.c ∷ n.d ∷ n.e ∷ n.f ∷ n.g ∷ n.h ∷ n.r ∷ []

pub nine_of : (ds : List Device) (roles : Roles) (g : Group) (ps : List ℕ) → AreAt ds ps (group_cards roles g) → (n : Nine) × (ps ≡ listed_nine n)
nine_of ds roles g [] x = absurd x
nine_of ds roles g (a ∷ []) x = absurd x.1
nine_of ds roles g (a ∷ b ∷ []) x = absurd x.1.1
nine_of ds roles g (a ∷ b ∷ c ∷ []) x = absurd x.1.1.1
nine_of ds roles g (a ∷ b ∷ c ∷ d ∷ []) x = absurd x.1.1.1.1
nine_of ds roles g (a ∷ b ∷ c ∷ d ∷ e ∷ []) x = absurd x.1.1.1.1.1
nine_of ds roles g (a ∷ b ∷ c ∷ d ∷ e ∷ f ∷ []) x = absurd x.1.1.1.1.1.1
nine_of ds roles g (a ∷ b ∷ c ∷ d ∷ e ∷ f ∷ h ∷ []) x = absurd x.1.1.1.1.1.1.1
nine_of ds roles g (a ∷ b ∷ c ∷ d ∷ e ∷ f ∷ h ∷ i ∷ []) x = absurd x.1.1.1.1.1.1.1.1
nine_of ds roles g (a ∷ b ∷ c ∷ d ∷ e ∷ f ∷ h ∷ i ∷ r ∷ []) x = (record { a = a; b = b; c = c; d = d; e = e; f = f; g = h; h = i; r = r }, refl)
nine_of ds roles g (a ∷ b ∷ c ∷ d ∷ e ∷ f ∷ h ∷ i ∷ r ∷ s ∷ ps) x = absurd x.1.1.1.1.1.1.1.1.1

-- the parts that a group has
abbrev pub parts_of : Group → Nine → LatchParts
parts_of g n = record {
  output_up = record { inner = g.output_up; input = g.master; clocked = n.e; fed = n.f };
  output_down = record { inner = g.output_down; input = g.master; clocked = n.g; fed = n.h };
  master_up = record { inner = g.master_up; input = g.data_net; clocked = n.a; fed = n.b };
  master_down = record { inner = g.master_down; input = g.data_net; clocked = n.c; fed = n.d };
  reset = record { place = n.r; start = g.start };
}

module _ (ds : List Device) (roles : Roles) (g : Group) (n : Nine) (cards : AreAt ds (listed_nine n) (group_cards roles g)) (free : AllByRecursion (IsFree roles) (g.data_net ∷ own_nets g)) where
  reset_device : (v : Bool) (d : Device) → Twins d (reset_of roles g v) → IsResetDevice roles g.output v d
  reset_device false d t = twin_device d (reset_of roles g false) t
  reset_device true d t = twin_device d (reset_of roles g true) t

  pub group_parts : AreParts ds roles g.output (parts_of g n)
  group_parts =
      let a = cards.0 in
      let b = cards.1.0 in
      let c = cards.1.1.0 in
      let d = cards.1.1.1.0 in
      let e = cards.1.1.1.1.0 in
      let f = cards.1.1.1.1.1.0 in
      let h = cards.1.1.1.1.1.1.0 in
      let i = cards.1.1.1.1.1.1.1.0 in
      let r = cards.1.1.1.1.1.1.1.1.0 in
      record {
        output_up = record { clocked = e.0; clocked_there = e.1; clocked_is = twin_device e.0 _ e.2; fed = f.0; fed_there = f.1; fed_is = twin_device f.0 _ f.2; input_free = free.1.0 };
        output_down = record { clocked = h.0; clocked_there = h.1; clocked_is = twin_device h.0 _ h.2; fed = i.0; fed_there = i.1; fed_is = twin_device i.0 _ i.2; input_free = free.1.0 };
        output_input = refl;
        master_up = record { clocked = a.0; clocked_there = a.1; clocked_is = twin_device a.0 _ a.2; fed = b.0; fed_there = b.1; fed_is = twin_device b.0 _ b.2; input_free = free.0 };
        master_down = record { clocked = c.0; clocked_there = c.1; clocked_is = twin_device c.0 _ c.2; fed = d.0; fed_there = d.1; fed_is = twin_device d.0 _ d.2; input_free = free.0 };
        master_input = refl;
        reset = (r.0, r.1, reset_device g.start r.0 r.2);
      }

-- of a group that keeps rule 4
module _ (ds : List Device) (roles : Roles) (g : Group) (n : Nine) (k : IsAlone ds roles g (listed_nine n)) where
  abbrev places : List ℕ
  places = listed_nine n

  cards : AreAt ds (listed_nine n) (group_cards roles g)
  cards = (k.is_group).cards

  free : AllByRecursion (IsFree roles) (g.data_net ∷ own_nets g)
  free = (k.is_group).free

  differ : Distinct (g.data_net ∷ own_nets g)
  differ = (k.is_group).differ

  pub parts : AreParts ds roles g.output (parts_of g n)
  parts = group_parts ds roles g n cards free

  own : (i m : ℕ) → slice_get (own_nets g) i ≡ Some m → Contains (own_nets g) m
  own i m e = Contains-slice_get (own_nets g) i m e

  pub few : (m : ℕ) → Contains (own_nets g) m → HasFew ds m
  few m c = (listed_nine n, omega (arith), λ p d at t. k.alone p d m at c t)

  by_gate : (kind : Kind) (gate j : ℕ) → NoneBut (ByGate kind gate) j (group_cards roles g) → (p : ℕ) (d : Device) → Contains (listed_nine n) p → StandsAt ds p d
      → d.kind ≡ kind → d.gate ≡ gate → slice_get (listed_nine n) j ≡ Some p
  by_gate kind gate j none p d c at x y =
      known ds (listed_nine n) (group_cards roles g) cards (ByGate kind gate) (even_gate kind gate) j none p d c at (x, y)

  -- the place of a device by its kind and its gate
  pub lmb_place : (p : ℕ) (d : Device) → Contains (listed_nine n) p → StandsAt ds p d → d.kind ≡ pch → d.gate ≡ master_pair roles + 1 → p ≡ n.a
  lmb_place p d c at x y = sym (same_Some _ _ (by_gate pch (master_pair roles + 1) 0 (at_lmb roles g free differ) p d c at x y))

  pub lm_place : (p : ℕ) (d : Device) → Contains (listed_nine n) p → StandsAt ds p d → d.kind ≡ nch → d.gate ≡ master_pair roles → p ≡ n.c
  lm_place p d c at x y = sym (same_Some _ _ (by_gate nch (master_pair roles) 2 (at_lm roles g free differ) p d c at x y))

  pub lsb_place : (p : ℕ) (d : Device) → Contains (listed_nine n) p → StandsAt ds p d → d.kind ≡ pch → d.gate ≡ slave_pair roles + 1 → p ≡ n.e
  lsb_place p d c at x y = sym (same_Some _ _ (by_gate pch (slave_pair roles + 1) 4 (at_lsb roles g free differ) p d c at x y))

  pub ls_place : (p : ℕ) (d : Device) → Contains (listed_nine n) p → StandsAt ds p d → d.kind ≡ nch → d.gate ≡ slave_pair roles → p ≡ n.g
  ls_place p d c at x y = sym (same_Some _ _ (by_gate nch (slave_pair roles) 6 (at_ls roles g free differ) p d c at x y))

  pub high_place : (p : ℕ) (d : Device) → Contains (listed_nine n) p → StandsAt ds p d → d.kind ≡ pch → d.gate ≡ g.master → p ≡ n.f
  high_place p d c at x y = sym (same_Some _ _ (by_gate pch g.master 5 (at_master_high roles g free differ) p d c at x y))

  fed_place : (kind : Kind) (m j : ℕ) → NoneBut (FedAt roles kind m) j (group_cards roles g) → Contains (own_nets g) m → (p : ℕ) (d : Device) → StandsAt ds p d
      → EndsAt d m → d.kind ≡ kind → IsFree roles d.gate → slice_get (listed_nine n) j ≡ Some p
  fed_place kind m j none c p d at t x y =
      known ds (listed_nine n) (group_cards roles g) cards (FedAt roles kind m) (even_fed roles kind m) j none p d (k.alone p d m at c t) at (x, y, t)

  pub only_output_up : IsOnlyBranch ds roles g.output pch (slave_pair roles + 1) vdd_port (parts_of g n).output_up
  only_output_up = record {
    branch = parts.output_up;
    few = few g.output_up (own 4 g.output_up refl);
    one_clocked = λ p d at t x y. lsb_place p d (k.alone p d g.output at (own 1 g.output refl) t) at x y;
    one_fed = λ p d at t x y. sym (same_Some _ _ (fed_place pch g.output_up 5 (fed_output_up roles g free differ) (own 4 g.output_up refl) p d at t x y));
  }

  pub only_output_down : IsOnlyBranch ds roles g.output nch (slave_pair roles) vss_port (parts_of g n).output_down
  only_output_down = record {
    branch = parts.output_down;
    few = few g.output_down (own 5 g.output_down refl);
    one_clocked = λ p d at t x y. ls_place p d (k.alone p d g.output at (own 1 g.output refl) t) at x y;
    one_fed = λ p d at t x y. sym (same_Some _ _ (fed_place nch g.output_down 7 (fed_output_down roles g free differ) (own 5 g.output_down refl) p d at t x y));
  }

  pub only_master_up : IsOnlyBranch ds roles g.master pch (master_pair roles + 1) vdd_port (parts_of g n).master_up
  only_master_up = record {
    branch = parts.master_up;
    few = few g.master_up (own 2 g.master_up refl);
    one_clocked = λ p d at t x y. lmb_place p d (k.alone p d g.master at (own 0 g.master refl) t) at x y;
    one_fed = λ p d at t x y. sym (same_Some _ _ (fed_place pch g.master_up 1 (fed_master_up roles g free differ) (own 2 g.master_up refl) p d at t x y));
  }

  pub only_master_down : IsOnlyBranch ds roles g.master nch (master_pair roles) vss_port (parts_of g n).master_down
  only_master_down = record {
    branch = parts.master_down;
    few = few g.master_down (own 3 g.master_down refl);
    one_clocked = λ p d at t x y. lm_place p d (k.alone p d g.master at (own 0 g.master refl) t) at x y;
    one_fed = λ p d at t x y. sym (same_Some _ _ (fed_place nch g.master_down 3 (fed_master_down roles g free differ) (own 3 g.master_down refl) p d at t x y));
  }

  start_low : (v : Bool) → (reset_of roles g v).kind ≡ nch → v ≡ false
  start_low false e = refl
  start_low true e = absurd (not_p_n e)

  start_high : (v : Bool) → (reset_of roles g v).kind ≡ pch → v ≡ true
  start_high false e = absurd (not_p_n (sym e))
  start_high true e = refl

  reset_kind : (p : ℕ) (d : Device) → StandsAt ds p d → p ≡ n.r → d.kind ≡ (reset_of roles g g.start).kind
  reset_kind p d at e =
      let r = cards.1.1.1.1.1.1.1.1.0 in
      ap (λ (x : Device). x.kind) (same_at ds p n.r d r.0 e at r.1) ∙ (twin_device r.0 (reset_of roles g g.start) r.2).0

  pub only_reset : IsOnlyReset ds roles g.output (parts_of g n).reset
  only_reset = record {
    reset = parts.reset;
    one_low = λ p d at t x y.
        let e : p ≡ n.r = sym (same_Some _ _ (by_gate nch (reset_pair roles) 8 (at_rs roles g free differ) p d (k.alone p d g.output at (own 1 g.output refl) t) at x y)) in
        (e, start_low g.start (sym (reset_kind p d at e) ∙ x));
    one_high = λ p d at t x y.
        let e : p ≡ n.r = sym (same_Some _ _ (by_gate pch (reset_pair roles + 1) 8 (at_rsb roles g free differ) p d (k.alone p d g.output at (own 1 g.output refl) t) at x y)) in
        (e, start_high g.start (sym (reset_kind p d at e) ∙ x));
  }

  -- parts with this output are those
  pub same_parts : (l : LatchParts) → AreParts ds roles g.output l → l ≡ parts_of g n
  same_parts l h =
      let up : l.output_up ≡ (parts_of g n).output_up = one_branch ds roles g.output pch (slave_pair roles + 1) vdd_port l.output_up _ h.output_up only_output_up in
      let down : l.output_down ≡ (parts_of g n).output_down = one_branch ds roles g.output nch (slave_pair roles) vss_port l.output_down _ h.output_down only_output_down in
      let m : l.output_up.input ≡ g.master = ap (λ (b : Branch). b.input) up in
      let first_up : l.master_up ≡ (parts_of g n).master_up = one_branch ds roles g.master pch (master_pair roles + 1) vdd_port l.master_up _ (subst (λ x. IsBranchAt ds roles x pch (master_pair roles + 1) vdd_port l.master_up) m h.master_up) only_master_up in
      let first_down : l.master_down ≡ (parts_of g n).master_down = one_branch ds roles g.master nch (master_pair roles) vss_port l.master_down _ (subst (λ x. IsBranchAt ds roles x nch (master_pair roles) vss_port l.master_down) m h.master_down) only_master_down in
      let reset : l.reset ≡ (parts_of g n).reset = one_reset ds roles g.output l.reset _ h.reset only_reset in
      (λ i. record { output_up = up i; output_down = down i; master_up = first_up i; master_down = first_down i; reset = reset i })
