-- The nine cards of a latch by kind and gate: each of its places has one.
use Rattle.std.specs.List.{AllByRecursion}
use Rattle.std.specs.Prelude.{Bool, Contains, Some, false, slice_get, true, ◌⊎◌}
use Rattle.std.proofs.Common.{List, [], ap, arith, inl, inr, refl, subst, suc, sym, zero, ℕ, ◌+◌, ◌∙◌, ◌∷◌, ◌≡◌}
use Rattle.std.proofs.lemmas.Option.{same_Some}
use Rattle.dom_base.proofs.Lists.{AllByRecursion-contains, Contains-slice_get, slice_get-contained}
use Rattle.dom_base.specs.declared.kind.Kind.{Kind}
use Rattle.dom_base.specs.declared.kind.Kind.TheVariants.{N as nch, P as pch}
use Rattle.deck.specs.PortLayout.{master_pair, reset_pair, slave_pair}
use Rattle.deck.specs.declared.device.Device.{Device}
use Rattle.deck.specs.declared.role.Roles.{Roles}
use Rattle.switch_model.specs.Laws.{EndsAt}
use Rattle.circuit_law.specs.Counts.{Distinct}
use Rattle.circuit_law.specs.Exchanged.{exchange}
use Rattle.deck_audit.specs.Words.{AreAt, Group, IsDevice, IsFree, StandsAt, group_cards, own_nets, reset_of}
use Rattle.deck_audit.proofs.RuleFacts.{not_p_n, twin_ends, twin_gate, twin_kind}
use Rattle.audit_deck.proofs.Found.{one_device}

-- as it is or exchanged
abbrev pub Twins : Device → Device → Type 0
Twins d e = (d ≡ e) ⊎ (d ≡ exchange e)

-- none but the one at the index has the property
abbrev pub NoneBut : (Device → Type 0) → ℕ → List Device → Type 0
NoneBut C j [] = Unit {0}
NoneBut C zero (e ∷ es) = AllByRecursion (λ f. C f → ⊥) es
NoneBut C (suc j) (e ∷ es) = (C e → ⊥) × NoneBut C j es

pub only_index : (C : Device → Type 0) (j : ℕ) (es : List Device) → NoneBut C j es → (i : ℕ) (e : Device) → slice_get es i ≡ Some e → C e → i ≡ j
only_index C j [] h i e at c = absurd (cc)
only_index C zero (f ∷ es) h zero e at c = refl
only_index C zero (f ∷ es) h (suc i) e at c = absurd (AllByRecursion-contains (λ f. C f → ⊥) es e h (Contains-slice_get es i e at) c)
only_index C (suc j) (f ∷ es) h zero e at c = absurd (h.0 (subst C (sym (same_Some _ _ at)) c))
only_index C (suc j) (f ∷ es) h (suc i) e at c = ap (λ n. suc n) (only_index C j es h.1 i e at c)

-- the card of a place
pub card_at : (ds : List Device) (ps : List ℕ) (es : List Device) → AreAt ds ps es → (i p : ℕ) → slice_get ps i ≡ Some p
    → (d : Device) → StandsAt ds p d → (e : Device) × (slice_get es i ≡ Some e) × Twins d e
card_at ds [] [] h i p at d there = absurd (cc)
card_at ds [] (e ∷ es) h i p at d there = absurd h
card_at ds (q ∷ ps) [] h i p at d there = absurd h
card_at ds (q ∷ ps) (e ∷ es) h zero p at d there =
    let same : d ≡ h.0.0 = one_device ds q d h.0.0 (subst (λ r. StandsAt ds r d) (sym (same_Some _ _ at)) there) h.0.1 in
    (e, refl, subst (λ x. Twins x e) (sym same) h.0.2)
card_at ds (q ∷ ps) (e ∷ es) h (suc i) p at d there = card_at ds ps es h.1 i p at d there

-- a property of devices that doesn't tell drain from source
abbrev pub IsEven : (Device → Type 0) → Type 0
IsEven C = (d e : Device) → Twins d e → C d → C e

-- the device of a latch that alone has a property stands at that card's place
pub known : (ds : List Device) (ps : List ℕ) (es : List Device) → AreAt ds ps es → (C : Device → Type 0) → IsEven C → (j : ℕ) → NoneBut C j es
    → (p : ℕ) (d : Device) → Contains ps p → StandsAt ds p d → C d → slice_get ps j ≡ Some p
known ds ps es h C even j none p d c at has =
    let i = slice_get-contained ps p c in
    let e = card_at ds ps es h i.0 p i.1 d at in
    subst (λ n. slice_get ps n ≡ Some p) (only_index C j es none i.0 e.0 e.1 (even d e.0 e.2 has)) i.1

abbrev pub ByGate : Kind → ℕ → Device → Type 0
ByGate kind gate e = (e.kind ≡ kind) × (e.gate ≡ gate)

abbrev pub FedAt : Roles → Kind → ℕ → Device → Type 0
FedAt roles kind n e = (e.kind ≡ kind) × IsFree roles e.gate × EndsAt e n

pub even_gate : (kind : Kind) (gate : ℕ) → IsEven (ByGate kind gate)
even_gate kind gate d e t h = (sym (twin_kind d e t) ∙ h.0, sym (twin_gate d e t) ∙ h.1)

ends_move : (d e : Device) (n : ℕ) → Twins d e → EndsAt d n → EndsAt e n
ends_move d e n (inl z) t = subst (λ x. EndsAt x n) z t
ends_move d e n (inr z) (inl y) = inr (sym (ap (λ (x : Device). x.drain) z) ∙ y)
ends_move d e n (inr z) (inr y) = inl (sym (ap (λ (x : Device). x.source) z) ∙ y)

pub even_fed : (roles : Roles) (kind : Kind) (n : ℕ) → IsEven (FedAt roles kind n)
even_fed roles kind n d e t h =
    (sym (twin_kind d e t) ∙ h.0, subst (IsFree roles) (twin_gate d e t) h.1, ends_move d e n t h.2)

-- a device like a card
pub twin_device : (d e : Device) → Twins d e → IsDevice d e.kind e.gate e.drain e.source
twin_device d e t = (twin_kind d e t, twin_gate d e t, twin_ends d e t)

no_end : (a s n : ℕ) → (a ≡ n → ⊥) → (s ≡ n → ⊥) → (a ≡ n) ⊎ (s ≡ n) → ⊥
no_end a s n f g (inl e) = f e
no_end a s n f g (inr e) = g e

no_reset : (roles : Roles) (g : Group) (C : Device → Type 0) → (C (reset_of roles g false) → ⊥) → (C (reset_of roles g true) → ⊥)
    → C (reset_of roles g g.start) → ⊥
no_reset roles g C low high = by g.start
  where
    by : (b : Bool) → C (reset_of roles g b) → ⊥
    by false = low
    by true = high

module _ (roles : Roles) (g : Group) (free : AllByRecursion (IsFree roles) (g.data_net ∷ own_nets g)) (differ : Distinct (g.data_net ∷ own_nets g)) where
  pub at_lmb : NoneBut (ByGate pch (master_pair roles + 1)) 0 (group_cards roles g)
  at_lmb = ((λ c. omega (arith, c.1, free.0)), ((λ c. not_p_n (sym c.0)), ((λ c. not_p_n (sym c.0)), ((λ c. omega (arith, c.1)), ((λ c. omega (arith, c.1, free.1.0)), ((λ c. not_p_n (sym c.0)), ((λ c. not_p_n (sym c.0)), ((no_reset roles g (ByGate pch (master_pair roles + 1)) (λ c. not_p_n (sym c.0)) (λ c. omega (arith, c.1))), tt))))))))

  pub at_data_high : NoneBut (ByGate pch (g.data_net)) 1 (group_cards roles g)
  at_data_high = ((λ c. omega (arith, c.1, free.0)), ((λ c. not_p_n (sym c.0)), ((λ c. not_p_n (sym c.0)), ((λ c. omega (arith, c.1, free.0)), ((λ c. differ.0.0 c.1), ((λ c. not_p_n (sym c.0)), ((λ c. not_p_n (sym c.0)), ((no_reset roles g (ByGate pch (g.data_net)) (λ c. not_p_n (sym c.0)) (λ c. omega (arith, c.1, free.0))), tt))))))))

  pub at_lm : NoneBut (ByGate nch (master_pair roles)) 2 (group_cards roles g)
  at_lm = ((λ c. not_p_n c.0), ((λ c. not_p_n c.0), ((λ c. omega (arith, c.1, free.0)), ((λ c. not_p_n c.0), ((λ c. not_p_n c.0), ((λ c. omega (arith, c.1)), ((λ c. omega (arith, c.1, free.1.0)), ((no_reset roles g (ByGate nch (master_pair roles)) (λ c. omega (arith, c.1)) (λ c. not_p_n c.0)), tt))))))))

  pub at_data_low : NoneBut (ByGate nch (g.data_net)) 3 (group_cards roles g)
  at_data_low = ((λ c. not_p_n c.0), ((λ c. not_p_n c.0), ((λ c. omega (arith, c.1, free.0)), ((λ c. not_p_n c.0), ((λ c. not_p_n c.0), ((λ c. omega (arith, c.1, free.0)), ((λ c. differ.0.0 c.1), ((no_reset roles g (ByGate nch (g.data_net)) (λ c. omega (arith, c.1, free.0)) (λ c. not_p_n c.0)), tt))))))))

  pub at_lsb : NoneBut (ByGate pch (slave_pair roles + 1)) 4 (group_cards roles g)
  at_lsb = ((λ c. omega (arith, c.1)), ((λ c. omega (arith, c.1, free.0)), ((λ c. not_p_n (sym c.0)), ((λ c. not_p_n (sym c.0)), ((λ c. omega (arith, c.1, free.1.0)), ((λ c. not_p_n (sym c.0)), ((λ c. not_p_n (sym c.0)), ((no_reset roles g (ByGate pch (slave_pair roles + 1)) (λ c. not_p_n (sym c.0)) (λ c. omega (arith, c.1))), tt))))))))

  pub at_master_high : NoneBut (ByGate pch (g.master)) 5 (group_cards roles g)
  at_master_high = ((λ c. omega (arith, c.1, free.1.0)), ((λ c. differ.0.0 (sym c.1)), ((λ c. not_p_n (sym c.0)), ((λ c. not_p_n (sym c.0)), ((λ c. omega (arith, c.1, free.1.0)), ((λ c. not_p_n (sym c.0)), ((λ c. not_p_n (sym c.0)), ((no_reset roles g (ByGate pch (g.master)) (λ c. not_p_n (sym c.0)) (λ c. omega (arith, c.1, free.1.0))), tt))))))))

  pub at_ls : NoneBut (ByGate nch (slave_pair roles)) 6 (group_cards roles g)
  at_ls = ((λ c. not_p_n c.0), ((λ c. not_p_n c.0), ((λ c. omega (arith, c.1)), ((λ c. omega (arith, c.1, free.0)), ((λ c. not_p_n c.0), ((λ c. not_p_n c.0), ((λ c. omega (arith, c.1, free.1.0)), ((no_reset roles g (ByGate nch (slave_pair roles)) (λ c. omega (arith, c.1)) (λ c. not_p_n c.0)), tt))))))))

  pub at_master_low : NoneBut (ByGate nch (g.master)) 7 (group_cards roles g)
  at_master_low = ((λ c. not_p_n c.0), ((λ c. not_p_n c.0), ((λ c. omega (arith, c.1, free.1.0)), ((λ c. differ.0.0 (sym c.1)), ((λ c. not_p_n c.0), ((λ c. not_p_n c.0), ((λ c. omega (arith, c.1, free.1.0)), ((no_reset roles g (ByGate nch (g.master)) (λ c. omega (arith, c.1, free.1.0)) (λ c. not_p_n c.0)), tt))))))))

  pub at_rs : NoneBut (ByGate nch (reset_pair roles)) 8 (group_cards roles g)
  at_rs = ((λ c. not_p_n c.0), ((λ c. not_p_n c.0), ((λ c. omega (arith, c.1)), ((λ c. omega (arith, c.1, free.0)), ((λ c. not_p_n c.0), ((λ c. not_p_n c.0), ((λ c. omega (arith, c.1)), ((λ c. omega (arith, c.1, free.1.0)), tt))))))))

  pub at_rsb : NoneBut (ByGate pch (reset_pair roles + 1)) 8 (group_cards roles g)
  at_rsb = ((λ c. omega (arith, c.1)), ((λ c. omega (arith, c.1, free.0)), ((λ c. not_p_n (sym c.0)), ((λ c. not_p_n (sym c.0)), ((λ c. omega (arith, c.1)), ((λ c. omega (arith, c.1, free.1.0)), ((λ c. not_p_n (sym c.0)), ((λ c. not_p_n (sym c.0)), tt))))))))

  pub fed_master_up : NoneBut (FedAt roles pch g.master_up) 1 (group_cards roles g)
  fed_master_up = ((λ c. omega (arith, c.1)), ((λ c. not_p_n (sym c.0)), ((λ c. not_p_n (sym c.0)), ((λ c. omega (arith, c.1)), ((λ c. no_end _ _ _ differ.1.1.1.0.1.0 (λ e. omega (arith, e, free.1.1.1.0)) c.2), ((λ c. not_p_n (sym c.0)), ((λ c. not_p_n (sym c.0)), ((no_reset roles g (FedAt roles pch g.master_up) (λ c. not_p_n (sym c.0)) (λ c. omega (arith, c.1))), tt))))))))

  pub fed_master_down : NoneBut (FedAt roles nch g.master_down) 3 (group_cards roles g)
  fed_master_down = ((λ c. not_p_n c.0), ((λ c. not_p_n c.0), ((λ c. omega (arith, c.1)), ((λ c. not_p_n c.0), ((λ c. not_p_n c.0), ((λ c. omega (arith, c.1)), ((λ c. no_end _ _ _ differ.1.1.1.1.0.1.0 (λ e. omega (arith, e, free.1.1.1.1.0)) c.2), ((no_reset roles g (FedAt roles nch g.master_down) (λ c. omega (arith, c.1)) (λ c. not_p_n c.0)), tt))))))))

  pub fed_output_up : NoneBut (FedAt roles pch g.output_up) 5 (group_cards roles g)
  fed_output_up = ((λ c. omega (arith, c.1)), ((λ c. no_end _ _ _ (λ e. differ.1.1.1.0.1.0 (sym e)) (λ e. omega (arith, e, free.1.1.1.1.1.0)) c.2), ((λ c. not_p_n (sym c.0)), ((λ c. not_p_n (sym c.0)), ((λ c. omega (arith, c.1)), ((λ c. not_p_n (sym c.0)), ((λ c. not_p_n (sym c.0)), ((no_reset roles g (FedAt roles pch g.output_up) (λ c. not_p_n (sym c.0)) (λ c. omega (arith, c.1))), tt))))))))

  pub fed_output_down : NoneBut (FedAt roles nch g.output_down) 7 (group_cards roles g)
  fed_output_down = ((λ c. not_p_n c.0), ((λ c. not_p_n c.0), ((λ c. omega (arith, c.1)), ((λ c. no_end _ _ _ (λ e. differ.1.1.1.1.0.1.0 (sym e)) (λ e. omega (arith, e, free.1.1.1.1.1.1.0)) c.2), ((λ c. not_p_n c.0), ((λ c. not_p_n c.0), ((λ c. omega (arith, c.1)), ((no_reset roles g (FedAt roles nch g.output_down) (λ c. omega (arith, c.1)) (λ c. not_p_n c.0)), tt))))))))
