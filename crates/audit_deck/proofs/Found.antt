-- What the devices at a net make of it: the only one of a kind, the two of an inverter, one that makes it dynamic.
use Rattle.std.specs.Prelude.{Some, slice_get, ◌⊎◌}
use Rattle.std.proofs.Common.{List, [], ap, arith, get_or, inl, inr, length, refl, subst, suc, sym, zero, ℕ, ◌<◌, ◌∙◌, ◌∷◌, ◌≡◌, ◌≤◌}
use Rattle.std.proofs.lemmas.Option.{slice_get_within}
use Rattle.dom_base.specs.declared.kind.Kind.{Kind}
use Rattle.dom_base.specs.declared.kind.Kind.TheVariants.{Keep, N as nch, P as pch}
use Rattle.deck.specs.Paths.{Ends}
use Rattle.deck.specs.declared.device.Device.{Device}
use Rattle.deck.specs.declared.role.Roles.{Roles}
use Rattle.port_runs.specs.Periods.{IsClockPort, vdd_port, vss_port}
use Rattle.deck_audit.specs.Rules.{HasFront}
use Rattle.deck_audit.specs.Words.{IsDynamic, IsInner, IsInverterOutput}
use Rattle.audit_deck.specs.Fronts.{IsFrontAt, IsInverterAt, IsPairAt, MakesDynamic}
use Rattle.audit_deck.specs.Indexes.{AreThose, EndingAt, HasEnd, HasKind, IsOnly}
use Rattle.audit_deck.specs.declared.fronts.Inverter.{Inverter}
use Rattle.audit_deck.specs.Scans.{IsOnlyIn}
use Rattle.audit_deck.proofs.Scans.{NoneBefore}

pub one_device : (ds : List Device) (p : ℕ) (d e : Device) → slice_get ds p ≡ Some d → slice_get ds p ≡ Some e → d ≡ e
one_device ds p d e at there = let z : Some d ≡ Some e = sym at ∙ there in cc

module _ (ds : List Device) (n : ℕ) (kind : Kind) (numbers : List ℕ) (are : AreThose (EndingAt ds n) numbers) where
  pub only_found : (x : ℕ) → IsOnlyIn (HasKind ds kind) numbers x → IsOnly ds n kind x
  only_found x one =
      let y = are.sound one.place x one.at in
      record {
        device = one.has.0;
        there = one.has.1;
        ends = subst (λ d. HasEnd d n) (one_device ds x y.0 one.has.0 y.1 one.has.1) y.2;
        kind_is = one.has.2;
        only = λ q d at e k. let z = are.full q (d, at, e) in one.only z.0 q z.1 (d, at, k);
      }

  pub only_in : (x : ℕ) → IsOnly ds n kind x → IsOnlyIn (HasKind ds kind) numbers x
  only_in x one =
      let y = are.full x (one.device, one.there, one.ends) in
      record {
        place = y.0;
        at = y.1;
        has = (one.device, one.there, one.kind_is);
        only = λ j p at has.
            let z = are.sound j p at in
            one.only p has.0 has.1 (subst (λ d. HasEnd d n) (one_device ds p z.0 has.0 z.1 has.1) z.2) has.2;
      }

-- a list of two numbers
pub two_of : (l : List ℕ) → length l ≡ 2 → (j p : ℕ) → slice_get l j ≡ Some p → (p ≡ get_or l 0 0) ⊎ (p ≡ get_or l 1 0)
two_of [] e j p at = absurd (omega (arith, e))
two_of (a ∷ []) e j p at = absurd (omega (arith, e))
two_of (a ∷ b ∷ []) e zero p at = let z : a ≡ p = cc in inl (sym z)
two_of (a ∷ b ∷ []) e (suc zero) p at = let z : b ≡ p = cc in inr (sym z)
two_of (a ∷ b ∷ []) e (suc (suc j)) p at = absurd cc
two_of (a ∷ b ∷ c ∷ l) e j p at = absurd (omega (arith, e))

one_of : (a j p : ℕ) → slice_get (a ∷ []) j ≡ Some p → p ≡ a
one_of a zero p at = let z : a ≡ p = cc in sym z
one_of a (suc j) p at = absurd cc

two_alike : {u v a b c : ℕ} → (a ≡ u) ⊎ (a ≡ v) → (b ≡ u) ⊎ (b ≡ v) → (c ≡ u) ⊎ (c ≡ v) → (a ≡ b) ⊎ ((a ≡ c) ⊎ (b ≡ c))
two_alike (inl x) (inl y) z = inl (x ∙ sym y)
two_alike (inr x) (inr y) z = inl (x ∙ sym y)
two_alike (inl x) (inr y) (inl z) = inr (inl (x ∙ sym z))
two_alike (inl x) (inr y) (inr z) = inr (inr (y ∙ sym z))
two_alike (inr x) (inl y) (inl z) = inr (inr (y ∙ sym z))
two_alike (inr x) (inl y) (inr z) = inr (inl (x ∙ sym z))

-- where just two numbers have the property, the list has two
pub count_two : (P : ℕ → Type 0) (l : List ℕ) → AreThose P l → (u v : ℕ) → P u → P v → (u ≡ v → ⊥) → ((p : ℕ) → P p → (p ≡ u) ⊎ (p ≡ v))
    → length l ≡ 2
count_two P [] are u v pu pv differ only = let y = (are.full u pu).1 in absurd cc
count_two P (a ∷ []) are u v pu pv differ only =
    let y = are.full u pu in let z = are.full v pv in absurd (differ (one_of a y.0 u y.1 ∙ sym (one_of a z.0 v z.1)))
count_two P (a ∷ b ∷ []) are u v pu pv differ only = refl
count_two P (a ∷ b ∷ c ∷ l) are u v pu pv differ only =
    elim (two_alike (only a (are.sound 0 a refl)) (only b (are.sound 1 b refl)) (only c (are.sound 2 c refl))) [
      | inl e ↦ let z = are.once 0 1 a refl (ap Some (sym e)) in absurd (omega (arith, z))
      | inr e ↦ elim e [
        | inl f ↦ let z = are.once 0 2 a refl (ap Some (sym f)) in absurd (omega (arith, z))
        | inr f ↦ let z = are.once 1 2 b refl (ap Some (sym f)) in absurd (omega (arith, z))
      ]
    ]

pub first_end : (d : Device) (a b : ℕ) → Ends d a b → HasEnd d a
first_end d a b (inl j) = inl j.0
first_end d a b (inr j) = inr j.0

-- of an inverter
module _ (ds : List Device) (n input : ℕ) (i : IsInverterOutput ds n input) where
  up_ends : EndingAt ds n i.up
  up_ends = (i.pull_up, i.up_there, first_end i.pull_up n vdd_port i.up_is.2)

  down_ends : EndingAt ds n i.down
  down_ends = (i.pull_down, i.down_there, first_end i.pull_down n vss_port i.down_is.2)

  up_is_not_down : i.up ≡ i.down → ⊥
  up_is_not_down e =
      let same : i.pull_up ≡ i.pull_down = one_device ds i.down i.pull_up i.pull_down (ap (slice_get ds) (sym e) ∙ i.up_there) i.down_there in
      let k : pch ≡ nch = sym i.up_is.0 ∙ ap (λ (d : Device). d.kind) same ∙ i.down_is.0 in cc

  inverter_two : (l : List ℕ) → AreThose (EndingAt ds n) l → length l ≡ 2
  inverter_two l are = count_two (EndingAt ds n) l are i.up i.down up_ends down_ends up_is_not_down (λ p e. i.only p e.0 e.1 e.2)

  pair_of : (up down : ℕ) → i.up ≡ up → i.down ≡ down → IsPairAt ds n up down (record { input = input; up = up; down = down })
  pair_of up down e f = record {
    pull_up = i.pull_up;
    pull_down = i.pull_down;
    up_is = refl;
    down_is = refl;
    up_there = subst (λ p. slice_get ds p ≡ Some i.pull_up) e i.up_there;
    up_device = i.up_is;
    down_there = subst (λ p. slice_get ds p ≡ Some i.pull_down) f i.down_there;
    down_device = i.down_is;
  }

module _ (ds : List Device) (n : ℕ) (l : List ℕ) (are : AreThose (EndingAt ds n) l) where
  pub not_two : (length l ≡ 2 → ⊥) → (input : ℕ) → IsInverterOutput ds n input → ⊥
  not_two ne input i = ne (inverter_two ds n input i l are)

  module _ (two : length l ≡ 2) where
    covers : (p : ℕ) → EndingAt ds n p → (p ≡ get_or l 0 0) ⊎ (p ≡ get_or l 1 0)
    covers p e = let y = are.full p e in two_of l two y.0 p y.1

    inverts_by : (up down : ℕ) (i : Inverter) → ((p : ℕ) → EndingAt ds n p → (p ≡ up) ⊎ (p ≡ down)) → IsPairAt ds n up down i
        → IsInverterAt ds n i
    inverts_by up down i both h = record {
      inverts = record {
        up = up;
        down = down;
        pull_up = h.pull_up;
        pull_down = h.pull_down;
        up_there = h.up_there;
        up_is = h.up_device;
        down_there = h.down_there;
        down_is = h.down_device;
        only = λ p d at e. both p (d, at, e);
      };
      up_is = sym h.up_is;
      down_is = sym h.down_is;
    }

    pub pair_inverts : (i : Inverter) → IsPairAt ds n (get_or l 0 0) (get_or l 1 0) i → IsInverterAt ds n i
    pair_inverts i h = inverts_by (get_or l 0 0) (get_or l 1 0) i covers h

    pub turned_inverts : (i : Inverter) → IsPairAt ds n (get_or l 1 0) (get_or l 0 0) i → IsInverterAt ds n i
    turned_inverts i h = inverts_by (get_or l 1 0) (get_or l 0 0) i (λ p e. elim (covers p e) [ inl y ↦ inr y | inr y ↦ inl y ]) h

    pub no_pair : ((i : Inverter) → IsPairAt ds n (get_or l 0 0) (get_or l 1 0) i → ⊥)
        → ((i : Inverter) → IsPairAt ds n (get_or l 1 0) (get_or l 0 0) i → ⊥)
        → (input : ℕ) → IsInverterOutput ds n input → ⊥
    no_pair none turned input i = by (covers i.up (up_ends ds n input i)) (covers i.down (down_ends ds n input i))
      where
        by : (i.up ≡ get_or l 0 0) ⊎ (i.up ≡ get_or l 1 0) → (i.down ≡ get_or l 0 0) ⊎ (i.down ≡ get_or l 1 0) → ⊥
        by (inl e) (inl f) = up_is_not_down ds n input i (e ∙ sym f)
        by (inr e) (inr f) = up_is_not_down ds n input i (e ∙ sym f)
        by (inl e) (inr f) = none (record { input = input; up = get_or l 0 0; down = get_or l 1 0 }) (pair_of ds n input i (get_or l 0 0) (get_or l 1 0) e f)
        by (inr e) (inl f) = turned (record { input = input; up = get_or l 1 0; down = get_or l 0 0 }) (pair_of ds n input i (get_or l 1 0) (get_or l 0 0) e f)

  -- no device makes the net dynamic
  pub not_dynamic : (roles : Roles) (i : ℕ) → length l ≤ i → NoneBefore (MakesDynamic ds roles n) l i → IsDynamic ds roles n → ⊥
  not_dynamic roles i done none (free, p, d, at, how) =
      let y = are.full p (d, at, ends how) in
      none y.0 p (let z = slice_get_within l y.0 p y.1 in omega (arith, z, done)) y.1 (d, at, makes how)
    where
      ends : ((d.kind ≡ Keep) × HasEnd d n) ⊎ ((d.kind ≡ pch) × IsClockPort roles d.gate × Ends d n vdd_port) → HasEnd d n
      ends (inl h) = h.1
      ends (inr h) = first_end d n vdd_port h.2

      makes : ((d.kind ≡ Keep) × HasEnd d n) ⊎ ((d.kind ≡ pch) × IsClockPort roles d.gate × Ends d n vdd_port)
          → (d.kind ≡ Keep) ⊎ ((d.kind ≡ pch) × IsClockPort roles d.gate × Ends d n vdd_port)
      makes (inl h) = inl h.0
      makes (inr h) = inr h

-- of a front
module _ (ds : List Device) (roles : Roles) (x clock output : ℕ) (f : HasFront ds roles x clock output) where
  pub one_precharge : IsOnly ds x pch f.precharge
  one_precharge = record {
    device = f.precharge_device;
    there = f.precharge_there;
    ends = first_end f.precharge_device x vdd_port f.precharge_is.2;
    kind_is = f.precharge_is.0;
    only = f.one_precharge;
  }

  pub one_keeper : IsOnly ds x Keep f.keeper
  one_keeper = record {
    device = f.keeper_device;
    there = f.keeper_there;
    ends = first_end f.keeper_device x vdd_port f.keeper_is.2;
    kind_is = f.keeper_is.0;
    only = f.one_keeper;
  }

pub front_found : (ds : List Device) (roles : Roles) (x precharge keeper : ℕ) (pull hold : Device)
    → IsOnly ds x pch precharge → IsOnly ds x Keep keeper → slice_get ds precharge ≡ Some pull → slice_get ds keeper ≡ Some hold
    → IsInner roles x → IsClockPort roles pull.gate → Ends pull x vdd_port → Ends hold x vdd_port
    → IsFrontAt ds roles x (record { clock = pull.gate; output = hold.gate; precharge = precharge; keeper = keeper })
front_found ds roles x precharge keeper pull hold p k at there inner clock ends holds = record {
  front = record {
    no_port = inner;
    clock_is = clock;
    precharge = precharge;
    keeper = keeper;
    precharge_device = pull;
    keeper_device = hold;
    precharge_there = at;
    precharge_is = (ap (λ (d : Device). d.kind) (one_device ds precharge pull p.device at p.there) ∙ p.kind_is, refl, ends);
    keeper_there = there;
    keeper_is = (ap (λ (d : Device). d.kind) (one_device ds keeper hold k.device there k.there) ∙ k.kind_is, refl, holds);
    one_precharge = p.only;
    one_keeper = k.only;
  };
  precharge_is = refl;
  keeper_is = refl;
}

pub only_within : (ds : List Device) (n p : ℕ) (kind : Kind) → IsOnly ds n kind p → p < length ds
only_within ds n p kind one = slice_get_within ds p one.device one.there
