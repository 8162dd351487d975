-- The complements of inputs, as far as a pass over nets has come.
use Rattle.std.specs.Prelude.{None, Option, Some, slice_get, ◌⊎◌}
use Rattle.std.specs.Option.{is_none, is_some}
use Rattle.std.proofs.Common.{List, ap, arith, false, get_or, inl, inr, length, length-set, refl, replicate, set, subst, suc, sym, true, zero, ℕ, ◌+◌, ◌<◌, ◌∙◌, ◌≡◌, ◌≤◌}
use Rattle.std.proofs.lemmas.List.{get_or-set_same, length-replicate}
use Rattle.std.proofs.lemmas.Option.{slice_get_read, slice_get_within}
use Rattle.dom_base.proofs.Decided.{dec_nat, lt_or_ge}
use Rattle.dom_base.proofs.Lists.{slice_get-set_other}
use Rattle.deck.specs.declared.device.Device.{Device}
use Rattle.deck.specs.declared.role.Roles.{Roles}
use Rattle.port_runs.specs.Periods.{vdd_port}
use Rattle.deck_audit.specs.Words.{IsComplement, IsInverterOutput, MayBeComplement}
use Rattle.audit_deck.specs.Indexes.{AreInRange}
use Rattle.audit_deck.specs.Marks.{AreComplements, IsComplementOf}
use Rattle.audit_deck.proofs.Breaks.{end_low}
use Rattle.audit_deck.proofs.Found.{first_end, one_device}

pub is_none_is : {X : Type 0} (o : Option X) → is_none o ≡ true → o ≡ None
is_none_is None e = refl
is_none_is (Some x) e = absurd cc

pub some_none : {X : Type 0} (o : Option X) → is_none o ≡ false → is_some o ≡ true
some_none None e = absurd cc
some_none (Some x) e = refl

module _ (ds : List Device) where
  -- an inverter output has one input
  pub same_input : (n i j : ℕ) → IsInverterOutput ds n i → IsInverterOutput ds n j → i ≡ j
  same_input n i j v w = sym v.up_is.1 ∙ by (w.only v.up v.pull_up v.up_there (first_end v.pull_up n vdd_port v.up_is.2))
    where
      by : (v.up ≡ w.up) ⊎ (v.up ≡ w.down) → v.pull_up.gate ≡ j
      by (inl e) = ap (λ (d : Device). d.gate) (one_device ds w.up v.pull_up w.pull_up (subst (λ p. slice_get ds p ≡ Some v.pull_up) e v.up_there) w.up_there) ∙ w.up_is.1
      by (inr e) =
          ap (λ (d : Device). d.gate) (one_device ds w.down v.pull_up w.pull_down (subst (λ p. slice_get ds p ≡ Some v.pull_up) e v.up_there) w.down_there)
          ∙ w.down_is.1

  module _ (roles : Roles) where
    -- an input has one complement
    pub one_complement : (m n i : ℕ) → IsComplement ds roles m i → IsComplement ds roles n i → m ≡ n
    one_complement m n i a b = elim (lt_or_ge m n) [
      | inl low ↦ absurd (b.1 m low a.0)
      | inr high ↦ elim (lt_or_ge n m) [ inl low ↦ absurd (a.1 n low b.0) | inr most ↦ omega (arith, high, most) ]
    ]

    module _ (nets : ℕ) (in_range : AreInRange ds nets) where
      pub output_of_low : (n i : ℕ) → IsInverterOutput ds n i → n < nets
      output_of_low n i v = end_low ds roles nets in_range v.up v.pull_up n v.up_there (first_end v.pull_up n vdd_port v.up_is.2)

      pub input_low : (n i : ℕ) → IsInverterOutput ds n i → i < nets
      input_low n i v = let r = in_range v.up v.pull_up v.up_there in omega (arith, r.gate, v.up_is.1)

    -- below a number no net may be the complement of the input, or this is the first of all
    abbrev pub IsFirstBelow : ℕ → ℕ → Option ℕ → Type 0
    IsFirstBelow k i None = (m : ℕ) → m < k → MayBeComplement ds roles m i → ⊥
    IsFirstBelow k i (Some n) = IsComplement ds roles n i

    pub record AreFirstBelow (nets k : ℕ) (cs : List (Option ℕ)) : Type 0 where
      pub count : length cs ≡ nets
      pub each : (i : ℕ) (o : Option ℕ) → slice_get cs i ≡ Some o → IsFirstBelow k i o

    abbrev no_complements : ℕ → List (Option ℕ)
    no_complements nets = replicate nets None

    none_some : (nets i n : ℕ) → slice_get (no_complements nets) i ≡ Some (Some n) → ⊥
    none_some zero i n e = cc
    none_some (suc nets) zero n e = cc
    none_some (suc nets) (suc i) n e = none_some nets i n e

    pub first_begun : (nets : ℕ) (cs : List (Option ℕ)) → cs ≡ replicate nets None → AreFirstBelow nets 0 cs
    first_begun nets cs none = record { count = ap length none ∙ length-replicate nets None; each = each }
      where
        each : (i : ℕ) (o : Option ℕ) → slice_get cs i ≡ Some o → IsFirstBelow 0 i o
        each i None e = λ m lt may. omega (arith, lt)
        each i (Some n) e = absurd (none_some nets i n (ap (λ l. slice_get l i) (sym none) ∙ e))

    module _ (nets k : ℕ) (cs : List (Option ℕ)) (h : AreFirstBelow nets k cs) where
      more : (i : ℕ) → ((m : ℕ) → m < k → MayBeComplement ds roles m i → ⊥) → (MayBeComplement ds roles k i → ⊥)
          → (m : ℕ) → m < k + 1 → MayBeComplement ds roles m i → ⊥
      more i below here m lt may = elim (lt_or_ge m k) [
        | inl low ↦ below m low may
        | inr high ↦ let e : m ≡ k = omega (arith, high, lt) in here (subst (λ n. MayBeComplement ds roles n i) e may)
      ]

      -- the next net is no complement
      pub first_past : ((i : ℕ) → MayBeComplement ds roles k i → ⊥) → AreFirstBelow nets (k + 1) cs
      first_past none = record { count = h.count; each = each }
        where
          each : (i : ℕ) (o : Option ℕ) → slice_get cs i ≡ Some o → IsFirstBelow (k + 1) i o
          each i None e = more i (h.each i None e) (none i)
          each i (Some n) e = h.each i (Some n) e

      module _ (input : ℕ) (may : MayBeComplement ds roles k input) where
        alone : (i : ℕ) → MayBeComplement ds roles k i → i ≡ input
        alone i other = same_input k i input other.inverts may.inverts

        -- its input has one already
        pub first_kept : (o : Option ℕ) → slice_get cs input ≡ Some o → is_some o ≡ true → AreFirstBelow nets (k + 1) cs
        first_kept o at some = record { count = h.count; each = each }
          where
            none_is_not : o ≡ None → ⊥
            none_is_not e = let x : is_some o ≡ false = ap is_some e in let y : true ≡ false = sym some ∙ x in cc

            away : (i : ℕ) → slice_get cs i ≡ Some None → MayBeComplement ds roles k i → ⊥
            away i e other =
                let z : Some o ≡ Some None = sym at ∙ ap (slice_get cs) (sym (alone i other)) ∙ e in
                let y : o ≡ None = cc in
                none_is_not y

            each : (i : ℕ) (p : Option ℕ) → slice_get cs i ≡ Some p → IsFirstBelow (k + 1) i p
            each i None e = more i (h.each i None e) (away i e)
            each i (Some n) e = h.each i (Some n) e

        -- it is the complement of its input
        pub first_set : slice_get cs input ≡ Some None → AreFirstBelow nets (k + 1) (set cs input (Some k))
        first_set at = record { count = length-set cs input (Some k) ∙ h.count; each = each }
          where
            lt : input < length cs
            lt = slice_get_within cs input None at

            here : slice_get (set cs input (Some k)) input ≡ Some (Some k)
            here = slice_get_read (set cs input (Some k)) (length cs) input (Some k) (sym (length-set cs input (Some k))) lt
                (sym (get_or-set_same cs input (Some k) (Some k) lt))

            is : IsComplement ds roles k input
            is = (may, h.each input None at)

            each : (i : ℕ) (p : Option ℕ) → slice_get (set cs input (Some k)) i ≡ Some p → IsFirstBelow (k + 1) i p
            each i p e = elim (dec_nat i input) [
              | inl same ↦
                  let z : Some p ≡ Some (Some k) = sym e ∙ ap (slice_get (set cs input (Some k))) same ∙ here in
                  let y : Some k ≡ p = cc in
                  subst (IsFirstBelow (k + 1) i) y (subst (IsComplement ds roles k) (sym same) is)
              | inr other ↦ old i other p (sym (slice_get-set_other cs input i (Some k) other) ∙ e)
            ]
              where
                old : (i : ℕ) → (i ≡ input → ⊥) → (p : Option ℕ) → slice_get cs i ≡ Some p → IsFirstBelow (k + 1) i p
                old i other None e = more i (h.each i None e) (λ y. other (alone i y))
                old i other (Some n) e = h.each i (Some n) e

    -- all nets were looked at
    pub first_all : (nets k : ℕ) (cs : List (Option ℕ)) → AreInRange ds nets → nets ≤ k → AreFirstBelow nets k cs → AreComplements ds roles nets cs
    first_all nets k cs in_range done h = record { count = h.count; each = each }
      where
        each : (i : ℕ) (o : Option ℕ) → slice_get cs i ≡ Some o → IsComplementOf ds roles i o
        each i None e = λ n c. h.each i None e n (let z = output_of_low nets in_range n i c.0.inverts in omega (arith, z, done)) c.0
        each i (Some n) e = h.each i (Some n) e
