-- The bits of drives.
use Rattle.std.proofs.Common.{◌≡◌, ◌≢◌, ◌<◌, ◌∙◌, ℕ, List, Bool, true, false, refl, sym, ap, inl, inr, arith}
use Rattle.std.specs.Prelude.{◌⊎◌, ◌↔◌, nat_eq, min, max}
use Rattle.std.specs.Int.{bit_at}
use Rattle.std.specs.Int.RustNames.{bit_and, bit_or}
use Rattle.std.proofs.lemmas.Bool.{cases_eq}
use Rattle.std.proofs.lemmas.Bool.Decides.{nat_tests}
use Rattle.std.proofs.lemmas.Nat.Bits.{bit_at-lt, bit_at_and, bit_at_or}
use Rattle.dom_base.specs.declared.tri.Tri.{Tri}
use Rattle.deck.specs.Switches.{value_of}
use Rattle.switch_model.specs.FourDrives.{IsTold, drives_by, has, side, tells}
use Rattle.switch_model.specs.declared.drives.Drives.{Drives}

-- what holds of each bit
pub each_bit : (P : Bool → Bool → Bool → Type 0) → P true true false → P true true true → P false true false → P false true true
    → P true false false → P true false true → P false false false → P false false true → (definite keepers high : Bool) → P definite keepers high
each_bit P a b c d e f g h true true false = a
each_bit P a b c d e f g h true true true = b
each_bit P a b c d e f g h false true false = c
each_bit P a b c d e f g h false true true = d
each_bit P a b c d e f g h true false false = e
each_bit P a b c d e f g h true false true = f
each_bit P a b c d e f g h false false false = g
each_bit P a b c d e f g h false false true = h

to_one : (n : ℕ) → nat_eq n 1 ≡ true → n ≡ 1
to_one n e = grind (arith, nat_tests)

from_one : (n : ℕ) → n ≡ 1 → nat_eq n 1 ≡ true
from_one n e = grind (arith, nat_tests)

-- a bit of two numbers together
or_one : (a b i : ℕ) → (nat_eq (bit_at (bit_or a b) i) 1 ≡ true) ↔ ((nat_eq (bit_at a i) 1 ≡ true) ⊎ (nat_eq (bit_at b i) 1 ≡ true))
or_one a b i = (
  λ e.
      let n = sym (bit_at_or a b i) ∙ to_one _ e in
      elim (cases_eq (bit_at a i) 1) [
        | inl x ↦ inl (from_one _ x)
        | inr ne ↦ inr (from_one _ (omega (arith, n, ne, bit_at-lt a i, bit_at-lt b i)))
      ],
  λ z. from_one _ (bit_at_or a b i ∙ elim z [
    | inl x ↦ omega (arith, to_one _ x, bit_at-lt b i)
    | inr y ↦ omega (arith, to_one _ y, bit_at-lt a i)
  ]),
)

and_one : (a b i : ℕ) → (nat_eq (bit_at (bit_and a b) i) 1 ≡ true) ↔ ((nat_eq (bit_at a i) 1 ≡ true) × (nat_eq (bit_at b i) 1 ≡ true))
and_one a b i = (
  λ e.
      let n = sym (bit_at_and a b i) ∙ to_one _ e in
      (from_one _ (omega (arith, n, bit_at-lt a i, bit_at-lt b i)), from_one _ (omega (arith, n, bit_at-lt a i, bit_at-lt b i))),
  λ z. from_one _ (bit_at_and a b i ∙ omega (arith, to_one _ z.0, to_one _ z.1)),
)

pub has_or : (a b : ℕ) (definite keepers high : Bool) → (has (bit_or a b) definite keepers high ≡ true) ↔ ((has a definite keepers high ≡ true) ⊎ (has b definite keepers high ≡ true))
has_or a b definite keepers high = or_one a b _

pub has_and : (a b : ℕ) (definite keepers high : Bool) → (has (bit_and a b) definite keepers high ≡ true) ↔ ((has a definite keepers high ≡ true) × (has b definite keepers high ≡ true))
has_and a b definite keepers high = and_one a b _

-- no bit is set
pub has_none : (definite keepers high : Bool) → has 0 definite keepers high ≡ false
has_none = each_bit (λ (d k h : Bool). has 0 d k h ≡ false) refl refl refl refl refl refl refl refl

module _ (a b c e : ℕ) where
  mix : (i : ℕ) → bit_at (bit_or (bit_or (bit_and a 48) (bit_and b 192)) (bit_or (bit_and c 3) (bit_and e 12))) i
      ≡ max (max (min (bit_at a i) (bit_at 48 i)) (min (bit_at b i) (bit_at 192 i))) (max (min (bit_at c i) (bit_at 3 i)) (min (bit_at e i) (bit_at 12 i)))
  mix i =
      bit_at_or (bit_or (bit_and a 48) (bit_and b 192)) (bit_or (bit_and c 3) (bit_and e 12)) i
      ∙ ap (λ n. max n (bit_at (bit_or (bit_and c 3) (bit_and e 12)) i)) (bit_at_or (bit_and a 48) (bit_and b 192) i)
      ∙ ap (λ n. max (max n (bit_at (bit_and b 192) i)) (bit_at (bit_or (bit_and c 3) (bit_and e 12)) i)) (bit_at_and a 48 i)
      ∙ ap (λ n. max (max (min (bit_at a i) (bit_at 48 i)) n) (bit_at (bit_or (bit_and c 3) (bit_and e 12)) i)) (bit_at_and b 192 i)
      ∙ ap (λ n. max (max (min (bit_at a i) (bit_at 48 i)) (min (bit_at b i) (bit_at 192 i))) n) (bit_at_or (bit_and c 3) (bit_and e 12) i)
      ∙ ap (λ n. max (max (min (bit_at a i) (bit_at 48 i)) (min (bit_at b i) (bit_at 192 i))) (max n (bit_at (bit_and e 12) i))) (bit_at_and c 3 i)
      ∙ ap (λ n. max (max (min (bit_at a i) (bit_at 48 i)) (min (bit_at b i) (bit_at 192 i))) (max (min (bit_at c i) (bit_at 3 i)) n)) (bit_at_and e 12 i)

  first_of : (x y z w : ℕ) → x < 2 → max (max (min x 1) (min y 0)) (max (min z 0) (min w 0)) ≡ x
  first_of x y z w lt = omega (arith, lt)

  second_of : (x y z w : ℕ) → y < 2 → max (max (min x 0) (min y 1)) (max (min z 0) (min w 0)) ≡ y
  second_of x y z w lt = omega (arith, lt)

  third_of : (x y z w : ℕ) → z < 2 → max (max (min x 0) (min y 0)) (max (min z 1) (min w 0)) ≡ z
  third_of x y z w lt = omega (arith, lt)

  fourth_of : (x y z w : ℕ) → w < 2 → max (max (min x 0) (min y 0)) (max (min z 0) (min w 1)) ≡ w
  fourth_of x y z w lt = omega (arith, lt)

-- of four drives those that stand for a sort
abbrev pub drive_for : Drives → Drives → Drives → Drives → Bool → Bool → Drives
drive_for a b c e true false = a
drive_for a b c e false false = b
drive_for a b c e true true = c
drive_for a b c e false true = e

pub tells_by : (a b c e : Drives) (definite keepers high : Bool) → tells (drives_by a b c e) definite keepers high ≡ tells (drive_for a b c e definite keepers) definite keepers high
tells_by a b c e = each_bit (λ (d k h : Bool). tells (drives_by a b c e) d k h ≡ tells (drive_for a b c e d k) d k h)
    (ap (λ n. nat_eq n 1) (mix a.bits b.bits c.bits e.bits 0 ∙ third_of a.bits b.bits c.bits e.bits _ _ _ _ (bit_at-lt c.bits 0)))
    (ap (λ n. nat_eq n 1) (mix a.bits b.bits c.bits e.bits 1 ∙ third_of a.bits b.bits c.bits e.bits _ _ _ _ (bit_at-lt c.bits 1)))
    (ap (λ n. nat_eq n 1) (mix a.bits b.bits c.bits e.bits 2 ∙ fourth_of a.bits b.bits c.bits e.bits _ _ _ _ (bit_at-lt e.bits 2)))
    (ap (λ n. nat_eq n 1) (mix a.bits b.bits c.bits e.bits 3 ∙ fourth_of a.bits b.bits c.bits e.bits _ _ _ _ (bit_at-lt e.bits 3)))
    (ap (λ n. nat_eq n 1) (mix a.bits b.bits c.bits e.bits 4 ∙ first_of a.bits b.bits c.bits e.bits _ _ _ _ (bit_at-lt a.bits 4)))
    (ap (λ n. nat_eq n 1) (mix a.bits b.bits c.bits e.bits 5 ∙ first_of a.bits b.bits c.bits e.bits _ _ _ _ (bit_at-lt a.bits 5)))
    (ap (λ n. nat_eq n 1) (mix a.bits b.bits c.bits e.bits 6 ∙ second_of a.bits b.bits c.bits e.bits _ _ _ _ (bit_at-lt b.bits 6)))
    (ap (λ n. nat_eq n 1) (mix a.bits b.bits c.bits e.bits 7 ∙ second_of a.bits b.bits c.bits e.bits _ _ _ _ (bit_at-lt b.bits 7)))

-- drives that tell of a sort each, as drives that tell of all
pub told_by : (values : List Tri) (S : Bool → Bool → ℕ → Type 0) (a b c e : Drives) → IsTold a true false (S true false) values → IsTold b false false (S false false) values
    → IsTold c true true (S true true) values → IsTold e false true (S false true) values → (definite keepers : Bool) → IsTold (drives_by a b c e) definite keepers (S definite keepers) values
told_by values S a b c e ha hb hc he definite keepers high = told_one definite keepers high (tells_by a b c e definite keepers high)
  where
    told_one : (d k h : Bool) → tells (drives_by a b c e) d k h ≡ tells (drive_for a b c e d k) d k h
        → (tells (drives_by a b c e) d k h ≡ true) ↔ ((s : ℕ) × S d k s × (value_of values s ≢ side h))
    told_one true false h same = ((λ x. (ha h).0 (sym same ∙ x)), λ w. same ∙ (ha h).1 w)
    told_one false false h same = ((λ x. (hb h).0 (sym same ∙ x)), λ w. same ∙ (hb h).1 w)
    told_one true true h same = ((λ x. (hc h).0 (sym same ∙ x)), λ w. same ∙ (hc h).1 w)
    told_one false true h same = ((λ x. (he h).0 (sym same ∙ x)), λ w. same ∙ (he h).1 w)
