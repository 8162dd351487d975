-- The letters of pins, and the pins of letters without fault.
use Rattle.std.proofs.Common.{◌≡◌, ℕ, zero, suc, ◌<◌, Bool, true, false, ◌&&◌, ◌||◌, ◌==◌, List, [], ◌∷◌, length, map, refl, sym, ap, ◌∙◌, subst, arith, eqb-true, ne_eqb, eq-eqb}
use Rattle.std.proofs.lemmas.Bool.{false≢true}
use Rattle.dom_base.proofs.Bools.{and_both}
use Rattle.dom_base.proofs.Lists.{head_same, map-injective}
use Rattle.stim_text.specs.CycleLines.{bit_letter, pin_letters}
use Rattle.stim_text.specs.Stimuli.{is_pin_letter, are_letters, is_dash, has_width}
use Rattle.stim_text.specs.LinesRead.{IsPinsOf, is_good}

pub positive : (width : ℕ) → 0 < width → (width == 0) ≡ false
positive width some = ne_eqb width 0 (λ is. omega (arith, is, some))

-- a bit of a letter, and its letter again
bit_back : (b : ℕ) (ones : Bool) → (b == 49) ≡ ones → (((b == 48) || ones) || false) ≡ true → bit_letter ones ≡ b
bit_back b true one h = sym (eqb-true b 49 one)
bit_back b false other h = by (b == 48) refl h
  where
    by : (zeros : Bool) → (b == 48) ≡ zeros → ((zeros || false) || false) ≡ true → 48 ≡ b
    by true is k = sym (eqb-true b 48 is)
    by false is k = absurd (false≢true k)

letter_back : (width b : ℕ) → (width == 0) ≡ false → is_pin_letter width b ≡ true → bit_letter (b == 49) ≡ b
letter_back width b some h = bit_back b (b == 49) refl (sym (ap (λ none. ((b == 48) || (b == 49)) || (none && (b == 45))) some) ∙ h)

letters_back : (width : ℕ) (letters : List ℕ) → (width == 0) ≡ false → are_letters width letters ≡ true → map bit_letter (map (λ b. b == 49) letters) ≡ letters
letters_back width [] some h = refl
letters_back width (b ∷ bs) some h =
    let p = and_both (is_pin_letter width b) (are_letters width bs) h in
    let first = letter_back width b some p.0 in
    let rest = letters_back width bs some p.1 in
    cc

pub length-map_bits : (letters : List ℕ) → length (map (λ b. b == 49) letters) ≡ length letters
length-map_bits [] = refl
length-map_bits (b ∷ bs) = ap suc (length-map_bits bs)

dash_is : (letters : List ℕ) → is_dash letters ≡ true → letters ≡ 45 ∷ []
dash_is [] h = absurd (false≢true h)
dash_is (b ∷ []) h = ap (λ x. x ∷ []) (eqb-true b 45 h)
dash_is (b ∷ next ∷ bs) h = absurd (false≢true h)

-- where there are no pins, letters without fault are `-`
pub no_pins : (letters : List ℕ) → is_good 0 letters ≡ true → IsPinsOf 0 letters []
no_pins letters good = record { letters_are = sym (dash_is letters (and_both (are_letters 0 letters) (is_dash letters) good).1); width_is = refl }

-- else there is a letter for each pin
some_pins : (width : ℕ) (letters : List ℕ) → 0 < width → is_good width letters ≡ true → (width == 0) ≡ false → has_width width letters ≡ (length letters == width) → IsPinsOf width letters (map (λ b. b == 49) letters)
some_pins width [] some good flag test =
    let long = eqb-true 0 width (sym test ∙ (and_both (are_letters width []) (has_width width []) good).1) in
    absurd (omega (arith, some, long))
some_pins width (b ∷ bs) some good flag test =
    let p = and_both (are_letters width (b ∷ bs)) (has_width width (b ∷ bs)) good in
    record {
      letters_are = letters_back width (b ∷ bs) flag p.0;
      width_is = length-map_bits (b ∷ bs) ∙ eqb-true (length (b ∷ bs)) width (sym test ∙ p.1);
    }

pub pins_are : (width : ℕ) (letters : List ℕ) → 0 < width → is_good width letters ≡ true → IsPinsOf width letters (map (λ b. b == 49) letters)
pins_are width letters some good =
    let flag = positive width some in
    some_pins width letters some good flag (rw flag refl)

-- letters without fault have pins
pub pins_of : (width : ℕ) (letters : List ℕ) → is_good width letters ≡ true → (pins : List Bool) × IsPinsOf width letters pins
pins_of zero letters good = ([], no_pins letters good)
pins_of (suc n) letters good = (map (λ b. b == 49) letters, pins_are (suc n) letters (omega arith) good)

-- the letters of pins have no fault
bits_are_letters : (width : ℕ) (pins : List Bool) → are_letters width (map bit_letter pins) ≡ true
bits_are_letters width [] = refl
bits_are_letters width (true ∷ pins) = bits_are_letters width pins
bits_are_letters width (false ∷ pins) = bits_are_letters width pins

length-bits : (pins : List Bool) → length (map bit_letter pins) ≡ length pins
length-bits [] = refl
length-bits (pin ∷ pins) = ap suc (length-bits pins)

pub good_of : (width : ℕ) (pins : List Bool) → length pins ≡ width → is_good width (pin_letters pins) ≡ true
good_of width [] is = subst (λ n. is_good n (45 ∷ []) ≡ true) is refl
good_of width (pin ∷ pins) is =
    let letters = bits_are_letters width (pin ∷ pins) in
    let flag : (width == 0) ≡ false = positive width (omega (arith, is)) in
    let long : (length (map bit_letter (pin ∷ pins)) == width) ≡ true = eq-eqb (length (map bit_letter (pin ∷ pins))) width (length-bits (pin ∷ pins) ∙ is) in
    rw (letters, flag, long) refl

-- different pins have different letters
bit_letter-injective : (x y : Bool) → bit_letter x ≡ bit_letter y → x ≡ y
bit_letter-injective true true e = refl
bit_letter-injective false false e = refl
bit_letter-injective true false e = absurd (omega (arith, e))
bit_letter-injective false true e = absurd (omega (arith, e))

no_dash : (x : Bool) → bit_letter x ≡ 45 → ⊥
no_dash true e = omega (arith, e)
no_dash false e = omega (arith, e)

pin_letters-injective : (xs ys : List Bool) → pin_letters xs ≡ pin_letters ys → xs ≡ ys
pin_letters-injective [] [] e = refl
pin_letters-injective [] (y ∷ ys) e = absurd (no_dash y (sym (head_same e)))
pin_letters-injective (x ∷ xs) [] e = absurd (no_dash x (head_same e))
pin_letters-injective (x ∷ xs) (y ∷ ys) e = map-injective bit_letter bit_letter-injective (x ∷ xs) (y ∷ ys) e

pub cycles-injective : (xs ys : List (List Bool)) → map pin_letters xs ≡ map pin_letters ys → xs ≡ ys
cycles-injective xs ys e = map-injective pin_letters pin_letters-injective xs ys e
