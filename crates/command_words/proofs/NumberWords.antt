-- The words that write a number.
use Rattle.std.proofs.Common.{◌≡◌, ◌⊎◌, inl, inr, ℕ, ◌<◌, ◌≤◌, ◌^◌, Ok, Err, Result, Option, Some, None, Bool, true, false, List, [], ◌∷◌, length, refl, sym, ap, ◌∙◌, subst, arith, rules}
use Rattle.std.specs.Prelude.{◌&&◌, IfSome, if◌then◌else◌}
use Rattle.std.specs.Str.{all_ascii_digits}
use Rattle.std.specs.Str.Parse.{ParsesUnsigned, IsNumeral, without_leading_plus, digits_value}
use Rattle.std.proofs.lemmas.Str.Parse.{IsNumeralModel, numerals_by_fold, tells_all_ascii_digits}
use Rattle.dom_base.specs.Lines.{is_word}
use Rattle.std.specs.Option.{option_and_then}
use Rattle.std.specs.Result.{result_ok}
use Rattle.dom_base.proofs.Bools.{and_both, never, not_true}
use Rattle.command_words.specs.NumberWords.{is_within, number_behind, number_from, number_of_digits, writes_number}

digits_model : IsNumeralModel (λ digits. all_ascii_digits digits ≡ true) (number_behind 0)
digits_model = numerals_by_fold _ tells_all_ascii_digits number_behind (search rules)

within : (low high n : ℕ) → low ≤ n → n ≤ high → is_within low high n ≡ true
within low high n l h = search rules

from_within : (low high n : ℕ) → is_within low high n ≡ true → (low ≤ n) × (n ≤ high)
from_within low high n e = search rules

some_digits : (digits : List ℕ) → 0 < length digits → is_word digits ≡ true
some_digits [] h = absurd (omega arith)
some_digits (d ∷ ds) h = refl

from_some_digits : (digits : List ℕ) → is_word digits ≡ true → 0 < length digits
from_some_digits [] h = absurd (let never : false ≡ true = h in cc)
from_some_digits (d ∷ ds) h = omega arith

-- digits whose number is within a range write it
writes : (low high : ℕ) (digits : List ℕ) → IsNumeral 10 digits → low ≤ digits_value 10 digits → digits_value 10 digits ≤ high
    → number_of_digits low high digits ≡ Some (digits_value 10 digits)
writes low high digits numeral least most =
    let same : number_behind 0 digits ≡ digits_value 10 digits = digits_model.same digits numeral.1 in
    let is_number : writes_number low high digits ≡ true =
    rw (some_digits digits numeral.0) (rw (digits_model.from digits numeral.1) (rw same (within low high (digits_value 10 digits) least most))) in
    rw is_number (ap Some same)

-- what writes a number within a range
written_number : (low high : ℕ) (digits : List ℕ) → writes_number low high digits ≡ true
    → IsNumeral 10 digits × (low ≤ digits_value 10 digits) × (digits_value 10 digits ≤ high)
written_number low high digits e =
    let parts = and_both (is_word digits && all_ascii_digits digits) (is_within low high (number_behind 0 digits)) e in
    let shape = and_both (is_word digits) (all_ascii_digits digits) parts.0 in
    let all = digits_model.to digits shape.1 in
    let range = from_within low high (digits_value 10 digits) (subst (λ n. is_within low high n ≡ true) (digits_model.same digits all) parts.1) in
    ((from_some_digits digits shape.0, all), range.0, range.1)

none_by : (low high : ℕ) (digits : List ℕ) → (writes_number low high digits ≡ true → ⊥) → number_of_digits low high digits ≡ None
none_by low high digits wrong = by (writes_number low high digits) refl
  where
    by : (t : Bool) → writes_number low high digits ≡ t → (if t then Some (number_behind 0 digits) else None) ≡ None
    by true e = absurd (wrong e)
    by false e = refl

-- a number where it is within a range
abbrev pub within_range : (low high : ℕ) → ℕ → Option ℕ
within_range low high n = if is_within low high n then Some n else None

pub inside : (low high n : ℕ) → low ≤ n → n ≤ high → within_range low high n ≡ Some n
inside low high n least most = rw (within low high n least most) refl

pub outside : (low high n : ℕ) → (is_within low high n ≡ true → ⊥) → within_range low high n ≡ None
outside low high n wrong = rw (not_true (is_within low high n) wrong) refl

out_of_range : (low high n : ℕ) → (n < low) ⊎ (high < n) → is_within low high n ≡ true → ⊥
out_of_range low high n (inl below) e = let range = from_within low high n e in absurd (omega (arith, below, range.0))
out_of_range low high n (inr above) e = let range = from_within low high n e in absurd (omega (arith, above, range.1))

pub outside_range : (low high n : ℕ) → (n < low) ⊎ (high < n) → within_range low high n ≡ None
outside_range low high n out = outside low high n (out_of_range low high n out)

-- a word by what its parse gives
pub number_read : {E : Type 0} (word : List ℕ) (low high : ℕ) (o : Option ℕ) (r : Result ℕ E) → ParsesUnsigned 64 10 word r → o ≡ result_ok r → high < 2 ^ 64
    → number_from low high word ≡ option_and_then (within_range low high) o
number_read word low high o (Ok n) h e fits = rw e (by (is_within low high n) refl)
  where
    within_value : low ≤ digits_value 10 (without_leading_plus word) → digits_value 10 (without_leading_plus word) ≤ high → is_within low high n ≡ true
    within_value least most = within low high n (subst (λ m. low ≤ m) (sym h.1) least) (subst (λ m. m ≤ high) (sym h.1) most)

    by : (t : Bool) → is_within low high n ≡ t → number_from low high word ≡ (if t then Some n else None)
    by true within =
        let range = from_within low high n within in
        writes low high (without_leading_plus word) h.0.0 (subst (λ m. low ≤ m) h.1 range.0) (subst (λ m. m ≤ high) h.1 range.1) ∙ ap Some (sym h.1)
    by false without =
        none_by low high (without_leading_plus word) (λ t. let w = written_number low high (without_leading_plus word) t in
        never (within_value w.1 w.2) without)
number_read word low high o (Err x) h e fits =
    rw e (none_by low high (without_leading_plus word) (λ t. let w = written_number low high (without_leading_plus word) t in h (w.0, omega (arith, w.2, fits))))

-- the number of a word is within the range
pub number_range : (low high : ℕ) (word : List ℕ) → IfSome (number_from low high word) (λ n. (low ≤ n) × (n ≤ high))
number_range low high word = by (writes_number low high digits) refl
  where
    digits : List ℕ
    digits = without_leading_plus word

    by : (t : Bool) → writes_number low high digits ≡ t → IfSome (if t then Some (number_behind 0 digits) else None) (λ n. (low ≤ n) × (n ≤ high))
    by true e = from_within low high (number_behind 0 digits) (and_both (is_word digits && all_ascii_digits digits) (is_within low high (number_behind 0 digits)) e).1
    by false e = tt
