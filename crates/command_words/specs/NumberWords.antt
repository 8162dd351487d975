-- The words that write a number.
use Rattle.std.specs.Prelude.{ℕ, ◌+◌, ◌*◌, ◌-◌, Bool, ◌&&◌, not, nat_lt, List, [], ◌∷◌, if◌then◌else◌}
use Rattle.std.specs.Prelude.{Option, Some, None}
use Rattle.std.specs.Str.{all_ascii_digits}
use Rattle.std.specs.Str.Parse.{without_leading_plus}
use Rattle.dom_base.specs.Lines.{is_word}

-- the number that decimal digits write behind a number
abbrev pub number_behind : ℕ → List ℕ → ℕ
number_behind n [] = n
number_behind n (digit ∷ digits) = number_behind (n * 10 + (digit - 48)) digits

abbrev pub is_within : (low high : ℕ) → ℕ → Bool
is_within low high n = not (nat_lt n low) && not (nat_lt high n)

-- at least one decimal digit and nothing else, and a number from `low` to `high`
abbrev pub writes_number : (low high : ℕ) → List ℕ → Bool
writes_number low high digits = (is_word digits && all_ascii_digits digits) && is_within low high (number_behind 0 digits)

abbrev pub number_of_digits : (low high : ℕ) → List ℕ → Option ℕ
number_of_digits low high digits = if writes_number low high digits then Some (number_behind 0 digits) else None

-- the number from `low` to `high` that a word writes in decimal digits, with an optional `+` before them
abbrev pub number_from : (low high : ℕ) → List ℕ → Option ℕ
number_from low high word = number_of_digits low high (without_leading_plus word)
