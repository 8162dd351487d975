-- The parts of a name: its first byte, the number behind it, and what is behind the number.
use Rattle.std.specs.Prelude.{ℕ, ◌≡◌, Bool, false, cond, List, [], ◌∷◌, nat_lt}
use Rattle.std.specs.Char.{digit_value}
use Rattle.std.specs.Str.Parse.{digits_value}

abbrev pub is_digit : ℕ → Bool
is_digit c = nat_lt (digit_value c) 10

-- the digits at the front of some bytes, and what is behind them
abbrev pub front : List ℕ → List ℕ
front [] = []
front (c ∷ cs) = cond (is_digit c) (c ∷ front cs) []

abbrev pub behind : List ℕ → List ℕ
behind [] = []
behind (c ∷ cs) = cond (is_digit c) (behind cs) (c ∷ cs)

-- some bytes that begin with no digit
abbrev pub NoDigit : List ℕ → Type 0
NoDigit [] = Unit {0}
NoDigit (c ∷ cs) = is_digit c ≡ false

abbrev pub leading_letter : List ℕ → ℕ
leading_letter [] = 0
leading_letter (c ∷ cs) = c

abbrev pub number_of : List ℕ → ℕ
number_of [] = 0
number_of (c ∷ cs) = digits_value 10 (front cs)

abbrev pub rest_of : List ℕ → List ℕ
rest_of [] = []
rest_of (c ∷ cs) = behind cs
