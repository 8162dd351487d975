-- Escapes: names of any bytes as parts of the names of nets.
use Rattle.std.specs.Prelude.{ℕ, ◌≡◌, ◌<◌, ◌+◌, ◌/◌, ◌%◌, Bool, ◌||◌, List, [], ◌∷◌, All, nat_lt, if◌then◌else◌}
use Rattle.std.specs.Char.{is_ascii_digit, is_ascii_lowercase}
use Rattle.std.specs.List.{flat_map}

-- a lower-case letter or a digit
abbrev pub is_plain : ℕ → Bool
is_plain b = is_ascii_lowercase b || is_ascii_digit b

-- the lower-case hexadecimal digit of a number below 16
abbrev pub hexadecimal_digit : ℕ → ℕ
hexadecimal_digit n = if nat_lt n 10 then 48 + n else 87 + n

-- a plain byte stays, and any other one becomes `_` and two digits
abbrev pub escaped_byte : ℕ → List ℕ
escaped_byte b = if is_plain b then b ∷ [] else 95 ∷ hexadecimal_digit (b / 16) ∷ hexadecimal_digit (b % 16) ∷ []

-- the escape of a name
abbrev pub escaped : List ℕ → List ℕ
escaped name = flat_map escaped_byte name

-- different names have different escapes
abbrev pub EscapesDiffer : Type 0
EscapesDiffer = (a b : List ℕ) → All (λ x. x < 256) a → All (λ x. x < 256) b → escaped a ≡ escaped b → a ≡ b
