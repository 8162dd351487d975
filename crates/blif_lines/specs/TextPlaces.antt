-- Where words stand in a text, and what stands at its start and at its end.
use Rattle.std.specs.Prelude.{ℕ, ◌≡◌, List, ◌++◌, length, take, drop}

-- a word stands at this place of the text
abbrev pub StandsAt : List ℕ → ℕ → List ℕ → Type 0
StandsAt text place word = take (length word) (drop place text) ≡ word

-- what is left of a text at its end
abbrev pub IsRestOf : List ℕ → List ℕ → Type 0
IsRestOf text rest = (front : List ℕ) × (text ≡ front ++ rest)

-- what stands at the start of a text
abbrev pub IsFrontOf : List ℕ → List ℕ → Type 0
IsFrontOf front text = (rest : List ℕ) × (text ≡ front ++ rest)
