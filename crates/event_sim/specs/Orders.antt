-- Orders of events.
use Rattle.std.specs.Prelude.{ℕ, ◌≡◌, ◌<◌, ◌≤◌, ◌+◌, ◌-◌, ◌*◌, ◌/◌, ◌%◌, ◌^◌}

-- the place of the first of the pending nets
abbrev pub first_place : ℕ → ℕ → ℕ
first_place step count = 0

-- the place of the last of the pending nets
abbrev pub last_place : ℕ → ℕ → ℕ
last_place step count = count - 1

-- a number that the step and the seed give, by a linear congruence modulo 2^64
unfoldable pub congruent : ℕ → ℕ → ℕ
congruent seed step = (step * 6364136223846793005 + seed + 1442695040888963407) % (2 ^ 64)

-- the place that a seed gives: the upper 31 bits of that number, modulo the count
unfoldable pub seeded_place : ℕ → ℕ → ℕ → ℕ
seeded_place seed step count = (congruent seed step / (2 ^ 33)) % count

-- the order that answers as the function does
abbrev pub By : (ℕ → ℕ → ℕ) → ℕ → ℕ → ℕ → Type 0
By place step count answer = answer ≡ place step count

-- all that the order answers, at numbers of 64 bits, is what the function gives
abbrev pub Follows : (ℕ → ℕ → ℕ) → (ℕ → ℕ → ℕ → Type 0) → Type 0
Follows place order =
    (step count answer : ℕ) → step < 2 ^ 64 → 1 ≤ count → count < 2 ^ 64 → order step count answer → answer ≡ place step count
