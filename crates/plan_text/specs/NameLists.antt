-- Names as words with blanks before them.
use Rattle.std.specs.Prelude.{ℕ, ◌≡◌, ◌<◌, ◌^◌, List, [], ◌∷◌, drop, length, map, take}
use Rattle.std.specs.List.{flat_map}

-- a blank before each name, and the name
abbrev pub name_words : List (List ℕ) → List ℕ
name_words names = flat_map (λ name. 32 ∷ name) names

-- the names of these lengths, each behind a blank
abbrev pub cut_words : List ℕ → List ℕ → List (List ℕ)
cut_words [] words = []
cut_words (size ∷ sizes) words = take size (drop 1 words) ∷ cut_words sizes (drop size (drop 1 words))

-- the words are names of these lengths, which are few
pub record AreWords (sizes words : List ℕ) : Type 0 where
  pub sizes_are : sizes ≡ map (λ (name : List ℕ). length name) (cut_words sizes words)
  pub few : length sizes < 2 ^ 32
  pub words_are : words ≡ name_words (cut_words sizes words)
