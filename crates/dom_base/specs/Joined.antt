-- Lines that are put together from words, and texts that are put together from lines.
use Rattle.std.specs.Prelude.{ℕ, ◌≡◌, true, false, ◌==◌, List, [], ◌∷◌, ◌++◌, All}
use Rattle.std.specs.List.{flat_map}
use Rattle.dom_base.specs.Lines.{is_blank, is_line_feed, is_word}

-- a line with the LF that ends it
abbrev pub ended : List ℕ → List ℕ
ended line = line ++ 10 ∷ []

-- words with one blank before each
abbrev pub after_blanks : List (List ℕ) → List ℕ
after_blanks others = flat_map (λ word. 32 ∷ word) others

-- a first word, and others with one blank before each
abbrev pub joined : List ℕ → List (List ℕ) → List ℕ
joined first others = first ++ after_blanks others

-- a line without LF and CR
pub record IsClean (line : List ℕ) : Type 0 where
  pub no_feed : All (λ b. is_line_feed b ≡ false) line
  pub no_return : All (λ b. (b == 13) ≡ false) line

-- a word without blanks
pub record IsSolid (word : List ℕ) : Type 0 where
  pub some : is_word word ≡ true
  pub no_blank : All (λ b. is_blank b ≡ false) word
