-- Lines and words in lower case: their letters change, and nothing that parts them.
use Rattle.std.proofs.Common.{◌≡◌, ℕ, Bool, true, false, cond, ◌==◌, ◌||◌, ◌&&◌, codes, nat_eq, if◌then◌else◌, List, [], ◌∷◌, map, filter, refl, sym, ap, ◌∙◌, arith}
use Rattle.std.specs.Char.{to_ascii_lowercase}
use Rattle.std.specs.Str.{str_to_ascii_lowercase}
use Rattle.std.specs.List.{AllByRecursion, before_first, list_any, slice_split, onto_first}
use Rattle.std.proofs.lemmas.Bool.Decides.{nat_tests}
use Rattle.dom_base.specs.Lines.{is_blank, is_control, is_word, unindented, words, IsLowerWord, first_word}
use Rattle.dom_base.proofs.Texts.{onto_first-map}
use Rattle.dom_base.proofs.WordBytes.{lower_bytes, lower_words}
use Rattle.std.specs.Cmp.Lexicographic.{pointwise}
use Rattle.deck.specs.DeckText.{is_end}
use Rattle.deck.specs.DeckCards.{has_equals}
use Rattle.spice_read.proofs.FirstWords.{first_word-front, front-cons, no_blank}
use Rattle.spice_read.specs.Readers.{begins_dotted}

lower_blank : (b : ℕ) → is_blank (to_ascii_lowercase b) ≡ is_blank b
lower_blank b = grind (arith, nat_tests)

lower_control : (b : ℕ) → is_control (to_ascii_lowercase b) ≡ is_control b
lower_control b = grind (arith, nat_tests)

lower_equals : (b : ℕ) → (to_ascii_lowercase b == 61) ≡ (b == 61)
lower_equals b = grind (arith, nat_tests)

split-map : (test : ℕ → Bool) (f : ℕ → ℕ) → ((b : ℕ) → test (f b) ≡ test b) → (bs : List ℕ) → slice_split test (map f bs) ≡ map (map f) (slice_split test bs)
split-map test f same [] = refl
split-map test f same (b ∷ bs) =
    (λ i. cond (same b i) ([] ∷ split-map test f same bs i) (onto_first (f b) (split-map test f same bs i)))
    ∙ by (test b)
  where
    by : (t : Bool) → cond t ([] ∷ map (map f) (slice_split test bs)) (onto_first (f b) (map (map f) (slice_split test bs)))
        ≡ map (map f) (cond t ([] ∷ slice_split test bs) (onto_first b (slice_split test bs)))
    by true = refl
    by false = onto_first-map f b (slice_split test bs)

some-map : (f : ℕ → ℕ) (ps : List (List ℕ)) → filter is_word (map (map f) ps) ≡ map (map f) (filter is_word ps)
some-map f [] = refl
some-map f ([] ∷ ps) = some-map f ps
some-map f ((b ∷ bs) ∷ ps) = ap (λ l. map f (b ∷ bs) ∷ l) (some-map f ps)

-- the words of a line in lower case
pub words-lower : (line : List ℕ) → words (str_to_ascii_lowercase line) ≡ map str_to_ascii_lowercase (words line)
words-lower line =
    ap (filter is_word) (split-map is_blank to_ascii_lowercase lower_blank line) ∙ some-map to_ascii_lowercase (slice_split is_blank line)

-- a line in lower case without the blanks and tabs at its start
pub unindented-lower : (line : List ℕ) → unindented (str_to_ascii_lowercase line) ≡ str_to_ascii_lowercase (unindented line)
unindented-lower [] = refl
unindented-lower (b ∷ bs) =
    (λ i. if lower_blank b i then unindented-lower bs i else str_to_ascii_lowercase (b ∷ bs)) ∙ by (is_blank b)
  where
    by : (t : Bool) → (if t then str_to_ascii_lowercase (unindented bs) else str_to_ascii_lowercase (b ∷ bs)) ≡ str_to_ascii_lowercase (if t then unindented bs else b ∷ bs)
    by true = refl
    by false = refl

first_word-lower : (all : List (List ℕ)) → first_word (map str_to_ascii_lowercase all) ≡ str_to_ascii_lowercase (first_word all)
first_word-lower [] = refl
first_word-lower (word ∷ all) = refl

-- the first word of a line without blanks and tabs at its start
pub front-lower : (line : List ℕ) → unindented line ≡ line → first_word (words (str_to_ascii_lowercase line)) ≡ str_to_ascii_lowercase (before_first is_blank line)
front-lower line is =
    ap first_word (words-lower line) ∙ first_word-lower (words line) ∙ ap str_to_ascii_lowercase (first_word-front line is)

lower_dot : (b : ℕ) → (to_ascii_lowercase b == 46) ≡ (b == 46)
lower_dot b = grind (arith, nat_tests)

-- a line whose first byte is no `.` begins no card with that
pub no_end : (line : List ℕ) → unindented line ≡ line → begins_dotted line ≡ false → is_end (str_to_ascii_lowercase line) ≡ false
no_end [] is first = refl
no_end (b ∷ bs) is first =
    ap (λ w. pointwise nat_eq w (codes ".end")) (front-lower (b ∷ bs) is ∙ ap str_to_ascii_lowercase (front-cons b bs (no_blank b bs is)))
    ∙ ap (λ t. t && pointwise nat_eq (str_to_ascii_lowercase (before_first is_blank bs)) (codes "end")) (lower_dot b ∙ first)

any-lower : (test : ℕ → Bool) → ((b : ℕ) → test (to_ascii_lowercase b) ≡ test b) → (word : List ℕ) → list_any test (str_to_ascii_lowercase word) ≡ list_any test word
any-lower test same [] = refl
any-lower test same (b ∷ bs) = λ i. same b i || any-lower test same bs i

-- control bytes and `=` are no letters
pub control-lower : (word : List ℕ) → list_any is_control (str_to_ascii_lowercase word) ≡ list_any is_control word
control-lower word = any-lower is_control lower_control word

pub equals-lower : (word : List ℕ) → has_equals (str_to_ascii_lowercase word) ≡ has_equals word
equals-lower word = any-lower (λ b. b == 61) lower_equals word

-- the same of words that are read by any view
module _ {X : Type 0} (view : X → List ℕ) where
  pub lower-map : (all : List X) → map (λ x. str_to_ascii_lowercase (view x)) all ≡ map str_to_ascii_lowercase (map view all)
  lower-map [] = refl
  lower-map (x ∷ all) = ap (λ l. str_to_ascii_lowercase (view x) ∷ l) (lower-map all)

  pub words_of-lower : (all : List X) (line : List ℕ) → map view all ≡ words line → map (λ x. str_to_ascii_lowercase (view x)) all ≡ words (str_to_ascii_lowercase line)
  words_of-lower all line is = lower-map all ∙ ap (map str_to_ascii_lowercase) is ∙ sym (words-lower line)

-- the words of a line in lower case have no upper-case letter
pub line_words : (line : List ℕ) → AllByRecursion IsLowerWord (words (str_to_ascii_lowercase line))
line_words line = lower_words (str_to_ascii_lowercase line) (lower_bytes line)
