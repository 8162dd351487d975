-- Words that are found one after the other.
use Rattle.std.proofs.Common.{◌≡◌, ◌<◌, ◌-◌, ℕ, List, [], ◌∷◌, ◌++◌, length, map, take, drop, refl, sym, ap, ◌∙◌, arith, append-nil, append_assoc, length-drop, eqb-true, ◌==◌, ◌||◌, Bool, true}
use Rattle.std.specs.List.{before_first, list_any}
use Rattle.std.specs.Str.{str_to_ascii_lowercase}
use Rattle.std.proofs.lemmas.List.{map-append, take_rest}
use Rattle.std.proofs.lemmas.List.Folds.{list_any-append}
use Rattle.dom_base.proofs.Bools.{or_false}
use Rattle.dom_base.specs.Lines.{is_blank, is_control, unindented, words}
use Rattle.spice_read.proofs.FirstWords.{behind_front, front-some, unindented-shorter, words-next}
use Rattle.spice_read.proofs.LowerCase.{control-lower, words-lower}

-- what a slice gives of the rest behind a word
behind : (rest word : List ℕ) → word ≡ before_first is_blank rest → take (length rest - length word) (drop (length word) rest) ≡ behind_front rest
behind rest word is = (rw take_rest refl) ∙ ap (λ (w : List ℕ). drop (length w) rest) is

module _ (rest word next : List ℕ) (no_indent : unindented rest ≡ rest) (some : 0 < length rest) (word_is : word ≡ before_first is_blank rest)
    (next_is : next ≡ unindented (take (length rest - length word) (drop (length word) rest))) where
  pub next_shorter : length next < length rest
  next_shorter =
      let front : 0 < length (before_first is_blank rest) = front-some rest no_indent some in
      let short = unindented-shorter (behind_front rest) in
      omega (arith, front, short, length-drop (length (before_first is_blank rest)) rest, some, ap length (next_is ∙ ap unindented (behind rest word word_is)))

  next_words : words rest ≡ word ∷ words next
  next_words = words-next rest no_indent some ∙ (λ i. sym word_is i ∷ words (sym (next_is ∙ ap unindented (behind rest word word_is)) i))

-- a word is found, and the line is read in lower case
pub word_found : (found new : List (List ℕ)) (rest word next : List ℕ) → unindented rest ≡ rest → 0 < length rest → word ≡ before_first is_blank rest
    → new ≡ found ++ str_to_ascii_lowercase word ∷ [] → next ≡ unindented (take (length rest - length word) (drop (length word) rest))
    → new ++ words (str_to_ascii_lowercase next) ≡ found ++ words (str_to_ascii_lowercase rest)
word_found found new rest word next no_indent some word_is new_is next_is =
    let lower = str_to_ascii_lowercase in
    ap (λ l. l ++ words (lower next)) new_is
    ∙ append_assoc found (lower word ∷ []) (words (lower next))
    ∙ ap (λ l. found ++ lower word ∷ l) (words-lower next)
    ∙ ap (λ l. found ++ map lower l) (sym (next_words rest word next no_indent some word_is next_is))
    ∙ ap (λ l. found ++ l) (sym (words-lower rest))

-- all words of a line are found
pub found-whole : (found all : List (List ℕ)) (rest : List ℕ) → rest ≡ [] → found ++ words (str_to_ascii_lowercase rest) ≡ all → found ≡ all
found-whole found all rest none is = sym (ap (λ l. found ++ words (str_to_ascii_lowercase l)) none ∙ append-nil found) ∙ is

-- whether a word has a control byte once one more word is found
pub one_more_word : {X : Type 0} (view : X → List ℕ) (found new : List X) (word : X) (unclean one : Bool) → new ≡ found ++ word ∷ []
    → unclean ≡ list_any (list_any is_control) (map (λ w. str_to_ascii_lowercase (view w)) found) → one ≡ list_any is_control (view word)
    → (unclean || one) ≡ list_any (list_any is_control) (map (λ w. str_to_ascii_lowercase (view w)) new)
one_more_word {X} view found new word unclean one new_is so_far this =
    let any : List (List ℕ) → Bool = list_any (list_any is_control) in
    let lower : X → List ℕ = λ w. str_to_ascii_lowercase (view w) in
    (λ i. so_far i || (this ∙ sym (control-lower (view word)) ∙ sym (or_false (list_any is_control (lower word)))) i)
    ∙ sym (list_any-append (list_any is_control) (map lower found) (lower word ∷ []))
    ∙ ap any (sym (map-append lower found (word ∷ [])))
    ∙ ap (λ l. any (map lower l)) (sym new_is)

pub nothing_left : (rest : List ℕ) (b : Bool) → b ≡ (length rest == 0) → b ≡ true → rest ≡ []
nothing_left [] b is test = refl
nothing_left (x ∷ xs) b is test = absurd (omega (arith, eqb-true (length (x ∷ xs)) 0 (sym is ∙ test)))
