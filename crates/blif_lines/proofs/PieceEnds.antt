-- Where a word of a text ends: the first byte that parts words, the control bytes before it, and the last word of a line.
use Rattle.std.proofs.Common.{◌≡◌, ℕ, zero, suc, ◌≤◌, ◌<◌, ◌+◌, ◌-◌, Bool, true, false, ◌==◌, if◌then◌else◌, List, [], ◌∷◌, ◌++◌, length, take, drop, get_or, Some, None, refl, sym, ap, ◌∙◌, arith, append_assoc, append-nil, subst, eqb-true, inl, inr}
use Rattle.std.specs.Prelude.{◌||◌}
use Rattle.std.specs.List.{AllByRecursion, before_first, list_any, position, position_or_len}
use Rattle.std.proofs.Math.Seq.{take-append_seam, drop-append_seam}
use Rattle.std.proofs.lemmas.Grind.{common_steps}
use Rattle.std.proofs.lemmas.List.{take-append-drop, take_all, drop_more, get_or_past, length-append, length-drop}
use Rattle.std.proofs.lemmas.List.Folds.{list_any-append}
use Rattle.std.proofs.lemmas.List.Quantifiers.{position-Some}
use Rattle.std.proofs.lemmas.List.Sums.{fails_before_first, passes_at_first, position_or_len_is, prefix_len-le-length}
use Rattle.dom_base.specs.Lines.{is_blank, is_control, is_line_feed, lines, some_piece, without_return}
use Rattle.dom_base.proofs.Bools.{or_false, or_none, or_true}
use Rattle.dom_base.proofs.Decided.{lt_or_ge}
use Rattle.dom_base.proofs.Lists.{AllByRecursion-weaker, before_first-all, list_any-none}
use Rattle.blif_ast.specs.LogicalLines.{but_last, is_joined}
use Rattle.blif_lines.specs.Cuts.{own_part, IsPiece}
use Rattle.blif_lines.specs.Pieces.{behind_line, ends_word, has_blank_at, has_hash_at, is_special, line_joined, line_words, IsLast, IsStep}
use Rattle.blif_lines.specs.TextPlaces.{IsFrontOf, IsRestOf, StandsAt}
use Rattle.blif_lines.proofs.Pieces.{after-past, behind-blank, joined-blank, joined-comment, joined-feed, joined-last_line, lines-first, no_feed, words-blank, words-comment, words-feed, words-last}

-- the place of the first special byte

at_most : (p : ℕ → Bool) (text : List ℕ) → position_or_len p text ≤ length text
at_most p text = prefix_len-le-length _ text

pub place_is : (p : ℕ → Bool) (text : List ℕ) (n : ℕ) → position p text ≡ Some n → position_or_len p text ≡ n
place_is p text n is =
    let at = position-Some p text n 0 is in
    position_or_len_is p text n 0 (omega (arith, at.0)) at.2 (λ lt. at.1)

pub place_none : (p : ℕ → Bool) (text : List ℕ) → position p text ≡ None → position_or_len p text ≡ length text
place_none p text none = let le = at_most p text in grind (arith, common_steps, le)

-- what stands before a place up to which no byte is special
front_of : (text : List ℕ) → AllByRecursion (λ b. is_special b ≡ false) (before_first is_special text)
front_of text = before_first-all is_special text

no_end : (text : List ℕ) (k : ℕ) → k < position_or_len is_special text → ends_word (get_or text k 0) ≡ false
no_end text k lt = (or_none (ends_word (get_or text k 0)) (is_control (get_or text k 0)) (fails_before_first is_special text k 0 lt)).0

no_control : (text : List ℕ) → list_any is_control (before_first is_special text) ≡ false
no_control text = list_any-none is_control (before_first is_special text)
    (AllByRecursion-weaker (λ b. is_special b ≡ false) (λ b. is_control b ≡ false) (λ b e. (or_none (ends_word b) (is_control b) e).1) (before_first is_special text) (front_of text))

pub none_special : (text : List ℕ) → None ≡ position is_special text
    → (length text ≡ position_or_len ends_word text) × (false ≡ list_any is_control (take (length text) text))
none_special text none =
    let all : position_or_len is_special text ≡ length text = place_none is_special text (sym none) in (
      sym (position_or_len_is ends_word text (length text) 0 (omega arith) (λ k lt. no_end text k (omega (arith, lt, all))) (λ lt. absurd (omega (arith, lt)))),
      sym (ap (λ n. list_any is_control (take n text)) (sym all) ∙ no_control text),
    )

pub special_ends : (text : List ℕ) (end : ℕ) → Some end ≡ position is_special text → ends_word (get_or text end 0) ≡ true
    → (end ≡ position_or_len ends_word text) × (false ≡ list_any is_control (take end text))
special_ends text end is ends =
    let at : position_or_len is_special text ≡ end = place_is is_special text end (sym is) in
    let within = (position-Some is_special text end 0 (sym is)).0 in (
      sym (position_or_len_is ends_word text end 0 (omega (arith, within)) (λ k lt. no_end text k (omega (arith, lt, at))) (λ lt. ends)),
      sym (ap (λ n. list_any is_control (take n text)) (sym at) ∙ no_control text),
    )

control_within : (text : List ℕ) (n m : ℕ) → n < m → n < length text → is_control (get_or text n 0) ≡ true → list_any is_control (take m text) ≡ true
control_within [] n m lt within is = absurd (omega (arith, within))
control_within (b ∷ text) n zero lt within is = absurd (omega (arith, lt))
control_within (b ∷ text) zero (suc m) lt within is = ap (λ c. c || list_any is_control (take m text)) is
control_within (b ∷ text) (suc n) (suc m) lt within is =
    ap (λ c. is_control b || c) (control_within text n m (omega (arith, lt)) (omega (arith, within)) is) ∙ or_true (is_control b)

pub special_control : (text : List ℕ) (end : ℕ) → Some end ≡ position is_special text → ends_word (get_or text end 0) ≡ false
    → true ≡ list_any is_control (take (position_or_len ends_word text) text)
special_control text end is ends = elim (lt_or_ge end place) as (λ _. true ≡ list_any is_control (take place text)) [
  | inl lt ↦ sym (control_within text end place lt some.0 (ap (λ e. e || is_control (get_or text end 0)) (sym ends) ∙ some.1))
  | inr le ↦ absurd (elim (lt_or_ge place end) as (λ _. ⊥) [
    | inl lt ↦ let never : true ≡ false = sym (passes_at_first ends_word text 0 (omega (arith, lt, some.0))) ∙ no_end text place (omega (arith, lt, at)) in cc
    | inr ge ↦
        let same : place ≡ end = omega (arith, le, ge) in
        let never : true ≡ false = sym (passes_at_first ends_word text 0 (omega (arith, same, some.0))) ∙ ap (λ n. ends_word (get_or text n 0)) same ∙ ends in cc
  ])
]
  where
    place : ℕ
    place = position_or_len ends_word text

    some : (end < length text) × (is_special (get_or text end 0) ≡ true) × ((k : ℕ) → k < end → is_special (get_or text k 0) ≡ false)
    some = position-Some is_special text end 0 (sym is)

    at : position_or_len is_special text ≡ end
    at = place_is is_special text end (sym is)

-- what is left of a text

pub rest-drop : (text rest : List ℕ) (n : ℕ) → IsRestOf text rest → IsRestOf text (drop n rest)
rest-drop text rest n r = (
  r.0 ++ take n rest,
  r.1 ∙ ap (λ l. r.0 ++ l) (sym (take-append-drop n rest)) ∙ sym (append_assoc r.0 (take n rest) (drop n rest)),
)

pub stands : (text rest : List ℕ) (word : List ℕ) → IsRestOf text rest → IsFrontOf word rest → StandsAt text (length text - length rest) word
stands text rest word r f =
    let count : length text - length rest ≡ length r.0 = omega (arith, ap length r.1, length-append r.0 rest) in
    ap (λ n. take (length word) (drop n text)) count
    ∙ ap (λ l. take (length word) (drop (length r.0) l)) r.1
    ∙ ap (take (length word)) (drop-append_seam r.0 rest ∙ f.1)
    ∙ take-append_seam word f.0

pub front-take : (n : ℕ) (text : List ℕ) → IsFrontOf (take n text) text
front-take n text = (drop n text, sym (take-append-drop n text))

pub front-whole : (front word whole : List ℕ) → IsFrontOf front word → IsFrontOf word whole → IsFrontOf front whole
front-whole front word whole f g = (f.0 ++ g.0, g.1 ∙ ap (λ l. l ++ g.0) f.1 ∙ append_assoc front f.0 g.0)

front-own : (w : List ℕ) → IsFrontOf (own_part w) w
front-own w = by (is_joined w)
  where
    by : (t : Bool) → IsFrontOf (if t then but_last w else w) w
    by true = front-take (length w - 1) w
    by false = ([], sym (append-nil w))

front-return : (w : List ℕ) → IsFrontOf (without_return w) w
front-return [] = ([], refl)
front-return (b ∷ []) = by (b == 13)
  where
    by : (t : Bool) → IsFrontOf (if t then [] else b ∷ []) (b ∷ [])
    by true = (b ∷ [], refl)
    by false = ([], refl)
front-return (b ∷ c ∷ w) = let next = front-return (c ∷ w) in (next.0, ap (λ l. b ∷ l) next.1)

-- a front of what has no control byte has none
pub control-front : (control : Bool) (front whole : List ℕ) → IsFrontOf front whole → control ≡ list_any is_control whole
    → control ≡ false → false ≡ list_any is_control front
control-front control front whole f is none =
    sym ((or_none (list_any is_control front) (list_any is_control f.0)
    (sym (list_any-append is_control front f.0) ∙ ap (list_any is_control) (sym f.1) ∙ sym is ∙ none)).0)

-- a word that a blank ends

pub record IsWordAt (text word : List ℕ) (b : ℕ) (rest : List ℕ) : Type 0 where
  pub text_is : text ≡ word ++ b ∷ rest
  pub word_is : AllByRecursion (λ c. ends_word c ≡ false) word

word_all : (text : List ℕ) (end : ℕ) → end ≡ position_or_len ends_word text → AllByRecursion (λ c. ends_word c ≡ false) (take end text)
word_all text end is = subst (λ n. AllByRecursion (λ c. ends_word c ≡ false) (take n text)) (sym is) (before_first-all ends_word text)

word_at : (text : List ℕ) (end : ℕ) → end ≡ position_or_len ends_word text → end < length text
    → IsWordAt text (take end text) (get_or text end 0) (drop (end + 1) text)
word_at text end is lt = record {
  text_is = sym (take-append-drop end text) ∙ ap (λ l. take end text ++ l) (drop_more text end 0 lt);
  word_is = word_all text end is;
}

pub blank_within : (text : List ℕ) (end : ℕ) → has_blank_at text end ≡ true → end < length text
blank_within text end is = elim (lt_or_ge end (length text)) as (λ _. end < length text) [
  | inl lt ↦ lt
  | inr ge ↦ let never : is_blank 0 ≡ true = ap is_blank (sym (get_or_past text end 0 ge)) ∙ is in absurd (cc)
]

-- a word that a blank ends is the first of the line
pub step : (text : List ℕ) (end : ℕ) → end ≡ position_or_len ends_word text → has_blank_at text end ≡ true → IsStep text (drop (end + 1) text) end
step text end is blank = record {
  words = ap line_words w.text_is ∙ words-blank (take end text) w.word_is (get_or text end 0) (drop (end + 1) text) blank;
  joined = ap line_joined w.text_is ∙ joined-blank (take end text) w.word_is (get_or text end 0) (drop (end + 1) text) blank;
  behind = ap behind_line w.text_is ∙ behind-blank (take end text) w.word_is (get_or text end 0) (drop (end + 1) text) blank;
  shorter = omega (arith, lt, length-drop (end + 1) text);
}
  where
    lt : end < length text
    lt = blank_within text end blank

    w : IsWordAt text (take end text) (get_or text end 0) (drop (end + 1) text)
    w = word_at text end is lt

-- the last word of a line

-- a comment ends it
pub last-comment : (text : List ℕ) (end : ℕ) → end ≡ position_or_len ends_word text → has_hash_at text end ≡ true → IsLast text (take end text) end
last-comment text end is hash = record {
  words = ap line_words text_is ∙ words-comment (take end text) w.word_is (drop (end + 1) text);
  joined = ap line_joined text_is ∙ joined-comment (take end text) w.word_is (drop (end + 1) text);
  front = front-own (take end text);
}
  where
    within : end < length text
    within = elim (lt_or_ge end (length text)) as (λ _. end < length text) [
      | inl lt ↦ lt
      | inr ge ↦ let never : (0 == 35) ≡ true = ap (λ b. b == 35) (sym (get_or_past text end 0 ge)) ∙ hash in absurd (cc)
    ]

    w : IsWordAt text (take end text) (get_or text end 0) (drop (end + 1) text)
    w = word_at text end is within

    text_is : text ≡ take end text ++ 35 ∷ drop (end + 1) text
    text_is = w.text_is ∙ ap (λ b. take end text ++ b ∷ drop (end + 1) text) (eqb-true (get_or text end 0) 35 hash)

feed_is : (b : ℕ) → ends_word b ≡ true → is_blank b ≡ false → (b == 35) ≡ false → b ≡ 10
feed_is b ends blank hash =
    eqb-true b 10 (sym (or_false (b == 10)) ∙ ap (λ h. (b == 10) || h) (sym hash) ∙ ap (λ t. t || ((b == 10) || (b == 35))) (sym blank) ∙ ends)

-- an LF or the end of the text ends it
pub last-plain : (text : List ℕ) (end : ℕ) → end ≡ position_or_len ends_word text → has_hash_at text end ≡ false → has_blank_at text end ≡ false
    → IsLast text (without_return (take end text)) end
last-plain text end is hash blank = elim (lt_or_ge end (length text)) as (λ _. IsLast text (without_return (take end text)) end) [
  | inl lt ↦
      let w = word_at text end is lt in
      let ends : ends_word (get_or text end 0) ≡ true = ap (λ n. ends_word (get_or text n 0)) is ∙ passes_at_first ends_word text 0 (omega (arith, lt, is)) in
      let text_is : text ≡ take end text ++ 10 ∷ drop (end + 1) text =
      w.text_is ∙ ap (λ b. take end text ++ b ∷ drop (end + 1) text) (feed_is (get_or text end 0) ends blank hash) in
      record {
        words = ap line_words text_is ∙ words-feed (take end text) w.word_is (drop (end + 1) text);
        joined = ap line_joined text_is ∙ joined-feed (take end text) w.word_is (drop (end + 1) text);
        front = front;
      }
  | inr ge ↦
      let all : text ≡ take end text = sym (take_all end text ge) in
      record {
        words = ap line_words all ∙ words-last (take end text) (word_all text end is);
        joined = ap line_joined all ∙ joined-last_line (take end text) (word_all text end is);
        front = front;
      }
]
  where
    front : IsFrontOf (own_part (without_return (take end text))) (take end text)
    front = front-whole (own_part (without_return (take end text))) (without_return (take end text)) (take end text)
        (front-own (without_return (take end text))) (front-return (take end text))

-- what stands behind the line stands behind the last word's end too
pub behind-last_word : (text : List ℕ) (end : ℕ) → end ≡ position_or_len ends_word text → behind_line (drop end text) ≡ behind_line text
behind-last_word text end is =
    sym (after-past is_line_feed (take end text) (drop end text) (no_feed (take end text) (word_all text end is)))
    ∙ ap behind_line (take-append-drop end text)

-- a line is a piece of the lines of the text
pub piece : (text : List ℕ) (before : List (List ℕ)) → 0 < length text → IsPiece (lines text) (line_joined text) before (before ++ line_words text) (lines (behind_line text))
piece text before some = record {
  line = without_return (before_first is_line_feed text);
  lines_are = lines-first text (λ none. absurd (omega (arith, some, ap length none)));
  goes_on_is = refl;
  words_are = refl;
}

pub behind-shorter : (text : List ℕ) → 0 < length text → length (behind_line text) < length text
behind-shorter text some = omega (arith, some, length-drop (position_or_len is_line_feed text + 1) text)

pub behind-rest : (text rest : List ℕ) → IsRestOf text rest → IsRestOf text (behind_line rest)
behind-rest text rest r = rest-drop text rest (position_or_len is_line_feed rest + 1) r

-- What a line that is cut off word by word keeps: the words so far and those that are left are its words.
pub record IsCutting (text first : List ℕ) (before : List (List ℕ)) (rest : List ℕ) (words : List (List ℕ)) : Type 0 where
  pub rest_is : IsRestOf text rest
  pub no_longer : length rest ≤ length first
  pub words_are : words ++ line_words rest ≡ before ++ line_words first
  pub joined : line_joined rest ≡ line_joined first
  pub behind : behind_line rest ≡ behind_line first

pub cutting-starts : (text first : List ℕ) (before : List (List ℕ)) → IsRestOf text first → IsCutting text first before first before
cutting-starts text first before r = record { rest_is = r; no_longer = omega arith; words_are = refl; joined = refl; behind = refl }

-- one word more
pub cutting-step : (text first : List ℕ) (before : List (List ℕ)) (rest : List ℕ) (words : List (List ℕ)) (next : List ℕ) (more : List (List ℕ)) (end : ℕ)
    → IsCutting text first before rest words → IsStep rest next end → IsRestOf text next → more ≡ words ++ some_piece (take end rest)
    → IsCutting text first before next more
cutting-step text first before rest words next more end c s r is = record {
  rest_is = r;
  no_longer = omega (arith, c.no_longer, s.shorter);
  words_are = ap (λ ws. ws ++ line_words next) is ∙ append_assoc words (some_piece (take end rest)) (line_words next)
      ∙ ap (λ ws. words ++ ws) (sym s.words) ∙ c.words_are;
  joined = sym s.joined ∙ c.joined;
  behind = sym s.behind ∙ c.behind;
}

-- the last word
pub cutting-ends : (text first : List ℕ) (before : List (List ℕ)) (rest : List ℕ) (words after : List (List ℕ)) (goes_on : Bool) (left : List ℕ)
    → 0 < length first → IsCutting text first before rest words → goes_on ≡ line_joined rest → after ≡ words ++ line_words rest → left ≡ behind_line rest
    → IsPiece (lines first) goes_on before after (lines left)
cutting-ends text first before rest words after goes_on left some c joins is behind =
    subst (λ ls. IsPiece (lines first) goes_on before after (lines ls)) (sym (behind ∙ c.behind))
    (subst (λ ws. IsPiece (lines first) goes_on before ws (lines (behind_line first))) (sym (is ∙ c.words_are))
    (subst (λ b. IsPiece (lines first) b before (before ++ line_words first) (lines (behind_line first))) (sym (joins ∙ c.joined)) (piece first before some)))

pub left-shorter : (text first : List ℕ) (before : List (List ℕ)) (rest : List ℕ) (words : List (List ℕ)) (left : List ℕ) → 0 < length first
    → IsCutting text first before rest words → left ≡ behind_line rest → length left < length first
left-shorter text first before rest words left some c behind =
    omega (arith, behind-shorter first some, ap length (behind ∙ c.behind))
