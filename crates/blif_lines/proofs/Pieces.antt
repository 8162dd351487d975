-- The words of the first line of a text, cut off one after the other where each ends.
use Rattle.std.proofs.Common.{◌≡◌, ◌≢◌, ℕ, suc, ◌<◌, ◌+◌, ◌-◌, Bool, true, false, cond, not, ◌==◌, if◌then◌else◌, List, [], ◌∷◌, ◌++◌, length, take, drop, map, filter, refl, sym, ap, ◌∙◌, arith, append_assoc, append-nil, length-append, subst, eqb-true, inl, inr}
use Rattle.std.specs.Prelude.{◌||◌, ◌⊎◌}
use Rattle.std.specs.List.{AllByRecursion, before_first, after_first, position_or_len, slice_split}
use Rattle.std.proofs.Math.Seq.{take-append-add}
use Rattle.std.proofs.lemmas.List.{take_all, drop_all}
use Rattle.std.proofs.lemmas.List.Splits.{slice_split_at, slice_split_first, slice_split_none, length-slice_split}
use Rattle.std.proofs.lemmas.List.Sums.{fails_before_first}
use Rattle.std.proofs.lemmas.List.Elements.{All-from_recursion}
use Rattle.dom_base.specs.Lines.{lines, is_blank, is_line_feed, is_word, some_piece, words, without_comment, without_return, without_empty_last}
use Rattle.dom_base.proofs.Bools.{or_none}
use Rattle.dom_base.proofs.Texts.{without_empty_last-cons}
use Rattle.dom_base.proofs.WordBytes.{without_return-each}
use Rattle.dom_base.proofs.Lists.{AllByRecursion-weaker, AllByRecursion-take, before_first-none}
use Rattle.blif_ast.specs.LogicalLines.{but_last, is_joined}
use Rattle.blif_ast.proofs.LineWords.{joined-last, last-append}
use Rattle.blif_lines.specs.Cuts.{own_part}
use Rattle.blif_lines.specs.Pieces.{ends_word, first_line, line_words, line_joined, behind_line}

-- a list with no such element in front

before-past : (p : ℕ → Bool) (front rest : List ℕ) → AllByRecursion (λ b. p b ≡ false) front → before_first p (front ++ rest) ≡ front ++ before_first p rest
before-past p [] rest h = refl
before-past p (b ∷ front) rest h =
    let next : 1 + position_or_len p (front ++ rest) ≡ suc (position_or_len p (front ++ rest)) = omega arith in
    ap (λ t. take (cond (not t) (1 + position_or_len p (front ++ rest)) 0) (b ∷ front ++ rest)) h.0
    ∙ ap (λ n. take n (b ∷ front ++ rest)) next
    ∙ ap (λ l. b ∷ l) (before-past p front rest h.1)

before-at : (p : ℕ → Bool) (b : ℕ) (rest : List ℕ) → p b ≡ true → before_first p (b ∷ rest) ≡ []
before-at p b rest is = ap (λ t. take (cond (not t) (1 + position_or_len p rest) 0) (b ∷ rest)) is

pub after-past : (p : ℕ → Bool) (front rest : List ℕ) → AllByRecursion (λ b. p b ≡ false) front → after_first p (front ++ rest) ≡ after_first p rest
after-past p [] rest h = refl
after-past p (b ∷ front) rest h =
    let next : 1 + position_or_len p (front ++ rest) + 1 ≡ suc (position_or_len p (front ++ rest) + 1) = omega arith in
    ap (λ t. drop (cond (not t) (1 + position_or_len p (front ++ rest)) 0 + 1) (b ∷ front ++ rest)) h.0
    ∙ ap (λ n. drop n (b ∷ front ++ rest)) next
    ∙ after-past p front rest h.1

after-at : (p : ℕ → Bool) (b : ℕ) (rest : List ℕ) → p b ≡ true → after_first p (b ∷ rest) ≡ rest
after-at p b rest is = ap (λ t. drop (cond (not t) (1 + position_or_len p rest) 0 + 1) (b ∷ rest)) is

-- the same with one more in front
before-behind : (p : ℕ → Bool) (front : List ℕ) (b : ℕ) (rest : List ℕ) → AllByRecursion (λ b. p b ≡ false) front → p b ≡ false
    → before_first p (front ++ b ∷ rest) ≡ front ++ b ∷ before_first p rest
before-behind p front b rest h is =
    before-past p front (b ∷ rest) h ∙ ap (λ l. front ++ l) (before-past p (b ∷ []) rest (is, tt))

after-behind : (p : ℕ → Bool) (front : List ℕ) (b : ℕ) (rest : List ℕ) → AllByRecursion (λ b. p b ≡ false) front → p b ≡ false
    → after_first p (front ++ b ∷ rest) ≡ after_first p rest
after-behind p front b rest h is = after-past p front (b ∷ rest) h ∙ after-past p (b ∷ []) rest (is, tt)

-- what a word is made of

no_blank : (w : List ℕ) → AllByRecursion (λ b. ends_word b ≡ false) w → AllByRecursion (λ b. is_blank b ≡ false) w
no_blank w h = AllByRecursion-weaker (λ b. ends_word b ≡ false) (λ b. is_blank b ≡ false) (λ b e. (or_none (is_blank b) (is_line_feed b || (b == 35)) e).0) w h

pub no_feed : (w : List ℕ) → AllByRecursion (λ b. ends_word b ≡ false) w → AllByRecursion (λ b. is_line_feed b ≡ false) w
no_feed w h = AllByRecursion-weaker (λ b. ends_word b ≡ false) (λ b. is_line_feed b ≡ false)
    (λ b e. (or_none (is_line_feed b) (b == 35) (or_none (is_blank b) (is_line_feed b || (b == 35)) e).1).0) w h

no_hash : (w : List ℕ) → AllByRecursion (λ b. ends_word b ≡ false) w → AllByRecursion (λ b. (b == 35) ≡ false) w
no_hash w h = AllByRecursion-weaker (λ b. ends_word b ≡ false) (λ b. (b == 35) ≡ false)
    (λ b e. (or_none (is_line_feed b) (b == 35) (or_none (is_blank b) (is_line_feed b || (b == 35)) e).1).1) w h

-- lines and their ends

return-behind : (front : List ℕ) (b : ℕ) (rest : List ℕ) → (b == 13) ≡ false → without_return (front ++ b ∷ rest) ≡ front ++ b ∷ without_return rest
return-behind [] b [] is = ap (λ t. if t then [] else b ∷ []) is
return-behind [] b (c ∷ rest) is = refl
return-behind (a ∷ []) b rest is = ap (λ l. a ∷ l) (return-behind [] b rest is)
return-behind (a ∷ c ∷ front) b rest is = ap (λ l. a ∷ l) (return-behind (c ∷ front) b rest is)

pub joined-behind : (front : List ℕ) (b : ℕ) (rest : List ℕ) → (b == 92) ≡ false → is_joined (front ++ b ∷ rest) ≡ is_joined rest
joined-behind front b [] is = joined-last (front ++ b ∷ []) ∙ ap (λ c. c == 92) (last-append front b []) ∙ is
joined-behind front b (c ∷ rest) is =
    joined-last (front ++ b ∷ c ∷ rest) ∙ ap (λ e. e == 92) (last-append front b (c ∷ rest)) ∙ sym (joined-last (c ∷ rest))

but_last-behind : (front : List ℕ) (b c : ℕ) (rest : List ℕ) → but_last (front ++ b ∷ c ∷ rest) ≡ front ++ b ∷ but_last (c ∷ rest)
but_last-behind front b c rest =
    let whole : (front ++ b ∷ []) ++ c ∷ rest ≡ front ++ b ∷ c ∷ rest = append_assoc front (b ∷ []) (c ∷ rest) in
    let count : length (front ++ b ∷ c ∷ rest) - 1 ≡ length (front ++ b ∷ []) + length rest =
    omega (arith, length-append front (b ∷ c ∷ rest), length-append front (b ∷ [])) in
    let short : length (c ∷ rest) - 1 ≡ length rest = omega arith in
    (λ i. take (count i) (sym whole i))
    ∙ take-append-add (front ++ b ∷ []) (c ∷ rest) (length rest)
    ∙ append_assoc front (b ∷ []) (take (length rest) (c ∷ rest))
    ∙ ap (λ n. front ++ b ∷ take n (c ∷ rest)) (sym short)

own-behind : (front : List ℕ) (b : ℕ) (rest : List ℕ) → (b == 92) ≡ false → own_part (front ++ b ∷ rest) ≡ front ++ b ∷ own_part rest
own-behind front b [] is = ap (λ t. if t then but_last (front ++ b ∷ []) else front ++ b ∷ []) (joined-behind front b [] is)
own-behind front b (c ∷ rest) is =
    ap (λ t. if t then but_last (front ++ b ∷ c ∷ rest) else front ++ b ∷ c ∷ rest) (joined-behind front b (c ∷ rest) is)
    ∙ by (is_joined (c ∷ rest))
  where
    by : (t : Bool) → (if t then but_last (front ++ b ∷ c ∷ rest) else front ++ b ∷ c ∷ rest) ≡ front ++ b ∷ (if t then but_last (c ∷ rest) else c ∷ rest)
    by true = but_last-behind front b c rest
    by false = refl

own-keeps : (P : ℕ → Type 0) (w : List ℕ) → AllByRecursion P w → AllByRecursion P (own_part w)
own-keeps P w h = by (is_joined w)
  where
    by : (t : Bool) → AllByRecursion P (if t then but_last w else w)
    by true = AllByRecursion-take P (length w - 1) w h
    by false = h

words_cut : (piece : List ℕ) (pieces : List (List ℕ)) → filter is_word (piece ∷ pieces) ≡ some_piece piece ++ filter is_word pieces
words_cut [] pieces = refl
words_cut (b ∷ bs) pieces = refl

words-behind : (w : List ℕ) (b : ℕ) (rest : List ℕ) → AllByRecursion (λ b. is_blank b ≡ false) w → is_blank b ≡ true → words (w ++ b ∷ rest) ≡ some_piece w ++ words rest
words-behind w b rest h is =
    ap (filter is_word) (slice_split_at is_blank w b rest (All-from_recursion (λ b. is_blank b ≡ false) w h) is)
    ∙ words_cut w (slice_split is_blank rest)

words-one : (w : List ℕ) → AllByRecursion (λ b. is_blank b ≡ false) w → words w ≡ some_piece w
words-one w h =
    ap (filter is_word) (slice_split_none is_blank w (All-from_recursion (λ b. is_blank b ≡ false) w h))
    ∙ words_cut w [] ∙ append-nil (some_piece w)

-- a blank is no LF, no CR, no `#` and no `\`
pub record IsPlain (b : ℕ) : Type 0 where
  pub feed : is_line_feed b ≡ false
  pub return : (b == 13) ≡ false
  pub hash : (b == 35) ≡ false
  pub join : (b == 92) ≡ false

blank_cases : (b : ℕ) → (t s : Bool) → (b == 32) ≡ t → (b == 9) ≡ s → (t || s) ≡ true → (b ≡ 32) ⊎ (b ≡ 9)
blank_cases b true s e f h = inl (eqb-true b 32 e)
blank_cases b false true e f h = inr (eqb-true b 9 f)
blank_cases b false false e f h = absurd (cc)

pub plain_blank : (b : ℕ) → is_blank b ≡ true → IsPlain b
plain_blank b is = elim (blank_cases b (b == 32) (b == 9) refl refl is) as (λ _. IsPlain b) [
  | inl e ↦ subst IsPlain (sym e) (record { feed = refl; return = refl; hash = refl; join = refl })
  | inr e ↦ subst IsPlain (sym e) (record { feed = refl; return = refl; hash = refl; join = refl })
]

-- A word, the byte that ends it, and what stands behind that.
module _ (w : List ℕ) (h : AllByRecursion (λ b. ends_word b ≡ false) w) where
  -- a blank
  module _ (b : ℕ) (rest : List ℕ) (is : is_blank b ≡ true) where
    line-blank : first_line (w ++ b ∷ rest) ≡ w ++ b ∷ first_line rest
    line-blank =
        let plain = plain_blank b is in
        ap (λ l. without_comment (without_return l)) (before-behind is_line_feed w b rest (no_feed w h) plain.feed)
        ∙ ap without_comment (return-behind w b (before_first is_line_feed rest) plain.return)
        ∙ before-behind (λ c. c == 35) w b (without_return (before_first is_line_feed rest)) (no_hash w h) plain.hash

    pub words-blank : line_words (w ++ b ∷ rest) ≡ some_piece w ++ line_words rest
    words-blank =
        ap (λ l. words (own_part l)) line-blank
        ∙ ap words (own-behind w b (first_line rest) (plain_blank b is).join)
        ∙ words-behind w b (own_part (first_line rest)) (no_blank w h) is

    pub joined-blank : line_joined (w ++ b ∷ rest) ≡ line_joined rest
    joined-blank = ap is_joined line-blank ∙ joined-behind w b (first_line rest) (plain_blank b is).join

    pub behind-blank : behind_line (w ++ b ∷ rest) ≡ behind_line rest
    behind-blank = after-behind is_line_feed w b rest (no_feed w h) (plain_blank b is).feed

  -- the `#` of a comment
  module _ (rest : List ℕ) where
    line-comment : first_line (w ++ 35 ∷ rest) ≡ w
    line-comment =
        ap (λ l. without_comment (without_return l)) (before-behind is_line_feed w 35 rest (no_feed w h) refl)
        ∙ ap without_comment (return-behind w 35 (before_first is_line_feed rest) refl)
        ∙ before-past (λ c. c == 35) w (35 ∷ without_return (before_first is_line_feed rest)) (no_hash w h)
        ∙ ap (λ l. w ++ l) (before-at (λ c. c == 35) 35 (without_return (before_first is_line_feed rest)) refl)
        ∙ append-nil w

    pub words-comment : line_words (w ++ 35 ∷ rest) ≡ some_piece (own_part w)
    words-comment = ap (λ l. words (own_part l)) line-comment ∙ words-one (own_part w) (own-keeps (λ b. is_blank b ≡ false) w (no_blank w h))

    pub joined-comment : line_joined (w ++ 35 ∷ rest) ≡ is_joined w
    joined-comment = ap is_joined line-comment

    pub behind-comment : behind_line (w ++ 35 ∷ rest) ≡ behind_line rest
    behind-comment = after-behind is_line_feed w 35 rest (no_feed w h) refl

  -- the end of the line
  line-end : (text : List ℕ) → before_first is_line_feed text ≡ w → first_line text ≡ without_return w
  line-end text is = ap (λ l. without_comment (without_return l)) is
      ∙ before_first-none (λ c. c == 35) (without_return w) (without_return-each (λ c. (c == 35) ≡ false) w (no_hash w h))

  words-end : (text : List ℕ) → before_first is_line_feed text ≡ w → line_words text ≡ some_piece (own_part (without_return w))
  words-end text is = ap (λ l. words (own_part l)) (line-end text is)
      ∙ words-one (own_part (without_return w)) (own-keeps (λ b. is_blank b ≡ false) (without_return w) (without_return-each (λ b. is_blank b ≡ false) w (no_blank w h)))

  feed-before : (rest : List ℕ) → before_first is_line_feed (w ++ 10 ∷ rest) ≡ w
  feed-before rest = before-past is_line_feed w (10 ∷ rest) (no_feed w h)
      ∙ ap (λ l. w ++ l) (before-at is_line_feed 10 rest refl) ∙ append-nil w

  pub words-feed : (rest : List ℕ) → line_words (w ++ 10 ∷ rest) ≡ some_piece (own_part (without_return w))
  words-feed rest = words-end (w ++ 10 ∷ rest) (feed-before rest)

  pub joined-feed : (rest : List ℕ) → line_joined (w ++ 10 ∷ rest) ≡ is_joined (without_return w)
  joined-feed rest = ap is_joined (line-end (w ++ 10 ∷ rest) (feed-before rest))

  pub behind-feed : (rest : List ℕ) → behind_line (w ++ 10 ∷ rest) ≡ rest
  behind-feed rest = after-past is_line_feed w (10 ∷ rest) (no_feed w h) ∙ after-at is_line_feed 10 rest refl

  pub words-last : line_words w ≡ some_piece (own_part (without_return w))
  words-last = words-end w (before_first-none is_line_feed w (no_feed w h))

  pub joined-last_line : line_joined w ≡ is_joined (without_return w)
  joined-last_line = ap is_joined (line-end w (before_first-none is_line_feed w (no_feed w h)))

  pub behind-last : behind_line w ≡ []
  behind-last = ap (after_first is_line_feed) (sym (append-nil w)) ∙ after-past is_line_feed w [] (no_feed w h)

-- the lines of a text: its first line, and those of the text behind

found_or_none : (p : ℕ → Bool) (xs : List ℕ) → (position_or_len p xs < length xs) ⊎ (position_or_len p xs ≡ length xs)
found_or_none p [] = inr refl
found_or_none p (x ∷ xs) = by (p x) refl (found_or_none p xs)
  where
    by : (t : Bool) → p x ≡ t → (position_or_len p xs < length xs) ⊎ (position_or_len p xs ≡ length xs)
        → (position_or_len p (x ∷ xs) < length (x ∷ xs)) ⊎ (position_or_len p (x ∷ xs) ≡ length (x ∷ xs))
    by true is next = let e : position_or_len p (x ∷ xs) ≡ 0 = ap (λ t. cond (not t) (1 + position_or_len p xs) 0) is in inl (omega (arith, e))
    by false is next =
        let e : position_or_len p (x ∷ xs) ≡ 1 + position_or_len p xs = ap (λ t. cond (not t) (1 + position_or_len p xs) 0) is in
        elim next as (λ _. (position_or_len p (x ∷ xs) < length (x ∷ xs)) ⊎ (position_or_len p (x ∷ xs) ≡ length (x ∷ xs))) [
          | inl lt ↦ inl (omega (arith, e, lt))
          | inr all ↦ inr (omega (arith, e, all))
        ]

last_piece : (text : List ℕ) → text ≢ [] → map without_return (without_empty_last (text ∷ [])) ≡ without_return text ∷ []
last_piece [] some = absurd (some refl)
last_piece (b ∷ text) some = refl

pub lines-first : (text : List ℕ) → text ≢ [] → lines text ≡ without_return (before_first is_line_feed text) ∷ lines (behind_line text)
lines-first text some = elim (found_or_none is_line_feed text) as (λ _. lines text ≡ without_return (before_first is_line_feed text) ∷ lines (behind_line text)) [
  | inl lt ↦
      ap (λ ps. map without_return (without_empty_last ps)) (slice_split_first is_line_feed text 0 lt)
      ∙ ap (map without_return) (without_empty_last-cons (before_first is_line_feed text) (slice_split is_line_feed (behind_line text))
      (omega (arith, length-slice_split is_line_feed (behind_line text))))
  | inr all ↦
      ap (λ ps. map without_return (without_empty_last ps))
      (slice_split_none is_line_feed text (λ k d lt. fails_before_first is_line_feed text k d (omega (arith, all, lt))))
      ∙ last_piece text some
      ∙ (λ i. without_return (sym (take_all (position_or_len is_line_feed text) text (omega (arith, all))) i)
      ∷ lines (sym (drop_all (position_or_len is_line_feed text + 1) text (omega (arith, all))) i))
]
