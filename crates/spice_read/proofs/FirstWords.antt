-- The first word of a line.
use Rattle.std.proofs.Common.{◌≡◌, ℕ, suc, ◌<◌, ◌≤◌, ◌+◌, Bool, true, false, cond, not, if◌then◌else◌, List, [], ◌∷◌, length, take, drop, filter, refl, sym, ap, ◌∙◌, arith, Some, None, take_all}
use Rattle.std.specs.List.{slice_split, onto_first, before_first, position_or_len}
use Rattle.std.proofs.lemmas.Bool.{false_from_ne_true}
use Rattle.std.proofs.lemmas.List.Sums.{position_or_len_is}
use Rattle.memchr.specs.Find.{IsFirstByte}
use Rattle.dom_base.specs.Lines.{is_blank, is_word, unindented, words, first_word}

-- the bytes before the first that passes a test
pub front_at : (test : ℕ → Bool) (line : List ℕ) (i : ℕ) → IsFirstByte test line (Some i) → take i line ≡ before_first test line
front_at test line i first =
    let lt : i < length line = first.0.high in
    let place : position_or_len test line ≡ i = position_or_len_is test line i 0 (omega arith) (λ k l. false_from_ne_true _ (first.0.before k (omega arith) l)) (λ _. first.1) in
    ap (λ n. take n line) (sym place)

pub front_none : (test : ℕ → Bool) (line : List ℕ) → IsFirstByte test line None → line ≡ before_first test line
front_none test line none =
    let place : position_or_len test line ≡ length line = position_or_len_is test line (length line) 0 (omega arith) (λ k l. false_from_ne_true _ (none k (omega arith) l)) (λ l. absurd (omega arith)) in
    sym (ap (λ n. take n line) place ∙ take_all (length line) line (omega arith))

pub front-cons : (b : ℕ) (bs : List ℕ) → is_blank b ≡ false → before_first is_blank (b ∷ bs) ≡ b ∷ before_first is_blank bs
front-cons b bs e =
    let next : 1 + position_or_len is_blank bs ≡ suc (position_or_len is_blank bs) = omega arith in
    ap (λ (t : Bool). take (if not t then 1 + position_or_len is_blank bs else 0) (b ∷ bs)) e ∙ ap (λ n. take n (b ∷ bs)) next

-- what stands behind the first piece of a line
abbrev pub behind_front : List ℕ → List ℕ
behind_front line = drop (length (before_first is_blank line)) line

-- the first piece of a line, and the others
record HasFront (line : List ℕ) : Type 0 where
  others : List (List ℕ)
  split_is : slice_split is_blank line ≡ before_first is_blank line ∷ others
  words_are : filter is_word others ≡ words (behind_front line)

split_head : (line : List ℕ) → HasFront line
split_head [] = record { others = []; split_is = refl; words_are = refl }
split_head (b ∷ bs) = by (is_blank b) refl (split_head bs)
  where
    by : (t : Bool) → is_blank b ≡ t → HasFront bs → HasFront (b ∷ bs)
    by true e rest =
        let front : before_first is_blank (b ∷ bs) ≡ [] = ap (λ (t : Bool). take (if not t then 1 + position_or_len is_blank bs else 0) (b ∷ bs)) e in
        let pieces : slice_split is_blank (b ∷ bs) ≡ [] ∷ slice_split is_blank bs = ap (λ (t : Bool). cond t ([] ∷ slice_split is_blank bs) (onto_first b (slice_split is_blank bs))) e in
        record {
          others = slice_split is_blank bs;
          split_is = pieces ∙ ap (λ l. l ∷ slice_split is_blank bs) (sym front);
          words_are = sym (ap (λ l. words (drop (length l) (b ∷ bs))) front ∙ ap (filter is_word) pieces);
        }
    by false e rest =
        let front = front-cons b bs e in
        let next : length (b ∷ before_first is_blank bs) ≡ suc (length (before_first is_blank bs)) = omega arith in
        record {
          others = rest.others;
          split_is = ap (λ (t : Bool). cond t ([] ∷ slice_split is_blank bs) (onto_first b (slice_split is_blank bs))) e
              ∙ ap (onto_first b) rest.split_is
              ∙ ap (λ l. l ∷ rest.others) (sym front);
          words_are = rest.words_are ∙ sym (ap (λ l. words (drop (length l) (b ∷ bs))) front ∙ ap (λ (n : ℕ). words (drop n (b ∷ bs))) next);
        }

-- the words of a line that begins with no blank
pub words-front : (b : ℕ) (bs : List ℕ) → is_blank b ≡ false → words (b ∷ bs) ≡ (b ∷ before_first is_blank bs) ∷ words (behind_front (b ∷ bs))
words-front b bs e =
    let head = split_head (b ∷ bs) in
    ap (filter is_word) (head.split_is ∙ ap (λ l. l ∷ head.others) (front-cons b bs e)) ∙ ap (λ l. (b ∷ before_first is_blank bs) ∷ l) head.words_are

-- blanks and tabs at the start of a line part no words
pub words-unindented : (line : List ℕ) → words (unindented line) ≡ words line
words-unindented [] = refl
words-unindented (b ∷ bs) = by (is_blank b) refl (words-unindented bs)
  where
    by : (t : Bool) → is_blank b ≡ t → words (unindented bs) ≡ words bs → words (if t then unindented bs else b ∷ bs) ≡ words (b ∷ bs)
    by true e rest = rest ∙ sym (ap (λ (t : Bool). filter is_word (cond t ([] ∷ slice_split is_blank bs) (onto_first b (slice_split is_blank bs)))) e)
    by false e rest = refl

pub unindented-shorter : (line : List ℕ) → length (unindented line) ≤ length line
unindented-shorter [] = omega arith
unindented-shorter (b ∷ bs) = by (is_blank b) (unindented-shorter bs)
  where
    by : (t : Bool) → length (unindented bs) ≤ length bs → length (if t then unindented bs else b ∷ bs) ≤ length (b ∷ bs)
    by true rest = omega (arith, rest)
    by false rest = omega arith

-- a line without blanks at its start begins with no blank
pub no_blank : (b : ℕ) (bs : List ℕ) → unindented (b ∷ bs) ≡ b ∷ bs → is_blank b ≡ false
no_blank b bs is = by (is_blank b) refl
  where
    by : (t : Bool) → is_blank b ≡ t → is_blank b ≡ false
    by true e =
        let same : unindented bs ≡ b ∷ bs = sym (ap (λ (t : Bool). if t then unindented bs else b ∷ bs) e) ∙ is in
        absurd (omega (arith, unindented-shorter bs, ap length same))
    by false e = e

pub unindented-twice : (line : List ℕ) → unindented (unindented line) ≡ unindented line
unindented-twice [] = refl
unindented-twice (b ∷ bs) = by (is_blank b) refl (unindented-twice bs)
  where
    by : (t : Bool) → is_blank b ≡ t → unindented (unindented bs) ≡ unindented bs → unindented (unindented (b ∷ bs)) ≡ unindented (b ∷ bs)
    by true e rest = rw e rest
    by false e rest = rw (e, e) refl

-- its first word is what stands before the first blank
pub first_word-front : (line : List ℕ) → unindented line ≡ line → first_word (words line) ≡ before_first is_blank line
first_word-front [] is = refl
first_word-front (b ∷ bs) is =
    let clean = no_blank b bs is in
    ap first_word (words-front b bs clean) ∙ sym (front-cons b bs clean)

-- the first of the words of a line with no blank at its start, and the others
pub words-next : (line : List ℕ) → unindented line ≡ line → 0 < length line → words line ≡ before_first is_blank line ∷ words (unindented (behind_front line))
words-next [] is some = absurd (omega (arith, some))
words-next (b ∷ bs) is some =
    let clean = no_blank b bs is in
    words-front b bs clean ∙ (λ i. sym (front-cons b bs clean) i ∷ sym (words-unindented (behind_front (b ∷ bs))) i)

-- its first word has a byte
pub front-some : (line : List ℕ) → unindented line ≡ line → 0 < length line → 0 < length (before_first is_blank line)
front-some [] is some = absurd (omega (arith, some))
front-some (b ∷ bs) is some = omega (arith, ap length (front-cons b bs (no_blank b bs is)))
