-- Texts and their lines: cutting the first line off a text and the comment off a line, texts that are put together from lines
-- and lines from words, and changes of bytes that leave the lines as they are.
use Rattle.std.proofs.Common.{◌≡◌, ◌≢◌, ℕ, zero, suc, ◌<◌, ◌+◌, ◌-◌, Bool, true, false, ◌==◌, List, [], ◌∷◌, ◌++◌, length, get_or, take, drop, map, refl, sym, ap, ◌∙◌, arith, Some, None, ne_eqb, if◌then◌else◌, append_assoc, append-nil, length-drop, filter, All, cond}
use Rattle.std.proofs.Math.Seq.{drop-length}
use Rattle.std.specs.List.{slice_split, before_first, position_or_len, after_first, flat_map, AllByRecursion, onto_first}
use Rattle.std.proofs.lemmas.Bool.{false_from_ne_true}
use Rattle.std.proofs.lemmas.List.{take_all, take_rest, get_or_default, drop_all}
use Rattle.std.proofs.lemmas.List.Sums.{position_or_len_is}
use Rattle.std.proofs.lemmas.List.Splits.{slice_split_first, slice_split_none, length-slice_split, slice_split_at}
use Rattle.memchr.specs.Find.{IsFirstByte, is_byte}
use Rattle.dom_base.specs.Lines.{lines, is_line_feed, without_comment, without_empty_last, without_return, is_blank, is_word, words, unindented, some_piece}
use Rattle.dom_base.specs.Cuts.{IsCut}
use Rattle.std.proofs.lemmas.List.Elements.{All-tail, All-head}
use Rattle.std.specs.Char.{to_ascii_lowercase}
use Rattle.std.proofs.lemmas.Bool.Decides.{nat_tests}
use Rattle.dom_base.specs.Joined.{ended, after_blanks, joined, IsClean, IsSolid}
use Rattle.dom_base.proofs.Lists.{length-some}

-- where a byte first stands, and where it doesn't stand at all
pub place_of_first : (c : ℕ) (text : List ℕ) (i : ℕ) → IsFirstByte (is_byte c) text (Some i) → position_or_len (λ b. b == c) text ≡ i
place_of_first c text i first =
    let lt : i < length text = first.0.high in
    position_or_len_is (λ b. b == c) text i 0 (omega arith) (λ k l. false_from_ne_true _ (first.0.before k (omega arith) l)) (λ _. first.1)

pub place_of_none : (c : ℕ) (text : List ℕ) → IsFirstByte (is_byte c) text None → position_or_len (λ b. b == c) text ≡ length text
place_of_none c text none =
    position_or_len_is (λ b. b == c) text (length text) 0 (omega arith) (λ k l. false_from_ne_true _ (none k (omega arith) l)) (λ l. absurd (omega arith))

pub comment_at : (line : List ℕ) (i : ℕ) → IsFirstByte (is_byte 35) line (Some i) → take i line ≡ without_comment line
comment_at line i first = ap (λ n. take n line) (sym (place_of_first 35 line i first))

pub no_comment : (line : List ℕ) → IsFirstByte (is_byte 35) line None → line ≡ without_comment line
no_comment line none = sym (ap (λ n. take n line) (place_of_none 35 line none) ∙ take_all (length line) line (omega arith))

pub without_empty_last-cons : (piece : List ℕ) (pieces : List (List ℕ)) → 0 < length pieces → without_empty_last (piece ∷ pieces) ≡ piece ∷ without_empty_last pieces
without_empty_last-cons piece [] some = absurd (omega arith)
without_empty_last-cons piece (next ∷ pieces) some = refl

-- what ends a line: a CR, where there is one
return_of : (line : List ℕ) → (ending : List ℕ) × (line ≡ without_return line ++ ending)
return_of [] = ([], refl)
return_of (b ∷ []) = by (b == 13)
  where
    by : (t : Bool) → (ending : List ℕ) × (b ∷ [] ≡ (if t then [] else b ∷ []) ++ ending)
    by true = (b ∷ [], refl)
    by false = ([], refl)
return_of (b ∷ next ∷ bs) = let r = return_of (next ∷ bs) in (r.0, ap (λ l. b ∷ l) r.1)

-- the text before an index, at it and behind it
parted : (i : ℕ) (text : List ℕ) → i < length text → (feed : List ℕ) × (text ≡ take i text ++ feed ++ drop (suc i) text)
parted i [] lt = absurd (omega arith)
parted zero (b ∷ bs) lt = (b ∷ [], refl)
parted (suc i) (b ∷ bs) lt = let r = parted i bs (omega arith) in (r.0, ap (λ l. b ∷ l) r.1)

parts-at : (text : List ℕ) (i : ℕ) → i < length text → (ending : List ℕ) × (text ≡ without_return (take i text) ++ ending ++ drop (i + 1) text)
parts-at text i lt =
    let front = without_return (take i text) in
    let behind = return_of (take i text) in
    let p = parted i text lt in
    let next : suc i ≡ i + 1 = omega arith in (
      behind.0 ++ p.0,
      p.1
          ∙ ap (λ n. take i text ++ p.0 ++ drop n text) next
          ∙ ap (λ l. l ++ p.0 ++ drop (i + 1) text) behind.1
          ∙ ap (λ l. l ++ drop (i + 1) text) (append_assoc front behind.0 p.0),
    )

-- the first line of a text that has a line feed
lines-at : (text : List ℕ) (i : ℕ) → i < length text → position_or_len is_line_feed text ≡ i → lines text ≡ without_return (take i text) ∷ lines (drop (i + 1) text)
lines-at text i lt place =
    let some : 0 < length (slice_split is_line_feed (after_first is_line_feed text)) = omega (arith, length-slice_split is_line_feed (after_first is_line_feed text)) in
    let split = slice_split_first is_line_feed text 0 (omega (arith, place, lt)) in
    ap (λ ps. map without_return (without_empty_last ps)) split
    ∙ ap (map without_return) (without_empty_last-cons (before_first is_line_feed text) (slice_split is_line_feed (after_first is_line_feed text)) some)
    ∙ ap (λ n. without_return (take n text) ∷ lines (drop (n + 1) text)) place

pub IsCut-at : (text line : List ℕ) (i : ℕ) → line ≡ without_return (take i text) → IsFirstByte (is_byte 10) text (Some i) → IsCut text line (take (length text - (i + 1)) (drop (i + 1) text))
IsCut-at text line i is first =
    let lt : i < length text = first.0.high in
    rw (take_rest, is) record {
      ending = (parts-at text i lt).0;
      text_is = (parts-at text i lt).1;
      rest_is = ap (λ n. drop (n + 1) text) (sym (place_of_first 10 text i first));
      lines_are = lines-at text i lt (place_of_first 10 text i first);
      shorter = omega (arith, length-drop (i + 1) text, lt);
    }

lines-whole : (text : List ℕ) → text ≢ [] → ((k : ℕ) (d : ℕ) → k < length text → is_line_feed (get_or text k d) ≡ false) → lines text ≡ without_return text ∷ []
lines-whole [] some clean = absurd (some refl)
lines-whole (b ∷ bs) some clean = ap (λ ps. map without_return (without_empty_last ps)) (slice_split_none is_line_feed (b ∷ bs) clean)

-- nothing stands behind a line feed that isn't there
nothing-behind : (text : List ℕ) → IsFirstByte (is_byte 10) text None → after_first is_line_feed text ≡ []
nothing-behind text none = ap (λ n. drop (n + 1) text) (place_of_none 10 text none) ∙ drop_all (length text + 1) text (omega arith)

pub IsCut-whole : (text line : List ℕ) → text ≢ [] → line ≡ without_return text → IsFirstByte (is_byte 10) text None → IsCut text line (take (length text - length text) (drop (length text) text))
IsCut-whole text line some is none =
    rw (take_rest, drop-length, is) record {
      ending = (return_of text).0;
      text_is = (return_of text).1 ∙ sym (append-nil (without_return text ++ (return_of text).0));
      rest_is = sym (nothing-behind text none);
      lines_are = lines-whole text some (λ k d l. ap is_line_feed (get_or_default text k d 0 l) ∙ false_from_ne_true _ (none k (omega arith) l));
      shorter = omega (arith, length-some text some);
    }

-- a line with a CR at its end, and one without
pub without_return-at : (front : List ℕ) → without_return (front ++ 13 ∷ []) ≡ front
without_return-at [] = refl
without_return-at (b ∷ []) = refl
without_return-at (b ∷ next ∷ bs) = ap (λ l. b ∷ l) (without_return-at (next ∷ bs))

pub without_return-no_end : (line : List ℕ) → ((front : List ℕ) → line ≡ front ++ 13 ∷ [] → ⊥) → line ≡ without_return line
without_return-no_end [] h = refl
without_return-no_end (b ∷ []) h = rw (ne_eqb b 13 (λ e. h [] (ap (λ x. x ∷ []) e))) refl
without_return-no_end (b ∷ next ∷ bs) h = ap (λ l. b ∷ l) (without_return-no_end (next ∷ bs) (λ front e. h (b ∷ front) (ap (λ l. b ∷ l) e)))

split-ended : (all : List (List ℕ)) → AllByRecursion IsClean all → slice_split is_line_feed (flat_map ended all) ≡ all ++ [] ∷ []
split-ended [] h = refl
split-ended (line ∷ all) h =
    ap (slice_split is_line_feed) (append_assoc line (10 ∷ []) (flat_map ended all))
    ∙ slice_split_at is_line_feed line 10 (flat_map ended all) h.0.no_feed refl
    ∙ ap (λ l. line ∷ l) (split-ended all h.1)

without_empty_last-push : (all : List (List ℕ)) → without_empty_last (all ++ [] ∷ []) ≡ all
without_empty_last-push [] = refl
without_empty_last-push (line ∷ []) = refl
without_empty_last-push (line ∷ next ∷ all) = ap (λ l. line ∷ l) (without_empty_last-push (next ∷ all))

without_return-none : (line : List ℕ) → All (λ b. (b == 13) ≡ false) line → without_return line ≡ line
without_return-none [] h = refl
without_return-none (b ∷ []) h = ap (λ t. if t then [] else b ∷ []) (All-head (λ c. (c == 13) ≡ false) b [] h)
without_return-none (b ∷ next ∷ bs) h = ap (λ l. b ∷ l) (without_return-none (next ∷ bs) (All-tail (λ c. (c == 13) ≡ false) b (next ∷ bs) h))

map-without_return : (all : List (List ℕ)) → AllByRecursion IsClean all → map without_return all ≡ all
map-without_return [] h = refl
map-without_return (line ∷ all) h = let one = without_return-none line h.0.no_return in let rest = map-without_return all h.1 in cc

-- lines that are put together, each with LF at its end, are cut back into these lines
pub lines-ended : (all : List (List ℕ)) → AllByRecursion IsClean all → lines (flat_map ended all) ≡ all
lines-ended all h =
    ap (λ l. map without_return (without_empty_last l)) (split-ended all h)
    ∙ ap (map without_return) (without_empty_last-push all)
    ∙ map-without_return all h

split-joined : (first : List ℕ) (others : List (List ℕ)) → IsSolid first → AllByRecursion IsSolid others
    → slice_split is_blank (joined first others) ≡ first ∷ others
split-joined first [] f h = ap (slice_split is_blank) (append-nil first) ∙ slice_split_none is_blank first f.no_blank
split-joined first (word ∷ others) f h =
    slice_split_at is_blank first 32 (joined word others) f.no_blank refl
    ∙ ap (λ l. first ∷ l) (split-joined word others h.0 h.1)

filter-solid : (all : List (List ℕ)) → AllByRecursion IsSolid all → filter is_word all ≡ all
filter-solid [] h = refl
filter-solid (word ∷ all) h = rw h.0.some (ap (λ l. word ∷ l) (filter-solid all h.1))

-- words that are put together with one blank between any two are the words of that line
pub words-joined : (first : List ℕ) (others : List (List ℕ)) → IsSolid first → AllByRecursion IsSolid others
    → words (joined first others) ≡ first ∷ others
words-joined first others f h = ap (filter is_word) (split-joined first others f h) ∙ filter-solid (first ∷ others) (f, h)

-- the same where a blank stands before the first
pub words-after_blanks : (others : List (List ℕ)) → AllByRecursion IsSolid others → words (after_blanks others) ≡ others
words-after_blanks [] h = refl
words-after_blanks (word ∷ others) h = words-joined word others h.0 h.1

-- a line that begins with no blank stays
pub unindented-none : (b : ℕ) (bs : List ℕ) → is_blank b ≡ false → unindented (b ∷ bs) ≡ b ∷ bs
unindented-none b bs h = ap (λ t. if t then unindented bs else b ∷ bs) h

-- a change of bytes that leaves LF, CR, blanks and tabs what they are
pub record KeepsMarks (f : ℕ → ℕ) : Type 0 where
  pub feed : (b : ℕ) → is_line_feed (f b) ≡ is_line_feed b
  pub return : (b : ℕ) → (f b == 13) ≡ (b == 13)
  pub blank : (b : ℕ) → is_blank (f b) ≡ is_blank b

pub onto_first-map : (f : ℕ → ℕ) (x : ℕ) (ps : List (List ℕ)) → onto_first (f x) (map (map f) ps) ≡ map (map f) (onto_first x ps)
onto_first-map f x [] = refl
onto_first-map f x (p ∷ ps) = refl

split-map : (f : ℕ → ℕ) → KeepsMarks f → (bs : List ℕ) → slice_split is_line_feed (map f bs) ≡ map (map f) (slice_split is_line_feed bs)
split-map f k [] = refl
split-map f k (b ∷ bs) =
    (λ i. cond (k.feed b i) ([] ∷ split-map f k bs i) (onto_first (f b) (split-map f k bs i)))
    ∙ by (is_line_feed b)
  where
    by : (t : Bool) → cond t ([] ∷ map (map f) (slice_split is_line_feed bs)) (onto_first (f b) (map (map f) (slice_split is_line_feed bs)))
        ≡ map (map f) (cond t ([] ∷ slice_split is_line_feed bs) (onto_first b (slice_split is_line_feed bs)))
    by true = refl
    by false = onto_first-map f b (slice_split is_line_feed bs)

some_piece-map : (f : ℕ → ℕ) (piece : List ℕ) → some_piece (map f piece) ≡ map (map f) (some_piece piece)
some_piece-map f [] = refl
some_piece-map f (b ∷ bs) = refl

pieces-map : (f : ℕ → ℕ) (ps : List (List ℕ)) → without_empty_last (map (map f) ps) ≡ map (map f) (without_empty_last ps)
pieces-map f [] = refl
pieces-map f (p ∷ []) = some_piece-map f p
pieces-map f (p ∷ q ∷ ps) = ap (λ l. map f p ∷ l) (pieces-map f (q ∷ ps))

without_return-map : (f : ℕ → ℕ) → KeepsMarks f → (line : List ℕ) → without_return (map f line) ≡ map f (without_return line)
without_return-map f k [] = refl
without_return-map f k (b ∷ []) = ap (λ (t : Bool). if t then [] else f b ∷ []) (k.return b) ∙ by (b == 13)
  where
    by : (t : Bool) → (if t then [] else f b ∷ []) ≡ map f (if t then [] else b ∷ [])
    by true = refl
    by false = refl
without_return-map f k (b ∷ c ∷ bs) = ap (λ l. f b ∷ l) (without_return-map f k (c ∷ bs))

returns-map : (f : ℕ → ℕ) → KeepsMarks f → (ps : List (List ℕ)) → map without_return (map (map f) ps) ≡ map (map f) (map without_return ps)
returns-map f k [] = refl
returns-map f k (p ∷ ps) = λ i. without_return-map f k p i ∷ returns-map f k ps i

pub lines-map : (f : ℕ → ℕ) → KeepsMarks f → (text : List ℕ) → lines (map f text) ≡ map (map f) (lines text)
lines-map f k text =
    ap (λ ps. map without_return (without_empty_last ps)) (split-map f k text)
    ∙ ap (map without_return) (pieces-map f (slice_split is_line_feed text))
    ∙ returns-map f k (without_empty_last (slice_split is_line_feed text))

pub unindented-map : (f : ℕ → ℕ) → KeepsMarks f → (line : List ℕ) → unindented (map f line) ≡ map f (unindented line)
unindented-map f k [] = refl
unindented-map f k (b ∷ bs) = (λ i. if k.blank b i then unindented-map f k bs i else f b ∷ map f bs) ∙ by (is_blank b)
  where
    by : (t : Bool) → (if t then map f (unindented bs) else f b ∷ map f bs) ≡ map f (if t then unindented bs else b ∷ bs)
    by true = refl
    by false = refl

pub indents-map : (f : ℕ → ℕ) → KeepsMarks f → (all : List (List ℕ)) → map unindented (map (map f) all) ≡ map (λ line. map f (unindented line)) all
indents-map f k [] = refl
indents-map f k (line ∷ all) = λ i. unindented-map f k line i ∷ indents-map f k all i

pub lower_keeps : KeepsMarks to_ascii_lowercase
lower_keeps = record { feed = λ b. grind (arith, nat_tests); return = λ b. grind (arith, nat_tests); blank = λ b. grind (arith, nat_tests) }
