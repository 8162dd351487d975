-- Reading the lines of a card, and those before the first card.
use Rattle.std.proofs.Common.{◌≡◌, ◌<◌, ℕ, ◌+◌, Bool, true, false, ◌==◌, ◌&&◌, not, cond, nat_eq, if◌then◌else◌, List, [], ◌∷◌, ◌++◌, length, map, drop, filter, codes, Option, Some, None, refl, sym, ap, ◌∙◌, subst, arith, append_assoc, append-nil, eqb-true}
use Rattle.std.specs.Prelude.{is_some}
use Rattle.std.specs.List.{before_first}
use Rattle.std.specs.Option.{option_to_list}
use Rattle.std.specs.Cmp.Lexicographic.{pointwise}
use Rattle.dom_base.specs.Lines.{is_blank, words, unindented}
use Rattle.deck.specs.declared.phase.Phase.{Phase}
use Rattle.deck.specs.DeckText.{added_words, deck_lines, deck_phases, is_of_card, continues, phase_of}
use Rattle.deck.specs.DeckCards.{numbered_lines, numbered_lines_from, numbered_cards_of}
use Rattle.deck.specs.DeckFaults.{end_line}
use Rattle.spice_read.specs.Readers.{begins_card, card_lines_left, cards_behind, cards_left, continued_card, continued_words, end_from, phases_from, size_left, size_with, BeginsNumbered, IsAtFirstCard, IsSameText, IsStrayAt, LinesLeft, Reader, ReadsCard, ReadsLine}
use Rattle.spice_read.proofs.DeckEnds.{end_line-from}
use Rattle.spice_read.proofs.FirstWords.{words-front, no_blank}
use Rattle.dom_base.proofs.Lists.{cons_option-list}
use Rattle.spice_text.proofs.ReadBack.{no_phase}

-- a comment or an empty line continues no card
apart : (line : List ℕ) → is_of_card line ≡ false → continues line ≡ false
apart [] e = refl
apart (b ∷ bs) e = by (b == 42) refl e
  where
    by : (t : Bool) → (b == 42) ≡ t → not t ≡ false → (b == 43) ≡ false
    by true f g = ap (λ (n : ℕ). n == 43) (eqb-true b 42 f)
    by false f g = absurd (let never : true ≡ false = g in cc)

-- what a line is that begins a card
card_line : (line : List ℕ) → begins_card line ≡ true → (is_of_card line ≡ true) × (continues line ≡ false)
card_line line e = by (is_of_card line) (continues line) refl refl e
  where
    by : (s t : Bool) → is_of_card line ≡ s → continues line ≡ t → (s && not t) ≡ true → (is_of_card line ≡ true) × (continues line ≡ false)
    by true false f g h = (f, g)
    by true true f g h = absurd (let never : false ≡ true = h in cc)
    by false t f g h = absurd (let never : false ≡ true = h in cc)

-- a line that begins no card continues one, or is no line of a card
no_card_line : (line : List ℕ) → begins_card line ≡ false → continues line ≡ false → is_of_card line ≡ false
no_card_line line e goes = by (is_of_card line) refl (ap (λ t. is_of_card line && not t) (sym goes) ∙ e)
  where
    by : (t : Bool) → is_of_card line ≡ t → (t && not false) ≡ false → is_of_card line ≡ false
    by true f g = absurd (let never : true ≡ false = g in cc)
    by false f g = f

-- a line that continues a card is a line of a card
plus_line : (line : List ℕ) → continues line ≡ true → is_of_card line ≡ true
plus_line line e = by (is_of_card line) refl
  where
    by : (t : Bool) → is_of_card line ≡ t → is_of_card line ≡ true
    by true f = f
    by false f = absurd (let never : true ≡ false = sym e ∙ apart line f in cc)

module _ {before : LinesLeft} {line : List ℕ} {after : LinesLeft} (reads : ReadsLine before line after) where
  line-kept : is_of_card line ≡ true → card_lines_left before ≡ (before.number, line) ∷ card_lines_left after
  line-kept e = ap (filter (λ p. is_of_card p.1)) reads.numbered ∙ ap (λ (t : Bool). cond t ((before.number, line) ∷ card_lines_left after) (card_lines_left after)) e

  line-skipped : is_of_card line ≡ false → card_lines_left before ≡ card_lines_left after
  line-skipped e = ap (filter (λ p. is_of_card p.1)) reads.numbered ∙ ap (λ (t : Bool). cond t ((before.number, line) ∷ card_lines_left after) (card_lines_left after)) e

-- the phase of a line that is read
phases-line : {before : LinesLeft} {line : List ℕ} {after : LinesLeft} → ReadsLine before line after → (phases : List Phase)
    → phases ++ phases_from (deck_lines before.rest) ≡ (phases ++ option_to_list (phase_of (words line))) ++ phases_from (deck_lines after.rest)
phases-line {line = line} {after = after} reads phases =
    ap (λ l. phases ++ phases_from l) reads.lines_are
    ∙ ap (λ l. phases ++ l) (cons_option-list (phase_of (words line)) (phases_from (deck_lines after.rest)))
    ∙ sym (append_assoc phases (option_to_list (phase_of (words line))) (phases_from (deck_lines after.rest)))

no_star : (rest : List ℕ) (b : ℕ) → (b == 42) ≡ false → pointwise nat_eq (b ∷ rest) (codes "*") ≡ false
no_star rest b e = ap (λ (t : Bool). t && pointwise nat_eq rest []) e

-- the line of a card gives no phase
card_no_phase : (line : List ℕ) → is_of_card line ≡ true → unindented line ≡ line → phase_of (words line) ≡ None
card_no_phase [] e is = absurd (let never : false ≡ true = e in cc)
card_no_phase (b ∷ bs) e is =
    let all = words-front b bs (no_blank b bs is) in
    let clean : (b == 42) ≡ false = by (b == 42) refl e in
    ap phase_of all ∙ no_phase (b ∷ before_first is_blank bs) _ (no_star (before_first is_blank bs) b clean)
  where
    by : (t : Bool) → (b == 42) ≡ t → not t ≡ true → (b == 42) ≡ false
    by true f g = absurd (let never : false ≡ true = g in cc)
    by false f g = f

-- reading the line of a card adds no phase
phases-card_line : {before : LinesLeft} {line : List ℕ} {after : LinesLeft} → ReadsLine before line after → is_of_card line ≡ true → (phases : List Phase)
    → phases ++ phases_from (deck_lines before.rest) ≡ phases ++ phases_from (deck_lines after.rest)
phases-card_line {line = line} {after = after} reads e phases =
    phases-line reads phases
    ∙ ap (λ o. (phases ++ option_to_list o) ++ phases_from (deck_lines after.rest)) (card_no_phase line e reads.no_indent)
    ∙ ap (λ l. l ++ phases_from (deck_lines after.rest)) (append-nil phases)

-- the lines before the first card were read up to here, with their phases
pub record HasNoCardYet (text : List ℕ) (left : LinesLeft) (phases : List Phase) : Type 0 where
  pub lines_are : numbered_lines text ≡ card_lines_left left
  pub phases_are : deck_phases text ≡ phases ++ phases_from (deck_lines left.rest)
  pub end_is : end_line text ≡ end_from left.number (deck_lines left.rest)

pub no_line_yet : (text : List ℕ) (phases : List Phase) → phases ≡ [] → HasNoCardYet text (record { number = 1; rest = text }) phases
no_line_yet text phases none = record {
  lines_are = refl;
  phases_are = ap (λ l. l ++ phases_from (deck_lines text)) (sym none);
  end_is = end_line-from text;
}

module _ {text : List ℕ} {before : LinesLeft} {phases : List Phase} (so_far : HasNoCardYet text before phases) where
  -- a comment or an empty line
  pub skips_line : {line : List ℕ} {after : LinesLeft} {new : List Phase} → ReadsLine before line after → begins_card line ≡ false → continues line ≡ false
      → new ≡ phases ++ option_to_list (phase_of (words line)) → HasNoCardYet text after new
  skips_line {line} {after} reads begins goes is = record {
    lines_are = so_far.lines_are ∙ line-skipped reads (no_card_line line begins goes);
    phases_are = so_far.phases_are ∙ phases-line reads phases ∙ ap (λ l. l ++ phases_from (deck_lines after.rest)) (sym is);
    end_is = so_far.end_is ∙ reads.end_is;
  }

  -- the line that begins the first card
  pub first_card : {line : List ℕ} {after : LinesLeft} → ReadsLine before line after → begins_card line ≡ true
      → IsAtFirstCard text (record { held = Some (before.number, line); left = after; phases = phases })
  first_card {line} {after} reads e =
      let kinds = card_line line e in
      let all : numbered_lines text ≡ (before.number, line) ∷ card_lines_left after = so_far.lines_are ∙ line-kept reads kinds.0 in
      record {
        begins = subst BeginsNumbered (sym all) kinds.1;
        cards_are = ap numbered_cards_of all ∙ ap (λ (t : Bool). if t then numbered_cards_of (card_lines_left after) else continued_card before.number (words line) (card_lines_left after)) kinds.1;
        phases_are = so_far.phases_are ∙ phases-card_line reads kinds.0 phases;
        end_is = so_far.end_is ∙ reads.end_is;
        last = λ none. absurd (let never : true ≡ false = none in cc);
      }

  -- a line that continues a card
  pub stray_line : {line : List ℕ} {after : LinesLeft} → ReadsLine before line after → continues line ≡ true → IsStrayAt (numbered_lines text) before.number
  stray_line {line} {after} reads e = subst (λ ps. IsStrayAt ps before.number) (sym (so_far.lines_are ∙ line-kept reads (plus_line line e))) (refl, e)

  -- a text without cards
  pub no_card : before.rest ≡ [] → IsAtFirstCard text (record { held = None; left = before; phases = phases })
  no_card none =
      let all : numbered_lines text ≡ [] = so_far.lines_are ∙ ap (λ l. numbered_lines_from before.number (deck_lines l)) none in
      record {
        begins = subst BeginsNumbered (sym all) tt;
        cards_are = ap numbered_cards_of all;
        phases_are = so_far.phases_are;
        end_is = so_far.end_is;
        last = λ _. none;
      }

-- the lines of a card were read up to here: these are its words so far
pub record IsInCard (start : Reader) (number : ℕ) (front : List (List ℕ)) (reader : Reader) : Type 0 where
  pub cards_are : cards_left start ≡ continued_card number front (card_lines_left reader.left)
  pub text : IsSameText start reader
  pub held : reader.held ≡ None
  pub no_longer : length reader.left.rest < size_left start

-- the first line of the card, which was held
pub in_first_line : (start reader : Reader) (first : ℕ × List ℕ) (front : List (List ℕ)) → start.held ≡ Some first → front ≡ words first.1
    → reader ≡ record start { held = None } → IsInCard start first.0 front reader
in_first_line start reader first front held front_is is = subst (IsInCard start first.0 front) (sym is) (record {
  cards_are = ap (λ h. cards_behind h (card_lines_left start.left)) held ∙ ap (λ f. continued_card first.0 f (card_lines_left start.left)) (sym front_is);
  text = record { same_phases = refl; same_end = refl };
  held = refl;
  no_longer = omega (arith, ap (λ h. size_with h (length start.left.rest)) held);
})

module _ {start : Reader} {number : ℕ} {front : List (List ℕ)} {reader : Reader} (inside : IsInCard start number front reader) where
  same_text : {line : List ℕ} {left : LinesLeft} {phases : List Phase} → ReadsLine reader.left line left → phases ≡ reader.phases ++ option_to_list (phase_of (words line))
      → (held : Option (ℕ × List ℕ)) → IsSameText start (record { held = held; left = left; phases = phases })
  same_text {left = left} reads is held = record {
    same_phases = inside.text.same_phases ∙ phases-line reads reader.phases ∙ ap (λ l. l ++ phases_from (deck_lines left.rest)) (sym is);
    same_end = inside.text.same_end ∙ reads.end_is;
  }

  -- the words of a line, or the phase of it
  added : (line : List ℕ) (left : LinesLeft) → ReadsLine reader.left line left → begins_card line ≡ false
      → continued_card number front (card_lines_left reader.left) ≡ continued_card number (front ++ continued_words line) (card_lines_left left)
  added line left reads e = by (continues line) refl
    where
      by : (t : Bool) → continues line ≡ t
          → continued_card number front (card_lines_left reader.left) ≡ continued_card number (front ++ continued_words line) (card_lines_left left)
      by true plus =
          ap (continued_card number front) (line-kept reads (plus_line line plus))
          ∙ (λ i. record { number = number; words = front ++ (if plus i then words (drop 1 line) ++ added_words (map (λ q. q.1) (card_lines_left left)) else []) }
          ∷ (if plus i then numbered_cards_of (card_lines_left left) else continued_card reader.left.number (words line) (card_lines_left left)))
          ∙ ap (λ ws. record { number = number; words = ws } ∷ numbered_cards_of (card_lines_left left))
          (sym (append_assoc front (words (drop 1 line)) (added_words (map (λ q. q.1) (card_lines_left left)))))
          ∙ (λ i. continued_card number (front ++ (if sym plus i then words (drop 1 line) else [])) (card_lines_left left))
      by false goes_on =
          ap (continued_card number front) (line-skipped reads (no_card_line line e goes_on))
          ∙ ap (λ ws. continued_card number ws (card_lines_left left)) (sym (append-nil front))
          ∙ (λ i. continued_card number (front ++ (if sym goes_on i then words (drop 1 line) else [])) (card_lines_left left))

  -- one more line of the card
  pub in_next_line : (line : List ℕ) (new : List (List ℕ)) (after : Reader) → ReadsLine reader.left line after.left → begins_card line ≡ false
      → new ≡ front ++ continued_words line → after.held ≡ reader.held → after.phases ≡ reader.phases ++ option_to_list (phase_of (words line)) → IsInCard start number new after
  in_next_line line new after reads e new_is held phases = record {
    cards_are = inside.cards_are ∙ added line after.left reads e ∙ ap (λ ws. continued_card number ws (card_lines_left after.left)) (sym new_is);
    text = same_text reads phases after.held;
    held = held ∙ inside.held;
    no_longer = omega (arith, inside.no_longer, reads.shorter);
  }

  -- the line that begins the next card
  pub read_to_next : (line : List ℕ) (after : Reader) → ReadsLine reader.left line after.left → begins_card line ≡ true
      → after.held ≡ Some (reader.left.number, line) → after.phases ≡ reader.phases → ReadsCard start (record { number = number; words = front }) after
  read_to_next line after reads e held phases =
      let kinds = card_line line e in
      let size : size_left after ≡ length after.left.rest + 1 = ap (λ h. size_with h (length after.left.rest)) held in
      let all : card_lines_left reader.left ≡ (reader.left.number, line) ∷ card_lines_left after.left = line-kept reads kinds.0 in
      record {
        cards_are = inside.cards_are ∙ ap (continued_card number front) all
            ∙ (λ i. record { number = number; words = front ++ (if kinds.1 i then words (drop 1 line) ++ added_words (map (λ q. q.1) (card_lines_left after.left)) else []) }
            ∷ (if kinds.1 i then numbered_cards_of (card_lines_left after.left) else continued_card reader.left.number (words line) (card_lines_left after.left)))
            ∙ (λ i. record { number = number; words = append-nil front i } ∷ cards_behind (sym held i) (card_lines_left after.left));
        text = record {
          same_phases = inside.text.same_phases ∙ phases-card_line reads kinds.0 reader.phases ∙ ap (λ l. l ++ phases_from (deck_lines after.left.rest)) (sym phases);
          same_end = inside.text.same_end ∙ reads.end_is;
        };
        last = λ none. absurd (let never : true ≡ false = sym (ap is_some held) ∙ none in cc);
        shorter = omega (arith, size, reads.shorter, inside.no_longer);
      }

  -- the end of the text
  pub read_to_end : reader.left.rest ≡ [] → ReadsCard start (record { number = number; words = front }) reader
  read_to_end none =
      let lines : card_lines_left reader.left ≡ [] = ap (λ l. numbered_lines_from reader.left.number (deck_lines l)) none in
      let size : size_left reader ≡ length reader.left.rest = ap (λ h. size_with h (length reader.left.rest)) inside.held in
      record {
        cards_are = inside.cards_are ∙ ap (continued_card number front) lines
            ∙ (λ i. record { number = number; words = append-nil front i } ∷ cards_behind (sym inside.held i) (card_lines_left reader.left));
        text = inside.text;
        last = λ _. none;
        shorter = omega (arith, size, inside.no_longer);
      }
