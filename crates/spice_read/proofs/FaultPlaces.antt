-- Where a deck has its first fault.
use Rattle.std.proofs.Common.{◌≡◌, ℕ, ◌≤◌, ◌<◌, ◌+◌, ◌⊎◌, inl, inr, Bool, true, false, cond, ◌||◌, not, if◌then◌else◌, List, [], ◌∷◌, ◌++◌, length, map, reverse, nat_eq, codes, eqb-true, refl, sym, ap, ◌∙◌, subst, arith, Some, None, append-nil}
use Rattle.std.specs.List.{before_first}
use Rattle.std.specs.Cmp.Lexicographic.{pointwise}
use Rattle.std.proofs.lemmas.Bool.{true≢false}
use Rattle.std.proofs.lemmas.List.{reverse-reverse}
use Rattle.dom_base.specs.LineFaults.{FaultIn as FaultInLines, NumbersRise}
use Rattle.dom_base.specs.Lines.{is_blank, lines, words, first_word}
use Rattle.dom_base.proofs.Faults.{fault_in as fault_in_lines, passed, rising-fault as rising_line}
use Rattle.dom_base.proofs.Lists.{reverse-onto}
use Rattle.deck.specs.declared.fault.DeckKind.{DeckKind}
use Rattle.deck.specs.declared.fault.DeckKind.TheVariants.{ControlByte, UnknownCard, BadCard, UnknownDevice, NoSubckt, SecondSubckt, NotClosed, DuplicatePort, TooMany, UnknownSubckt, WrongCount}
use Rattle.deck.specs.DeckText.{added_words, continues, is_end, is_of_card, is_skipped, read_line, through_end}
use Rattle.deck.specs.DeckCards.{NumberedCard, has_first_word, dot_end, dot_model, numbered_cards, numbered_cards_of, numbered_lines, numbered_lines_from, has_subckt, is_open}
use Rattle.deck.specs.DeckFaults.{deck_faults, has_deck_fault, has_end_fault, end_line, FaultTable, IsDeckFaultAt, IsFaultAtBy, IsFaultBy, IsFaultOfCard, IsStrayLine}
use Rattle.deck.specs.DeckKinds.{deck_kind_number}
use Rattle.spice_read.specs.Readers.{end_from, BeginsNumbered, IsStrayAt}
use Rattle.spice_read.proofs.CleanCards.{unmet}
use Rattle.spice_read.proofs.DeckEnds.{end_line-from}
use Rattle.spice_read.proofs.KindNumbers.{IsFound}
use Rattle.spice_read.proofs.PartCards.{skipped_card}
use Rattle.spice_read.proofs.FirstWords.{words-front}

-- a number is before the end, or that of the line `.end`
abbrev pub Within : ℕ → ℕ → Bool → Type 0
Within number last ends = (number < last) ⊎ ((number ≡ last) × (ends ≡ true))

-- the numbers of lines rise from this one on, up to the end
abbrev pub LinesRise : ℕ → ℕ → List (ℕ × List ℕ) → Type 0
LinesRise n last [] = Unit {0}
LinesRise n last (p ∷ ps) = (n ≤ p.0) × Within p.0 last (is_end p.1) × LinesRise (p.0 + 1) last ps

-- and so do those of cards
abbrev pub CardsRise : ℕ → ℕ → List NumberedCard → Type 0
CardsRise n last [] = Unit {0}
CardsRise n last (card ∷ cards) = (n ≤ card.number) × Within card.number last (has_first_word dot_end card) × CardsRise (card.number + 1) last cards

lines-weaker : (m n last : ℕ) (ps : List (ℕ × List ℕ)) → m ≤ n → LinesRise n last ps → LinesRise m last ps
lines-weaker m n last [] le h = tt
lines-weaker m n last (p ∷ ps) le h = (omega (arith, le, h.0), h.1, h.2)

cards-weaker : (m n last : ℕ) (cards : List NumberedCard) → m ≤ n → CardsRise n last cards → CardsRise m last cards
cards-weaker m n last [] le h = tt
cards-weaker m n last (card ∷ cards) le h = (omega (arith, le, h.0), h.1, h.2)

end-ge : (n : ℕ) (all : List (List ℕ)) → n ≤ end_from n all
end-ge n [] = omega arith
end-ge n (line ∷ all) = by (is_end line) (end-ge (n + 1) all)
  where
    by : (t : Bool) → n + 1 ≤ end_from (n + 1) all → n ≤ (if t then n else end_from (n + 1) all)
    by true h = omega arith
    by false h = omega (arith, h)

-- the lines of cards up to `.end`
lines-rise : (n : ℕ) (raw : List (List ℕ)) → LinesRise n (end_from n (through_end raw)) (numbered_lines_from n (through_end raw))
lines-rise n [] = tt
lines-rise n (line ∷ raw) = by (is_end line) (is_of_card line) refl (lines-rise (n + 1) raw) (end-ge (n + 1) (through_end raw))
  where
    by : (t s : Bool) → is_end line ≡ t → LinesRise (n + 1) (end_from (n + 1) (through_end raw)) (numbered_lines_from (n + 1) (through_end raw))
        → n + 1 ≤ end_from (n + 1) (through_end raw)
        → LinesRise n (if t then n else end_from (n + 1) (if t then [] else through_end raw)) (cond s ((n, line) ∷ numbered_lines_from (n + 1) (if t then [] else through_end raw)) (numbered_lines_from (n + 1) (if t then [] else through_end raw)))
    by true true e h ge = (omega arith, inr (refl, e), tt)
    by true false e h ge = tt
    by false true e h ge = (omega arith, inl (omega (arith, ge)), h)
    by false false e h ge = lines-weaker n (n + 1) (end_from (n + 1) (through_end raw)) (numbered_lines_from (n + 1) (through_end raw)) (omega arith) h

-- more words leave the first one
ends-first : (some more : List (List ℕ)) → pointwise nat_eq (first_word some) (codes ".end") ≡ true → pointwise nat_eq (first_word (some ++ more)) (codes ".end") ≡ true
ends-first [] more h = absurd (true≢false (sym h))
ends-first (word ∷ some) more h = h

pub cards-rise : (n last : ℕ) (ps : List (ℕ × List ℕ)) → LinesRise n last ps → CardsRise n last (numbered_cards_of ps)
cards-rise n last [] h = tt
cards-rise n last (p ∷ ps) h = by (continues p.1) (cards-rise (p.0 + 1) last ps h.2)
  where
    within : Within p.0 last (is_end p.1) → Within p.0 last (has_first_word dot_end (record { number = p.0; words = words p.1 ++ added_words (map (λ q. q.1) ps) }))
    within (inl lt) = inl lt
    within (inr both) = inr (both.0, ends-first (words p.1) (added_words (map (λ q. q.1) ps)) both.1)

    by : (t : Bool) → CardsRise (p.0 + 1) last (numbered_cards_of ps)
        → CardsRise n last (if t then numbered_cards_of ps else record { number = p.0; words = words p.1 ++ added_words (map (λ q. q.1) ps) } ∷ numbered_cards_of ps)
    by true rest = cards-weaker n (p.0 + 1) last (numbered_cards_of ps) (omega (arith, h.0)) rest
    by false rest = (h.0, within h.1, rest)

pub lines_of_text-rise : (text : List ℕ) → LinesRise 1 (end_line text) (numbered_lines text)
lines_of_text-rise text = subst (λ last. LinesRise 1 last (numbered_lines text)) (sym (end_line-from text)) (lines-rise 1 (map read_line (lines text)))

pub cards_of_text-rise : (text : List ℕ) → CardsRise 1 (end_line text) (numbered_cards text)
cards_of_text-rise text = cards-rise 1 (end_line text) (numbered_lines text) (lines_of_text-rise text)

abbrev pub number_of : NumberedCard → ℕ
number_of card = card.number

pub numbers-rise : (m last : ℕ) (all : List NumberedCard) → CardsRise m last all → NumbersRise number_of m all
numbers-rise m last [] rise = tt
numbers-rise m last (card ∷ more) rise = (rise.0, numbers-rise (card.number + 1) last more rise.2)

pub no_card-continues : (ps : List (ℕ × List ℕ)) (p : ℕ × List ℕ) (after : List (ℕ × List ℕ)) → numbered_cards_of ps ≡ [] → continues p.1 ≡ true → BeginsNumbered (ps ++ p ∷ after) → ⊥
no_card-continues [] p after none is starts = true≢false (sym is ∙ starts)
no_card-continues (q ∷ ps) p after none is starts = by (continues q.1) starts none
  where
    by : (t : Bool) → t ≡ false → (if t then numbered_cards_of ps else record { number = q.0; words = words q.1 ++ added_words (map (λ r. r.1) ps) } ∷ numbered_cards_of ps) ≡ [] → ⊥
    by true e f = true≢false e
    by false e f = absurd (omega (arith, ap length f))

-- a line that continues a card is not the line `.end`
pub plus_no_end : (line : List ℕ) → continues line ≡ true → is_end line ≡ false
plus_no_end [] h = refl
plus_no_end (b ∷ bs) h =
    let plus : b ≡ 43 = eqb-true b 43 h in
    let all = words-front b bs (ap is_blank plus) in
    ap (λ ws. pointwise nat_eq (first_word ws) (codes ".end")) all
    ∙ ap (λ (n : ℕ). pointwise nat_eq (n ∷ before_first is_blank bs) (codes ".end")) plus

pub lines-least : (m last : ℕ) (before : List (ℕ × List ℕ)) (q : ℕ × List ℕ) (after : List (ℕ × List ℕ)) → LinesRise m last (before ++ q ∷ after) → m ≤ q.0
lines-least m last [] q after h = h.0
lines-least m last (p ∷ before) q after h = omega (arith, h.0, lines-least (p.0 + 1) last before q after h.2)

-- the facts of a text whose first line of a card continues a card
pub record StrayFacts (text : List ℕ) (n : ℕ) : Type 0 where
  pub line : List ℕ
  pub more : List (ℕ × List ℕ)
  pub lines_are : numbered_lines text ≡ (n, line) ∷ more
  pub line_continues : continues line ≡ true

pub stray_facts : (text : List ℕ) (n : ℕ) → IsStrayAt (numbered_lines text) n → StrayFacts text n
stray_facts text n h = by (numbered_lines text) refl h
  where
    by : (ps : List (ℕ × List ℕ)) → numbered_lines text ≡ ps → IsStrayAt ps n → StrayFacts text n
    by [] e g = absurd g
    by (p ∷ ps) e g = record { line = p.1; more = ps; lines_are = e ∙ ap (λ (k : ℕ). (k, p.1) ∷ ps) g.0; line_continues = g.1 }

-- a table whose numbers begin with 1, in which a card `.end` has no fault but those of that number
pub record IsSoundTable {Kind : Type 0} (table : FaultTable Kind) : Type 0 where
  pub numbers : (kind : Kind) → 1 ≤ table.number_of kind
  pub end_card : (before : List NumberedCard) (card : NumberedCard) (kind : Kind) → has_first_word dot_end card ≡ true → table.of_card kind before card ≡ true → table.number_of kind ≤ 1

module _ {Kind : Type 0} (table : FaultTable Kind) where
  -- one of these cards has this number and a fault of this kind, where these cards stand before them, the nearest first
  abbrev pub FaultIn : List NumberedCard → List NumberedCard → ℕ → Kind → Type 0
  FaultIn = FaultInLines number_of table.of_card

  fault_in : (text : List ℕ) (n : ℕ) (kind : Kind) → IsFaultOfCard table text n kind → FaultIn [] (numbered_cards text) n kind
  fault_in text n kind f = fault_in_lines number_of table.of_card (numbered_cards text) f.before f.card f.after n kind f.cards_are f.number_is f.fault

  -- the cards that were passed, the last first, and those that are left; all faults of cards are among the latter
  pub record IsPassed (text : List ℕ) (before rest : List NumberedCard) : Type 0 where
    pub split : numbered_cards text ≡ reverse before ++ rest
    pub faults : (n : ℕ) (kind : Kind) → FaultIn [] (numbered_cards text) n kind → FaultIn before rest n kind
    pub least : ℕ
    pub rise : CardsRise least (end_line text) rest

  pub none_passed : (text : List ℕ) → IsPassed text [] (numbered_cards text)
  none_passed text = record { split = refl; faults = λ n kind f. f; least = 1; rise = cards_of_text-rise text }

  pub one_passed : (text : List ℕ) (before : List NumberedCard) (card : NumberedCard) (rest : List NumberedCard) → IsPassed text before (card ∷ rest) → IsFound table before card None → IsPassed text (card ∷ before) rest
  one_passed text before card rest p clean = record {
    split = p.split ∙ sym (reverse-onto card before rest);
    faults = λ n kind f. passed number_of table.of_card before card rest clean n kind (p.faults n kind f);
    least = card.number + 1;
    rise = p.rise.2;
  }

  -- a fault stands at no smaller number than that from which the numbers rise
  rising-fault : (m last : ℕ) (before all : List NumberedCard) (n : ℕ) (kind : Kind) → CardsRise m last all → FaultIn before all n kind → m ≤ n
  rising-fault m last before all n kind rise f = rising_line number_of table.of_card m before all n kind (numbers-rise m last all rise) f

  -- a deck that begins with a card has no loose line
  pub no_stray : (text : List ℕ) → BeginsNumbered (numbered_lines text) → (n : ℕ) (kind : Kind) → IsStrayLine table text n kind → ⊥
  no_stray text starts n kind l = no_card-continues l.before (n, l.line) l.after l.no_card l.line_continues (subst BeginsNumbered l.lines_are starts)

  -- the cards, the last first, once all are passed
  all_passed : (text : List ℕ) (before : List NumberedCard) → IsPassed text before [] → reverse (numbered_cards text) ≡ before
  all_passed text before p = ap reverse (p.split ∙ append-nil (reverse before)) ∙ reverse-reverse before

  -- a fault of the end, where no card has one
  end_only : (text : List ℕ) (before : List NumberedCard) (n : ℕ) (kind : Kind) → BeginsNumbered (numbered_lines text) → IsPassed text before [] → IsFaultBy table text n kind
      → (n ≡ end_line text) × (table.of_end kind before ≡ true)
  end_only text before n kind starts p (inl f) = absurd (p.faults n kind (fault_in text n kind f))
  end_only text before n kind starts p (inr (inl l)) = absurd (no_stray text starts n kind l)
  end_only text before n kind starts p (inr (inr e)) = (e.number_is, subst (λ all. table.of_end kind all ≡ true) (all_passed text before p) e.fault)

  pub fault_told : (text : List ℕ) (before : List NumberedCard) (kind : Kind) → BeginsNumbered (numbered_lines text) → IsPassed text before [] → table.of_end kind before ≡ true
      → ((other : Kind) → table.of_end other before ≡ true → table.number_of kind ≤ table.number_of other) → IsFaultAtBy table text (end_line text) kind
  fault_told text before kind starts p is least = record {
    fault = inr (inr (record { number_is = refl; fault = subst (λ all. table.of_end kind all ≡ true) (sym (all_passed text before p)) is }));
    first = λ other any f. omega (arith, (end_only text before other any starts p f).0);
    smallest = λ other f. least other (end_only text before (end_line text) other starts p f).1;
  }

  -- a deck that begins with a line with `+`
  pub fault_at_stray : (text : List ℕ) (n : ℕ) → IsStrayAt (numbered_lines text) n → IsFaultAtBy table text n table.of_stray
  fault_at_stray text n h = record {
    fault = inr (inl (record { before = []; line = facts.line; after = facts.more; lines_are = facts.lines_are; line_continues = facts.line_continues; no_card = refl; kind_is = refl }));
    first = first;
    smallest = smallest;
  }
    where
      facts : StrayFacts text n
      facts = stray_facts text n h

      rise : LinesRise 1 (end_line text) ((n, facts.line) ∷ facts.more)
      rise = subst (LinesRise 1 (end_line text)) facts.lines_are (lines_of_text-rise text)

      cards_are : numbered_cards text ≡ numbered_cards_of facts.more
      cards_are = ap numbered_cards_of facts.lines_are ∙ ap (λ (t : Bool). if t then numbered_cards_of facts.more else record { number = n; words = words facts.line ++ added_words (map (λ q. q.1) facts.more) } ∷ numbered_cards_of facts.more) facts.line_continues

      later : (other : ℕ) (any : Kind) → IsFaultOfCard table text other any → n + 1 ≤ other
      later other any f = rising-fault (n + 1) (end_line text) [] (numbered_cards_of facts.more) other any (cards-rise (n + 1) (end_line text) facts.more rise.2) (subst (λ l. FaultIn [] l other any) cards_are (fault_in text other any f))

      loose : (other : ℕ) (any : Kind) → IsStrayLine table text other any → n ≤ other
      loose other any l = lines-least n (end_line text) l.before (other, l.line) l.after (subst (LinesRise n (end_line text)) (sym facts.lines_are ∙ l.lines_are) (omega arith, rise.1, rise.2))

      ends_later : Within n (end_line text) (is_end facts.line) → n < end_line text
      ends_later (inl lt) = lt
      ends_later (inr both) = absurd (true≢false (sym both.1 ∙ plus_no_end facts.line facts.line_continues))

      first : (other : ℕ) (any : Kind) → IsFaultBy table text other any → n ≤ other
      first other any (inl f) = omega (arith, later other any f)
      first other any (inr (inl l)) = loose other any l
      first other any (inr (inr e)) = omega (arith, e.number_is, ends_later rise.1)

      smallest : (other : Kind) → IsFaultBy table text n other → table.number_of table.of_stray ≤ table.number_of other
      smallest other (inl f) = absurd (omega (arith, later n other f))
      smallest other (inr (inl l)) = omega (arith, ap table.number_of l.kind_is)
      smallest other (inr (inr e)) = absurd (omega (arith, e.number_is, ends_later rise.1))

  module _ (sound : IsSoundTable table) where
    -- the first card with a fault, where the deck begins with a card
    pub fault_at_card : (text : List ℕ) (before : List NumberedCard) (card : NumberedCard) (rest : List NumberedCard) (kind : Kind) → BeginsNumbered (numbered_lines text)
        → IsPassed text before (card ∷ rest) → IsFound table before card (Some kind) → IsFaultAtBy table text card.number kind
    fault_at_card text before card rest kind starts p found = record {
      fault = inl ((record { before = before; card = card; after = rest; cards_are = p.split; number_is = refl; fault = found.0 }));
      first = first;
      smallest = smallest;
    }
      where
        before_end : Within card.number (end_line text) (has_first_word dot_end card) → card.number ≤ end_line text
        before_end (inl lt) = omega (arith, lt)
        before_end (inr both) = omega (arith, both.0)

        first : (other : ℕ) (any : Kind) → IsFaultBy table text other any → card.number ≤ other
        first other any (inl f) = rising-fault card.number (end_line text) before (card ∷ rest) other any (omega arith, p.rise.1, p.rise.2) (p.faults other any (fault_in text other any f))
        first other any (inr (inl l)) = absurd (no_stray text starts other any l)
        first other any (inr (inr e)) = omega (arith, e.number_is, before_end p.rise.1)

        here : (other : Kind) → FaultIn before (card ∷ rest) card.number other → table.number_of kind ≤ table.number_of other
        here other (inl h) = found.1 other h.1
        here other (inr later) = absurd (omega (arith, rising-fault (card.number + 1) (end_line text) (card ∷ before) rest card.number other p.rise.2 later))

        at_end : (other : Kind) → card.number ≡ end_line text → Within card.number (end_line text) (has_first_word dot_end card) → table.number_of kind ≤ table.number_of other
        at_end other same (inl lt) = absurd (omega (arith, lt, same))
        at_end other same (inr both) = omega (arith, sound.end_card before card kind both.1 found.0, sound.numbers other)

        smallest : (other : Kind) → IsFaultBy table text card.number other → table.number_of kind ≤ table.number_of other
        smallest other (inl f) = here other (p.faults card.number other (fault_in text card.number other f))
        smallest other (inr (inl l)) = absurd (no_stray text starts card.number other l)
        smallest other (inr (inr e)) = at_end other e.number_is p.rise.1

-- a card `.end` has no fault but a control byte
end_card_fault : (before : List NumberedCard) (card : NumberedCard) (kind : DeckKind) → has_first_word dot_end card ≡ true → has_deck_fault kind before card ≡ true → deck_kind_number kind ≤ 1
end_card_fault before card kind n h = of kind h
  where
    either : (m e : Bool) → e ≡ true → (m || e) ≡ true
    either true e h = refl
    either false e h = h

    skips : is_skipped card.words ≡ true
    skips = either (has_first_word dot_model card) (has_first_word dot_end card) n

    never : {P : Type 0} {b : Bool} → b ≡ true → b ≡ false → P
    never g none = absurd (true≢false (sym g ∙ none))

    of : (k : DeckKind) → has_deck_fault k before card ≡ true → deck_kind_number k ≤ 1
    of ControlByte g = omega arith
    of UnknownCard g = let k = skipped_card card skips in let o = k.of in never g (rw (o.call_is, o.device_is, o.opening_is, o.ending_is, k.known) refl)
    of BadCard g = let k = skipped_card card skips in let o = k.of in never g (rw (o.call_is, o.device_is, o.opening_is, o.ending_is, k.known) refl)
    of UnknownDevice g = let o = (skipped_card card skips).of in never g (rw o.device_is refl)
    of NoSubckt g = let o = (skipped_card card skips).of in never g (rw (o.call_is, o.device_is, o.ending_is) refl)
    of SecondSubckt g = let o = (skipped_card card skips).of in never g (rw o.opening_is refl)
    of NotClosed g = never g refl
    of DuplicatePort g = let o = (skipped_card card skips).of in never g (rw o.opening_is refl)
    of TooMany g = let o = (skipped_card card skips).of in never g (rw (o.call_is, o.device_is, o.opening_is) refl)
    of UnknownSubckt g = let o = (skipped_card card skips).of in never g (rw o.call_is refl)
    of WrongCount g = let o = (skipped_card card skips).of in never g (rw o.call_is refl)

kind_number-ge : (kind : DeckKind) → 1 ≤ deck_kind_number kind
kind_number-ge ControlByte = omega arith
kind_number-ge UnknownCard = omega arith
kind_number-ge BadCard = omega arith
kind_number-ge UnknownDevice = omega arith
kind_number-ge NoSubckt = omega arith
kind_number-ge SecondSubckt = omega arith
kind_number-ge NotClosed = omega arith
kind_number-ge DuplicatePort = omega arith
kind_number-ge TooMany = omega arith
kind_number-ge UnknownSubckt = omega arith
kind_number-ge WrongCount = omega arith

end_number : (kind : DeckKind) (all : List NumberedCard) → has_end_fault kind all ≡ true → 5 ≤ deck_kind_number kind
end_number ControlByte all h = unmet h
end_number UnknownCard all h = unmet h
end_number BadCard all h = unmet h
end_number UnknownDevice all h = unmet h
end_number NoSubckt all h = omega arith
end_number SecondSubckt all h = unmet h
end_number NotClosed all h = omega arith
end_number DuplicatePort all h = unmet h
end_number TooMany all h = unmet h
end_number UnknownSubckt all h = unmet h
end_number WrongCount all h = unmet h

open_number : (kind : DeckKind) (all : List NumberedCard) → has_subckt all ≡ true → has_end_fault kind all ≡ true → 7 ≤ deck_kind_number kind
open_number ControlByte all b h = unmet h
open_number UnknownCard all b h = unmet h
open_number BadCard all b h = unmet h
open_number UnknownDevice all b h = unmet h
open_number NoSubckt all b h = absurd (true≢false (sym h ∙ ap not b))
open_number SecondSubckt all b h = unmet h
open_number NotClosed all b h = omega arith
open_number DuplicatePort all b h = unmet h
open_number TooMany all b h = unmet h
open_number UnknownSubckt all b h = unmet h
open_number WrongCount all b h = unmet h

-- the faults of decks
pub deck_sound : IsSoundTable deck_faults
deck_sound = record { numbers = kind_number-ge; end_card = end_card_fault }

-- the fault of the end, where no card has one
pub fault_none_begun : (text : List ℕ) (before : List NumberedCard) → BeginsNumbered (numbered_lines text) → IsPassed deck_faults text before [] → has_subckt before ≡ false → IsDeckFaultAt text (end_line text) NoSubckt
fault_none_begun text before starts p none = fault_told deck_faults text before NoSubckt starts p (ap not none) (λ other h. end_number other before h)

pub fault_left_open : (text : List ℕ) (before : List NumberedCard) → BeginsNumbered (numbered_lines text) → IsPassed deck_faults text before [] → has_subckt before ≡ true → is_open before ≡ true → IsDeckFaultAt text (end_line text) NotClosed
fault_left_open text before starts p begun opened = fault_told deck_faults text before NotClosed starts p opened (λ other h. open_number other before begun h)
