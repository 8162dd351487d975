-- What is read of a text of rows, each a line of plain words with one blank between any two.
use Rattle.std.proofs.Common.{◌≡◌, ℕ, true, false, nat_eq, if◌then◌else◌, List, [], ◌∷◌, ◌++◌, map, filter, codes, refl, ap, ◌∙◌, append-nil}
use Rattle.std.specs.Cmp.Lexicographic.{pointwise}
use Rattle.std.specs.List.{AllByRecursion, flat_map, filter_map}
use Rattle.std.specs.Str.{str_to_ascii_lowercase}
use Rattle.dom_base.specs.Lines.{is_blank, lines, words, unindented, first_word}
use Rattle.dom_base.specs.Names.{IsNetName}
use Rattle.dom_base.specs.Joined.{ended, joined, IsClean, IsSolid}
use Rattle.dom_base.proofs.Texts.{lines-ended, words-joined, words-after_blanks, unindented-none}
use Rattle.dom_base.proofs.WordBytes.{IsSolid-name, AllSolid-names, IsClean-joined, lowercase-joined}
use Rattle.std.proofs.lemmas.List.Elements.{All-head}
use Rattle.deck.specs.DeckText.{read_line, is_end, through_end, deck_lines, is_of_card, continues, deck_card_lines, added_words, cards_of, phase_of, deck_phases}

-- the line of some words, with one blank between any two
abbrev pub row_line : List (List ℕ) → List ℕ
row_line [] = []
row_line (first ∷ others) = joined first others

-- rows as text, with LF at the end of each
abbrev pub text_of_rows : List (List (List ℕ)) → List ℕ
text_of_rows rows = flat_map (λ row. ended (row_line row)) rows

-- a row of plain words, at least one
abbrev pub IsPlainRow : List (List ℕ) → Type 0
IsPlainRow [] = ⊥
IsPlainRow (first ∷ others) = IsNetName first × AllByRecursion IsNetName others

text_of_rows-is : (rows : List (List (List ℕ))) → text_of_rows rows ≡ flat_map ended (map row_line rows)
text_of_rows-is [] = refl
text_of_rows-is (row ∷ rows) = ap (λ t. ended (row_line row) ++ t) (text_of_rows-is rows)

all_clean : (rows : List (List (List ℕ))) → AllByRecursion IsPlainRow rows → AllByRecursion IsClean (map row_line rows)
all_clean [] h = tt
all_clean ([] ∷ rows) h = absurd h.0
all_clean ((first ∷ others) ∷ rows) h = (IsClean-joined first others h.0.0 h.0.1, all_clean rows h.1)

unindented-joined : (first : List ℕ) (others : List (List ℕ)) → IsSolid first → unindented (joined first others) ≡ joined first others
unindented-joined [] others h = absurd (let never : false ≡ true = h.some in let none : ⊥ = cc in none)
unindented-joined (b ∷ bs) others h = unindented-none b (joined bs others) (All-head (λ c. is_blank c ≡ false) b bs h.no_blank)

read_line-row : (row : List (List ℕ)) → IsPlainRow row → read_line (row_line row) ≡ row_line row
read_line-row [] h = absurd h
read_line-row (first ∷ others) h =
    ap str_to_ascii_lowercase (unindented-joined first others (IsSolid-name first h.0)) ∙ lowercase-joined first others h.0 h.1

map-read_line : (rows : List (List (List ℕ))) → AllByRecursion IsPlainRow rows → map read_line (map row_line rows) ≡ map row_line rows
map-read_line [] h = refl
map-read_line (row ∷ rows) h = let one = read_line-row row h.0 in let rest = map-read_line rows h.1 in cc

-- the words of a row's line
pub words-row : (row : List (List ℕ)) → IsPlainRow row → words (row_line row) ≡ row
words-row [] h = absurd h
words-row (first ∷ others) h = words-joined first others (IsSolid-name first h.0) (AllSolid-names others h.1)

map-words : (rows : List (List (List ℕ))) → AllByRecursion IsPlainRow rows → map words (map row_line rows) ≡ rows
map-words [] h = refl
map-words (row ∷ rows) h = let one = words-row row h.0 in let rest = map-words rows h.1 in cc

-- a row that is not the card `.end`
abbrev pub IsNoEnd : List (List ℕ) → Type 0
IsNoEnd row = pointwise nat_eq (first_word row) (codes ".end") ≡ false

is_end-row : (row : List (List ℕ)) → IsPlainRow row → IsNoEnd row → is_end (row_line row) ≡ false
is_end-row row h n = ap (λ r. pointwise nat_eq (first_word r) (codes ".end")) (words-row row h) ∙ n

through_end-rows : (rows : List (List (List ℕ))) → AllByRecursion IsPlainRow rows → AllByRecursion IsNoEnd rows → through_end (map row_line rows) ≡ map row_line rows
through_end-rows [] h n = refl
through_end-rows (row ∷ rows) h n =
    ap (λ t. row_line row ∷ (if t then [] else through_end (map row_line rows))) (is_end-row row h.0 n.0)
    ∙ ap (λ l. row_line row ∷ l) (through_end-rows rows h.1 n.1)

-- the lines of the text are those of the rows
pub deck_lines-rows : (rows : List (List (List ℕ))) → AllByRecursion IsPlainRow rows → AllByRecursion IsNoEnd rows → deck_lines (text_of_rows rows) ≡ map row_line rows
deck_lines-rows rows h n =
    ap (λ t. through_end (map read_line (lines t))) (text_of_rows-is rows)
    ∙ ap (λ l. through_end (map read_line l)) (lines-ended (map row_line rows) (all_clean rows h))
    ∙ ap through_end (map-read_line rows h)
    ∙ through_end-rows rows h n

-- the phases of the text are those of the rows
pub deck_phases-rows : (rows : List (List (List ℕ))) → AllByRecursion IsPlainRow rows → AllByRecursion IsNoEnd rows → deck_phases (text_of_rows rows) ≡ filter_map phase_of rows
deck_phases-rows rows h n =
    ap (λ l. filter_map phase_of (map words l)) (deck_lines-rows rows h n) ∙ ap (filter_map phase_of) (map-words rows h)

-- a comment
abbrev pub IsComment : List (List ℕ) → Type 0
IsComment row = is_of_card (row_line row) ≡ false

-- a row of a card
abbrev pub IsOfCard : List (List ℕ) → Type 0
IsOfCard row = is_of_card (row_line row) ≡ true

-- a row that begins a card
abbrev pub Begins : List (List ℕ) → Type 0
Begins row = continues (row_line row) ≡ false

filter-cards : (rows : List (List (List ℕ))) → AllByRecursion IsOfCard rows → filter is_of_card (map row_line rows) ≡ map row_line rows
filter-cards [] h = refl
filter-cards (row ∷ rows) h = rw h.0 (ap (λ l. row_line row ∷ l) (filter-cards rows h.1))

-- the lines of cards, behind comments
filter-comments : (comments rows : List (List (List ℕ))) → AllByRecursion IsComment comments → AllByRecursion IsOfCard rows
    → filter is_of_card (map row_line (comments ++ rows)) ≡ map row_line rows
filter-comments [] rows c h = filter-cards rows h
filter-comments (comment ∷ comments) rows c h = rw c.0 (filter-comments comments rows c.1 h)

pub card_lines-rows : (comments rows : List (List (List ℕ))) → AllByRecursion IsPlainRow (comments ++ rows) → AllByRecursion IsNoEnd (comments ++ rows)
    → AllByRecursion IsComment comments → AllByRecursion IsOfCard rows
    → deck_card_lines (text_of_rows (comments ++ rows)) ≡ map row_line rows
card_lines-rows comments rows h n c o =
    ap (filter is_of_card) (deck_lines-rows (comments ++ rows) h n) ∙ filter-comments comments rows c o

-- rows that begin with `+`
abbrev pub plus_rows : List (List (List ℕ)) → List (List (List ℕ))
plus_rows groups = map (λ group. codes "+" ∷ group) groups

-- where each row begins a card, the first adds no words to a card before it
pub added-none : (rows : List (List (List ℕ))) → AllByRecursion Begins rows → added_words (map row_line rows) ≡ []
added-none [] h = refl
added-none (row ∷ rows) h = rw h.0 refl

pub cards_of-begins : (rows : List (List (List ℕ))) → AllByRecursion IsPlainRow rows → AllByRecursion Begins rows → cards_of (map row_line rows) ≡ rows
cards_of-begins [] h b = refl
cards_of-begins (row ∷ rows) h b =
    let first : words (row_line row) ++ added_words (map row_line rows) ≡ row = ap (λ l. words (row_line row) ++ l) (added-none rows b.1) ∙ append-nil (words (row_line row)) ∙ words-row row h.0 in
    let rest = cards_of-begins rows h.1 b.1 in
    rw b.0 (ap (λ l. l ∷ cards_of (map row_line rows)) first ∙ ap (λ l. row ∷ l) rest)

-- rows with `+` add their words to the card before them
added-plus : (groups rows : List (List (List ℕ))) → AllByRecursion (AllByRecursion IsNetName) groups → AllByRecursion Begins rows
    → added_words (map row_line (plus_rows groups ++ rows)) ≡ flat_map (λ group. group) groups
added-plus [] rows g b = added-none rows b
added-plus (group ∷ groups) rows g b =
    let first = words-after_blanks group (AllSolid-names group g.0) in
    let rest = added-plus groups rows g.1 b in
    ap (λ l. l ++ added_words (map row_line (plus_rows groups ++ rows))) first ∙ ap (λ l. group ++ l) rest

-- and are no cards
cards_of-plus : (groups rows : List (List (List ℕ))) → cards_of (map row_line (plus_rows groups ++ rows)) ≡ cards_of (map row_line rows)
cards_of-plus [] rows = refl
cards_of-plus (group ∷ groups) rows = cards_of-plus groups rows

-- the cards of a card with its rows with `+`, and of the cards behind it
pub cards_of-rows : (opening : List (List ℕ)) (groups rows : List (List (List ℕ)))
    → IsPlainRow opening → Begins opening → AllByRecursion (AllByRecursion IsNetName) groups → AllByRecursion IsPlainRow rows → AllByRecursion Begins rows
    → cards_of (map row_line (opening ∷ plus_rows groups ++ rows)) ≡ (opening ++ flat_map (λ group. group) groups) ∷ rows
cards_of-rows opening groups rows o first g h b =
    rw first
    (ap (λ l. (l ++ added_words (map row_line (plus_rows groups ++ rows))) ∷ cards_of (map row_line (plus_rows groups ++ rows))) (words-row opening o)
    ∙ ap (λ l. (opening ++ l) ∷ cards_of (map row_line (plus_rows groups ++ rows))) (added-plus groups rows g b)
    ∙ ap (λ l. (opening ++ flat_map (λ group. group) groups) ∷ l) (cards_of-plus groups rows ∙ cards_of-begins rows h b))
