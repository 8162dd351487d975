-- The words of a printed line, its last byte, and the blank behind a last word that ends with `\`.
use Rattle.std.proofs.Common.{◌≡◌, ℕ, zero, suc, ◌+◌, ◌-◌, ◌≤◌, Bool, ◌==◌, if◌then◌else◌, List, [], ◌∷◌, ◌++◌, nat_eq, length, drop, slice_index, refl, ap, sym, ◌∙◌, append_assoc, append-nil, length-append, arith, rules}
use Rattle.std.specs.Prelude.{slice_index_or}
use Rattle.std.specs.Cmp.Lexicographic.{pointwise}
use Rattle.std.proofs.lemmas.Bool.Decides.{nat_tests}
use Rattle.std.proofs.lemmas.Grind.{flat_map-append}
use Rattle.std.specs.List.{flat_map, join_with_byte}
use Rattle.dom_base.proofs.Lists.{slice_index_or-push}
use Rattle.blif_ast.specs.Cards.{last_word}
use Rattle.blif_ast.specs.LogicalLines.{is_joined, last_byte}
use Rattle.blif_ast.specs.Printed.{guard, printed_line, ports_card}

-- a blank before each word, and the word
abbrev pub spaced : List (List ℕ) → List ℕ
spaced words = flat_map (λ word. 32 ∷ word) words

-- one blank between any two words is one blank before each but the first
pub joined_words : (first : List ℕ) (others : List (List ℕ)) → join_with_byte 32 (first ∷ others) ≡ first ++ spaced others
joined_words first [] = search (rules, append-nil)
joined_words first (word ∷ words) = ap (λ rest. first ++ 32 ∷ rest) (joined_words word words)

-- the last of some words
pub last_word-end : (words : List (List ℕ)) (word : List ℕ) → last_word (words ++ word ∷ []) ≡ word
last_word-end words word =
    let count : length (words ++ word ∷ []) - 1 ≡ length words = omega (arith, length-append words (word ∷ [])) in
    ap (λ n. slice_index_or (words ++ word ∷ []) n []) count ∙ slice_index_or-push words word []

-- a line, by what is appended to a text in turn
pub line_end : (text first : List ℕ) (words : List (List ℕ)) (last : List ℕ)
    → (((text ++ first) ++ spaced words) ++ 32 ∷ last) ++ guard last ++ 10 ∷ [] ≡ text ++ printed_line (first ∷ words ++ last ∷ [])
line_end text first words last =
    rw (joined_words first (words ++ last ∷ []), last_word-end (first ∷ words) last, flat_map-append (λ word. 32 ∷ word) words (last ∷ [])) (simp (append_assoc, append-nil))

-- names on a card for ports are one line
pub ports_card-end : (card : List ℕ) (names : List (List ℕ)) (name : List ℕ) → ports_card card (names ++ name ∷ []) ≡ (card ∷ names ++ name ∷ []) ∷ []
ports_card-end card [] name = refl
ports_card-end card (first ∷ names) name = refl

-- a digit does not end with `\`
pub guard_digit : (digit : ℕ) → digit ≤ 3 → guard ((48 + digit) ∷ []) ≡ []
guard_digit zero few = refl
guard_digit (suc zero) few = refl
guard_digit (suc (suc zero)) few = refl
guard_digit (suc (suc (suc zero))) few = refl
guard_digit (suc (suc (suc (suc digit)))) few = absurd (omega (arith, few))

pub index-last : (bs : List ℕ) → slice_index bs (length bs - 1) ≡ last_byte bs
index-last [] = refl
index-last (b ∷ []) = refl
index-last (b ∷ next ∷ bs) =
    let long : length (b ∷ next ∷ bs) - 1 ≡ suc (length bs) = omega arith in
    let short : length (next ∷ bs) - 1 ≡ length bs = omega arith in
    ap (slice_index (b ∷ next ∷ bs)) long ∙ ap (slice_index (next ∷ bs)) (sym short) ∙ index-last (next ∷ bs)

pub last-append : (front : List ℕ) (b : ℕ) (rest : List ℕ) → last_byte (front ++ b ∷ rest) ≡ last_byte (b ∷ rest)
last-append [] b rest = refl
last-append (x ∷ []) b rest = refl
last-append (x ∷ y ∷ front) b rest = last-append (y ∷ front) b rest

-- a line is joined by its last byte
pub joined-last : (line : List ℕ) → is_joined line ≡ (last_byte line == 92)
joined-last [] = refl
joined-last (b ∷ []) = one b
  where
    one : (b : ℕ) → is_joined (b ∷ []) ≡ (b == 92)
    one b = grind (arith, nat_tests)
joined-last (b ∷ next ∷ bs) =
    let long : length (b ∷ next ∷ bs) - 1 ≡ suc (length bs) = omega arith in
    let short : length (next ∷ bs) - 1 ≡ length bs = omega arith in
    ap (λ n. pointwise nat_eq (92 ∷ []) (drop n (b ∷ next ∷ bs))) long
    ∙ ap (λ n. pointwise nat_eq (92 ∷ []) (drop n (next ∷ bs))) (sym short)
    ∙ joined-last (next ∷ bs)

abbrev blank_if : Bool → List ℕ
blank_if b = if b then 32 ∷ [] else []

-- a binding ends with `\` where its actual does
pub guard_binding : (formal actual : List ℕ) → guard (formal ++ 61 ∷ actual) ≡ guard actual
guard_binding formal actual =
    ap blank_if (joined-last (formal ++ 61 ∷ actual))
    ∙ ap (λ b. blank_if (b == 92)) (last-append formal 61 actual)
    ∙ by actual
    ∙ ap blank_if (sym (joined-last actual))
  where
    by : (bs : List ℕ) → blank_if (last_byte (61 ∷ bs) == 92) ≡ blank_if (last_byte bs == 92)
    by [] = refl
    by (b ∷ bs) = refl
