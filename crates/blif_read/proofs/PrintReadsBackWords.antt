-- A printed line: its bytes, and what it is cut back into.
use Rattle.std.proofs.Common.{◌≡◌, ◌≢◌, ℕ, suc, ◌<◌, ◌-◌, Bool, true, false, ◌==◌, not, if◌then◌else◌, List, [], ◌∷◌, ◌++◌, length, refl, ap, sym, ◌∙◌, append-nil, arith}
use Rattle.std.specs.List.{AllByRecursion, join_with_byte, before_first}
use Rattle.std.specs.Prelude.{slice_index_or}
use Rattle.std.proofs.lemmas.Bool.Decides.{nat_tests}
use Rattle.std.proofs.lemmas.List.Elements.{All-weaker, All-from_recursion, recursion_from_All}
use Rattle.dom_base.specs.Lines.{is_line_feed, is_blank, is_word, words, without_comment}
use Rattle.dom_base.proofs.Lists.{AllByRecursion-append, AllByRecursion-weaker, take_while-keep}
use Rattle.dom_base.specs.Joined.{after_blanks, joined, IsClean, IsSolid}
use Rattle.dom_base.proofs.Texts.{words-joined}
use Rattle.dom_base.proofs.WordBytes.{some_byte, words-trailing}
use Rattle.blif_ast.specs.Good.{IsNameByte, IsGoodName}
use Rattle.blif_ast.specs.Cards.{last_word}
use Rattle.blif_ast.specs.Printed.{guard}
use Rattle.blif_ast.specs.LogicalLines.{last_byte, is_joined}
use Rattle.blif_ast.proofs.LineWords.{joined_words, last-append, joined-last}

-- a printed line without its LF
abbrev pub body : List (List ℕ) → List ℕ
body all = join_with_byte 32 all ++ guard (last_word all)

-- a line that has words, each a good name
abbrev pub IsNamesLine : List (List ℕ) → Type 0
IsNamesLine [] = ⊥
IsNamesLine (first ∷ others) = IsGoodName first × AllByRecursion IsGoodName others

last-behind : (word rest : List ℕ) → is_word word ≡ true → last_byte (32 ∷ word ++ rest) ≡ last_byte (word ++ rest)
last-behind [] rest h = absurd cc
last-behind (b ∷ bs) rest h = refl

last_word-next : (word next : List ℕ) (all : List (List ℕ)) → last_word (word ∷ next ∷ all) ≡ last_word (next ∷ all)
last_word-next word next all =
    let long : length (word ∷ next ∷ all) - 1 ≡ suc (length all) = omega arith in
    let short : length (next ∷ all) - 1 ≡ length all = omega arith in
    ap (λ n. slice_index_or (word ∷ next ∷ all) n []) long ∙ ap (λ n. slice_index_or (next ∷ all) n []) (sym short)

last-join : (all : List (List ℕ)) → AllByRecursion IsSolid all → last_byte (join_with_byte 32 all) ≡ last_byte (last_word all)
last-join [] h = refl
last-join (word ∷ []) h = refl
last-join (word ∷ next ∷ all) h =
    last-append word 32 (join_with_byte 32 (next ∷ all))
    ∙ ap (λ l. last_byte (32 ∷ l)) (joined_words next all)
    ∙ last-behind next (after_blanks all) h.1.0.some
    ∙ ap last_byte (sym (joined_words next all))
    ∙ last-join (next ∷ all) h.1
    ∙ ap last_byte (sym (last_word-next word next all))

name_no_blank : (b : ℕ) → IsNameByte b → is_blank b ≡ false
name_no_blank b h = grind (arith, nat_tests, h.0)

solid_name : (word : List ℕ) → IsGoodName word → IsSolid word
solid_name word h = record { some = some_byte word h.some; no_blank = All-weaker IsNameByte (λ b. is_blank b ≡ false) name_no_blank word h.bytes }

solid_names : (all : List (List ℕ)) → AllByRecursion IsGoodName all → AllByRecursion IsSolid all
solid_names all h = AllByRecursion-weaker IsGoodName IsSolid solid_name all h

-- a printed line isn't joined with the next one
pub body_not_joined : (all : List (List ℕ)) → AllByRecursion IsGoodName all → is_joined (body all) ≡ false
body_not_joined all h = joined-last (body all) ∙ by (is_joined (last_word all)) refl
  where
    by : (t : Bool) → is_joined (last_word all) ≡ t → (last_byte (body all) == 92) ≡ false
    by true e =
        ap (λ t. last_byte (join_with_byte 32 all ++ (if t then 32 ∷ [] else [])) == 92) e
        ∙ ap (λ b. b == 92) (last-append (join_with_byte 32 all) 32 [])
    by false e =
        ap (λ t. last_byte (join_with_byte 32 all ++ (if t then 32 ∷ [] else [])) == 92) e
        ∙ ap (λ l. last_byte l == 92) (append-nil (join_with_byte 32 all))
        ∙ ap (λ b. b == 92) (last-join all (solid_names all h))
        ∙ sym (joined-last (last_word all))
        ∙ e

-- the words of a printed line
pub body_words : (first : List ℕ) (others : List (List ℕ)) → IsGoodName first → AllByRecursion IsGoodName others → words (body (first ∷ others)) ≡ first ∷ others
body_words first others f h = ap (λ l. words (l ++ guard (last_word (first ∷ others)))) (joined_words first others) ∙ by (is_joined (last_word (first ∷ others))) refl
  where
    by : (t : Bool) → is_joined (last_word (first ∷ others)) ≡ t → words (joined first others ++ guard (last_word (first ∷ others))) ≡ first ∷ others
    by true e = ap (λ t. words (joined first others ++ (if t then 32 ∷ [] else []))) e ∙ words-trailing first others (solid_name first f) (solid_names others h)
    by false e =
        ap (λ t. words (joined first others ++ (if t then 32 ∷ [] else []))) e
        ∙ ap words (append-nil (joined first others))
        ∙ words-joined first others (solid_name first f) (solid_names others h)

-- a byte of a printed line: no control byte and no byte that begins a comment
abbrev IsLineByte : ℕ → Type 0
IsLineByte b = (31 < b) × (b ≢ 35)

name_line_byte : (b : ℕ) → IsNameByte b → IsLineByte b
name_line_byte b h = (omega (arith, h.0), h.2)

blank_line_byte : IsLineByte 32
blank_line_byte = (omega arith, λ e. absurd (omega (arith, e)))

name_line_bytes : (word : List ℕ) → IsGoodName word → AllByRecursion IsLineByte word
name_line_bytes word h = AllByRecursion-weaker IsNameByte IsLineByte name_line_byte word (recursion_from_All IsNameByte word h.bytes)

join_line_bytes : (all : List (List ℕ)) → AllByRecursion IsGoodName all → AllByRecursion IsLineByte (join_with_byte 32 all)
join_line_bytes [] h = tt
join_line_bytes (word ∷ []) h = name_line_bytes word h.0
join_line_bytes (word ∷ next ∷ all) h =
    AllByRecursion-append IsLineByte word (32 ∷ join_with_byte 32 (next ∷ all)) (name_line_bytes word h.0) (blank_line_byte, join_line_bytes (next ∷ all) h.1)

guard_line_bytes : (t : Bool) → AllByRecursion IsLineByte (if t then 32 ∷ [] else [])
guard_line_bytes true = (blank_line_byte, tt)
guard_line_bytes false = tt

body_line_bytes : (all : List (List ℕ)) → AllByRecursion IsGoodName all → AllByRecursion IsLineByte (body all)
body_line_bytes all h =
    AllByRecursion-append IsLineByte (join_with_byte 32 all) (guard (last_word all)) (join_line_bytes all h) (guard_line_bytes (is_joined (last_word all)))

no_feed : (b : ℕ) → IsLineByte b → is_line_feed b ≡ false
no_feed b h = grind (arith, nat_tests, h.0)

no_return : (b : ℕ) → IsLineByte b → (b == 13) ≡ false
no_return b h = grind (arith, nat_tests, h.0)

no_mark : (b : ℕ) → IsLineByte b → (b == 35) ≡ false
no_mark b h = grind (arith, nat_tests, h.1)

-- a printed line has no LF and no CR
pub body_clean : (all : List (List ℕ)) → AllByRecursion IsGoodName all → IsClean (body all)
body_clean all h = record {
  no_feed = All-from_recursion (λ b. is_line_feed b ≡ false) (body all) (AllByRecursion-weaker IsLineByte (λ b. is_line_feed b ≡ false) no_feed (body all) (body_line_bytes all h));
  no_return = All-from_recursion (λ b. (b == 13) ≡ false) (body all) (AllByRecursion-weaker IsLineByte (λ b. (b == 13) ≡ false) no_return (body all) (body_line_bytes all h));
}

before_first-none : (test : ℕ → Bool) (bs : List ℕ) → AllByRecursion (λ b. test b ≡ false) bs → before_first test bs ≡ bs
before_first-none test [] h = refl
before_first-none test (b ∷ bs) h = take_while-keep (λ c. not (test c)) b bs (ap not h.0) ∙ ap (λ l. b ∷ l) (before_first-none test bs h.1)

-- a printed line has no comment
pub body_uncommented : (all : List (List ℕ)) → AllByRecursion IsGoodName all → without_comment (body all) ≡ body all
body_uncommented all h = before_first-none (λ b. b == 35) (body all) (AllByRecursion-weaker IsLineByte (λ b. (b == 35) ≡ false) no_mark (body all) (body_line_bytes all h))
