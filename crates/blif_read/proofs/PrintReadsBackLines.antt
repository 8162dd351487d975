-- The logical lines of a printed text: the lines that were printed, with the numbers 1, 2 and so on.
use Rattle.std.proofs.Common.{◌≡◌, ℕ, ◌+◌, true, nat_lt, if◌then◌else◌, List, [], ◌∷◌, ◌++◌, length, map, filter, refl, ap, ◌∙◌, append_assoc, arith}
use Rattle.std.proofs.lemmas.Bool.Decides.{nat_tests}
use Rattle.std.specs.List.{AllByRecursion, flat_map}
use Rattle.dom_base.specs.Joined.{ended, IsClean}
use Rattle.dom_base.proofs.Texts.{lines-ended}
use Rattle.blif_ast.specs.Printed.{printed_line}
use Rattle.dom_base.specs.Lines.{without_comment}
use Rattle.blif_ast.specs.LogicalLines.{LogicalLine, in_words, has_words, joined_lines, with_line, with_next, with_blank, logical_lines, logical_lines_from}
use Rattle.blif_read.proofs.PrintReadsBackWords.{body, IsNamesLine, body_words, body_clean, body_not_joined, body_uncommented}

-- lines with numbers from this one on
abbrev pub line_at : ℕ → List (List ℕ) → LogicalLine
line_at number all = record { number = number; words = all }

abbrev pub numbered : ℕ → List (List (List ℕ)) → List LogicalLine
numbered number [] = []
numbered number (first ∷ more) = line_at number first ∷ numbered (number + 1) more

line_ended : (first : List (List ℕ)) (rest : List ℕ) → printed_line first ++ rest ≡ ended (body first) ++ rest
line_ended first rest = simp append_assoc

lines_ended : (all : List (List (List ℕ))) → flat_map printed_line all ≡ flat_map ended (map body all)
lines_ended [] = refl
lines_ended (first ∷ more) =
    line_ended first (flat_map printed_line more)
    ∙ ap (λ l. ended (body first) ++ l) (lines_ended more)

lines_clean : (all : List (List (List ℕ))) → AllByRecursion IsNamesLine all → AllByRecursion IsClean (map body all)
lines_clean [] h = tt
lines_clean ([] ∷ more) h = absurd h.0
lines_clean ((first ∷ others) ∷ more) h = (body_clean (first ∷ others) h.0, lines_clean more h.1)

lines_numbered : (number : ℕ) (all : List (List (List ℕ))) → AllByRecursion IsNamesLine all → logical_lines_from number (map body all) ≡ numbered number all
lines_numbered number [] h = refl
lines_numbered number ([] ∷ more) h = absurd h.0
lines_numbered number ((first ∷ others) ∷ more) h =
    let rest = joined_lines (number + 1) (map without_comment (map body more)) in
    let own = body (first ∷ others) in
    let some : nat_lt 0 (length (first ∷ others)) ≡ true = grind (arith, nat_tests) in
    ap (λ l. filter has_words (map in_words (with_line number l rest))) (body_uncommented (first ∷ others) h.0)
    ∙ ap (λ t. filter has_words (map in_words (if t then with_next number (with_blank own) rest else record { number = number; bytes = own } ∷ rest))) (body_not_joined (first ∷ others) h.0)
    ∙ ap (λ all. filter has_words (line_at number all ∷ map in_words rest)) (body_words first others h.0.0 h.0.1)
    ∙ ap (λ t. if t then line_at number (first ∷ others) ∷ filter has_words (map in_words rest) else filter has_words (map in_words rest)) some
    ∙ ap (λ l. line_at number (first ∷ others) ∷ l) (lines_numbered (number + 1) more h.1)

-- the logical lines of lines that are printed
pub printed_lines : (all : List (List (List ℕ))) → AllByRecursion IsNamesLine all → logical_lines (flat_map printed_line all) ≡ numbered 1 all
printed_lines all h =
    ap logical_lines (lines_ended all)
    ∙ ap (logical_lines_from 1) (lines-ended (map body all) (lines_clean all h))
    ∙ lines_numbered 1 all h
