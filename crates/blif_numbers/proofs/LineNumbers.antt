-- Numbers of logical lines grow.
use Rattle.std.proofs.Common.{◌≡◌, ℕ, zero, suc, ◌≤◌, ◌+◌, Bool, true, false, List, [], ◌∷◌, map, filter, take, refl, arith}
use Rattle.blif_ast.specs.LogicalLines.{LogicalLine, NumberedBytes, in_words, has_words, is_joined, with_blank, joined_lines, with_line, with_next, logical_lines, logical_lines_from}
use Rattle.dom_base.specs.LineFaults.{NumbersRise}
use Rattle.dom_base.proofs.Faults.{NumbersRise-lower}
use Rattle.dom_base.specs.Lines.{lines, without_comment}

-- logical lines whose numbers grow, from this number on
abbrev pub Rises : ℕ → List LogicalLine → Type 0
Rises = NumbersRise (λ line. line.number)

abbrev RisesInBytes : ℕ → List NumberedBytes → Type 0
RisesInBytes n [] = Unit {0}
RisesInBytes n (line ∷ more) = (n ≤ line.number) × RisesInBytes (line.number + 1) more

bytes_lower : (n m : ℕ) (all : List NumberedBytes) → m ≤ n → RisesInBytes n all → RisesInBytes m all
bytes_lower n m [] le h = tt
bytes_lower n m (line ∷ more) le h = (omega (arith, le, h.0), h.1)

pub Rises-lower : (n m : ℕ) (all : List LogicalLine) → m ≤ n → Rises n all → Rises m all
Rises-lower n m all le h = NumbersRise-lower (λ line. line.number) n m all le h

next_rises : (n : ℕ) (line : List ℕ) (next : List NumberedBytes) → RisesInBytes (n + 1) next → RisesInBytes n (with_next n line next)
next_rises n line [] h = (omega arith, tt)
next_rises n line (next ∷ more) h = (omega arith, bytes_lower (next.number + 1) (n + 1) more (omega (arith, h.0)) h.1)

line_rises : (n : ℕ) (line : List ℕ) (next : List NumberedBytes) → RisesInBytes (n + 1) next → RisesInBytes n (with_line n line next)
line_rises n line next h = by (is_joined line) refl
  where
    by : (b : Bool) → is_joined line ≡ b → RisesInBytes n (with_line n line next)
    by true e = rw e (next_rises n (with_blank line) next h)
    by false e = rw e (omega arith, h)

joined_rises : (n : ℕ) (all : List (List ℕ)) → RisesInBytes n (joined_lines n all)
joined_rises n [] = tt
joined_rises n (line ∷ more) = line_rises n line (joined_lines (n + 1) more) (joined_rises (n + 1) more)

words_rise : (n : ℕ) (all : List NumberedBytes) → RisesInBytes n all → Rises n (map in_words all)
words_rise n [] h = tt
words_rise n (line ∷ more) h = (h.0, words_rise (line.number + 1) more h.1)

pub Rises-filter : (n : ℕ) (test : LogicalLine → Bool) (all : List LogicalLine) → Rises n all → Rises n (filter test all)
Rises-filter n test [] h = tt
Rises-filter n test (line ∷ more) h = by (test line) refl (Rises-filter (line.number + 1) test more h.1)
  where
    by : (b : Bool) → test line ≡ b → Rises (line.number + 1) (filter test more) → Rises n (filter test (line ∷ more))
    by true e rest = rw e (h.0, rest)
    by false e rest = rw e (Rises-lower (line.number + 1) n (filter test more) (omega (arith, h.0)) rest)

pub Rises-take : (n k : ℕ) (all : List LogicalLine) → Rises n all → Rises n (take k all)
Rises-take n zero all h = tt
Rises-take n (suc k) [] h = tt
Rises-take n (suc k) (line ∷ more) h = (h.0, Rises-take (line.number + 1) k more h.1)

pub logical_lines_from-rise : (n : ℕ) (all : List (List ℕ)) → Rises n (logical_lines_from n all)
logical_lines_from-rise n all =
    Rises-filter n has_words (map in_words (joined_lines n (map without_comment all)))
    (words_rise n (joined_lines n (map without_comment all)) (joined_rises n (map without_comment all)))

pub logical_lines-rise : (text : List ℕ) → Rises 1 (logical_lines text)
logical_lines-rise text = logical_lines_from-rise 1 (lines text)
