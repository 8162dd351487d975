-- The first piece of a line, before the first byte that parts words, and that it has no control byte.
use Rattle.std.proofs.Common.{◌≡◌, ℕ, ◌≤◌, true, false, not, nat_lt, List, length, take, get_or, Some, None, sym, ap, ◌∙◌, arith}
use Rattle.std.specs.List.{before_first, list_any, position, position_or_len}
use Rattle.std.proofs.lemmas.Bool.Decides.{nat_tests}
use Rattle.std.proofs.lemmas.Grind.{common_steps}
use Rattle.std.proofs.lemmas.List.{take_all}
use Rattle.std.proofs.lemmas.List.Quantifiers.{position-Some}
use Rattle.std.proofs.lemmas.List.Sums.{fails_before_first, position_or_len_is, prefix_len-le-length}
use Rattle.dom_base.specs.Lines.{is_blank, is_control}
use Rattle.dom_base.proofs.Bools.{or_none}
use Rattle.dom_base.proofs.Lists.{AllByRecursion-weaker, before_first-all, list_any-none}
use Rattle.spice_read.specs.Readers.{is_unplain}

plain_no_blank : (b : ℕ) → is_unplain b ≡ false → is_blank b ≡ false
plain_no_blank b e = let both = or_none (nat_lt b 33) (nat_lt 126 b) e in grind (arith, nat_tests, both.0)

plain_no_control : (b : ℕ) → is_unplain b ≡ false → is_control b ≡ false
plain_no_control b e = let both = or_none (nat_lt b 33) (nat_lt 126 b) e in grind (arith, nat_tests, both.0, both.1)

no_control : (line : List ℕ) → list_any is_control (before_first is_unplain line) ≡ false
no_control line = list_any-none is_control (before_first is_unplain line)
    (AllByRecursion-weaker (λ b. is_unplain b ≡ false) (λ b. is_control b ≡ false) plain_no_control (before_first is_unplain line) (before_first-all is_unplain line))

-- no byte parts words or is a control byte
pub none_unplain : (line : List ℕ) → None ≡ position is_unplain line
    → (line ≡ before_first is_blank line) × (false ≡ list_any is_control line)
none_unplain line none =
    let le : position_or_len is_unplain line ≤ length line = prefix_len-le-length (λ b. not (is_unplain b)) line in
    let end : position_or_len is_unplain line ≡ length line = grind (arith, common_steps, le) in
    let place : position_or_len is_blank line ≡ length line =
    position_or_len_is is_blank line (length line) 0 (omega arith)
    (λ k lt. plain_no_blank (get_or line k 0) (fails_before_first is_unplain line k 0 (omega (arith, lt, end)))) (λ lt. absurd (omega (arith, lt))) in
    let whole : take (length line) line ≡ line = take_all (length line) line (omega arith) in (
      sym (ap (λ n. take n line) place ∙ whole),
      sym (ap (list_any is_control) (sym (ap (λ n. take n line) end ∙ whole)) ∙ no_control line),
    )

-- the first such byte parts words
pub blank_ends : (line : List ℕ) (end : ℕ) → Some end ≡ position is_unplain line → is_blank (get_or line end 0) ≡ true
    → (take end line ≡ before_first is_blank line) × (false ≡ list_any is_control (take end line))
blank_ends line end is ends =
    let first = position-Some is_unplain line end 0 (sym is) in
    let at : position_or_len is_unplain line ≡ end = position_or_len_is is_unplain line end 0 (omega (arith, first.0)) first.2 (λ lt. first.1) in
    let place : position_or_len is_blank line ≡ end =
    position_or_len_is is_blank line end 0 (omega (arith, first.0)) (λ k lt. plain_no_blank (get_or line k 0) (first.2 k lt)) (λ lt. ends) in (
      ap (λ n. take n line) (sym place),
      sym (ap (λ n. list_any is_control (take n line)) (sym at) ∙ no_control line),
    )
