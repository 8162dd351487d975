-- The text of the stimulus is accepted as its cycles.
use Rattle.std.proofs.Common.{◌≡◌, ℕ, ◌+◌, ◌<◌, Bool, true, false, ◌==◌, not, List, [], ◌∷◌, ◌++◌, length, map, filter, get_or, refl, sym, ap, ◌∙◌}
use Rattle.std.specs.List.{AllByRecursion, flat_map, range_with_len}
use Rattle.std.proofs.lemmas.List.Elements.{All-from_recursion}
use Rattle.std.proofs.lemmas.List.Folds.{flat_map-map}
use Rattle.std.proofs.lemmas.List.FromFn.{length-map-range_with_len}
use Rattle.std.proofs.lemmas.Option.{slice_get-get_or}
use Rattle.dom_base.specs.Joined.{IsClean, ended}
use Rattle.dom_base.specs.Lines.{is_blank, is_line_feed, is_word, lines, without_comment}
use Rattle.dom_base.proofs.Lists.{AllByRecursion-contains, AllByRecursion-every, AllByRecursion-map, AllByRecursion-weaker, Contains-slice_get, before_first-none, filter_all}
use Rattle.dom_base.proofs.Texts.{lines-ended}
use Rattle.stim_text.specs.CycleLines.{bit_letter, pin_letters}
use Rattle.stim_text.specs.Stimuli.{IsStimulusOf, lettered_from, letters_of}
use Rattle.net_gen.specs.Stimulus.{stimulus_bit, stimulus_cycle, stimulus_cycles, stimulus_text}

-- a byte that neither begins a comment nor is a blank nor ends a line
pub record IsPlainLetter (b : ℕ) : Type 0 where
  pub no_comment : (b == 35) ≡ false
  pub no_blank : is_blank b ≡ false
  pub no_feed : is_line_feed b ≡ false
  pub no_return : (b == 13) ≡ false

bits_are_plain : (pins : List Bool) → AllByRecursion IsPlainLetter (map bit_letter pins)
bits_are_plain [] = tt
bits_are_plain (true ∷ pins) = (record { no_comment = refl; no_blank = refl; no_feed = refl; no_return = refl }, bits_are_plain pins)
bits_are_plain (false ∷ pins) = (record { no_comment = refl; no_blank = refl; no_feed = refl; no_return = refl }, bits_are_plain pins)

letters_are_plain : (pins : List Bool) → AllByRecursion IsPlainLetter (pin_letters pins)
letters_are_plain [] = (record { no_comment = refl; no_blank = refl; no_feed = refl; no_return = refl }, tt)
letters_are_plain (pin ∷ pins) = bits_are_plain (pin ∷ pins)

are_some : (pins : List Bool) → is_word (pin_letters pins) ≡ true
are_some [] = refl
are_some (pin ∷ pins) = refl

-- a line of letters is its letters
letters_stay : (line : List ℕ) → AllByRecursion IsPlainLetter line → letters_of line ≡ line
letters_stay line h =
    ap (filter (λ b. not (is_blank b))) (before_first-none (λ b. b == 35) line (AllByRecursion-weaker IsPlainLetter (λ b. (b == 35) ≡ false) (λ b p. p.no_comment) line h))
    ∙ filter_all (λ b. not (is_blank b)) line (AllByRecursion-weaker IsPlainLetter (λ b. not (is_blank b) ≡ true) (λ b p. ap not p.no_blank) line h)

is_clean : (line : List ℕ) → AllByRecursion IsPlainLetter line → IsClean line
is_clean line h = record {
  no_feed = λ k d l. (AllByRecursion-contains IsPlainLetter line (get_or line k d) h (Contains-slice_get line k (get_or line k d) (slice_get-get_or line k d l))).no_feed;
  no_return = All-from_recursion (λ b. (b == 13) ≡ false) line (AllByRecursion-weaker IsPlainLetter (λ b. (b == 13) ≡ false) (λ b p. p.no_return) line h);
}

lettered_line : (number : ℕ) (line : List ℕ) (more : List (List ℕ)) → letters_of line ≡ line → is_word line ≡ true
    → lettered_from number (line ∷ more) ≡ (number, line) ∷ lettered_from (number + 1) more
lettered_line number line more same some = whole ∙ ap (λ l. (number, l) ∷ lettered_from (number + 1) more) same
  where
    has : is_word (letters_of line) ≡ true
    has = ap is_word same ∙ some

    whole : lettered_from number (line ∷ more) ≡ (number, letters_of line) ∷ lettered_from (number + 1) more
    whole = rw has refl

lettered_cycles : (number : ℕ) (cycles : List (List Bool)) → map (λ (line : ℕ × List ℕ). line.1) (lettered_from number (map pin_letters cycles)) ≡ map pin_letters cycles
lettered_cycles number [] = refl
lettered_cycles number (pins ∷ cycles) =
    ap (map (λ (line : ℕ × List ℕ). line.1))
    (lettered_line number (pin_letters pins) (map pin_letters cycles) (letters_stay (pin_letters pins) (letters_are_plain pins)) (are_some pins))
    ∙ ap (λ l. pin_letters pins ∷ l) (lettered_cycles (number + 1) cycles)

lines_are : (cycles : List (List Bool)) → lines (flat_map (λ pins. pin_letters pins ++ 10 ∷ []) cycles) ≡ map pin_letters cycles
lines_are cycles =
    ap lines (sym (flat_map-map ended pin_letters cycles))
    ∙ lines-ended (map pin_letters cycles)
    (AllByRecursion-map IsClean pin_letters cycles (AllByRecursion-every (λ pins. IsClean (pin_letters pins)) (λ pins. is_clean (pin_letters pins) (letters_are_plain pins)) cycles))

pub stimulus_reads : (seed width : ℕ) → IsStimulusOf width (stimulus_text seed width) (stimulus_cycles seed width)
stimulus_reads seed width = record {
  letters_are = ap (λ l. map (λ (line : ℕ × List ℕ). line.1) (lettered_from 1 l)) (lines_are (stimulus_cycles seed width)) ∙ lettered_cycles 1 (stimulus_cycles seed width);
  widths_are = All-from_recursion (λ pins. length pins ≡ width) (stimulus_cycles seed width)
      (AllByRecursion-map (λ pins. length pins ≡ width) (stimulus_cycle seed width) (range_with_len 0 4)
      (AllByRecursion-every (λ cycle. length (stimulus_cycle seed width cycle) ≡ width) (λ cycle. length-map-range_with_len (stimulus_bit seed cycle) 0 width) (range_with_len 0 4)));
}
