-- Stimuli: the lines of a text that have letters, and the cycles that they stand for.
use Rattle.std.specs.Prelude.{ℕ, ◌≡◌, Bool, true, false, ◌==◌, ◌||◌, ◌&&◌, not, if◌then◌else◌, List, [], ◌∷◌, ◌++◌, codes, length, map, filter, All}
use Rattle.std.specs.List.{enumerate_from, list_all}
use Rattle.dom_base.specs.Lines.{is_blank, is_word, lines, without_comment}
use Rattle.stim_text.specs.declared.fault.StimKind.{StimKind}
use Rattle.stim_text.specs.declared.fault.StimKind.TheVariants.{BadLetter, BadLength}
use Rattle.stim_text.specs.CycleLines.{pin_letters}

-- the letters of a line: what stands outside its comment, without blanks and tabs
abbrev pub letters_of : List ℕ → List ℕ
letters_of line = filter (λ b. not (is_blank b)) (without_comment line)

-- the lines that have letters, by their numbers and letters, where the first line has this number
abbrev pub lettered_from : ℕ → List (List ℕ) → List (ℕ × List ℕ)
lettered_from number all = filter (λ line. is_word line.1) (enumerate_from number (map letters_of all))

-- the lines of a text that have letters, numbered over all its lines from 1
abbrev pub lettered_lines : List ℕ → List (ℕ × List ℕ)
lettered_lines text = lettered_from 1 (lines text)

-- a letter for this number of pins: `0` and `1`, and `-` where there are no pins
abbrev pub is_pin_letter : ℕ → ℕ → Bool
is_pin_letter width b = (b == 48) || (b == 49) || ((width == 0) && (b == 45))

abbrev pub are_letters : ℕ → List ℕ → Bool
are_letters width letters = list_all (is_pin_letter width) letters

-- a line of the one letter `-`
abbrev pub is_dash : List ℕ → Bool
is_dash [] = false
is_dash (b ∷ []) = b == 45
is_dash (b ∷ next ∷ bs) = false

-- the length for this number of pins: a letter for each, and `-` alone where there are none
abbrev pub has_width : ℕ → List ℕ → Bool
has_width width letters = if width == 0 then is_dash letters else length letters == width

-- the word for a kind, as it is printed
abbrev pub stim_kind_word : StimKind → List ℕ
stim_kind_word BadLetter = codes "BadLetter"
stim_kind_word BadLength = codes "BadLength"

-- a line with these letters has a fault of this kind; one with another letter has no other fault
abbrev pub has_stim_fault : ℕ → StimKind → List ℕ → Bool
has_stim_fault width BadLetter letters = not (are_letters width letters)
has_stim_fault width BadLength letters = are_letters width letters && not (has_width width letters)

-- the text is a stimulus of these cycles: its lines with letters are the cycles, in order, each with a bit for each pin
pub record IsStimulusOf (width : ℕ) (text : List ℕ) (cycles : List (List Bool)) : Type 0 where
  pub letters_are : map (λ line. line.1) (lettered_lines text) ≡ map pin_letters cycles
  pub widths_are : All (λ pins. length pins ≡ width) cycles

-- the text is refused at this line for this kind: no line before it has a fault
pub record IsStimFaultAt (width : ℕ) (text : List ℕ) (number : ℕ) (kind : StimKind) : Type 0 where
  pub before : List (ℕ × List ℕ)
  pub letters : List ℕ
  pub after : List (ℕ × List ℕ)
  pub lines_are : lettered_lines text ≡ before ++ (number, letters) ∷ after
  pub fault : has_stim_fault width kind letters ≡ true
  pub none_before : (any : StimKind) → All (λ line. has_stim_fault width any line.1 ≡ false) before
