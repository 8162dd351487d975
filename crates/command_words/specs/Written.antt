-- What is written behind the name of a command: plain words, which are its files and numbers, and options, anywhere among them.
use Rattle.std.specs.Prelude.{ℕ, Bool, ◌==◌, ◌&&◌, not, nat_eq, List, [], ◌∷◌, Option, Some, None, codes, if◌then◌else◌}
use Rattle.std.specs.List.{after_first, before_first, filter_map, list_any, starts_with}
use Rattle.std.specs.Cmp.Lexicographic.{pointwise}
use Rattle.dom_base.specs.Lines.{is_word}

-- a plain word, an option without a value, or an option with its value
pub data Written : Type 0 where
  Plain : (word : List ℕ) → Written
  Flag : (name : List ℕ) → Written
  Valued : (name value : List ℕ) → Written

abbrev pub is_same : List ℕ → List ℕ → Bool
is_same word name = pointwise nat_eq word name

abbrev pub is_dashed : List ℕ → Bool
is_dashed word = starts_with nat_eq word (codes "-")

abbrev pub is_equals : ℕ → Bool
is_equals b = b == 61

-- an option of the form `--name value`: its value is the plain word right behind it
abbrev pub with_value_of : List ℕ → List Written → List Written
with_value_of name [] = Flag name ∷ []
with_value_of name (Plain word ∷ later) = Valued name word ∷ later
with_value_of name (Flag other ∷ later) = Flag name ∷ Flag other ∷ later
with_value_of name (Valued other value ∷ later) = Flag name ∷ Valued other value ∷ later

-- the options that have no value
abbrev pub flag_names : List (List ℕ)
flag_names = codes "--events" ∷ codes "--exact" ∷ codes "--skew" ∷ codes "--compound" ∷ []

-- a word in front of what is written behind it; the value of `--name=value` stands behind the first `=`, and a flag has none
abbrev pub in_front : List ℕ → List Written → List Written
in_front word later =
    if not (is_dashed word) then Plain word ∷ later
    else (if list_any is_equals word then Valued (before_first is_equals word) (after_first is_equals word) ∷ later
    else (if list_any (is_same word) flag_names then Flag word ∷ later else with_value_of word later))

abbrev pub written : List (List ℕ) → List Written
written [] = []
written (word ∷ words) = in_front word (written words)

-- what a command takes, by the names of its options with a value and of those without: no empty word, no other option, no empty value
abbrev pub takes : (valued flags : List (List ℕ)) → Written → Bool
takes valued flags (Plain word) = is_word word
takes valued flags (Flag name) = list_any (is_same name) flags
takes valued flags (Valued name value) = list_any (is_same name) valued && is_word value

-- the plain words, the values that are given to an option, and how often an option without a value is given
abbrev pub plain_in : Written → Option (List ℕ)
plain_in (Plain word) = Some word
plain_in (Flag name) = None
plain_in (Valued name value) = None

abbrev pub value_in : List ℕ → Written → Option (List ℕ)
value_in name (Plain word) = None
value_in name (Flag other) = None
value_in name (Valued other value) = if is_same other name then Some value else None

abbrev pub flag_in : List ℕ → Written → Option (List ℕ)
flag_in name (Plain word) = None
flag_in name (Flag other) = if is_same other name then Some other else None
flag_in name (Valued other value) = None

abbrev pub plain_words : List Written → List (List ℕ)
plain_words words = filter_map plain_in words

abbrev pub values_of : List ℕ → List Written → List (List ℕ)
values_of name words = filter_map (value_in name) words

abbrev pub flags_of : List ℕ → List Written → List (List ℕ)
flags_of name words = filter_map (flag_in name) words
