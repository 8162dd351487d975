-- Probe words: names that are read in lower case, and the pieces of a value.
use Rattle.std.proofs.Common.{◌≡◌, ◌≢◌, ◌⊎◌, ◌++◌, inl, inr, ℕ, ◌<◌, ◌≤◌, ◌+◌, ◌-◌, Some, None, true, false, List, [], ◌∷◌, length, map, take, drop, sym, ap, ◌∙◌, subst, arith, rules}
use Rattle.std.specs.Char.{to_ascii_lowercase}
use Rattle.std.specs.Str.{str_to_ascii_lowercase}
use Rattle.std.specs.List.{filter_map, list_all, position_or_len, slice_split}
use Rattle.std.specs.Option.{option_to_list}
use Rattle.std.proofs.lemmas.List.{append_assoc, take_rest}
use Rattle.std.proofs.lemmas.List.Elements.{All-map}
use Rattle.std.proofs.lemmas.List.Splits.{slice_split_first}
use Rattle.std.proofs.lemmas.Str.Ascii.{lowercase_is}
use Rattle.memchr.specs.Find.{IsFirstByte, is_byte}
use Rattle.dom_base.specs.Lines.{is_word}
use Rattle.dom_base.specs.Names.{IsNetByte, IsNetName}
use Rattle.dom_base.proofs.Bools.{and_both}
use Rattle.dom_base.proofs.Decided.{lt_or_ge}
use Rattle.dom_base.proofs.Lists.{All-from_test, cons_option-list}
use Rattle.dom_base.proofs.Texts.{place_of_first, place_of_none}
use Rattle.command_words.specs.ProbeWords.{is_comma, is_probe_name, is_visible, probe_word}
use Rattle.trace_tool.specs.declared.options.ProbeWord.{ProbeWord}
use Rattle.command_words.proofs.Lists.{slice_split-no_place}

visible : (b : ℕ) → is_visible b ≡ true → (32 < b) × (b ≢ 127)
visible b e = search rules

-- a visible byte in lower case may stand in the name of a net
lower_byte : (b : ℕ) → (32 < b) × (b ≢ 127) → IsNetByte (to_ascii_lowercase b)
lower_byte b h = by (lt_or_ge b 65) (lt_or_ge 90 b)
  where
    by : (b < 65) ⊎ (65 ≤ b) → (90 < b) ⊎ (b ≤ 90) → IsNetByte (to_ascii_lowercase b)
    by (inl low) right = subst IsNetByte (sym ((lowercase_is b).1 low)) (h.0, h.1, inl low)
    by (inr high) (inl above) = subst IsNetByte (sym ((lowercase_is b).2 above)) (h.0, h.1, inr above)
    by (inr high) (inr within) =
        let lower = (lowercase_is b).0 (high, within) in
        subst IsNetByte (sym lower) (omega (arith, high), (λ e. omega (arith, e, within)), inr (omega (arith, high)))

no_empty : (name : List ℕ) → is_word name ≡ true → map to_ascii_lowercase name ≢ []
no_empty [] e = absurd (let never : false ≡ true = e in cc)
no_empty (b ∷ bs) e = λ empty. absurd (let never : length (map to_ascii_lowercase (b ∷ bs)) ≡ 0 = ap length empty in omega (arith, never))

-- the name of a probe word in lower case is that of a net
pub probe_name_lower : (name : List ℕ) → is_probe_name name ≡ true → IsNetName (str_to_ascii_lowercase name)
probe_name_lower name e =
    let parts = and_both (is_word name) (list_all is_visible name) e in
    record {
      some = no_empty name parts.0;
      good = All-map IsNetByte to_ascii_lowercase name
          (All-from_test (λ b. IsNetByte (to_ascii_lowercase b)) is_visible (λ b is. lower_byte b (visible b is)) name parts.1);
    }

-- a value is cut at its first comma
pub cut_at : (value : List ℕ) (at : ℕ) → IsFirstByte (is_byte 44) value (Some at)
    → slice_split is_comma value ≡ take at value ∷ slice_split is_comma (take (length value - (at + 1)) (drop (at + 1) value))
cut_at value at first =
    let place = place_of_first 44 value at first in
    let inside : position_or_len is_comma value < length value = omega (arith, place, first.0.high) in
    rw take_rest (slice_split_first is_comma value 0 inside ∙ ap (λ n. take n value ∷ slice_split is_comma (drop (n + 1) value)) place)

pub no_comma : (value : List ℕ) → IsFirstByte (is_byte 44) value None → slice_split is_comma value ≡ value ∷ []
no_comma value none = slice_split-no_place is_comma value (place_of_none 44 value none)

-- the probe words of a value, by its first piece
pub first_probe : (all : List (List ℕ)) (word : List ℕ) (found before now : List ProbeWord) (rest : List (List ℕ))
    → all ≡ word ∷ rest → found ≡ before ++ filter_map probe_word all → now ≡ before ++ option_to_list (probe_word word)
    → found ≡ now ++ filter_map probe_word rest
first_probe all word found before now rest cut is more =
    is ∙ ap (λ (ws : List (List ℕ)). before ++ filter_map probe_word ws) cut
    ∙ ap (λ (ps : List ProbeWord). before ++ ps) (cons_option-list (probe_word word) (filter_map probe_word rest))
    ∙ sym (append_assoc before (option_to_list (probe_word word)) (filter_map probe_word rest))
    ∙ ap (λ (ps : List ProbeWord). ps ++ filter_map probe_word rest) (sym more)
