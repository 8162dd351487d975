-- The sides of the word of a binding.
use Rattle.std.proofs.Common.{◌≡◌, ℕ, ◌+◌, ◌-◌, List, [], length, take, drop, sym, ap, ◌∙◌, arith, Some, None}
use Rattle.std.proofs.lemmas.List.{drop_all, take_all, take_rest}
use Rattle.memchr.specs.Find.{IsFirstByte, is_byte}
use Rattle.blif_ast.specs.Cards.{formal_of, actual_of}
use Rattle.dom_base.proofs.Texts.{place_of_first, place_of_none}

-- what stands before and behind the first `=`
pub formal_at : (word : List ℕ) (place : ℕ) → IsFirstByte (is_byte 61) word (Some place) → take place word ≡ formal_of word
formal_at word place first = ap (λ n. take n word) (sym (place_of_first 61 word place first))

pub actual_at : (word : List ℕ) (place : ℕ) → IsFirstByte (is_byte 61) word (Some place) → take (length word - (place + 1)) (drop (place + 1) word) ≡ actual_of word
actual_at word place first = take_rest word (place + 1) ∙ ap (λ n. drop (n + 1) word) (sym (place_of_first 61 word place first))

pub formal_none : (word : List ℕ) → IsFirstByte (is_byte 61) word None → word ≡ formal_of word
formal_none word none = sym (ap (λ n. take n word) (place_of_none 61 word none) ∙ take_all (length word) word (omega arith))

pub actual_none : (word : List ℕ) → IsFirstByte (is_byte 61) word None → [] ≡ actual_of word
actual_none word none = sym (ap (λ n. drop (n + 1) word) (place_of_none 61 word none) ∙ drop_all (length word + 1) word (omega arith))
