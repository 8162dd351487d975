use Rattle.std.proofs.Common.{◌≡◌, true, false, ap, ◌∙◌, arith, rules}
use Rattle.std.specs.String.{string_bytes}
use Rattle.std.specs.List.{list_any}
use Rattle.command_words.specs.Written.{is_dashed, is_equals, written}
use Rattle.command_words.proofs.Lists.{first_word, list_any-no_place}
use Rattle.command_words.proofs.Written.{in_front-value}
use Rattle.command_words.proofs.items.first_item.Goals as goal

pub returns-clause-first : goal.returns-clause-first
returns-clause-first c =
    let word = c.as_str-word.result.now in
    let words = first_word string_bytes c.args.words.now c.word-item.result word c.in-len1-up.len_at_least c.word-item.is c.as_str-word.ensures.value in
    let dashed : is_dashed word ≡ true = search rules in
    let plain : list_any is_equals word ≡ false = list_any-no_place is_equals word (c.in_default-split_once.ensures.byte (omega arith) (λ w o h. h)) in
    ap written words ∙ in_front-value word _ dashed plain (search rules) ∙ c.with_value_of.ensures.written
