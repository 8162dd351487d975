use Rattle.std.specs.String.{string_bytes}
use Rattle.command_words.proofs.AskedOnce.{unknown}
use Rattle.command_words.proofs.Lists.{first_word}
use Rattle.command_words.proofs.words.command_of.Goals as goal

pub returns-in_default-as_str-clause-command : goal.returns-in_default-as_str-clause-command
returns-in_default-as_str-clause-command c =
    let words = first_word string_bytes c.args.words.now c.name-item.result c.as_str.result.now c.in-len1-up.len_at_least c.name-item.is c.as_str.ensures.value in
    let other = c.in_default-as_str in
    unknown _ c.as_str.result.now _ words other.not-synth other.not-flat other.not-run other.not-sim other.not-cosim other.not-report other.not-bench other.not-audit
