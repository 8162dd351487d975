use Rattle.std.proofs.Common.{◌∙◌, ap, sym, nat_eq, codes}
use Rattle.std.specs.Cmp.Lexicographic.{pointwise}
use Rattle.std.specs.Str.{str_to_ascii_lowercase}
use Rattle.spice_read.proofs.LowerCase.{front-lower, no_end}
use Rattle.spice_read.proofs.lines.is_end.Goals as goal

pub returns-then-not-begins_dotted : goal.returns-then-not-begins_dotted
returns-then-not-begins_dotted c = sym (no_end c.args.line.now c.requires (sym c.begins_dotted.ensures ∙ c.if-not-begins_dotted.true))

pub returns : goal.returns
returns c = c.same_letters.ensures ∙ ap (λ w. pointwise nat_eq w (codes ".end")) (ap str_to_ascii_lowercase c.front_word.ensures ∙ sym (front-lower c.args.line.now c.requires))
